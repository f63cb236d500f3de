-- By which names the files of the pages are told that an invalidation deletes (Adobe Dispatcher manual, "Invalidating Cached Pages From AEM").
use Rattle.std.specs.Prelude.{◌≡◌, ◌⊎◌, ◌++◌, ◌∷◌, [], Bool, IsTrue, List, codes, if◌then◌else◌, true, ◌↔◌}
use Rattle.std.specs.List.{list_any}
use Rattle.sp_base.specs.Paths.{name_of, parent_of}
use Rattle.sp_base.specs.Texts.{Segments, Text}
use Rattle.sp_outside.specs.Files.{has_prefix}
use Rattle.cover_rules.specs.declared.invalidation.Invalidation.{Invalidation}
use Rattle.cover_rules.specs.declared.page.PageKey.{PageKey}
use Rattle.cover_rules.specs.Coverage.{handle_of, takes_below, deletes}
use Rattle.cover_rules.specs.Pages.{page_path}
use Rattle.docroot_format.specs.Names.{body_name, folder_name, head_name}

-- what the files of a handle's renderings begin with: the name of a body at the handle, and a dot; the root has no renderings
abbrev pub rendering_prefixes : Segments → List Text
rendering_prefixes [] = []
rendering_prefixes (seg ∷ segs) = (body_name (parent_of (seg ∷ segs)) (name_of (seg ∷ segs)) ++ codes ".") ∷ []

-- the folder below which each page is deleted: the handle, or that of its content where the action leaves what is below the handle
abbrev pub deleted_folder : Invalidation → Segments
deleted_folder inv = if takes_below inv.action then handle_of inv else handle_of inv ++ codes "_jcr_content" ∷ []

-- what the names of the files begin with that an invalidation deletes, but for the page at exactly its handle
abbrev pub deleted_prefixes : Invalidation → List Text
deleted_prefixes inv = rendering_prefixes (handle_of inv) ++ folder_name (deleted_folder inv) ∷ []

-- the name begins with one of the prefixes
abbrev pub begins_with_any : List Text → Text → Bool
begins_with_any prefixes name = list_any (λ prefix. has_prefix prefix name) prefixes

-- the page is the one at exactly the handle, or this name of one of its files begins with one of the prefixes
abbrev pub IsDeletedByName : Invalidation → PageKey → Text → Type 0
IsDeletedByName inv key name = (page_path key ≡ handle_of inv) ⊎ IsTrue (begins_with_any (deleted_prefixes inv) name)

-- an invalidation deletes a page exactly where by the name of its body it does
abbrev pub IsDeletedByBody : Invalidation → PageKey → Type 0
IsDeletedByBody inv key = (deletes inv key ≡ true) ↔ IsDeletedByName inv key (body_name key.folder key.file)

-- and exactly where by the name of its head it does
abbrev pub IsDeletedByHead : Invalidation → PageKey → Type 0
IsDeletedByHead inv key = (deletes inv key ≡ true) ↔ IsDeletedByName inv key (head_name key.folder key.file)
