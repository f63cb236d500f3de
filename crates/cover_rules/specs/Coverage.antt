-- Which pages an invalidation covers (Adobe Dispatcher manual, "Invalidating Cached Pages From AEM" and "Invalidating Files by Folder Level"): those that it deletes, and those that a .stat file which it touches outdates.
use Rattle.std.specs.Prelude.{◌==◌, ◌&&◌, ◌||◌, ◌++◌, ℕ, Bool, true, false, not, nat_eq, min, if◌then◌else◌, List, [], ◌∷◌, codes, take, length, map, ◌≡◌, Contains}
use Rattle.std.specs.List.{starts_with, take_while}
use Rattle.std.specs.Cmp.Lexicographic.{pointwise}
use Rattle.sp_base.specs.Texts.{Segments}
use Rattle.sp_base.specs.Paths.{mangled_segs, is_under, parent_of, text_of}
use Rattle.cover_rules.specs.declared.page.PageKey.{PageKey}
use Rattle.cover_rules.specs.declared.invalidation.Action.{Action}
use Rattle.cover_rules.specs.declared.invalidation.Action.TheVariants.{Activate, Deactivate, Delete}
use Rattle.cover_rules.specs.declared.invalidation.Invalidation.{Invalidation}
use Rattle.cover_rules.specs.Pages.{is_folder_segment, page_path, page_text}

-- the handle as URLs spell it
abbrev pub handle_of : Invalidation → Segments
handle_of inv = mangled_segs inv.handle

-- the page at exactly the handle
abbrev pub is_handle : Segments → PageKey → Bool
is_handle handle key = pointwise (pointwise nat_eq) (page_path key) handle

-- a page of the handle's name, with an extension, and maybe selectors before it: `/content/en.print.html` for `/content/en`
abbrev pub is_rendering : Segments → PageKey → Bool
is_rendering handle key = not (length handle == 0) && starts_with nat_eq (page_text key) (text_of handle ++ codes ".")

-- a page of a part of the handle's content
abbrev pub is_part_page : Segments → PageKey → Bool
is_part_page handle key = is_under key.folder (handle ++ codes "_jcr_content" ∷ [])

-- these actions take away what is below the handle
abbrev pub takes_below : Action → Bool
takes_below Activate = false
takes_below Deactivate = true
takes_below Delete = true

-- the invalidation deletes the page
abbrev pub deletes : Invalidation → PageKey → Bool
deletes inv key = is_handle (handle_of inv) key || (is_rendering (handle_of inv) key || (is_part_page (handle_of inv) key || takes_below inv.action && is_under (page_path key) (handle_of inv)))

-- how deep the folder is whose .stat file a page is asked by: the page's folder, or its ancestor at the level
abbrev pub stat_depth_of : ℕ → PageKey → ℕ
stat_depth_of level key = min level (length key.folder)

-- the folder whose .stat file outdates the page
abbrev pub stat_folder : ℕ → PageKey → Segments
stat_folder level key = take (stat_depth_of level key) key.folder

-- the invalidation outdates the page by a .stat file, if the page is one that .stat files outdate
abbrev pub outdates : ℕ → Bool → Invalidation → PageKey → Bool
outdates level auto inv key = not inv.only && (auto && is_under (parent_of (handle_of inv)) (stat_folder level key))

-- the invalidation covers the page: it deletes or outdates it
abbrev pub covers : ℕ → Bool → Invalidation → PageKey → Bool
covers level auto inv key = deletes inv key || outdates level auto inv key

-- a path's ancestors from the root down, and the path
abbrev pub lineage : Segments → List Segments
lineage [] = [] ∷ []
lineage (seg ∷ segs) = [] ∷ map (λ path. seg ∷ path) (lineage segs)

-- The folders whose .stat files are touched: those above the handle, from the document root down to the level, as far as pages can lie
-- in them: below a segment with a dot, or without a file name, there is none. (Where it has a dot a page may stand in its place.)
abbrev pub touched_of : ℕ → Invalidation → List Segments
touched_of level inv = if inv.only then [] else lineage (take_while is_folder_segment (take level (parent_of (handle_of inv))))

-- an invalidation covers the same pages where its handle is spelled otherwise
abbrev pub KeepsCoverage : (Segments → Segments) → Type 0
KeepsCoverage spelled = (level : ℕ) (auto only : Bool) (action : Action) (handle : Segments) (key : PageKey)
    → covers level auto (record { action = action; handle = spelled handle; only = only }) key ≡ covers level auto (record { action = action; handle = handle; only = only }) key

-- the .stat file that the page is asked by is among those that the invalidation touches
abbrev pub TouchesStat : ℕ → Invalidation → PageKey → Type 0
TouchesStat level inv key = Contains (touched_of level inv) (stat_folder level key)

-- that .stat file stands above the handle, as far down as its folder goes
abbrev pub HasStatAboveHandle : ℕ → Invalidation → PageKey → Type 0
HasStatAboveHandle level inv key = (n : ℕ) × (stat_folder level key ≡ take n (parent_of (handle_of inv)))
