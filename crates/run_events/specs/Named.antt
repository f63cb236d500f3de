-- What notes may name: the page at a path, and the handle of an invalidation (Adobe Dispatcher manual, "Invalidating Cached Pages From
-- AEM").
use Rattle.std.specs.Prelude.{◌≡◌, IsTrue, Option, Some, None}
use Rattle.sp_base.specs.Texts.{Segments}
use Rattle.sp_base.specs.Paths.{is_path, unmangled_segs}
use Rattle.cover_rules.specs.Pages.{page_key_of}
use Rattle.cover_rules.specs.declared.page.PageKey.{PageKey}

-- a key is that of the page at some path
abbrev pub IsPage : Option PageKey → Type 0
IsPage None = Unit {0}
IsPage (Some key) = (path : Segments) × IsTrue (is_path path) × (page_key_of path ≡ Some key)

-- the handle is that of a request: a path with its namespace prefixes as they stand in the repository
abbrev pub IsHandle : Segments → Type 0
IsHandle handle = (path : Segments) × IsTrue (is_path path) × (handle ≡ unmangled_segs path)
