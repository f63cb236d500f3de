-- Where a page of the cache stands, and which path is a page's (Adobe Dispatcher manual, "Specifying the Cache Directory").
use Rattle.std.specs.Prelude.{◌≡◌, ◌==◌, ◌&&◌, ◌++◌, ◌-◌, ℕ, Bool, IsTrue, not, if◌then◌else◌, List, Option, Some, None, length, slice_index}
use Rattle.std.specs.List.{AllByRecursion, list_any, list_all}
use Rattle.sp_base.specs.Texts.{Segments}
use Rattle.sp_base.specs.Bytes.{AreBytes}
use Rattle.sp_base.specs.Paths.{is_path, mangled_segs, name_of, parent_of, pieces, text_of}
use Rattle.cover_rules.specs.declared.page.PageKey.{PageKey}
use Rattle.cover_rules.specs.Names.{has_file_name}

-- a `.` stands in the segment
abbrev pub has_dot : List ℕ → Bool
has_dot seg = list_any (λ b. b == 46) seg

-- a segment with a dot that neither begins nor ends with one
abbrev pub is_file : List ℕ → Bool
is_file seg = has_dot seg && (not (slice_index seg 0 == 46) && not (slice_index seg (length seg - 1) == 46))

-- a segment that the folder of a page may have: one with a file name and without a dot
abbrev pub is_folder_segment : List ℕ → Bool
is_folder_segment seg = has_file_name seg && not (has_dot seg)

-- a mangled path at which a page may be: a file in folders without a dot, each with a file name
abbrev pub is_page : Segments → Bool
is_page segs = is_file (name_of segs) && (list_all (λ seg. not (has_dot seg)) (parent_of segs) && list_all has_file_name segs)

-- the key of the page at a mangled path
unfoldable pub key_at : Segments → Option PageKey
key_at segs = if is_page segs then Some (record { folder = parent_of segs; file = name_of segs }) else None

-- the key of the page at a path, however its segments are spelled
abbrev pub page_key_of : Segments → Option PageKey
page_key_of path = key_at (mangled_segs path)

-- the path of a page: its file in its folder
abbrev pub page_path : PageKey → Segments
page_path key = key.folder ++ pieces key.file

-- the text of a page's path
abbrev pub page_text : PageKey → List ℕ
page_text key = text_of (page_path key)

-- The key of a page, as each answer of `page_key` is: the one of its own path, whose folder is a path, and whose segments have bytes.
pub record IsPageKey (key : PageKey) : Type 0 where
  pub own : page_key_of (page_path key) ≡ Some key
  pub folder : IsTrue (is_path key.folder)
  pub folder_bytes : AllByRecursion AreBytes key.folder
  pub file_bytes : AreBytes key.file

-- each segment of the page's folder is one that the folder of a page may have
abbrev pub HasFolderSegments : PageKey → Type 0
HasFolderSegments key = IsTrue (list_all is_folder_segment key.folder)
