-- The names of the files of the docroot.
use Rattle.std.specs.Prelude.{◌≡◌, ◌==◌, ◌||◌, ◌&&◌, ◌++◌, ◌∷◌, [], ℕ, Bool, IsTrue, not, List, codes, flat_map, length, nat_eq, nat_lt, slice_index, Contains}
use Rattle.std.specs.Cmp.Lexicographic.{pointwise}
use Rattle.std.specs.List.{list_all, AllByRecursion}
use Rattle.sp_base.specs.Paths.{mangled_segs, name_of, pieces}
use Rattle.sp_base.specs.Texts.{Segments, Text}
use Rattle.sp_base.specs.Bytes.{AreBytes}
use Rattle.sp_outside.specs.FileNames.{has_segments, is_inside}
use Rattle.cover_rules.specs.Names.{file_name, has_file_name, is_plain_name_byte}
use Rattle.cover_rules.specs.declared.invalidation.Invalidation.{Invalidation}
use Rattle.cover_rules.specs.Coverage.{touched_of}

-- The names of pages and stamps are of mangled segments, spelled as in URLs, so what lies below `jcr:content` stands below `_jcr_content`.
-- The folder and the file of a key are mangled already; a folder that gets a stamp is mangled here.

-- the file names of mangled segments, a slash after each
abbrev pub folder_name : Segments → List ℕ
folder_name segs = flat_map (λ seg. file_name seg ++ 47 ∷ []) segs

-- where a page's body stands
abbrev pub body_name : Segments → List ℕ → List ℕ
body_name folder file = folder_name folder ++ file_name file

-- where a page's head stands
abbrev pub head_name : Segments → List ℕ → List ℕ
head_name folder file = body_name folder file ++ codes "%h"

-- where a folder's stamp stands
abbrev pub stat_name : Segments → List ℕ
stat_name folder = folder_name (mangled_segs folder) ++ codes ".stat"

-- each of the mangled segments has a file name
abbrev pub have_names : Segments → Bool
have_names segs = list_all has_file_name segs

-- a folder of the docroot: a mangled path whose segments have file names
abbrev pub IsFolder : Segments → Type 0
IsFolder folder = (mangled_segs folder ≡ folder) × IsTrue (have_names folder)

-- a folder and a file in which a page may stand
abbrev pub is_place : Segments → List ℕ → Bool
is_place folder file = have_names folder && (has_file_name file && nat_lt 0 (length file))

-- where the number of the session stands
abbrev pub epoch_name : List ℕ
epoch_name = codes ".epoch"

-- a byte of a file's name
abbrev pub is_file_name_byte : ℕ → Bool
is_file_name_byte b = is_plain_name_byte b || b == 37

-- a byte of a name: one of a file's name, or the slash between two
abbrev pub is_docroot_name_byte : ℕ → Bool
is_docroot_name_byte b = is_file_name_byte b || b == 47

-- A name that lies in the docroot: one that leads nowhere out of a disk's folder, of these bytes alone.
abbrev pub is_docroot_name : Text → Bool
is_docroot_name name = is_inside name && list_all is_docroot_name_byte name

-- a page file, of a body or a head: a name of segments of which the last doesn't begin with a dot
abbrev pub is_page_file : List ℕ → Bool
is_page_file name = has_segments name && not (slice_index (name_of (pieces name)) 0 == 46)

-- a .stat file: a name of segments of which the last is `.stat`
abbrev pub is_stat_file : List ℕ → Bool
is_stat_file name = has_segments name && pointwise nat_eq (name_of (pieces name)) (codes ".stat")

-- each segment has bytes
abbrev pub HaveBytes : Segments → Type 0
HaveBytes segs = AllByRecursion AreBytes segs

-- the invalidation touches the .stat file of the folder
abbrev pub IsTouchedBy : ℕ → Invalidation → Segments → Type 0
IsTouchedBy level inv folder = Contains (touched_of level inv) folder
