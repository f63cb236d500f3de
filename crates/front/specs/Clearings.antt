-- How the files of a cache are cleared away before a front's first step. (Of the theorem's reader this file is no concern.)
use Rattle.std.specs.Prelude.{◌≡◌, ◌≢◌, ◌⊎◌, ◌<◌, ◌≤◌, ◌||◌, Bool, List, Option, Some, None, Contains, IsTrue, length}
use Rattle.std.specs.declared.cmp.Ordering.TheVariants.{Less}
use Rattle.sp_base.specs.Names.{by_name}
use Rattle.sp_base.specs.Texts.{Text}
use Rattle.sp_outside.specs.FileNames.{names_left}
use Rattle.sp_outside.specs.Files.{Files, file_at, longest_file_name}
use Rattle.docroot_format.specs.Names.{is_page_file, is_stat_file}
use Rattle.coherence_core.specs.Holds.{files_counted}
use Rattle.front.specs.declared.clearing.CacheFile.{CacheFile}
use Rattle.front.specs.declared.clearing.CacheFile.TheVariants.{Page, Stamp}

-- the name is that of a file of this kind
abbrev pub is_of_cache : CacheFile → Text → Bool
is_of_cache Page name = is_page_file name
is_of_cache Stamp name = is_stat_file name

-- the name is that of a page file or of a .stat file
abbrev pub is_page_or_stamp : Text → Bool
is_page_or_stamp name = is_page_file name || is_stat_file name

-- each file is as it was, or has a name that passes the test, and is gone; and there are no more files
pub record ClearsFiles (is_gone : Text → Bool) (old new : Files) : Type 0 where
  pub each : (name : Text) → (file_at new name ≡ file_at old name) ⊎ (IsTrue (is_gone name) × (file_at new name ≡ None))
  pub fewer : files_counted new ≤ files_counted old

-- The order of a clearing: each .stat file is as it was, or no page file is there. So no page is left without the .stat file that outdated it.
abbrev pub ClearsPagesFirst : Files → Files → Type 0
ClearsPagesFirst old new = ((name : Text) → IsTrue (is_stat_file name) → file_at new name ≡ file_at old name) ⊎ ((name : Text) → IsTrue (is_page_file name) → file_at new name ≡ None)

-- no file of this kind is there
abbrev pub HasNoFile : CacheFile → Files → Type 0
HasNoFile cache_file files = (name : Text) → IsTrue (is_of_cache cache_file name) → file_at files name ≡ None

-- the files of this kind are gone whose names aren't after this one
abbrev pub HasNoneUpTo : CacheFile → Text → Files → Type 0
HasNoneUpTo cache_file last files = (name : Text) → IsTrue (is_of_cache cache_file name) → by_name last name ≢ Less → file_at files name ≡ None

-- those of this kind are gone that are among these names
abbrev pub HasNoneAmong : CacheFile → List Text → Files → Type 0
HasNoneAmong cache_file names files = (name : Text) → Contains names name → IsTrue (is_of_cache cache_file name) → file_at files name ≡ None

-- the name isn't after that of which the names after it are left, if any are
abbrev pub IsClearedTo : Option Text → Text → Type 0
IsClearedTo None name = Unit {0}
IsClearedTo (Some next) name = by_name next name ≢ Less

-- the files of this kind are gone that are after this name, up to the next one, or to the end
abbrev pub HasNoneBetween : CacheFile → Text → Option Text → Files → Type 0
HasNoneBetween cache_file last next files = (name : Text) → IsTrue (is_of_cache cache_file name) → by_name last name ≡ Less → IsClearedTo next name → file_at files name ≡ None

-- the walk comes nearer to its end with this name
pub record IsNearer (last next : Text) : Type 0 where
  pub fits : length next ≤ longest_file_name
  pub fewer : names_left next < names_left last
