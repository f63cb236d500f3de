-- The files of a disk, a finite map from names to bytes, and what its calls make of them.
use Rattle.std.specs.Prelude.{◌≡◌, ◌⊎◌, ◌≤◌, ◌+◌, ◌∷◌, ◌&&◌, ℕ, Bool, List, Option, Contains, IsTrue, IsUtf8, nat_eq, length, option_map}
use Rattle.std.specs.Coded.{Coded, coded_ℕ, coded_list}
use Rattle.std.specs.FinMap.{FinMap, get, insert, remove, keys, code}
use Rattle.std.specs.List.{filter, starts_with, All}
use Rattle.std.specs.List.Sorted.{IsStrictlySortedBy}
use Rattle.std.specs.Ordering.{is_lt}
use Rattle.sp_base.specs.Texts.{Text}
use Rattle.sp_base.specs.Names.{by_name}
use Rattle.sp_outside.specs.declared.disk.DiskFault.{DiskFault}
use Rattle.sp_outside.specs.declared.disk.DiskFault.TheVariants.{Failed}

-- files by their names
abbrev pub Files : Type 0
Files = FinMap by_name (List ℕ)

-- the code of files, of which that of a type that holds them is made
abbrev pub files_code : Coded Files
files_code = code (coded_list coded_ℕ) (coded_list coded_ℕ)

-- the most bytes of a file's name
abbrev pub longest_file_name : ℕ
longest_file_name = 16384

-- a file's name has 1 to `longest_file_name` bytes
abbrev pub IsName : List ℕ → Type 0
IsName name = (1 ≤ length name) × (length name ≤ longest_file_name)

-- the bytes of the file of a name, where there is one
abbrev pub file_at : Files → List ℕ → Option (List ℕ)
file_at files name = get files name

-- the files with this one, in place of one of its name
abbrev pub with_file : Files → List ℕ → List ℕ → Files
with_file files name bytes = insert files name bytes

-- the files but for the one of this name
abbrev pub without_file : Files → List ℕ → Files
without_file files name = remove files name

-- the same, where the disk tells its files
abbrev pub told_with : Option Files → List ℕ → List ℕ → Option Files
told_with told name bytes = option_map (λ files. with_file files name bytes) told

-- the files without this one, where the disk tells its files
abbrev pub told_without : Option Files → List ℕ → Option Files
told_without told name = option_map (λ files. without_file files name) told

-- A call that was to make the files `wanted` left them as they were; or it failed after the change was made whole.
abbrev pub IsOldOrNew : Option Files → Option Files → Option Files → DiskFault → Type 0
IsOldOrNew old wanted new fault = (new ≡ old) ⊎ ((fault ≡ Failed) × (new ≡ wanted))

-- the name begins with the prefix
abbrev pub has_prefix : List ℕ → List ℕ → Bool
has_prefix prefix name = starts_with nat_eq name prefix

-- those of some names that begin with a prefix and are after a name
abbrev pub names_from : List Text → List ℕ → List ℕ → List Text
names_from names prefix after = filter (λ name. has_prefix prefix name && is_lt (by_name after name)) names

-- the names of files that begin with a prefix and are after a name, in their order
abbrev pub names_after : Files → List ℕ → List ℕ → List Text
names_after files prefix after = names_from (keys files) prefix after

-- What a list of names after another is, on every disk: they are texts in UTF-8, and rise from that name on.
pub record IsListing (prefix after : List ℕ) (most : ℕ) (names : List Text) : Type 0 where
  pub rising : IsStrictlySortedBy by_name (after ∷ names)
  pub prefixed : All (λ name. IsTrue (has_prefix prefix name)) names
  pub sizes : All IsName names
  pub texts : All IsUtf8 names
  pub few : length names ≤ most

-- A walk over the names of a prefix without an end: each list is after one of the names of the list before.
pub record IsEndlessWalk (prefix : List ℕ) (most : ℕ) (after : ℕ → List ℕ) (lists : ℕ → List Text) : Type 0 where
  pub listed : (n : ℕ) → IsListing prefix (after n) most (lists n)
  pub goes_on : (n : ℕ) → Contains (lists n) (after (n + 1))
