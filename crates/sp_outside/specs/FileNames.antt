-- Which names may have a file below the folder of a disk, and how many may follow a name.
use Rattle.std.specs.Prelude.{◌≡◌, ◌≢◌, ◌<◌, ◌⊎◌, ◌==◌, ◌&&◌, ◌+◌, ◌-◌, ◌*◌, ℕ, zero, suc, Bool, not, List, [], ◌∷◌, None, Contains, IsTrue, codes, length, nat_eq, IsUtf8, ◌≤◌, take}
use Rattle.std.specs.List.{ends_with, list_all, list_any}
use Rattle.std.specs.declared.cmp.Ordering.TheVariants.{Less}
use Rattle.sp_base.specs.Names.{by_name}
use Rattle.sp_base.specs.Paths.{is_dots, is_empty, pieces}
use Rattle.sp_base.specs.Texts.{Text}
use Rattle.sp_outside.specs.Files.{Files, file_at, has_prefix, longest_file_name, IsListing, names_after}

-- what the name of a file ends in that a disk writes beside another
abbrev pub beside_ending : Text
beside_ending = codes "%t"

-- the name is that of a file beside another
abbrev pub is_beside : Text → Bool
is_beside name = ends_with nat_eq name beside_ending

-- a piece of a name between slashes that leads into a folder, and not out of it: it isn't empty, `.` or `..`
abbrev pub is_inner : Text → Bool
is_inner piece = not (is_empty piece) && not (is_dots piece)

-- A name whose pieces all lead into folders, so that it neither begins nor ends with a slash.
abbrev pub has_segments : Text → Bool
has_segments name = list_all is_inner (pieces name)

-- a byte 0 stands in the name
abbrev pub has_nul : Text → Bool
has_nul name = list_any (λ b. b == 0) name

-- A name that leads to a place below the folder: nowhere out of it, and it has no NUL.
abbrev pub is_below : Text → Bool
is_below name = not (has_nul name) && has_segments name

-- A name that may have a file of the disk: it leads to a place below the folder, and isn't that of a file beside another.
abbrev pub is_inside : Text → Bool
is_inside name = not (is_beside name) && is_below name

-- what the names of the files end in that a folder keeps for itself; since no name of a file of the disk ends as one beside another does, none beside one ends so
abbrev pub own_ending : Text
own_ending = codes "%t%t"

-- the name is that of a file which the folder keeps for itself
abbrev pub is_own : Text → Bool
is_own name = ends_with nat_eq name own_ending

-- the name is that of a file beside one of the disk, which a process left that was killed
abbrev pub is_left : Text → Bool
is_left name = is_beside name && (not (is_own name) && is_below name)

-- a file has this name, which begins with the prefix and is after the other
abbrev pub IsNameAfter : Files → Text → Text → Text → Type 0
IsNameAfter files prefix after name = IsTrue (has_prefix prefix name) × (by_name after name ≡ Less) × (file_at files name ≢ None)

-- a list for at most so many names came to this one: a name of the list isn't before it, or there was room for more
abbrev pub HasReached : List Text → ℕ → Text → Type 0
HasReached names most name = ((listed : Text) × Contains names listed × (by_name listed name ≢ Less)) ⊎ (length names < most)

-- the number of a name of at most so many bytes: its digits, after those of a number, are its bytes, each one higher, and 0 after its end
unfoldable pub name_number : ℕ → ℕ → Text → ℕ
name_number zero before name = before
name_number (suc n) before [] = name_number n (before * 257) []
name_number (suc n) before (b ∷ name) = name_number n (before * 257 + (b + 1)) name

-- how many numbers of names are left from this one's on, below the first that no name has
abbrev pub names_left : Text → ℕ
names_left name = name_number longest_file_name 1 [] - name_number longest_file_name 0 name

-- of a name that is listed after another, fewer names are left than of that one
abbrev pub ListedNamesHaveFewerLeft : Type 0
ListedNamesHaveFewerLeft = (prefix after name : Text) (most : ℕ) (names : List Text) → IsUtf8 after → length after ≤ longest_file_name → IsListing prefix after most names
    → Contains names name → names_left name < names_left after

-- a list leaves out no name that it came to
abbrev pub ListsHoldWhatTheyReached : Type 0
ListsHoldWhatTheyReached = (files : Files) (prefix after name : Text) (most : ℕ) (names : List Text) → names ≡ take most (names_after files prefix after)
    → IsNameAfter files prefix after name → HasReached names most name → Contains names name
