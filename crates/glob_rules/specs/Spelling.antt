-- Which texts spell which glob (POSIX shell, "Pattern Matching Notation"; Apache HTTP Server's fnmatch): a relation between lists of characters and globs.
use Rattle.std.specs.Prelude.{◌≡◌, ℕ, Bool, true, false, ◌||◌, ◌==◌, List, [], ◌∷◌, ◌++◌, length, encode_utf8_all}
use Rattle.std.specs.Str.{NonePass}
use Rattle.glob_rules.specs.declared.fault.GlobFault.{GlobFault}
use Rattle.glob_rules.specs.declared.fault.GlobFault.TheVariants.{OpenClass, NoMemory}
use Rattle.glob_rules.specs.declared.piece.GlobRange.{GlobRange}
use Rattle.glob_rules.specs.declared.piece.GlobClass.{GlobClass}
use Rattle.glob_rules.specs.declared.piece.GlobPiece.{GlobPiece}
use Rattle.glob_rules.specs.declared.piece.GlobPiece.TheVariants.{Star, AnyChar, Literal, Class}
use Rattle.glob_rules.specs.Reading.{is_close, is_negation, glob_range}

-- `*`, `?` and `[` don't stand for themselves
abbrev pub is_glob_special : ℕ → Bool
is_glob_special c = c == 42 || (c == 63 || c == 91)

-- `-` and a character after it
abbrev pub GoesOnAsRange : List ℕ → Type 0
GoesOnAsRange cs = (last : ℕ) × (more : List ℕ) × (cs ≡ 45 ∷ last ∷ more)

-- Characters spell ranges: `a-z` is one range, and a character with which no range begins is a range of its own.
pub data AreGlobRanges : List ℕ → List GlobRange → Type 0 where
  none : AreGlobRanges [] []
  two_ends : {first last : ℕ} {cs : List ℕ} {ranges : List GlobRange} → AreGlobRanges cs ranges → AreGlobRanges (first ∷ 45 ∷ last ∷ cs) (glob_range first last ∷ ranges)
  alone : {c : ℕ} {cs : List ℕ} {ranges : List GlobRange} → (GoesOnAsRange cs → ⊥) → AreGlobRanges cs ranges → AreGlobRanges (c ∷ cs) (glob_range c c ∷ ranges)

-- What stands between `[` and `]` spells a class: with `!` or `^` before the ranges it is that of all other characters.
pub data IsGlobClass : List ℕ → GlobClass → Type 0 where
  others : {c : ℕ} {cs : List ℕ} {ranges : List GlobRange} → is_negation c ≡ true → AreGlobRanges cs ranges → IsGlobClass (c ∷ cs) (record { negated = true; ranges = ranges })
  these : {cs : List ℕ} {ranges : List GlobRange} → ((c : ℕ) (more : List ℕ) → cs ≡ c ∷ more → is_negation c ≡ false) → AreGlobRanges cs ranges → IsGlobClass cs (record { negated = false; ranges = ranges })

-- The characters of a text spell a glob, piece after piece. No `]` stands within a class.
pub data SpellsGlob : List ℕ → List GlobPiece → Type 0 where
  nothing : SpellsGlob [] []
  star : {cs : List ℕ} {pieces : List GlobPiece} → SpellsGlob cs pieces → SpellsGlob (42 ∷ cs) (Star ∷ pieces)
  any : {cs : List ℕ} {pieces : List GlobPiece} → SpellsGlob cs pieces → SpellsGlob (63 ∷ cs) (AnyChar ∷ pieces)
  literal : {c : ℕ} {cs : List ℕ} {pieces : List GlobPiece} → is_glob_special c ≡ false → SpellsGlob cs pieces → SpellsGlob (c ∷ cs) (Literal c ∷ pieces)
  class : {cs : List ℕ} {pieces : List GlobPiece} (inside rest : List ℕ) (class : GlobClass) → NonePass is_close inside → IsGlobClass inside class → cs ≡ inside ++ 93 ∷ rest → SpellsGlob rest pieces
      → SpellsGlob (91 ∷ cs) (Class class ∷ pieces)

-- a glob, and then a `[` that no `]` closes, at this place: the number of bytes before it
pub record IsOpen (place : ℕ) (cs : List ℕ) : Type 0 where
  pub prefix : List ℕ
  pub glob : List GlobPiece
  pub inside : List ℕ
  pub parts : cs ≡ prefix ++ 91 ∷ inside
  pub spelled : SpellsGlob prefix glob
  pub none : NonePass is_close inside
  pub here : place ≡ length (encode_utf8_all prefix)

-- the characters spell no glob, since a class is open at this place
abbrev pub IsGlobFault : GlobFault → List ℕ → Type 0
IsGlobFault NoMemory cs = Unit {0}
IsGlobFault (OpenClass place) cs = IsOpen place cs × ((glob : List GlobPiece) → SpellsGlob cs glob → ⊥)
