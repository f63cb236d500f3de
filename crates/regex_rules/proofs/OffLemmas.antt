-- Marks that are off, and what is noted of them.
use Rattle.std.proofs.Common.{◌≡◌, ℕ, zero, suc, Bool, false, ◌||◌, List, [], ◌∷◌, ◌++◌, refl}
use Rattle.std.proofs.lemmas.Bool.{or_parts}
use Rattle.std.specs.Prelude.{replicate, set}
use Rattle.regex_rules.specs.Off.{AreOff}

pub off_replicate : (number : ℕ) → AreOff (replicate number false)
off_replicate zero = tt
off_replicate (suc number) = (refl, off_replicate number)

pub off_append : (marks : List Bool) (mark : Bool) → AreOff marks → mark ≡ false → AreOff (marks ++ mark ∷ [])
off_append [] mark off e = (e, tt)
off_append (m ∷ marks) mark off e = (off.0, off_append marks mark off.1 e)

pub off_set : (marks : List Bool) (slot : ℕ) (mark : Bool) → AreOff marks → mark ≡ false → AreOff (set marks slot mark)
off_set [] slot mark off e = tt
off_set (m ∷ marks) zero mark off e = (e, off.1)
off_set (m ∷ marks) (suc slot) mark off e = (off.0, off_set marks slot mark off.1 e)

-- one more mark, where it is noted whether one is on
pub off_more : (marks : List Bool) (some mark : Bool) → (some ≡ false → AreOff marks) → (some || mark) ≡ false → AreOff (marks ++ mark ∷ [])
off_more marks some mark known e = let both = or_parts some mark e in off_append marks mark (known both.0) both.1

-- a mark that is put
pub off_put : (marks : List Bool) (slot : ℕ) (some mark : Bool) → (some ≡ false → AreOff marks) → (some || mark) ≡ false → AreOff (set marks slot mark)
off_put marks slot some mark known e = let both = or_parts some mark e in off_set marks slot mark (known both.0) both.1
