-- What is looked at of parts.
use Rattle.std.proofs.Common.{◌≡◌, ◌≤◌, ◌<◌, ◌+◌, ℕ, zero, suc, List, [], ◌∷◌, ◌++◌, length, refl, ap, arith}
use Rattle.htl_blocks.specs.Parts.{Part, Byte, Round, Script, Resource, text_of_parts, is_round, rounds}
use Rattle.htl_blocks.specs.Refused.{before_too_many}
use Rattle.htl_blocks.proofs.SheetLemmas.{count-append}

-- a round before others
pub round_first : (ps : List Part) → rounds (Round ∷ ps) ≡ rounds ps + 1
round_first ps = let both = count-append is_round (Round ∷ []) ps in omega (arith, both)

-- where no round is one too many, all are looked at
pub all_looked_at : (left : ℕ) (ps : List Part) → rounds ps ≤ left → before_too_many left ps ≡ ps
all_looked_at left [] h = refl
all_looked_at left (Byte c ∷ ps) h = ap (λ (qs : List Part). Byte c ∷ qs) (all_looked_at left ps h)
all_looked_at left (Script name vars ∷ ps) h = ap (λ (qs : List Part). Script name vars ∷ qs) (all_looked_at left ps h)
all_looked_at left (Resource name ∷ ps) h = ap (λ (qs : List Part). Resource name ∷ qs) (all_looked_at left ps h)
all_looked_at zero (Round ∷ ps) h = let first = round_first ps in absurd (omega (arith, h, first))
all_looked_at (suc left) (Round ∷ ps) h = let first = round_first ps in ap (λ (qs : List Part). Round ∷ qs) (all_looked_at left ps (omega (arith, h, first)))

-- no more text than there is
pub looked_at_less : (left : ℕ) (ps : List Part) → length (text_of_parts (before_too_many left ps)) ≤ length (text_of_parts ps)
looked_at_less left [] = omega arith
looked_at_less left (Byte c ∷ ps) = let less = looked_at_less left ps in omega (arith, less)
looked_at_less left (Script name vars ∷ ps) = looked_at_less left ps
looked_at_less left (Resource name ∷ ps) = looked_at_less left ps
looked_at_less zero (Round ∷ ps) = omega arith
looked_at_less (suc left) (Round ∷ ps) = looked_at_less left ps

-- a beginning in which no round is one too many is looked at
pub beginning_looked_at : (left : ℕ) (a b : List Part) → rounds a ≤ left → length (text_of_parts a) ≤ length (text_of_parts (before_too_many left (a ++ b)))
beginning_looked_at left [] b h = omega arith
beginning_looked_at left (Byte c ∷ a) b h = let less = beginning_looked_at left a b h in omega (arith, less)
beginning_looked_at left (Script name vars ∷ a) b h = beginning_looked_at left a b h
beginning_looked_at left (Resource name ∷ a) b h = beginning_looked_at left a b h
beginning_looked_at zero (Round ∷ a) b h = let first = round_first a in absurd (omega (arith, h, first))
beginning_looked_at (suc left) (Round ∷ a) b h = let first = round_first a in beginning_looked_at left a b (omega (arith, h, first))

-- of a beginning in which one is, that alone
pub beginning_alone : (left : ℕ) (a b : List Part) → left < rounds a → before_too_many left (a ++ b) ≡ before_too_many left a
beginning_alone left [] b h = absurd (omega (arith, h))
beginning_alone left (Byte c ∷ a) b h = ap (λ (qs : List Part). Byte c ∷ qs) (beginning_alone left a b h)
beginning_alone left (Script name vars ∷ a) b h = ap (λ (qs : List Part). Script name vars ∷ qs) (beginning_alone left a b h)
beginning_alone left (Resource name ∷ a) b h = ap (λ (qs : List Part). Resource name ∷ qs) (beginning_alone left a b h)
beginning_alone zero (Round ∷ a) b h = refl
beginning_alone (suc left) (Round ∷ a) b h = let first = round_first a in ap (λ (qs : List Part). Round ∷ qs) (beginning_alone left a b (omega (arith, h, first)))

-- of a round that is one too many, nothing
pub round_not_looked_at : (left : ℕ) (a b : List Part) → left ≤ rounds a → before_too_many left (a ++ (Round ∷ b)) ≡ before_too_many left a
round_not_looked_at zero [] b h = refl
round_not_looked_at (suc left) [] b h = absurd (omega (arith, h))
round_not_looked_at left (Byte c ∷ a) b h = ap (λ (qs : List Part). Byte c ∷ qs) (round_not_looked_at left a b h)
round_not_looked_at left (Script name vars ∷ a) b h = ap (λ (qs : List Part). Script name vars ∷ qs) (round_not_looked_at left a b h)
round_not_looked_at left (Resource name ∷ a) b h = ap (λ (qs : List Part). Resource name ∷ qs) (round_not_looked_at left a b h)
round_not_looked_at zero (Round ∷ a) b h = refl
round_not_looked_at (suc left) (Round ∷ a) b h = let first = round_first a in ap (λ (qs : List Part). Round ∷ qs) (round_not_looked_at left a b (omega (arith, h, first)))
