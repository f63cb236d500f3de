-- Parts that are written one after another.
use Rattle.std.proofs.Common.{◌≡◌, ◌+◌, ℕ, Bool, cond, List, [], ◌++◌, Result, Ok, Err, ap, sym, subst, ◌∙◌, arith, append_assoc, append-nil}
use Rattle.std.proofs.lemmas.List.Concat.{flat_map-append}
use Rattle.std.proofs.lemmas.List.Sums.{sum_by-append}
use Rattle.std.specs.List.{count_by}
use Rattle.htl_blocks.specs.Parts.{Part, is_round, rounds}
use Rattle.htl_blocks.specs.declared.run_fault.RunFault.{RunFault}
use Rattle.htl_blocks.specs.Sheets.{SheetText, kept_part, kept, with_parts, IsOverLimit, PassesLimit, Stops, WroteParts}

pub count-append : {X : Type 0} (p : X → Bool) (xs ys : List X) → count_by p (xs ++ ys) ≡ count_by p xs + count_by p ys
count-append p xs ys = sum_by-append (λ x. cond (p x) 1 0) xs ys

-- a sheet with these parts and this many rounds
abbrev made : SheetText → List Part → ℕ → SheetText
made s ps n = record { scope = s.scope; keeping = s.keeping; parts = ps; rounds = n }

pub with_none : (s : SheetText) → with_parts s [] ≡ s
with_none s = ap (λ (ps : List Part). made s ps (s.rounds + 0)) (append-nil s.parts) ∙ ap (made s s.parts) (let none : s.rounds + 0 ≡ s.rounds = omega arith in none)

-- parts after others are both
pub with_both : (s : SheetText) (a b : List Part) → with_parts (with_parts s a) b ≡ with_parts s (a ++ b)
with_both s a b =
    ap (λ (ps : List Part). made s ps ((s.rounds + rounds a) + rounds b)) (append_assoc s.parts (kept s.keeping a) (kept s.keeping b) ∙ ap (λ (ps : List Part). s.parts ++ ps) (sym (flat_map-append (kept_part s.keeping) a b)))
    ∙ ap (made s (s.parts ++ kept s.keeping (a ++ b))) (let both = count-append is_round a b in let sum : (s.rounds + rounds a) + rounds b ≡ s.rounds + rounds (a ++ b) = omega (arith, both) in sum)

-- a limit that is passed with all of the parts
pub passed_at_end : (f : RunFault) (s : SheetText) (ps : List Part) → IsOverLimit f (with_parts s ps) → PassesLimit f s ps
passed_at_end f s ps h = record { before = ps; later = []; whole = sym (append-nil ps); over = h }

-- a limit that is passed with parts after others
passed_after : (f : RunFault) (old mid : SheetText) (a b : List Part) → mid ≡ with_parts old a → PassesLimit f mid b → PassesLimit f old (a ++ b)
passed_after f old mid a b e p = record {
  before = a ++ p.before;
  later = p.later;
  whole = ap (λ (ps : List Part). a ++ ps) p.whole ∙ sym (append_assoc a p.before p.later);
  over = subst (IsOverLimit f) (ap (λ (s : SheetText). with_parts s p.before) e ∙ with_both old a p.before) p.over;
}

-- a limit that is passed with parts before others
passed_then : (f : RunFault) (old : SheetText) (a b : List Part) → PassesLimit f old a → PassesLimit f old (a ++ b)
passed_then f old a b p = record { before = p.before; later = p.later ++ b; whole = ap (λ (ps : List Part). ps ++ b) p.whole ∙ append_assoc p.before p.later b; over = p.over }

-- what is written after other parts
pub after : {A : Type 0} (r : Result A RunFault) (old mid new : SheetText) (a b : List Part) → mid ≡ with_parts old a → WroteParts r mid new b → WroteParts r old new (a ++ b)
after (Ok x) old mid new a b e w = w ∙ ap (λ (s : SheetText). with_parts s b) e ∙ with_both old a b
after (Err f) old mid new a b e w = λ ne. passed_after f old mid a b e (w ne)

-- a limit that was passed before the last parts
pub stopped : (f : RunFault) (old mid new : SheetText) (a b : List Part) → Stops f old a → Stops f old (a ++ b)
stopped f old mid new a b w = λ ne. passed_then f old a b (w ne)
