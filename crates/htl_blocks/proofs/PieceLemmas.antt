-- What is kept of parts, and when a text is refused.
use Rattle.std.proofs.Common.{◌≡◌, ◌≢◌, ◌≤◌, ◌<◌, ◌⊎◌, inl, inr, ℕ, nat_lt, Bool, true, false, List, [], ◌∷◌, ◌++◌, length, refl, ap, sym, subst, ◌∙◌, arith}
use Rattle.std.proofs.lemmas.Bool.{ltb-false, ltb-true}
use Rattle.std.proofs.lemmas.List.Concat.{flat_map-append}
use Rattle.sp_base.specs.Limits.{most_rendered_bytes}
use Rattle.htl_expr.specs.Bindings.{Bindings}
use Rattle.htl_blocks.specs.Parts.{Part, Byte, Round, Script, Resource, part_text, text_of_parts, is_inclusion, inclusions, is_round, rounds, seen_part, seen}
use Rattle.htl_blocks.specs.Refused.{Fits, FitsOrHasAFault, HasNoFaultIfItFits, HasOneFaultAtMost, IsRefused, looked_at, most_inclusions, most_rounds}
use Rattle.htl_blocks.specs.declared.keeping.Keeping.{Keeping}
use Rattle.htl_blocks.specs.declared.keeping.Keeping.TheVariants as keep
use Rattle.htl_blocks.specs.declared.run_fault.RunFault.{RunFault}
use Rattle.htl_blocks.specs.declared.run_fault.RunFault.TheVariants.{TooLong, TooMany, NoMemory}
use Rattle.htl_blocks.specs.Sheets.{empty_sheet, kept_part, kept, with_parts, IsOverLimit, PassesLimit}
use Rattle.htl_blocks.proofs.LookedAt.{all_looked_at, beginning_alone, beginning_looked_at, looked_at_less}
use Rattle.htl_blocks.proofs.SheetLemmas.{count-append}

-- where all is kept, what is seen is kept
pub all_are_seen : (ps : List Part) → kept keep.All ps ≡ seen ps
all_are_seen [] = refl
all_are_seen (p ∷ ps) = ap (λ (qs : List Part). seen_part p ++ qs) (all_are_seen ps)

text_of_kept_part : (k : Keeping) (p : Part) → text_of_parts (kept_part k p) ≡ part_text p
text_of_kept_part keep.All (Byte c) = refl
text_of_kept_part keep.All Round = refl
text_of_kept_part keep.All (Script name vars) = refl
text_of_kept_part keep.All (Resource name) = refl
text_of_kept_part keep.TextAlone (Byte c) = refl
text_of_kept_part keep.TextAlone Round = refl
text_of_kept_part keep.TextAlone (Script name vars) = refl
text_of_kept_part keep.TextAlone (Resource name) = refl

-- the text is kept
pub text_kept : (k : Keeping) (ps : List Part) → text_of_parts (kept k ps) ≡ text_of_parts ps
text_kept k [] = refl
text_kept k (p ∷ ps) =
    flat_map-append part_text (kept_part k p) (kept k ps)
    ∙ ap (λ (t : List ℕ). t ++ text_of_parts (kept k ps)) (text_of_kept_part k p) ∙ ap (λ (t : List ℕ). part_text p ++ t) (text_kept k ps)

count_of_seen_part : (p : Part) → inclusions (kept_part keep.All p) ≡ inclusions (p ∷ [])
count_of_seen_part (Byte c) = refl
count_of_seen_part Round = refl
count_of_seen_part (Script name vars) = refl
count_of_seen_part (Resource name) = refl

-- what is put in is seen
pub inclusions_kept : (ps : List Part) → inclusions (kept keep.All ps) ≡ inclusions ps
inclusions_kept [] = refl
inclusions_kept (p ∷ ps) =
    let both = count-append is_inclusion (kept_part keep.All p) (kept keep.All ps) in
    let one = count_of_seen_part p in let more = inclusions_kept ps in
    let whole = count-append is_inclusion (p ∷ []) ps in
    omega (arith, both, one, more, whole)

count_of_text_part : (p : Part) → inclusions (kept_part keep.TextAlone p) ≡ 0
count_of_text_part (Byte c) = refl
count_of_text_part Round = refl
count_of_text_part (Script name vars) = refl
count_of_text_part (Resource name) = refl

-- beside the text alone nothing is put in
pub none_in_text : (ps : List Part) → inclusions (kept keep.TextAlone ps) ≡ 0
none_in_text [] = refl
none_in_text (p ∷ ps) =
    let both = count-append is_inclusion (kept_part keep.TextAlone p) (kept keep.TextAlone ps) in
    let one = count_of_text_part p in let more = none_in_text ps in
    omega (arith, both, one, more)

-- a beginning with a text that is too long, in which no round is one too many
pub long_is_refused : (scope : Bindings) (k : Keeping) (ps : List Part) → PassesLimit TooLong (empty_sheet scope k) ps → IsRefused TooLong ps
long_is_refused scope k ps passed =
    let few = passed.over.0 in
    let long = subst (λ (t : List ℕ). most_rendered_bytes < length t) (text_kept k passed.before) passed.over.1 in
    let looked = beginning_looked_at most_rounds passed.before passed.later (omega (arith, few)) in
    subst (IsRefused TooLong) (sym passed.whole) (omega (arith, long, looked))

rounds_of_beginning : (ps before later : List Part) → ps ≡ before ++ later → rounds before ≤ rounds ps
rounds_of_beginning ps before later whole = let both = ap rounds whole ∙ count-append is_round before later in omega (arith, both)

inclusions_of_beginning : (ps before later : List Part) → ps ≡ before ++ later → inclusions before ≤ inclusions ps
inclusions_of_beginning ps before later whole = let both = ap inclusions whole ∙ count-append is_inclusion before later in omega (arith, both)

-- a beginning with a round that is one too many, and a text that isn't too long
often_is_refused : (ps before later : List Part) → ps ≡ before ++ later → most_rounds < rounds before → length (text_of_parts before) ≤ most_rendered_bytes → IsRefused TooMany ps
often_is_refused ps before later whole often fits =
    let looked = ap (λ (qs : List Part). length (text_of_parts (looked_at qs))) whole ∙ ap (λ (qs : List Part). length (text_of_parts qs)) (beginning_alone most_rounds before later often) in
    let less = looked_at_less most_rounds before in
    let more = rounds_of_beginning ps before later whole in
    (omega (arith, looked, less, fits), inl (omega (arith, more, often)))

-- too much beside a text that isn't too long
pub many_is_refused : (scope : Bindings) (ps l : List Part) (n : ℕ) → PassesLimit TooMany (empty_sheet scope keep.All) ps → l ≡ kept keep.TextAlone ps → n ≡ rounds ps → length (text_of_parts l) ≤ most_rendered_bytes → n ≤ most_rounds → IsRefused TooMany ps
many_is_refused scope ps l n passed is count fits few =
    let looked = ap (λ (qs : List Part). length (text_of_parts qs)) (all_looked_at most_rounds ps (omega (arith, count, few))) in
    let text = ap (λ (t : List ℕ). length t) (ap text_of_parts is ∙ text_kept keep.TextAlone ps) in
    (omega (arith, looked, text, fits), by passed.over)
  where
    by : IsOverLimit TooMany (with_parts (empty_sheet scope keep.All) passed.before) → (most_rounds < rounds ps) ⊎ (most_inclusions < inclusions ps)
    by (inl often) = let more = rounds_of_beginning ps passed.before passed.later passed.whole in let h = often.0 in inl (omega (arith, h, more))
    by (inr many) = let more = inclusions_of_beginning ps passed.before passed.later passed.whole in let same = inclusions_kept passed.before in inr (omega (arith, many, more, same))

-- a fault that is found when the text alone is written
pub alone_is_refused : (f : RunFault) (scope : Bindings) (ps : List Part) → PassesLimit f (empty_sheet scope keep.TextAlone) ps → IsRefused f ps
alone_is_refused TooLong scope ps passed = long_is_refused scope keep.TextAlone ps passed
alone_is_refused TooMany scope ps passed = by passed.over
  where
    by : IsOverLimit TooMany (with_parts (empty_sheet scope keep.TextAlone) passed.before) → IsRefused TooMany ps
    by (inl often) =
        let h = often.0 in
        often_is_refused ps passed.before passed.later passed.whole (omega (arith, h)) (subst (λ (t : List ℕ). length t ≤ most_rendered_bytes) (text_kept keep.TextAlone passed.before) often.1)
    by (inr many) = let none = none_in_text passed.before in absurd (omega (arith, many, none))
alone_is_refused NoMemory scope ps passed = tt

-- what is within the limits
pub all_fits : (ps l : List Part) (n : ℕ) → l ≡ kept keep.All ps → n ≡ rounds ps → length (text_of_parts l) ≤ most_rendered_bytes → inclusions l ≤ most_inclusions → n ≤ most_rounds → Fits ps
all_fits ps l n is count text included repeated =
    record { text = subst (λ (t : List ℕ). length t ≤ most_rendered_bytes) (ap text_of_parts is ∙ text_kept keep.All ps) text; included = subst (λ (n : ℕ). n ≤ most_inclusions) (ap inclusions is ∙ inclusions_kept ps) included; repeated = subst (λ (n : ℕ). n ≤ most_rounds) count repeated }

-- ---- faults

-- what is refused passes a limit as a whole, too
pub refused_is_over : (f : RunFault) (ps : List Part) → f ≢ NoMemory → IsRefused f ps → (most_rendered_bytes < length (text_of_parts ps)) ⊎ ((most_inclusions < inclusions ps) ⊎ (most_rounds < rounds ps))
refused_is_over TooLong ps known h = let less = looked_at_less most_rounds ps in inl (omega (arith, h, less))
refused_is_over TooMany ps known (fits, inl often) = inr (inr often)
refused_is_over TooMany ps known (fits, inr many) = inr (inl many)
refused_is_over NoMemory ps known h = absurd (known refl)

-- what is within the limits isn't refused
pub fits_alone : (ps : List Part) → HasNoFaultIfItFits ps
fits_alone ps f known fits h = by (refused_is_over f ps known h)
  where
    by : (most_rendered_bytes < length (text_of_parts ps)) ⊎ ((most_inclusions < inclusions ps) ⊎ (most_rounds < rounds ps)) → ⊥
    by (inl long) = let text = fits.text in omega (arith, long, text)
    by (inr (inl many)) = let included = fits.included in omega (arith, many, included)
    by (inr (inr often)) = let repeated = fits.repeated in omega (arith, often, repeated)

pub one_fault : (ps : List Part) → HasOneFaultAtMost ps
one_fault ps long many = let fits = many.0 in omega (arith, long, fits)

-- a number is above another or isn't
above_or_not : (n m : ℕ) → (n < m) ⊎ (m ≤ n)
above_or_not n m = by (nat_lt n m) refl
  where
    by : (b : Bool) → nat_lt n m ≡ b → (n < m) ⊎ (m ≤ n)
    by true is = inl (ltb-true n m is)
    by false is = inr (ltb-false n m is)

pub not_above : (n m : ℕ) → (n < m → ⊥) → m ≤ n
not_above n m h = by (above_or_not n m)
  where
    by : (n < m) ⊎ (m ≤ n) → m ≤ n
    by (inl above) = absurd (h above)
    by (inr most) = most

pub some_fault : (ps : List Part) → FitsOrHasAFault ps
some_fault ps = by (above_or_not most_rendered_bytes (length (text_of_parts (looked_at ps)))) (above_or_not most_rounds (rounds ps)) (above_or_not most_inclusions (inclusions ps))
  where
    by : (most_rendered_bytes < length (text_of_parts (looked_at ps))) ⊎ (length (text_of_parts (looked_at ps)) ≤ most_rendered_bytes) → (most_rounds < rounds ps) ⊎ (rounds ps ≤ most_rounds) → (most_inclusions < inclusions ps) ⊎ (inclusions ps ≤ most_inclusions) → FitsOrHasAFault ps
    by (inl long) often many = inr (inl long)
    by (inr fits) (inl often) many = inr (inr (fits, inl often))
    by (inr fits) (inr few) (inl many) = inr (inr (fits, inr many))
    by (inr fits) (inr few) (inr little) =
        inl (record { text = subst (λ (qs : List Part). length (text_of_parts qs) ≤ most_rendered_bytes) (all_looked_at most_rounds ps few) fits; included = little; repeated = few })
