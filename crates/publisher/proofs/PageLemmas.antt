-- Pages that are gathered one after another.
use Rattle.std.proofs.lemmas.Bool.{or_from}
use Rattle.std.proofs.lemmas.Bool.Decides.{nat_tests}
use Rattle.std.proofs.Common.{◌≡◌, ◌⊎◌, nat_lt, nat_le, ◌≢◌, ◌≤◌, ◌<◌, ◌+◌, ◌||◌, inl, inr, ℕ, Bool, true, false, cond, List, [], ◌∷◌, ◌++◌, length, Result, Ok, Err, refl, ap, sym, subst, ◌∙◌, arith, append_assoc, length-append, append-nil}
use Rattle.std.proofs.lemmas.List.Sums.{sum_by-append}
use Rattle.sp_base.specs.Limits.{most_rendered_bytes}
use Rattle.sp_base.specs.Texts.{Text}
use Rattle.sp_base.proofs.BoolLemmas.{or_assoc, or_false, or_true}
use Rattle.htl_blocks.specs.Parts.{Part, Byte, Round, Script, Resource, inclusions, is_inclusion, is_round, rounds, seen, text_of_parts, text_parts}
use Rattle.htl_blocks.specs.Refused.{most_inclusions, most_rounds}
use Rattle.publisher.specs.declared.page_fault.PageFault.{PageFault}
use Rattle.publisher.specs.declared.page_fault.PageFault.TheVariants.{NoMemory}
use Rattle.publisher.specs.Pages.{GatheredPage, blank, is_over, joined, part_page, parts_page, one_inclusion, rounds_page, text_page}
use Rattle.publisher.specs.declared.waiting.Waiting.{Waiting}
use Rattle.publisher.specs.Waits.{nothing}
use Rattle.publisher.specs.Gathering.{Gathered, IsPassed, PassLimits}

pub page_same : (a b : GatheredPage) → a.text ≡ b.text → a.inclusions ≡ b.inclusions → a.rounds ≡ b.rounds → a.is_deep ≡ b.is_deep → a ≡ b
page_same a b text inclusions rounds deep = λ i. record { text = text i; inclusions = inclusions i; rounds = rounds i; is_deep = deep i }

pub joined_blank : (a : GatheredPage) → joined a blank ≡ a
joined_blank a =
    let inclusions : a.inclusions + 0 ≡ a.inclusions = omega arith in let rounds : a.rounds + 0 ≡ a.rounds = omega arith in
    page_same (joined a blank) a (append-nil a.text) inclusions rounds (or_false a.is_deep)

pub blank_joined : (a : GatheredPage) → joined blank a ≡ a
blank_joined a =
    let inclusions : 0 + a.inclusions ≡ a.inclusions = omega arith in let rounds : 0 + a.rounds ≡ a.rounds = omega arith in
    page_same (joined blank a) a refl inclusions rounds refl

pub joined_assoc : (a b c : GatheredPage) → joined (joined a b) c ≡ joined a (joined b c)
joined_assoc a b c =
    let inclusions : (a.inclusions + b.inclusions) + c.inclusions ≡ a.inclusions + (b.inclusions + c.inclusions) = omega arith in
    let rounds : (a.rounds + b.rounds) + c.rounds ≡ a.rounds + (b.rounds + c.rounds) = omega arith in
    page_same (joined (joined a b) c) (joined a (joined b c)) (append_assoc a.text b.text c.text) inclusions rounds (or_assoc a.is_deep b.is_deep c.is_deep)

pub parts_none : (put : Part → GatheredPage) → parts_page put [] ≡ blank
unfolding parts_page
parts_none put = refl

pub parts_more : (put : Part → GatheredPage) (p : Part) (ps : List Part) → parts_page put (p ∷ ps) ≡ joined (part_page put p) (parts_page put ps)
unfolding parts_page
parts_more put p ps = refl

pub parts_append : (put : Part → GatheredPage) (ps qs : List Part) → parts_page put (ps ++ qs) ≡ joined (parts_page put ps) (parts_page put qs)
unfolding parts_page
parts_append put [] qs = sym (blank_joined (parts_page put qs))
parts_append put (p ∷ ps) qs = ap (joined (part_page put p)) (parts_append put ps qs) ∙ sym (joined_assoc (part_page put p) (parts_page put ps) (parts_page put qs))

-- the parts of a text are the text
pub text_is : (put : Part → GatheredPage) (t : Text) → parts_page put (text_parts t) ≡ text_page t
unfolding parts_page
text_is put [] = refl
text_is put (c ∷ t) = ap (joined (text_page (c ∷ []))) (text_is put t)

-- one part that puts something in
pub script_is : (put : Part → GatheredPage) (name : Text) (vars : List (Text × Text)) → parts_page put (Script name vars ∷ []) ≡ joined one_inclusion (put (Script name vars))
unfolding parts_page
script_is put name vars = joined_blank (joined one_inclusion (put (Script name vars)))

pub resource_is : (put : Part → GatheredPage) (name : Text) → parts_page put (Resource name ∷ []) ≡ joined one_inclusion (put (Resource name))
unfolding parts_page
resource_is put name = joined_blank (joined one_inclusion (put (Resource name)))

-- one that is counted, before others
one_round : (ps : List Part) → rounds (Round ∷ ps) ≡ 1 + rounds ps
one_round ps = sum_by-append (λ (p : Part). cond (is_round p) 1 0) (Round ∷ []) ps

one_script : (name : Text) (vars : List (Text × Text)) (ps : List Part) → inclusions (Script name vars ∷ ps) ≡ 1 + inclusions ps
one_script name vars ps = sum_by-append (λ (p : Part). cond (is_inclusion p) 1 0) (Script name vars ∷ []) ps

one_resource : (name : Text) (ps : List Part) → inclusions (Resource name ∷ ps) ≡ 1 + inclusions ps
one_resource name ps = sum_by-append (λ (p : Part). cond (is_inclusion p) 1 0) (Resource name ∷ []) ps

-- the contents of lists may be counted before the rest
count_first : (n : ℕ) (a b : GatheredPage) → joined (rounds_page n) (joined a b) ≡ joined a (joined (rounds_page n) b)
count_first n a b =
    let inclusions : 0 + (a.inclusions + b.inclusions) ≡ a.inclusions + (0 + b.inclusions) = omega arith in
    let rounds : n + (a.rounds + b.rounds) ≡ a.rounds + (n + b.rounds) = omega arith in
    page_same (joined (rounds_page n) (joined a b)) (joined a (joined (rounds_page n) b)) refl inclusions rounds refl

count_both : (n m : ℕ) (a : GatheredPage) → joined (rounds_page (n + m)) a ≡ joined (rounds_page n) (joined (rounds_page m) a)
count_both n m a =
    let inclusions : 0 + a.inclusions ≡ 0 + (0 + a.inclusions) = omega arith in
    let rounds : (n + m) + a.rounds ≡ n + (m + a.rounds) = omega arith in
    page_same (joined (rounds_page (n + m)) a) (joined (rounds_page n) (joined (rounds_page m) a)) refl inclusions rounds refl

pub rounds_apart : (put : Part → GatheredPage) (ps : List Part) → joined (rounds_page (rounds ps)) (parts_page put (seen ps)) ≡ parts_page put ps
unfolding parts_page
rounds_apart put [] = refl
rounds_apart put (Byte c ∷ ps) = count_first (rounds ps) (text_page (c ∷ [])) (parts_page put (seen ps)) ∙ ap (joined (text_page (c ∷ []))) (rounds_apart put ps)
rounds_apart put (Round ∷ ps) = ap (λ (n : ℕ). joined (rounds_page n) (parts_page put (seen ps))) (one_round ps) ∙ count_both 1 (rounds ps) (parts_page put (seen ps)) ∙ ap (joined (rounds_page 1)) (rounds_apart put ps)
rounds_apart put (Script name vars ∷ ps) =
    count_first (rounds ps) (joined one_inclusion (put (Script name vars))) (parts_page put (seen ps)) ∙ ap (joined (joined one_inclusion (put (Script name vars)))) (rounds_apart put ps)
rounds_apart put (Resource name ∷ ps) =
    count_first (rounds ps) (joined one_inclusion (put (Resource name))) (parts_page put (seen ps)) ∙ ap (joined (joined one_inclusion (put (Resource name)))) (rounds_apart put ps)

-- ---- limits

-- A limit that is passed with what waits is passed with a page that has as much.
pub passed_then : (w v : Waiting) (a b : GatheredPage) → v.text ≤ w.text + length b.text → v.inclusions ≤ w.inclusions + b.inclusions → IsPassed v a → IsPassed w (joined a b)
passed_then w v a b text included (inl deep) = inl (ap (λ d. d || b.is_deep) deep)
passed_then w v a b text included (inr (inl long)) = let both = length-append a.text b.text in inr (inl (omega (arith, long, both, text)))
passed_then w v a b text included (inr (inr (inl many))) = inr (inr (inl (omega (arith, many, included))))
passed_then w v a b text included (inr (inr (inr often))) = inr (inr (inr (omega (arith, often))))

-- so it stays passed
pub passed_more : (w : Waiting) (a b : GatheredPage) → IsPassed w a → IsPassed w (joined a b)
passed_more w a b passed = passed_then w w a b (omega arith) (omega arith) passed

pub passed_before : (w : Waiting) (a b : GatheredPage) → IsPassed w b → IsPassed w (joined a b)
passed_before w a b (inl deep) = inl (ap (λ d. a.is_deep || d) deep ∙ or_true a.is_deep)
passed_before w a b (inr (inl long)) = let both = length-append a.text b.text in inr (inl (omega (arith, long, both)))
passed_before w a b (inr (inr (inl many))) = inr (inr (inl (omega (arith, many))))
passed_before w a b (inr (inr (inr often))) = inr (inr (inr (omega (arith, often))))

-- what is passed where nothing waits is passed where something does
pub passed_alone : (w : Waiting) (a : GatheredPage) → IsPassed nothing a → IsPassed w a
passed_alone w a (inl deep) = inl deep
passed_alone w a (inr (inl long)) = inr (inl (omega (arith, long)))
passed_alone w a (inr (inr (inl many))) = inr (inr (inl (omega (arith, many))))
passed_alone w a (inr (inr (inr often))) = inr (inr (inr often))

pub gathered_alone : {A : Type 0} (w : Waiting) (r : Result A PageFault) (old new page : GatheredPage) → Gathered nothing r old new page → Gathered w r old new page
gathered_alone w (Ok x) old new page is = is
gathered_alone w (Err f) old new page is = λ known. passed_alone w (joined old page) (is known)

-- a page has the text, the contents of lists and the inclusions of its parts at least
pub record HasAtLeast (ps : List Part) (page : GatheredPage) : Type 0 where
  pub text : length (text_of_parts ps) ≤ length page.text
  pub included : inclusions ps ≤ page.inclusions
  pub repeated : rounds ps ≤ page.rounds

pub has_at_least : (put : Part → GatheredPage) (ps : List Part) → HasAtLeast ps (parts_page put ps)
unfolding parts_page
has_at_least put [] = record { text = omega arith; included = omega arith; repeated = omega arith }
has_at_least put (Byte c ∷ ps) = let more = has_at_least put ps in record { text = (let t = more.text in omega (arith, t)); included = (let n = more.included in omega (arith, n)); repeated = (let n = more.repeated in omega (arith, n)) }
has_at_least put (Round ∷ ps) = let more = has_at_least put ps in let one = one_round ps in record { text = more.text; included = (let n = more.included in omega (arith, n)); repeated = (let n = more.repeated in omega (arith, n, one)) }
has_at_least put (Script name vars ∷ ps) = put_in (put (Script name vars)) (has_at_least put ps)
  where
    put_in : (one : GatheredPage) → HasAtLeast ps (parts_page put ps) → HasAtLeast (Script name vars ∷ ps) (joined (joined one_inclusion one) (parts_page put ps))
    put_in one more = record {
      text = (let both = length-append one.text (parts_page put ps).text in let t = more.text in omega (arith, both, t));
      included = (let n = more.included in let first = one_script name vars ps in omega (arith, n, first));
      repeated = (let n = more.repeated in omega (arith, n));
    }
has_at_least put (Resource name ∷ ps) = put_in (put (Resource name)) (has_at_least put ps)
  where
    put_in : (one : GatheredPage) → HasAtLeast ps (parts_page put ps) → HasAtLeast (Resource name ∷ ps) (joined (joined one_inclusion one) (parts_page put ps))
    put_in one more = record {
      text = (let both = length-append one.text (parts_page put ps).text in let t = more.text in omega (arith, both, t));
      included = (let n = more.included in let first = one_resource name ps in omega (arith, n, first));
      repeated = (let n = more.repeated in omega (arith, n));
    }

-- parts that pass a limit make a page that does
pub parts_pass : (w : Waiting) (put : Part → GatheredPage) (old : GatheredPage) (ps : List Part) → PassLimits ps → IsPassed w (joined old (parts_page put ps))
parts_pass w put old ps h = passed_before w old (parts_page put ps) (by_limit h)
  where
    least : HasAtLeast ps (parts_page put ps)
    least = has_at_least put ps

    by_limit : PassLimits ps → IsPassed w (parts_page put ps)
    by_limit (inl long) = let t = least.text in inr (inl (omega (arith, long, t)))
    by_limit (inr (inl many)) = let n = least.included in inr (inr (inl (omega (arith, many, n))))
    by_limit (inr (inr often)) = let n = least.repeated in inr (inr (inr (omega (arith, often, n))))

-- ---- one after another

-- a page after one that was gathered
pub after : {A : Type 0} (w : Waiting) (r : Result A PageFault) (old mid new a b : GatheredPage) → mid ≡ joined old a → Gathered w r mid new b → Gathered w r old new (joined a b)
after w (Ok x) old mid new a b is more = more ∙ ap (λ (p : GatheredPage). joined p b) is ∙ joined_assoc old a b
after w (Err f) old mid new a b is more = λ known. subst (IsPassed w) (ap (λ (p : GatheredPage). joined p b) is ∙ joined_assoc old a b) (more known)

-- a limit that was passed before the last page
pub stopped : (w : Waiting) (f : PageFault) (old a b : GatheredPage) → (f ≢ NoMemory → IsPassed nothing (joined old a)) → f ≢ NoMemory → IsPassed w (joined old (joined a b))
stopped w f old a b h known = subst (IsPassed w) (joined_assoc old a b) (passed_more w (joined old a) b (passed_alone w (joined old a) (h known)))

-- ---- the answer

above : (n m : ℕ) (b : Bool) → nat_lt n m ≡ b → m ≤ n → b ≡ false
above n m true is h = absurd (let no : ⊥ = grind (arith, nat_tests) in no)
above n m false is h = refl

below : (n m : ℕ) (b : Bool) → nat_lt n m ≡ b → n < m → b ≡ true
below n m true is h = refl
below n m false is h = absurd (let no : ⊥ = grind (arith, nat_tests) in no)

-- a page within its limits isn't over them
pub not_over : (page : GatheredPage) → page.inclusions ≤ most_inclusions → page.rounds ≤ most_rounds → page.is_deep ≡ false → is_over page ≡ false
not_over page included repeated deep =
    or_from page.is_deep (nat_lt most_inclusions page.inclusions || nat_lt most_rounds page.rounds) deep
    (or_from (nat_lt most_inclusions page.inclusions) (nat_lt most_rounds page.rounds) (above most_inclusions page.inclusions (nat_lt most_inclusions page.inclusions) refl included) (above most_rounds page.rounds (nat_lt most_rounds page.rounds) refl repeated))

-- a page that passes a limit is over them, or its text is too long
pub over_or_long : (page : GatheredPage) → IsPassed nothing page → (is_over page ≡ true) ⊎ (most_rendered_bytes < length page.text)
over_or_long page (inl deep) = inl (ap (λ (b : Bool). b || (nat_lt most_inclusions page.inclusions || nat_lt most_rounds page.rounds)) deep)
over_or_long page (inr (inl long)) = inr (omega (arith, long))
over_or_long page (inr (inr (inl many))) =
    inl (ap (λ (b : Bool). page.is_deep || (b || nat_lt most_rounds page.rounds)) (below most_inclusions page.inclusions (nat_lt most_inclusions page.inclusions) refl (omega (arith, many))) ∙ or_true page.is_deep)
over_or_long page (inr (inr (inr often))) =
    inl (ap (λ (b : Bool). page.is_deep || (nat_lt most_inclusions page.inclusions || b)) (below most_rounds page.rounds (nat_lt most_rounds page.rounds) refl often)
    ∙ ap (λ (b : Bool). page.is_deep || b) (or_true (nat_lt most_inclusions page.inclusions)) ∙ or_true page.is_deep)

pub too_long : (n m : ℕ) → n < m → nat_le m n ≡ false
too_long n m h = by (nat_le m n) refl
  where
    by : (b : Bool) → nat_le m n ≡ b → b ≡ false
    by true is = absurd (let no : ⊥ = grind (arith, nat_tests) in no)
    by false is = refl
