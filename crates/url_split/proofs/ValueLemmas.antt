-- The longest decomposition is the one at the last cut.
use Rattle.std.proofs.Common.{◌≡◌, ◌<◌, ◌≤◌, ⊎_elim, ℕ, zero, suc, Bool, true, false, cond, List, Option, Some, None, Result, Ok, Err, length, take, drop, refl, sym, ◌∙◌, ap, subst, arith}
use Rattle.std.specs.Prelude.{option_map, IfSome, IfNone}
use Rattle.std.specs.Option.{option_or}
use Rattle.std.proofs.lemmas.Bool.Decides.{nat_tests}
use Rattle.std.proofs.lemmas.Bool.{cases_lt, cases_Bool}
use Rattle.std.proofs.lemmas.Option.{cond_some, same_Some}
use Rattle.sp_base.specs.Paths.{path_of}
use Rattle.sp_base.specs.declared.path.PathFault.{PathFault}
use Rattle.sp_base.proofs.OptionLemmas.{some_is_not_none}
use Rattle.url_split.specs.declared.decompose.Parts.{Parts}
use Rattle.url_split.specs.Split.{selectors_of, extension_of, suffix_of, IsCut, Leads, IsSplit, IsLost, is_cut, known_one, path_to, parts_at, at_greatest, split_of}

-- ---- the greatest number at which a function gives something

greatest_none : {A : Type 0} (f : ℕ → Option A) (n : ℕ) → ((k : ℕ) → k < n → f k ≡ None) → at_greatest f n ≡ None
greatest_none f zero none = refl
greatest_none f (suc n) none =
    ap (λ o. option_or o (at_greatest f n)) (none n (omega arith)) ∙ greatest_none f n (λ k lt. none k (omega (arith, lt)))

greatest_some : {A : Type 0} (f : ℕ → Option A) (n at : ℕ) (x : A) → at < n → f at ≡ Some x → ((k : ℕ) → at < k → k < n → f k ≡ None) → at_greatest f n ≡ Some x
greatest_some f zero at x lt here none = absurd (omega (arith, lt))
greatest_some f (suc n) at x lt here none = ⊎_elim
    (λ below. ap (λ o. option_or o (at_greatest f n)) (none n below (omega arith))
    ∙ greatest_some f n at x below here (λ k after within. none k after (omega (arith, within))))
    (λ last. let same : n ≡ at = omega (arith, lt, last) in ap (λ o. option_or o (at_greatest f n)) (ap f same ∙ here))
    (cases_lt at n)

-- ---- what leads to a known path, as a function

cut_test : (text : List ℕ) (at : ℕ) → IsCut text at → is_cut text at ≡ true
cut_test text at cut = grind (arith, nat_tests)

cut_from_test : (text : List ℕ) (at : ℕ) → at ≤ length text → is_cut text at ≡ true → IsCut text at
cut_from_test text at within is = grind (arith, nat_tests)

led_to : (known : List (List ℕ) → Bool) (text : List ℕ) (at : ℕ) (path : List (List ℕ)) → Leads known text at path → path_to known text at ≡ Some path
led_to known text at path leads =
    let cut = cut_test text at leads.cut in
    let there = leads.there in
    rw cut (ap (known_one known) leads.reads ∙ ap (λ b. cond b (Some path) None) there)

unknown : (known : List (List ℕ) → Bool) (r : Result (List (List ℕ)) PathFault) → ((path : List (List ℕ)) → r ≡ Ok path → known path ≡ true → ⊥) → known_one known r ≡ None
unknown known (Err fault) none = refl
unknown known (Ok path) none = ⊎_elim (λ is. absurd (none path refl is)) (λ isnt. rw isnt refl) (cases_Bool (known path))

not_led : (known : List (List ℕ) → Bool) (text : List ℕ) (at : ℕ) → at ≤ length text → ((path : List (List ℕ)) → Leads known text at path → ⊥) → path_to known text at ≡ None
not_led known text at within none = ⊎_elim
    (λ is. let cut = cut_from_test text at within is in
    rw is (unknown known (path_of (take at text)) (λ path reads there. none path (record { cut = cut; reads = reads; there = there }))))
    (λ isnt. rw isnt refl)
    (cases_Bool (is_cut text at))

cut_within : (text : List ℕ) (at : ℕ) → IsCut text at → at < suc (length text)
cut_within text at cut = grind arith

-- ---- the two sides as one answer

made : List (List ℕ) → List (List ℕ) → List ℕ → List ℕ → Parts
made path selectors extension suffix = record { path = path; selectors = selectors; extension = extension; suffix = suffix }

same_parts : (text : List ℕ) (at : ℕ) (parts : Parts) → parts.selectors ≡ selectors_of (drop at text) → parts.extension ≡ extension_of (drop at text)
    → parts.suffix ≡ suffix_of (drop at text) → parts ≡ parts_at text at parts.path
unfolding made
same_parts text at parts s e x =
    ap (λ v. made parts.path v parts.extension parts.suffix) s
    ∙ ap (λ v. made parts.path (selectors_of (drop at text)) v parts.suffix) e
    ∙ ap (made parts.path (selectors_of (drop at text)) (extension_of (drop at text))) x

pub split_value : (known : List (List ℕ) → Bool) (text : List ℕ) (parts : Parts) → IsSplit known text parts → Some parts ≡ split_of known text
unfolding split_of
split_value known text parts split =
    let f = λ (k : ℕ). option_map (parts_at text k) (path_to known text k) in
    let here : f split.at ≡ Some parts =
    ap (option_map (parts_at text split.at)) (led_to known text split.at parts.path split.leads)
    ∙ ap Some (sym (same_parts text split.at parts split.selectors split.extension split.suffix)) in
    sym (greatest_some f (suc (length text)) split.at parts (cut_within text split.at split.leads.cut) here
    (λ k after within. ap (option_map (parts_at text k)) (not_led known text k (omega (arith, within)) (λ path. split.longest k path after))))

pub lost_value : (known : List (List ℕ) → Bool) (text : List ℕ) → IsLost known text → None ≡ split_of known text
unfolding split_of
lost_value known text lost =
    sym (greatest_none (λ k. option_map (parts_at text k) (path_to known text k)) (suc (length text))
    (λ k within. ap (option_map (parts_at text k)) (not_led known text k (omega (arith, within)) (lost k))))

-- ---- the one answer as the two sides

-- x is what the function gives at the greatest number below n at which it gives something
abbrev Greatest : {A : Type 0} → (ℕ → Option A) → ℕ → A → Type 0
Greatest f n x = (at : ℕ) × (at < n) × (f at ≡ Some x) × ((k : ℕ) → at < k → k < n → f k ≡ None)

greatest_step : {A : Type 0} (f : ℕ → Option A) (n : ℕ) (x : A) (o : Option A) → f n ≡ o → option_or o (at_greatest f n) ≡ Some x
    → (at_greatest f n ≡ Some x → Greatest f n x) → Greatest f (suc n) x
greatest_step f n x (Some y) is e below = (n, omega arith, is ∙ e, λ k after within. absurd (omega (arith, after, within)))
greatest_step f n x None is e below =
    let r = below e in (
      r.0,
      omega (arith, r.1),
      r.2,
      λ k after within. ⊎_elim (λ less. r.3 k after less) (λ last. let same : k ≡ n = omega (arith, within, last) in ap f same ∙ is) (cases_lt k n),
    )

greatest_is : {A : Type 0} (f : ℕ → Option A) (n : ℕ) (x : A) → at_greatest f n ≡ Some x → Greatest f n x
greatest_is f zero x e = absurd (some_is_not_none x (sym e))
greatest_is f (suc n) x e = greatest_step f n x (f n) refl e (greatest_is f n x)

none_step : {A : Type 0} (f : ℕ → Option A) (n : ℕ) (o : Option A) → f n ≡ o → option_or o (at_greatest f n) ≡ None
    → (at_greatest f n ≡ None → (k : ℕ) → k < n → f k ≡ None) → (k : ℕ) → k < suc n → f k ≡ None
none_step f n (Some y) is e below k within = absurd (some_is_not_none y e)
none_step f n None is e below k within = ⊎_elim (λ less. below e k less) (λ last. let same : k ≡ n = omega (arith, within, last) in ap f same ∙ is) (cases_lt k n)

none_is : {A : Type 0} (f : ℕ → Option A) (n : ℕ) → at_greatest f n ≡ None → (k : ℕ) → k < n → f k ≡ None
none_is f zero e k within = absurd (omega (arith, within))
none_is f (suc n) e k within = none_step f n (f n) refl e (none_is f n) k within

known_is : (known : List (List ℕ) → Bool) (r : Result (List (List ℕ)) PathFault) (path : List (List ℕ)) → known_one known r ≡ Some path
    → (r ≡ Ok path) × (known path ≡ true)
known_is known (Ok p) path e =
    let both = cond_some (known p) p path e in
    (ap (λ q. Ok q) both.1, subst (λ q. known q ≡ true) both.1 both.0)
known_is known (Err fault) path e = absurd (some_is_not_none path (sym e))

leads_by : (known : List (List ℕ) → Bool) (text : List ℕ) (at : ℕ) (path : List (List ℕ)) (b : Bool) → is_cut text at ≡ b → at ≤ length text
    → cond b (known_one known (path_of (take at text))) None ≡ Some path → Leads known text at path
leads_by known text at path true is within e =
    let r = known_is known (path_of (take at text)) path e in
    record { cut = cut_from_test text at within is; reads = r.0; there = r.1 }
leads_by known text at path false is within e = absurd (some_is_not_none path (sym e))

mapped_is : (text : List ℕ) (at : ℕ) (o : Option (List (List ℕ))) (parts : Parts) → option_map (parts_at text at) o ≡ Some parts
    → (path : List (List ℕ)) × (o ≡ Some path) × (parts_at text at path ≡ parts)
mapped_is text at (Some path) parts e = (path, refl, same_Some _ _ e)
mapped_is text at None parts e = absurd (some_is_not_none parts (sym e))

is_split_at : (known : List (List ℕ) → Bool) (text : List ℕ) (at : ℕ) (path : List (List ℕ)) → Leads known text at path
    → ((k : ℕ) (other : List (List ℕ)) → at < k → Leads known text k other → ⊥) → IsSplit known text (parts_at text at path)
is_split_at known text at path leads longest = record { at = at; leads = leads; longest = longest; selectors = refl; extension = refl; suffix = refl }

split_is : (known : List (List ℕ) → Bool) (text : List ℕ) (o : Option Parts) → split_of known text ≡ o → IfSome o (IsSplit known text)
unfolding split_of
split_is known text None e = tt
split_is known text (Some parts) e =
    let f = λ (k : ℕ). option_map (parts_at text k) (path_to known text k) in
    let g = greatest_is f (suc (length text)) parts e in
    let m = mapped_is text g.0 (path_to known text g.0) parts g.2 in
    let leads = leads_by known text g.0 m.0 (is_cut text g.0) refl (omega (arith, g.1)) m.1 in
    subst (IsSplit known text) m.2 (is_split_at known text g.0 m.0 leads
    (λ k path after other. some_is_not_none (parts_at text k path) (sym (ap (option_map (parts_at text k)) (led_to known text k path other)) ∙ g.3 k after (cut_within text k other.cut))))

lost_is : (known : List (List ℕ) → Bool) (text : List ℕ) (o : Option Parts) → split_of known text ≡ o → IfNone o (IsLost known text)
unfolding split_of
lost_is known text (Some parts) e = tt
lost_is known text None e = λ k path leads.
    let none = none_is (λ at. option_map (parts_at text at) (path_to known text at)) (suc (length text)) e k (cut_within text k leads.cut) in
    some_is_not_none (parts_at text k path) (sym (ap (option_map (parts_at text k)) (led_to known text k path leads)) ∙ none)

pub split_is_longest : (known : List (List ℕ) → Bool) (text : List ℕ) → IfSome (split_of known text) (IsSplit known text)
split_is_longest known text = split_is known text (split_of known text) refl

pub no_split_is_lost : (known : List (List ℕ) → Bool) (text : List ℕ) → IfNone (split_of known text) (IsLost known text)
no_split_is_lost known text = lost_is known text (split_of known text) refl
