-- The end tag that closes an element.
use Rattle.std.proofs.Common.{◌≡◌, ◌+◌, ◌-◌, ℕ, zero, suc, Bool, true, false, not, ◌&&◌, eqb, List, [], ◌∷◌, ◌++◌, drop, length, Some, None, refl, ap, sym, subst, ◌∙◌, arith, append_assoc}
use Rattle.std.proofs.lemmas.Bool.{eqb-true}
use Rattle.sp_base.specs.Bytes.{begins_with_byte}
use Rattle.sp_base.proofs.BoolLemmas.{and_first, and_second}
use Rattle.sp_base.proofs.NatLemmas.{suc_is_not_zero}
use Rattle.htl_syntax.specs.Tokens.{begins, is_letter}
use Rattle.htl_blocks.specs.Markup.{same_name, tag_name, end_tag_name, is_self_closed, begins_tag, begins_end_tag, opens, closes, inside_len}
use Rattle.htl_blocks.specs.Laws.{Balanced, Closes, bytes_of}
use Rattle.htl_blocks.specs.Laws as laws

-- what may stand where so many tags of a name wait for their end tags
abbrev Waits : List ℕ → ℕ → List (List ℕ) → ℕ → Type 0
Waits name zero ps k = Closes name ps k
Waits name (suc w) ps k = (inner : List (List ℕ)) × (end : List ℕ) × (more : List (List ℕ)) × (left : ℕ) × (ps ≡ inner ++ end ∷ more) × Balanced name inner × (closes name end ≡ true) × Waits name w more left × (bytes_of inner + (length end + left) ≡ k)

bytes_of_both : (a b : List (List ℕ)) → bytes_of (a ++ b) ≡ bytes_of a + bytes_of b
bytes_of_both [] b = let none : bytes_of b ≡ 0 + bytes_of b = omega arith in none
bytes_of_both (p ∷ a) b = let ih = bytes_of_both a b in omega (arith, ih)

-- one more part that opens and closes nothing
other_before : (name p : List ℕ) (w : ℕ) (ps : List (List ℕ)) (k : ℕ) → opens name p ≡ false → closes name p ≡ false → Waits name w ps k → Waits name w (p ∷ ps) (length p + k)
other_before name p zero ps k a b x =
    let place = x.place in
    record { inner = p ∷ x.inner; end_tag = x.end_tag; more = x.more; split = ap (λ (l : List (List ℕ)). p ∷ l) x.split; balanced = laws.other a b x.balanced; closed = x.closed; place = omega (arith, place) }
other_before name p (suc w) ps k a b x = (p ∷ x.0, x.1, x.2, x.3, ap (λ (l : List (List ℕ)). p ∷ l) x.4, laws.other a b x.5, x.6, x.7, let place = x.8 in omega (arith, place))

regrouped : (p end : List ℕ) (inner between after : List (List ℕ)) → p ∷ (inner ++ end ∷ (between ++ after)) ≡ (p ∷ (inner ++ end ∷ between)) ++ after
regrouped p end inner between after = ap (λ (l : List (List ℕ)). p ∷ l) (sym (append_assoc inner (end ∷ between) after))

-- one more element
element_before : (name p end : List ℕ) (w : ℕ) (inner more : List (List ℕ)) (k : ℕ) → opens name p ≡ true → Balanced name inner → closes name end ≡ true → Waits name w more k → Waits name w (p ∷ (inner ++ end ∷ more)) (length p + (bytes_of inner + (length end + k)))
element_before name p end zero inner more k a b c x =
    let place = x.place in
    let sum = bytes_of_both inner (end ∷ x.inner) in
    record { inner = p ∷ (inner ++ end ∷ x.inner); end_tag = x.end_tag; more = x.more; split = ap (λ (l : List (List ℕ)). p ∷ (inner ++ end ∷ l)) x.split ∙ regrouped p end inner x.inner (x.end_tag ∷ x.more); balanced = laws.element p end inner x.inner a b c x.balanced; closed = x.closed; place = omega (arith, place, sum) }
element_before name p end (suc w) inner more k a b c x =
    let sum = bytes_of_both inner (end ∷ x.0) in
    let place = x.8 in
    (p ∷ (inner ++ end ∷ x.0), x.1, x.2, x.3, ap (λ (l : List (List ℕ)). p ∷ (inner ++ end ∷ l)) x.4 ∙ regrouped p end inner x.0 (x.1 ∷ x.2), laws.element p end inner x.0 a b c x.5, x.6, x.7, omega (arith, place, sum))

-- the element that was opened is one more
opened : (name p : List ℕ) (w : ℕ) (ps : List (List ℕ)) (k : ℕ) → opens name p ≡ true → Waits name (suc w) ps k → Waits name w (p ∷ ps) (length p + k)
opened name p w ps k a x = rw x.4 (subst (λ (n : ℕ). Waits name w (p ∷ (x.0 ++ x.1 ∷ x.2)) (length p + n)) x.8 (element_before name p x.1 w x.0 x.2 x.3 a x.5 x.6 x.7))

-- a part that ends an element
closed_here : (name p : List ℕ) (w : ℕ) (ps : List (List ℕ)) (k : ℕ) → closes name p ≡ true → Waits name w ps k → Waits name (suc w) (p ∷ ps) (length p + k)
closed_here name p w ps k a x = ([], p, ps, k, refl, laws.nothing, a, x, let same : 0 + (length p + k) ≡ length p + k = omega arith in same)

ends_here : (name p : List ℕ) (ps : List (List ℕ)) → closes name p ≡ true → Waits name zero (p ∷ ps) 0
ends_here name p ps a = record { inner = []; end_tag = p; more = ps; split = refl; balanced = laws.nothing; closed = a; place = refl }

-- ---- one part

no_test : (w : ℕ) → (eqb w 0 && false) ≡ false
no_test w = go (eqb w 0)
  where
    go : (b : Bool) → (b && false) ≡ false
    go true = refl
    go false = refl

open_step : (name p : List ℕ) (w n : ℕ) (ps : List (List ℕ)) → opens name p ≡ true → closes name p ≡ false → inside_len name w n (p ∷ ps) ≡ inside_len name (suc w) (n + length p) ps
unfolding inside_len
open_step name p w n ps a b = let more : w + 1 ≡ suc w = omega arith in rw (b, a, no_test w, more) refl

close_step : (name p : List ℕ) (w n : ℕ) (ps : List (List ℕ)) → closes name p ≡ true → inside_len name (suc w) n (p ∷ ps) ≡ inside_len name w (n + length p) ps
unfolding inside_len
close_step name p w n ps a = let fewer : suc w - 1 ≡ w = omega arith in rw (a, suc_is_not_zero w, fewer) refl

other_step : (name p : List ℕ) (w n : ℕ) (ps : List (List ℕ)) → opens name p ≡ false → closes name p ≡ false → inside_len name w n (p ∷ ps) ≡ inside_len name w (n + length p) ps
unfolding inside_len
other_step name p w n ps a b = rw (b, a, no_test w) refl

end_step : (name p : List ℕ) (n : ℕ) (ps : List (List ℕ)) → closes name p ≡ true → inside_len name 0 n (p ∷ ps) ≡ Some n
unfolding inside_len
end_step name p n ps a = rw a refl

no_parts_left : (name : List ℕ) (w n : ℕ) → inside_len name w n [] ≡ None
unfolding inside_len
no_parts_left name w n = refl

found_from : (name : List ℕ) (w n : ℕ) (ps : List (List ℕ)) (m : ℕ) → inside_len name w n ps ≡ Some m → (k : ℕ) × (n + k ≡ m) × Waits name w ps k
found_from name w n [] m e = absurd (let none = no_parts_left name w n in cc)
found_from name w n (p ∷ ps) m e = go w (closes name p) refl (opens name p) refl e (λ v x. found_from name v (n + length p) ps m x)
  where
    go : (v : ℕ) (a : Bool) → closes name p ≡ a → (b : Bool) → opens name p ≡ b → inside_len name v n (p ∷ ps) ≡ Some m → ((u : ℕ) → inside_len name u (n + length p) ps ≡ Some m → (k : ℕ) × ((n + length p) + k ≡ m) × Waits name u ps k) → (k : ℕ) × (n + k ≡ m) × Waits name v (p ∷ ps) k
    go zero true ea b eb x ih = let here = end_step name p n ps ea in let same : n ≡ m = cc in (0, omega (arith, same), ends_here name p ps ea)
    go (suc v) true ea b eb x ih = let y = ih v (sym (close_step name p v n ps ea) ∙ x) in let sum = y.1 in (length p + y.0, omega (arith, sum), closed_here name p v ps y.0 ea y.2)
    go v false ea true eb x ih = let y = ih (suc v) (sym (open_step name p v n ps eb ea) ∙ x) in let sum = y.1 in (length p + y.0, omega (arith, sum), opened name p v ps y.0 eb y.2)
    go v false ea false eb x ih = let y = ih v (sym (other_step name p v n ps eb ea) ∙ x) in let sum = y.1 in (length p + y.0, omega (arith, sum), other_before name p v ps y.0 eb ea y.2)

-- where an end tag is found, what stands before it is balanced
pub found_is_balanced : (name : List ℕ) (ps : List (List ℕ)) (m : ℕ) → inside_len name 0 0 ps ≡ Some m → Closes name ps m
found_is_balanced name ps m e = let x = found_from name 0 0 ps m e in let same : x.0 ≡ m = let sum = x.1 in omega (arith, sum) in subst (λ (k : ℕ). Closes name ps k) same x.2

-- a tag is no end tag
letter_is_no_slash : (t : List ℕ) → begins is_letter t ≡ true → begins_with_byte 47 t ≡ false
unfolding begins begins_with_byte
letter_is_no_slash [] h = absurd cc
letter_is_no_slash (c ∷ t) h = go (eqb c 47) refl
  where
    go : (b : Bool) → eqb c 47 ≡ b → b ≡ false
    go true e = absurd (let same : is_letter c ≡ is_letter 47 = ap is_letter (eqb-true c 47 e) in cc)
    go false e = refl

opens_no_end : (name p : List ℕ) → opens name p ≡ true → closes name p ≡ false
unfolding opens closes begins_tag begins_end_tag
opens_no_end name p h =
    let x = letter_is_no_slash (drop 1 p) (and_second (begins_with_byte 60 p) (begins is_letter (drop 1 p)) (and_first (begins_with_byte 60 p && begins is_letter (drop 1 p)) (same_name (tag_name p) name && not (is_self_closed p)) h)) in
    rw x (none (begins_with_byte 60 p) (same_name (end_tag_name p) name))
  where
    none : (b c : Bool) → ((b && false) && c) ≡ false
    none true c = refl
    none false c = refl

-- balanced parts are passed
passed : (name : List ℕ) (w n : ℕ) (inner more : List (List ℕ)) → Balanced name inner → inside_len name w n (inner ++ more) ≡ inside_len name w (n + bytes_of inner) more
passed name w n _ more laws.nothing = ap (λ (k : ℕ). inside_len name w k more) (let same : n ≡ n + 0 = omega arith in same)
passed name w n _ more (laws.other {p = p} {more = inner} a b x) =
    let sum : (n + length p) + bytes_of inner ≡ n + (length p + bytes_of inner) = omega arith in
    other_step name p w n (inner ++ more) a b ∙ passed name w (n + length p) inner more x ∙ ap (λ (k : ℕ). inside_len name w k more) sum
passed name w n _ more (laws.element p end inner later a x c y) =
    let both = bytes_of_both inner (end ∷ later) in
    let sum : (((n + length p) + bytes_of inner) + length end) + bytes_of later ≡ n + (length p + bytes_of (inner ++ end ∷ later)) = omega (arith, both) in
    open_step name p w n ((inner ++ end ∷ later) ++ more) a (opens_no_end name p a)
    ∙ ap (inside_len name (suc w) (n + length p)) (append_assoc inner (end ∷ later) more)
    ∙ passed name (suc w) (n + length p) inner (end ∷ (later ++ more)) x
    ∙ close_step name end w ((n + length p) + bytes_of inner) (later ++ more) c
    ∙ passed name w (((n + length p) + bytes_of inner) + length end) later more y
    ∙ ap (λ (k : ℕ). inside_len name w k more) sum

-- where what stands before an end tag is balanced, it is found
pub balanced_is_found : (name : List ℕ) (ps : List (List ℕ)) (m : ℕ) → Closes name ps m → inside_len name 0 0 ps ≡ Some m
balanced_is_found name ps m x =
    let place = x.place in
    let same : 0 + bytes_of x.inner ≡ m = omega (arith, place) in
    ap (inside_len name 0 0) x.split ∙ passed name 0 0 x.inner (x.end_tag ∷ x.more) x.balanced ∙ end_step name x.end_tag (0 + bytes_of x.inner) x.more x.closed ∙ ap Some same
