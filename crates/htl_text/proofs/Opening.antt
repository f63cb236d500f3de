-- The search of "${" by its first byte.
use Rattle.std.proofs.Common.{◌≡◌, ◌<◌, ◌≤◌, ◌+◌, ◌-◌, ℕ, zero, suc, Bool, true, false, cond, ◌||◌, ◌&&◌, eqb, List, [], ◌∷◌, drop, length, refl, ap, sym, ◌∙◌, arith}
use Rattle.std.proofs.lemmas.List.{length-drop}
use Rattle.sp_base.specs.Bytes.{begins_with_byte}
use Rattle.memchr.specs.Find.{Nowhere, NoneBefore, Passes, is_byte}
use Rattle.htl_text.specs.Template.{opens_expression, escapes, opening_len, plain_len}

-- no text begins with "${" where its first byte is another
not_dollar : (c : ℕ) (t : List ℕ) → (eqb c 36 ≡ true → ⊥) → opens_expression (c ∷ t) ≡ false
unfolding opens_expression
not_dollar c t other = go (eqb c 36) refl
  where
    go : (b : Bool) → eqb c 36 ≡ b → (b && begins_with_byte 123 t) ≡ false
    go true e = absurd (other e)
    go false e = refl

-- bytes other than "$" open nothing
passed : (n : ℕ) (t : List ℕ) → n ≤ length t → Nowhere (Passes (is_byte 36) t) 0 n → opening_len t ≡ n + opening_len (drop n t)
unfolding opening_len
passed zero t within none = omega arith
passed (suc n) [] within none = absurd (omega (arith, within))
passed (suc n) (c ∷ t) within none =
    let ih = passed n t (omega (arith, within)) (λ k low high. none (suc k) (omega arith) (omega (arith, high))) in
    rw (not_dollar c t (none 0 (omega arith) (omega arith))) (omega (arith, ih))

-- a "$" that opens nothing is passed
passed_dollar : (t : List ℕ) → 0 < length t → opens_expression t ≡ false → opening_len t ≡ suc (opening_len (drop 1 t))
unfolding opening_len
passed_dollar [] some e = absurd (omega (arith, some))
passed_dollar (c ∷ t) some e = rw e refl

opens_there : (t : List ℕ) → opens_expression t ≡ true → opening_len t ≡ 0
unfolding opening_len
opens_there [] e = refl
opens_there (c ∷ t) e = rw e refl

none_left : (t : List ℕ) → opening_len (drop (length t) t) ≡ 0
unfolding opening_len
none_left [] = refl
none_left (c ∷ t) = none_left t

-- no "$" is left
pub returns_all : (rest text : List ℕ) → Nowhere (Passes (is_byte 36) rest) 0 (length rest) → length rest ≤ length text → opening_len text ≡ (length text - length rest) + opening_len rest → length text ≡ opening_len text
returns_all rest text none within inv =
    let all = passed (length rest) rest (omega arith) none in
    let end = none_left rest in
    omega (arith, all, end, within, inv)

-- the next "$" opens an expression
pub returns_open : (n : ℕ) (rest prefix text : List ℕ) → NoneBefore (Passes (is_byte 36) rest) 0 (length rest) n → prefix ≡ drop n rest → opens_expression prefix ≡ true → length rest ≤ length text
    → opening_len text ≡ (length text - length rest) + opening_len rest → length text - length prefix ≡ opening_len text
returns_open n rest prefix text first ef e within inv =
    let below = first.high in
    let plain = passed n rest (omega (arith, below)) first.before in
    let left : length prefix ≡ length rest - n = rw ef (length-drop n rest) in
    let none : opening_len (drop n rest) ≡ 0 = opens_there (drop n rest) (rw ef at e) in
    omega (arith, below, plain, left, none, within, inv)

-- the next "$" opens none
pub goes_on : (n : ℕ) (rest prefix later text : List ℕ) → NoneBefore (Passes (is_byte 36) rest) 0 (length rest) n → prefix ≡ drop n rest → opens_expression prefix ≡ false → later ≡ drop 1 prefix → length rest ≤ length text
    → opening_len text ≡ (length text - length rest) + opening_len rest → (length later ≤ length text) × (opening_len text ≡ (length text - length later) + opening_len later)
goes_on n rest prefix later text first ef e el within inv =
    let below = first.high in
    let plain = passed n rest (omega (arith, below)) first.before in
    let left : length prefix ≡ length rest - n = rw ef (length-drop n rest) in
    let fewer : length later ≡ length prefix - 1 = rw el (length-drop 1 prefix) in
    let shut : opening_len prefix ≡ suc (opening_len later) = rw el (passed_dollar prefix (omega (arith, left, below)) e) in
    let same : opening_len (drop n rest) ≡ opening_len prefix = rw ef refl in
    (omega (arith, left, fewer, within), omega (arith, below, plain, left, fewer, shut, same, within, inv))

stays_shut : (m : ℕ) (t : List ℕ) → opening_len t ≡ suc m → opens_expression t ≡ false
unfolding opening_len
stays_shut m [] h = absurd cc
stays_shut m (c ∷ t) h = go (opens_expression (c ∷ t)) refl h
  where
    go : (b : Bool) → opens_expression (c ∷ t) ≡ b → cond b 0 (suc (opening_len t)) ≡ suc m → opens_expression (c ∷ t) ≡ false
    go true e x = absurd cc
    go false e x = e

shut_escape : (c : ℕ) (t : List ℕ) → opens_expression t ≡ false → escapes (c ∷ t) ≡ false
unfolding escapes
shut_escape c t e = go (eqb c 92)
  where
    go : (b : Bool) → (b && opens_expression t) ≡ false
    go true = e
    go false = refl

pub plain_none : (t : List ℕ) → opening_len t ≡ 0 → plain_len t ≡ 0
unfolding opening_len plain_len
plain_none [] h = refl
plain_none (c ∷ t) h = go (opens_expression (c ∷ t)) h
  where
    go : (b : Bool) → cond b 0 (suc (opening_len t)) ≡ 0 → cond (b || escapes (c ∷ t)) 0 (suc (plain_len t)) ≡ 0
    go true x = refl
    go false x = absurd cc

later : (b : Bool) (m : ℕ) → suc (cond b m (suc m)) ≡ cond b (suc m) (suc (suc m))
later true m = refl
later false m = refl

-- plain bytes end at "${", or at the backslash before it
pub plain_before : (m : ℕ) (t : List ℕ) → opening_len t ≡ suc m → plain_len t ≡ cond (escapes (drop m t)) m (suc m)
unfolding opening_len plain_len
plain_before m [] h = absurd cc
plain_before zero (c ∷ t) h = go (opens_expression (c ∷ t)) (stays_shut zero (c ∷ t) h) h
  where
    go : (b : Bool) → b ≡ false → cond b 0 (suc (opening_len t)) ≡ suc zero → cond (b || escapes (c ∷ t)) 0 (suc (plain_len t)) ≡ cond (escapes (c ∷ t)) 0 1
    go true e x = absurd cc
    go false e x = let none : opening_len t ≡ 0 = omega (arith, x) in rw (plain_none t none) refl
plain_before (suc m) (c ∷ t) h = go (opens_expression (c ∷ t)) (stays_shut (suc m) (c ∷ t) h) h (plain_before m t)
  where
    go : (b : Bool) → b ≡ false → cond b 0 (suc (opening_len t)) ≡ suc (suc m) → (opening_len t ≡ suc m → plain_len t ≡ cond (escapes (drop m t)) m (suc m))
        → cond (b || escapes (c ∷ t)) 0 (suc (plain_len t)) ≡ cond (escapes (drop m t)) (suc m) (suc (suc m))
    go true e x ih = absurd cc
    go false e x ih =
        let there : opening_len t ≡ suc m = omega (arith, x) in
        rw (shut_escape c t (stays_shut m t there)) (ap suc (ih there) ∙ later (escapes (drop m t)) m)

pub opening_within : (t : List ℕ) → opening_len t ≤ length t
unfolding opening_len
opening_within [] = omega arith
opening_within (c ∷ t) = go (opens_expression (c ∷ t)) (opening_within t)
  where
    go : (b : Bool) → opening_len t ≤ length t → cond b 0 (suc (opening_len t)) ≤ length (c ∷ t)
    go true ih = omega arith
    go false ih = omega (arith, ih)

-- the answer where a backslash stands before "${"
pub ends_escape : (n : ℕ) (t prefix : List ℕ) → n ≡ opening_len t → 0 < n → prefix ≡ drop (n - 1) t → escapes prefix ≡ true → n - 1 ≡ plain_len t
ends_escape zero t prefix en some ef e = absurd (omega (arith, some))
ends_escape (suc m) t prefix en some ef e =
    let less : suc m - 1 ≡ m = omega arith in
    rw less (sym (plain_before m t (sym en) ∙ ap (λ (b : Bool). cond b m (suc m)) (sym (ap escapes (rw less at ef)) ∙ e)))

-- the answer where none does
pub ends_open : (n : ℕ) (t prefix : List ℕ) → n ≡ opening_len t → 0 < n → prefix ≡ drop (n - 1) t → escapes prefix ≡ false → n ≡ plain_len t
ends_open zero t prefix en some ef e = absurd (omega (arith, some))
ends_open (suc m) t prefix en some ef e =
    let less : suc m - 1 ≡ m = omega arith in
    sym (plain_before m t (sym en) ∙ ap (λ (b : Bool). cond b m (suc m)) (sym (ap escapes (rw less at ef)) ∙ e))
