-- Steps over the beginning of a template's text.
use Rattle.std.proofs.Common.{◌≡◌, ◌<◌, ◌≤◌, ◌+◌, ◌-◌, ℕ, zero, suc, Bool, true, false, cond, ◌||◌, ◌&&◌, eqb, List, [], ◌∷◌, ◌++◌, take, drop, length, slice_index, codes, Some, Result, Ok, Err, refl, ap, sym, subst, ◌∙◌, rules, arith, append_assoc}
use Rattle.std.specs.Str.{IsCharBoundary}
use Rattle.std.proofs.lemmas.Bool.{or_right}
use Rattle.std.proofs.lemmas.Bool.Decides.{nat_tests}
use Rattle.std.proofs.lemmas.List.{append-nil, length-drop}
use Rattle.sp_base.specs.Bytes.{begins_with_byte}
use Rattle.sp_base.proofs.ListLemmas.{drop_short, index_drop}
use Rattle.sp_base.proofs.TextLemmas.{rest_after_byte}
use Rattle.htl_syntax.proofs.Scan.{prefix_ascii}
use Rattle.htl_text.specs.declared.fault.TextFault.{TextFault}
use Rattle.htl_text.specs.declared.piece.TemplatePiece.{TemplatePiece}
use Rattle.htl_text.specs.declared.piece.TemplatePiece.TheVariants.{Plain, Value}
use Rattle.htl_text.specs.declared.quotes.Quotes.{Quotes}
use Rattle.htl_text.specs.declared.quotes.Quotes.TheVariants.{Outside, Inside, Escaped}
use Rattle.htl_text.specs.Template.{opens_expression, escapes, quotes_step, closes_expression, closing, pieces_after_plain, with_plain, template_pieces, plain_len}

written_nil : (r : Result (List TemplatePiece) TextFault) → with_plain [] r ≡ r
written_nil (Ok ps) = refl
written_nil (Err f) = refl

in_prefix_twice : (a b : List ℕ) (ps : List TemplatePiece) → pieces_after_plain a (pieces_after_plain b ps) ≡ pieces_after_plain (a ++ b) ps
in_prefix_twice [] b ps = refl
in_prefix_twice (c ∷ a) [] ps = ap (λ (l : List ℕ). pieces_after_plain (c ∷ l) ps) (sym (append-nil a))
in_prefix_twice (c ∷ a) (d ∷ b) [] = refl
in_prefix_twice (c ∷ a) (d ∷ b) (Plain more ∷ ps) = ap (λ (l : List ℕ). Plain (c ∷ l) ∷ ps) (sym (append_assoc a (d ∷ b) more))
in_prefix_twice (c ∷ a) (d ∷ b) (Value e ∷ ps) = refl

pub written_twice : (a b : List ℕ) (r : Result (List TemplatePiece) TextFault) → with_plain a (with_plain b r) ≡ with_plain (a ++ b) r
written_twice a b (Ok ps) = ap Ok (in_prefix_twice a b ps)
written_twice a b (Err f) = refl

-- bytes that belong to the piece before are passed over
pub skipped : (all n : ℕ) (t : List ℕ) → template_pieces all n t ≡ template_pieces all 0 (drop n t)
unfolding template_pieces
skipped all zero t = refl
skipped all (suc n) [] = refl
skipped all (suc n) (c ∷ t) = skipped all n t

-- plain bytes are written before what follows
pub plain_step : (all : ℕ) (t : List ℕ) → template_pieces all 0 t ≡ with_plain (take (plain_len t) t) (template_pieces all 0 (drop (plain_len t) t))
unfolding template_pieces plain_len
plain_step all [] = refl
plain_step all (c ∷ t) = go (opens_expression (c ∷ t)) (escapes (c ∷ t)) refl refl (plain_step all t)
  where
    go : (a b : Bool) → opens_expression (c ∷ t) ≡ a → escapes (c ∷ t) ≡ b → template_pieces all 0 t ≡ with_plain (take (plain_len t) t) (template_pieces all 0 (drop (plain_len t) t))
        → template_pieces all 0 (c ∷ t) ≡ with_plain (take (cond (a || b) 0 (suc (plain_len t))) (c ∷ t)) (template_pieces all 0 (drop (cond (a || b) 0 (suc (plain_len t))) (c ∷ t)))
    go true b ea eb ih = sym (written_nil (template_pieces all 0 (c ∷ t)))
    go false true ea eb ih = sym (written_nil (template_pieces all 0 (c ∷ t)))
    go false false ea eb ih = rw (ea, eb) (ap (with_plain (c ∷ [])) ih ∙ written_twice (c ∷ []) (take (plain_len t) t) (template_pieces all 0 (drop (plain_len t) t)))

-- a "}" stands at the place that closes an expression
pub closing_at : (quotes : Quotes) (n : ℕ) (t : List ℕ) (m : ℕ) → closing quotes n t ≡ Some m → (n ≤ m) × (m - n < length t) × (slice_index t (m - n) ≡ 125)
unfolding closing
closing_at quotes n [] m h = absurd cc
closing_at quotes n (c ∷ t) m h = go (closes_expression quotes c) refl h (closing_at (quotes_step quotes c) (n + 1) t m)
  where
    found : (q : Quotes) → closes_expression q c ≡ true → c ≡ 125
    found Outside e = search rules
    found (Inside mark) e = absurd cc
    found (Escaped mark) e = absurd cc

    go : (b : Bool) → closes_expression quotes c ≡ b → cond b (Some n) (closing (quotes_step quotes c) (n + 1) t) ≡ Some m
        → (closing (quotes_step quotes c) (n + 1) t ≡ Some m → (n + 1 ≤ m) × (m - (n + 1) < length t) × (slice_index t (m - (n + 1)) ≡ 125))
        → (n ≤ m) × (m - n < length (c ∷ t)) × (slice_index (c ∷ t) (m - n) ≡ 125)
    go true e h' ih = let same : n ≡ m = cc in let none : m - n ≡ 0 = omega (arith, same) in (omega (arith, same), omega (arith, none), rw none (found quotes e))
    go false e h' ih = let x = ih h' in let more : m - n ≡ suc (m - (n + 1)) = omega (arith, x.0) in (omega (arith, x.0), omega (arith, more, x.1), rw more x.2)

-- "${" at the beginning
pub record Opening (t : List ℕ) : Type 0 where
  pub first : slice_index t 0 < 128
  pub second : begins_with_byte 123 (drop 1 t) ≡ true

pub opening : (t : List ℕ) → opens_expression t ≡ true → Opening t
unfolding opens_expression
opening [] h = absurd cc
opening (c ∷ t) h = go (eqb c 36) (begins_with_byte 123 t) refl refl h
  where
    go : (a b : Bool) → eqb c 36 ≡ a → begins_with_byte 123 t ≡ b → (a && b) ≡ true → Opening (c ∷ t)
    go true true ea eb e = record { first = grind (arith, nat_tests); second = eb }
    go true false ea eb e = absurd cc
    go false b ea eb e = absurd cc

pub opens_first : (t : List ℕ) → opens_expression t ≡ true → slice_index t 0 < 128
opens_first t h = (opening t h).first

pub opens_second : (t : List ℕ) → opens_expression t ≡ true → slice_index (drop 1 t) 0 < 128
opens_second t h = prefix_ascii 123 (drop 1 t) (omega arith) (opening t h).second

first_less : (t : List ℕ) → length (drop 1 t) ≤ length t
first_less [] = omega arith
first_less (c ∷ t) = omega arith

pub opens_less : (n : ℕ) (t : List ℕ) → opens_expression t ≡ true → length (drop 1 (drop n (drop 1 (drop 1 t)))) < length t
opens_less n t h =
    let a = rest_after_byte 123 (drop 1 t) (opening t h).second in
    let b = first_less t in
    let c = drop_short n (drop 1 (drop 1 t)) in
    let d = first_less (drop n (drop 1 (drop 1 t))) in
    omega (arith, a, b, c, d)

minus_zero : (m : ℕ) → m - 0 ≡ m
minus_zero m = omega arith

closing_byte : (t : List ℕ) (m : ℕ) → closing Outside 0 t ≡ Some m → slice_index t m ≡ 125
closing_byte t m h = subst (λ (k : ℕ). slice_index t k ≡ 125) (minus_zero m) (closing_at Outside 0 t m h).2

closing_within : (t : List ℕ) (m : ℕ) → closing Outside 0 t ≡ Some m → m < length t
closing_within t m h = subst (λ (k : ℕ). k < length t) (minus_zero m) (closing_at Outside 0 t m h).1

pub closing_boundary : (t : List ℕ) (m : ℕ) → closing Outside 0 t ≡ Some m → IsCharBoundary t m
closing_boundary t m h = let x = closing_within t m h in (omega (arith, x), λ lt big. let y = closing_byte t m h in omega (arith, y, big))

pub closing_prefix : (t : List ℕ) (m : ℕ) → closing Outside 0 t ≡ Some m → slice_index (drop m t) 0 < 128
closing_prefix t m h = let y = closing_byte t m h in rw (index_drop m t) (omega (arith, y))

-- "\${" at the beginning
pub record Escape (t : List ℕ) : Type 0 where
  pub first : slice_index t 0 < 128
  pub less : length (drop 1 t) < length t
  pub opens : opens_expression (drop 1 t) ≡ true

pub escape : (t : List ℕ) → escapes t ≡ true → Escape t
unfolding escapes
escape [] h = absurd cc
escape (c ∷ t) h = go (eqb c 92) (opens_expression t) refl refl h
  where
    go : (a b : Bool) → eqb c 92 ≡ a → opens_expression t ≡ b → (a && b) ≡ true → Escape (c ∷ t)
    go true true ea eb e = record { first = grind (arith, nat_tests); less = omega arith; opens = eb }
    go true false ea eb e = absurd cc
    go false b ea eb e = absurd cc

not_opening : (t : List ℕ) → escapes t ≡ true → opens_expression t ≡ false
unfolding escapes opens_expression
not_opening [] h = absurd cc
not_opening (c ∷ t) h = go (eqb c 92) (eqb c 36) refl refl h
  where
    go : (a b : Bool) → eqb c 92 ≡ a → eqb c 36 ≡ b → (a && opens_expression t) ≡ true → (b && begins_with_byte 123 t) ≡ false
    go true true ea eb e = absurd (grind (arith, nat_tests))
    go true false ea eb e = refl
    go false b ea eb e = absurd cc

pub escape_step : (all : ℕ) (t : List ℕ) → escapes t ≡ true → template_pieces all 0 t ≡ with_plain (codes "${") (template_pieces all 0 (drop 1 (drop 1 (drop 1 t))))
unfolding template_pieces
escape_step all [] h = absurd (let x = (escape [] h).less in omega (arith, x))
escape_step all (c ∷ t) h = rw (not_opening (c ∷ t) h, h) (ap (with_plain (codes "${")) (skipped all 2 t ∙ ap (template_pieces all 0) (two t)))
  where
    two : (l : List ℕ) → drop 2 l ≡ drop 1 (drop 1 l)
    two [] = refl
    two (d ∷ l) = refl

pub plain_within : (t : List ℕ) → plain_len t ≤ length t
unfolding plain_len
plain_within [] = omega arith
plain_within (c ∷ t) = go (opens_expression (c ∷ t) || escapes (c ∷ t)) (plain_within t)
  where
    go : (b : Bool) → plain_len t ≤ length t → cond b 0 (suc (plain_len t)) ≤ length (c ∷ t)
    go true ih = omega arith
    go false ih = omega arith

-- an opening or an escape stands after the plain bytes, or nothing
pub plain_stops : (t : List ℕ) → (eqb (length (drop (plain_len t) t)) 0 || (opens_expression (drop (plain_len t) t) || escapes (drop (plain_len t) t))) ≡ true
unfolding plain_len
plain_stops [] = refl
plain_stops (c ∷ t) = go (opens_expression (c ∷ t) || escapes (c ∷ t)) refl (plain_stops t)
  where
    go : (b : Bool) → (opens_expression (c ∷ t) || escapes (c ∷ t)) ≡ b → (eqb (length (drop (plain_len t) t)) 0 || (opens_expression (drop (plain_len t) t) || escapes (drop (plain_len t) t))) ≡ true
        → (eqb (length (drop (cond b 0 (suc (plain_len t))) (c ∷ t))) 0 || (opens_expression (drop (cond b 0 (suc (plain_len t))) (c ∷ t)) || escapes (drop (cond b 0 (suc (plain_len t))) (c ∷ t)))) ≡ true
    go true e ih = or_right (eqb (length (c ∷ t)) 0) (opens_expression (c ∷ t) || escapes (c ∷ t)) e
    go false e ih = ih

stops_first : (t : List ℕ) → 0 < length t → (eqb (length t) 0 || (opens_expression t || escapes t)) ≡ true → slice_index t 0 < 128
stops_first t lt h = go (eqb (length t) 0) (opens_expression t) (escapes t) refl refl refl h
  where
    go : (a b c : Bool) → eqb (length t) 0 ≡ a → opens_expression t ≡ b → escapes t ≡ c → (a || (b || c)) ≡ true → slice_index t 0 < 128
    go true b c ea eb ec e = absurd (grind (arith, nat_tests))
    go false true c ea eb ec e = opens_first t eb
    go false false true ea eb ec e = (escape t ec).first
    go false false false ea eb ec e = absurd cc

pub plain_boundary : (t : List ℕ) → IsCharBoundary t (plain_len t)
plain_boundary t = (plain_within t, λ lt big. let small = subst (λ (x : ℕ). x < 128) (index_drop (plain_len t) t) (stops_first (drop (plain_len t) t) (there (plain_len t) t lt) (plain_stops t)) in omega (arith, small, big))
  where
    there : (n : ℕ) (l : List ℕ) → n < length l → 0 < length (drop n l)
    there n l lt = rw (length-drop n l) (omega (arith, lt))

-- what is left is nothing, or an expression opens
pub stops_is : (n : ℕ) (rest remainder : List ℕ) → n ≡ plain_len rest → remainder ≡ drop n rest → escapes remainder ≡ false → (eqb (length remainder) 0 || opens_expression remainder) ≡ true
stops_is n rest remainder en eb none = go (eqb (length remainder) 0) (opens_expression remainder) refl refl (rw (eb, en) (plain_stops rest))
  where
    go : (a b : Bool) → eqb (length remainder) 0 ≡ a → opens_expression remainder ≡ b → (eqb (length remainder) 0 || (opens_expression remainder || escapes remainder)) ≡ true → (a || b) ≡ true
    go true b ea eo h = refl
    go false true ea eo h = refl
    go false false ea eo h = rw (ea, eo, none) at h

-- a text with more at its end is written before what is left
pub plain_is : (n : ℕ) (old new prefix remainder rest text : List ℕ) → n ≡ plain_len rest → prefix ≡ take n rest → remainder ≡ drop n rest → new ≡ old ++ prefix
    → ((all : ℕ) → with_plain old (template_pieces all 0 rest) ≡ template_pieces all 0 text) → (all : ℕ) → with_plain new (template_pieces all 0 remainder) ≡ template_pieces all 0 text
plain_is n old new prefix remainder rest text en ef eb ew inv all =
    rw (ew, ef, eb, en) (sym (written_twice old (take (plain_len rest) rest) (template_pieces all 0 (drop (plain_len rest) rest))) ∙ ap (with_plain old) (sym (plain_step all rest)) ∙ inv all)

pub escape_is : (old new remainder text : List ℕ) → escapes remainder ≡ true → new ≡ old ++ codes "${" → ((all : ℕ) → with_plain old (template_pieces all 0 remainder) ≡ template_pieces all 0 text)
    → (all : ℕ) → with_plain new (template_pieces all 0 (drop 1 (drop 1 (drop 1 remainder)))) ≡ template_pieces all 0 text
escape_is old new remainder text h ew inv all =
    rw ew (sym (written_twice old (codes "${") (template_pieces all 0 (drop 1 (drop 1 (drop 1 remainder))))) ∙ ap (with_plain old) (sym (escape_step all remainder h)) ∙ inv all)

pub escape_less : (t : List ℕ) → escapes t ≡ true → length (drop 1 (drop 1 (drop 1 t))) < length t
escape_less t h = let a = (escape t h).less in let b = first_less (drop 1 t) in let c = first_less (drop 1 (drop 1 t)) in omega (arith, a, b, c)
