-- No text that goes on alike up to and with the byte of a fault is an expression.
use Rattle.std.proofs.Common.{◌≡◌, ℕ, ◌+◌, ◌-◌, ◌≤◌, Bool, true, false, cond, ◌||◌, ◌&&◌, eqb, List, [], ◌∷◌, ◌++◌, take, drop, length, Result, Ok, Err, refl, ap, sym, subst, ◌∙◌, arith, append_assoc}
use Rattle.std.proofs.lemmas.List.{length-append, take-append-drop, take_at, drop_at}
use Rattle.std.proofs.lemmas.Bool.{eqb-true}
use Rattle.std.proofs.lemmas.Bool.Decides.{nat_tests}
use Rattle.sp_base.specs.Bytes.{begins_with_byte}
use Rattle.htl_syntax.specs.declared.stop.ExprStop.{ExprStop}
use Rattle.htl_syntax.specs.declared.stop.ExprStop.TheVariants.{NoMemory, Unexpected, TooDeep}
use Rattle.htl_syntax.specs.declared.expression.Expression.{Expression}
use Rattle.htl_syntax.specs.declared.tokens.NameKind.TheVariants.{Field}
use Rattle.htl_syntax.specs.Tokens.{begins, goes_on, is_letter, is_word_byte}
use Rattle.htl_syntax.specs.Read.{expression_read}
use Rattle.htl_syntax.specs.Grammar.{WholeWithin}
use Rattle.htl_syntax.specs.Fault.{nests, SameHead, Agree, HasNone, colon_letter, passes_colon, takes_colon, fault_place}
use Rattle.htl_syntax.proofs.TokensRead.{byte_at}
use Rattle.htl_syntax.proofs.Unique.{only_err}
use Rattle.htl_syntax.proofs.Local.{Same, same_after, head_in, IsAt, moved}
use Rattle.htl_syntax.proofs.LocalOptions.{Left, failed}

module _ (levels : ℕ) where
  -- a text that isn't read
  abbrev IsRefused : List ℕ → Type 0
  IsRefused t = (d : ExprStop) × (expression_read levels t ≡ Err d)

  no_colon : (r z : List ℕ) → begins_with_byte 58 r ≡ false → SameHead r z → Same r z
  unfolding begins_with_byte goes_on
  no_colon [] [] n h = (tt, λ e. e)
  no_colon [] (d ∷ z) n h = absurd h
  no_colon (c ∷ r) [] n h = absurd h
  no_colon (c ∷ r) (d ∷ z) n h = (h, λ e. (let a : goes_on Field (c ∷ z) ≡ true = ap (λ (x : ℕ). is_word_byte x || (eqb x 58 && begins is_letter z)) h ∙ e in let b : (is_word_byte c || (false && begins is_letter z)) ≡ true = ap (λ (y : Bool). is_word_byte c || (y && begins is_letter z)) (sym n) ∙ a in ap (λ (y : Bool). is_word_byte c || (y && begins is_letter r)) n ∙ b))

  colon_same : (z : List ℕ) → begins_with_byte 58 z ≡ true → Same colon_letter z
  unfolding begins_with_byte goes_on begins
  colon_same [] e = absurd cc
  colon_same (c ∷ z) e = (sym (eqb-true c 58 e), λ _. refl)

  -- ---- where a colon may not belong to a name

  pub record Parted (leading w begin rest : List ℕ) : Type 0 where
    pub middle : List ℕ
    pub prefix_is : leading ≡ begin ++ middle
    pub rest_is : rest ≡ middle ++ w

  part : (leading w begin rest : List ℕ) → leading ++ w ≡ begin ++ rest → length w ≤ length rest → Parted leading w begin rest
  part leading w [] rest e le = record { middle = leading; prefix_is = refl; rest_is = sym e }
  part [] w (c ∷ begin) rest e le = absurd (omega (arith, ap length e, length-append begin rest))
  part (b ∷ leading) w (c ∷ begin) rest e le =
      let heads : b ≡ c = cc in
      let tails : leading ++ w ≡ begin ++ rest = cc in
      let p = part leading w begin rest tails le in
      record { middle = p.middle; prefix_is = ap (λ (x : ℕ). x ∷ leading) heads ∙ ap (λ (t : List ℕ). c ∷ t) p.prefix_is; rest_is = p.rest_is }

  last_is : (middle : List ℕ) (c : ℕ) → colon_letter ≡ middle ++ c ∷ [] → 98 ≡ c
  last_is [] c e = absurd (omega (arith, ap length e))
  last_is (a ∷ []) c e = cc
  last_is (a ∷ b ∷ middle) c e = absurd (omega (arith, ap length e, length-append middle (c ∷ [])))

  -- too deep a nesting is met at no letter
  deep_rest : (leading begin rest : List ℕ) → leading ++ colon_letter ≡ begin ++ rest → begins nests rest ≡ true → 2 ≤ length rest
  unfolding begins
  deep_rest leading begin [] e n = absurd cc
  deep_rest leading begin (c ∷ []) e n =
      let p = part begin (c ∷ []) leading colon_letter (sym e) (omega arith) in
      let letter : nests 98 ≡ true = ap nests (last_is p.middle c p.rest_is) ∙ n in
      absurd cc
  deep_rest leading begin (c ∷ d ∷ rest) e n = omega arith

  rest_len : (leading : List ℕ) (d : ExprStop) (begin rest : List ℕ) → leading ++ colon_letter ≡ begin ++ rest → IsAt d rest → passes_colon (Err d) ≡ false → 2 ≤ length rest
  rest_len leading NoMemory begin rest e i p = absurd i
  rest_len leading (Unexpected left) begin rest e i p = rw i (grind (arith, nat_tests))
  rest_len leading (TooDeep left) begin rest e i p = deep_rest leading begin rest e i.1

  colon_refused : (leading z : List ℕ) → takes_colon levels leading ≡ false → begins_with_byte 58 z ≡ true → IsRefused (leading ++ z)
  colon_refused leading z alone at = go (expression_read levels (leading ++ colon_letter)) refl alone
    where
      by_fault : (d : ExprStop) → Left levels d (leading ++ colon_letter) → passes_colon (Err d) ≡ false → IsRefused (leading ++ z)
      by_fault d k p =
          let q = part leading colon_letter k.leading k.rest k.parts (rest_len leading d k.leading k.rest k.parts k.left p) in
          let near : Same k.rest (q.middle ++ z) = subst (λ (t : List ℕ). Same t (q.middle ++ z)) (sym q.rest_is) (head_in q.middle colon_letter z (colon_same z at)) in
          let parts : leading ++ z ≡ k.leading ++ (q.middle ++ z) = ap (λ (t : List ℕ). t ++ z) q.prefix_is ∙ append_assoc k.leading q.middle z in
          (moved d (length (q.middle ++ z)), ap (expression_read levels) parts ∙ k.same (q.middle ++ z) near)

      go : (o : Result Expression ExprStop) → expression_read levels (leading ++ colon_letter) ≡ o → passes_colon o ≡ false → IsRefused (leading ++ z)
      go (Ok e) r p = absurd cc
      go (Err d) r p = by_fault d (failed levels d (leading ++ colon_letter) r) p

  -- ---- the place

  -- what agrees up to and with the first byte of the rest
  none_from : (s leading rest : List ℕ) → s ≡ leading ++ rest → ((z : List ℕ) → SameHead rest z → IsRefused (leading ++ z)) → HasNone levels s (length leading)
  none_from s leading rest parts refused = record { within = omega (arith, ap length parts, length-append leading rest); none = none }
    where
      prefix_is : take (length leading) s ≡ leading
      prefix_is = ap (λ (q : List ℕ). take (length leading) q) parts ∙ take_at leading rest (length leading) refl

      rest_is : drop (length leading) s ≡ rest
      rest_is = ap (λ (q : List ℕ). drop (length leading) q) parts ∙ drop_at leading rest (length leading) refl

      none : (t : List ℕ) (e : Expression) → Agree (length leading) s t → WholeWithin levels t e → ⊥
      none t e agree w =
          let z = drop (length leading) t in
          let t_is : t ≡ leading ++ z = sym (take-append-drop (length leading) t) ∙ ap (λ (q : List ℕ). q ++ z) (agree.leading ∙ prefix_is) in
          let near : SameHead rest z = subst (λ (q : List ℕ). SameHead q z) rest_is agree.here in
          let f = refused z near in
          only_err levels t f.0 (ap (expression_read levels) t_is ∙ f.1) e w

  none_plain : (d : ExprStop) (s : List ℕ) (k : Left levels d s) → begins_with_byte 58 k.rest ≡ false → HasNone levels s (length k.leading)
  none_plain d s k plain = none_from s k.leading k.rest k.parts (λ z h. (moved d (length z), k.same z (no_colon k.rest z plain h)))

  -- after a colon that may belong to a name
  none_after : (d : ExprStop) (s : List ℕ) (k : Left levels d s) → begins_with_byte 58 k.rest ≡ true → HasNone levels s (length k.leading + 1)
  none_after d s k at =
      let u = drop 1 k.rest in
      let leading = k.leading ++ 58 ∷ [] in
      let rest_is : k.rest ≡ 58 ∷ u = byte_at 58 k.rest at in
      let parts : s ≡ leading ++ u = k.parts ∙ ap (λ (t : List ℕ). k.leading ++ t) rest_is ∙ sym (append_assoc k.leading (58 ∷ []) u) in
      subst (HasNone levels s) (length-append k.leading (58 ∷ []))
      (none_from s leading u parts (λ z h. (moved d (length (58 ∷ z)), ap (expression_read levels) (append_assoc k.leading (58 ∷ []) z) ∙ k.same (58 ∷ z) (subst (λ (t : List ℕ). Same t (58 ∷ z)) (sym rest_is) (same_after 58 u z h)))))

  colon_head : (r z : List ℕ) → SameHead r z → begins_with_byte 58 r ≡ true → begins_with_byte 58 z ≡ true
  unfolding begins_with_byte
  colon_head [] z h e = absurd cc
  colon_head (c ∷ r) [] h e = absurd h
  colon_head (c ∷ r) (d ∷ z) h e = ap (λ (x : ℕ). eqb x 58) (sym h) ∙ e

  -- the length of the prefix before the byte at fault, by how many bytes are left
  leading_len : (d : ExprStop) (s : List ℕ) (k : Left levels d s) (left : ℕ) → length k.rest ≡ left → length s - left ≡ length k.leading
  leading_len d s k left len = omega (arith, ap length k.parts, length-append k.leading k.rest, len)

  place_is : (d : ExprStop) (s : List ℕ) (k : Left levels d s) → fault_place levels s (length k.leading) ≡ cond (begins_with_byte 58 k.rest && takes_colon levels k.leading) (length k.leading + 1) (length k.leading)
  place_is d s k =
      let prefix_is : take (length k.leading) s ≡ k.leading = ap (λ (q : List ℕ). take (length k.leading) q) k.parts ∙ take_at k.leading k.rest (length k.leading) refl in
      let rest_is : drop (length k.leading) s ≡ k.rest = ap (λ (q : List ℕ). drop (length k.leading) q) k.parts ∙ drop_at k.leading k.rest (length k.leading) refl in
      ap (λ (q : List ℕ). cond (begins_with_byte 58 q && takes_colon levels (take (length k.leading) s)) (length k.leading + 1) (length k.leading)) rest_is ∙ ap (λ (q : List ℕ). cond (begins_with_byte 58 k.rest && takes_colon levels q) (length k.leading + 1) (length k.leading)) prefix_is

  pub none_left : (s : List ℕ) (left : ℕ) → expression_read levels s ≡ Err (Unexpected left) → HasNone levels s (fault_place levels s (length s - left))
  none_left s left e =
      let len : length s - left ≡ length k.leading = leading_len (Unexpected left) s k left k.left in
      subst (HasNone levels s) (sym (ap (fault_place levels s) len ∙ place_is (Unexpected left) s k)) (go (begins_with_byte 58 k.rest) (takes_colon levels k.leading) refl refl)
    where
      k : Left levels (Unexpected left) s
      k = failed levels (Unexpected left) s e

      go : (a b : Bool) → begins_with_byte 58 k.rest ≡ a → takes_colon levels k.leading ≡ b → HasNone levels s (cond (a && b) (length k.leading + 1) (length k.leading))
      go false b a-is b-is = none_plain (Unexpected left) s k a-is
      go true false a-is b-is = none_from s k.leading k.rest k.parts (λ z h. colon_refused k.leading z b-is (colon_head k.rest z h a-is))
      go true true a-is b-is = none_after (Unexpected left) s k a-is

  deep_plain : (rest : List ℕ) → begins nests rest ≡ true → begins_with_byte 58 rest ≡ false
  unfolding begins begins_with_byte
  deep_plain [] e = absurd cc
  deep_plain (c ∷ rest) e = grind (arith, nat_tests)

  pub none_deep : (s : List ℕ) (left : ℕ) → expression_read levels s ≡ Err (TooDeep left) → HasNone levels s (length s - left)
  none_deep s left e =
      let k = failed levels (TooDeep left) s e in
      subst (HasNone levels s) (sym (leading_len (TooDeep left) s k left k.left.0)) (none_plain (TooDeep left) s k (deep_plain k.rest k.left.1))

  pub nests_deep : (s : List ℕ) (left : ℕ) → expression_read levels s ≡ Err (TooDeep left) → begins nests (drop (length s - left) s) ≡ true
  nests_deep s left e =
      let k = failed levels (TooDeep left) s e in
      let rest_is : drop (length k.leading) s ≡ k.rest = ap (λ (q : List ℕ). drop (length k.leading) q) k.parts ∙ drop_at k.leading k.rest (length k.leading) refl in
      ap (λ (n : ℕ). begins nests (drop n s)) (leading_len (TooDeep left) s k left k.left.0) ∙ ap (begins nests) rest_is ∙ k.left.1
