-- The same of loops.
use Rattle.std.proofs.Common.{◌≡◌, ℕ, zero, suc, ◌<◌, ◌≤◌, Bool, true, false, cond, List, [], ◌∷◌, ◌++◌, length, Ok, Err, refl, ap, sym, subst, ◌∙◌, inl, inr, arith, append_assoc}
use Rattle.std.proofs.lemmas.List.{length-append}
use Rattle.sp_base.specs.Outcomes.{◌>>=◌}
use Rattle.sp_base.proofs.BoolLemmas.{cond_either}
use Rattle.htl_syntax.specs.declared.stop.ExprStop.{ExprStop}
use Rattle.htl_syntax.specs.Tokens.{Outcome}
use Rattle.htl_syntax.proofs.Tools.{bind_ok, ok_is}
use Rattle.htl_syntax.proofs.Local.{bind_err, Same, head_in, IsAt, moved, Kept, Failed, Local}

module _ {A : Type 0} (test : List ℕ → Bool) (item : List ℕ → Outcome A) where
  unfoldable pub loop : ℕ → List A → List ℕ → Outcome (List A)
  loop zero found t = Ok (found, t)
  loop (suc k) found t = cond (test t) (item t >>= λ x. loop k (found ++ x.0 ∷ []) x.1) (Ok (found, t))

  abbrev pub whole_loop : List A → List ℕ → Outcome (List A)
  whole_loop found t = loop (length t) found t

  record LoopKept (found : List A) (s : List ℕ) (xs : List A) (r : List ℕ) : Type 0 where
    pub leading : List ℕ
    pub parts : s ≡ leading ++ r
    pub same : (z : List ℕ) (j : ℕ) → Same r z → length (leading ++ z) ≤ j → loop j found (leading ++ z) ≡ Ok (xs, z)

  record LoopFailed (d : ExprStop) (found : List A) (s : List ℕ) : Type 0 where
    pub leading : List ℕ
    pub rest : List ℕ
    pub parts : s ≡ leading ++ rest
    pub left : IsAt d rest
    pub same : (z : List ℕ) (j : ℕ) → Same rest z → length (leading ++ z) ≤ j → loop j found (leading ++ z) ≡ Err (moved d (length z))

  loop_stops : (j : ℕ) (found : List A) (z : List ℕ) → test z ≡ false → loop j found z ≡ Ok (found, z)
  unfolding loop
  loop_stops zero found z e = refl
  loop_stops (suc j) found z e = rw e refl

  loop_turns : (j : ℕ) (found : List A) (t : List ℕ) (x : A) (r : List ℕ) (o : Outcome (List A)) → test t ≡ true → item t ≡ Ok (x, r) → loop j (found ++ x ∷ []) r ≡ o → loop (suc j) found t ≡ o
  unfolding loop
  loop_turns j found t x r o e i h = rw (e, i) h

  loop_fails : (j : ℕ) (found : List A) (t : List ℕ) (d : ExprStop) → test t ≡ true → item t ≡ Err d → loop (suc j) found t ≡ Err d
  unfolding loop
  loop_fails j found t d e i = rw (e, i) refl

  module _ (sees : (r z : List ℕ) → Same r z → test z ≡ test r) (nil : test [] ≡ false) (local : Local item) (shrinks : (t : List ℕ) (x : A) (r : List ℕ) → test t ≡ true → item t ≡ Ok (x, r) → length r < length t) where
    stop_kept : (found : List A) (s : List ℕ) → test s ≡ false → LoopKept found s found s
    stop_kept found s e = record { leading = []; parts = refl; same = λ z j h le. loop_stops j found z (sees s z h ∙ e) }

    -- one turn, before what the others make of any text that begins alike
    again : (found : List A) (s : List ℕ) (x : A) (q rest z leading : List ℕ) (j : ℕ) (o : Outcome (List A)) (k : Kept item s x q) → test s ≡ true → item s ≡ Ok (x, q) → q ≡ leading ++ rest → Same rest z
        → length ((k.leading ++ leading) ++ z) ≤ j → ((i : ℕ) → length (leading ++ z) ≤ i → loop i (found ++ x ∷ []) (leading ++ z) ≡ o) → loop j found ((k.leading ++ leading) ++ z) ≡ o
    again found s x q rest z leading zero o k e i p h le others =
        absurd (omega (arith, length-append (k.leading ++ leading) z, length-append k.leading leading, shrinks s x q e i, ap length k.parts, length-append k.leading q))
    again found s x q rest z leading (suc j) o k e i p h le others =
        let near : Same q (leading ++ z) = subst (λ (t : List ℕ). Same t (leading ++ z)) (sym p) (head_in leading rest z h) in
        let seen : test (k.leading ++ (leading ++ z)) ≡ true = sees (k.leading ++ q) (k.leading ++ (leading ++ z)) (head_in k.leading q (leading ++ z) near) ∙ ap test (sym k.parts) ∙ e in
        rw (append_assoc k.leading leading z) (loop_turns j found (k.leading ++ (leading ++ z)) x (leading ++ z) o seen (k.same (leading ++ z) near)
        (others j (omega (arith, length-append (k.leading ++ leading) z, length-append k.leading leading, length-append leading z, shrinks s x q e i, ap length k.parts, length-append k.leading q))))

    turn_kept : (found : List A) (s : List ℕ) (x : A) (q : List ℕ) (xs : List A) (r : List ℕ) → test s ≡ true → item s ≡ Ok (x, q) → LoopKept (found ++ x ∷ []) q xs r → LoopKept found s xs r
    turn_kept found s x q xs r e i l =
        let k = local.ok s x q i in
        record {
          leading = k.leading ++ l.leading;
          parts = k.parts ∙ ap (λ (t : List ℕ). k.leading ++ t) l.parts ∙ sym (append_assoc k.leading l.leading r);
          same = λ z j h le. again found s x q r z l.leading j (Ok (xs, z)) k e i l.parts h le (λ m w. l.same z m h w);
        }

    turn_failed : (d : ExprStop) (found : List A) (s : List ℕ) (x : A) (q : List ℕ) → test s ≡ true → item s ≡ Ok (x, q) → LoopFailed d (found ++ x ∷ []) q → LoopFailed d found s
    turn_failed d found s x q e i l =
        let k = local.ok s x q i in
        record {
          leading = k.leading ++ l.leading;
          rest = l.rest;
          parts = k.parts ∙ ap (λ (t : List ℕ). k.leading ++ t) l.parts ∙ sym (append_assoc k.leading l.leading l.rest);
          left = l.left;
          same = λ z j h le. again found s x q l.rest z l.leading j (Err (moved d (length z))) k e i l.parts h le (λ m w. l.same z m h w);
        }

    item_failed : (d : ExprStop) (found : List A) (s : List ℕ) → test s ≡ true → 0 < length s → Failed item d s → LoopFailed d found s
    item_failed d found s e some k = record { leading = k.leading; rest = k.rest; parts = k.parts; left = k.left; same = fails }
      where
        first : (leading rest z : List ℕ) → Same rest z → 0 < length (leading ++ rest) → 0 < length (leading ++ z)
        first [] [] z h lt = absurd (omega arith)
        first [] (c ∷ rest) [] h lt = absurd h.0
        first [] (c ∷ rest) (b ∷ z) h lt = omega arith
        first (c ∷ leading) rest z h lt = omega arith

        fails : (z : List ℕ) (j : ℕ) → Same k.rest z → length (k.leading ++ z) ≤ j → loop j found (k.leading ++ z) ≡ Err (moved d (length z))
        fails z zero h le = absurd (let lt : 0 < length (k.leading ++ z) = first k.leading k.rest z h (rw k.parts at some) in omega arith)
        fails z (suc j) h le =
            let seen : test (k.leading ++ z) ≡ true = sees (k.leading ++ k.rest) (k.leading ++ z) (head_in k.leading k.rest z h) ∙ ap test (sym k.parts) ∙ e in
            loop_fails j found (k.leading ++ z) (moved d (length z)) seen (k.same z h)

    seen_some : (s : List ℕ) → test s ≡ true → 0 < length s
    seen_some [] e = absurd cc
    seen_some (c ∷ s) e = omega arith

    loop_ok : (k : ℕ) (found : List A) (s : List ℕ) (xs : List A) (r : List ℕ) → length s ≤ k → loop k found s ≡ Ok (xs, r) → LoopKept found s xs r
    unfolding loop
    loop_ok zero found [] xs r le e = subst (λ (q : List A × List ℕ). LoopKept found [] q.0 q.1) (ok_is _ _ e) (stop_kept found [] nil)
    loop_ok zero found (c ∷ s) xs r le e = absurd (omega arith)
    loop_ok (suc k) found s xs r le e = elim (cond_either (test s) _ _ _ e) [
      | inl h ↦
          let b = bind_ok (item s) (λ x. loop k (found ++ x.0 ∷ []) x.1) (xs, r) h.1 in
          turn_kept found s b.0.0 b.0.1 xs r h.0 b.1 (loop_ok k (found ++ b.0.0 ∷ []) b.0.1 xs r (omega (arith, shrinks s b.0.0 b.0.1 h.0 b.1)) b.2)
      | inr h ↦ subst (λ (q : List A × List ℕ). LoopKept found s q.0 q.1) (ok_is _ _ h.1) (stop_kept found s h.0)
    ]

    loop_err : (d : ExprStop) (k : ℕ) (found : List A) (s : List ℕ) → length s ≤ k → loop k found s ≡ Err d → LoopFailed d found s
    unfolding loop
    loop_err d zero found s le e = absurd cc
    loop_err d (suc k) found s le e = elim (cond_either (test s) _ _ _ e) [
      | inl h ↦
          elim (bind_err (item s) (λ x. loop k (found ++ x.0 ∷ []) x.1) d h.1) [
            | inl at ↦ item_failed d found s h.0 (seen_some s h.0) (local.err d s at)
            | inr at ↦ turn_failed d found s at.0.0 at.0.1 h.0 at.1 (loop_err d k (found ++ at.0.0 ∷ []) at.0.1 (omega (arith, shrinks s at.0.0 at.0.1 h.0 at.1)) at.2)
          ]
      | inr h ↦ absurd (let w = h.1 in cc)
    ]

    pub local_loop : (found : List A) → Local (whole_loop found)
    local_loop found = record {
      ok = λ s xs r e.
          (let k = loop_ok (length s) found s xs r (omega arith) e in
          record { leading = k.leading; parts = k.parts; same = λ z h. k.same z (length (k.leading ++ z)) h (omega arith) });
      err = λ d s e.
          (let k = loop_err d (length s) found s (omega arith) e in
          record { leading = k.leading; rest = k.rest; parts = k.parts; left = k.left; same = λ z h. k.same z (length (k.leading ++ z)) h (omega arith) });
    }
