-- What is of the grammar is read.
use Rattle.std.proofs.Common.{◌≡◌, ◌<◌, ◌≤◌, ℕ, zero, suc, true, false, List, [], ◌∷◌, ◌++◌, drop, length, Ok, refl, ap, sym, ◌∙◌, arith, append_assoc}
use Rattle.std.proofs.lemmas.List.{append-nil}
use Rattle.sp_base.specs.Bytes.{begins_with_byte}
use Rattle.any_config.specs.declared.node.AnyNode.{AnyNode}
use Rattle.any_config.specs.declared.node.AnyNode.TheVariants as node
use Rattle.any_config.specs.Tokens.{comments_skipped, member_name, ungrouped_value}
use Rattle.any_config.specs.Read.{Members, ends_members, value, member, more_members, members, braced_group, group, file_read, placed_answer, any_of}
use Rattle.any_config.specs.Grammar.{IsValue, AreMembers, IsFile}
use Rattle.any_config.proofs.Progress.{leaf_any, skip_less, name_less, value_less, group_takes}

single_is : (depth at a : ℕ) (t : List ℕ) (x : AnyNode × List ℕ) → begins_with_byte 123 t ≡ false → ungrouped_value a t ≡ Ok x → value (group depth) at t ≡ Ok x
unfolding value
single_is depth at a t x e h = rw e (leaf_any a at t x h)

braces_is : (depth at : ℕ) (t inside : List ℕ) (ms : Members) → begins_with_byte 123 t ≡ true → more_members (group depth) (length (comments_skipped (drop 1 t))) [] (comments_skipped (drop 1 t)) ≡ Ok (ms, inside) → begins_with_byte 125 inside ≡ true
    → value (group (suc depth)) at t ≡ Ok (node.Group ms, drop 1 inside)
unfolding value group braced_group members
braces_is depth at t inside ms e h c = rw (e, h, c) refl

ends_is : (depth k : ℕ) (found : Members) (t : List ℕ) → ends_members t ≡ true → more_members (group depth) k found t ≡ Ok (found ++ [], t)
unfolding more_members
ends_is depth zero found t e = ap (λ (l : Members). Ok (l, t)) (sym (append-nil found))
ends_is depth (suc k) found t e = rw e (ap (λ (l : Members). Ok (l, t)) (sym (append-nil found)))

pub not_empty : (t : List ℕ) → ends_members t ≡ false → 0 < length t
unfolding ends_members
not_empty [] e = absurd cc
not_empty (c ∷ t) e = omega arith

more_is : (depth k : ℕ) (found : Members) (t inside : List ℕ) (x : List ℕ × List ℕ) (n : AnyNode) (y : Members × List ℕ) → ends_members t ≡ false → member_name t ≡ Ok x → value (group depth) (length t) x.1 ≡ Ok (n, inside)
    → more_members (group depth) k (found ++ (x.0, n) ∷ []) (comments_skipped inside) ≡ Ok y → more_members (group depth) (suc k) found t ≡ Ok y
unfolding more_members member
more_is depth k found t inside x n y e h v m = rw (e, h, v) m

mutual
  pub value_complete : (depth : ℕ) (t : List ℕ) (n : AnyNode) (r : List ℕ) → IsValue depth t n r → (at : ℕ) → value (group depth) at t ≡ Ok (n, r)
  value_complete _ _ _ _ (IsValue.single {depth} {t} {r} {n} a e h) at = single_is depth at a t (n, r) e h
  value_complete _ _ _ _ (IsValue.braces {depth} {t} {r} {n} ms inside e all c g d) at =
      braces_is depth at t inside ms e (members_complete depth (comments_skipped (drop 1 t)) ms inside all (length (comments_skipped (drop 1 t))) [] (omega arith)) c
      ∙ ap (λ (m : AnyNode). Ok (m, drop 1 inside)) (sym g) ∙ ap (λ (l : List ℕ). Ok (n, l)) (sym d)

  pub members_complete : (depth : ℕ) (t : List ℕ) (ms : Members) (r : List ℕ) → AreMembers depth t ms r → (k : ℕ) (found : Members) → length t ≤ k → more_members (group depth) k found t ≡ Ok (found ++ ms, r)
  members_complete _ _ _ _ (AreMembers.none {depth} {t} e) k found le = ends_is depth k found t e
  members_complete _ _ _ _ (AreMembers.more {depth} {t} {r} {m} {ms} x n inside e h v g all) k found le =
      go k le (value_complete depth x.1 n inside v (length t)) (λ j f l. members_complete depth (comments_skipped inside) ms r all j f l)
    where
      go : (k : ℕ) → length t ≤ k → value (group depth) (length t) x.1 ≡ Ok (n, inside) → ((j : ℕ) (f : Members) → length (comments_skipped inside) ≤ j → more_members (group depth) j f (comments_skipped inside) ≡ Ok (f ++ ms, r))
          → more_members (group depth) k found t ≡ Ok (found ++ m ∷ ms, r)
      go zero le value_is ih = absurd (omega (arith, not_empty t e))
      go (suc j) le value_is ih =
          let less : length (comments_skipped inside) ≤ j = omega (arith, skip_less inside, value_less (group depth) (group_takes depth) (length t) x.1 (n, inside) value_is, name_less t x h) in
          more_is depth j found t inside x n _ e h value_is (ih j (found ++ (x.0, n) ∷ []) less)
          ∙ ap (λ (l : Members). Ok (l, r)) (append_assoc found ((x.0, n) ∷ []) ms) ∙ ap (λ (p : List ℕ × AnyNode). Ok (found ++ p ∷ ms, r)) (sym g)

read_complete : (text : List ℕ) (ms : Members) → AreMembers 32 (comments_skipped text) ms [] → file_read text ≡ Ok (node.Group ms)
unfolding file_read members
read_complete text ms all = rw (members_complete 32 (comments_skipped text) ms [] all (length (comments_skipped text)) [] (omega arith)) refl

pub any_complete : (text : List ℕ) (top : AnyNode) → IsFile text top → any_of text ≡ Ok top
any_complete text top file = ap (placed_answer text) (read_complete text file.members file.spelled) ∙ ap (λ (n : AnyNode). Ok n) (sym file.group)
