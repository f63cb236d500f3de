-- Bytes in two parts beside the same bytes in one.
use Rattle.std.proofs.Common.{◌≡◌, ◌++◌, ℕ, true, false, List, length, take, drop, nat_eq, refl, sym, ap, ◌∙◌}
use Rattle.std.proofs.lemmas.List.{take-append-drop, take_at, drop_at}
use Rattle.std.specs.Cmp.Lexicographic.{bytes_decides, pointwise}
use Rattle.sp_base.proofs.BoolLemmas.{same_truth}

-- what follows the head is compared with the body
pub rest_is : (head body bytes rest : List ℕ) → pointwise nat_eq (take (length head) bytes) head ≡ true → rest ≡ drop (length head) bytes → pointwise nat_eq body rest ≡ pointwise nat_eq (head ++ body) bytes
rest_is head body bytes rest begins is =
    same_truth (pointwise nat_eq body rest) (pointwise nat_eq (head ++ body) bytes)
    (λ e. (bytes_decides (head ++ body) bytes).1 (ap (λ (t : List ℕ). head ++ t) ((bytes_decides body rest).0 e ∙ is) ∙ sym whole))
    (λ e. (bytes_decides body rest).1 (sym (drop_at head body (length head) refl) ∙ ap (drop (length head)) ((bytes_decides (head ++ body) bytes).0 e) ∙ sym is)) where
      whole : bytes ≡ head ++ drop (length head) bytes
      whole = sym (take-append-drop (length head) bytes) ∙ ap (λ (t : List ℕ). t ++ drop (length head) bytes) ((bytes_decides (take (length head) bytes) head).0 begins)

-- bytes that don't begin with the head are others
pub begins_otherwise : (head body bytes : List ℕ) → pointwise nat_eq (take (length head) bytes) head ≡ false → false ≡ pointwise nat_eq (head ++ body) bytes
begins_otherwise head body bytes differs =
    same_truth false (pointwise nat_eq (head ++ body) bytes) (λ e. cc (e)) (λ e. cc (differs, begins e)) where
      begins : pointwise nat_eq (head ++ body) bytes ≡ true → pointwise nat_eq (take (length head) bytes) head ≡ true
      begins e = (bytes_decides (take (length head) bytes) head).1 (ap (take (length head)) (sym ((bytes_decides (head ++ body) bytes).0 e)) ∙ take_at head body (length head) refl)
