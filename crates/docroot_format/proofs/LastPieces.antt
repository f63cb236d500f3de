-- What follows the last slash of a name is its last piece.
use Rattle.std.proofs.Common.{◌≡◌, ◌≢◌, ◌<◌, ◌-◌, ℕ, zero, suc, false, List, [], ◌∷◌, Some, drop, get_or, length, nat_eq, slice_get, sym, ◌∙◌, ap, arith}
use Rattle.std.specs.List.{All}
use Rattle.std.proofs.lemmas.List.Splits.{slice_split_none}
use Rattle.std.proofs.lemmas.Option.{get_or_from_slice_get}
use Rattle.sp_base.specs.Paths.{name_of, pieces}
use Rattle.sp_base.specs.PathTexts.{segs_in}
use Rattle.sp_base.proofs.TextLemmas.{not_slash}

last_of : (parts : List (List ℕ)) (w : List ℕ) → Some w ≡ slice_get (drop 1 parts) (length (drop 1 parts) - 1) → w ≡ name_of parts
last_of [] w e = absurd (cc (e))
last_of (part ∷ []) w e = absurd (cc (e))
last_of (part ∷ more ∷ parts) w e =
    let n : length (part ∷ more ∷ parts) - 1 ≡ suc (length (more ∷ parts) - 1) = omega arith in
    sym (ap (λ k. get_or (part ∷ more ∷ parts) k []) n ∙ get_or_from_slice_get (more ∷ parts) (length (more ∷ parts) - 1) w [] (sym e))

pub after_last_slash : (text w : List ℕ) → Some w ≡ slice_get (segs_in text) (length (segs_in text) - 1) → w ≡ name_of (pieces text)
unfolding segs_in
after_last_slash text w e = last_of (pieces text) w e

none_slash : (text : List ℕ) → ((i : ℕ) → i < length text → get_or text i 0 ≢ 47) → All (λ b. nat_eq b 47 ≡ false) text
none_slash [] h k d lt = absurd (omega (arith, lt))
none_slash (b ∷ text) h zero d lt = not_slash b (h 0 (omega arith))
none_slash (b ∷ text) h (suc k) d lt = none_slash text (λ i within. h (suc i) (omega (arith, within))) k d (omega (arith, lt))

pub without_slash : (text : List ℕ) → ((i : ℕ) → i < length text → get_or text i 0 ≢ 47) → text ≡ name_of (pieces text)
without_slash text h = sym (ap name_of (slice_split_none (λ b. nat_eq b 47) text (none_slash text h)))
