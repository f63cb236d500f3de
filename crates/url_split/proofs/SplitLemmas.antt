-- Where a text is cut, and what follows the cut.
use Rattle.std.proofs.Common.{◌≡◌, ◌≢◌, ◌-◌, ◌<◌, ◌≤◌, inl, inr, ⊎_elim, ℕ, suc, Bool, List, [], ◌∷◌, map, length, take, drop, get_or, sym, ◌∙◌, ap, arith}
use Rattle.std.proofs.lemmas.Bool.{eq-eqb, ne_eqb}
use Rattle.std.proofs.lemmas.List.{take_all, get_or-take, length-map, take-map, get_or-map}
use Rattle.std.proofs.lemmas.List.Splits.{length-slice_split}
use Rattle.std.proofs.Math.Seq.{drop-cons}
use Rattle.std.proofs.lemmas.List.Sums.{position_or_len_is}
use Rattle.std.specs.List.{before_first, slice_split}
use Rattle.sp_base.specs.Bytes.{is_dot, is_slash}
use Rattle.sp_base.proofs.ListLemmas.{drop_past}
use Rattle.url_split.specs.Split.{IsCut, but_last, last_of}
use Rattle.url_split.specs.Walk.{IsAfterPath}

pub cut_prefix : (text : List ℕ) (k : ℕ) → k < length text → get_or text k 0 ≡ 47 → ((i : ℕ) → i < k → get_or text i 0 ≢ 47) → take k text ≡ before_first is_slash text
cut_prefix text k lt here before =
    ap (λ n. take n text) (sym (position_or_len_is is_slash text k 0 (omega arith) (λ i less. ne_eqb (get_or text i 0) 47 (before i less)) (λ _. eq-eqb (get_or text k 0) 47 here)))

pub cut_whole : (text : List ℕ) → ((i : ℕ) → i < length text → get_or text i 0 ≢ 47) → text ≡ before_first is_slash text
cut_whole text none =
    sym (take_all (length text) text (omega arith))
    ∙ ap (λ n. take n text) (sym (position_or_len_is is_slash text (length text) 0 (omega arith) (λ i less. ne_eqb (get_or text i 0) 47 (none i less)) (λ lt. absurd (omega (arith, lt)))))

pub after_none : (rest : List ℕ) → IsAfterPath rest → ((more : List ℕ) → rest ≢ 46 ∷ more) → rest ≡ []
after_none rest b none = ⊎_elim (λ e. e) (λ p. absurd (none p.0 p.1)) b

-- at a cut the rest begins with a dot, or is nothing
pub cut_after : (text : List ℕ) (k : ℕ) → IsCut text k → IsAfterPath (drop k text)
cut_after text k c = ⊎_elim
    (λ e. inl (drop_past text k (omega (arith, e))))
    (λ p. inr (drop (suc k) text, drop-cons text k 0 p.0 ∙ ap (λ b. b ∷ drop (suc k) text) p.1))
    c

get_or-take-lt : (text : List ℕ) (n i : ℕ) → i < n → get_or (take n text) i 0 ≡ get_or text i 0
get_or-take-lt text n i lt = get_or-take n text i 0 lt

-- the next cut from the end: the last dot of a prefix
pub next_cut : (known : List (List ℕ) → Bool) (text leading : List ℕ) (at : ℕ) → leading ≡ take (length leading) text → length leading ≤ length text
    → at < length leading → get_or leading at 0 ≡ 46 → IsCut text at
next_cut known text leading at is within lt dot =
    let same : get_or text at 0 ≡ 46 = sym (get_or-take-lt text (length leading) at lt) ∙ ap (λ t. get_or t at 0) (sym is) ∙ dot in
    inr (omega arith, same)

-- the last piece, and those before it, read off a list of references
pub but_last-map : {A : Type 0} (f : A → List ℕ) (xs : List A) → map f (take (length xs - 1) xs) ≡ but_last (map f xs)
but_last-map f xs = sym (ap (λ n. take (n - 1) (map f xs)) (length-map xs f) ∙ take-map f (length xs - 1) xs)

pub last-map : {A : Type 0} (f : A → List ℕ) (xs : List A) (d : A) → 0 < length xs → f (get_or xs (length xs - 1) d) ≡ last_of (map f xs)
last-map f xs d some =
    sym (get_or-map f xs (length xs - 1) d [] (omega arith)) ∙ ap (λ n. get_or (map f xs) (n - 1) []) (sym (length-map xs f))

pub some_piece : {A : Type 0} (f : A → List ℕ) (xs : List A) (text : List ℕ) → map f xs ≡ slice_split is_dot text → 0 < length xs
some_piece f xs text e =
    omega (arith, ap length e, length-map xs f, length-slice_split is_dot text)
