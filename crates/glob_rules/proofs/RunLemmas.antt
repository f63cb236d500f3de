-- Runs of pieces, and stars between them.
use Rattle.std.proofs.Common.{◌≡◌, ℕ, Bool, true, false, cond, ◌&&◌, ◌||◌, List, [], ◌∷◌, ◌++◌, drop, take, length, zero, suc, ◌+◌, ◌-◌, not, ◌<◌, get_or, Option, Some, None, refl, ap, sym, ◌∙◌, subst, arith, drop-cons, add-one, ◌≤◌}
use Rattle.std.proofs.lemmas.List.{append-nil, take_all}
use Rattle.std.proofs.Math.Seq.{drop-nil}
use Rattle.std.proofs.lemmas.Bool.{or_parts}
use Rattle.std.specs.List.{position_or_len}
use Rattle.std.specs.Option.{option_or}
use Rattle.glob_rules.specs.declared.piece.GlobPiece.{GlobPiece}
use Rattle.glob_rules.specs.declared.piece.GlobPiece.TheVariants.{Star, AnyChar, Literal, Class}
use Rattle.glob_rules.specs.Globs.{is_match, is_star, stands_for, somewhere, is_empty_text}
use Rattle.glob_rules.specs.Runs.{after_run, after_first_run, IsRun, IsAfterRun}
use Rattle.glob_rules.proofs.MatchLemmas.{one_is, somewhere_drop, somewhere_here}

pub run_before : (pieces : List GlobPiece) → IsRun (take (position_or_len is_star pieces) pieces)
run_before [] = refl
run_before (piece ∷ pieces) = go (is_star piece) refl (run_before pieces)
  where
    go : (b : Bool) → is_star piece ≡ b → IsRun (take (position_or_len is_star pieces) pieces) → IsRun (take (cond (not b) (1 + position_or_len is_star pieces) 0) (piece ∷ pieces))
    go true e ih = refl
    go false e ih =
        let one : suc (position_or_len is_star pieces) ≡ 1 + position_or_len is_star pieces = omega arith in
        subst (λ (m : ℕ). IsRun (take m (piece ∷ pieces))) one (rw e ih)

is_star_is : (piece : GlobPiece) → is_star piece ≡ true → piece ≡ Star
is_star_is Star h = refl
is_star_is AnyChar h = absurd cc
is_star_is (Literal d) h = absurd cc
is_star_is (Class class) h = absurd cc

pub star_after : (pieces : List GlobPiece) → IsAfterRun (drop (position_or_len is_star pieces) pieces)
star_after [] = tt
star_after (piece ∷ pieces) = go (is_star piece) refl (star_after pieces)
  where
    go : (b : Bool) → is_star piece ≡ b → IsAfterRun (drop (position_or_len is_star pieces) pieces) → IsAfterRun (drop (cond (not b) (1 + position_or_len is_star pieces) 0) (piece ∷ pieces))
    go true e ih = is_star_is piece e
    go false e ih =
        let one : suc (position_or_len is_star pieces) ≡ 1 + position_or_len is_star pieces = omega arith in
        subst (λ (m : ℕ). IsAfterRun (drop m (piece ∷ pieces))) one ih

pub star_within : (pieces : List GlobPiece) → position_or_len is_star pieces ≤ length pieces
star_within [] = omega arith
star_within (piece ∷ pieces) = go (is_star piece) (star_within pieces)
  where
    go : (b : Bool) → position_or_len is_star pieces ≤ length pieces → cond (not b) (1 + position_or_len is_star pieces) 0 ≤ length (piece ∷ pieces)
    go true ih = omega arith
    go false ih = omega arith

-- whether what a run leaves matches
abbrev pub then_match : List GlobPiece → Option (List ℕ) → Bool
then_match later None = false
then_match later (Some cs) = is_match later cs

choose : (later : List GlobPiece) (b : Bool) (o : Option (List ℕ)) → (b && then_match later o) ≡ then_match later (cond b o None)
choose later true o = refl
choose later false o = refl

pub run_then : (run later : List GlobPiece) (cs : List ℕ) → IsRun run → is_match (run ++ later) cs ≡ then_match later (after_run run cs)
unfolding is_match after_run
run_then [] later cs plain = refl
run_then (piece ∷ run) later [] plain = one_is piece (is_match (run ++ later)) [] (or_parts _ _ plain).0
run_then (piece ∷ run) later (c ∷ cs) plain =
    let parts = or_parts _ _ plain in
    one_is piece (is_match (run ++ later)) (c ∷ cs) parts.0
    ∙ ap (λ (b : Bool). stands_for piece c && b) (run_then run later cs parts.1)
    ∙ choose later (stands_for piece c) (after_run run cs)

pub run_whole : (run : List GlobPiece) (cs : List ℕ) → IsRun run → is_match run cs ≡ then_match [] (after_run run cs)
run_whole run cs plain = subst (λ (r : List GlobPiece). is_match r cs ≡ then_match [] (after_run run cs)) (append-nil run) (run_then run [] cs plain)

pub over : (cs : List ℕ) → is_match [] cs ≡ is_empty_text cs
unfolding is_match
over cs = refl

pub star_step : (pieces : List GlobPiece) (cs : List ℕ) → is_match (Star ∷ pieces) cs ≡ somewhere (is_match pieces) cs
unfolding is_match
star_step pieces cs = refl

-- a star that may run further
pub star_drop : (pieces : List GlobPiece) (k : ℕ) (cs : List ℕ) → is_match (Star ∷ pieces) (drop k cs) ≡ true → is_match (Star ∷ pieces) cs ≡ true
star_drop pieces k cs h = star_step pieces cs ∙ somewhere_drop (is_match pieces) k cs (sym (star_step pieces (drop k cs)) ∙ h)

-- a run stands for as many characters as it has pieces
pub run_length : (run : List GlobPiece) (cs rest : List ℕ) → after_run run cs ≡ Some rest → rest ≡ drop (length run) cs
unfolding after_run
run_length [] cs rest h = let e : cs ≡ rest = cc in sym e
run_length (piece ∷ run) [] rest h = absurd cc
run_length (piece ∷ run) (c ∷ cs) rest h = go (stands_for piece c) (run_length run cs rest) h
  where
    go : (b : Bool) → (after_run run cs ≡ Some rest → rest ≡ drop (length run) cs) → cond b (after_run run cs) None ≡ Some rest → rest ≡ drop (length (piece ∷ run)) (c ∷ cs)
    go true ih x = ih x
    go false ih x = absurd cc

drop_nil : (m : ℕ) → drop {A = ℕ} m [] ≡ []
drop_nil zero = refl
drop_nil (suc m) = refl

drop_one : (n : ℕ) (c : ℕ) (cs : List ℕ) → drop n cs ≡ drop 1 (drop n (c ∷ cs))
drop_one zero c cs = refl
drop_one (suc n) c [] = ap (drop 1) (sym (drop_nil n))
drop_one (suc n) c (d ∷ cs) = drop_one n d cs

drop_more : (k : ℕ) (cs : List ℕ) → drop k (drop 1 cs) ≡ drop (suc k) cs
drop_more zero [] = refl
drop_more (suc k) [] = refl
drop_more k (c ∷ cs) = refl

-- the first place is not after any other
pub first_drop : (run : List GlobPiece) (cs rest : List ℕ) → after_first_run run cs ≡ Some rest → (k : ℕ) × (rest ≡ drop k (drop (length run) cs))
unfolding after_first_run
first_drop run [] rest h = (0, run_length run [] rest h)
first_drop run (c ∷ cs) rest h = go (after_run run (c ∷ cs)) refl (first_drop run cs rest) h
  where
    go : (o : Option (List ℕ)) → after_run run (c ∷ cs) ≡ o → (after_first_run run cs ≡ Some rest → (k : ℕ) × (rest ≡ drop k (drop (length run) cs))) → option_or o (after_first_run run cs) ≡ Some rest → (k : ℕ) × (rest ≡ drop k (drop (length run) (c ∷ cs)))
    go (Some r) e ih x = (0, run_length run (c ∷ cs) rest (e ∙ x))
    go None e ih x = let later = ih x in (suc later.0, later.1 ∙ ap (drop later.0) (drop_one (length run) c cs) ∙ drop_more later.0 (drop (length run) (c ∷ cs)))

or_absorbs : (a b : Bool) → (b ≡ true → a ≡ true) → (a || b) ≡ a
or_absorbs true b h = refl
or_absorbs false true h = sym (h refl)
or_absorbs false false h = refl

-- what a star and a run leave is what they leave at the first place
pub greedy : (run pieces : List GlobPiece) (cs : List ℕ) → IsRun run → is_match (Star ∷ (run ++ Star ∷ pieces)) cs ≡ then_match (Star ∷ pieces) (after_first_run run cs)
unfolding after_first_run
greedy run pieces [] plain = star_step _ [] ∙ run_then run (Star ∷ pieces) [] plain
greedy run pieces (c ∷ cs) plain =
    star_step _ (c ∷ cs)
    ∙ ap (λ (b : Bool). b || somewhere (is_match (run ++ Star ∷ pieces)) cs) (run_then run (Star ∷ pieces) (c ∷ cs) plain)
    ∙ ap (λ (b : Bool). then_match (Star ∷ pieces) (after_run run (c ∷ cs)) || b) (sym (star_step _ cs) ∙ greedy run pieces cs plain)
    ∙ go (after_run run (c ∷ cs)) (after_first_run run cs) refl refl
  where
    ends : (r : List ℕ) → after_run run (c ∷ cs) ≡ Some r → (o : Option (List ℕ)) → after_first_run run cs ≡ o → then_match (Star ∷ pieces) o ≡ true → is_match (Star ∷ pieces) r ≡ true
    ends r e None f x = absurd cc
    ends r e (Some r2) f x =
        let later = first_drop run cs r2 f in
        let here = run_length run (c ∷ cs) r e in
        let same : r2 ≡ drop (suc later.0) r = later.1 ∙ ap (drop later.0) (drop_one (length run) c cs) ∙ drop_more later.0 (drop (length run) (c ∷ cs)) ∙ ap (drop (suc later.0)) (sym here) in
        star_drop pieces (suc later.0) r (subst (λ (l : List ℕ). is_match (Star ∷ pieces) l ≡ true) same x)

    go : (o f : Option (List ℕ)) → after_run run (c ∷ cs) ≡ o → after_first_run run cs ≡ f → (then_match (Star ∷ pieces) o || then_match (Star ∷ pieces) f) ≡ then_match (Star ∷ pieces) (option_or o f)
    go (Some r) f e g = or_absorbs _ _ (ends r e f g)
    go None f e g = refl

-- a run at the end of a text
pub end_step : (run : List GlobPiece) (c : ℕ) (cs : List ℕ) → is_match run (c ∷ cs) ≡ false → is_match (Star ∷ run) cs ≡ is_match (Star ∷ run) (c ∷ cs)
end_step run c cs plain = star_step run cs ∙ sym (ap (λ (b : Bool). b || somewhere (is_match run) cs) plain) ∙ sym (star_step run (c ∷ cs))

pub end_here : (run : List GlobPiece) (cs : List ℕ) → is_match run cs ≡ true → is_match (Star ∷ run) cs ≡ true
end_here run cs h = star_step run cs ∙ somewhere_here (is_match run) cs h

pub end_over : (run : List GlobPiece) → is_match (Star ∷ run) [] ≡ is_match run []
end_over run = star_step run []

-- steps of a run
pub run_over : (piece : GlobPiece) (run : List GlobPiece) → after_run (piece ∷ run) [] ≡ None
unfolding after_run
run_over piece run = refl

pub run_stops : (piece : GlobPiece) (run : List GlobPiece) (c : ℕ) (cs : List ℕ) → stands_for piece c ≡ false → after_run (piece ∷ run) (c ∷ cs) ≡ None
unfolding after_run
run_stops piece run c cs s = ap (λ (b : Bool). cond b (after_run run cs) None) s

pub run_goes_on : (piece : GlobPiece) (run : List GlobPiece) (c : ℕ) (cs : List ℕ) → stands_for piece c ≡ true → after_run (piece ∷ run) (c ∷ cs) ≡ after_run run cs
unfolding after_run
run_goes_on piece run c cs s = ap (λ (b : Bool). cond b (after_run run cs) None) s

pub run_done : (cs : List ℕ) → after_run [] cs ≡ Some cs
unfolding after_run
run_done cs = refl

pub piece_at : (run : List GlobPiece) (i : ℕ) (piece : GlobPiece) → i < length run → piece ≡ get_or run i piece → drop i run ≡ piece ∷ drop (i + 1) run
piece_at run i piece lt e =
    rw (add-one)
    (drop-cons run i piece lt ∙ ap (λ (p : GlobPiece). p ∷ drop (suc i) run) (sym e))

pub first_here : (run : List GlobPiece) (cs rest : List ℕ) → after_run run cs ≡ Some rest → after_first_run run cs ≡ Some rest
unfolding after_first_run
first_here run [] rest h = h
first_here run (c ∷ cs) rest h = ap (λ (o : Option (List ℕ)). option_or o (after_first_run run cs)) h

pub first_none : (run : List GlobPiece) → after_run run [] ≡ None → after_first_run run [] ≡ None
unfolding after_first_run
first_none run h = h

pub first_later : (run : List GlobPiece) (c : ℕ) (cs : List ℕ) → after_run run (c ∷ cs) ≡ None → after_first_run run cs ≡ after_first_run run (c ∷ cs)
unfolding after_first_run
first_later run c cs h = sym (ap (λ (o : Option (List ℕ)). option_or o (after_first_run run cs)) h)

-- pieces, cut at a star: the list after it is taken as the rest of a slice pattern
star_and_next : (later : List GlobPiece) → IsAfterRun later → 0 < length later → later ≡ Star ∷ take (length later - 1) (drop 1 later)
star_and_next [] star lt = absurd (omega arith)
star_and_next (piece ∷ pieces) star lt =
    let all : take (length (piece ∷ pieces) - 1) pieces ≡ pieces = take_all (length (piece ∷ pieces) - 1) pieces (omega arith) in
    ap (λ (p : GlobPiece). p ∷ pieces) star ∙ ap (λ (l : List GlobPiece). Star ∷ l) (sym all)

pub greedy_at : (left run later : List GlobPiece) (cs : List ℕ) → left ≡ run ++ later → IsRun run → IsAfterRun later → 0 < length later
    → is_match (Star ∷ left) cs ≡ then_match (Star ∷ take (length later - 1) (drop 1 later)) (after_first_run run cs)
greedy_at left run later cs parts plain star lt =
    ap (λ (l : List GlobPiece). is_match (Star ∷ l) cs) (parts ∙ ap (λ (l : List GlobPiece). run ++ l) (star_and_next later star lt)) ∙ greedy run (take (length later - 1) (drop 1 later)) cs plain

pub prefix_at : (left run later : List GlobPiece) (cs : List ℕ) → left ≡ run ++ later → IsRun run → IsAfterRun later → 0 < length later
    → is_match left cs ≡ then_match (Star ∷ take (length later - 1) (drop 1 later)) (after_run run cs)
prefix_at left run later cs parts plain star lt =
    ap (λ (l : List GlobPiece). is_match l cs) (parts ∙ ap (λ (l : List GlobPiece). run ++ l) (star_and_next later star lt)) ∙ run_then run (Star ∷ take (length later - 1) (drop 1 later)) cs plain

pub prefix_fails : (left run later : List GlobPiece) (cs : List ℕ) → left ≡ run ++ later → IsRun run → after_run run cs ≡ None → is_match left cs ≡ false
prefix_fails left run later cs parts plain none = ap (λ (l : List GlobPiece). is_match l cs) parts ∙ run_then run later cs plain ∙ ap (then_match later) none

nil_is : (later : List GlobPiece) → length later < 1 → later ≡ []
nil_is [] lt = refl
nil_is (piece ∷ pieces) lt = absurd (omega arith)

pub prefix_whole : (left run later : List GlobPiece) (cs rest : List ℕ) → left ≡ run ++ later → length later < 1 → IsRun run → after_run run cs ≡ Some rest → is_match left cs ≡ is_empty_text rest
prefix_whole left run later cs rest parts nil plain some =
    ap (λ (l : List GlobPiece). is_match l cs) (parts ∙ ap (λ (l : List GlobPiece). run ++ l) (nil_is later nil)) ∙ run_then run [] cs plain ∙ ap (then_match []) some ∙ over rest

pub drop_past : (run : List GlobPiece) (i : ℕ) → length run ≤ i → drop i run ≡ []
drop_past [] i le = drop-nil i
drop_past (piece ∷ run) zero le = absurd (omega arith)
drop_past (piece ∷ run) (suc i) le = drop_past run i (omega arith)
