-- Where a flight stands among those in the air.
use Rattle.std.proofs.Common.{◌≡◌, ℕ, ◌<◌, ◌≤◌, ◌++◌, zero, suc, Bool, true, false, List, [], ◌∷◌, get_or, length, map, Some, None, refl, ap, sym, subst, ◌∙◌, arith}
use Rattle.std.specs.Prelude.{nat_eq, nat_lt, position, remove, slice_get, slice_set}
use Rattle.std.specs.List.{find, position_or_len}
use Rattle.std.proofs.lemmas.List.Folds.{find_at}
use Rattle.std.proofs.lemmas.Option.{slice_get_past}
use Rattle.sp_base.specs.declared.answer.Answer.{Answer}
use Rattle.run_events.specs.declared.flying.Flying.{Flying}
use Rattle.run_events.specs.States.{AirRises}
use Rattle.run_events.specs.Moves.{flying_at, with_rendered, with_rendered_at, air_without}

-- ---- the first that is asked for
pub get-within : {A : Type 0} (xs : List A) (i : ℕ) → i < length xs → (x : A) × (slice_get xs i ≡ Some x)
get-within [] i l = absurd (omega (arith, l))
get-within (x ∷ xs) zero l = (x, refl)
get-within (x ∷ xs) (suc i) l = get-within xs i (omega (arith, l))

pub got : {A : Type 0} (xs : List A) (i : ℕ) (x y : A) → x ≡ get_or xs i x → slice_get xs i ≡ Some y → x ≡ y
got [] i x y is here = absurd (let none : None ≡ Some y = here in let no : ⊥ = cc in no)
got (z ∷ xs) zero x y is here =
    let same : Some z ≡ Some y = here in
    let first : z ≡ y = cc in
    is ∙ first
got (z ∷ xs) (suc i) x y is here = got xs i x y is here

pub found-none : {A : Type 0} (test : A → Bool) (xs : List A) → position test xs ≡ None → find test xs ≡ None
found-none test xs e = by_test (nat_lt (position_or_len test xs) (length xs)) refl
  where
    by_test : (b : Bool) → nat_lt (position_or_len test xs) (length xs) ≡ b → find test xs ≡ None
    by_test true less = absurd (let some : Some (position_or_len test xs) ≡ None = rw less at e in let no : ⊥ = cc in no)
    by_test false less = find_at test xs ∙ slice_get_past xs (position_or_len test xs) (grind (arith, less))

pub found-some : {A : Type 0} (test : A → Bool) (xs : List A) (i : ℕ) → position test xs ≡ Some i → (i < length xs) × (find test xs ≡ slice_get xs i)
found-some test xs i e = by_test (nat_lt (position_or_len test xs) (length xs)) refl
  where
    by_test : (b : Bool) → nat_lt (position_or_len test xs) (length xs) ≡ b → (i < length xs) × (find test xs ≡ slice_get xs i)
    by_test true less =
        let some : Some (position_or_len test xs) ≡ Some i = rw less at e in
        let same : position_or_len test xs ≡ i = cc in
        let within : position_or_len test xs < length xs = grind (arith, less) in
        (subst (λ k. k < length xs) same within, find_at test xs ∙ ap (slice_get xs) same)
    by_test false less = absurd (let none : None ≡ Some i = rw less at e in let no : ⊥ = cc in no)

-- ---- numbers that rise
pub rising-lower : (a b : ℕ) (flights : List Flying) (most : ℕ) → b ≤ a → AirRises a flights most → AirRises b flights most
rising-lower a b [] most l rising = omega (arith, l, rising)
rising-lower a b (f ∷ flights) most l rising = (omega (arith, l, rising.0), rising.1)

pub rising-above : (least : ℕ) (flights : List Flying) (most i : ℕ) (f : Flying) → AirRises least flights most → slice_get flights i ≡ Some f → least < f.number
rising-above least [] most i f rising at = absurd (let no : ⊥ = cc in no)
rising-above least (g ∷ flights) most zero f rising at = let same : g ≡ f = cc in subst (λ (h : Flying). least < h.number) same rising.0
rising-above least (g ∷ flights) most (suc i) f rising at = omega (arith, rising.0, rising-above g.number flights most i f rising.1 at)

none-numbered : (n least : ℕ) (flights : List Flying) (most : ℕ) → n ≤ least → AirRises least flights most → (air_without n flights ≡ flights) × ((answer : Answer) → map (with_rendered_at n answer) flights ≡ flights)
none-numbered n least [] most l rising = (refl, λ answer. refl)
none-numbered n least (f ∷ flights) most l rising =
    let above : n < f.number = omega (arith, l, rising.0) in
    let no : nat_eq f.number n ≡ false = grind (arith, above) in
    let rest = none-numbered n f.number flights most (omega (arith, above)) rising.1 in
    (rw no (ap (λ gs. f ∷ gs) rest.0), λ answer. rw no (ap (λ gs. f ∷ gs) (rest.1 answer)))

-- the flight with this number stands at this place, and there alone
pub record IsPlace (f : Flying) (flights : List Flying) (i : ℕ) : Type 0 where
  pub at : flying_at f.number flights ≡ Some f
  pub left : air_without f.number flights ≡ remove flights i
  pub set : (answer : Answer) → map (with_rendered_at f.number answer) flights ≡ slice_set flights i (with_rendered answer f)

place-first : (f : Flying) (flights : List Flying) (most : ℕ) → AirRises f.number flights most → IsPlace f (f ∷ flights) 0
place-first f flights most rising =
    let here : nat_eq f.number f.number ≡ true = grind arith in
    let rest = none-numbered f.number f.number flights most (omega arith) rising in
    record {
      at = rw here refl;
      left = rw here rest.0;
      set = λ answer. rw here (ap (λ gs. with_rendered answer f ∷ gs) (rest.1 answer));
    }

pub place : (least : ℕ) (flights : List Flying) (most i : ℕ) (f : Flying) → AirRises least flights most → slice_get flights i ≡ Some f → IsPlace f flights i
place least [] most i f rising at = absurd (let no : ⊥ = cc in no)
place least (g ∷ flights) most zero f rising at =
    let same : g ≡ f = cc in
    let here : AirRises f.number flights most = subst (λ (h : Flying). AirRises h.number flights most) same rising.1 in
    subst (λ h. IsPlace f (h ∷ flights) 0) (sym same) (place-first f flights most here)
place least (g ∷ flights) most (suc i) f rising at =
    let above : g.number < f.number = rising-above g.number flights most i f rising.1 at in
    let no : nat_eq g.number f.number ≡ false = grind (arith, above) in
    let rest = place g.number flights most i f rising.1 at in
    record {
      at = rw no rest.at;
      left = rw no (ap (λ gs. g ∷ gs) rest.left);
      set = λ answer. rw no (ap (λ gs. g ∷ gs) (rest.set answer));
    }

-- ---- what keeps them rising
pub rising-push : (least : ℕ) (flights : List Flying) (most : ℕ) (f : Flying) → AirRises least flights most → most < f.number → AirRises least (flights ++ f ∷ []) f.number
rising-push least [] most f rising above = (omega (arith, rising, above), omega arith)
rising-push least (g ∷ flights) most f rising above = (rising.0, rising-push g.number flights most f rising.1 above)

pub rising-remove : (least : ℕ) (flights : List Flying) (most i : ℕ) → AirRises least flights most → AirRises least (remove flights i) most
rising-remove least [] most zero rising = rising
rising-remove least [] most (suc i) rising = rising
rising-remove least (g ∷ flights) most zero rising = rising-lower g.number least flights most (omega (arith, rising.0)) rising.1
rising-remove least (g ∷ flights) most (suc i) rising = (rising.0, rising-remove g.number flights most i rising.1)

pub rising-set : (least : ℕ) (flights : List Flying) (most i : ℕ) (f : Flying) (answer : Answer) → AirRises least flights most → slice_get flights i ≡ Some f → AirRises least (slice_set flights i (with_rendered answer f)) most
rising-set least [] most i f answer rising at = absurd (let no : ⊥ = cc in no)
rising-set least (g ∷ flights) most zero f answer rising at = let same : g ≡ f = cc in subst (λ (h : Flying). (least < h.number) × AirRises h.number flights most) same rising
rising-set least (g ∷ flights) most (suc i) f answer rising at = (rising.0, rising-set g.number flights most i f answer rising.1 at)
