-- Where a flight stands in the list, and what is left without it.
use Rattle.std.proofs.Common.{◌≡◌, ℕ, zero, suc, ◌<◌, ◌≤◌, ◌++◌, Bool, true, false, List, [], ◌∷◌, length, drop, map, get_or, slice_get, Some, refl, sym, subst, take, ◌∙◌, ap, arith, if◌then◌else◌, eq-eqb}
use Rattle.std.specs.Prelude.{◌==◌, IfSome, IsSome}
use Rattle.std.proofs.lemmas.List.{length-map}
use Rattle.std.proofs.Math.Seq.{take-append_seam}
use Rattle.cover_rules.specs.Pages.{IsPageKey}
use Rattle.cover_rules.specs.declared.invalidation.Invalidation.{Invalidation}
use Rattle.flights.specs.declared.flight.Flight.{Flight}
use Rattle.flights.specs.Flights.{AreForPages, after_invalidation, flight_at, most_flights, without}

-- ---- the place of a flight
here : (n i : ℕ) (fs : List Flight) (d : Flight) → i < length fs → (get_or fs i d).number ≡ n → flight_at n (drop i fs) ≡ slice_get fs i
here n i [] d lt is = absurd (omega arith)
here n zero (f ∷ fs) d lt is = (rw (eq-eqb f.number n is))
here n (suc i) (f ∷ fs) d lt is = here n i fs d (omega arith) is

pub found_at : (n i : ℕ) (fs : List Flight) (d : Flight) → i < length fs → (get_or fs i d).number ≡ n → flight_at n (drop i fs) ≡ flight_at n fs → flight_at n fs ≡ slice_get fs i
found_at n i fs d lt is same = sym same ∙ here n i fs d lt is

-- ---- without a flight
pub length-without : (n : ℕ) (fs : List Flight) → length (without n fs) ≤ length fs
length-without n [] = omega arith
length-without n (f ∷ fs) = by_test (f.number == n) (length-without n fs)
  where
    by_test : (b : Bool) → length (without n fs) ≤ length fs → length (if b then fs else f ∷ without n fs) ≤ suc (length fs)
    by_test true rest = omega arith
    by_test false rest = omega (arith, rest)

-- ---- that they are for pages
pub AreForPages-without : (n : ℕ) (fs : List Flight) → AreForPages fs → AreForPages (without n fs)
AreForPages-without n [] pages = tt
AreForPages-without n (f ∷ fs) pages = by_test (f.number == n) (AreForPages-without n fs pages.1)
  where
    by_test : (b : Bool) → AreForPages (without n fs) → AreForPages (if b then fs else f ∷ without n fs)
    by_test true rest = pages.1
    by_test false rest = (pages.0, rest)

pub AreForPages-after : (level : ℕ) (inv : Invalidation) (fs : List Flight) → AreForPages fs → AreForPages (map (after_invalidation level inv) fs)
AreForPages-after level inv [] pages = tt
AreForPages-after level inv (f ∷ fs) pages = (pages.0, AreForPages-after level inv fs pages.1)

pub page-found : (n : ℕ) (fs : List Flight) (f : Flight) → AreForPages fs → flight_at n fs ≡ Some f → IfSome f.key IsPageKey
page-found n [] f pages at = absurd (let no : ⊥ = cc in no)
page-found n (g ∷ fs) f pages at = by_test (g.number == n) at (page-found n fs f pages.1)
  where
    by_test : (b : Bool) → (if b then Some g else flight_at n fs) ≡ Some f → (flight_at n fs ≡ Some f → IfSome f.key IsPageKey) → IfSome f.key IsPageKey
    by_test true is rest = let same : g ≡ f = cc in subst (λ (h : Flight). IfSome h.key IsPageKey) same pages.0
    by_test false is rest = rest is

-- ---- by number
pub at-asked : (f : Flight) (fs : List Flight) → IsSome (flight_at f.number (fs ++ f ∷ []))
at-asked f [] = rw (eq-eqb f.number f.number refl)
at-asked f (g ∷ fs) = by_test (g.number == f.number) (at-asked f fs)
  where
    by_test : (b : Bool) → IsSome (flight_at f.number (fs ++ f ∷ [])) → IsSome (if b then Some g else flight_at f.number (fs ++ f ∷ []))
    by_test true rest = refl
    by_test false rest = rest

-- ---- what the flights keep
pub left : (n room room' : ℕ) (fs gs : List Flight) → (most_flights ≤ room) × (length fs ≤ most_flights) × AreForPages fs → room' ≡ room → gs ≡ without n fs → (most_flights ≤ room') × (length gs ≤ most_flights) × AreForPages gs
left n room room' fs gs kept same is =
    let shorter : length (without n fs) ≤ length fs = length-without n fs in
    let fits : length fs ≤ most_flights = kept.1 in
    let fewer : length (without n fs) ≤ most_flights = omega (arith, shorter, fits) in (
      subst (λ k. most_flights ≤ k) (sym same) kept.0,
      subst (λ (xs : List Flight). length xs ≤ most_flights) (sym is) fewer,
      subst AreForPages (sym is) (AreForPages-without n fs kept.2),
    )

pub voided : (level : ℕ) (inv : Invalidation) (room count : ℕ) (fs gs : List Flight) → (most_flights ≤ room) × (length fs ≤ most_flights) × AreForPages fs → count ≡ length fs → gs ≡ map (after_invalidation level inv) fs → (most_flights ≤ room) × (length (take count (gs ++ drop (length gs) fs)) ≤ most_flights) × AreForPages (take count (gs ++ drop (length gs) fs))
voided level inv room count fs gs kept counted is =
    let long : length gs ≡ length fs = ap length is ∙ length-map fs (after_invalidation level inv) in
    let same : take count (gs ++ drop (length gs) fs) ≡ map (after_invalidation level inv) fs = ap (λ k. take k (gs ++ drop (length gs) fs)) (counted ∙ sym long) ∙ take-append_seam gs (drop (length gs) fs) ∙ is in
    let mapped : length (map (after_invalidation level inv) fs) ≡ length fs = length-map fs (after_invalidation level inv) in
    let fits : length fs ≤ most_flights = kept.1 in
    let fewer : length (map (after_invalidation level inv) fs) ≤ most_flights = omega (arith, mapped, fits) in (
      kept.0,
      subst (λ (xs : List Flight). length xs ≤ most_flights) (sym same) fewer,
      subst AreForPages (sym same) (AreForPages-after level inv fs kept.2),
    )
