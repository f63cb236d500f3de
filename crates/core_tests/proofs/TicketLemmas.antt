-- A flight that was asked is in the air.
use Rattle.std.proofs.Common.{◌≡◌, ◌==◌, ◌++◌, ℕ, Bool, true, false, List, [], ◌∷◌, Option, Some, IsSome, refl, sym, ap, subst, if◌then◌else◌, eq-eqb}
use Rattle.cover_rules.specs.declared.page.PageKey.{PageKey}
use Rattle.flights.specs.declared.flight.Flight.{Flight}
use Rattle.flights.specs.Flights.{flight_at}
use Rattle.coherence_core.specs.Cores.{flight_labels}

by_test : (b : Bool) (f : Flight) (rest : Option Flight) → IsSome rest → IsSome (if b then Some f else rest)
by_test true f rest there = refl
by_test false f rest there = there

pub asked_is_there : (fs : List Flight) (before : List (ℕ × Option PageKey)) (n : ℕ) (key : Option PageKey) → flight_labels fs ≡ before ++ (n, key) ∷ [] → IsSome (flight_at n fs)
asked_is_there [] [] n key is = absurd (cc is)
asked_is_there [] (b ∷ bs) n key is = absurd (cc is)
asked_is_there (f ∷ fs) [] n key is =
    let pair : (f.number, f.key) ≡ (n, key) = cc is in
    let same : f.number ≡ n = ap (λ (p : ℕ × Option PageKey). p.0) pair in
    subst (λ (b : Bool). IsSome (if b then Some f else flight_at n fs)) (sym (eq-eqb f.number n same)) refl
asked_is_there (f ∷ fs) (b ∷ bs) n key is =
    let rest : flight_labels fs ≡ bs ++ (n, key) ∷ [] = cc is in
    by_test (f.number == n) f (flight_at n fs) (asked_is_there fs bs n key rest)
