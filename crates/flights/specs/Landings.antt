-- What a flight that lands gives.
use Rattle.std.specs.Prelude.{◌≡◌, true, false, Some, None, List, ℕ, ◌||◌}
use Rattle.std.specs.List.{list_any}
use Rattle.flights.specs.declared.flight.Flight.{Flight}
use Rattle.flights.specs.declared.landing.Landing.{Landing}
use Rattle.flights.specs.declared.landing.Landing.TheVariants.{Clear, Voided, Unkeyed}
use Rattle.flights.specs.Flights.{after_invalidations}
use Rattle.cover_rules.specs.declared.invalidation.Invalidation.{Invalidation}
use Rattle.cover_rules.specs.declared.page.PageKey.{PageKey}
use Rattle.cover_rules.specs.Coverage.{covers}

-- A flight that is for a page gives leave to keep it, with the stamp of its asking, exactly where it isn't voided.
abbrev pub LandsAs : Flight → Landing → Type 0
LandsAs flight (Clear clear) = (flight.voided ≡ false) × (flight.key ≡ Some clear.key) × (clear.stamp ≡ flight.stamp)
LandsAs flight (Voided key) = (flight.voided ≡ true) × (flight.key ≡ Some key)
LandsAs flight Unkeyed = flight.key ≡ None

-- a flight that is for a page lands clear where it was not voided as it was asked, and no invalidation that has begun since covers the page
abbrev pub UncoveredFlightsLandClear : Type 0
UncoveredFlightsLandClear = (level : ℕ) (invs : List Invalidation) (flight : Flight) (key : PageKey) (landing : Landing) → flight.key ≡ Some key
    → (flight.voided || list_any (λ inv. covers level flight.auto inv key) invs) ≡ false → LandsAs (after_invalidations level invs flight) landing
    → landing ≡ Clear (record { key = key; stamp = flight.stamp })

-- it lands voided where it was, or one does
abbrev pub CoveredFlightsLandVoided : Type 0
CoveredFlightsLandVoided = (level : ℕ) (invs : List Invalidation) (flight : Flight) (key : PageKey) (landing : Landing) → flight.key ≡ Some key
    → (flight.voided || list_any (λ inv. covers level flight.auto inv key) invs) ≡ true → LandsAs (after_invalidations level invs flight) landing
    → landing ≡ Voided key

-- a flight that is for no page lands so
abbrev pub UnkeyedFlightsLandUnkeyed : Type 0
UnkeyedFlightsLandUnkeyed = (level : ℕ) (invs : List Invalidation) (flight : Flight) (landing : Landing) → flight.key ≡ None
    → LandsAs (after_invalidations level invs flight) landing → landing ≡ Unkeyed
