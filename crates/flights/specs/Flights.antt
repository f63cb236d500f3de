-- The flights in the air, and what an invalidation makes of them (Adobe Dispatcher manual, "Invalidating Cached Pages From AEM").
use Rattle.std.specs.Prelude.{◌<◌, ◌≤◌, ◌==◌, ◌||◌, ℕ, Bool, false, if◌then◌else◌, List, [], ◌∷◌, Option, Some, None, IfSome, map, ◌≡◌, option_map, ◌++◌, remove, slice_get}
use Rattle.std.specs.List.{AllByRecursion}
use Rattle.cache_ids.specs.Ids.{FlightId}
use Rattle.cover_rules.specs.declared.page.PageKey.{PageKey}
use Rattle.cover_rules.specs.declared.invalidation.Invalidation.{Invalidation}
use Rattle.cover_rules.specs.Pages.{IsPageKey}
use Rattle.cover_rules.specs.Coverage.{covers}
use Rattle.flights.specs.declared.flight.Flight.{Flight}

-- the most flights in the air
abbrev pub most_flights : ℕ
most_flights = 256

-- each flight is for a page, or for none
abbrev pub AreForPages : List Flight → Type 0
AreForPages flights = AllByRecursion (λ flight. IfSome flight.key IsPageKey) flights

-- ---- by number

-- the flight with this number, the first if there are more
abbrev pub flight_at : FlightId → List Flight → Option Flight
flight_at number [] = None
flight_at number (flight ∷ flights) = if flight.number == number then Some flight else flight_at number flights

-- all others
abbrev pub without : FlightId → List Flight → List Flight
without number [] = []
without number (flight ∷ flights) = if flight.number == number then flights else flight ∷ without number flights

-- the numbers of the flights, in their order
abbrev pub numbers_of : List Flight → List FlightId
numbers_of flights = map (λ flight. flight.number) flights

-- the numbers of the flights rise, all above the one and none above the other
abbrev pub AreRising : ℕ → List Flight → ℕ → Type 0
AreRising least [] most = least ≤ most
AreRising least (flight ∷ flights) most = (least < flight.number) × AreRising flight.number flights most

-- ---- invalidations

-- the invalidation covers the page, if there is one
abbrev pub covers_page : ℕ → Bool → Invalidation → Option PageKey → Bool
covers_page level auto inv None = false
covers_page level auto inv (Some key) = covers level auto inv key

-- the flight once the invalidation has begun: voided where that covers its page, or where it was
abbrev pub after_invalidation : ℕ → Invalidation → Flight → Flight
after_invalidation level inv flight = record flight { voided = flight.voided || covers_page level flight.auto inv flight.key }

-- the flight once all of them have begun
abbrev pub after_invalidations : ℕ → List Invalidation → Flight → Flight
after_invalidations level [] flight = flight
after_invalidations level (inv ∷ invs) flight = after_invalidations level invs (after_invalidation level inv flight)

-- the flight is there under its number
abbrev pub HasItsNumber : Flight → List Flight → Type 0
HasItsNumber flight flights = flight_at flight.number flights ≡ Some flight

-- the same flight is there under this number, or none still
abbrev pub KeepsFlight : FlightId → List Flight → List Flight → Type 0
KeepsFlight number old new = flight_at number new ≡ flight_at number old

-- the flight under this number is there once the invalidation has begun, as that leaves it
abbrev pub IsFoundAsLeftBy : FlightId → ℕ → Invalidation → List Flight → Type 0
IsFoundAsLeftBy number level inv flights = flight_at number (map (after_invalidation level inv) flights) ≡ option_map (after_invalidation level inv) (flight_at number flights)

-- where numbers rise they do so with that of a flight which is above them
abbrev pub RisesWithIfAbove : ℕ → ℕ → Flight → List Flight → Type 0
RisesWithIfAbove least most flight flights = AreRising least flights most → most < flight.number → AreRising least (flights ++ flight ∷ []) flight.number

-- where they rise they do so once an invalidation has begun
abbrev pub RisesAfterIfRising : ℕ → ℕ → ℕ → Invalidation → List Flight → Type 0
RisesAfterIfRising least most level inv flights = AreRising least flights most → AreRising least (map (after_invalidation level inv) flights) most

-- where this number stands at this place it alone goes from there as its flight does
abbrev pub LeavesPlaceIfThere : FlightId → ℕ → List Flight → Type 0
LeavesPlaceIfThere number place flights = slice_get (numbers_of flights) place ≡ Some number → numbers_of (without number flights) ≡ remove (numbers_of flights) place
