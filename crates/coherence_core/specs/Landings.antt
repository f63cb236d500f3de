-- What becomes of a flight that lands (RFC 9111, section 3).
use Rattle.std.specs.Prelude.{◌≡◌, ◌⊎◌, true, false, Option, Some, None, [], ◌∷◌}
use Rattle.sp_base.specs.declared.answer.Answer.{Answer}
use Rattle.sp_outside.specs.Files.{Files}
use Rattle.cover_rules.specs.declared.page.PageKey.{PageKey}
use Rattle.cover_rules.specs.declared.stamp.Stamp.{Stamp}
use Rattle.dispatch_rules.specs.Caching.{is_storable}
use Rattle.docroot_format.specs.declared.fault.FileFault.TheVariants.{Disk, NoMemory}
use Rattle.docroot_changes.specs.Changes.{MayPut, PageSet, Told}
use Rattle.flights.specs.declared.flight.Flight.{Flight}
use Rattle.flights.specs.declared.landing.Landing.{Landing}
use Rattle.flights.specs.declared.landing.Landing.TheVariants.{Clear, Voided, Unkeyed}
use Rattle.cache_log.specs.Entries.{Fate, Kept, Unkept, Passed, Landed as landed_entry}
use Rattle.cache_log.specs.Rules.{CallConditions}
use Rattle.cache_ids.specs.Ids.{FlightId}
use Rattle.coherence_core.specs.Cores.{conditions_of_call, ExtendsCore}
use Rattle.page_index.specs.Effects.{ForgetsPage}
use Rattle.page_index.specs.declared.index.PageIndex.{PageIndex}
use Rattle.coherence_core.specs.declared.answers.Landed.{Landed}
use Rattle.coherence_core.specs.declared.answers.Landed.TheVariants as landed
use Rattle.coherence_core.specs.declared.core_state.Core.{Core}

-- its answer was stored; it was only passed on; or it may have been stored
abbrev pub fate_of : Landed → Fate
fate_of (landed.Kept key) = Kept
fate_of landed.Passed = Passed
fate_of landed.DiskFailed = Unkept
fate_of landed.NoMemory = Unkept

-- what the call ran under
abbrev pub landed_under : Landed → CallConditions
landed_under (landed.Kept key) = conditions_of_call false false
landed_under landed.Passed = conditions_of_call false false
landed_under landed.DiskFailed = conditions_of_call true false
landed_under landed.NoMemory = conditions_of_call false true

-- a page that was kept is that of the flight
abbrev pub IsKeptAs : Option PageKey → Landed → Type 0
IsKeptAs own (landed.Kept key) = own ≡ Some key
IsKeptAs own _ = Unit {0}

-- What storing an answer came to: its page is there; it isn't storable, and nothing changed; or its page may be there.
abbrev pub IsStored : PageKey → Stamp → Answer → Landed → Option Files → Option Files → Type 0
IsStored key stamp answer (landed.Kept own) old new = (is_storable answer ≡ true) × Told (PageSet key stamp answer) old new
IsStored key stamp answer landed.Passed old new = (is_storable answer ≡ false) × (new ≡ old)
IsStored key stamp answer landed.DiskFailed old new = (is_storable answer ≡ true) × Told (MayPut key stamp answer Disk) old new
IsStored key stamp answer landed.NoMemory old new = (is_storable answer ≡ true) × Told (MayPut key stamp answer NoMemory) old new

-- What a landing came to: it is stored where its flight gives leave, and else nothing changed.
abbrev pub IsKeptFrom : Landing → Answer → Landed → Option Files → Option Files → Type 0
IsKeptFrom (Clear clear) answer out old new = IsStored clear.key clear.stamp answer out old new × IsKeptAs (Some clear.key) out
IsKeptFrom (Voided key) answer out old new = (out ≡ landed.Passed) × (new ≡ old)
IsKeptFrom Unkeyed answer out old new = (out ≡ landed.Passed) × (new ≡ old)

-- What is noted once an answer was to be stored: the page of its key is forgotten, unless the answer may not be stored.
abbrev pub ForgetsFor : PageKey → Landed → PageIndex → PageIndex → Type 0
ForgetsFor key landed.Passed old new = new ≡ old
ForgetsFor key out old new = ForgetsPage key old new

-- What is noted after a landing: what was noted before, or that without the page of a flight that gave leave.
abbrev pub ForgetsFrom : Landing → Landed → PageIndex → PageIndex → Type 0
ForgetsFrom (Clear clear) out old new = ForgetsFor clear.key out old new
ForgetsFrom (Voided key) out old new = new ≡ old
ForgetsFrom Unkeyed out old new = new ≡ old

-- What delivering an answer to a flight came to: it may not be stored, and nothing changed, exactly where the flight is for no page or voided,
-- or the answer isn't storable; else it was stored as the flight's page, with the stamp of its asking, or may have been.
abbrev pub DeliveredAs : Flight → Answer → Landed → Option Files → Option Files → Type 0
DeliveredAs flight answer landed.Passed old new = ((flight.key ≡ None) ⊎ ((flight.voided ≡ true) ⊎ (is_storable answer ≡ false))) × (new ≡ old)
DeliveredAs flight answer out old new = (flight.voided ≡ false) × ((key : PageKey) × ((flight.key ≡ Some key) × IsStored key flight.stamp answer out old new))

-- a core and a disk before and after this flight landed so: the log has its landing
abbrev pub LandsFlight : Option Files → Core → Option Files → Core → FlightId → Answer → Landed → Flight → Type 0
LandsFlight told core after next ticket answer landed flight = ExtendsCore told core after next (landed_under landed) (landed_entry ticket flight.key answer (fate_of landed) ∷ [])
