-- Where a front begins, and what its files hold.
use Rattle.std.proofs.Common.{◌≡◌, ◌≤◌, ◌++◌, ◌∙◌, ℕ, false, List, [], ◌∷◌, Option, Some, None, refl, ap, sym, arith}
use Rattle.std.specs.Prelude.{map}
use Rattle.std.specs.BTreeMap.{btree_map_len, get}
use Rattle.std.specs.Ordering.{nat_cmp}
use Rattle.resource_tree.specs.Content.{Content}
use Rattle.sp_outside.specs.Files.{Files, file_at}
use Rattle.any_config.specs.declared.farm.Farm.{Farm}
use Rattle.docroot_format.specs.Names.{epoch_name, is_page_file, is_stat_file}
use Rattle.docroot_changes.specs.Changes.{Told}
use Rattle.cover_rules.specs.declared.page.PageKey.{PageKey}
use Rattle.flights.specs.declared.flight.Flight.{Flight}
use Rattle.flights.specs.Flights.{numbers_of}
use Rattle.cache_log.specs.Entries.{Session}
use Rattle.cache_ids.specs.Ids.{FlightId}
use Rattle.coherence_core.specs.Cores.{StandsOver, flight_labels, flights_of, flushes_of}
use Rattle.coherence_core.specs.Holds.{files_counted}
use Rattle.coherence_core.specs.Openings.{IsCleared, IsCoreOpened, OpensCore}
use Rattle.coherence_core.specs.Sessions.{closing_entries, failed_entries, lost_entries}
use Rattle.coherence_core.specs.declared.core_state.Core.{Core}
use Rattle.run_events.specs.declared.flying.Flying.{Flying}
use Rattle.run_events.specs.Publishers.{Publishing}
use Rattle.run_events.specs.States.{RunState}
use Rattle.front.specs.Boards.{at_disk}
use Rattle.front.specs.Caches.{BehindStandsFor, behind, flushing_numbers, flying_labels}
use Rattle.front.specs.Endings.{closing_entries_of}
use Rattle.front.specs.Fronts.{BeginsFresh, IsFrontOpened, OpensFront}
use Rattle.front.specs.declared.board.Board.{Board}
use Rattle.front.proofs.ClearingLemmas.{ClearsAll, number-stays, told-as}

-- ---- a front that was just opened
pub opens-front : (farm : Farm) (x y : Option Files) (board : Board) → OpensCore x y board.cache.core → board.cache.core.farm ≡ farm → ((c : ℕ) → get nat_cmp board.open_connections c ≡ None) → btree_map_len board.open_connections ≡ 0 → board.cache.flying ≡ [] → board.cache.flushes ≡ [] → OpensFront farm x y board
opens-front farm x y board core farm_is none count flying flushes =
    told-as (λ old new. IsCoreOpened (files_counted old) new board.cache.core) (λ old new. IsFrontOpened farm (files_counted old) new board) x y (λ old new opened. record { farm_is = farm_is; core = opened; connections = none; count = count; flying = flying; flushes = flushes }) core

-- ---- once its files are cleared
pub begins-fresh : (p : Publishing) (content : Content) (board : Board) (faults : ℕ) (x z : Option Files) → is_page_file epoch_name ≡ false → is_stat_file epoch_name ≡ false
    → ((found : ℕ) (files : Files) (core : Core) → IsCoreOpened found files core → IsCleared files → StandsOver found files core (Session core.epoch ∷ []))
    → ((found : ℕ) (files after : Files) (core : Core) → IsCoreOpened found files core → file_at after epoch_name ≡ file_at files epoch_name → files_counted after ≤ files_counted files → IsCoreOpened found after core)
    → Told ClearsAll x z → BeginsFresh p content x (at_disk board z faults)
begins-fresh p content board faults None z page stat stands kept told = tt
begins-fresh p content board faults (Some a) None page stat stands kept told = absurd told
begins-fresh p content board faults (Some a) (Some b) page stat stands kept told = λ farm found opened. record {
  publishing_is = refl;
  content_is = refl;
  board_is = record {
    open_connections = record { each = λ c. rw (opened.connections c) tt; count = opened.count };
    behind_is = record {
      core_is = stands found b board.cache.core (kept found a b board.cache.core opened.core (number-stays a b page stat told.clears) told.clears.fewer) told.none;
      farm_is = sym opened.farm_is;
      flying_is = opened.flying;
      rising = rw opened.flying (omega arith);
      flights_are = rw (opened.core.flights, opened.flying) refl;
      flushing_is = opened.flushes;
      flushes_are = rw (opened.core.queue, opened.flushes) refl;
      flushes_rise = rw opened.flushes (omega arith);
    };
    slicing_is = refl;
  };
}

-- ---- what its files hold
no-flights : (flights : List Flight) → flight_labels flights ≡ [] → flights ≡ []
no-flights [] none = refl
no-flights (f ∷ flights) none = absurd (cc none)

pub no-flights-left : (w : RunState) (b : Core) (flying : List Flying) → flight_labels (flights_of b) ≡ flying_labels w.farm flying → flying ≡ [] → flights_of b ≡ []
no-flights-left w b flying labels none = no-flights (flights_of b) (labels ∙ ap (flying_labels w.farm) none)

-- the number of the first label, and the labels after it
abbrev first-number : List (FlightId × Option PageKey) → ℕ
first-number [] = 0
first-number (label ∷ labels) = label.0

abbrev later-labels : List (FlightId × Option PageKey) → List (FlightId × Option PageKey)
later-labels [] = []
later-labels (label ∷ labels) = labels

-- the numbers of the flights are those of the state's
flight-numbers : (farm : Farm) (flights : List Flight) (flying : List Flying) → flight_labels flights ≡ flying_labels farm flying → numbers_of flights ≡ map (λ (f : Flying). f.number) flying
flight-numbers farm [] [] labels = refl
flight-numbers farm [] (x ∷ flying) labels = absurd (cc labels)
flight-numbers farm (f ∷ flights) [] labels = absurd (cc labels)
flight-numbers farm (f ∷ flights) (x ∷ flying) labels =
    let first : f.number ≡ x.number = ap first-number labels in
    let rest : flight_labels flights ≡ flying_labels farm flying = ap later-labels labels in
    ap (λ (n : ℕ). n ∷ numbers_of flights) first ∙ ap (λ (ns : List ℕ). x.number ∷ ns) (flight-numbers farm flights flying rest)

-- what closes the core's log closes the state's
pub closing-is : (b : Option Files) (board : Board) (faults : ℕ) (w : RunState) → BehindStandsFor (behind board.cache b faults) w → closing_entries board.cache.core ≡ closing_entries_of w
closing-is b board faults w x =
    let core = board.cache.core in
    let flushes : flushes_of core ≡ flushing_numbers w.flushes = x.flushes_are ∙ ap flushing_numbers x.flushing_is in
    let flights : numbers_of core.flights ≡ map (λ (f : Flying). f.number) w.flights = flight-numbers w.farm core.flights board.cache.flying x.flights_are ∙ ap (λ (fs : List Flying). map (λ (f : Flying). f.number) fs) x.flying_is in
    ap (λ (vs : List ℕ). failed_entries vs ++ lost_entries (numbers_of core.flights)) flushes ∙ ap (λ (ns : List ℕ). failed_entries (flushing_numbers w.flushes) ++ lost_entries ns) flights
