-- The stamps of the flights in the air and of the unfinished flushes, as the log goes on.
use Rattle.std.proofs.Common.{◌≡◌, ◌≢◌, ◌+◌, ℕ, List, [], ◌∷◌, ◌++◌, Option, Some, inl, inr, sym, subst, arith, eq-eqb, ne_eqb, ⊎_elim, map}
use Rattle.std.specs.List.{AllByRecursion}
use Rattle.std.proofs.lemmas.Bool.{cases_eq}
use Rattle.sp_base.specs.declared.answer.Answer.{Answer}
use Rattle.any_config.specs.declared.farm.Farm.{Farm}
use Rattle.cover_rules.specs.declared.page.PageKey.{PageKey}
use Rattle.cover_rules.specs.declared.stamp.Stamp.{Stamp}
use Rattle.cover_rules.specs.declared.invalidation.Invalidation.{Invalidation}
use Rattle.flights.specs.declared.flight.Flight.{Flight}
use Rattle.flights.specs.Flights.{after_invalidation, flight_at, without}
use Rattle.cache_log.specs.Entries.{LogEntry, Asked, Begun, Done, Ended, Kept, Landed, Session, Unkept}
use Rattle.cache_log.specs.Hits.{MayHit}
use Rattle.coherence_core.specs.Served.{Stamps}
use Rattle.coherence_core.specs.StampTies.{IsFlightStamp, IsFlushStamp, MayHitOfStamp, stamp_after}
use Rattle.coherence_core.specs.Stands.{AreLogFlights}
use Rattle.coherence_core.specs.declared.pending.Pending.{Pending}

-- each of the flights has the stamp that was drawn for it
abbrev pub HaveDrawn : List LogEntry → List Flight → Type 0
HaveDrawn log flights = AllByRecursion (λ (f : Flight). IsFlightStamp log f.number f.stamp) flights

-- each of the flushes has
abbrev pub HaveBegun : List LogEntry → List Pending → Type 0
HaveBegun log queue = AllByRecursion (λ (p : Pending). IsFlushStamp log p.number p.purge.inv p.purge.stamp) queue

-- one flight more
pub asked_drawn : (farm : Farm) (log : List LogEntry) (stat : Stamps) (d : ℕ) (s : Stamp) (key : Option PageKey) (fs : List Flight) (f : Flight) → f.number ≡ d + 1 → f.stamp ≡ stamp_after log → AreLogFlights farm log stat d s fs → HaveDrawn log fs → HaveDrawn (Asked (d + 1) key ∷ log) (fs ++ f ∷ [])
asked_drawn farm log stat d s key [] f num st all drawn = (inl (sym num, st), tt)
asked_drawn farm log stat d s key (g ∷ gs) f num st all drawn =
    let ne : d + 1 ≢ g.number = omega (arith, all.0.below) in
    (inr (ne, drawn.0), asked_drawn farm log stat d s key gs f num st all.2 drawn.1)

-- one fewer
pub without_drawn : (log : List LogEntry) (n : ℕ) (fs : List Flight) → HaveDrawn log fs → HaveDrawn log (without n fs)
without_drawn log n [] drawn = tt
without_drawn log n (f ∷ fs) drawn = ⊎_elim
    (λ (same : f.number ≡ n). rw (eq-eqb f.number n same) drawn.1)
    (λ (ne : f.number ≢ n). rw (ne_eqb f.number n ne) (drawn.0, without_drawn log n fs drawn.1))
    (cases_eq f.number n)

-- a flush voids some
pub map_drawn : (level : ℕ) (inv : Invalidation) (log : List LogEntry) (fs : List Flight) → HaveDrawn log fs → HaveDrawn log (map (after_invalidation level inv) fs)
map_drawn level inv log [] drawn = tt
map_drawn level inv log (f ∷ fs) drawn = (drawn.0, map_drawn level inv log fs drawn.1)

-- the stamp of one of them
pub drawn_at : (log : List LogEntry) (fs : List Flight) (n : ℕ) (f : Flight) → flight_at n fs ≡ Some f → HaveDrawn log fs → IsFlightStamp log n f.stamp
drawn_at log [] n f is drawn = absurd (cc is)
drawn_at log (g ∷ gs) n f is drawn = ⊎_elim
    (λ (same : g.number ≡ n).
    let found : Some g ≡ Some f = rw (eq-eqb g.number n same) at is in
    let one : g ≡ f = cc found in
    subst (λ (x : Flight). IsFlightStamp log n x.stamp) one (subst (λ (m : ℕ). IsFlightStamp log m g.stamp) same drawn.0))
    (λ (ne : g.number ≢ n). drawn_at log gs n f (rw (ne_eqb g.number n ne) at is) drawn.1)
    (cases_eq g.number n)

-- one flush more
pub begun_drawn : (log : List LogEntry) (v : ℕ) (inv : Invalidation) (ps : List Pending) (q : Pending) → q.number ≡ v → inv ≡ q.purge.inv → q.purge.stamp ≡ stamp_after log → HaveBegun log ps → HaveBegun (Begun v inv ∷ log) (ps ++ q ∷ [])
begun_drawn log v inv [] q num same st drawn = (inl (sym num, same, st), tt)
begun_drawn log v inv (p ∷ ps) q num same st drawn = (inr drawn.0, begun_drawn log v inv ps q num same st drawn.1)

-- ---- hits by their stamps

pub hit_of_stamp : (farm : Farm) (log : List LogEntry) (key : PageKey) (answer : Answer) (stamp : Stamp) → MayHitOfStamp farm log key answer stamp → MayHit farm log key answer
hit_of_stamp farm [] key answer stamp h = absurd h
hit_of_stamp farm (Landed n k given Kept ∷ log) key answer stamp (inl h) = inl (h.0, h.1, h.2)
hit_of_stamp farm (Landed n k given Kept ∷ log) key answer stamp (inr h) = inr (h.0, hit_of_stamp farm log key answer stamp h.1)
hit_of_stamp farm (Landed n k given Unkept ∷ log) key answer stamp (inl h) = inl (h.0, h.1, h.2)
hit_of_stamp farm (Landed n k given Unkept ∷ log) key answer stamp (inr h) = inr (hit_of_stamp farm log key answer stamp h)
hit_of_stamp farm (Ended v Done ∷ log) key answer stamp h = (h.0, hit_of_stamp farm log key answer stamp h.1)
hit_of_stamp farm (Session e ∷ log) key answer stamp h = absurd h
hit_of_stamp farm (e ∷ log) key answer stamp h = hit_of_stamp farm log key answer stamp h
