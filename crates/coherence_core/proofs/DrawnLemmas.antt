-- The stamps that were drawn, one after another.
use Rattle.std.proofs.Common.{◌≡◌, ◌<◌, ◌++◌, ℕ, List, [], ◌∷◌, All, AllPairs, Contains, IsTrue, inl, inr, refl, sym, ◌∙◌, ap, subst, arith, ⊎_elim}
use Rattle.std.proofs.lemmas.List.Elements.{All-contains_itself}
use Rattle.std.proofs.lemmas.List.Kept.{AllPairs-cons}
use Rattle.sp_base.proofs.ListLemmas.{contains_first}
use Rattle.sp_outside.specs.Files.{Files}
use Rattle.any_config.specs.declared.farm.Farm.{Farm}
use Rattle.cover_rules.specs.declared.stamp.Stamp.{Stamp}
use Rattle.cover_rules.specs.declared.invalidation.Invalidation.{Invalidation}
use Rattle.cache_ids.specs.Ids.{FlightId, FlushId}
use Rattle.cache_log.specs.Entries.{LogEntry, Asked, Begun, Down, Session, Up, is_up, last_epoch}
use Rattle.cache_log.specs.Rules.{IsAboveAll, IsLegal}
use Rattle.cache_log.proofs.PlaceLemmas.{none-within, rest-within, within}
use Rattle.coherence_core.specs.Asking.{next_stamp}
use Rattle.coherence_core.specs.Cores.{StandsOver, drawn_of}
use Rattle.coherence_core.specs.Served.{Before}
use Rattle.coherence_core.specs.StampTies.{IsFlightStamp, IsFlushStamp, IsStampOfSession, drawn_stamps, stamp_after}
use Rattle.coherence_core.specs.declared.core_state.Core.{Core}
use Rattle.coherence_core.proofs.StampLemmas.{before_later, drawn_later, low_epoch}

-- ---- epochs

-- what is above all epochs is above the last, while the cache is up
last_below : (e : ℕ) (log : List LogEntry) → IsTrue (is_up log) → IsAboveAll e log → last_epoch log < e
last_below e [] up above = absurd (cc up)
last_below e (Up f ∷ log) up above = above.0
last_below e (Session f ∷ log) up above = above.0
last_below e (Down ∷ log) up above = absurd (cc up)
last_below e (x ∷ log) up above = last_below e log up above

-- and above that of each stamp
drawn_below : (farm : Farm) (e : ℕ) (log : List LogEntry) (s : Stamp) → IsLegal farm log → IsAboveAll e log → Contains (drawn_stamps log) s → s.epoch < e
drawn_below farm e [] s legal above there = absurd (none-within there)
drawn_below farm e (Asked n k ∷ log) s legal above there = ⊎_elim
    (λ (same : stamp_after log ≡ s). subst (λ (x : Stamp). x.epoch < e) same (last_below e log legal.0.1.0 above))
    (λ rest. drawn_below farm e log s legal.1 above rest)
    (within (stamp_after log) (drawn_stamps log) s there)
drawn_below farm e (Begun v inv ∷ log) s legal above there = ⊎_elim
    (λ (same : stamp_after log ≡ s). subst (λ (x : Stamp). x.epoch < e) same (last_below e log legal.0.1.0 above))
    (λ rest. drawn_below farm e log s legal.1 above rest)
    (within (stamp_after log) (drawn_stamps log) s there)
drawn_below farm e (Up f ∷ log) s legal above there = drawn_below farm e log s legal.1 above.1 there
drawn_below farm e (Session f ∷ log) s legal above there = drawn_below farm e log s legal.1 above.1 there
drawn_below farm e (x ∷ log) s legal above there = drawn_below farm e log s legal.1 above there

-- ---- the next one

drawn_before : (farm : Farm) (log : List LogEntry) (s : Stamp) → IsLegal farm log → Contains (drawn_stamps log) s → Before s (stamp_after log)
drawn_before farm [] s legal there = absurd (none-within there)
drawn_before farm (Asked n k ∷ log) s legal there =
    let more : (stamp_after log).count < (stamp_after (Asked n k ∷ log)).count = omega arith in
    ⊎_elim
    (λ (same : stamp_after log ≡ s). subst (λ (x : Stamp). Before x (stamp_after (Asked n k ∷ log))) same (drawn_later (last_epoch log) (stamp_after log).count (stamp_after (Asked n k ∷ log)).count more))
    (λ rest. before_later s (last_epoch log) (stamp_after log).count (stamp_after (Asked n k ∷ log)).count (omega (arith, more)) (drawn_before farm log s legal.1 rest))
    (within (stamp_after log) (drawn_stamps log) s there)
drawn_before farm (Begun v inv ∷ log) s legal there =
    let more : (stamp_after log).count < (stamp_after (Begun v inv ∷ log)).count = omega arith in
    ⊎_elim
    (λ (same : stamp_after log ≡ s). subst (λ (x : Stamp). Before x (stamp_after (Begun v inv ∷ log))) same (drawn_later (last_epoch log) (stamp_after log).count (stamp_after (Begun v inv ∷ log)).count more))
    (λ rest. before_later s (last_epoch log) (stamp_after log).count (stamp_after (Begun v inv ∷ log)).count (omega (arith, more)) (drawn_before farm log s legal.1 rest))
    (within (stamp_after log) (drawn_stamps log) s there)
drawn_before farm (Up e ∷ log) s legal there = low_epoch s e (stamp_after (Up e ∷ log)).count (drawn_below farm e log s legal.1 legal.0.1.2 there)
drawn_before farm (Session e ∷ log) s legal there = low_epoch s e 0 (drawn_below farm e log s legal.1 legal.0.1.1 there)
drawn_before farm (x ∷ log) s legal there = drawn_before farm log s legal.1 there

-- ---- any two

all_before : (farm : Farm) (log : List LogEntry) → IsLegal farm log → All (λ (s : Stamp). Before s (stamp_after log)) (drawn_stamps log)
all_before farm log legal k d within = drawn_before farm log _ legal (All-contains_itself (drawn_stamps log) k d within)

one_more : (farm : Farm) (log : List LogEntry) → IsLegal farm log → AllPairs (λ (later earlier : Stamp). Before earlier later) (drawn_stamps log) → AllPairs (λ (later earlier : Stamp). Before earlier later) (stamp_after log ∷ drawn_stamps log)
one_more farm log legal = AllPairs-cons (λ (later earlier : Stamp). Before earlier later) (stamp_after log) (drawn_stamps log) (all_before farm log legal)

drawn_rising : (farm : Farm) (log : List LogEntry) → IsLegal farm log → AllPairs (λ (later earlier : Stamp). Before earlier later) (drawn_stamps log)
drawn_rising farm [] legal = λ i j d lt within. absurd (omega (arith, within))
drawn_rising farm (Asked n k ∷ log) legal = one_more farm log legal.1 (drawn_rising farm log legal.1)
drawn_rising farm (Begun v inv ∷ log) legal = one_more farm log legal.1 (drawn_rising farm log legal.1)
drawn_rising farm (x ∷ log) legal = drawn_rising farm log legal.1

pub rising : (farm : Farm) (log : List LogEntry) → IsLegal farm log → AllPairs (λ (later earlier : Stamp). Before earlier later) (stamp_after log ∷ drawn_stamps log)
rising farm log legal = one_more farm log legal (drawn_rising farm log legal)

-- ---- flights and flushes

flight_drawn : (log : List LogEntry) (n : FlightId) (s : Stamp) → IsFlightStamp log n s → Contains (drawn_stamps log) s
flight_drawn [] n s is = absurd is
flight_drawn (Asked m k ∷ log) n s (inl is) = subst (λ (x : Stamp). Contains (stamp_after log ∷ drawn_stamps log) x) (sym is.1) (contains_first (stamp_after log) (drawn_stamps log))
flight_drawn (Asked m k ∷ log) n s (inr is) = rest-within (stamp_after log) (drawn_stamps log) s (flight_drawn log n s is.1)
flight_drawn (Begun v inv ∷ log) n s is = rest-within (stamp_after log) (drawn_stamps log) s (flight_drawn log n s is)
flight_drawn (Session e ∷ log) n s is = absurd is
flight_drawn (x ∷ log) n s is = flight_drawn log n s is

flush_drawn : (log : List LogEntry) (v : FlushId) (inv : Invalidation) (s : Stamp) → IsFlushStamp log v inv s → Contains (drawn_stamps log) s
flush_drawn [] v inv s is = absurd is
flush_drawn (Begun w i ∷ log) v inv s (inl is) = subst (λ (x : Stamp). Contains (stamp_after log ∷ drawn_stamps log) x) (sym is.2) (contains_first (stamp_after log) (drawn_stamps log))
flush_drawn (Begun w i ∷ log) v inv s (inr is) = rest-within (stamp_after log) (drawn_stamps log) s (flush_drawn log v inv s is)
flush_drawn (Asked m k ∷ log) v inv s is = rest-within (stamp_after log) (drawn_stamps log) s (flush_drawn log v inv s is)
flush_drawn (Session e ∷ log) v inv s is = absurd is
flush_drawn (x ∷ log) v inv s is = flush_drawn log v inv s is

pub session_drawn : (since log : List LogEntry) (s : Stamp) → IsStampOfSession log s → Contains (drawn_stamps (since ++ log)) s
session_drawn [] log s (inl is) = flight_drawn log is.0 s is.1
session_drawn [] log s (inr is) = flush_drawn log is.0 is.1 s is.2
session_drawn (Asked m k ∷ since) log s is = rest-within (stamp_after (since ++ log)) (drawn_stamps (since ++ log)) s (session_drawn since log s is)
session_drawn (Begun w i ∷ since) log s is = rest-within (stamp_after (since ++ log)) (drawn_stamps (since ++ log)) s (session_drawn since log s is)
session_drawn (x ∷ since) log s is = session_drawn since log s is

-- the log was one whose session drew the stamp
abbrev pub WasOfSession : List LogEntry → Stamp → Type 0
WasOfSession log s = (since : List LogEntry) × (before : List LogEntry) × (log ≡ since ++ before) × IsStampOfSession before s

more_of : (x : LogEntry) (log : List LogEntry) (s : Stamp) → WasOfSession log s → WasOfSession (x ∷ log) s
more_of x log s was = (x ∷ was.0, was.1, ap (λ (l : List LogEntry). x ∷ l) was.2, was.3)

pub drawn_of_session : (log : List LogEntry) (s : Stamp) → Contains (drawn_stamps log) s → WasOfSession log s
drawn_of_session [] s there = absurd (none-within there)
drawn_of_session (Asked n k ∷ log) s there = ⊎_elim
    (λ (same : stamp_after log ≡ s). ([], Asked n k ∷ log, refl, inl (n, inl (refl, sym same))))
    (λ rest. more_of (Asked n k) log s (drawn_of_session log s rest))
    (within (stamp_after log) (drawn_stamps log) s there)
drawn_of_session (Begun v inv ∷ log) s there = ⊎_elim
    (λ (same : stamp_after log ≡ s). ([], Begun v inv ∷ log, refl, inr (v, inv, inl (refl, refl, sym same))))
    (λ rest. more_of (Begun v inv) log s (drawn_of_session log s rest))
    (within (stamp_after log) (drawn_stamps log) s there)
drawn_of_session (x ∷ log) s there = more_of x log s (drawn_of_session log s there)

-- ---- what a core draws next

pub core_next : (found : ℕ) (files : Files) (core : Core) (log : List LogEntry) → StandsOver found files core log → next_stamp core ≡ stamp_after log
core_next found files core log s = ap (λ (e : ℕ). record { epoch = e; count = drawn_of core }) (sym s.stands.epochs.last) ∙ ap (λ (c : ℕ). record { epoch = last_epoch log; count = c }) s.stands.counts.stamps

pub core_drawn : (found : ℕ) (files : Files) (core : Core) (log : List LogEntry) (s : Stamp) → StandsOver found files core log → IsLegal core.farm log → Contains (drawn_stamps log) s → Before s (next_stamp core)
core_drawn found files core log s stands legal there = subst (λ (next : Stamp). Before s next) (sym (core_next found files core log stands)) (drawn_before core.farm log s legal there)
