use Rattle.std.proofs.Common.{◌≡◌, ◌++◌, ◌∷◌, [], ℕ, List, refl, ap, subst, ◌∙◌}
use Rattle.std.specs.Prelude.{◌==◌}
use Rattle.cache_log.specs.Entries.{LogEntry}
use Rattle.coherence_core.specs.Cores.{CoreStandsFor}
use Rattle.coherence_core.specs.Requests.{GotAs}
use Rattle.coherence_core.specs.declared.answers.Got.TheVariants as got
use Rattle.run_events.specs.declared.flying.Flushing.{Flushing}
use Rattle.front.specs.Caches.{behind, flying_of}
use Rattle.front.specs.declared.ticketed.TicketedFlight.{TicketedFlight}
use Rattle.front.proofs.AnswerLemmas.{is-asked, is-begun, is-denied, is-down, is-dry, is-forbidden, is-hit, is-out, is-refused}
use Rattle.front.proofs.RequestLemmas.{core-got}
use Rattle.front.proofs.TicketLemmas.{kept-flying, ticketed-more}
use Rattle.front.proofs.cache.Cache.request.Goals as goal
use Rattle.front.proofs.cache.Cache.request.Goals.{then-is_err-via-then-is_err, then-is_err-via-else-is_err+then-is_err-2}

pub returns-in-Hit-clause-given : goal.returns-in-Hit-clause-given
returns-in-Hit-clause-given g c = rw (← c.self.view_is, c.reserve.ensures.items, c.reserve-else-is_err.ensures.items) (λ w asks. is-hit (behind (record { core = c.self.inside.core; flying = flying_of c.self.inside.flights.items; flushes = c.self.inside.flushes.items }) (g.D.Disk.files c.args.disk.now) (g.D.Disk.faults c.args.disk.now)) c.request-got.new.self (g.D.Disk.files c.request-got.new.disk) (g.D.Disk.faults c.request-got.new.disk) w c.args.c c.args.request c.args.peer.now c.request-got.result.disk_failed c.in-Hit.key c.in-Hit.answer c.hit.result asks (core-got (behind (record { core = c.self.inside.core; flying = flying_of c.self.inside.flights.items; flushes = c.self.inside.flushes.items }) (g.D.Disk.files c.args.disk.now) (g.D.Disk.faults c.args.disk.now)) c.request-got.new.self (g.D.Disk.files c.request-got.new.disk) (g.D.Disk.faults c.request-got.new.disk) c.args.request c.args.peer.now c.request-got.result (got.Hit c.in-Hit.key c.in-Hit.answer) c.in-Hit.is c.request-got.ensures.log (subst (λ p. (found : ℕ) (log : List LogEntry) → CoreStandsFor found (g.D.Disk.files c.args.disk.now) c.self.inside.core log → GotAs c.self.inside.core log c.args.request p c.request-got.result.disk_failed c.request-got.result.got) c.text.ensures c.request-got.ensures.cause) c.request-got.ensures.disk_failed c.request-got.ensures.labels c.request-got.ensures.flushes c.request-got.ensures.kept) (c.hit.ensures ∙ rw c.not_out_of_memory-conditions.ensures refl))

pub returns-in-Down-clause-given : goal.returns-in-Down-clause-given
returns-in-Down-clause-given g c = rw (← c.self.view_is, c.reserve.ensures.items, c.reserve-else-is_err.ensures.items) (λ w asks. is-down (behind (record { core = c.self.inside.core; flying = flying_of c.self.inside.flights.items; flushes = c.self.inside.flushes.items }) (g.D.Disk.files c.args.disk.now) (g.D.Disk.faults c.args.disk.now)) c.request-got.new.self (g.D.Disk.files c.request-got.new.disk) (g.D.Disk.faults c.request-got.new.disk) w c.args.c c.args.request c.args.peer.now c.request-got.result.disk_failed got.Down c.turned_away.result tt asks (core-got (behind (record { core = c.self.inside.core; flying = flying_of c.self.inside.flights.items; flushes = c.self.inside.flushes.items }) (g.D.Disk.files c.args.disk.now) (g.D.Disk.faults c.args.disk.now)) c.request-got.new.self (g.D.Disk.files c.request-got.new.disk) (g.D.Disk.faults c.request-got.new.disk) c.args.request c.args.peer.now c.request-got.result got.Down c.in-Down.is c.request-got.ensures.log (subst (λ p. (found : ℕ) (log : List LogEntry) → CoreStandsFor found (g.D.Disk.files c.args.disk.now) c.self.inside.core log → GotAs c.self.inside.core log c.args.request p c.request-got.result.disk_failed c.request-got.result.got) c.text.ensures c.request-got.ensures.cause) c.request-got.ensures.disk_failed c.request-got.ensures.labels c.request-got.ensures.flushes c.request-got.ensures.kept) (c.turned_away.ensures ∙ rw c.not_out_of_memory-conditions.ensures refl))

pub returns-in-FullPurge-clause-given : goal.returns-in-FullPurge-clause-given
returns-in-FullPurge-clause-given g c = rw (← c.self.view_is, c.reserve.ensures.items, c.reserve-else-is_err.ensures.items) (λ w asks. is-down (behind (record { core = c.self.inside.core; flying = flying_of c.self.inside.flights.items; flushes = c.self.inside.flushes.items }) (g.D.Disk.files c.args.disk.now) (g.D.Disk.faults c.args.disk.now)) c.request-got.new.self (g.D.Disk.files c.request-got.new.disk) (g.D.Disk.faults c.request-got.new.disk) w c.args.c c.args.request c.args.peer.now c.request-got.result.disk_failed got.FullPurge c.turned_away-in-FullPurge.result tt asks (core-got (behind (record { core = c.self.inside.core; flying = flying_of c.self.inside.flights.items; flushes = c.self.inside.flushes.items }) (g.D.Disk.files c.args.disk.now) (g.D.Disk.faults c.args.disk.now)) c.request-got.new.self (g.D.Disk.files c.request-got.new.disk) (g.D.Disk.faults c.request-got.new.disk) c.args.request c.args.peer.now c.request-got.result got.FullPurge c.in-FullPurge.is c.request-got.ensures.log (subst (λ p. (found : ℕ) (log : List LogEntry) → CoreStandsFor found (g.D.Disk.files c.args.disk.now) c.self.inside.core log → GotAs c.self.inside.core log c.args.request p c.request-got.result.disk_failed c.request-got.result.got) c.text.ensures c.request-got.ensures.cause) c.request-got.ensures.disk_failed c.request-got.ensures.labels c.request-got.ensures.flushes c.request-got.ensures.kept) (c.turned_away-in-FullPurge.ensures ∙ rw c.not_out_of_memory-conditions.ensures refl))

pub returns-in-FullAir-clause-given : goal.returns-in-FullAir-clause-given
returns-in-FullAir-clause-given g c = rw (← c.self.view_is, c.reserve.ensures.items, c.reserve-else-is_err.ensures.items) (λ w asks. is-down (behind (record { core = c.self.inside.core; flying = flying_of c.self.inside.flights.items; flushes = c.self.inside.flushes.items }) (g.D.Disk.files c.args.disk.now) (g.D.Disk.faults c.args.disk.now)) c.request-got.new.self (g.D.Disk.files c.request-got.new.disk) (g.D.Disk.faults c.request-got.new.disk) w c.args.c c.args.request c.args.peer.now c.request-got.result.disk_failed got.FullAir c.turned_away-in-FullAir.result tt asks (core-got (behind (record { core = c.self.inside.core; flying = flying_of c.self.inside.flights.items; flushes = c.self.inside.flushes.items }) (g.D.Disk.files c.args.disk.now) (g.D.Disk.faults c.args.disk.now)) c.request-got.new.self (g.D.Disk.files c.request-got.new.disk) (g.D.Disk.faults c.request-got.new.disk) c.args.request c.args.peer.now c.request-got.result got.FullAir c.in-FullAir.is c.request-got.ensures.log (subst (λ p. (found : ℕ) (log : List LogEntry) → CoreStandsFor found (g.D.Disk.files c.args.disk.now) c.self.inside.core log → GotAs c.self.inside.core log c.args.request p c.request-got.result.disk_failed c.request-got.result.got) c.text.ensures c.request-got.ensures.cause) c.request-got.ensures.disk_failed c.request-got.ensures.labels c.request-got.ensures.flushes c.request-got.ensures.kept) (c.turned_away-in-FullAir.ensures ∙ rw c.not_out_of_memory-conditions.ensures refl))

pub returns-in-Worn-clause-given : goal.returns-in-Worn-clause-given
returns-in-Worn-clause-given g c = rw (← c.self.view_is, c.reserve.ensures.items, c.reserve-else-is_err.ensures.items) (λ w asks. is-down (behind (record { core = c.self.inside.core; flying = flying_of c.self.inside.flights.items; flushes = c.self.inside.flushes.items }) (g.D.Disk.files c.args.disk.now) (g.D.Disk.faults c.args.disk.now)) c.request-got.new.self (g.D.Disk.files c.request-got.new.disk) (g.D.Disk.faults c.request-got.new.disk) w c.args.c c.args.request c.args.peer.now c.request-got.result.disk_failed got.Worn c.turned_away-in-Worn.result tt asks (core-got (behind (record { core = c.self.inside.core; flying = flying_of c.self.inside.flights.items; flushes = c.self.inside.flushes.items }) (g.D.Disk.files c.args.disk.now) (g.D.Disk.faults c.args.disk.now)) c.request-got.new.self (g.D.Disk.files c.request-got.new.disk) (g.D.Disk.faults c.request-got.new.disk) c.args.request c.args.peer.now c.request-got.result got.Worn c.in-Worn.is c.request-got.ensures.log (subst (λ p. (found : ℕ) (log : List LogEntry) → CoreStandsFor found (g.D.Disk.files c.args.disk.now) c.self.inside.core log → GotAs c.self.inside.core log c.args.request p c.request-got.result.disk_failed c.request-got.result.got) c.text.ensures c.request-got.ensures.cause) c.request-got.ensures.disk_failed c.request-got.ensures.labels c.request-got.ensures.flushes c.request-got.ensures.kept) (c.turned_away-in-Worn.ensures ∙ rw c.not_out_of_memory-conditions.ensures refl))

pub returns-in-FlushForbidden-clause-given : goal.returns-in-FlushForbidden-clause-given
returns-in-FlushForbidden-clause-given g c = rw (← c.self.view_is, c.reserve.ensures.items, c.reserve-else-is_err.ensures.items) (λ w asks. is-forbidden (behind (record { core = c.self.inside.core; flying = flying_of c.self.inside.flights.items; flushes = c.self.inside.flushes.items }) (g.D.Disk.files c.args.disk.now) (g.D.Disk.faults c.args.disk.now)) c.request-got.new.self (g.D.Disk.files c.request-got.new.disk) (g.D.Disk.faults c.request-got.new.disk) w c.args.c c.args.request c.args.peer.now c.request-got.result.disk_failed c.turned_away-in-FlushForbidden.result asks (core-got (behind (record { core = c.self.inside.core; flying = flying_of c.self.inside.flights.items; flushes = c.self.inside.flushes.items }) (g.D.Disk.files c.args.disk.now) (g.D.Disk.faults c.args.disk.now)) c.request-got.new.self (g.D.Disk.files c.request-got.new.disk) (g.D.Disk.faults c.request-got.new.disk) c.args.request c.args.peer.now c.request-got.result got.FlushForbidden c.in-FlushForbidden.is c.request-got.ensures.log (subst (λ p. (found : ℕ) (log : List LogEntry) → CoreStandsFor found (g.D.Disk.files c.args.disk.now) c.self.inside.core log → GotAs c.self.inside.core log c.args.request p c.request-got.result.disk_failed c.request-got.result.got) c.text.ensures c.request-got.ensures.cause) c.request-got.ensures.disk_failed c.request-got.ensures.labels c.request-got.ensures.flushes c.request-got.ensures.kept) (c.turned_away-in-FlushForbidden.ensures ∙ rw c.not_out_of_memory-conditions.ensures refl))

pub returns-in-FlushRefused-clause-given : goal.returns-in-FlushRefused-clause-given
returns-in-FlushRefused-clause-given g c = rw (← c.self.view_is, c.reserve.ensures.items, c.reserve-else-is_err.ensures.items) (λ w asks. is-refused (behind (record { core = c.self.inside.core; flying = flying_of c.self.inside.flights.items; flushes = c.self.inside.flushes.items }) (g.D.Disk.files c.args.disk.now) (g.D.Disk.faults c.args.disk.now)) c.request-got.new.self (g.D.Disk.files c.request-got.new.disk) (g.D.Disk.faults c.request-got.new.disk) w c.args.c c.args.request c.args.peer.now c.request-got.result.disk_failed c.in-FlushRefused.field-0 c.turned_away-in-FlushRefused.result asks (core-got (behind (record { core = c.self.inside.core; flying = flying_of c.self.inside.flights.items; flushes = c.self.inside.flushes.items }) (g.D.Disk.files c.args.disk.now) (g.D.Disk.faults c.args.disk.now)) c.request-got.new.self (g.D.Disk.files c.request-got.new.disk) (g.D.Disk.faults c.request-got.new.disk) c.args.request c.args.peer.now c.request-got.result (got.FlushRefused c.in-FlushRefused.field-0) c.in-FlushRefused.is c.request-got.ensures.log (subst (λ p. (found : ℕ) (log : List LogEntry) → CoreStandsFor found (g.D.Disk.files c.args.disk.now) c.self.inside.core log → GotAs c.self.inside.core log c.args.request p c.request-got.result.disk_failed c.request-got.result.got) c.text.ensures c.request-got.ensures.cause) c.request-got.ensures.disk_failed c.request-got.ensures.labels c.request-got.ensures.flushes c.request-got.ensures.kept) (c.turned_away-in-FlushRefused.ensures ∙ rw c.not_out_of_memory-conditions.ensures refl))

pub returns-in-Denied-clause-given : goal.returns-in-Denied-clause-given
returns-in-Denied-clause-given g c = rw (← c.self.view_is, c.reserve.ensures.items, c.reserve-else-is_err.ensures.items) (λ w asks. is-denied (behind (record { core = c.self.inside.core; flying = flying_of c.self.inside.flights.items; flushes = c.self.inside.flushes.items }) (g.D.Disk.files c.args.disk.now) (g.D.Disk.faults c.args.disk.now)) c.request-got.new.self (g.D.Disk.files c.request-got.new.disk) (g.D.Disk.faults c.request-got.new.disk) w c.args.c c.args.request c.args.peer.now c.request-got.result.disk_failed c.turned_away-in-Denied.result asks (core-got (behind (record { core = c.self.inside.core; flying = flying_of c.self.inside.flights.items; flushes = c.self.inside.flushes.items }) (g.D.Disk.files c.args.disk.now) (g.D.Disk.faults c.args.disk.now)) c.request-got.new.self (g.D.Disk.files c.request-got.new.disk) (g.D.Disk.faults c.request-got.new.disk) c.args.request c.args.peer.now c.request-got.result got.Denied c.in-Denied.is c.request-got.ensures.log (subst (λ p. (found : ℕ) (log : List LogEntry) → CoreStandsFor found (g.D.Disk.files c.args.disk.now) c.self.inside.core log → GotAs c.self.inside.core log c.args.request p c.request-got.result.disk_failed c.request-got.result.got) c.text.ensures c.request-got.ensures.cause) c.request-got.ensures.disk_failed c.request-got.ensures.labels c.request-got.ensures.flushes c.request-got.ensures.kept) (c.turned_away-in-Denied.ensures ∙ rw c.not_out_of_memory-conditions.ensures refl))

pub returns-in-NoMemory-clause-given : goal.returns-in-NoMemory-clause-given
returns-in-NoMemory-clause-given g c = rw (← c.self.view_is, c.reserve.ensures.items, c.reserve-else-is_err.ensures.items) (λ w asks. is-out (behind (record { core = c.self.inside.core; flying = flying_of c.self.inside.flights.items; flushes = c.self.inside.flushes.items }) (g.D.Disk.files c.args.disk.now) (g.D.Disk.faults c.args.disk.now)) c.request-got.new.self (g.D.Disk.files c.request-got.new.disk) (g.D.Disk.faults c.request-got.new.disk) w c.args.c c.args.request c.args.peer.now c.request-got.result.disk_failed c.turned_away_out_of_memory-in-NoMemory.result asks (core-got (behind (record { core = c.self.inside.core; flying = flying_of c.self.inside.flights.items; flushes = c.self.inside.flushes.items }) (g.D.Disk.files c.args.disk.now) (g.D.Disk.faults c.args.disk.now)) c.request-got.new.self (g.D.Disk.files c.request-got.new.disk) (g.D.Disk.faults c.request-got.new.disk) c.args.request c.args.peer.now c.request-got.result got.NoMemory c.in-NoMemory.is c.request-got.ensures.log (subst (λ p. (found : ℕ) (log : List LogEntry) → CoreStandsFor found (g.D.Disk.files c.args.disk.now) c.self.inside.core log → GotAs c.self.inside.core log c.args.request p c.request-got.result.disk_failed c.request-got.result.got) c.text.ensures c.request-got.ensures.cause) c.request-got.ensures.disk_failed c.request-got.ensures.labels c.request-got.ensures.flushes c.request-got.ensures.kept) c.turned_away_out_of_memory-in-NoMemory.ensures)

pub returns-in-Flush-clause-given : goal.returns-in-Flush-clause-given
returns-in-Flush-clause-given g c = rw (← c.self.view_is, c.reserve.ensures.items) (λ w asks. is-begun (behind (record { core = c.self.inside.core; flying = flying_of c.self.inside.flights.items; flushes = c.self.inside.flushes.items }) (g.D.Disk.files c.args.disk.now) (g.D.Disk.faults c.args.disk.now)) c.request-got.new.self (g.D.Disk.files c.request-got.new.disk) (g.D.Disk.faults c.request-got.new.disk) w c.args.c c.in-Flush.number c.args.request c.args.peer.now c.request-got.result.disk_failed c.in-Flush.inv c.is_empty-slices.result c.begun.result c.push_reserved-in-Flush.new.self.items asks
    (core-got (behind (record { core = c.self.inside.core; flying = flying_of c.self.inside.flights.items; flushes = c.self.inside.flushes.items }) (g.D.Disk.files c.args.disk.now) (g.D.Disk.faults c.args.disk.now)) c.request-got.new.self (g.D.Disk.files c.request-got.new.disk) (g.D.Disk.faults c.request-got.new.disk) c.args.request c.args.peer.now c.request-got.result (got.Flush c.in-Flush.number c.in-Flush.inv) c.in-Flush.is c.request-got.ensures.log (subst (λ p. (found : ℕ) (log : List LogEntry) → CoreStandsFor found (g.D.Disk.files c.args.disk.now) c.self.inside.core log → GotAs c.self.inside.core log c.args.request p c.request-got.result.disk_failed c.request-got.result.got) c.text.ensures c.request-got.ensures.cause) c.request-got.ensures.disk_failed c.request-got.ensures.labels c.request-got.ensures.flushes c.request-got.ensures.kept)
    (c.push_reserved-in-Flush.ensures.items ∙ ap (λ (fs : List Flushing). fs ++ record { number = c.in-Flush.number; connection = c.args.c } ∷ []) c.reserve-else-is_err.ensures.items) (c.is_empty-slices.ensures ∙ ap (λ n. n == 0) c.self.inside.flushes.ok.0) (c.begun.ensures ∙ rw c.not_out_of_memory-conditions.ensures refl))

pub returns-in-Asked-clause-given : goal.returns-in-Asked-clause-given
returns-in-Asked-clause-given g c = rw (← c.self.view_is, c.reserve-else-is_err.ensures.items) (λ w asks. is-asked (behind (record { core = c.self.inside.core; flying = flying_of c.self.inside.flights.items; flushes = c.self.inside.flushes.items }) (g.D.Disk.files c.args.disk.now) (g.D.Disk.faults c.args.disk.now)) c.request-got.new.self (g.D.Disk.files c.request-got.new.disk) (g.D.Disk.faults c.request-got.new.disk) w c.args.c c.in-Asked.ticket c.args.request c.args.peer.now c.request-got.result.disk_failed c.in-Asked.key c.asked.result (flying_of c.push_reserved.new.self.items) asks
    (core-got (behind (record { core = c.self.inside.core; flying = flying_of c.self.inside.flights.items; flushes = c.self.inside.flushes.items }) (g.D.Disk.files c.args.disk.now) (g.D.Disk.faults c.args.disk.now)) c.request-got.new.self (g.D.Disk.files c.request-got.new.disk) (g.D.Disk.faults c.request-got.new.disk) c.args.request c.args.peer.now c.request-got.result (got.Asked c.in-Asked.ticket c.in-Asked.key) c.in-Asked.is c.request-got.ensures.log (subst (λ p. (found : ℕ) (log : List LogEntry) → CoreStandsFor found (g.D.Disk.files c.args.disk.now) c.self.inside.core log → GotAs c.self.inside.core log c.args.request p c.request-got.result.disk_failed c.request-got.result.got) c.text.ensures c.request-got.ensures.cause) c.request-got.ensures.disk_failed c.request-got.ensures.labels c.request-got.ensures.flushes c.request-got.ensures.kept)
    (kept-flying c.self.inside.flights.items c.push_reserved.new.self.items c.in-Asked.ticket c.new_flight-flying.result _ (c.push_reserved.ensures.items ∙ ap (λ (fs : List TicketedFlight). fs ++ record { ticket = c.in-Asked.ticket; flying = c.new_flight-flying.result } ∷ []) c.reserve.ensures.items) (c.new_flight-flying.ensures ∙ rw c.number-number.ensures refl))
    (c.asked.ensures ∙ rw (c.number-number.ensures, c.not_out_of_memory-conditions.ensures) refl))

pub returns-then-is_err-clause-given : goal.returns-then-is_err-clause-given
returns-then-is_err-clause-given g c = λ w asks.
    let same : c.then-is_err.self ≡ c.args.self.now = elim c.then-is_err.branch [
      | then-is_err-via-then-is_err v ↦ rw (v.self-is, c.reserve.ensures.items) c.self.view_is
      | then-is_err-via-else-is_err+then-is_err-2 v ↦ rw (v.self-is, c.reserve.ensures.items, v.reserve-else-is_err.ensures.items) c.self.view_is
    ] in
    rw same (is-dry (behind c.args.self.now (g.D.Disk.files c.args.disk.now) (g.D.Disk.faults c.args.disk.now)) w c.args.c c.args.request c.args.peer.now c.turned_away_out_of_memory.result asks c.turned_away_out_of_memory.ensures)

pub invariant_of-self-in-Asked : goal.invariant_of-self-in-Asked
invariant_of-self-in-Asked g c = ticketed-more c.self.inside.core c.request-got.new.self c.request-got.new.self c.self.inside.flights.items c.push_reserved.new.self.items c.request-got.result.got c.in-Asked.ticket c.in-Asked.key c.new_flight-flying.result c.self.invariant c.in-Asked.is c.request-got.ensures.flights c.request-got.ensures.rising
    refl (c.push_reserved.ensures.items ∙ ap (λ (fs : List TicketedFlight). fs ++ record { ticket = c.in-Asked.ticket; flying = c.new_flight-flying.result } ∷ []) c.reserve.ensures.items) (rw c.new_flight-flying.ensures refl)
