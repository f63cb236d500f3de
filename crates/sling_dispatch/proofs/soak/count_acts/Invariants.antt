use Rattle.std.proofs.Common.{◌≡◌, ◌≤◌, ◌+◌, length}
use Rattle.sling_dispatch.specs.Runs.{asked_publisher_host}
use Rattle.sling_dispatch.proofs.SoakLemmas.{Counted}
use Rattle.sling_dispatch.proofs.soak.count_acts.Given as goal

abbrev pub invariant-loop-rest : goal.invariant-loop-rest
invariant-loop-rest l = record {
  counted : Counted l.fn.publisher l.fn.farm l.acts l.rest l.session l.counts;
  room : l.session.event + length l.rest ≤ length l.acts;
  asked : l.session.host.items ≡ asked_publisher_host l.fn.farm;
}

abbrev pub decreases-loop-rest : goal.decreases-loop-rest
decreases-loop-rest l = length l.rest
