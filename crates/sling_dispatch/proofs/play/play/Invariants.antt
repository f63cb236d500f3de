use Rattle.std.proofs.Common.{◌≡◌, ◌≤◌, ◌+◌, length}
use Rattle.sling_dispatch.specs.Runs.{asked_publisher_host}
use Rattle.sling_dispatch.proofs.Sessions.{Played}
use Rattle.sling_dispatch.proofs.play.play.Given as goal

abbrev pub invariant-loop-rest : goal.invariant-loop-rest
invariant-loop-rest g l = record {
  played : Played l.fn.publisher l.fn.farm l.acts l.rest l.session (g.K.Sink.held l.initial.sink) (g.K.Sink.held l.sink) l.gathered.items;
  not_failed : g.K.Sink.faults l.sink ≡ g.K.Sink.faults l.initial.sink;
  counted : l.session.event + length l.rest ≤ length l.acts;
  asked : l.session.host.items ≡ asked_publisher_host l.fn.farm;
}

abbrev pub decreases-loop-rest : goal.decreases-loop-rest
decreases-loop-rest g l = length l.rest
