use Rattle.std.proofs.Common.{ap, ◌∙◌}
use Rattle.coherence_core.specs.Cores.{flights_of, flush_numbers}
use Rattle.front.specs.Caches.{CacheParts}
use Rattle.front.proofs.ReopenLemmas.{reopened}
use Rattle.front.proofs.cache.Cache.restart.Goals as goal

pub returns-clause-given : goal.returns-clause-given
returns-clause-given g c =
    rw (c.restart_end.ensures, ← c.self.view_is, c.clear.ensures.items) (reopened c.self.inside.core c.restart-opened.new.self _ _ _ _ _ _ c.restart-opened.result (ap (λ (parts : CacheParts). flights_of parts.core) c.self.view_is ∙ c.requires)
    c.restart-opened.ensures.empty.0 (ap flush_numbers c.restart-opened.ensures.empty.1) c.restart-opened.ensures.farm c.restart-opened.ensures.log c.restart-opened.ensures.cause)
