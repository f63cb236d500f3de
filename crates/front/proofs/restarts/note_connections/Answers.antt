use Rattle.std.proofs.Common.{ap, ◌∙◌}
use Rattle.std.specs.Set.{is_member}
use Rattle.std.specs.Ordering.{eq_by_cmp, nat_cmp}
use Rattle.front.proofs.KeyLemmas.{are-keys}
use Rattle.front.proofs.restarts.note_connections.Goals as goal

pub returns-clause-open : goal.returns-clause-open
returns-clause-open c = are-keys c.args.open_connections.now c.keys-c-items.ensures.ordered (λ q. c.keys-c-items.ensures.has q ∙ ap (λ ks. is_member (eq_by_cmp nat_cmp) ks q) c.keys-c-items.ensures.rest)
