use Rattle.std.proofs.Common.{None, cond, ◌∙◌, ap}
use Rattle.resource_tree.specs.Content.{same_path}
use Rattle.publisher.specs.Kept.{KeptReadings, reading_at}
use Rattle.publisher.proofs.templates.Templates.forget.Goals as goal

pub returns : goal.returns
returns c path = c.remove.ensures.updates.0 path ∙ ap (λ (k : KeptReadings). cond (same_path c.args.script.now path) None (reading_at k path)) c.self.view_is
