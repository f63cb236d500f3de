use Rattle.std.proofs.Common.{◌∙◌, ap}
use Rattle.std.specs.FinMap.{get}
use Rattle.sp_outside.proofs.HeldNames.{held_at}
use Rattle.sp_outside.proofs.names.Names.get.Goals as goal

pub returns : goal.returns
returns g c =
    c.get.ensures.value ∙ held_at c.args.name.now c.self.inside.held.entries
    ∙ ap (λ kept. get kept c.args.name.now) c.self.view_is
