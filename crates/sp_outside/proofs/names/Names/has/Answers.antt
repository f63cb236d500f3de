use Rattle.std.proofs.Common.{◌∙◌, ap, sym}
use Rattle.std.specs.FinMap.{contains_key}
use Rattle.std.specs.Option.{is_some}
use Rattle.sp_outside.proofs.HeldNames.{found_size, held_at}
use Rattle.sp_outside.proofs.names.Names.has.Goals as goal

pub returns-clause-value : goal.returns-clause-value
returns-clause-value g c =
    c.contains_key.ensures ∙ ap is_some (held_at c.args.name.now c.self.inside.held.entries)
    ∙ ap (λ kept. contains_key kept c.args.name.now) c.self.view_is

pub returns-clause-size : goal.returns-clause-size
returns-clause-size g c = λ has.
    found_size c.args.name.now c.self.inside.held.entries c.self.invariant.sizes (sym c.contains_key.ensures ∙ has)
