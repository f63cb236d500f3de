use Rattle.std.proofs.Common.{List, ap, option_map, ◌∙◌}
use Rattle.std.specs.List.{find}
use Rattle.run_events.specs.declared.flying.Flying.{Flying}
use Rattle.run_events.specs.Events.{is_unrendered}
use Rattle.front.proofs.front.Front.unrendered.Goals as goal

pub returns : goal.returns
returns g c = λ content files faults w s. c.unrendered.ensures ∙ ap (λ (fs : List Flying). option_map (λ (f : Flying). f.number) (find is_unrendered fs)) s.board_is.behind_is.flying_is
