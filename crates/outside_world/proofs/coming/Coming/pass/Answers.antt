use Rattle.std.proofs.Common.{◌∙◌, ap, sym, drop}
use Rattle.std.proofs.lemmas.List.{drop-drop}
use Rattle.outside_world.proofs.coming.Coming.pass.Goals as goal

pub returns-then-self-len : goal.returns-then-self-len
returns-then-self-len c = sym (drop-drop 1 c.self.inside.came c.self.inside.happenings) ∙ ap (drop 1) c.self.view_is
