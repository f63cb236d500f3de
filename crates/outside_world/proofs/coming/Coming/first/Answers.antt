use Rattle.std.proofs.Common.{◌≡◌, ◌∙◌, ap, sym, subst, IfOk}
use Rattle.outside_world.specs.WorldMemory.{first_coming}
use Rattle.outside_world.proofs.News.{first_is, first_is_quiet}
use Rattle.outside_world.proofs.coming.Coming.first.Goals as goal

pub returns-in-Some : goal.returns-in-Some
returns-in-Some c =
    subst (λ first. IfOk c.duplicate.result (λ happening. happening ≡ first))
    (first_is c.self.inside.happenings c.self.inside.came c.in-Some.happening.now (sym c.in-Some.ensures) ∙ ap first_coming c.self.view_is) c.duplicate.ensures

pub returns-in-None : goal.returns-in-None
returns-in-None c = first_is_quiet c.self.inside.happenings c.self.inside.came (sym c.in-None.ensures) ∙ ap first_coming c.self.view_is
