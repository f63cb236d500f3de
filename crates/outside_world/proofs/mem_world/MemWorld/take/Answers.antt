use Rattle.std.proofs.Common.{Some, subst}
use Rattle.outside_world.specs.Worlds.{IsNewsTo}
use Rattle.outside_world.specs.WorldMemory.{WorldState}
use Rattle.outside_world.proofs.News.{first_is_news}
use Rattle.outside_world.proofs.mem_world.MemWorld.take.Goals as goal

pub returns-clause-news : goal.returns-clause-news
returns-clause-news c =
    subst (λ (s : WorldState). IsNewsTo (Some s.log) c.in_ok-happening.happening) c.self.view_is
    (first_is_news c.self.inside.log c.self.inside.coming c.in_ok-happening.happening c.self.invariant c.in_ok-happening.ensures)
