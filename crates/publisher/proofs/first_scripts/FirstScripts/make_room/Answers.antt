use Rattle.publisher.proofs.FirstLemmas.{among_none}
use Rattle.publisher.proofs.first_scripts.FirstScripts.make_room.Goals as goal

pub returns-clause-fewer : goal.returns-clause-fewer
returns-clause-fewer c = among_none c.args.self.now c.forget_all.new.self c.forget_all.ensures
