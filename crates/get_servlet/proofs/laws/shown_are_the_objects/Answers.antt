use Rattle.get_servlet.proofs.ObjectLemmas.{shown_objects}
use Rattle.get_servlet.proofs.laws.shown_are_the_objects.Goals as goal

pub returns : goal.returns
returns c = λ seen depth res. shown_objects seen depth res.path res
