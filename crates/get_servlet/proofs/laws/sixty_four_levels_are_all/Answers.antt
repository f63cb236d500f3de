use Rattle.get_servlet.proofs.DepthLemmas.{same_text}
use Rattle.get_servlet.proofs.laws.sixty_four_levels_are_all.Goals as goal

pub returns : goal.returns
returns c = same_text
