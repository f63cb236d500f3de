use Rattle.overlay_merge.proofs.KidsSeen.{kid_seen}
use Rattle.overlay_merge.proofs.LawLemmas.{kid-parts}
use Rattle.overlay_merge.proofs.laws.each_kid_is_there.Goals as goal

pub returns : goal.returns
returns c = record {
  of_a_layer = λ tree path layers name is. (kid-parts tree path layers name is).1;
  there = λ tree path layers name is. (kid-parts tree path layers name is).0;
  seen = λ tree path name good has. kid_seen tree path name good.shape has;
}
