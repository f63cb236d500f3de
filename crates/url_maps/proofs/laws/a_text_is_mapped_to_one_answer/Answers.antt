use Rattle.std.proofs.Common.{Some}
use Rattle.url_maps.specs.Patterns.{asked_for}
use Rattle.url_maps.specs.Turns.{IsMapped}
use Rattle.url_maps.proofs.LawLemmas.{one_answer}
use Rattle.url_maps.proofs.laws.a_text_is_mapped_to_one_answer.Goals as goal

pub returns : goal.returns
unfolding IsMapped
returns c = λ tree host port text answer other good a b. one_answer c.a_path_and_its_text.ensures.read tree good.shape 16 (Some (asked_for host port text)) text answer other a b
