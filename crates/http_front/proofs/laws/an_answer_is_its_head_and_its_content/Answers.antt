use Rattle.http_front.proofs.AnswerLemmas.{head_and_content}
use Rattle.http_front.proofs.laws.an_answer_is_its_head_and_its_content.Goals as goal

pub returns : goal.returns
returns c = head_and_content
