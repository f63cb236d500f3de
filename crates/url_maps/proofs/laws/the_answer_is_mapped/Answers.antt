use Rattle.url_maps.specs.Answers.{map_answer}
use Rattle.url_maps.proofs.AnswerLemmas.{map_answer_is}
use Rattle.url_maps.proofs.laws.the_answer_is_mapped.Goals as goal

pub returns : goal.returns
returns c = record {
  is = λ tree host port text good. map_answer_is c.a_path_and_its_text.ensures.read c.a_path_and_its_text.ensures.spelled c.a_path_and_its_text.ensures.valid tree good.shape host port text;
  only = λ tree host port text answer good mapped. c.a_text_is_mapped_to_one_answer.ensures tree host port text answer (map_answer tree host port text) good mapped
      (map_answer_is c.a_path_and_its_text.ensures.read c.a_path_and_its_text.ensures.spelled c.a_path_and_its_text.ensures.valid tree good.shape host port text);
}
