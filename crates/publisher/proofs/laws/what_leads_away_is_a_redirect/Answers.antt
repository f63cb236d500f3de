use Rattle.std.proofs.Common.{sym}
use Rattle.sp_base.specs.Paths.{text_of}
use Rattle.url_maps.specs.declared.answer.MapAnswer.TheVariants.{Away}
use Rattle.publisher.proofs.PostLemmas.{away_answer, away_keeps}
use Rattle.publisher.proofs.laws.what_leads_away_is_a_redirect.Goals as goal

pub returns : goal.returns
returns c = record {
  answer = λ tree ask status reference good asks away.
      away_answer tree ask status reference asks (sym (c.the_answer_is_mapped.ensures.only tree ask.host ask.port (text_of ask.path) (Away status reference) good away));
  content = λ tree ask status reference good away.
      away_keeps tree ask status reference (sym (c.the_answer_is_mapped.ensures.only tree ask.host ask.port (text_of ask.path) (Away status reference) good away));
}
