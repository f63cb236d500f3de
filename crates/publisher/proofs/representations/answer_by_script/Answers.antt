use Rattle.std.proofs.Common.{None, sym, ◌∙◌, ap}
use Rattle.std.specs.Prelude.{option_map}
use Rattle.resource_tree.specs.Content.{Content}
use Rattle.script_rank.specs.Ranking.{script_text}
use Rattle.publisher.specs.Readings.{reading_of}
use Rattle.publisher.specs.SeenAlone.{seen_answer}
use Rattle.publisher.proofs.SeenAloneLemmas.{answer-as, read-written, unread}
use Rattle.publisher.proofs.representations.answer_by_script.Goals as goal

pub returns-in-Some-clause-answer : goal.returns-in-Some-clause-answer
returns-in-Some-clause-answer c =
    answer-as _ _ _ (read-written c.args.content.now c.args.parts.now c.args.res.now c.args.script (script_text c.args.content.now c.args.script) c.in-Some.reading c.requires.seen (sym c.in-Some.is ∙ c.in_ok-reading.ensures.reading ∙ ap (λ (t : Content). option_map reading_of (script_text t c.args.script)) c.tree-tree.ensures)) c.script_representation.ensures.answer

pub returns-clause-answer : goal.returns-clause-answer
returns-clause-answer c =
    answer-as _ _ _
    (ap (λ (t : Content). seen_answer None t c.args.parts.now) c.tree-tree.ensures
    ∙ sym (ap (λ s. seen_answer s c.args.content.now c.args.parts.now) (unread c.args.script (script_text c.args.content.now c.args.script) (sym c.in-None.is ∙ c.in_ok-reading.ensures.reading ∙ ap (λ (t : Content). option_map reading_of (script_text t c.args.script)) c.tree-tree.ensures)))) c.default_answer_there.ensures
