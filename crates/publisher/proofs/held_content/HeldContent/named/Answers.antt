use Rattle.std.proofs.Common.{◌≡◌, ◌∙◌, None, sym, ap}
use Rattle.overlay_merge.specs.Merged.{merged_alone}
use Rattle.publisher.specs.Kept.{IndexedTree}
use Rattle.publisher.specs.Rendering.{resource_answer}
use Rattle.publisher.proofs.SeenAloneLemmas.{alone-none, answer-as}
use Rattle.publisher.proofs.held_content.HeldContent.named.Goals as goal

pub returns-in-None-clause-answer : goal.returns-in-None-clause-answer
returns-in-None-clause-answer c =
    let view = c.self.view_is in
    let found = c.in_ok-res.ensures in
    let none = c.in-None.is in
    let at : merged_alone c.args.self.now.tree c.args.parts.now.path ≡ None = ap (λ (s : IndexedTree). merged_alone s.tree c.args.parts.now.path) (sym view) ∙ sym found ∙ none in
    answer-as _ _ _ (sym (ap (resource_answer c.args.self.now.tree c.args.parts.now) (alone-none c.args.self.now.tree c.args.parts.now.path at))) c.error_answer.ensures
