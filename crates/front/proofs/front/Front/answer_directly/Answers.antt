use Rattle.std.proofs.Common.{refl, ◌∙◌}
use Rattle.front.specs.Boards.{at_disk}
use Rattle.front.proofs.FrontLemmas.{direct-event, either, ok-map-two}
use Rattle.front.proofs.front.Front.answer_directly.Goals as goal

pub returns : goal.returns
returns g c = ok-map-two c.one.result c.one.ensures.notes c.one.ensures.conditions (λ effect notes under files faults.
    direct-event _ _ _ (at_disk c.args.self.now.board files faults) (at_disk c.answer_target-answer.new.self.board files faults) c.args.target.now c.or_fixed-answer.result.answer c.or_fixed-answer.result.out_of_memory effect c.answer_target-answer.ensures.content (rw c.answer_target-answer.ensures.board refl)
    (either c.answer_target-answer.result c.or_fixed-answer.result.answer _ c.or_fixed-answer.result.out_of_memory c.or_fixed-answer.ensures c.answer_target-answer.ensures.ok) notes (under ∙ c.if_out_of_memory.ensures))
