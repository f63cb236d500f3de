use Rattle.std.proofs.Common.{refl, sym, ap, ◌∙◌, ◌∷◌, []}
use Rattle.run_events.specs.declared.note.Note.TheVariants.{Rendered}
use Rattle.front.specs.Boards.{at_disk}
use Rattle.front.proofs.FrontLemmas.{ok-map, ok-map-two, ok-then, render-event, render-none, renders}
use Rattle.front.proofs.front.Front.render.Goals as goal

pub returns-in_default : goal.returns-in_default
returns-in_default g c = ok-map-two c.idle.result c.idle.ensures.notes c.idle.ensures.conditions (λ effect notes under files faults. render-none _ _ (at_disk c.args.self.now.board files faults) c.args.pick.now effect (sym c.first_unrendered.ensures ∙ c.in_default.is) notes under)

pub returns : goal.returns
returns g c = ok-map-two c.one.result c.one.ensures.notes c.one.ensures.conditions (λ effect notes under files faults.
    render-event _ _ _ (at_disk c.args.self.now.board files faults) (at_disk c.answer_flight-answer.new.self.board files faults) (at_disk (record { open_connections = c.answer_flight-answer.new.self.board.open_connections; cache = c.render-number.new.self }) files faults) c.args.pick.now c.in-Some.at c.render-number.result c.or_fixed-answer.result.answer c.in_ok-copy.copy c.or_fixed-answer.result.out_of_memory effect
    (rw c.answer_flight-answer.ensures.board refl) (sym c.first_unrendered.ensures ∙ c.in-Some.is)
    (λ f here. renders c.answer_flight-answer.result _ _ _ c.or_fixed-answer.result.answer c.or_fixed-answer.result.out_of_memory c.or_fixed-answer.ensures (ok-map c.answer_flight-answer.result c.answer_flight-answer.ensures.ok (λ a is. is f here)) c.answer_flight-answer.ensures.status
    (ok-then c.answer_flight-answer.result c.answer_flight-answer.ensures.after (λ is. is f here)) c.answer_flight-answer.ensures.unchanged)
    c.in_ok-copy.ensures.ok c.render-number.ensures.number c.render-number.ensures.flying c.render-number.ensures.core c.render-number.ensures.flushes refl refl refl
    (notes ∙ ap (λ a. Rendered c.render-number.result a ∷ []) c.shared.ensures.same) (under ∙ c.if_out_of_memory.ensures))
