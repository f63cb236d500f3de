use Rattle.std.proofs.Common.{◌≡◌, ◌||◌, refl, sym, ◌∙◌}
use Rattle.connections.specs.Slots as model
use Rattle.connections.specs.Slots.{request_slot}
use Rattle.front.proofs.ServedLemmas.{ok-map}
use Rattle.front.proofs.ServeLemmas.{asks-cache, given-answer, place-for}
use Rattle.front.proofs.treat.treat.Goals as goal
use Rattle.front.proofs.treat.treat.Goals.{then-closes, else-closes}

pub returns-then-is_crowded-clause-given : goal.returns-then-is_crowded-clause-given
returns-then-is_crowded-clause-given g c =
    ok-map c.turn_away.result c.turn_away.ensures.given (λ it given w owes. given w _ owes (sym (c.is_crowded.ensures owes.connection owes.owes.answers) ∙ c.if-is_crowded.true))

pub returns-clause-given : goal.returns-clause-given
returns-clause-given g c = λ w owes.
    let answered = c.request-note.result in
    let room = sym (c.is_crowded.ensures owes.connection owes.owes.answers) ∙ c.if-is_crowded.false in
    let is = c.request-note.ensures.given w (asks-cache w c.args.c c.args.connection.now _ c.args.request c.peer.result.now owes room c.peer.ensures) in
    let closing : c.if-closes.push ≡ (answered.closes || c.of_request-place.result.closes) =
    elim c.if-closes.branch [ then-closes v ↦ rw (v.push-is, v.if-closes.true) refl | else-closes v ↦ rw (v.push-is, v.if-closes.false) refl ] in
    given-answer w c.args.c c.args.connection.now c.push.new.self _ _ c.args.request answered owes is
    (λ m owed. c.in_ok-push.ensures.request m (request_slot c.args.request answered.closes is.response) (rw closing (place-for c.of_request-place.result c.args.request answered.closes answered.reply is.response (c.of_request-place.ensures model.Fixed tt) is.replies)) owed)
