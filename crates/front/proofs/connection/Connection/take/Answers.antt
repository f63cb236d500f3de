use Rattle.std.proofs.Common.{◌≡◌, ◌∷◌, None, Some, ap, refl, sym, ◌∙◌}
use Rattle.http_front.specs.declared.turn.Turn.TheVariants.{Whole}
use Rattle.connections.specs.Connections.{due_at_turn}
use Rattle.front.specs.KeptConnections.{end_of}
use Rattle.front.proofs.ConnectionLemmas.{holds-as, popped-none, take-none, take-request}
use Rattle.front.proofs.connection.Connection.take.Goals as goal

pub returns-in-Some-Whole-clause-taken : goal.returns-in-Some-Whole-clause-taken
returns-in-Some-Whole-clause-taken c = λ m holds unsent.
    let tied = holds.keeps.answers in
    let lasts = sym (c.is_over.ensures m tied) ∙ c.if-is_over.false in
    let stays = sym (c.is_closing.ensures m tied) ∙ c.if-is_closing.false in
    let first : c.args.self.now.turns.items ≡ Whole c.in-Some-Whole.request ∷ c.pop_front.new.self.items = rw c.in-Some-Whole.field-0-is at c.in-Some-Whole.ensures.items in
    take-request c.args.self.now _ m c.in-Some-Whole.request lasts stays unsent first refl refl refl refl holds

pub returns-in-Some-clause-taken : goal.returns-in-Some-clause-taken
returns-in-Some-clause-taken c = λ m holds unsent.
    let tied = holds.keeps.answers in
    let lasts = sym (c.is_over.ensures m tied) ∙ c.if-is_over.false in
    let stays = sym (c.is_closing.ensures m tied) ∙ c.if-is_closing.false in
    let none = popped-none _ _ c.in-None.ensures.items c.pop_front.ensures.rest in
    let fault : c.args.self.now.fault ≡ Some c.in-Some.fault = sym c.take.ensures.value ∙ c.in-Some.is in
    (take-none c.args.self.now m lasts stays unsent none holds ∙ ap (λ f. due_at_turn None (end_of f)) fault, record { peer_is = holds.keeps.peer_is; answers = tied })

pub returns-in-None-take-clause-taken : goal.returns-in-None-take-clause-taken
returns-in-None-take-clause-taken c = λ m holds unsent.
    let tied = holds.keeps.answers in
    let lasts = sym (c.is_over.ensures m tied) ∙ c.if-is_over.false in
    let stays = sym (c.is_closing.ensures m tied) ∙ c.if-is_closing.false in
    let none = popped-none _ _ c.in-None.ensures.items c.pop_front.ensures.rest in
    let fault : c.args.self.now.fault ≡ None = sym c.take.ensures.value ∙ c.in-None-take.is in (
      take-none c.args.self.now m lasts stays unsent none holds ∙ ap (λ f. due_at_turn None (end_of f)) fault,
      holds-as c.args.self.now _ m refl refl (sym c.in-None.ensures.items) (c.take.ensures.after ∙ sym fault) refl holds,
    )
