use Rattle.std.proofs.Common.{refl, sym, ◌∙◌}
use Rattle.connections.specs.Slots.{interim_slot}
use Rattle.front.proofs.ConnectionLemmas.{advance-closing, advance-continue, popped-continue}
use Rattle.front.proofs.connection.Connection.advance.Goals as goal

pub returns-then-is_closing-clause-holds : goal.returns-then-is_closing-clause-holds
returns-then-is_closing-clause-holds c = λ m keeps. advance-closing c.args.self.now _ m (sym (c.is_closing.ensures m keeps.answers) ∙ c.if-is_closing.true) refl refl keeps

pub returns-clause-holds : goal.returns-clause-holds
returns-clause-holds c = λ m keeps.
    let stays = sym (c.is_closing.ensures m keeps.answers) ∙ c.if-is_closing.false in
    let begins = sym c.begins_with_continue.ensures ∙ c.if-not-begins_with_continue.false in
    advance-continue c.args.self.now _ m stays refl refl refl (popped-continue _ _ begins c.pop_front.ensures.rest) (c.in_ok-push.ensures.ok m interim_slot keeps.answers c.interim.ensures) keeps
