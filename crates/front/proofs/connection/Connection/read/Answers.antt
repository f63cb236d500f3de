use Rattle.std.proofs.Common.{refl, sym, ◌∙◌}
use Rattle.front.proofs.ConnectionLemmas.{read-closing, read-open}
use Rattle.front.proofs.connection.Connection.read.Goals as goal

pub returns-then-is_closing : goal.returns-then-is_closing
returns-then-is_closing c = λ m holds.
    read-closing c.args.self.now m c.args.bytes.now (sym (c.is_closing.ensures m holds.keeps.answers) ∙ c.if-is_closing.true) holds

pub returns : goal.returns
returns c = λ m holds.
    let stays = sym (c.is_closing.ensures m holds.keeps.answers) ∙ c.if-is_closing.false in
    let read = c.in_ok-feed.ensures.ok m.stream m.turns (holds.keeps.reads stays).read in
    read-open c.args.self.now (record { peer = c.args.self.now.peer; intake = c.read_turns.new.intake; turns = c.read_turns.new.turns; fault = c.in_ok-self.field-0; answers = c.args.self.now.answers }) c.advance.new.self c.feed.new.self m c.args.bytes.now
    stays holds read c.in_ok-self.ensures refl refl c.in_ok-advance.ensures.holds
