use Rattle.std.proofs.Common.{subst}
use Rattle.http_front.specs.Turns.{Waits}
use Rattle.http_front.specs.Intakes.{Advances}
use Rattle.http_front.specs.declared.turn.Turn.TheVariants.{Continue}
use Rattle.http_front.proofs.IntakeLemmas.{ends, ends_after, keeps, keeps_after, keeps_failed, tells, tells_after}
use Rattle.http_front.proofs.intake.Intake.next.Goals as goal

pub returns-in-Asked-clause-turn : goal.returns-in-Asked-clause-turn
returns-in-Asked-clause-turn c =
    let advanced = subst (Advances c.args.self.now c.advance.new.self) c.in-Asked.is c.in_ok-advance.ensures.ok in
    tells c.args.self.now c.advance.new.self Continue advanced.0

pub returns-in-Ready-clause-turn : goal.returns-in-Ready-clause-turn
returns-in-Ready-clause-turn c =
    let advanced = subst (Advances c.args.self.now c.advance.new.self) c.in-Ready.is c.in_ok-advance.ensures.ok in
    tells_after c.args.self.now c.advance.new.self c.take_body.new.self c.take_body.result advanced.0 c.take_body.ensures.turn

pub returns-in-Ready-clause-waits : goal.returns-in-Ready-clause-waits
returns-in-Ready-clause-waits c =
    let advanced = subst (Advances c.args.self.now c.advance.new.self) c.in-Ready.is c.in_ok-advance.ensures.ok in
    ends_after c.args.self.now c.advance.new.self c.take_body.new.self c.take_body.result advanced.0 c.take_body.ensures.waits

pub returns-in-Ready-clause-kept : goal.returns-in-Ready-clause-kept
returns-in-Ready-clause-kept c =
    let advanced = subst (Advances c.args.self.now c.advance.new.self) c.in-Ready.is c.in_ok-advance.ensures.ok in
    keeps_after c.args.self.now c.advance.new.self c.take_body.new.self c.take_body.result advanced.0 c.take_body.ensures.waits

pub returns-in-Ready-clause-err : goal.returns-in-Ready-clause-err
returns-in-Ready-clause-err c =
    let advanced = subst (Advances c.args.self.now c.advance.new.self) c.in-Ready.is c.in_ok-advance.ensures.ok in
    keeps_failed c.args.self.now c.advance.new.self c.take_body.new.self c.take_body.result advanced.0 c.take_body.ensures.err

pub returns-in-Waiting-clause-waits : goal.returns-in-Waiting-clause-waits
returns-in-Waiting-clause-waits c =
    let advanced = subst (Advances c.args.self.now c.advance.new.self) c.in-Waiting.is c.in_ok-advance.ensures.ok in
    ends c.args.self.now Waits advanced.1

pub returns-in-Waiting-clause-kept : goal.returns-in-Waiting-clause-kept
returns-in-Waiting-clause-kept c =
    let advanced = subst (Advances c.args.self.now c.advance.new.self) c.in-Waiting.is c.in_ok-advance.ensures.ok in
    keeps c.args.self.now c.advance.new.self advanced.0
