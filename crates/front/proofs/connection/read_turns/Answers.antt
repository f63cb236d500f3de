use Rattle.std.proofs.Common.{Some, None, sym, subst}
use Rattle.front.specs.KeptConnections.{TellsTurns}
use Rattle.front.proofs.ConnectionLemmas.{tells_end, tells_start, tells_step}
use Rattle.front.proofs.connection.read_turns.Goals as goal

pub loop-turn-init : goal.loop-turn-init
loop-turn-init c = tells_start c.args.intake.now c.args.turns.now.items

pub loop-turn-preserved : goal.loop-turn-preserved
loop-turn-preserved c =
    let tells = rw c.in-Ok-Some.field-0-is at c.in-Ok-Some.ensures.turn in
    tells_step _ _ _ _ _ _ c.in-Ok-Some.turn c.loop-turn.invariant tells c.in_ok-push_back-in-Ok-Some.ensures.items

pub returns-in-Ok-None : goal.returns-in-Ok-None
returns-in-Ok-None c =
    let kept = rw c.in-Ok-None.field-0-is at c.in-Ok-None.ensures.kept in
    let waits = rw c.in-Ok-None.field-0-is at c.in-Ok-None.ensures.waits in
    tells_end _ _ _ _ _ None c.loop-turn.invariant kept waits

pub returns-in-Err : goal.returns-in-Err
returns-in-Err c =
    let stream_fault = c.in_ok-stream_fault-in-Err.ensures in
    subst (λ fault. TellsTurns c.args.intake.now c.args.turns.now.items c.next.new.self c.loop-turn.turns.items (Some fault)) (sym stream_fault.same)
    (tells_end _ _ _ _ _ (Some c.in-Err.fault) c.loop-turn.invariant c.in-Err.ensures.err (c.in-Err.ensures.breaks stream_fault.other))
