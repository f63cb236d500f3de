use Rattle.std.proofs.Common.{rules, ◌≡◌, ◌∙◌, ◌++◌, Err, length, ap, sym, subst, take, arith, refl}
use Rattle.std.proofs.lemmas.List.{nil_from_length}
use Rattle.sp_outside.specs.Told.{held_after}
use Rattle.sp_outside.specs.Causes.{HasSinkCause}
use Rattle.sockets.proofs.Giving.{held_after-nil}
use Rattle.sling_dispatch.specs.Endings.{Nothing}
use Rattle.sling_dispatch.specs.Reports.{report_of}
use Rattle.sling_dispatch.specs.InnerEndings.{PlaysAll}
use Rattle.sling_dispatch.specs.declared.ending.Ending.TheVariants.{Done, NoMemory}
use Rattle.sling_dispatch.specs.Fronts.{IsNext}
use Rattle.sling_dispatch.specs.Runs.{asked_publisher_host}
use Rattle.sling_dispatch.proofs.Sessions.{Played, broken_off, next_shorter, played_all, played_next, played_none, played_sent, played_stopped, told_from}
use Rattle.sling_dispatch.proofs.play.play.Goals as goal

pub loop-rest-init : goal.loop-rest-init
loop-rest-init g c =
    let held = g.K.Sink.held c.args.sink.now in
    let session = c.in-Ok.session in
    record {
      played = subst (Played c.args.publisher c.args.farm c.args.acts.now c.args.acts.now session held held) (sym c.new-gathered.ensures.items)
          (played_none c.args.publisher c.args.farm c.args.acts.now session held c.requires c.in-Ok.ensures.stands c.in-Ok.ensures.unarmed c.in-Ok.ensures.event).0;
      not_failed = refl;
      counted = omega (arith, c.in-Ok.ensures.event);
      asked = c.in-Ok.ensures.host;
    }

pub loop-rest-preserved : goal.loop-rest-preserved
loop-rest-preserved g c =
    let l = c.loop-rest in
    let acts = c.args.acts.now in
    let old = g.K.Sink.held c.args.sink.now in
    let mid = g.K.Sink.held l.sink in
    let left = c.play_line.new.self in
    let text = c.in-Ok-play_line.text.items in
    let after = c.in-Ok-play_line.after.now in
    let made : IsNext (asked_publisher_host c.args.farm) l.rest.now after l.session left text
    = subst (λ host. IsNext host l.rest.now after l.session left text) l.invariant.asked c.in-Ok-play_line.ensures.next in
    let next = played_next c.events_extend.ensures.run c.events_extend.ensures.state c.acts_are_told_by_their_lines.ensures.first c.args.publisher c.args.farm acts l.rest.now after
    l.session left old mid l.gathered.items text l.invariant.played made in
    let e = c.in_default-gather.ensures.ok in
    let same = ap (λ t. l.gathered.items ++ t) c.deref-in-loop-rest.ensures.value in
    record {
      played = played_sent c.args.publisher c.args.farm acts after left old mid (g.K.Sink.held c.gather.new.sink)
          (l.gathered.items ++ text) e.0 c.gather.new.gathered.items next e.1 (e.2 ∙ same);
      not_failed = c.in_default-gather.ensures.cause ∙ l.invariant.not_failed;
      counted = omega (arith, l.invariant.counted, c.in-Ok-play_line.ensures.counted, next_shorter (asked_publisher_host c.args.farm) l.rest.now after l.session left text made);
      asked = c.play_line.ensures.host ∙ l.invariant.asked;
    }

pub returns-in_default : goal.returns-in_default
returns-in_default g c = λ s same reads farm_reads. (record { writing = Nothing; due = tt; wrote = (0, sym (held_after-nil (g.K.Sink.held c.args.sink.now))) }, refl)

pub returns-in_default-play_line : goal.returns-in_default-play_line
returns-in_default-play_line g c =
    let sink = report_of (g.K.Sink.held c.args.sink.now) (g.K.Sink.held c.say.new.sink) (g.K.Sink.faults c.args.sink.now) (g.K.Sink.faults c.say.new.sink) in
    let l = c.loop-rest in
    let text = c.deref in
    played_stopped c.args.publisher c.args.farm c.args.acts.now l.rest.now l.session (g.K.Sink.held l.sink) l.gathered.items c.say.result sink l.invariant.played
    (told_from NoMemory l.gathered.items text.result.now c.say.result (g.K.Sink.held l.sink) (g.K.Sink.faults l.sink) sink text.ensures.value
    l.invariant.not_failed c.say.ensures)

pub returns-in-Err : goal.returns-in-Err
returns-in-Err g c =
    let l = c.loop-rest in
    let acts = c.args.acts.now in
    let old = g.K.Sink.held c.args.sink.now in
    let mid = g.K.Sink.held l.sink in
    let left = c.play_line.new.self in
    let text = c.in-Ok-play_line.text.items in
    let after = c.in-Ok-play_line.after.now in
    let sink = report_of old (g.K.Sink.held c.gather.new.sink) (g.K.Sink.faults c.args.sink.now) (g.K.Sink.faults c.gather.new.sink) in
    let made : IsNext (asked_publisher_host c.args.farm) l.rest.now after l.session left text
    = subst (λ host. IsNext host l.rest.now after l.session left text) l.invariant.asked c.in-Ok-play_line.ensures.next in
    let next = played_next c.events_extend.ensures.run c.events_extend.ensures.state c.acts_are_told_by_their_lines.ensures.first c.args.publisher c.args.farm acts l.rest.now after
    l.session left old mid l.gathered.items text l.invariant.played made in
    let e = c.in-Err.ensures.err in
    let same = ap (λ t. l.gathered.items ++ t) c.deref-in-loop-rest.ensures.value in
    let cause = subst (λ n. HasSinkCause {T = Unit {0}} n (g.K.Sink.faults c.gather.new.sink) (Err c.in-Err.fault)) l.invariant.not_failed c.in-Err.ensures.cause in
    subst (λ x. PlaysAll c.args.publisher c.args.farm acts x sink) (sym c.ending_by.ensures)
    (broken_off c.args.publisher c.args.farm acts after e.0 left mid (l.gathered.items ++ text) c.in-Err.fault sink next (e.1 ∙ ap (λ t. held_after mid (take e.0 t)) same) cause)

pub returns : goal.returns
returns g c =
    let sink = report_of (g.K.Sink.held c.args.sink.now) (g.K.Sink.held c.say-2.new.sink) (g.K.Sink.faults c.args.sink.now) (g.K.Sink.faults c.say-2.new.sink) in
    let l = c.loop-rest in
    let none : length c.loop-rest.rest.now ≡ 0 = search rules in
    played_all c.args.publisher c.args.farm c.args.acts.now l.rest.now l.session (g.K.Sink.held l.sink) l.gathered.items c.say-2.result sink (nil_from_length l.rest.now none) l.invariant.played
    (told_from Done l.gathered.items c.deref-2.result.now c.say-2.result (g.K.Sink.held l.sink) (g.K.Sink.faults l.sink) sink c.deref-2.ensures.value
    l.invariant.not_failed c.say-2.ensures)
