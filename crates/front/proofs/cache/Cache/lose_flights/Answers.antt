use Rattle.std.proofs.Common.{◌≡◌, [], refl, ap, subst, sym, ◌∙◌}
use Rattle.coherence_core.specs.Cores.{flights_of}
use Rattle.front.specs.Caches.{CacheParts, behind}
use Rattle.front.specs.Restarts.{LosesFlights}
use Rattle.front.proofs.RestartLemmas.{all-lost, lost-more, lost-none, no-flights, none-flies}
use Rattle.front.proofs.cache.Cache.lose_flights.Goals as goal

pub loop-ended-init : goal.loop-ended-init
loop-ended-init c = lost-none c.args.self.now c.args.notes.now.items

pub loop-ended-preserved-in_ok-push : goal.loop-ended-preserved-in_ok-push
loop-ended-preserved-in_ok-push c = lost-more c.args.self.now c.loop-ended.self c.lose.new.self c.args.notes.now.items c.loop-ended.notes.items c.push.new.self.items c.in-Some.ended c.loop-ended.invariant (c.in-Some.ensures.first refl) c.in-Some.ensures.flushes c.in-Some.ensures.loss c.in_ok-push.ensures.items

pub loop-ended-preserved-in_ok-push-2 : goal.loop-ended-preserved-in_ok-push-2
loop-ended-preserved-in_ok-push-2 c = lost-more c.args.self.now c.loop-ended.self c.lose.new.self c.args.notes.now.items c.loop-ended.notes.items c.push.new.self.items c.in-Some.ended c.loop-ended.invariant (c.in-Some.ensures.first refl) c.in-Some.ensures.flushes c.in-Some.ensures.loss c.in_ok-push.ensures.items

pub loop-ended-preserved-in_ok-push-3 : goal.loop-ended-preserved-in_ok-push-3
loop-ended-preserved-in_ok-push-3 c = lost-more c.args.self.now c.loop-ended.self c.lose.new.self c.args.notes.now.items c.loop-ended.notes.items c.push.new.self.items c.in-Some.ended c.loop-ended.invariant (c.in-Some.ensures.first refl) c.in-Some.ensures.flushes c.in-Some.ensures.loss c.in_ok-push.ensures.items

pub loop-ended-preserved-in_ok-push-4 : goal.loop-ended-preserved-in_ok-push-4
loop-ended-preserved-in_ok-push-4 c = lost-more c.args.self.now c.loop-ended.self c.lose.new.self c.args.notes.now.items c.loop-ended.notes.items c.push.new.self.items c.in-Some.ended c.loop-ended.invariant (c.in-Some.ensures.first refl) c.in-Some.ensures.flushes c.in-Some.ensures.loss c.in_ok-push.ensures.items

pub loop-ended-preserved : goal.loop-ended-preserved
loop-ended-preserved c = lost-more c.args.self.now c.loop-ended.self c.lose.new.self c.args.notes.now.items c.loop-ended.notes.items c.push.new.self.items c.in-Some.ended c.loop-ended.invariant (c.in-Some.ensures.first refl) c.in-Some.ensures.flushes c.in-Some.ensures.loss c.in_ok-push.ensures.items

pub returns-clause-notes : goal.returns-clause-notes
returns-clause-notes c = (all-lost c.args.self.now c.loop-ended.self c.args.notes.now.items c.loop-ended.notes.items c.loop-ended.invariant (none-flies c.loop-ended.self.flying c.in_default.ensures.none)).0

pub returns-clause-none : goal.returns-clause-none
returns-clause-none c =
    let none : c.lose.new.self.flying ≡ [] = ap (λ (parts : CacheParts). parts.flying) c.in_default.ensures.same ∙ none-flies c.loop-ended.self.flying c.in_default.ensures.none in
    (ap (λ (parts : CacheParts). flights_of parts.core) (sym c.self.view_is) ∙ no-flights c.self.inside.core c.self.inside.flights.items c.self.invariant (ap (λ (parts : CacheParts). parts.flying) c.self.view_is ∙ none), none)

pub returns-clause-loses : goal.returns-clause-loses
returns-clause-loses c = λ files faults.
    subst (λ (parts : CacheParts). LosesFlights (behind c.args.self.now files faults) (behind parts files faults)) (sym c.in_default.ensures.same)
    ((all-lost c.args.self.now c.loop-ended.self c.args.notes.now.items c.loop-ended.notes.items c.loop-ended.invariant (none-flies c.loop-ended.self.flying c.in_default.ensures.none)).1 files faults)
