use Rattle.std.proofs.Common.{◌≡◌, ◌∙◌, ◌<◌, ◌+◌, ◌-◌, ◌++◌, suc, length, reverse, refl, sym, ap, subst, arith}
use Rattle.std.proofs.lemmas.List.{get_or_read}
use Rattle.overlay_merge.specs.Slots.{before_in}
use Rattle.overlay_merge.proofs.SlotsKept.{Walked, one_slot, steps, walk_begins}
use Rattle.overlay_merge.proofs.slots.Slots.names.Goals as goal

pub loop-init : goal.loop-init
loop-init c =
    let slots = c.args.self.now in
    let all : length slots.held.items ≡ length slots.held.items - 0 = omega arith in
    subst (λ m. Walked slots m 0 (reverse c.new-names.result.items)) all (subst (λ l. Walked slots (length slots.held.items) 0 (reverse l)) (sym c.new-names.ensures.items) (walk_begins slots c.requires))

pub name_in-requires : goal.name_in-requires
name_in-requires c =
    let slots = c.args.self.now in
    let n = length slots.held.items in
    let lt : c.loop.counter < n = omega (arith, c.loop-test.true, c.len-end.ensures, slots.held.ok.0) in
    let less : n - c.loop.counter ≡ suc (n - (c.loop.counter + 1)) = omega (arith, lt) in
    let is : c.index-slot.result.now ≡ before_in slots c.loop.slot = get_or_read slots.before.items c.loop.slot c.index-slot.result.now c.loop.invariant.at_is c.index-slot.ensures 0 in
    let ok = (steps slots (n - c.loop.counter) (n - (c.loop.counter + 1)) c.loop.slot c.index-slot.result.now (reverse c.loop.names.items) less is c.loop.invariant).0 in
    (ok.0, omega (arith, ok.1))

pub loop-preserved : goal.loop-preserved
loop-preserved c =
    let slots = c.args.self.now in
    let n = length slots.held.items in
    let lt : c.loop.counter < n = omega (arith, c.loop-test.true, c.len-end.ensures, slots.held.ok.0) in
    let less : n - c.loop.counter ≡ suc (n - (c.loop.counter + 1)) = omega (arith, lt) in
    let is : c.index-slot.result.now ≡ before_in slots c.loop.slot = get_or_read slots.before.items c.loop.slot c.index-slot.result.now c.loop.invariant.at_is c.index-slot.ensures 0 in
    one_slot slots (n - c.loop.counter) (n - (c.loop.counter + 1)) c.loop.slot c.index-slot.result.now (reverse c.loop.names.items) (reverse c.push_some.new.names.items) c.loop.names.items c.requires less is refl
    (ap reverse (c.in_ok-push_some.ensures ∙ ap (λ l. c.loop.names.items ++ l) c.name_in.ensures)) c.loop.invariant
