use Rattle.std.proofs.Common.{sym}
use Rattle.overlay_merge.proofs.MoveLemmas.{moved_same}
use Rattle.overlay_merge.proofs.SlotsKept.{moved_before, name_unknown, other_unknown, slot_within}
use Rattle.overlay_merge.specs.Slots.{names_of}
use Rattle.overlay_merge.proofs.slots.Slots.move_before.Goals as goal

pub returns-then-eq-clause-names : goal.returns-then-eq-clause-names
returns-then-eq-clause-names c = sym (moved_same c.args.name.now c.args.other.now (names_of c.args.self.now) (sym c.if-eq.ensures))

pub returns-in_default-clause-names : goal.returns-in_default-clause-names
returns-in_default-clause-names c = name_unknown c.args.self.now c.args.name.now c.args.other.now (sym c.in_default.ensures.value)

pub returns-in_default-get-clause-names : goal.returns-in_default-get-clause-names
returns-in_default-get-clause-names c = other_unknown c.args.self.now c.args.name.now c.args.other.now (sym c.in_default-get.ensures.value)

pub put-requires-clause-at : goal.put-requires-clause-at
put-requires-clause-at c = slot_within c.args.self.now c.args.other.now c.in-Some-get.at.now c.requires (sym c.in-Some-get.ensures.value)

pub returns-clause-good : goal.returns-clause-good
returns-clause-good c =
    (moved_before c.args.self.now c.put.new.self c.args.name.now c.args.other.now c.in-Some-get.at.now c.in-Some.field-0.now c.requires c.in_ok-put.ensures.put c.in_ok-put.ensures.size c.in_ok-put.ensures.more
    (sym c.if-eq.ensures) (sym c.in-Some-get.ensures.value) (sym c.in-Some.ensures.value)).good

pub returns-clause-names : goal.returns-clause-names
returns-clause-names c =
    (moved_before c.args.self.now c.put.new.self c.args.name.now c.args.other.now c.in-Some-get.at.now c.in-Some.field-0.now c.requires c.in_ok-put.ensures.put c.in_ok-put.ensures.size c.in_ok-put.ensures.more
    (sym c.if-eq.ensures) (sym c.in-Some-get.ensures.value) (sym c.in-Some.ensures.value)).names_are
