use Rattle.std.proofs.Common.{◌≡◌, ◌∙◌, ◌<◌, ◌-◌, [], Some, length, ap, sym, arith}
use Rattle.std.proofs.lemmas.List.{get_or_read}
use Rattle.overlay_merge.specs.Slots.{held_in, is_slot, slot_in}
use Rattle.overlay_merge.proofs.SlotLemmas.{another_slot, name_else, name_here}
use Rattle.overlay_merge.proofs.slots.Slots.name_in.Goals.{in_default-via-in-Some+else-place-slot, in_default-via-in_default}
use Rattle.overlay_merge.proofs.slots.Slots.name_in.Goals as goal

pub returns-in-Some : goal.returns-in-Some
returns-in-Some c =
    let slots = c.args.self.now in
    let s = c.args.slot in
    let within : s - 1 < length slots.held.items = omega (arith, c.requires.0, c.requires.1) in
    let holds : held_in slots s ≡ c.index-name.result.now.now = sym (ap (λ b. b.now) (get_or_read slots.held.items (s - 1) c.index-name.result.now within c.index-name.ensures (record { ref_ptr = (0, 0); now = [] }))) in
    sym (name_here (held_in slots) (slot_in slots) s c.index-name.result.now.now holds (sym c.in-Some.ensures.value ∙ ap (λ n. Some n) c.if-place-slot.true))

pub returns-in_default : goal.returns-in_default
returns-in_default c =
    let slots = c.args.self.now in
    let s = c.args.slot in
    let name = c.index-name.result.now.now in
    let within : s - 1 < length slots.held.items = omega (arith, c.requires.0, c.requires.1) in
    let holds : held_in slots s ≡ name = sym (ap (λ b. b.now) (get_or_read slots.held.items (s - 1) c.index-name.result.now within c.index-name.ensures (record { ref_ptr = (0, 0); now = [] }))) in
    elim c.in_default.branch [
      | in_default-via-in-Some+else-place-slot w ↦ sym (name_else (held_in slots) (slot_in slots) s name holds (another_slot (slot_in slots) name w.in-Some.place.now s (sym w.in-Some.ensures.value) w.if-place-slot.false))
      | in_default-via-in_default w ↦ sym (name_else (held_in slots) (slot_in slots) s name holds (ap (λ o. is_slot o s) (sym w.in_default.ensures.value)))
    ]
