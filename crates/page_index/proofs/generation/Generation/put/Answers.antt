use Rattle.std.proofs.Common.{◌≡◌, ◌≤◌, ◌+◌, Some, true, sym, ◌∙◌, ap, subst}
use Rattle.std.specs.Prelude.{is_some}
use Rattle.page_index.specs.Held.{bytes_kept, has_room, held_note, weight_of}
use Rattle.page_index.proofs.HeldLemmas.{Notes, beside_place, bounded_more, displaced, heavier_with, put_here}
use Rattle.page_index.proofs.generation.Generation.put.Goals as goal

pub invariant_of-self-2 : goal.invariant_of-self-2
invariant_of-self-2 c =
    let old = c.self.inside.notes.entries in
    let new = c.insert.new.self.entries in
    let note = c.args.note in
    let bytes = c.weight-bytes.result in
    let room : has_room (record { notes = old; bytes = c.self.inside.bytes }) bytes ≡ true =
    ap (λ h. has_room h bytes) c.self.view_is ∙ ap (λ n. has_room c.args.self.now n) c.weight-bytes.ensures.value ∙ c.requires in
    bounded_more old new c.self.inside.bytes bytes (is_some c.in_ok-insert.field-0) c.self.invariant room c.in_ok-insert.ensures.len
    (subst (λ n. bytes_kept new ≤ bytes_kept old + n) (sym c.weight-bytes.ensures.value)
    (subst (λ (notes : Notes). bytes_kept notes ≤ bytes_kept old + weight_of note) (sym c.in_ok-insert.ensures.entries) (heavier_with old c.args.place note)))

pub returns-clause-displaced : goal.returns-clause-displaced
returns-clause-displaced c = displaced c.insert.new.self.entries c.args.place c.args.note c.in_ok-insert.ensures.updates.1

pub returns-clause-beside : goal.returns-clause-beside
returns-clause-beside c = λ at other away.
    beside_place c.self.inside.notes.entries c.insert.new.self.entries c.args.place (Some c.args.note) c.in_ok-insert.ensures.updates.0 at other away
    ∙ ap (λ h. held_note h at other) c.self.view_is

pub returns-clause-here : goal.returns-clause-here
returns-clause-here c = put_here c.insert.new.self.entries c.args.place c.args.note c.in_ok-insert.ensures.updates.1
