use Rattle.std.proofs.Common.{◌≤◌, None, length, sym, ◌∙◌, ap, subst}
use Rattle.std.specs.BTreeMap.{is_at}
use Rattle.std.specs.Ordering.{nat_cmp}
use Rattle.std.specs.Prelude.{is_some, option_and_then}
use Rattle.page_index.specs.Held.{bytes_kept, held_note, of_key}
use Rattle.page_index.proofs.HeldLemmas.{Notes, at_place, beside_place, bounded_fewer, lighter_without, no_longer}
use Rattle.page_index.proofs.generation.Generation.vacate.Goals as goal

pub invariant_of-self : goal.invariant_of-self
invariant_of-self c =
    let old = c.self.inside.notes.entries in
    let new = c.remove.new.self.entries in
    bounded_fewer old new c.self.inside.bytes c.self.invariant (no_longer (length new) (length old) (is_some c.remove.result) c.remove.ensures.len)
    (subst (λ (notes : Notes). bytes_kept notes ≤ bytes_kept old) (sym c.remove.ensures.entries) (lighter_without (is_at (nat_cmp c.args.place)) old))

pub returns-clause-gone : goal.returns-clause-gone
returns-clause-gone c = λ other. ap (option_and_then (of_key other)) (at_place c.self.inside.notes.entries c.remove.new.self.entries c.args.place None c.remove.ensures.updates.0)

pub returns-clause-beside : goal.returns-clause-beside
returns-clause-beside c = λ at other away.
    beside_place c.self.inside.notes.entries c.remove.new.self.entries c.args.place None c.remove.ensures.updates.0 at other away
    ∙ ap (λ h. held_note h at other) c.self.view_is
