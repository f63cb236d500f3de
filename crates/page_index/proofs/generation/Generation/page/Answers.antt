use Rattle.std.proofs.Common.{◌≡◌, sym, ◌∙◌, ap, subst}
use Rattle.std.specs.BTreeMap.{is_at}
use Rattle.std.specs.Map.{set_value}
use Rattle.std.specs.Ordering.{nat_cmp}
use Rattle.std.proofs.lemmas.Map.Steps.{set_value_same}
use Rattle.page_index.specs.Held.{HeldNotes, IsBounded}
use Rattle.page_index.proofs.HeldLemmas.{Notes}
use Rattle.page_index.proofs.generation.Generation.page.Goals as goal

-- the note is written back as it was
unwritten : (c : goal.After-self-2-1) → (c.get_mut.follows.lender c.page_of.new.self).entries ≡ c.self.inside.notes.entries
unwritten c =
    let test = is_at (nat_cmp c.args.place) in
    let old = c.self.inside.notes.entries in
    (c.get_mut.follows.holds c.page_of.new.self).0 ∙ ap (set_value test old) c.page_of.ensures.same ∙ set_value_same test old c.in-Some.note.now (sym c.in-Some.ensures.value)

pub invariant_of-self-2 : goal.invariant_of-self-2
invariant_of-self-2 c = subst (λ (notes : Notes). IsBounded (record { notes = notes; bytes = c.self.inside.bytes })) (sym (unwritten c)) c.self.invariant

pub returns-clause-same : goal.returns-clause-same
returns-clause-same c =
    let held : Notes → HeldNotes = λ notes. record { notes = notes; bytes = c.self.inside.bytes } in
    ap held (unwritten c) ∙ c.self.view_is
