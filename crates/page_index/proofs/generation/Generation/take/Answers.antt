use Rattle.std.proofs.Common.{◌≡◌, ◌≤◌, true, length, sym, ◌∙◌, ap, subst}
use Rattle.std.specs.BTreeMap.{is_at}
use Rattle.std.specs.Ordering.{nat_cmp}
use Rattle.std.specs.Map.{lookup}
use Rattle.std.specs.Prelude.{IfSome, is_some}
use Rattle.sp_base.proofs.OptionLemmas.{is_some-option_map}
use Rattle.page_index.specs.Held.{HeldNotes, bytes_kept, held_note}
use Rattle.page_index.proofs.HeldLemmas.{Notes, bounded_fewer, found_key, lighter_without, no_longer, taken_others}
use Rattle.page_index.proofs.generation.Generation.take.Goals as goal

pub invariant_of-self : goal.invariant_of-self
invariant_of-self c =
    let old = c.self.inside.notes.entries in
    let new = c.remove-taken.new.self.entries in
    bounded_fewer old new c.self.inside.bytes c.self.invariant (no_longer (length new) (length old) (is_some c.remove-taken.result) c.remove-taken.ensures.len)
    (subst (λ (notes : Notes). bytes_kept notes ≤ bytes_kept old) (sym c.remove-taken.ensures.entries) (lighter_without (is_at (nat_cmp c.args.place)) old))

pub returns-clause-key : goal.returns-clause-key
returns-clause-key c = subst (λ o. IfSome o (λ n. n.key ≡ c.args.key.now)) (sym c.remove-taken.ensures.value) (held_taken c)
  where
    held_taken : (c : goal.After-remove-taken) → IfSome (lookup (is_at (nat_cmp c.args.place)) c.self.inside.notes.entries) (λ n. n.key ≡ c.args.key.now)
    held_taken c =
        let place = c.args.place in
        let key = c.args.key.now in
        let there : is_some (held_note c.args.self.now place key) ≡ true = ap is_some (sym c.get.ensures) ∙ is_some-option_map (λ x. x.now) c.get.result ∙ c.if-is_none.ensures in
        found_key key (lookup (is_at (nat_cmp place)) c.self.inside.notes.entries) (ap (λ h. is_some (held_note h place key)) c.self.view_is ∙ there)

pub returns-clause-fewer : goal.returns-clause-fewer
returns-clause-fewer c =
    subst (λ (h : HeldNotes). length c.remove-taken.new.self.entries ≤ length h.notes) c.self.view_is
    (no_longer (length c.remove-taken.new.self.entries) (length c.self.inside.notes.entries) (is_some c.remove-taken.result) c.remove-taken.ensures.len)

pub returns-clause-others : goal.returns-clause-others
returns-clause-others c = λ at other apart.
    let old = c.self.inside.notes.entries in
    let place = c.args.place in
    let key = c.args.key.now in
    let there : is_some (held_note c.args.self.now place key) ≡ true = ap is_some (sym c.get.ensures) ∙ is_some-option_map (λ x. x.now) c.get.result ∙ c.if-is_none.ensures in
    let held = ap (λ h. is_some (held_note h place key)) c.self.view_is ∙ there in
    taken_others old c.remove-taken.new.self.entries place key held c.remove-taken.ensures.updates.0 at other apart
    ∙ ap (λ h. held_note h at other) c.self.view_is
