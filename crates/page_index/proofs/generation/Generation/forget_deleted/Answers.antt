use Rattle.std.proofs.Common.{◌≤◌, false, not, None, cond, sym, ◌∙◌, ap, rules, subst}
use Rattle.std.specs.Map.{keys_of}
use Rattle.std.specs.Ordering.{nat_cmp}
use Rattle.std.proofs.lemmas.Map.Keys.{IsDistinct-from_sorted}
use Rattle.std.proofs.lemmas.Map.Made.{filter_same_pairs}
use Rattle.cover_rules.specs.Coverage.{covers, deletes}
use Rattle.page_index.specs.Held.{bytes_kept, held_note}
use Rattle.page_index.proofs.HeldLemmas.{Notes, bounded_fewer, covers_deleted, forgotten, lighter_filtered}
use Rattle.page_index.proofs.generation.Generation.forget_deleted.Goals as goal

pub invariant_of-self : goal.invariant_of-self
invariant_of-self c =
    let old = c.self.inside.notes.entries in
    let filtered = filter_same_pairs _ (λ e. not (covers c.args.level false c.args.inv.now e.1.key)) _ (λ k v b w f' t. search rules) _ _ c.retain.ensures.filtered in
    bounded_fewer old c.retain.new.self.entries c.self.inside.bytes c.self.invariant c.retain.ensures.bound
    (subst (λ (notes : Notes). bytes_kept notes ≤ bytes_kept old) (sym filtered) (lighter_filtered (λ e. not (covers c.args.level false c.args.inv.now e.1.key)) old))

pub returns : goal.returns
returns c = λ at key.
    let old = c.self.inside.notes.entries in
    let inv = c.args.inv.now in
    let filtered = filter_same_pairs _ (λ e. not (covers c.args.level false c.args.inv.now e.1.key)) _ (λ k v b w f' t. search rules) _ _ c.retain.ensures.filtered in
    forgotten inv (λ note. not (covers c.args.level false inv note.key)) (λ note. ap not (covers_deleted c.args.level inv note.key)) old c.retain.new.self.entries filtered
    (IsDistinct-from_sorted nat_cmp (keys_of old) c.retain.ensures.was_ordered) at key
    ∙ ap (λ h. cond (deletes inv key) None (held_note h at key)) c.self.view_is
