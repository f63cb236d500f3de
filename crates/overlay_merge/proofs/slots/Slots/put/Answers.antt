use Rattle.std.proofs.Common.{◌≡◌, ◌∙◌, ◌∷◌, Some, suc, cond, length, ap, sym, arith}
use Rattle.std.specs.Prelude.{slice_index}
use Rattle.std.proofs.lemmas.List.{get_or_read}
use Rattle.std.proofs.lemmas.Map.Text.{btree_map_updates_str}
use Rattle.overlay_merge.specs.Slots.{slot_in}
use Rattle.overlay_merge.proofs.SlotLemmas.{held, written}
use Rattle.overlay_merge.proofs.slots.Slots.put.Goals as goal

pub returns-clause-put : goal.returns-clause-put
returns-clause-put c =
    let old = c.args.self.now in
    let slot = c.len-slot.result in
    let len : slot ≡ length old.before.items = c.len-slot.ensures ∙ old.before.ok.0 in
    let size : slot ≡ suc (length old.held.items) = len ∙ c.requires.size in
    let value : c.index-before.result.now ≡ slice_index old.before.items c.args.at = get_or_read old.before.items c.args.at c.index-before.result.now c.requires.at c.index-before.ensures 0 in
    let wrote = written old.before.items c.push.new.self.items c.args.at c.index-before.result.now slot c.requires.at value c.in_ok-push.ensures.items len in
    let holds = held old.held.items c.push-2.new.self.items c.args.name c.in_ok-push-2.ensures.items in
    let stands = btree_map_updates_str c.args.name.now old.places c.insert.new.self _ c.in_ok-insert.ensures.updates in
    record {
      to_new = wrote.to_new ∙ c.requires.size;
      from_new = ap (λ i. slice_index (Rattle.std.proofs.Common.set c.push.new.self.items c.args.at slot) i) (sym c.requires.size) ∙ wrote.from_new;
      others = λ s low differ. wrote.others s (omega (arith, low, c.requires.size)) differ;
      holds_new = holds.new;
      holds_others = holds.others;
      stands_new = λ q same. stands q ∙ ap (λ b. cond b (Some slot) (slot_in old q)) same ∙ ap (λ n. Some n) size;
      stands_others = λ q differ. stands q ∙ ap (λ b. cond b (Some slot) (slot_in old q)) differ;
    }
