use Rattle.std.proofs.Common.{◌≡◌, ◌∙◌, ◌∷◌, [], ◌++◌, append-nil, ap, length, map, subst, sym}
use Rattle.std.specs.Prelude.{option_to_list, string_bytes}
use Rattle.resource_tree.specs.Patches.{patching_at}
use Rattle.url_maps.specs.Claims.{ClaimRows}
use Rattle.url_maps.specs.Noting.{LeadsRows}
use Rattle.url_maps.proofs.LeaderLemmas.{none_left, rows_led, split_last, split_none}
use Rattle.url_maps.proofs.claims_change.ClaimsChange.put_leaders_first.Goals as goal

pub loop-text-init : goal.loop-text-init
loop-text-init c = ([], sym c.self.view_is ∙ sym (append-nil (map (λ e. (string_bytes e.0, e.1)) c.self.inside.rows.entries)), λ t. subst (λ (rows : ClaimRows). LeadsRows (patching_at c.args.tree.now c.args.patch.now) [] rows) (sym c.new-change.ensures) (λ s. tt) t)

pub loop-text-preserved : goal.loop-text-preserved
loop-text-preserved c =
    let at = patching_at c.args.tree.now c.args.patch.now in
    let inv = c.loop-text.invariant in
    let left = c.pop.new.self.entries in
    let entries : c.loop-text.rows.entries ≡ left ++ (c.in-Some.text, c.in-Some.paths) ∷ [] = c.pop.ensures.entries ∙ ap (λ o. left ++ option_to_list o) c.in-Some.is in (
      (string_bytes c.in-Some.text, c.in-Some.paths) ∷ inv.0,
      split_last _ string_bytes c.args.self c.loop-text.rows.entries left c.in-Some.text c.in-Some.paths inv.0 entries inv.1,
      rows_led at inv.0 c.loop-text.change c.put_row.new.self (string_bytes c.in-Some.text) c.in-Some.paths c.in_ok-put_leader_first.field-0 inv.2 c.in_ok-put_leader_first.ensures c.in_ok-put_row.ensures,
    )

pub returns : goal.returns
returns c =
    let at = patching_at c.args.tree.now c.args.patch.now in
    let inv = c.loop-text.invariant in
    subst (λ (rows : ClaimRows). LeadsRows at rows c.loop-text.change)
    (sym (split_none string_bytes c.args.self c.loop-text.rows.entries inv.0 (none_left c.pop.result (length c.loop-text.rows.entries) c.pop.ensures.found.1 c.in_default.is) inv.1)) inv.2
