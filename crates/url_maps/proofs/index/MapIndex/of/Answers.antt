use Rattle.std.proofs.Common.{◌∙◌, ℕ, List, map, sym, subst}
use Rattle.std.specs.Map.Iter.{deref_pair}
use Rattle.resource_tree.specs.Content.{node_at}
use Rattle.resource_tree.specs.Patches.{PatchEntries, patching_at}
use Rattle.resource_tree.specs.Rows.{AreRowsOf}
use Rattle.url_maps.specs.Claims.{claimants, claims_alias, claims_vanity_path, node_claims_alias, node_claims_vanity_path}
use Rattle.url_maps.specs.Noting.{PutsLeaderFirst}
use Rattle.url_maps.specs.PatternRows.{ArePatterns}
use Rattle.url_maps.proofs.ClaimLemmas.{alias_there, row_there, rows_more, vanity_path_there, whole_aliases, whole_vanity_paths}
use Rattle.url_maps.proofs.index.MapIndex.of.Goals as goal

pub loop-row-preserved : goal.loop-row-preserved
loop-row-preserved c =
    let tree = c.args.tree.now in
    let row = c.row-item.result in
    let rows = c.as_slice-rows.result.now in
    let are : AreRowsOf tree (map deref_pair rows) = subst (λ rs. AreRowsOf tree (map deref_pair rs)) (sym c.as_slice-rows.ensures.value) c.in_ok-all.ensures.rows in
    let there = row_there deref_pair tree rows c.loop-row.row-index row are c.loop-row-test.true c.row-item.is in
    record {
      aliases = rows_more (λ r. r.0.now) (claims_alias tree) (node_claims_alias row.0.now row.1.now) rows c.loop-row.row-index row c.loop-row.aliases.rows c.note_node.new.aliases.rows c.loop-row-test.true c.row-item.is
          (alias_there tree row.0.now row.1.now there) c.loop-row.invariant.aliases c.in_ok-note_node.ensures.aliases;
      vanity_paths = rows_more (λ r. r.0.now) (claims_vanity_path tree) (node_claims_vanity_path row.1.now) rows c.loop-row.row-index row c.loop-row.vanity_paths.rows c.note_node.new.vanity_paths.rows c.loop-row-test.true c.row-item.is
          (vanity_path_there tree row.0.now row.1.now there) c.loop-row.invariant.vanity_paths c.in_ok-note_node.ensures.vanity_paths;
    }

pub first_siblings-requires : goal.first_siblings-requires
first_siblings-requires c =
    let tree = c.args.tree.now in
    let rows = c.as_slice-rows.result.now in
    let are : AreRowsOf tree (map deref_pair rows) = subst (λ rs. AreRowsOf tree (map deref_pair rs)) (sym c.as_slice-rows.ensures.value) c.in_ok-all.ensures.rows in
    whole_aliases deref_pair tree c.loop-row.aliases.rows rows c.loop-row.row-index are c.loop-row-test.false c.loop-row.invariant.aliases

pub returns : goal.returns
returns c =
    let tree = c.args.tree.now in
    let rows = c.as_slice-rows.result.now in
    let are : AreRowsOf tree (map deref_pair rows) = subst (λ rs. AreRowsOf tree (map deref_pair rs)) (sym c.as_slice-rows.ensures.value) c.in_ok-all.ensures.rows in
    let old = whole_vanity_paths deref_pair tree c.loop-row.vanity_paths.rows rows c.loop-row.row-index are c.loop-row-test.false c.loop-row.invariant.vanity_paths in
    let leads : (t : List ℕ) → PutsLeaderFirst (node_at tree) (claimants c.loop-row.vanity_paths.rows t) (claimants c.in_ok-put_leaders_first.field-0.rows t) = λ t.
    subst (λ (rs : PatchEntries). PutsLeaderFirst (patching_at tree rs) (claimants c.loop-row.vanity_paths.rows t) (claimants c.in_ok-put_leaders_first.field-0.rows t)) c.new-unchanged.ensures (c.in_ok-put_leaders_first.ensures t) in
    record {
      aliases = c.in_ok-aliases.ensures;
      vanity_paths = λ t q. (leads t).paths q ∙ old t q;
      leaders = λ t. (leads t).led;
      patterns = subst (λ (rs : PatchEntries). ArePatterns (patching_at tree rs) c.in_ok-patterns_of.field-0) c.new-unchanged.ensures c.in_ok-patterns_of.ensures;
    }
