use Rattle.std.proofs.Common.{map, sym, subst}
use Rattle.std.specs.Map.Iter.{deref_pair}
use Rattle.resource_tree.specs.Rows.{AreRowsOf}
use Rattle.script_rank.proofs.TextLemmas.{scripts_more, scripts_whole}
use Rattle.script_rank.proofs.index.scripts_of.Goals as goal

pub loop-row-preserved : goal.loop-row-preserved
loop-row-preserved c =
    scripts_more deref_pair c.as_slice-rows.result.now c.loop-row.row-index c.row-item.result c.loop-row.scripts.items c.push_row.new.scripts.items c.loop-row-test.true c.row-item.is c.loop-row.invariant c.in_ok-push_row.ensures

pub returns : goal.returns
returns c =
    let tree = c.args.tree.now in
    let rows = c.as_slice-rows.result.now in
    let are : AreRowsOf tree (map deref_pair rows) = subst (λ rs. AreRowsOf tree (map deref_pair rs)) (sym c.as_slice-rows.ensures.value) c.in_ok-all.ensures.rows in
    scripts_whole deref_pair tree rows c.loop-row.row-index c.loop-row.scripts.items c.rows.ensures.good are c.loop-row-test.false c.loop-row.invariant
