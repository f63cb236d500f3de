use Rattle.std.proofs.Common.{map, sym, subst}
use Rattle.std.specs.Map.Iter.{deref_pair}
use Rattle.resource_tree.specs.Rows.{AreRowsOf}
use Rattle.site_faults.proofs.Tellings.{tells_all, tells_more}
use Rattle.site_faults.proofs.scripts.script_faults.Goals as goal

pub loop-row-preserved : goal.loop-row-preserved
loop-row-preserved c =
    tells_more (λ r. r.0.now) c.args.tree.now c.as_slice-rows.result.now c.loop-row.row-index c.row-item.result c.loop-row.told.entries c.tell_script.new.told.entries c.loop-row-test.true c.row-item.is c.loop-row.invariant c.in_ok-tell_script.ensures

pub returns : goal.returns
returns c =
    let tree = c.args.tree.now in
    let rows = c.as_slice-rows.result.now in
    let are : AreRowsOf tree (map deref_pair rows) = subst (λ rs. AreRowsOf tree (map deref_pair rs)) (sym c.as_slice-rows.ensures.value) c.in_ok-all.ensures.rows in
    record {
      ordered = c.len.ensures.ordered;
      each = tells_all deref_pair tree rows c.loop-row.row-index c.loop-row.told.entries are c.loop-row-test.false c.loop-row.invariant;
    }
