use Rattle.std.proofs.Common.{◌∙◌, ◌<◌, List, Ok, Err, length, ap, arith, sym, subst}
use Rattle.sp_base.specs.Texts.{Segments}
use Rattle.std.specs.Prelude.{◌||◌}
use Rattle.std.specs.List.Sorted.{IsStrictlySortedBy}
use Rattle.sp_base.specs.Paths.{by_path}
use Rattle.resource_tree.specs.Content.{same_path}
use Rattle.script_rank.specs.Index.{has_path}
use Rattle.script_rank.proofs.ListedLemmas.{IsFound, forgets_one, forgotten, rises, rises_remove}
use Rattle.script_rank.proofs.listed.remove_path.Goals as goal

pub loop-position-preserved : goal.loop-position-preserved
loop-position-preserved c =
    let old = c.loop-position.paths.items in
    let at = c.in-Ok.position in
    let path = c.args.path.now in
    let within = subst (λ (xs : List Segments). at < length xs) c.deref.ensures.value c.in-Ok.ensures.bound in
    let found = subst (λ (xs : List Segments). IsFound xs path (Ok at)) c.deref.ensures.value c.in-Ok.ensures.position in
    record {
      order = subst (IsStrictlySortedBy by_path) (sym c.remove.ensures.items) (rises_remove old at c.loop-position.invariant.order within);
      others = λ q. ap (λ xs. has_path xs q || same_path q path) c.remove.ensures.items ∙ forgets_one old at path q within found ∙ c.loop-position.invariant.others q;
      room = c.remove.ensures.capacity ∙ c.loop-position.invariant.room;
      fewer = omega (arith, c.remove.ensures.len, c.loop-position.invariant.fewer);
    }

pub returns-clause-paths : goal.returns-clause-paths
returns-clause-paths c = λ q.
    let found = subst (λ (xs : List Segments). IsFound xs c.args.path.now (Err c.in_default.field-0)) c.deref.ensures.value c.in_default.ensures.position in
    forgotten c.args.paths.now.items c.loop-position.paths.items c.args.path.now q c.in_default.field-0 (rises c.loop-position.paths.items c.loop-position.invariant.order) found (c.loop-position.invariant.others q)
