use Rattle.std.proofs.Common.{◌∙◌, ap, sym, subst}
use Rattle.std.specs.List.Sorted.{IsStrictlySortedBy}
use Rattle.sp_base.specs.Paths.{by_path}
use Rattle.script_rank.specs.Index.{ScriptPaths, has_path}
use Rattle.script_rank.proofs.ListedLemmas.{lists_is, rises}
use Rattle.script_rank.proofs.index.ScriptIndex.lists.Goals as goal

pub returns : goal.returns
returns c =
    let items = c.deref.result.now in
    let up = rises items (subst (IsStrictlySortedBy by_path) (sym c.deref.ensures.value) c.self.invariant) in
    c.is_ok.ensures.value ∙ lists_is items c.args.path.now c.binary_search.result up c.binary_search.ensures.bound c.binary_search.ensures.position
    ∙ ap (λ xs. has_path xs c.args.path.now) (c.deref.ensures.value ∙ ap (λ (v : ScriptPaths). v.scripts) c.self.view_is)
