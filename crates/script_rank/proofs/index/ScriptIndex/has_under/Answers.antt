use Rattle.std.proofs.Common.{◌∙◌, List, Err, ap, sym, subst}
use Rattle.std.specs.List.Sorted.{IsStrictlySortedBy}
use Rattle.sp_base.specs.Texts.{Segments}
use Rattle.sp_base.specs.Paths.{by_path}
use Rattle.script_rank.specs.Index.{ScriptPaths}
use Rattle.script_rank.specs.ScriptPlaceSearch.{has_under}
use Rattle.script_rank.proofs.ListedLemmas.{IsFound, rises, under_found, under_next, under_none}
use Rattle.script_rank.proofs.index.ScriptIndex.has_under.Goals as goal

pub returns-in-Ok : goal.returns-in-Ok
returns-in-Ok c =
    sym (under_found c.deref.result.now c.args.path.now c.in-Ok.field-0 c.in-Ok.ensures.bound c.in-Ok.ensures.position)
    ∙ ap (λ xs. has_under xs c.args.path.now) (c.deref.ensures.value ∙ ap (λ (v : ScriptPaths). v.scripts) c.self.view_is)

pub returns-in-Some : goal.returns-in-Some
returns-in-Some c =
    let items = c.deref-in-Err.result.now in
    let up = rises items (subst (IsStrictlySortedBy by_path) (sym c.deref-in-Err.ensures.value) c.self.invariant) in
    let found = subst (λ (xs : List Segments). IsFound xs c.args.path.now (Err c.in-Err.position)) (c.deref.ensures.value ∙ sym c.deref-in-Err.ensures.value) c.in-Err.ensures.position in
    c.is_under.ensures ∙ under_next items c.args.path.now c.in-Err.position c.in-Some.next.now up found c.in-Some.ensures.lookup.3.0 c.in-Some.ensures.lookup.3.1
    ∙ ap (λ xs. has_under xs c.args.path.now) (c.deref-in-Err.ensures.value ∙ ap (λ (v : ScriptPaths). v.scripts) c.self.view_is)

pub returns-in-None : goal.returns-in-None
returns-in-None c =
    let items = c.deref-in-Err.result.now in
    let up = rises items (subst (IsStrictlySortedBy by_path) (sym c.deref-in-Err.ensures.value) c.self.invariant) in
    let found = subst (λ (xs : List Segments). IsFound xs c.args.path.now (Err c.in-Err.position)) (c.deref.ensures.value ∙ sym c.deref-in-Err.ensures.value) c.in-Err.ensures.position in
    sym (under_none items c.args.path.now c.in-Err.position up found c.in-None.ensures.lookup.3)
    ∙ ap (λ xs. has_under xs c.args.path.now) (c.deref-in-Err.ensures.value ∙ ap (λ (v : ScriptPaths). v.scripts) c.self.view_is)
