use Rattle.std.proofs.Common.{◌≡◌, ◌∙◌, true, ap, arith, sym, subst}
use Rattle.std.specs.Prelude.{◌||◌, if◌then◌else◌, is_ok}
use Rattle.std.specs.List.{insert}
use Rattle.std.specs.List.Sorted.{IsStrictlySortedBy}
use Rattle.sp_base.specs.Paths.{by_path}
use Rattle.resource_tree.specs.Content.{same_path}
use Rattle.script_rank.specs.Index.{ScriptPaths, has_path}
use Rattle.script_rank.proofs.ListedLemmas.{inserted, listed_twice, rises_insert}
use Rattle.script_rank.proofs.index.ScriptIndex.put_in_room.Goals as goal

pub invariant_of-self : goal.invariant_of-self
invariant_of-self c =
    let old = c.deref.result.now in
    let up = subst (IsStrictlySortedBy by_path) (sym c.deref.ensures.value) c.self.invariant in
    let room = ap (λ (v : ScriptPaths). v.room) c.self.view_is in
    let ok : is_ok c.insert.result ≡ true = c.insert.ensures.succeeds (omega (arith, c.requires, room)) in
    let items : c.insert.new.self.items ≡ insert old c.in-Err.position c.args.path =
    c.insert.ensures.items ∙ ap (λ b. if b then insert c.self.inside.scripts.items c.in-Err.position c.args.path else c.self.inside.scripts.items) ok ∙ ap (λ xs. insert xs c.in-Err.position c.args.path) (sym c.deref.ensures.value) in
    subst (IsStrictlySortedBy by_path) (sym items) (rises_insert old c.in-Err.position c.args.path up c.in-Err.ensures.bound c.in-Err.ensures.position)

pub returns-in-Err-clause-scripts : goal.returns-in-Err-clause-scripts
returns-in-Err-clause-scripts c = λ q.
    let old = c.self.inside.scripts.items in
    let room = ap (λ (v : ScriptPaths). v.room) c.self.view_is in
    let ok : is_ok c.insert.result ≡ true = c.insert.ensures.succeeds (omega (arith, c.requires, room)) in
    ap (λ xs. has_path xs q) (c.insert.ensures.items ∙ ap (λ b. if b then insert old c.in-Err.position c.args.path else old) ok)
    ∙ inserted old c.in-Err.position c.args.path q ∙ ap (λ (v : ScriptPaths). has_path v.scripts q || same_path q c.args.path) c.self.view_is

pub returns-in_default-clause-scripts : goal.returns-in_default-clause-scripts
returns-in_default-clause-scripts c = λ q.
    let same = c.deref.ensures.value ∙ ap (λ (v : ScriptPaths). v.scripts) c.self.view_is in
    sym (ap (λ xs. has_path xs q) same) ∙ listed_twice c.deref.result.now c.in_default.field-0 c.args.path q c.in_default.ensures.bound c.in_default.ensures.position
    ∙ ap (λ xs. has_path xs q || same_path q c.args.path) same
