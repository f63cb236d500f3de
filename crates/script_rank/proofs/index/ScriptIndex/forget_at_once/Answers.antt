use Rattle.std.proofs.Common.{◌∙◌, ap, sym}
use Rattle.std.specs.Prelude.{◌&&◌, not}
use Rattle.std.proofs.lemmas.List.Sorted.{list_any-IsPermutation}
use Rattle.resource_tree.specs.Content.{same_path}
use Rattle.script_rank.specs.Index.{ScriptPaths, has_path}
use Rattle.script_rank.proofs.index.ScriptIndex.forget_at_once.Goals as goal

pub returns-clause-scripts : goal.returns-clause-scripts
returns-clause-scripts c = λ q.
    let sorted = c.sort_unstable.new.self.items in
    c.remove_all.ensures.paths q ∙ ap (λ (v : ScriptPaths). has_path v.scripts q && not (has_path c.deref.result.now q)) c.self.view_is
    ∙ ap (λ xs. has_path c.args.self.now.scripts q && not (has_path xs q)) c.deref.ensures.value
    ∙ ap (λ b. has_path c.args.self.now.scripts q && not b) (sym (list_any-IsPermutation (same_path q) c.args.gone.items sorted c.sort_unstable.ensures.permutation))
