use Rattle.std.proofs.Common.{ap, arith, length, sym, subst}
use Rattle.script_rank.specs.Index.{ScriptPathsChange, IsScriptChangeOf}
use Rattle.script_rank.proofs.TextLemmas.{index_after}
use Rattle.script_rank.proofs.index.ScriptIndex.take.Goals as goal

pub put_all-requires : goal.put_all-requires
put_all-requires c = omega (arith, c.requires, ap (λ (v : ScriptPathsChange). length v.added) c.change.view_is, c.forget_all.ensures.room)

pub returns : goal.returns
returns c = λ tree after patch is change good shows.
    index_after tree after patch (record { added = c.change.inside.added.items; gone = c.change.inside.gone.items }) c.args.self.now c.forget_all.new.self c.put_all.new.self is
    (subst (IsScriptChangeOf tree patch) (sym c.change.view_is) change) good shows
    c.forget_all.ensures.scripts c.put_all.ensures.scripts c.put_all.ensures.order
