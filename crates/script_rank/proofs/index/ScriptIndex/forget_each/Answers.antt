use Rattle.std.proofs.Common.{◌∙◌, ap, arith}
use Rattle.std.specs.Prelude.{◌&&◌, not}
use Rattle.std.proofs.lemmas.List.{take_all}
use Rattle.script_rank.specs.Index.{has_path}
use Rattle.script_rank.proofs.ListedLemmas.{gone_more, gone_none}
use Rattle.script_rank.proofs.index.ScriptIndex.forget_each.Goals as goal

pub loop-path-init : goal.loop-path-init
loop-path-init c = record { scripts = λ q. gone_none c.args.self.now.scripts q; room = omega arith }

pub loop-path-preserved : goal.loop-path-preserved
loop-path-preserved c = record {
  scripts = λ q.
      gone_more c.args.self.now.scripts c.loop-path.self.scripts c.forget.new.self.scripts c.args.gone.now c.loop-path.path-index c.path-item.result q c.loop-path-test.true c.path-item.is
      (c.loop-path.invariant.scripts q) (c.forget.ensures.scripts q);
  room = omega (arith, c.loop-path.invariant.room, c.forget.ensures.room);
}

pub returns-clause-scripts : goal.returns-clause-scripts
returns-clause-scripts c = λ q.
    c.loop-path.invariant.scripts q ∙ ap (λ xs. has_path c.args.self.now.scripts q && not (has_path xs q)) (take_all c.loop-path.path-index c.args.gone.now (omega (arith, c.loop-path-test.false)))
