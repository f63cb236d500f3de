use Rattle.std.proofs.Common.{get_or, sym, ◌∙◌, ap, arith}
use Rattle.sp_outside.proofs.Left.{all_left_gone, none_gone_yet, none_taken, one_gone, one_left}
use Rattle.sp_outside.proofs.opening.take_left.Goals as goal

pub loop-name-init : goal.loop-name-init
loop-name-init g c = record {
  left = none_taken (g.F.RawFiles.files c.args.below.now);
  gone = λ none. none_gone_yet c.args.found.now (g.F.RawFiles.files c.args.below.now);
  rising = omega arith;
}

pub loop-name-preserved : goal.loop-name-preserved
loop-name-preserved g c =
    let found = c.args.found.now in
    let at = c.loop-name.name-index in
    let item = c.text.result.now in
    let so_far = c.loop-name.invariant in
    let now = g.F.RawFiles.files c.loop-name.below in
    let next = g.F.RawFiles.files c.remove_left.new.below in
    record {
      left = one_left item (g.F.RawFiles.files c.args.below.now) now next so_far.left c.remove_left.ensures.left;
      gone = λ none.
          one_gone found at item now next (c.text.ensures ∙ c.name-item.is ∙ ap (get_or found at) (sym c.text.ensures))
          (so_far.gone (omega (arith, none.0, so_far.rising, c.remove_left.ensures.rising), none.1)) c.remove_left.ensures.left
          (c.remove_left.ensures.gone (omega (arith, none.0, so_far.rising, c.remove_left.ensures.rising), omega (arith, none.0, none.1, so_far.rising, c.remove_left.ensures.rising)));
      rising = omega (arith, so_far.rising, c.remove_left.ensures.rising);
    }

pub returns-clause-left : goal.returns-clause-left
returns-clause-left g c = c.loop-name.invariant.left

pub returns-clause-gone : goal.returns-clause-gone
returns-clause-gone g c = λ none. all_left_gone c.args.found.now c.loop-name.name-index (g.F.RawFiles.files c.loop-name.below) (omega arith) (c.loop-name.invariant.gone none)
