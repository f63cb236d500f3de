use Rattle.std.proofs.Common.{get_or, sym, ◌∙◌, ap, arith}
use Rattle.sp_outside.proofs.Begun.{all_gone, begins_clearing, not_kept_then, not_kept_told, one_taken, rest_then, rest_told}
use Rattle.sp_outside.proofs.opening.remove_all.Goals as goal

pub loop-name-init : goal.loop-name-init
loop-name-init g c = record {
  cleared = begins_clearing c.args.found.now (g.F.RawFiles.files c.args.below.now) c.requires;
  rising = omega arith;
}

pub loop-name-preserved : goal.loop-name-preserved
loop-name-preserved g c =
    let found = c.args.found.now in
    let at = c.loop-name.name-index in
    let item = c.text.result.now in
    record {
      cleared = one_taken found at item (g.F.RawFiles.files c.args.below.now) (g.F.RawFiles.files c.loop-name.below) (g.F.RawFiles.files c.remove_inside.new.below)
          (c.text.ensures ∙ c.name-item.is ∙ ap (get_or found at) (sym c.text.ensures)) c.loop-name.invariant.cleared c.in_ok-remove_inside.ensures.ok;
      rising = omega (arith, c.loop-name.invariant.rising, c.remove_inside.ensures.rising);
    }

pub returns-in_err-remove_inside-clause-kept : goal.returns-in_err-remove_inside-clause-kept
returns-in_err-remove_inside-clause-kept g c =
    not_kept_then g.F.RawFiles.boot c.args.found.now c.loop-name.name-index c.text.result.now (g.F.RawFiles.files c.args.below.now) (g.F.RawFiles.files c.loop-name.below) (g.F.RawFiles.files c.remove_inside.new.below)
    c.loop-name.invariant.cleared c.remove_inside.ensures.any

pub returns-in_err-remove_inside-clause-rest : goal.returns-in_err-remove_inside-clause-rest
returns-in_err-remove_inside-clause-rest g c =
    rest_then c.args.found.now c.loop-name.name-index c.text.result.now (g.F.RawFiles.files c.args.below.now) (g.F.RawFiles.files c.loop-name.below) (g.F.RawFiles.files c.remove_inside.new.below)
    c.loop-name.invariant.cleared c.remove_inside.ensures.any

pub returns-clause-ok : goal.returns-clause-ok
returns-clause-ok g c =
    all_gone c.args.found.now c.loop-name.name-index (g.F.RawFiles.files c.args.below.now) (g.F.RawFiles.files c.loop-name.below) (omega arith) c.loop-name.invariant.cleared

pub returns-clause-kept : goal.returns-clause-kept
returns-clause-kept g c =
    not_kept_told g.F.RawFiles.boot c.args.found.now c.loop-name.name-index (g.F.RawFiles.files c.args.below.now) (g.F.RawFiles.files c.loop-name.below) c.loop-name.invariant.cleared

pub returns-clause-rest : goal.returns-clause-rest
returns-clause-rest g c = rest_told c.args.found.now c.loop-name.name-index (g.F.RawFiles.files c.args.below.now) (g.F.RawFiles.files c.loop-name.below) c.loop-name.invariant.cleared
