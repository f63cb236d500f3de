use Rattle.std.proofs.Common.{refl, sym, ◌∙◌}
use Rattle.std.proofs.lemmas.Bool.{true≢false}
use Rattle.sp_outside.proofs.Begun.{below_of_left}
use Rattle.sp_outside.proofs.Left.{left_gone, left_gone_or_not, left_same, made, rises}
use Rattle.sp_outside.proofs.Results.{either}
use Rattle.sp_outside.proofs.opening.remove_left.Goals as goal

pub unlink-requires : goal.unlink-requires
unlink-requires g c = below_of_left c.args.name.now (sym c.is_left.ensures ∙ c.if-is_left.true)

pub returns-then-is_left-clause-left : goal.returns-then-is_left-clause-left
returns-then-is_left-clause-left g c =
    let old = g.F.RawFiles.files c.args.below.now in
    let new = g.F.RawFiles.files c.unlink.new.self in
    let left = sym c.is_left.ensures ∙ c.if-is_left.true in
    either c.unlink.result (λ is. left_gone old new c.args.name.now left is) (λ fault is. left_gone_or_not old new c.args.name.now fault left is)
    c.unlink.ensures.ok c.unlink.ensures.err

pub returns-then-is_left-clause-gone : goal.returns-then-is_left-clause-gone
returns-then-is_left-clause-gone g c = λ none left.
    made c.unlink.result _ _ (g.F.RawFiles.files c.args.below.now) (g.F.RawFiles.files c.unlink.new.self) c.args.name.now
    c.unlink.ensures.cause c.unlink.ensures.fails c.unlink.ensures.ok none

pub returns-then-is_left-clause-rising : goal.returns-then-is_left-clause-rising
returns-then-is_left-clause-rising g c = rises _ _ c.unlink.result c.unlink.ensures.cause

pub returns-else-is_left-clause-left : goal.returns-else-is_left-clause-left
returns-else-is_left-clause-left g c = left_same (g.F.RawFiles.files c.args.below.now) _ c.args.name.now refl

pub returns-else-is_left-clause-gone : goal.returns-else-is_left-clause-gone
returns-else-is_left-clause-gone g c = λ none left. absurd (true≢false (sym left ∙ sym c.is_left.ensures ∙ c.if-is_left.false))
