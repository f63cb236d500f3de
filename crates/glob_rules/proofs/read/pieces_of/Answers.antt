use Rattle.std.proofs.Common.{◌≡◌, ◌∷◌, ◌++◌, ◌∙◌, ap, rules, arith, [], List, None}
use Rattle.std.specs.Str.{chars, NonePass}
use Rattle.glob_rules.specs.declared.piece.GlobPiece.{GlobPiece}
use Rattle.glob_rules.specs.declared.piece.GlobPiece.TheVariants.{Class}
use Rattle.glob_rules.specs.declared.piece.GlobClass.{GlobClass}
use Rattle.glob_rules.specs.Reading.{class_of, is_close, pieces_from}
use Rattle.glob_rules.proofs.ReadLemmas.{open_class, class_read, class_closes}
use Rattle.glob_rules.proofs.read.pieces_of.Goals as goal

pub returns-in_default-cut_at_close-clause-err : goal.returns-in_default-cut_at_close-clause-err
returns-in_default-cut_at_close-clause-err c = λ _.
    let begins : chars c.loop-c.rest.now ≡ 91 ∷ chars c.in-Some.later.now = search rules in
    let none : NonePass is_close (chars c.in-Some.later.now) = search rules in
    open_class c.args.text.now c.loop-c.rest.now (chars c.in-Some.later.now) c.loop-c.invariant.text begins none c.loop-c.invariant.unclosed

pub loop-c-preserved-then-c-eq91 : goal.loop-c-preserved-then-c-eq91
loop-c-preserved-then-c-eq91 c =
    let begins : chars c.loop-c.rest.now ≡ 91 ∷ chars c.in-Some.later.now = search rules in
    let parts = c.in-Some-cut_at_close.ensures.parts in
    let none = c.in-Some-cut_at_close.ensures.first in
    let class : c.in_ok-class_of.field-0 ≡ class_of (chars c.in-Some-cut_at_close.inside.now) = search rules in
    let pushed = c.in_ok-push.ensures.items ∙ ap (λ (k : GlobClass). c.loop-c.pieces.items ++ Class k ∷ []) class in
    record {
      text = search rules;
      pieces = ap (λ (l : List GlobPiece). l ++ pieces_from None (chars c.in-Some-cut_at_close.after.now)) pushed ∙ class_read c.loop-c.pieces.items _ _ _ _ _ parts none begins c.loop-c.invariant.pieces;
      unclosed = class_closes _ _ _ _ _ parts none begins c.loop-c.invariant.unclosed;
      within = omega (arith, c.in-Some-cut_at_close.ensures.shorter, c.in-Some.ensures.shorter);
    }
