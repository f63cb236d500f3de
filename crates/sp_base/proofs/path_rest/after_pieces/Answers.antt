use Rattle.std.proofs.Common.{rules, ◌≡◌, ◌+◌, suc, drop, length, length-drop, lit<, arith, sym, ◌∙◌, ap, Some, None}
use Rattle.std.proofs.lemmas.Str.Pattern.{find_char}
use Rattle.sp_base.specs.Paths.{pieces}
use Rattle.sp_base.proofs.PathRest.{none_left, one_piece, other_pieces, passed_one}
use Rattle.sp_base.proofs.path_rest.after_pieces.Goals as goal

pub returns-in_default-clause-none : goal.returns-in_default-clause-none
returns-in_default-clause-none c =
    let rest = c.loop-passed.rest.now in
    none_left c.args.text.now rest c.loop-passed.passed c.args.n c.loop-passed.invariant.rest (one_piece rest (find_char 47 rest None c.in_default.ensures.cases (lit< tt))) c.loop-passed-test.true

pub loop-passed-preserved : goal.loop-passed-preserved
loop-passed-preserved c =
    let rest = c.loop-passed.rest.now in
    let at = c.in-Some.at in
    let h = find_char 47 rest (Some at) c.in-Some.ensures.cases (lit< tt) in
    let one : at + 1 ≡ suc at = omega arith in
    record {
      text = search rules;
      short = let size = length-drop (at + 1) rest in let same = ap length c.range_from-rest.ensures.value in omega (arith, size, same, c.loop-passed.invariant.short);
      rest = passed_one c.args.text.now rest c.range_from-rest.result.now c.loop-passed.passed c.loop-passed.invariant.rest
          (ap pieces (c.range_from-rest.ensures.value ∙ ap (λ n. drop n rest) one) ∙ sym (other_pieces rest at h.0 h.1 h.2));
    }
