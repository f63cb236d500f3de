use Rattle.std.proofs.Common.{◌≡◌, ◌+◌, ◌-◌, ◌∙◌, ℕ, List, Some, ap, drop, position, sym, take, arith}
use Rattle.std.proofs.lemmas.Bool.Decides.{nat_tests}
use Rattle.std.proofs.lemmas.List.{take_rest}
use Rattle.std.proofs.lemmas.List.Quantifiers.{position-Some}
use Rattle.std.proofs.lemmas.Str.{IsCharBoundary-before_ascii}
use Rattle.std.specs.Option.{option_map}
use Rattle.std.specs.Str.{IsCharBoundary}
use Rattle.http_front.specs.Targets.{is_question_mark}
use Rattle.http_front.proofs.TargetLemmas.{before_place, before_none}
use Rattle.http_front.proofs.target.cut.Goals as goal

at_mark : (target : List ℕ) (at : ℕ) → Some at ≡ position is_question_mark target → IsCharBoundary target at
at_mark target at e =
    let found = position-Some is_question_mark target at 0 (sym e) in
    IsCharBoundary-before_ascii target at found.0 (grind (arith, nat_tests))

pub range-requires-clause-end_boundary : goal.range-requires-clause-end_boundary
range-requires-clause-end_boundary c = at_mark c.args.target.now c.in-Some.at c.in-Some.ensures

pub returns-in-Some-clause-path : goal.returns-in-Some-clause-path
returns-in-Some-clause-path c =
    let from_front : c.in-Some.at - 0 ≡ c.in-Some.at = omega arith in
    c.range.ensures.value ∙ ap (λ n. take n c.args.target.now) from_front ∙ before_place is_question_mark c.args.target.now c.in-Some.at c.in-Some.ensures

pub returns-in-Some-clause-query : goal.returns-in-Some-clause-query
returns-in-Some-clause-query c =
    let bytes = c.as_bytes.result.now in
    ap Some (take_rest bytes (c.in-Some.at + 1) ∙ ap (drop (c.in-Some.at + 1)) c.as_bytes.ensures.value) ∙ ap (option_map (λ at. drop (at + 1) c.args.target.now)) c.in-Some.ensures

pub returns-in-None-clause-path : goal.returns-in-None-clause-path
returns-in-None-clause-path c = before_none is_question_mark c.args.target.now c.in-None.ensures

pub returns-in-None-clause-query : goal.returns-in-None-clause-query
returns-in-None-clause-query c = ap (option_map (λ at. drop (at + 1) c.args.target.now)) c.in-None.ensures
