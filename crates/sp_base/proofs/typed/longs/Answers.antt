use Rattle.std.proofs.Common.{◌≡◌, ◌<◌, ◌++◌, ◌∷◌, [], is_none, map, length, get_or, pos, unwrap_or, Some, None, sym, ◌∙◌, ap, arith, Ok}
use Rattle.std.proofs.lemmas.List.{take_all}
use Rattle.std.proofs.Common.{to_z, of_z, w64, rules}
use Rattle.std.proofs.lemmas.Int.{to_z-of_z}
use borrow.Author.Count.{below_more}
use Rattle.sp_base.specs.Typed.{number_of, longs_of}
use Rattle.sp_base.proofs.TypedLemmas.{longs_fail, longs_all, one_more, item_is}
use Rattle.sp_base.proofs.typed.longs.Goals as goal

pub returns-in-None-clause-err : goal.returns-in-None-clause-err
returns-in-None-clause-err c = λ _.
    let words = c.as_slice-word-items.result.now in
    let here = item_is words c.loop-place.place c.word-item.result (omega arith) c.word-item.is in
    let none : number_of (get_or words c.loop-place.place []) ≡ None = ap number_of (here ∙ sym c.text.ensures) ∙ sym c.in-None.ensures in
    let lt : c.loop-place.place < length words = omega arith in
    ap longs_of (sym c.as_slice-word-items.ensures) ∙ longs_fail words c.loop-place.place lt c.loop-place.invariant.passed none

pub loop-place-preserved : goal.loop-place-preserved
loop-place-preserved c =
    let words = c.as_slice-word-items.result.now in
    let lt : c.loop-place.place < length words = omega arith in
    let here = item_is words c.loop-place.place c.word-item.result lt c.word-item.is in
    let some : number_of (get_or words c.loop-place.place []) ≡ Some c.in-Some.n = ap number_of (here ∙ sym c.text.ensures) ∙ sym c.in-Some.ensures in
    let same : to_z w64 (of_z w64 c.in-Some.n) ≡ c.in-Some.n = to_z-of_z w64 c.in-Some.n (search rules) in
    record {
      list = c.in_ok-push-in-Some.ensures.ok ∙ ap (λ n. c.loop-place.list ++ n ∷ []) same
          ∙ ap (λ list. list ++ c.in-Some.n ∷ []) c.loop-place.invariant.list ∙ sym (one_more words c.loop-place.place c.in-Some.n lt some);
      passed = below_more _ _ c.loop-place.invariant.passed (ap is_none some);
    }

pub returns-clause-ok : goal.returns-clause-ok
returns-clause-ok c =
    let words = c.as_slice-word-items.result.now in
    ap longs_of (sym c.as_slice-word-items.ensures)
    ∙ longs_all words (λ k lt. c.loop-place.invariant.passed k (omega (arith, lt)))
    ∙ ap Ok (ap (map (λ word. unwrap_or (number_of word) (pos 0))) (sym (take_all c.loop-place.place words (omega arith))) ∙ sym c.loop-place.invariant.list)
