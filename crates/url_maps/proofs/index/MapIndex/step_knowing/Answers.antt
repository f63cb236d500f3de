use Rattle.std.proofs.Common.{rules, ◌≡◌, ◌∙◌, ◌++◌, ℕ, List, Some, None, ap, subst, refl, length, drop}
use Rattle.sp_base.proofs.TextLemmas.{prefix_fits}
use Rattle.url_maps.specs.Search.{IsBest}
use Rattle.url_maps.specs.Turns.{target_ending}
use Rattle.url_maps.proofs.PairLemmas.{decides_here, prefix_cut, passed_all, passed_between, passed_prefix, shorter_prefix}
use Rattle.url_maps.proofs.index.MapIndex.step_knowing.Goals as goal

pub returns-in-Some : goal.returns-in-Some
returns-in-Some c =
    let tree = c.args.tree.now in
    let asked = c.args.asked.now in
    let text = c.args.text.now in
    let prefix = c.loop-pair.prefix.now in
    let pair = c.in-Some.pair in
    let inv = c.loop-pair.invariant in
    let rest_is : c.range_from-rest.result.now ≡ drop (length prefix) text = c.range_from-rest.ensures.value in
    record {
      at = length prefix;
      pair = pair;
      decides = decides_here tree asked text prefix pair inv.prefix (prefix_fits text prefix inv.prefix)
          (subst (λ (r : List ℕ). IsBest tree asked prefix r (Some pair)) rest_is (subst (IsBest tree asked prefix c.range_from-rest.result.now) c.in-Some.is c.in_ok-pair.ensures)) inv.passed;
      text_is = c.in_ok-text_after.ensures ∙ ap (λ r. pair.target ++ target_ending pair.kind r) rest_is;
      away_is = refl;
    }

pub loop-pair-preserved : goal.loop-pair-preserved
loop-pair-preserved c =
    let tree = c.args.tree.now in
    let asked = c.args.asked.now in
    let text = c.args.text.now in
    let prefix = c.loop-pair.prefix.now in
    let shorter = c.in-Some-shorter.less.now in
    let inv = c.loop-pair.invariant in
    let within = prefix_fits text prefix inv.prefix in
    let none = subst (λ (r : List ℕ). IsBest tree asked prefix r None) c.range_from-rest.ensures.value (subst (IsBest tree asked prefix c.range_from-rest.result.now) c.in_default.is c.in_ok-pair.ensures) in
    let passed = passed_prefix tree asked text prefix inv.prefix none inv.passed in
    record {
      text = search rules;
      prefix = shorter_prefix text prefix shorter inv.prefix c.in-Some-shorter.ensures.1 c.in-Some-shorter.ensures.0;
      cut = prefix_cut text prefix shorter inv.prefix within c.in-Some-shorter.ensures.0 c.in-Some-shorter.ensures.2;
      passed = passed_between tree asked text prefix (length shorter) inv.prefix within passed c.in-Some-shorter.ensures.3;
    }

pub returns-in-None : goal.returns-in-None
returns-in-None c =
    let tree = c.args.tree.now in
    let asked = c.args.asked.now in
    let text = c.args.text.now in
    let prefix = c.loop-pair.prefix.now in
    let inv = c.loop-pair.invariant in
    let none = subst (λ (r : List ℕ). IsBest tree asked prefix r None) c.range_from-rest.ensures.value (subst (IsBest tree asked prefix c.range_from-rest.result.now) c.in_default.is c.in_ok-pair.ensures) in
    passed_all tree asked text prefix inv.prefix (prefix_fits text prefix inv.prefix) (passed_prefix tree asked text prefix inv.prefix none inv.passed) c.in-None.ensures
