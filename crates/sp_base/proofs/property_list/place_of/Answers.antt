use Rattle.std.proofs.Common.{◌+◌, ◌-◌, ◌/◌, ◌<◌, length, sym, ◌∙◌, ap, arith, List, ℕ}
use Rattle.sp_base.specs.Properties.{by_name}
use Rattle.sp_base.proofs.PropertyLemmas.{found_at, before_more, after_from}
use Rattle.sp_base.proofs.property_list.place_of.Goals as goal

pub returns-in-Equal-clause-found : goal.returns-in-Equal-clause-found
returns-in-Equal-clause-found c =
    let middle = c.loop-low.low + (c.loop-low.high - c.loop-low.low) / 2 in
    let lt : middle < length c.args.props.now = omega (arith, c.loop-low.invariant.within, c.loop-low-test.true) in
    found_at c.args.name.now c.args.props.now middle c.index-props-middle.result c.requires lt c.index-props-middle.is
    (ap (by_name c.args.name.now) (ap (λ (p : List ℕ × _). p.0) c.index-props-middle.is ∙ sym c.text.ensures) ∙ sym c.in-Equal.ensures)

pub loop-low-preserved-in-Less : goal.loop-low-preserved-in-Less
loop-low-preserved-in-Less c =
    let middle = c.loop-low.low + (c.loop-low.high - c.loop-low.low) / 2 in
    let lt : middle < length c.args.props.now = omega (arith, c.loop-low.invariant.within, c.loop-low-test.true) in
    record {
      ordered = omega arith;
      within = omega (arith, lt);
      before = c.loop-low.invariant.before;
      remainder = after_from c.args.name.now c.args.props.now middle c.index-props-middle.result c.requires lt c.index-props-middle.is
          (ap (by_name c.args.name.now) (ap (λ (p : List ℕ × _). p.0) c.index-props-middle.is ∙ sym c.text.ensures) ∙ sym c.in-Less.ensures);
    }

pub loop-low-preserved : goal.loop-low-preserved
loop-low-preserved c =
    let middle = c.loop-low.low + (c.loop-low.high - c.loop-low.low) / 2 in
    let lt : middle < length c.args.props.now = omega (arith, c.loop-low.invariant.within, c.loop-low-test.true) in
    record {
      ordered = omega (arith, c.loop-low-test.true);
      within = c.loop-low.invariant.within;
      before = before_more c.args.name.now c.args.props.now middle c.index-props-middle.result c.requires lt c.index-props-middle.is
          (ap (by_name c.args.name.now) (ap (λ (p : List ℕ × _). p.0) c.index-props-middle.is ∙ sym c.text.ensures) ∙ sym c.in-Greater.ensures);
      remainder = c.loop-low.invariant.remainder;
    }
