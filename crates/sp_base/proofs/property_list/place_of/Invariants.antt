use Rattle.std.proofs.Common.{◌-◌, ◌≤◌, T, length, take, drop}
use Rattle.std.specs.FinMap.Entries.{below_all}
use Rattle.sp_base.specs.Properties.{by_name}
use Rattle.sp_base.specs.PropertyPlaces.{all_before}
use Rattle.sp_base.proofs.property_list.place_of.Given as goal

abbrev pub invariant-loop-low : goal.invariant-loop-low
invariant-loop-low l = record {
  ordered : l.low ≤ l.high;
  within : l.high ≤ length l.props;
  before : all_before l.name (take l.low l.props);
  remainder : T (below_all by_name l.name (drop l.high l.props));
}

abbrev pub decreases-loop-low : goal.decreases-loop-low
decreases-loop-low l = l.high - l.low
