use Rattle.std.proofs.Common.{◌≡◌, true, drop, length, take}
use Rattle.regex_rules.specs.Fronts.{may_cut}
use denote.Text.{Utf8}
use denote.Shadow.{shadow}
use Rattle.url_maps.specs.Search.{HasNoneBeyond}
use Rattle.url_maps.proofs.index.MapIndex.step_knowing.Given as goal

abbrev pub invariant-loop-pair : goal.invariant-loop-pair
invariant-loop-pair l = record {
  text : shadow (Utf8 l.prefix);
  prefix : l.prefix ≡ take (length l.prefix) l.text;
  cut : may_cut (drop (length l.prefix) l.text) ≡ true;
  passed : HasNoneBeyond l.tree l.asked l.text (length l.prefix);
}

abbrev pub decreases-loop-pair : goal.decreases-loop-pair
decreases-loop-pair l = length l.prefix
