use Rattle.std.proofs.Common.{length}
use denote.Text.{Utf8}
use denote.Shadow.{shadow}
use Rattle.std.specs.Str.{chars}
use Rattle.regex_rules.specs.Trees.{tree_of}
use Rattle.regex_rules.proofs.KeptLemmas.{Kept}
use Rattle.regex_rules.proofs.positions.Positions.is_match.Given as goal

abbrev pub invariant-loop-c : goal.invariant-loop-c
invariant-loop-c l = shadow (Utf8 l.rest) × Kept (tree_of l.places) (chars l.text) (chars l.rest) l.ends

abbrev pub decreases-loop-c : goal.decreases-loop-c
decreases-loop-c l = length l.rest
