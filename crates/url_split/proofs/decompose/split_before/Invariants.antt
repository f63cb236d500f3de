use Rattle.std.proofs.Common.{◌≡◌, ◌≤◌, ℕ, List, take, length}
use denote.Text.{Utf8}
use denote.Shadow.{shadow}
use Rattle.url_split.specs.Split.{Leads}
use Rattle.url_split.proofs.decompose.split_before.Given as goal

abbrev pub invariant-loop-at : goal.invariant-loop-at
invariant-loop-at g l = record {
  text : shadow (Utf8 l.prefix);
  prefix : l.prefix ≡ take (length l.prefix) l.text;
  passed : (k : ℕ) (path : List (List ℕ)) → length l.prefix ≤ k → Leads (g.K.Known.known l.known) l.text k path → ⊥;
}

abbrev pub decreases-loop-at : goal.decreases-loop-at
decreases-loop-at g l = length l.prefix
