use Rattle.std.proofs.Common.{◌≡◌, ◌≤◌, ℕ, List, length, map}
use Rattle.std.specs.Prelude.{string_bytes}
use Rattle.url_maps.specs.Changes.{claimants_over}
use Rattle.url_maps.proofs.claims.Claims.change.Given as goal

abbrev pub invariant-loop-text : goal.invariant-loop-text
invariant-loop-text l = record {
  rows : (t : List ℕ) → claimants_over (map (λ e. (string_bytes e.0, e.1)) l.rows.entries) l.self.rows t ≡ claimants_over l.fn.change l.fn.self.rows t;
  room : length l.rows.entries ≤ l.self.room;
}

abbrev pub decreases-loop-text : goal.decreases-loop-text
decreases-loop-text l = length l.rows.entries
