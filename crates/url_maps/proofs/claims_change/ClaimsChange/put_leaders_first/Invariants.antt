use Rattle.std.proofs.Common.{◌≡◌, ◌++◌, length, map}
use Rattle.std.specs.Prelude.{string_bytes}
use Rattle.resource_tree.specs.Patches.{patching_at}
use Rattle.url_maps.specs.Claims.{ClaimRows}
use Rattle.url_maps.specs.Noting.{LeadsRows}
use Rattle.url_maps.proofs.claims_change.ClaimsChange.put_leaders_first.Given as goal

abbrev pub invariant-loop-text : goal.invariant-loop-text
invariant-loop-text l = (done : ClaimRows) × (l.fn.self ≡ map (λ e. (string_bytes e.0, e.1)) l.rows.entries ++ done) × LeadsRows (patching_at l.tree l.patch) done l.change

abbrev pub decreases-loop-text : goal.decreases-loop-text
decreases-loop-text l = length l.rows.entries
