use Rattle.std.proofs.Common.{map, subst, sym}
use Rattle.std.specs.Prelude.{string_bytes}
use Rattle.std.specs.Map.{lookup}
use Rattle.std.specs.Str.{bytes_eq}
use Rattle.resource_tree.specs.Patches.{patching_at}
use Rattle.url_maps.specs.Claims.{ClaimRows, Table, claimants}
use Rattle.url_maps.specs.Noting.{PutsLeaderFirst}
use Rattle.url_maps.proofs.LeaderLemmas.{none_led, row_claims}
use Rattle.url_maps.proofs.claims.Claims.put_leaders_first.Goals as goal

pub returns : goal.returns
returns c = λ t.
    let at = patching_at c.args.tree.now c.args.patch.now in
    subst (λ (rows : ClaimRows). PutsLeaderFirst at (claimants c.args.self.rows t) (claimants rows t)) (sym c.led.view_is)
    (subst (λ (v : Table). PutsLeaderFirst at (claimants v.rows t) (claimants c.in_ok-led.led t)) c.self.view_is (row_claims at (lookup (bytes_eq t) (map (λ e. (string_bytes e.0, e.1)) c.self.inside.table.entries)) (lookup (bytes_eq t) c.in_ok-led.led) (c.in_ok-led.ensures t)))

pub invariant_of-result : goal.invariant_of-result
invariant_of-result c = λ t long.
    let at = patching_at c.args.tree.now c.args.patch.now in
    let rows : ClaimRows = map (λ e. (string_bytes e.0, e.1)) c.self.inside.table.entries in
    none_led at (claimants rows t) (claimants (map (λ e. (string_bytes e.0, e.1)) c.led.inside.rows.entries) t)
    (subst (λ (new : ClaimRows). PutsLeaderFirst at (claimants rows t) (claimants new t)) (sym c.led.view_is) (row_claims at (lookup (bytes_eq t) rows) (lookup (bytes_eq t) c.in_ok-led.led) (c.in_ok-led.ensures t))) (c.self.invariant t long)
