use Rattle.std.proofs.Common.{ℕ, List, Some, cond, ◌∙◌, ap, arith}
use Rattle.std.specs.Prelude.{string_bytes}
use Rattle.std.specs.Map.{lookup}
use Rattle.std.specs.Str.{bytes_eq}
use Rattle.std.proofs.lemmas.Map.Text.{hash_map_updates_text}
use Rattle.url_maps.specs.Claims.{Table, claimants}
use Rattle.url_maps.proofs.ClaimLemmas.{set_claims, set_within}
use Rattle.url_maps.proofs.claims.Claims.set.Goals as goal

pub returns : goal.returns
returns c = λ t.
    let text = c.args.text.now in
    let paths = c.args.paths in
    set_claims string_bytes c.self.inside.table.entries c.insert.new.self.entries text paths
    (λ (q : List ℕ). hash_map_updates_text (string_bytes c.in_ok-key.key) c.self.inside.table c.insert.new.self (Some paths) c.in_ok-insert.ensures.updates q
    ∙ ap (λ b. cond (bytes_eq b q) (Some paths) (lookup (λ k. bytes_eq q (string_bytes k)) c.self.inside.table.entries)) c.in_ok-key.ensures.ok)
    t
    ∙ ap (λ (v : Table). cond (bytes_eq text t) paths (claimants v.rows t)) c.self.view_is

pub invariant_of-self-2 : goal.invariant_of-self-2
invariant_of-self-2 c =
    let text = c.args.text.now in
    let paths = c.args.paths in
    set_within c.self.inside.longest c.max-self-inside.result _ _ text paths c.self.invariant (omega (arith, c.max-self-inside.ensures)) (omega (arith, c.max-self-inside.ensures))
    (set_claims string_bytes c.self.inside.table.entries c.insert.new.self.entries text paths
    (λ (q : List ℕ). hash_map_updates_text (string_bytes c.in_ok-key.key) c.self.inside.table c.insert.new.self (Some paths) c.in_ok-insert.ensures.updates q
    ∙ ap (λ b. cond (bytes_eq b q) (Some paths) (lookup (λ k. bytes_eq q (string_bytes k)) c.self.inside.table.entries)) c.in_ok-key.ensures.ok))
