use Rattle.std.proofs.Common.{◌<◌, ℕ, List, [], None, Some, cond, length, sym, ◌∙◌, ap, subst, arith}
use Rattle.std.specs.Prelude.{string_bytes}
use Rattle.std.specs.Str.{bytes_eq}
use Rattle.std.specs.HashMap.{spare}
use Rattle.std.proofs.lemmas.Bool.{eqb-true}
use Rattle.std.proofs.lemmas.List.{nil_from_length}
use Rattle.std.proofs.lemmas.Map.Text.{hash_map_updates_text}
use Rattle.sp_base.proofs.ResultLemmas.{OnOk-at_ok}
use Rattle.url_maps.specs.Claims.{Table, claimants}
use Rattle.url_maps.proofs.ClaimLemmas.{set_claims, set_within, took_claims, took_within}
use Rattle.url_maps.proofs.claims.Claims.put_in_room.Goals as goal

pub invariant_of-self : goal.invariant_of-self
invariant_of-self c =
    let text = c.as_str.result.now in
    took_within c.self.inside.longest _ _ text c.self.invariant
    (took_claims string_bytes c.self.inside.table.entries c.swap_remove.new.self.entries text (λ (q : List ℕ). hash_map_updates_text text c.self.inside.table c.swap_remove.new.self None c.swap_remove.ensures.updates q))

pub returns-then-is_empty-clause-rows : goal.returns-then-is_empty-clause-rows
returns-then-is_empty-clause-rows c = λ t.
    let text = c.as_str.result.now in
    took_claims string_bytes c.self.inside.table.entries c.swap_remove.new.self.entries text (λ (q : List ℕ). hash_map_updates_text text c.self.inside.table c.swap_remove.new.self None c.swap_remove.ensures.updates q) t
    ∙ ap (λ (v : Table). cond (bytes_eq text t) [] (claimants v.rows t)) c.self.view_is
    ∙ ap (λ s. cond (bytes_eq s t) [] (claimants c.args.self.now.rows t)) c.as_str.ensures.value
    ∙ ap (λ p. cond (bytes_eq (string_bytes c.args.text) t) p (claimants c.args.self.now.rows t)) (sym (nil_from_length c.args.paths (eqb-true (length c.args.paths) 0 (sym c.if-is_empty.ensures))))

pub invariant_of-self-else-is_empty : goal.invariant_of-self-else-is_empty
invariant_of-self-else-is_empty c =
    let there : 0 < spare c.self.inside.table = subst (λ (v : Table). 0 < v.room) (sym c.self.view_is) c.requires in
    let updates = OnOk-at_ok c.insert.result (c.insert.ensures.succeeds there) c.insert.ensures.updates in
    let text = string_bytes c.args.text in
    set_within c.self.inside.longest c.max-self-inside.result _ _ text c.args.paths c.self.invariant (omega (arith, c.max-self-inside.ensures)) (omega (arith, c.max-self-inside.ensures, c.len.ensures))
    (set_claims string_bytes c.self.inside.table.entries c.insert.new.self.entries text c.args.paths (λ (q : List ℕ). hash_map_updates_text text c.self.inside.table c.insert.new.self (Some c.args.paths) updates q))

pub returns-else-is_empty-clause-rows : goal.returns-else-is_empty-clause-rows
returns-else-is_empty-clause-rows c = λ t.
    let there : 0 < spare c.self.inside.table = subst (λ (v : Table). 0 < v.room) (sym c.self.view_is) c.requires in
    let updates = OnOk-at_ok c.insert.result (c.insert.ensures.succeeds there) c.insert.ensures.updates in
    let text = string_bytes c.args.text in
    set_claims string_bytes c.self.inside.table.entries c.insert.new.self.entries text c.args.paths (λ (q : List ℕ). hash_map_updates_text text c.self.inside.table c.insert.new.self (Some c.args.paths) updates q) t
    ∙ ap (λ (v : Table). cond (bytes_eq text t) c.args.paths (claimants v.rows t)) c.self.view_is
