use Rattle.std.proofs.Common.{ℕ, List, [], None, cond, sym, ◌∙◌, ap}
use Rattle.std.specs.Prelude.{string_bytes}
use Rattle.std.specs.Option.{option_map_or}
use Rattle.std.specs.Str.{bytes_eq}
use Rattle.std.proofs.lemmas.Map.Text.{hash_map_updates_text}
use Rattle.url_maps.specs.Claims.{Table, claimants}
use Rattle.url_maps.proofs.ClaimLemmas.{claimants_shown, took_claims, took_within}
use Rattle.url_maps.proofs.claims.Claims.take.Goals as goal
use Rattle.url_maps.proofs.claims.Claims.take.Goals.{in-Some, in-None}

pub returns-clause-value : goal.returns-clause-value
returns-clause-value c =
    let shown = sym (claimants_shown string_bytes c.self.inside.table.entries c.args.text.now) ∙ ap (λ (v : Table). claimants v.rows c.args.text.now) c.self.view_is in
    elim c.match-swap_remove.branch [
      | in-Some w ↦ w.result-is ∙ ap (λ o. option_map_or (λ paths. paths) o []) w.in-Some.ensures.value ∙ shown
      | in-None w ↦ w.result-is ∙ w.new.ensures ∙ ap (λ o. option_map_or (λ paths. paths) o []) w.in-None.ensures.value ∙ shown
    ]

pub returns-clause-rest : goal.returns-clause-rest
returns-clause-rest c = λ t.
    let text = c.args.text.now in
    took_claims string_bytes c.self.inside.table.entries c.swap_remove.new.self.entries text
    (λ (q : List ℕ). hash_map_updates_text text c.self.inside.table c.swap_remove.new.self None c.swap_remove.ensures.updates q)
    t
    ∙ ap (λ (v : Table). cond (bytes_eq text t) [] (claimants v.rows t)) c.self.view_is

pub invariant_of-self : goal.invariant_of-self
invariant_of-self c =
    let text = c.args.text.now in
    took_within c.self.inside.longest _ _ text c.self.invariant
    (took_claims string_bytes c.self.inside.table.entries c.swap_remove.new.self.entries text
    (λ (q : List ℕ). hash_map_updates_text text c.self.inside.table c.swap_remove.new.self None c.swap_remove.ensures.updates q))
