use Rattle.std.proofs.Common.{◌≡◌, [], ap, length, ◌∙◌}
use Rattle.front.specs.Caches.{CacheParts, flying_of}
use Rattle.front.proofs.RestartLemmas.{no-tickets, none-flies}
use Rattle.front.proofs.cache.Cache.end.Goals as goal

pub destroy_empty-requires : goal.destroy_empty-requires
destroy_empty-requires c =
    let none : flying_of c.self.inside.flights.items ≡ [] = ap (λ (parts : CacheParts). parts.flying) c.self.view_is ∙ ap (λ (parts : CacheParts). parts.flying) c.in_default.ensures.same ∙ none-flies c.loop.self.flying c.in_default.ensures.none in
    c.self.inside.flights.ok.0 ∙ ap length (no-tickets c.self.inside.flights.items none)
