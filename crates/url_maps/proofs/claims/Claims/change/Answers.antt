use Rattle.std.proofs.Common.{◌≡◌, ◌+◌, ◌∷◌, [], ◌++◌, length, length-append, map, sym, ◌∙◌, ap, arith}
use Rattle.std.proofs.lemmas.List.{nil_from_length}
use Rattle.std.specs.Prelude.{option_to_list, string_bytes}
use Rattle.url_maps.specs.Changes.{claimants_over}
use Rattle.url_maps.proofs.ChangeLemmas.{over_last}
use Rattle.url_maps.proofs.LeaderLemmas.{none_left}
use Rattle.url_maps.proofs.claims.Claims.change.Goals as goal

pub loop-text-preserved : goal.loop-text-preserved
loop-text-preserved c =
    let left = c.pop.new.self.entries in
    let entries : c.loop-text.rows.entries ≡ left ++ (c.in-Some.text, c.in-Some.paths) ∷ [] = c.pop.ensures.entries ∙ ap (λ o. left ++ option_to_list o) c.in-Some.is in
    let longer : length c.loop-text.rows.entries ≡ length left + 1 = ap length entries ∙ length-append left ((c.in-Some.text, c.in-Some.paths) ∷ []) in
    record {
      rows = λ t.
          over_last string_bytes left c.in-Some.text c.in-Some.paths c.loop-text.self.rows c.put_in_room.new.self.rows c.put_in_room.ensures.rows t
          ∙ ap (λ es. claimants_over (map (λ e. (string_bytes e.0, e.1)) es) c.loop-text.self.rows t) (sym entries) ∙ c.loop-text.invariant.rows t;
      room = omega (arith, longer, c.put_in_room.ensures.room, c.loop-text.invariant.room);
    }

pub returns : goal.returns
returns c = λ t.
    let none = nil_from_length c.loop-text.rows.entries (none_left c.pop.result (length c.loop-text.rows.entries) c.pop.ensures.found.1 c.in_default.is) in
    sym (ap (λ es. claimants_over (map (λ e. (string_bytes e.0, e.1)) es) c.loop-text.self.rows t) none) ∙ c.loop-text.invariant.rows t
