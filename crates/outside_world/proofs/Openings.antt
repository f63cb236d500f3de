-- Which connections are open after an entry more, and which are left.
use Rattle.std.proofs.Common.{◌≡◌, ◌≤◌, ◌<◌, ◌+◌, ◌++◌, ◌==◌, ◌||◌, ◌&&◌, ℕ, Bool, true, false, not, cond, IsTrue, List, [], ◌∷◌, length, refl, sym, ◌∙◌, ap, arith}
use Rattle.std.proofs.lemmas.Bool.{true≢false, eqb-true}
use Rattle.std.proofs.lemmas.List.{length-append}
use Rattle.std.proofs.lemmas.Map.Views.{any-filter_same}
use Rattle.std.specs.List.{filter}
use Rattle.connection_ids.specs.Ids.{ConnectionId}
use Rattle.outside_world.specs.declared.world.WorldEntry.{WorldEntry}
use Rattle.outside_world.specs.declared.world.WorldEntry.TheVariants.{Shut}
use Rattle.outside_world.specs.Worlds.{open_after, open_after_all, is_connected}
use Rattle.outside_world.specs.Comings.{has_connection, KeepsRoom}

-- the connections but for one
abbrev pub others : ConnectionId → List ConnectionId → List ConnectionId
others d connections = filter (λ e. not (e == d)) connections

pub open_more : (c : ConnectionId) (was : Bool) (log : List WorldEntry) (entry : WorldEntry) → open_after_all c was (log ++ entry ∷ []) ≡ open_after c (open_after_all c was log) entry
open_more c was [] entry = refl
open_more c was (e ∷ log) entry = open_more c (open_after c was e) log entry

pub few_others : (d : ConnectionId) (connections : List ConnectionId) → length (others d connections) ≤ length connections
few_others d [] = omega arith
few_others d (e ∷ connections) =
    let rest = few_others d connections in
    elim (e == d) as (λ b. length (cond (not b) (e ∷ others d connections) (others d connections)) ≤ length (e ∷ connections)) [
      | true ↦ omega arith
      | false ↦ omega arith
    ]

pub fewer_others : (d : ConnectionId) (connections : List ConnectionId) → IsTrue (has_connection d connections) → length (others d connections) < length connections
fewer_others d [] h = absurd (true≢false (sym h))
fewer_others d (e ∷ connections) h =
    let few = few_others d connections in
    let rest = fewer_others d connections in
    elim (e == d) as (λ b. IsTrue (b || has_connection d connections) → length (cond (not b) (e ∷ others d connections) (others d connections)) < length (e ∷ connections)) [
      | true ↦ λ h. omega arith
      | false ↦ λ h. let less = rest h in omega arith
    ] h

not_turned : (b was : Bool) → (not b && was) ≡ cond b false was
not_turned true was = refl
not_turned false was = refl

turned : (c d : ℕ) → (c == d) ≡ (d == c)
turned c d = grind arith

pub among_others : (c d : ConnectionId) (connections : List ConnectionId) → has_connection c (others d connections) ≡ cond (d == c) false (has_connection c connections)
among_others c d connections =
    any-filter_same (λ e. e == c) (λ e. not (e == d)) (not (c == d)) (λ e h. ap (λ x. not (x == d)) (eqb-true e c h)) connections
    ∙ not_turned (c == d) (has_connection c connections)
    ∙ ap (λ b. cond b false (has_connection c connections)) (turned c d)

-- room for an entry of each connection is kept where an entry is added and the connections follow it
pub keeps_pushed : (capacity most : ℕ) (log after : List WorldEntry) (entry : WorldEntry) (connections left : List ConnectionId) → KeepsRoom capacity log connections
    → after ≡ log ++ entry ∷ [] → length log + (length connections + 2) ≤ most → length left ≤ length connections + 1
    → ((c : ConnectionId) → has_connection c left ≡ open_after c (has_connection c connections) entry) → KeepsRoom most after left
keeps_pushed capacity most log after entry connections left keeps is room few follows = record {
  listed = λ c. ap (λ l. is_connected l c) is ∙ open_more c false log entry ∙ ap (λ b. open_after c b entry) (keeps.listed c) ∙ sym (follows c);
  room = let longer = ap length is ∙ length-append log (entry ∷ []) in omega arith;
}

-- where an open connection is taken out, its room is used
pub keeps_shut : (capacity most : ℕ) (c : ConnectionId) (log after : List WorldEntry) (connections left : List ConnectionId) → KeepsRoom capacity log connections
    → after ≡ log ++ Shut c ∷ [] → most ≡ capacity → length left < length connections
    → ((d : ConnectionId) → has_connection d left ≡ cond (c == d) false (has_connection d connections)) → KeepsRoom most after left
keeps_shut capacity most c log after connections left keeps is same fewer follows = record {
  listed = λ d. ap (λ l. is_connected l d) is ∙ open_more d false log (Shut c) ∙ ap (λ b. cond (c == d) false b) (keeps.listed d) ∙ sym (follows d);
  room = let longer = ap length is ∙ length-append log (Shut c ∷ []) in let before = keeps.room in omega arith;
}
