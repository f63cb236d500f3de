use Rattle.std.proofs.Common.{◌≡◌, ◌-◌, ◌∷◌, ◌++◌, [], map, take, vec_len, append-nil, append_assoc, sym, ap, ◌∙◌, arith}
use Rattle.std.specs.Prelude.{option_to_list}
use Rattle.std.specs.FinMap.Entries.{put}
use Rattle.resource_tree.specs.Content.{by_path}
use Rattle.content_json.specs.declared.part.Placed.{Placed}
use Rattle.content_json.specs.ContentOf.{map_of}
use Rattle.content_json.specs.Parts.{entry_of}
use Rattle.content_json.proofs.MapLemmas.{insert_is_put}
use Rattle.content_json.proofs.from_tokens.planted.Goals as goal

pub nodes-preserved : goal.nodes-preserved
nodes-preserved c =
    let l = c.nodes in
    let inv = l.invariant in
    let rest = c.pop.new.self.items in
    let placed : Placed = c.in-Some.placed in
    let last : l.below.items ≡ rest ++ placed ∷ [] = c.pop.ensures.items ∙ ap (λ o. rest ++ option_to_list o) c.in-Some.is in (
      placed ∷ inv.0,
      inv.1 ∙ ap (λ ps. ps ++ inv.0) last ∙ append_assoc rest (placed ∷ []) inv.0,
      c.in_ok-insert.ensures.ok ∙ insert_is_put l.nodes placed.path placed.node ∙ ap (put by_path placed.path placed.node) inv.2,
    )

pub returns : goal.returns
returns c =
    let l = c.nodes in
    let inv = l.invariant in
    let top = c.args.sprout.top in
    let none : vec_len l.below - 1 ≡ 0 = omega (arith, c.in_default.ensures.cases.0) in
    let empty : l.below.items ≡ [] = c.in_default.ensures.items ∙ append-nil c.pop.new.self.items ∙ c.in_default.ensures.rest ∙ ap (λ n. take n l.below.items) none in
    let all : c.args.sprout.below.items ≡ inv.0 = inv.1 ∙ ap (λ ps. ps ++ inv.0) empty in
    c.in_ok-insert-2.ensures.ok ∙ insert_is_put l.nodes top.path top.node ∙ ap (put by_path top.path top.node) (inv.2 ∙ ap (λ ps. map_of (map entry_of ps)) (sym all))
