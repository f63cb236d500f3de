use Rattle.std.proofs.Common.{◌∙◌, ◌++◌, ◌∷◌, [], ap, sym, List, ℕ, Bor, drop, map, take}
use Rattle.std.proofs.lemmas.List.{append_assoc, drop-map, take-map, take_rest}
use Rattle.tree_draft.proofs.kid_list.copied_with.Goals as goal

pub returns : goal.returns
returns c =
    let now = λ (w : Bor (List ℕ)). w.now in
    let names = c.args.names.now in
    let place = c.args.place in
    let name = c.args.name.now in
    c.in_ok-push_copies.ensures
    ∙ ap (λ (l : List (Bor (List ℕ))). c.push.new.self ++ map now l) (take_rest names place)
    ∙ ap (λ (l : List (List ℕ)). l ++ map now (drop place names)) (c.in_ok-push.ensures.ok ∙ ap (λ (l : List (List ℕ)). l ++ c.in_ok-of.field-0 ∷ []) c.in_ok-list.ensures ∙ ap (λ (n : List ℕ). map now (take place names) ++ n ∷ []) c.in_ok-of.ensures)
    ∙ append_assoc (map now (take place names)) (name ∷ []) (map now (drop place names))
    ∙ ap (λ l. l ++ name ∷ map now (drop place names)) (sym (take-map now place names))
    ∙ ap (λ l. take place (map now names) ++ name ∷ l) (sym (drop-map now place names))
