-- One turn more.
use Rattle.std.proofs.Common.{◌≡◌, ◌<◌, ◌+◌, ◌-◌, ap, ℕ, suc, true, List, ◌++◌, Option, Some, None, refl, sym, ◌∙◌, subst, arith, ⊎_elim, inl, inr}
use Rattle.std.specs.Prelude.{if◌then◌else◌, option_and_then}
use Rattle.sp_base.specs.Paths.{is_path, path_or_none}
use Rattle.sp_base.proofs.PathTests.{path_before}
use Rattle.resource_tree.specs.Content.{Content, IsTree, node_at}
use Rattle.url_maps.specs.declared.answer.MapAnswer.{MapAnswer}
use Rattle.url_maps.specs.declared.answer.MapAnswer.TheVariants.{Inside, Away}
use Rattle.url_maps.specs.declared.pairs.Pair.{Pair}
use Rattle.url_maps.specs.Patterns.{Asked}
use Rattle.url_maps.specs.Pairs.{Decides, HasMapping, HasNoPair}
use Rattle.url_maps.specs.Turns.{Turns, leads, text_after}
use Rattle.url_maps.proofs.MappingLemmas.{some_path}

-- n - i turns are one and n - (i + 1) more
one_less : (n i : ℕ) → i < n → n - i ≡ suc (n - (i + 1))
one_less n i within = omega (arith, within)

module _ (tree : Content) (asked : Option Asked) (text : List ℕ) (n i : ℕ) (within : i < n) where
  pub turns_end : HasNoPair tree asked text → Turns tree (n - i) asked text (Inside text)
  turns_end none = subst (λ m. Turns tree m asked text (Inside text)) (sym (one_less n i within)) (inl (none, refl))

  pub turns_away : (at : ℕ) (pair : Pair) (status : ℕ) → Decides tree asked text at pair → pair.away ≡ Some status → Turns tree (n - i) asked text (Away status (text_after pair at text))
  turns_away at pair status decides away =
      subst (λ m. Turns tree m asked text (Away status (text_after pair at text))) (sym (one_less n i within))
      (inr (record {
        at = at;
        pair = pair;
        decides = decides;
        outcome = subst (λ a. leads a (text_after pair at text) (Turns tree (n - (i + 1)) None (text_after pair at text)) (Away status (text_after pair at text))) (sym away) refl;
      }))

  pub turns_go_on : (at : ℕ) (pair : Pair) (answer : MapAnswer) → Decides tree asked text at pair → pair.away ≡ None → Turns tree (n - (i + 1)) None (text_after pair at text) answer → Turns tree (n - i) asked text answer
  turns_go_on at pair answer decides inside further =
      subst (λ m. Turns tree m asked text answer) (sym (one_less n i within))
      (inr (record {
        at = at;
        pair = pair;
        decides = decides;
        outcome = subst (λ a. leads a (text_after pair at text) (Turns tree (n - (i + 1)) None (text_after pair at text)) answer) (sym inside) further;
      }))

pub turns_over : (tree : Content) (asked : Option Asked) (text : List ℕ) (n i : ℕ) → n - i ≡ 0 → Turns tree (n - i) asked text (Inside text)
turns_over tree asked text n i none = subst (λ m. Turns tree m asked text (Inside text)) (sym none) refl

-- ---- a host node whose path is too long has no mappings

-- where the path of a host node is none, it has no mappings
pub no_host_node : (tree : Content) → IsTree (node_at tree) → (host_node : List (List ℕ)) → path_or_none host_node ≡ None → (prefix : List ℕ) (pair : Pair) → HasMapping tree (Some host_node) prefix pair → ⊥
no_host_node tree good host_node none prefix pair m =
    let whole : is_path (host_node ++ m.below) ≡ true = (good.nodes (host_node ++ m.below) m.node m.there).is_a_path in
    let there : path_or_none host_node ≡ Some host_node = ap (λ b. if b then Some host_node else None) (path_before host_node m.below whole) in
    let both : Some host_node ≡ None = sym there ∙ none in
    cc

pub some_host : (o : Option (List (List ℕ))) (host_node : List (List ℕ)) → Some host_node ≡ option_and_then path_or_none o → o ≡ Some host_node
some_host None host_node e = cc
some_host (Some path) host_node e = ap (λ p. Some p) (sym (some_path host_node path (sym e)))

pub no_host : (tree : Content) → IsTree (node_at tree) → (o : Option (List (List ℕ))) → None ≡ option_and_then path_or_none o → (prefix : List ℕ) (pair : Pair) → HasMapping tree o prefix pair → ⊥
no_host tree good None none prefix pair has = has
no_host tree good (Some host_node) none prefix pair has = no_host_node tree good host_node (sym none) prefix pair has
