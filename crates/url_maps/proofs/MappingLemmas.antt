-- From the path that a prefix names below a host node to its mapping, and back.
use Rattle.std.proofs.Common.{◌≡◌, ◌≤◌, ℕ, true, false, List, [], ◌∷◌, ◌++◌, Option, Some, None, Ok, Err, length, refl, sym, ◌∙◌, ap, subst, arith, length-append, ⊎_elim}
use Rattle.std.specs.Prelude.{nat_le, if◌then◌else◌}
use Rattle.std.specs.List.{list_all}
use Rattle.std.proofs.lemmas.Bool.{cases_Bool, false≢true, and_parts, and_from, leb-true}
use Rattle.std.proofs.lemmas.Bool.Decides.{nat_tests}
use Rattle.std.proofs.lemmas.List.{append-nil}
use Rattle.std.proofs.lemmas.List.Folds.{list_all-append}
use Rattle.sp_base.specs.PathTexts.{spelling_of}
use Rattle.std.specs.Result.{result_ok}
use Rattle.sp_base.specs.Paths.{is_path, path_of, path_or_none, seg_ok, text_of}
use Rattle.resource_tree.specs.declared.nodes.Node.{Node}
use Rattle.resource_tree.specs.Content.{Content, IsTree, node_at}
use Rattle.url_maps.specs.Mappings.{IsMapping, IsPlain, mapping_of}
use Rattle.url_maps.specs.declared.pairs.Pair.{Pair}
use Rattle.url_maps.specs.Search.{IsMappingOf, IsMappingPair, below_host_node, mapped_path}
use Rattle.url_maps.proofs.PathLemmas.{IsReadBack}

-- a text that reads as a path is the path's
abbrev pub IsSpelled : Type 0
IsSpelled = (text : List ℕ) (path : List (List ℕ)) → path_of text ≡ Ok path → text_of path ≡ text

-- the path that a prefix names below a host node
pub record Mapped (host_node : List (List ℕ)) (prefix : List ℕ) (path : List (List ℕ)) : Type 0 where
  pub below : List (List ℕ)
  pub path_is : path ≡ host_node ++ below
  pub text_is : prefix ≡ spelling_of below

below_text : (below : List (List ℕ)) (b c : ℕ) (text : List ℕ) → text_of below ≡ b ∷ c ∷ text → b ∷ c ∷ text ≡ spelling_of below
below_text [] b c text e = cc
below_text (s ∷ below) b c text e = sym e

pub some_path : (path whole : List (List ℕ)) → path_or_none whole ≡ Some path → path ≡ whole
some_path path whole is =
    ⊎_elim
    (λ (passes_it : is_path whole ≡ true). let e : Some whole ≡ Some path = sym (ap (λ b. if b then Some whole else None) passes_it) ∙ is in cc)
    (λ (fails : is_path whole ≡ false). let e : None ≡ Some path = sym (ap (λ b. if b then Some whole else None) fails) ∙ is in cc)
    (cases_Bool (is_path whole))

pub mapped_from : IsSpelled → (host_node path : List (List ℕ)) (prefix : List ℕ) → mapped_path host_node prefix ≡ Some path → Mapped host_node prefix path
mapped_from spelled host_node path [] e = let same : host_node ≡ path = cc in record { below = []; path_is = sym same ∙ sym (append-nil host_node); text_is = refl }
mapped_from spelled host_node path (b ∷ []) e = cc
mapped_from spelled host_node path (b ∷ c ∷ text) e =
    elim (path_of (b ∷ c ∷ text)) as (λ r. path_of (b ∷ c ∷ text) ≡ r → below_host_node host_node (result_ok r) ≡ Some path → Mapped host_node (b ∷ c ∷ text) path) [
      | Ok below ↦ λ is passes_it. record { below = below; path_is = some_path path (host_node ++ below) passes_it; text_is = below_text below b c text (spelled (b ∷ c ∷ text) below is) }
      | Err fault ↦ λ is fails. cc
    ] refl e

pub path_below : (host_node below : List (List ℕ)) → is_path (host_node ++ below) ≡ true → is_path below ≡ true
path_below host_node below valid =
    let parts = and_parts (list_all seg_ok (host_node ++ below)) (nat_le (length (host_node ++ below)) 64) valid in
    let segments = (and_parts (list_all seg_ok host_node) (list_all seg_ok below) (sym (list_all-append seg_ok host_node below) ∙ parts.0)).1 in
    let size : length (host_node ++ below) ≤ 64 = leb-true _ _ parts.1 in
    let fewer : length below ≤ 64 = omega (arith, size, length-append host_node below) in
    and_from (list_all seg_ok below) (nat_le (length below) 64) segments (grind (arith, nat_tests))

pub mapped_back : IsReadBack → (host_node below : List (List ℕ)) → is_path (host_node ++ below) ≡ true → mapped_path host_node (spelling_of below) ≡ Some (host_node ++ below)
mapped_back read host_node [] valid = ap (λ p. Some p) (sym (append-nil host_node))
mapped_back read host_node ([] ∷ below) valid = absurd (false≢true (and_parts false (list_all seg_ok below) (and_parts (list_all seg_ok ([] ∷ below)) (nat_le (length ([] ∷ below)) 64) (path_below host_node ([] ∷ below) valid)).0).0)
mapped_back read host_node ((c ∷ s) ∷ below) valid =
    ap (λ r. below_host_node host_node (result_ok r)) (read ((c ∷ s) ∷ below) (path_below host_node ((c ∷ s) ∷ below) valid)) ∙ ap (λ b. if b then Some (host_node ++ (c ∷ s) ∷ below) else None) valid

-- ---- mappings

pub mapping_from : (tree : Content) (host_node : List (List ℕ)) (prefix : List ℕ) (path : List (List ℕ)) (node : Node) (target : List ℕ) (away : Option ℕ) → Mapped host_node prefix path → node_at tree path ≡ Some node → IsPlain tree host_node path
    → mapping_of node ≡ Some (target, away) → IsMapping tree host_node prefix target away
mapping_from tree host_node prefix path node target away mapped there plain leads = record {
  below = mapped.below;
  text_is = mapped.text_is;
  node = node;
  there = ap (node_at tree) (sym mapped.path_is) ∙ there;
  plain = subst (IsPlain tree host_node) mapped.path_is plain;
  leads = leads;
}

-- the path of a mapping is the one that its prefix names
pub mapping_path : IsReadBack → (tree : Content) → IsTree (node_at tree) → (host_node : List (List ℕ)) (prefix target : List ℕ) (away : Option ℕ) → (m : IsMapping tree host_node prefix target away) → mapped_path host_node prefix ≡ Some (host_node ++ m.below)
mapping_path read tree good host_node prefix target away m = ap (mapped_path host_node) m.text_is ∙ mapped_back read host_node m.below (good.nodes (host_node ++ m.below) m.node m.there).is_a_path

pub mapping_at : IsReadBack → (tree : Content) → IsTree (node_at tree) → (host_node : List (List ℕ)) (prefix target : List ℕ) (away : Option ℕ) (path : List (List ℕ)) → mapped_path host_node prefix ≡ Some path → (m : IsMapping tree host_node prefix target away)
    → host_node ++ m.below ≡ path
mapping_at read tree good host_node prefix target away path is m = let e = mapping_path read tree good host_node prefix target away m in cc

-- no mapping where the prefix names no path below the host node
pub no_mapped_path : IsReadBack → (tree : Content) → IsTree (node_at tree) → (host_node : List (List ℕ)) (prefix target : List ℕ) (away : Option ℕ) → mapped_path host_node prefix ≡ None → IsMapping tree host_node prefix target away → ⊥
no_mapped_path read tree good host_node prefix target away none m = let e = mapping_path read tree good host_node prefix target away m in cc

-- nor where no node is there
pub no_mapped_node : IsReadBack → (tree : Content) → IsTree (node_at tree) → (host_node : List (List ℕ)) (prefix target : List ℕ) (away : Option ℕ) (path : List (List ℕ)) → mapped_path host_node prefix ≡ Some path → node_at tree path ≡ None
    → IsMapping tree host_node prefix target away → ⊥
no_mapped_node read tree good host_node prefix target away path is none m =
    let e : node_at tree path ≡ Some m.node = ap (node_at tree) (sym (mapping_at read tree good host_node prefix target away path is m)) ∙ m.there in cc

-- nor below a pattern
pub not_plain : IsReadBack → (tree : Content) → IsTree (node_at tree) → (host_node : List (List ℕ)) (prefix target : List ℕ) (away : Option ℕ) (path : List (List ℕ)) → mapped_path host_node prefix ≡ Some path → (IsPlain tree host_node path → ⊥)
    → IsMapping tree host_node prefix target away → ⊥
not_plain read tree good host_node prefix target away path is not m = not (subst (IsPlain tree host_node) (mapping_at read tree good host_node prefix target away path is m) m.plain)

-- nor where the node leads nowhere
pub leads_nowhere : IsReadBack → (tree : Content) → IsTree (node_at tree) → (host_node : List (List ℕ)) (prefix target : List ℕ) (away : Option ℕ) (path : List (List ℕ)) (node : Node) → mapped_path host_node prefix ≡ Some path → node_at tree path ≡ Some node
    → mapping_of node ≡ None → IsMapping tree host_node prefix target away → ⊥
leads_nowhere read tree good host_node prefix target away path node is there none m =
    let e : Some m.node ≡ Some node = sym m.there ∙ ap (node_at tree) (mapping_at read tree good host_node prefix target away path is m) ∙ there in
    let same : m.node ≡ node = cc in
    let bad : Some (target, away) ≡ None = sym m.leads ∙ ap mapping_of same ∙ none in
    cc

-- ---- the pair of a mapping

pub no_path_pair : IsReadBack → (tree : Content) → IsTree (node_at tree) → (host_node : List (List ℕ)) (prefix : List ℕ) → mapped_path host_node prefix ≡ None → IsMappingOf tree (Some host_node) prefix None
no_path_pair read tree good host_node prefix none pair has = no_mapped_path read tree good host_node prefix pair.target pair.away none has

pub no_node_pair : IsReadBack → (tree : Content) → IsTree (node_at tree) → (host_node : List (List ℕ)) (prefix : List ℕ) (path : List (List ℕ)) → mapped_path host_node prefix ≡ Some path → node_at tree path ≡ None → IsMappingOf tree (Some host_node) prefix None
no_node_pair read tree good host_node prefix path at none pair has = no_mapped_node read tree good host_node prefix pair.target pair.away path at none has

pub no_plain_pair : IsReadBack → (tree : Content) → IsTree (node_at tree) → (host_node : List (List ℕ)) (prefix : List ℕ) (path : List (List ℕ)) → mapped_path host_node prefix ≡ Some path → (IsPlain tree host_node path → ⊥) → IsMappingOf tree (Some host_node) prefix None
no_plain_pair read tree good host_node prefix path at not pair has = not_plain read tree good host_node prefix pair.target pair.away path at not has

pub no_target_pair : IsReadBack → (tree : Content) → IsTree (node_at tree) → (host_node : List (List ℕ)) (prefix : List ℕ) (path : List (List ℕ)) (node : Node) → mapped_path host_node prefix ≡ Some path → node_at tree path ≡ Some node → IsMappingPair node None
    → IsMappingOf tree (Some host_node) prefix None
no_target_pair read tree good host_node prefix path node at there none pair has = leads_nowhere read tree good host_node prefix pair.target pair.away path node at there none has

pub pair_at_node : IsReadBack → IsSpelled → (tree : Content) → IsTree (node_at tree) → (host_node : List (List ℕ)) (prefix : List ℕ) (path : List (List ℕ)) (node : Node) (o : Option Pair) → mapped_path host_node prefix ≡ Some path → node_at tree path ≡ Some node
    → IsPlain tree host_node path → IsMappingPair node o → IsMappingOf tree (Some host_node) prefix o
pair_at_node read spelled tree good host_node prefix path node (Some pair) at there plain is =
    (is.0, mapping_from tree host_node prefix path node pair.target pair.away (mapped_from spelled host_node path prefix at) there plain is.1)
pair_at_node read spelled tree good host_node prefix path node None at there plain is =
    no_target_pair read tree good host_node prefix path node at there is
