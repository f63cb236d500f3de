-- No mapping is below the first segment of a text that has no node, or one with a pattern.
use Rattle.std.proofs.Common.{◌≡◌, ◌≤◌, ◌<◌, ◌-◌, ℕ, zero, suc, true, false, List, [], ◌∷◌, ◌++◌, Some, Ok, take, length, refl, sym, ◌∙◌, ap, subst, arith, ⊎_elim, ◌+◌, append_assoc, append-nil, length-append}
use Rattle.std.proofs.Math.Seq.{take-append-add, take-append_seam}
use Rattle.std.specs.Prelude.{IsTrue, is_some, nat_eq, not}
use Rattle.std.specs.Cmp.Lexicographic.{pointwise, same_text}
use Rattle.std.proofs.lemmas.Bool.{true≢false, false≢true, and_from, and_parts, cases_lt}
use Rattle.std.proofs.lemmas.List.{length-take-le, take-take, take_all}
use Rattle.sp_base.specs.PathTexts.{spelling_of}
use Rattle.sp_base.specs.Paths.{is_path, is_under, parent_of, path_of, text_of}
use Rattle.sp_base.proofs.PathTests.{path_from_path_in}
use Rattle.resource_tree.specs.Content.{Content, IsTree, kid, node_at}
use Rattle.url_maps.specs.Mappings.{IsPlain, has_match}
use Rattle.url_maps.specs.Search.{HasNoMappingBeyond, IsBarredAt, is_passable}
use Rattle.url_maps.proofs.MappingLemmas.{path_below}
use Rattle.url_maps.proofs.PathLemmas.{IsReadBack}

-- a path is under its own prefixes alone
record Prefix (path q : List (List ℕ)) : Type 0 where
  same : take (length q) path ≡ q
  within : length q ≤ length path

prefix_of : (path q : List (List ℕ)) → is_under path q ≡ true → Prefix path q
prefix_of path [] h = record { same = refl; within = omega arith }
prefix_of [] (s ∷ q) h = absurd (false≢true h)
prefix_of (a ∷ path) (s ∷ q) h =
    let parts = and_parts (pointwise nat_eq s a) (is_under path q) h in
    let rest = prefix_of path q parts.1 in
    record {
      same = ap (λ (p : List (List ℕ)). a ∷ p) rest.same ∙ ap (λ (t : List ℕ). t ∷ q) (sym (same_text s a (sym parts.0)));
      within = omega (arith, rest.within);
    }

-- ---- ancestors are there

module _ (tree : Content) (good : IsTree (node_at tree)) where
  ancestor : (host_node below : List (List ℕ)) → is_some (node_at tree (host_node ++ below)) ≡ true → is_some (node_at tree host_node) ≡ true
  ancestor host_node [] there = ap (λ p. is_some (node_at tree p)) (sym (append-nil host_node)) ∙ there
  ancestor host_node (s ∷ below) there =
      good.parents host_node s (ancestor (kid host_node s) below (ap (λ p. is_some (node_at tree p)) (append_assoc host_node (s ∷ []) below) ∙ there))

  first_there : (host_node below : List (List ℕ)) (n : ℕ) → is_some (node_at tree (host_node ++ below)) ≡ true → is_some (node_at tree (host_node ++ take n below)) ≡ true
  first_there host_node below zero there = ap (λ p. is_some (node_at tree p)) (append-nil host_node) ∙ ancestor host_node below there
  first_there host_node [] (suc n) there = there
  first_there host_node (s ∷ below) (suc n) there =
      ap (λ p. is_some (node_at tree p)) (sym (append_assoc host_node (s ∷ []) (take n below)))
      ∙ first_there (kid host_node s) below n (ap (λ p. is_some (node_at tree p)) (append_assoc host_node (s ∷ []) below) ∙ there)

  -- the parent of a path that a prefix of another's text spells is above that path
  abbrev pub AreParents : Type 0
  AreParents = (path below : List (List ℕ)) (n : ℕ) → IsTrue (is_path path) → n ≤ length (text_of path) → path_of (take n (text_of path)) ≡ Ok below → is_under path (parent_of below) ≡ true

  -- it is no longer than the text of as many first segments
  abbrev pub AreWithinFirst : Type 0
  AreWithinFirst = (path below : List (List ℕ)) (n most : ℕ) → IsTrue (is_path path) → n ≤ length (text_of path) → path_of (take n (text_of path)) ≡ Ok below → length below ≤ most → n ≤ length (text_of (take most path))

  -- no node of a path that is plain has a pattern
  plain_first : (host_node below : List (List ℕ)) (n : ℕ) → n ≤ length below → IsPlain tree host_node (host_node ++ below) → has_match tree (host_node ++ take n below) ≡ false
  plain_first host_node below n inside plain =
      ap (has_match tree) (sym (take-append-add host_node below n)) ∙ plain (length host_node + n) (omega arith) (omega (arith, inside, length-append host_node below))

  -- a mapping's node below the host node is no deeper than the first one along a path that is missing or has a pattern
  depth_is : (host_node path below : List (List ℕ)) (depth : ℕ) → depth < length path → IsBarredAt tree host_node path depth → is_some (node_at tree (host_node ++ below)) ≡ true → IsPlain tree host_node (host_node ++ below) → is_under path (parent_of below) ≡ true
      → length below ≤ depth
  depth_is host_node path below depth inside none there plain under = ⊎_elim
      (λ (large : depth < length below).
      let q = parent_of below in
      let prefix = prefix_of path q under in
      let size : length q ≡ length below - 1 = length-take-le (length below - 1) below (omega arith) in
      let deep : depth ≤ length q = omega (arith, large, size) in
      let same : take depth below ≡ take depth path =
      sym (take-take depth (length below - 1) below (omega (arith, large))) ∙ ap (take depth) (sym prefix.same) ∙ take-take depth (length q) path deep in
      let passes_it : is_passable tree (host_node ++ take depth below) ≡ true =
      and_from _ _ (first_there host_node below depth there) (ap not (plain_first host_node below depth (omega (arith, large)) plain)) in
      absurd (true≢false (sym passes_it ∙ ap (λ p. is_passable tree (host_node ++ p)) same ∙ none inside)))
      (λ small. small)
      (cases_lt depth (length below))

  within_reach : IsReadBack → AreParents → AreWithinFirst → (host_node path below : List (List ℕ)) (depth k : ℕ) → is_path path ≡ true → is_path below ≡ true → IsBarredAt tree host_node path depth → is_some (node_at tree (host_node ++ below)) ≡ true → IsPlain tree host_node (host_node ++ below)
      → k ≤ length (text_of path) → take k (text_of path) ≡ spelling_of below → k ≤ length (text_of (take depth path))
  within_reach read parents within host_node path [] depth k valid is none there plain inside same =
      let size : length (take k (text_of path)) ≡ k = length-take-le k (text_of path) inside in omega (arith, size, ap length same)
  within_reach read parents within host_node path (s ∷ below) depth k valid is none there plain inside same =
      let reads : path_of (take k (text_of path)) ≡ Ok (s ∷ below) = ap path_of same ∙ read (s ∷ below) is in
      ⊎_elim
      (λ (fewer : depth < length path). within path (s ∷ below) k depth valid inside reads (depth_is host_node path (s ∷ below) depth fewer none there plain (parents path (s ∷ below) k valid inside reads)))
      (λ (all : length path ≤ depth). subst (λ p. k ≤ length (text_of p)) (sym (take_all depth path all)) inside)
      (cases_lt depth (length path))

  pub none_beyond : IsReadBack → AreParents → AreWithinFirst → (host_node path : List (List ℕ)) (text : List ℕ) (depth : ℕ) → is_path path ≡ true → text_of path ≡ text → IsBarredAt tree host_node path depth
      → HasNoMappingBeyond tree (Some host_node) text (length (text_of (take depth path)))
  none_beyond read parents within host_node path text depth valid path_from_path_in none k pair beyond inside m =
      let is = path_below host_node m.below (good.nodes (host_node ++ m.below) m.node m.there).is_a_path in
      let le = within_reach read parents within host_node path m.below depth k valid is none (ap is_some m.there) m.plain (subst (λ t. k ≤ length t) (sym path_from_path_in) inside) (ap (take k) path_from_path_in ∙ m.text_is) in
      omega (arith, le, beyond)

-- no mapping at all, where the host node has no node, or one with a pattern
pub none_barred : (tree : Content) → IsTree (node_at tree) → (host_node : List (List ℕ)) (text : List ℕ) → is_passable tree host_node ≡ false → HasNoMappingBeyond tree (Some host_node) text 0
none_barred tree good host_node text none k pair beyond inside m =
    let there : is_some (node_at tree host_node) ≡ true = ancestor tree good host_node m.below (ap is_some m.there) in
    let plain : has_match tree host_node ≡ false = ap (has_match tree) (sym (take-append_seam host_node m.below)) ∙ m.plain (length host_node) (omega arith) (omega (arith, length-append host_node m.below)) in
    absurd (true≢false (sym (and_from _ _ there (ap not plain)) ∙ none))
