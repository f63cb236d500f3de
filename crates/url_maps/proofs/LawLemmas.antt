-- At most one pair decides a turn, and a text has one answer.
use Rattle.std.proofs.Common.{◌≡◌, ◌<◌, ◌≤◌, ℕ, zero, suc, true, List, ◌++◌, Option, Some, None, take, refl, sym, ◌∙◌, ap, subst, arith, ⊎_elim}
use Rattle.std.specs.Prelude.{find}
use Rattle.std.specs.Cmp.Lexicographic.{nat_list_cmp_total}
use Rattle.std.specs.Ordering.{is_lt, ordering_reverse}
use Rattle.sp_base.specs.Names.{by_name}
use Rattle.std.specs.declared.cmp.Ordering.TheVariants.{Less, Greater}
use Rattle.std.proofs.lemmas.Bool.{true≢false}
use Rattle.sp_base.specs.Paths.{is_path, text_of}
use Rattle.resource_tree.specs.Content.{Content, IsTree, kid, node_at}
use Rattle.resource_tree.specs.Changes.{kids_at}
use Rattle.resource_tree.proofs.PathLemmas.{kid_name, kid_parent}
use Rattle.url_maps.specs.declared.answer.MapAnswer.{MapAnswer}
use Rattle.url_maps.specs.declared.pairs.Pair.{Pair}
use Rattle.url_maps.specs.declared.pairs.PairKind.{PairKind}
use Rattle.url_maps.specs.declared.pairs.PairKind.TheVariants.{Mapping, Pattern, Alias, VanityPath}
use Rattle.url_maps.specs.Aliases.{IsAlias, has_alias}
use Rattle.url_maps.specs.Mappings.{IsMapping, mapping_of}
use Rattle.url_maps.specs.Patterns.{Asked, IsPatternPair, mappings_path}
use Rattle.url_maps.specs.Pairs.{Decides, IsPairOf, rank}
use Rattle.url_maps.specs.Turns.{Turns, leads, text_after}
use Rattle.url_maps.specs.VanityPaths.{IsVanityPath, vanity_page, vanity_cmp}
use Rattle.url_maps.proofs.AliasLemmas.{alias_claims, claimant_is}
use Rattle.url_maps.proofs.MappingLemmas.{mapping_path}
use Rattle.url_maps.proofs.PathLemmas.{IsReadBack, path_from_text, valid_sibling}
use Rattle.url_maps.proofs.VanityLemmas.{vanity_total}

module _ (read : IsReadBack) (tree : Content) (good : IsTree (node_at tree)) where
  one_mapping : (host_node : List (List ℕ)) (text target other : List ℕ) (away also : Option ℕ) → IsMapping tree host_node text target away → IsMapping tree host_node text other also → (target ≡ other) × (away ≡ also)
  one_mapping host_node text target other away also m n =
      let paths : Some (host_node ++ m.below) ≡ Some (host_node ++ n.below) = sym (mapping_path read tree good host_node text target away m) ∙ mapping_path read tree good host_node text other also n in
      let path : host_node ++ m.below ≡ host_node ++ n.below = cc in
      let nodes : Some m.node ≡ Some n.node = sym m.there ∙ ap (node_at tree) path ∙ n.there in
      let node : m.node ≡ n.node = cc in
      let leads_to : Some (target, away) ≡ Some (other, also) = sym m.leads ∙ ap mapping_of node ∙ n.leads in
      let both : (target, away) ≡ (other, also) = cc in
      (ap (λ (p : List ℕ × Option ℕ). p.0) both, ap (λ (p : List ℕ × Option ℕ). p.1) both)

  pub alias_path : (text : List ℕ) (path : List (List ℕ)) → (a : IsAlias tree text path) → is_path (kid a.parent a.alias) ≡ true
  alias_path text path a =
      let c = claimant_is read tree good path text (alias_claims read tree good text path a) in
      valid_sibling a.parent a.name a.alias (ap is_path (sym a.path_is) ∙ (good.nodes path c.node c.there).is_a_path) a.segment

  one_alias : (text : List ℕ) (path other : List (List ℕ)) → IsAlias tree text path → IsAlias tree text other → path ≡ other
  one_alias text path other a b =
      let one = path_from_text read (kid a.parent a.alias) (kid b.parent b.alias) (alias_path text path a) (alias_path text other b) (sym a.text_is ∙ b.text_is) in
      let parents = kid_parent a.parent b.parent a.alias b.alias one in
      let aliases = kid_name a.parent b.parent a.alias b.alias one in
      let first : Some a.name ≡ Some b.name =
      sym a.first ∙ ap (λ p. find (λ sibling. has_alias tree (kid p sibling) a.alias) (kids_at tree p)) parents
      ∙ ap (λ n. find (λ sibling. has_alias tree (kid b.parent sibling) n) (kids_at tree b.parent)) aliases ∙ b.first in
      let names : a.name ≡ b.name = cc in
      a.path_is ∙ ap (λ p. kid p a.name) parents ∙ ap (kid b.parent) names ∙ sym b.path_is

  one_vanity : (text : List ℕ) (path other : List (List ℕ)) → IsVanityPath tree text path → IsVanityPath tree text other → path ≡ other
  one_vanity text path other v w = ⊎_elim
      (λ (same : other ≡ path). sym same)
      (λ (less : vanity_cmp tree path other ≡ Less). ⊎_elim
      (λ (same : path ≡ other). same)
      (λ (more : vanity_cmp tree other path ≡ Less). let turned : Less ≡ Greater = sym less ∙ (vanity_total tree).antisymm path other ∙ ap ordering_reverse more in absurd (true≢false (ap is_lt turned)))
      (w.first path v.has))
      (v.first other w.has)

  one_pattern : (asked : Asked) (text : List ℕ) (to also : List ℕ × Option ℕ) → IsPatternPair tree asked text to → IsPatternPair tree asked text also → (to.0 ≡ also.0) × (to.1 ≡ also.1)
  one_pattern asked text to also p q =
      let names : p.name ≡ q.name = ⊎_elim
      (λ (same : q.name ≡ p.name). sym same)
      (λ (less : by_name p.name q.name ≡ Less). ⊎_elim
      (λ (same : p.name ≡ q.name). same)
      (λ (more : by_name q.name p.name ≡ Less). let turned : Less ≡ Greater = sym less ∙ nat_list_cmp_total.antisymm p.name q.name ∙ ap ordering_reverse more in absurd (true≢false (ap is_lt turned)))
      (q.least p.name to p.gives))
      (p.least q.name also q.gives)
      in
      let nodes : Some p.gives.node ≡ Some q.gives.node = sym p.gives.there ∙ ap (λ n. node_at tree (kid mappings_path n)) names ∙ q.gives.there in
      let node : p.gives.node ≡ q.gives.node = cc in
      let leads_to : Some to ≡ Some also = sym p.gives.leads ∙ ap mapping_of node ∙ q.gives.leads in
      let both : to ≡ also = cc in
      (ap (λ (t : List ℕ × Option ℕ). t.0) both, ap (λ (t : List ℕ × Option ℕ). t.1) both)

  one_pair : (kind : PairKind) (asked : Option Asked) (text : List ℕ) (pair other : Pair) → IsPairOf kind tree asked text pair → IsPairOf kind tree asked text other → (pair.target ≡ other.target) × (pair.away ≡ other.away)
  one_pair Mapping None text pair other m n = absurd m
  one_pair Pattern None text pair other p q = absurd p
  one_pair Pattern (Some asked) text pair other p q = one_pattern asked text (pair.target, pair.away) (other.target, other.away) p q
  one_pair Mapping (Some asked) text pair other m n = one_mapping asked.host_node text pair.target other.target pair.away other.away m n
  one_pair Alias asked text pair other a b = (a.target ∙ ap text_of (one_alias text a.path b.path a.alias b.alias) ∙ sym b.target, a.inside ∙ sym b.inside)
  one_pair VanityPath asked text pair other v w = (v.target ∙ ap (λ p. text_of (vanity_page p)) (one_vanity text v.path w.path v.vanity_path w.vanity_path) ∙ sym w.target, v.inside ∙ sym w.inside)

  one_rank : (kind other : PairKind) → rank kind ≡ rank other → kind ≡ other
  one_rank Mapping Mapping e = refl
  one_rank Mapping Pattern e = absurd (omega (arith, e))
  one_rank Mapping Alias e = absurd (omega (arith, e))
  one_rank Mapping VanityPath e = absurd (omega (arith, e))
  one_rank Pattern Mapping e = absurd (omega (arith, e))
  one_rank Pattern Pattern e = refl
  one_rank Pattern Alias e = absurd (omega (arith, e))
  one_rank Pattern VanityPath e = absurd (omega (arith, e))
  one_rank Alias Mapping e = absurd (omega (arith, e))
  one_rank Alias Pattern e = absurd (omega (arith, e))
  one_rank Alias Alias e = refl
  one_rank Alias VanityPath e = absurd (omega (arith, e))
  one_rank VanityPath Mapping e = absurd (omega (arith, e))
  one_rank VanityPath Pattern e = absurd (omega (arith, e))
  one_rank VanityPath Alias e = absurd (omega (arith, e))
  one_rank VanityPath VanityPath e = refl

  same_pair : (pair other : Pair) → pair.kind ≡ other.kind → pair.target ≡ other.target → pair.away ≡ other.away → pair ≡ other
  same_pair pair other kinds targets aways = λ i. record { kind = kinds i; target = targets i; away = aways i }

  pub one_decides : (asked : Option Asked) (text : List ℕ) (at k : ℕ) (pair other : Pair) → Decides tree asked text at pair → Decides tree asked text k other → (at ≡ k) × (pair ≡ other)
  one_decides asked text at k pair other d e = ⊎_elim
      (λ (less : k < at). ⊎_elim
      (λ (more : at < k). absurd (omega (arith, less, more)))
      (λ (same : (at ≡ k) × (rank other.kind ≤ rank pair.kind)). absurd (omega (arith, less, same.0)))
      (e.best at pair d.applies))
      (λ (same : (k ≡ at) × (rank pair.kind ≤ rank other.kind)). ⊎_elim
      (λ (more : at < k). absurd (omega (arith, same.0, more)))
      (λ (back : (at ≡ k) × (rank other.kind ≤ rank pair.kind)).
      let ranks : rank pair.kind ≡ rank other.kind = omega (arith, same.1, back.1) in
      let kinds = one_rank pair.kind other.kind ranks in
      let has : IsPairOf other.kind tree asked (take k text) pair = subst (λ n. IsPairOf other.kind tree asked (take n text) pair) back.0 (subst (λ kind. IsPairOf kind tree asked (take at text) pair) kinds d.applies.has) in
      let one = one_pair other.kind asked (take k text) pair other has e.applies.has in
      (back.0, same_pair pair other kinds one.0 one.1))
      (e.best at pair d.applies))
      (d.best k other e.applies)

  further_one : (o : Option ℕ) (text : List ℕ) (further : MapAnswer → Type 0) (answer other : MapAnswer) → (further answer → further other → answer ≡ other) → leads o text further answer → leads o text further other → answer ≡ other
  further_one (Some status) text further answer other same a b = a ∙ sym b
  further_one None text further answer other same a b = same a b

  pub one_answer : (n : ℕ) (asked : Option Asked) (text : List ℕ) (answer other : MapAnswer) → Turns tree n asked text answer → Turns tree n asked text other → answer ≡ other
  one_answer zero asked text answer other a b = a ∙ sym b
  one_answer (suc n) asked text answer other a b = ⊎_elim
      (λ ended. ⊎_elim
      (λ also. ended.1 ∙ sym also.1)
      (λ turn. absurd (ended.0 turn.at turn.pair turn.decides.applies))
      b)
      (λ turn. ⊎_elim
      (λ ended. absurd (ended.0 turn.at turn.pair turn.decides.applies))
      (λ next.
      let one = one_decides asked text turn.at next.at turn.pair next.pair turn.decides next.decides in
      let moved = subst (λ (p : Pair). leads p.away (text_after p next.at text) (Turns tree n None (text_after p next.at text)) answer) one.1
      (subst (λ k. leads turn.pair.away (text_after turn.pair k text) (Turns tree n None (text_after turn.pair k text)) answer) one.0 turn.outcome) in
      further_one next.pair.away (text_after next.pair next.at text) (Turns tree n None (text_after next.pair next.at text)) answer other (one_answer n None (text_after next.pair next.at text) answer other) moved next.outcome)
      b)
      a
