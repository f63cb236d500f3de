-- What a match by sets of characters knows between two characters of a text.
use Rattle.std.proofs.Common.{◌≡◌, ◌↔◌, ◌⊎◌, inl, inr, ℕ, zero, suc, ◌+◌, ◌*◌, ◌%◌, ◌^◌, ◌<◌, ◌≤◌, ◌==◌, Bool, true, false, not, List, [], ◌∷◌, ◌++◌, length, get_or, replicate, refl, ap, sym, ◌∙◌, subst, append_assoc, append-nil, arith, bit_and, bit_or, eqb-true, true≢false, w64}
use Rattle.std.proofs.lemmas.Bool.{cases_eq, cases_lt}
use Rattle.std.proofs.lemmas.List.{length-replicate}
use Rattle.std.proofs.lemmas.Nat.{and_le_l}
use Rattle.std.proofs.lemmas.Nat.Bits.{bit_at-lt, bit_at_and, bit_at_above, bit_at_clear_same, bit_at_clear_other}
use Rattle.std.specs.Int.{bit_at, bit_not}
use Rattle.regex_rules.specs.declared.linking.Linking.{Linking}
use Rattle.regex_rules.specs.declared.takers.Takers.{Takers}
use Rattle.regex_rules.specs.declared.positions.Positions.{Positions}
use Rattle.regex_rules.specs.declared.place.PatternPlace.{PatternPlace}
use Rattle.regex_rules.specs.Trees.{PatternTree, places_of, tree_of}
use Rattle.regex_rules.specs.Languages.{InLanguage, in_language}
use Rattle.regex_rules.specs.Positions.{Has, bit_of, count, either, rows_at, Follows, Takes}
use Rattle.regex_rules.specs.Linkings.{linked, linking_at, begun_rows, unlinked, stood, takers_of, nothing_taken, ones, IsTable}
use Rattle.regex_rules.proofs.TextLemmas.{Whole, Says, says_false}
use Rattle.regex_rules.proofs.MatchLemmas.{snoc_is_some}
use Rattle.regex_rules.proofs.CuttingLemmas.{tells_language}
use Rattle.regex_rules.proofs.BitLemmas.{has_or, has_and, has_nothing, none_is_zero}
use Rattle.regex_rules.proofs.PartLemmas.{Comes}
use Rattle.regex_rules.proofs.WayLemmas.{At, at_within, at_nothing, step, text_ends, whole_lacks, way_back}
use Rattle.regex_rules.proofs.LinkLemmas.{links, rows_of, table, table_says, stands, takers, takers_at, takers_say, ones_of, none_linked, none_stood}

-- ---- the table of a pattern

bit_first : bit_of 0 ≡ 1
unfolding bit_of
bit_first = refl

get_none : (n q : ℕ) → ◌≡◌ {A = ℕ} (get_or (replicate n 0) q 0) 0
get_none zero q = refl
get_none (suc n) zero = refl
get_none (suc n) (suc q) = get_none n q

module _ (places : List PatternPlace) (held : places_of (tree_of places) ≡ places) where
  pub count_of : ones places ≡ count (tree_of places)
  count_of = ap ones (sym held) ∙ ones_of (tree_of places)

  all_linked : (sets : List ℕ) → linked places (linking_at sets begun_rows [] 1) ≡ linking_at (table (tree_of places) 0 sets) (rows_of (tree_of places) 0) [] (bit_of (0 + count (tree_of places)))
  all_linked sets =
      ap (λ (ps : List PatternPlace). linked ps (linking_at sets begun_rows [] 1)) (sym held ∙ sym (append-nil (places_of (tree_of places))))
      ∙ ap (λ (b : ℕ). linked (places_of (tree_of places) ++ []) (linking_at sets begun_rows [] b)) (sym bit_first)
      ∙ links (tree_of places) 0 sets [] []
      ∙ none_linked (linking_at (table (tree_of places) 0 sets) (rows_of (tree_of places) 0) [] (bit_of (0 + count (tree_of places))))

  -- the characters that take one of a text
  pub takers_are : (c p : ℕ) → ones places ≤ 64 → Has (takers_of c places) p ↔ Takes (tree_of places) 0 p c
  takers_are c p few =
      let tree = tree_of places in
      let small : 0 + count tree ≤ 64 = omega (arith, count_of, few) in
      let same : stood c places nothing_taken ≡ takers_at (takers c tree 0 0) (bit_of (0 + count tree)) =
      ap (λ (ps : List PatternPlace). stood c ps nothing_taken) (sym held ∙ sym (append-nil (places_of tree)))
      ∙ ap (λ (b : ℕ). stood c (places_of tree ++ []) (takers_at 0 b)) (sym bit_first)
      ∙ stands c tree 0 0 [] ∙ none_stood c (takers_at (takers c tree 0 0) (bit_of (0 + count tree)))
      in
      let set : takers_of c places ≡ takers c tree 0 0 = ap (λ (s : Takers). s.set) same in
      let says = takers_say c tree 0 0 p small in (
        λ h. elim (says.0 (subst (λ (n : ℕ). Has n p) set h)) [ inl x ↦ absurd (has_nothing p x) | inr y ↦ y ],
        λ t. subst (λ (n : ℕ). Has n p) (sym set) (says.1 (inr t)),
      )

  module _ (self : Positions) (is : IsTable places self) where
    pub few_of : count (tree_of places) ≤ 64
    few_of = let few = is.few in omega (arith, count_of, few)

    pub whole_is : self.whole ≡ rows_at (tree_of places) 0
    whole_is = is.whole ∙ ap (λ (l : Linking). either l.rows.earlier l.rows.row) (all_linked (replicate (ones places) 0))

    pub follow_is : (q p : ℕ) → q < count (tree_of places) → Has (get_or self.follow q 0) p ↔ Follows (tree_of places) 0 q p
    follow_is q p lt =
        let tree = tree_of places in
        let sets : List ℕ = replicate (ones places) 0 in
        let same : self.follow ≡ table tree 0 sets = is.follow ∙ ap (λ (l : Linking). l.follow) (all_linked sets) in
        let says = table_says tree 0 sets q p (omega (arith, length-replicate {A = ℕ} (ones places) 0, count_of, lt)) in (
          λ h.
              elim (says.0 (subst (λ (l : List ℕ). Has (get_or l q 0) p) same h))
              [ inl x ↦ absurd (has_nothing p (subst (λ (n : ℕ). Has n p) (get_none (ones places) q) x)) | inr y ↦ y ],
          λ f. subst (λ (l : List ℕ). Has (get_or l q 0) p) (sym same) (says.1 (inr f)),
        )

-- the table that is made of them
pub made : (places : List PatternPlace) (number : ℕ) (before after : Linking) (self : Positions) → number ≡ ones places → number ≤ 64 → before ≡ unlinked number
    → after ≡ linked places before → self.whole ≡ either after.rows.earlier after.rows.row → self.follow ≡ after.follow
    → ((c : ℕ) → c < length self.listed.items → get_or self.listed.items c 0 ≡ takers_of c places) → IsTable places self
made places number before after self counted few begins goes whole_of follow_of all =
    let same : after ≡ linked places (unlinked (ones places)) = goes ∙ ap (linked places) (begins ∙ ap unlinked counted) in
    record {
      few = omega (arith, counted, few);
      whole = whole_of ∙ ap (λ (l : Linking). either l.rows.earlier l.rows.row) same;
      follow = follow_of ∙ ap (λ (l : Linking). l.follow) same;
      listed = all;
    }

-- ---- between two characters

-- the characters read so far, at least one, and those of the pattern that took the last of them
pub record Kept (tree : PatternTree) (text rest : List ℕ) (set : ℕ) : Type 0 where
  pub w : List ℕ
  pub some : (w ≡ []) → ⊥
  pub parts : text ≡ w ++ rest
  pub ends : (p : ℕ) → Has set p ↔ At Whole tree 0 p w

pub nothing_kept : (tree : PatternTree) (text : List ℕ) (answer : Bool) → text ≡ [] → answer ≡ (rows_at tree 0).lacks → Says answer (InLanguage tree text)
nothing_kept tree text answer none is =
    subst (λ (l : List ℕ). Says answer (InLanguage tree l)) (sym none) (subst (λ (b : Bool). Says b (InLanguage tree [])) (sym is) (whole_lacks tree 0))

pub begin_kept : (tree : PatternTree) (text rest : List ℕ) (c first set : ℕ) → count tree ≤ 64 → ((p : ℕ) → Has set p ↔ Takes tree 0 p c) → first ≡ (rows_at tree 0).first → text ≡ c ∷ rest
    → Kept tree text rest (bit_and first set)
begin_kept tree text rest c first set few takes is parts = record { w = c ∷ []; some = snoc_is_some [] c; parts = parts; ends = λ p. (there p, back p) }
  where
    there : (p : ℕ) → Has (bit_and first set) p → At Whole tree 0 p (c ∷ [])
    there p h =
        let both = (has_and first set p).0 h in
        (step tree Whole 0 [] c p (omega (arith, few))).1 ((takes p).0 both.1, inl (refl, subst (λ (n : ℕ). Has n p) is both.0))

    back : (p : ℕ) → At Whole tree 0 p (c ∷ []) → Has (bit_and first set) p
    back p a =
        let s = (step tree Whole 0 [] c p (omega (arith, few))).0 a in
        (has_and first set p).1 (begins s.1, (takes p).1 s.0)
      where
        begins : Comes (Whole []) (Has (rows_at tree 0).first p) (λ q v. At Whole tree 0 q v) (λ q. Follows tree 0 q p) [] → Has first p
        begins (inl (none, h)) = subst (λ (n : ℕ). Has n p) (sym is) h
        begins (inr (q, b, f)) = absurd (at_nothing tree Whole 0 q b)

pub more_kept : (tree : PatternTree) (text rest : List ℕ) (ends c set after : ℕ) (sets : List ℕ) → count tree ≤ 64 → ((p : ℕ) → Has set p ↔ Takes tree 0 p c)
    → ((q p : ℕ) → q < count tree → Has (get_or sets q 0) p ↔ Follows tree 0 q p)
    → ((p : ℕ) → Has after p ↔ ((q : ℕ) × Has ends q × Has (get_or sets q 0) p))
    → Kept tree text (c ∷ rest) ends → Kept tree text rest (bit_and after set)
more_kept tree text rest ends c set after sets few takes follow go k = record {
  w = k.w ++ c ∷ [];
  some = snoc_is_some k.w c;
  parts = k.parts ∙ sym (append_assoc k.w (c ∷ []) rest);
  ends = λ p. (there p, back p);
}
  where
    comes : (p : ℕ) → Has after p → (q : ℕ) × At Whole tree 0 q k.w × Follows tree 0 q p
    comes p h =
        let e = (go p).0 h in
        let a = (k.ends e.0).0 e.1 in
        let r = at_within tree Whole 0 e.0 k.w a in
        (e.0, a, (follow e.0 p (omega (arith, r.1))).0 e.2)

    goes : (p : ℕ) → Comes (Whole k.w) (Has (rows_at tree 0).first p) (λ q v. At Whole tree 0 q v) (λ q. Follows tree 0 q p) k.w → Has after p
    goes p (inl (none, first)) = absurd (k.some none)
    goes p (inr (q, a, f)) = let r = at_within tree Whole 0 q k.w a in (go p).1 (q, (k.ends q).1 a, (follow q p (omega (arith, r.1))).1 f)

    there : (p : ℕ) → Has (bit_and after set) p → At Whole tree 0 p (k.w ++ c ∷ [])
    there p h = let both = (has_and after set p).0 h in (step tree Whole 0 k.w c p (omega (arith, few))).1 ((takes p).0 both.1, inr (comes p both.0))

    back : (p : ℕ) → At Whole tree 0 p (k.w ++ c ∷ []) → Has (bit_and after set) p
    back p a = let s = (step tree Whole 0 k.w c p (omega (arith, few))).0 a in (has_and after set p).1 (goes p s.1, (takes p).1 s.0)

-- where none is left, no longer text is in the language
pub none_kept : (tree : PatternTree) (text rest : List ℕ) (ends : ℕ) → count tree ≤ 64 → ends ≡ 0 → Kept tree text rest ends → Says false (InLanguage tree text)
none_kept tree text rest ends few none k = says_false no
  where
    no : InLanguage tree text → ⊥
    no l =
        let s = way_back tree few rest k.w k.some (subst (λ (t : List ℕ). InLanguage tree t) k.parts l) in
        has_nothing s.0 (subst (λ (n : ℕ). Has n s.0) none ((k.ends s.0).1 s.1))

-- the end of a text
pub end_kept : (tree : PatternTree) (text : List ℕ) (ends end : ℕ) (answer : Bool) → count tree ≤ 64 → end ≡ (rows_at tree 0).last
    → (answer ≡ not (bit_and ends end == 0)) → Kept tree text [] ends → Says answer (InLanguage tree text)
end_kept tree text ends end answer few ends_are said k = (λ passed. inside (in_language tree text) refl (sym is ∙ passed), λ l. is ∙ outside l)
  where
    last : ℕ
    last = (rows_at tree 0).last

    is : answer ≡ not (bit_and ends last == 0)
    is = said ∙ ap (λ (n : ℕ). not (bit_and ends n == 0)) ends_are

    same : text ≡ k.w
    same = k.parts ∙ append-nil k.w

    some : (text ≡ []) → ⊥
    some none = k.some (sym same ∙ none)

    ends_in : InLanguage tree text → (p : ℕ) × Has (bit_and ends last) p
    ends_in l =
        let e = (text_ends tree text few some).0 l in
        (e.0, (has_and ends last e.0).1 ((k.ends e.0).1 (subst (λ (t : List ℕ). At Whole tree 0 e.0 t) same e.1), e.2))

    language : (p : ℕ) → Has (bit_and ends last) p → InLanguage tree text
    language p h =
        let both = (has_and ends last p).0 h in
        (text_ends tree text few some).1 (p, subst (λ (t : List ℕ). At Whole tree 0 p t) (sym same) ((k.ends p).0 both.0), both.1)

    outside : InLanguage tree text → not (bit_and ends last == 0) ≡ true
    outside l =
        let e = ends_in l in
        off (bit_and ends last == 0) (λ zero_is. has_nothing e.0 (subst (λ (n : ℕ). Has n e.0) (eqb-true (bit_and ends last) 0 zero_is) e.1))
      where
        off : (b : Bool) → ((b ≡ true) → ⊥) → not b ≡ true
        off true never = absurd (never refl)
        off false _ = refl

    inside : (b : Bool) → in_language tree text ≡ b → not (bit_and ends last == 0) ≡ true → InLanguage tree text
    inside true e passed = (tells_language tree text).0 e
    inside false e passed =
        let empty : bit_and ends last ≡ 0 =
        none_is_zero (bit_and ends last) (λ p h. let told : in_language tree text ≡ true = (tells_language tree text).1 (language p h) in both_ways e told)
        in
        absurd (turned passed (ap (λ (n : ℕ). not (n == 0)) empty))
      where
        both_ways : in_language tree text ≡ false → in_language tree text ≡ true → ⊥
        both_ways f t = true≢false (sym t ∙ f)

        turned : not (bit_and ends last == 0) ≡ true → not (bit_and ends last == 0) ≡ false → ⊥
        turned t f = true≢false (sym t ∙ f)

-- ---- what may come after some characters

-- the lowest is taken away
pub lowest_gone : (left k : ℕ) → k < 64 → left < 2 ^ 64 → bit_at left k ≡ 1
    → let less = bit_and left (bit_not w64 (1 * 2 ^ k % 2 ^ 64)) in
    (less < left) × ((q : ℕ) → Has left q ↔ ((q ≡ k) ⊎ Has less q))
unfolding Has
lowest_gone left k within fits set =
    let less : ℕ = bit_and left (bit_not w64 (1 * 2 ^ k % 2 ^ 64)) in
    let gone : bit_at less k ≡ 0 = bit_at_clear_same w64 left k within in
    let smaller : less < left =
    elim (cases_eq less left) [
      | inl same ↦ absurd (let both : bit_at less k ≡ bit_at left k = ap (λ x. bit_at x k) same in omega (arith, both, gone, set))
      | inr other ↦ omega (arith, and_le_l left (bit_not w64 (1 * 2 ^ k % 2 ^ 64)), other)
    ]
    in
    let there : (q : ℕ) → bit_at left q ≡ 1 → (q ≡ k) ⊎ (bit_at less q ≡ 1) = λ q h.
    elim (cases_eq q k) [
      | inl same ↦ inl same
      | inr other ↦
          elim (cases_lt q 64) [
            | inl low ↦ inr (bit_at_clear_other w64 left k within q low other ∙ h)
            | inr high ↦ absurd (let none = bit_at_above left 64 q fits high in omega (arith, none, h))
          ]
    ]
    in
    let back : (q : ℕ) → (q ≡ k) ⊎ (bit_at less q ≡ 1) → bit_at left q ≡ 1 = λ q s.
    elim s [
      | inl same ↦ ap (bit_at left) same ∙ set
      | inr h ↦ omega (arith, bit_at_and left (bit_not w64 (1 * 2 ^ k % 2 ^ 64)) q, h, bit_at-lt left q)
    ]
    in
    (smaller, λ q. (there q, back q))

-- what was found so far, and what may come after those that are left
abbrev pub Gathered : List ℕ → ℕ → ℕ → ℕ → Type 0
Gathered sets ends next left = (p : ℕ) → (Has next p ⊎ ((q : ℕ) × Has left q × Has (get_or sets q 0) p)) ↔ ((q : ℕ) × Has ends q × Has (get_or sets q 0) p)

pub gather : (sets : List ℕ) (ends next left less k set : ℕ) → ((q : ℕ) → Has left q ↔ ((q ≡ k) ⊎ Has less q)) → set ≡ get_or sets k 0
    → Gathered sets ends next left → Gathered sets ends (bit_or next set) less
gather sets ends next left less k set parts is all p = (λ s. (all p).0 (there s), λ e. back ((all p).1 e))
  where
    there : Has (bit_or next set) p ⊎ ((q : ℕ) × Has less q × Has (get_or sets q 0) p) → Has next p ⊎ ((q : ℕ) × Has left q × Has (get_or sets q 0) p)
    there (inl h) = elim ((has_or next set p).0 h) [ inl x ↦ inl x | inr y ↦ inr (k, (parts k).1 (inl refl), subst (λ (n : ℕ). Has n p) is y) ]
    there (inr (q, h, f)) = inr (q, (parts q).1 (inr h), f)

    back : Has next p ⊎ ((q : ℕ) × Has left q × Has (get_or sets q 0) p) → Has (bit_or next set) p ⊎ ((q : ℕ) × Has less q × Has (get_or sets q 0) p)
    back (inl h) = inl ((has_or next set p).1 (inl h))
    back (inr (q, h, f)) =
        elim ((parts q).0 h) [
          | inl same ↦ inl ((has_or next set p).1 (inr (subst (λ (n : ℕ). Has n p) (sym is) (subst (λ (n : ℕ). Has (get_or sets n 0) p) same f))))
          | inr less_has ↦ inr (q, less_has, f)
        ]

pub gathered : (sets : List ℕ) (ends next left : ℕ) → left ≡ 0 → Gathered sets ends next left → (p : ℕ) → Has next p ↔ ((q : ℕ) × Has ends q × Has (get_or sets q 0) p)
gathered sets ends next left none all p = (
  λ h. (all p).0 (inl h),
  λ e. elim ((all p).1 e) [ inl x ↦ x | inr y ↦ absurd (has_nothing y.0 (subst (λ (n : ℕ). Has n y.0) none y.1)) ],
)

pub gather_begins : (sets : List ℕ) (ends : ℕ) → Gathered sets ends 0 ends
gather_begins sets ends p = (λ s. elim s [ inl x ↦ absurd (has_nothing p x) | inr y ↦ y ], λ e. inr e)
