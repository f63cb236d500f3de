-- What the search comes to first ranks first.
use Rattle.std.proofs.Common.{◌≡◌, ◌≢◌, ◌<◌, ◌≤◌, ◌++◌, ℕ, zero, suc, Bool, true, false, cond, List, Option, Some, None, Result, Ok, Err, refl, sym, ◌∙◌, ap, subst, ⊎_elim, inl, inr, arith, codes, lt_irrefl}
use Rattle.std.specs.Prelude.{slice_get, IfOk, IfSome, IfNone}
use Rattle.std.proofs.lemmas.Bool.{cases_eq, cases_lt}
use Rattle.std.proofs.lemmas.Option.{cond_some, same_Some}
use Rattle.sp_base.specs.Paths.{path_of, text_of}
use Rattle.sp_base.specs.declared.path.PathFault.{PathFault}
use Rattle.resource_tree.specs.Content.{Content, name_of}
use Rattle.type_chain.specs.Types.{places}
use Rattle.type_chain.specs.declared.type_name.TypeName.{TypeName}
use Rattle.url_split.specs.declared.decompose.Parts.{Parts}
use Rattle.script_rank.specs.declared.naming.Naming.{Naming}
use Rattle.script_rank.specs.declared.naming.Naming.TheVariants.{SelectorsAndExtension, Selectors, LabelAndExtension, Extension, Label, Method}
use Rattle.script_rank.specs.Ranking.{Candidate, HasNoCandidate, IsFirstScript, IsBetter, IsOffered, IsAbove, IsLessInTurn, Key, is_script, selectors_in, has_extension, has_label, spellings}
use Rattle.script_rank.specs.Search.{at_naming, at_place, at_type, search_result, namings, script_at, script_in}
use Rattle.script_rank.proofs.NamingLemmas.{weight, better-weight, namings-fall, falls-at, sound, complete}
use Rattle.script_rank.proofs.DepthLemmas.{few_selectors}
use Rattle.script_rank.proofs.SearchLemmas.{Hit, hit, none-at}

-- one position of a list has one item
one_item : {A : Type 0} (xs : List A) (i j : ℕ) (x y : A) → i ≡ j → slice_get xs i ≡ Some x → slice_get xs j ≡ Some y → x ≡ y
one_item xs i j x y same e f = same_Some x y (sym e ∙ ap (slice_get xs) same ∙ f)

-- ---- a result of the search is a script, and the search comes to each candidate

script-some : (tree : Content) (r : Result (List (List ℕ)) PathFault) (path : List (List ℕ)) → script_in tree r ≡ Some path → (r ≡ Ok path) × (is_script tree path ≡ true)
script-some tree (Ok p) path e =
    let both = cond_some (is_script tree p) p path e in
    (ap (λ q. Ok q) both.1, subst (λ q. is_script tree q ≡ true) both.1 both.0)
script-some tree (Err fault) path e = absurd (cc)

at-some : (tree : Content) (place : List (List ℕ)) (spelling : List ℕ) (path : List (List ℕ)) → script_at tree place spelling ≡ Some path
    → (path_of (text_of place ++ (spelling ++ codes ".html")) ≡ Ok path) × (is_script tree path ≡ true)
unfolding script_at
at-some tree place spelling path e = script-some tree (path_of (text_of place ++ (spelling ++ codes ".html"))) path e

at-none : (tree : Content) (place : List (List ℕ)) (spelling : List ℕ) (path : List (List ℕ)) → script_at tree place spelling ≡ None
    → path_of (text_of place ++ (spelling ++ codes ".html")) ≡ Ok path → is_script tree path ≡ true → ⊥
unfolding script_at
at-none tree place spelling path none reads script =
    let some : script_in tree (path_of (text_of place ++ (spelling ++ codes ".html"))) ≡ Some path =
    ap (script_in tree) reads ∙ ap (λ t. cond t (Some path) None) script in
    absurd (cc (none, some))

module _ {tree : Content} {chain : List TypeName} {parts : Parts} {q : List (List ℕ)} {k : Key} (cand : Candidate tree chain parts q k) where
  pub no_spelling : (place : List (List ℕ)) → cand.place ≡ place → script_at tree place cand.spelling ≡ None → ⊥
  no_spelling place same none =
      at-none tree cand.place cand.spelling q (subst (λ p. script_at tree p cand.spelling ≡ None) (sym same) none) cand.reads cand.script

  pub no_place : (names : List (List ℕ)) (place : List (List ℕ)) → spellings parts (name_of cand.type.segs) k.naming ≡ names → cand.place ≡ place → at_place tree names place ≡ None → ⊥
  unfolding at_place
  no_place names place spelt same none =
      no_spelling place same (none-at (script_at tree place) names none k.spelling cand.spelling (subst (λ ns. slice_get ns k.spelling ≡ Some cand.spelling) spelt cand.spelled))

  pub no_type : (naming : Naming) (type : TypeName) → k.naming ≡ naming → cand.type ≡ type → at_type tree parts naming type ≡ None → ⊥
  unfolding at_type
  no_type naming type named same none =
      let names = spellings parts (name_of type.segs) naming in
      let spelt : spellings parts (name_of cand.type.segs) k.naming ≡ names = ap (λ t. spellings parts (name_of t.segs) k.naming) same ∙ ap (spellings parts (name_of type.segs)) named in
      no_place names cand.place spelt refl
      (none-at (at_place tree names) (places type) none k.place cand.place (subst (λ t. slice_get (places t) k.place ≡ Some cand.place) same cand.of_type))

  pub no_naming : (naming : Naming) → k.naming ≡ naming → at_naming tree chain parts naming ≡ None → ⊥
  unfolding at_naming
  no_naming naming named none =
      no_type naming cand.type named refl (none-at (at_type tree parts naming) chain none k.type cand.type cand.in_chain)

-- without a result there is no candidate
pub no_result : (tree : Content) (chain : List TypeName) (parts : Parts) → search_result tree chain parts ≡ None → HasNoCandidate tree chain parts
unfolding search_result
no_result tree chain parts none path key cand =
    let has = complete parts key.naming cand.asked cand.offered (few_selectors cand) in
    no_naming cand key.naming refl (none-at (at_naming tree chain parts) (namings parts) none has.at key.naming has.here)

-- ---- the result, with the steps on the way to it

record Way (tree : Content) (chain : List TypeName) (parts : Parts) (path : List (List ℕ)) : Type 0 where
  naming : Hit (at_naming tree chain parts) (namings parts) path
  type : Hit (at_type tree parts naming.item) chain path
  place : Hit (at_place tree (spellings parts (name_of type.item.segs) naming.item)) (places type.item) path
  spelling : Hit (script_at tree place.item) (spellings parts (name_of type.item.segs) naming.item) path

way : (tree : Content) (chain : List TypeName) (parts : Parts) (path : List (List ℕ)) → search_result tree chain parts ≡ Some path → Way tree chain parts path
unfolding search_result at_naming at_type at_place
way tree chain parts path e =
    let n = hit (at_naming tree chain parts) (namings parts) path e in
    let t = hit (at_type tree parts n.item) chain path n.gives in
    let names = spellings parts (name_of t.item.segs) n.item in
    let p = hit (at_place tree names) (places t.item) path t.gives in
    record { naming = n; type = t; place = p; spelling = hit (script_at tree p.item) names path p.gives }

-- between keys of one naming the type, the place and the spelling decide
not_above : (b : Bool) → IsAbove b b → ⊥
not_above true h = cc (h.1)
not_above false h = cc (h.0)

abbrev ThenBetter : Key → Key → Type 0
ThenBetter k l = IsLessInTurn (k.type < l.type) (k.type ≡ l.type) (IsLessInTurn (k.place < l.place) (k.place ≡ l.place) (k.spelling < l.spelling))

better-same : (k l : Key) → k.naming ≡ l.naming → IsBetter k l → ThenBetter k l
better-same k l same better = ⊎_elim
    (λ less. absurd (lt_irrefl (selectors_in l.naming) (subst (λ n. selectors_in l.naming < selectors_in n) same less)))
    (λ p. ⊎_elim
    (λ above. absurd (not_above (has_extension l.naming) (subst (λ n. IsAbove (has_extension n) (has_extension l.naming)) same above)))
    (λ q. ⊎_elim
    (λ above. absurd (not_above (has_label l.naming) (subst (λ n. IsAbove (has_label n) (has_label l.naming)) same above)))
    (λ r. r.1)
    q.1)
    p.1)
    better

module _ {tree : Content} {chain : List TypeName} {parts : Parts} {path : List (List ℕ)} (w : Way tree chain parts path) where
  key_of : Key
  key_of = record { naming = w.naming.item; type = w.type.at; place = w.place.at; spelling = w.spelling.at }

  candidate_of : Candidate tree chain parts path key_of
  unfolding key_of
  candidate_of =
      let allowed = sound parts w.naming.at w.naming.item w.naming.here in
      let there = at-some tree w.place.item w.spelling.item path w.spelling.gives in
      record {
        type = w.type.item;
        place = w.place.item;
        spelling = w.spelling.item;
        asked = allowed.0;
        offered = allowed.1;
        in_chain = w.type.here;
        of_type = w.place.here;
        spelled = w.spelling.here;
        reads = there.0;
        script = there.1;
      }

  -- no candidate of the same naming is better
  none_beyond : (q : List (List ℕ)) (k : Key) (cand : Candidate tree chain parts q k) → k.naming ≡ w.naming.item → ThenBetter k key_of → ⊥
  unfolding key_of
  none_beyond q k cand named better =
      let spelt : (t : TypeName) → cand.type ≡ t → spellings parts (name_of cand.type.segs) k.naming ≡ spellings parts (name_of t.segs) w.naming.item =
      λ t same. ap (λ u. spellings parts (name_of u.segs) k.naming) same ∙ ap (spellings parts (name_of t.segs)) named in
      ⊎_elim
      (λ less. no_type cand w.naming.item cand.type named refl (w.type.before k.type cand.type less cand.in_chain))
      (λ p.
      let same = one_item chain k.type w.type.at cand.type w.type.item p.0 cand.in_chain w.type.here in
      let of_type = subst (λ t. slice_get (places t) k.place ≡ Some cand.place) same cand.of_type in
      ⊎_elim
      (λ less. no_place cand (spellings parts (name_of w.type.item.segs) w.naming.item) cand.place (spelt w.type.item same) refl (w.place.before k.place cand.place less of_type))
      (λ r.
      let home = one_item (places w.type.item) k.place w.place.at cand.place w.place.item r.0 of_type w.place.here in
      no_spelling cand w.place.item home
      (w.spelling.before k.spelling cand.spelling r.1 (subst (λ ns. slice_get ns k.spelling ≡ Some cand.spelling) (spelt w.type.item same) cand.spelled)))
      p.1)
      better

  none_better : (q : List (List ℕ)) (k : Key) (cand : Candidate tree chain parts q k) → IsBetter k key_of → ⊥
  unfolding key_of
  none_better q k cand better =
      let has = complete parts k.naming cand.asked cand.offered (few_selectors cand) in
      let heavy : weight w.naming.item ≤ weight k.naming = better-weight k.naming w.naming.item _ better in
      ⊎_elim
      (λ (before : has.at < w.naming.at). no_naming cand k.naming refl (w.naming.before has.at k.naming before has.here))
      (λ (not : w.naming.at ≤ has.at). ⊎_elim
      (λ (same : has.at ≡ w.naming.at).
      let named = one_item (namings parts) has.at w.naming.at k.naming w.naming.item same has.here w.naming.here in
      none_beyond q k cand named (better-same k key_of named better))
      (λ (ne : has.at ≢ w.naming.at).
      let light = falls-at (namings parts) w.naming.at has.at w.naming.item k.naming (namings-fall parts) (omega (arith, not, ne)) w.naming.here has.here in
      absurd (omega (arith, heavy, light)))
      (cases_eq has.at w.naming.at))
      (cases_lt has.at w.naming.at)

-- the result ranks first
pub result_first : (tree : Content) (chain : List TypeName) (parts : Parts) (path : List (List ℕ)) → search_result tree chain parts ≡ Some path → IsFirstScript tree chain parts path
result_first tree chain parts path e =
    let w = way tree chain parts path e in
    record { key = key_of w; candidate = candidate_of w; best = none_better w }

-- ---- ties

naming_of : ℕ → Bool → Bool → Naming
naming_of zero true true = LabelAndExtension
naming_of zero true false = Extension
naming_of zero false true = Label
naming_of zero false false = Method
naming_of (suc k) true label = SelectorsAndExtension (suc k)
naming_of (suc k) false label = Selectors (suc k)

by_columns : (parts : Parts) (r : Naming) → IsOffered parts r → naming_of (selectors_in r) (has_extension r) (has_label r) ≡ r
unfolding naming_of
by_columns parts (SelectorsAndExtension zero) h = absurd (omega (arith, h.0))
by_columns parts (SelectorsAndExtension (suc k)) h = refl
by_columns parts (Selectors zero) h = absurd (omega (arith, h.0.0))
by_columns parts (Selectors (suc k)) h = refl
by_columns parts LabelAndExtension h = refl
by_columns parts Extension h = refl
by_columns parts Label h = refl
by_columns parts Method h = refl

neither_less : (m n : ℕ) → (m < n → ⊥) → (n < m → ⊥) → m ≡ n
neither_less m n a b = ⊎_elim (λ h. absurd (a h)) (λ le. ⊎_elim (λ h. absurd (b h)) (λ ge. omega (arith, le, ge)) (cases_lt n m)) (cases_lt m n)

neither_above : (a b : Bool) → (IsAbove a b → ⊥) → (IsAbove b a → ⊥) → a ≡ b
neither_above true true p q = refl
neither_above true false p q = absurd (p (refl, refl))
neither_above false true p q = absurd (q (refl, refl))
neither_above false false p q = refl

record IsTied (k l : Key) : Type 0 where
  selectors : selectors_in k.naming ≡ selectors_in l.naming
  extension : has_extension k.naming ≡ has_extension l.naming
  label : has_label k.naming ≡ has_label l.naming
  type : k.type ≡ l.type
  place : k.place ≡ l.place
  spelling : k.spelling ≡ l.spelling

tied : (k l : Key) → (IsBetter k l → ⊥) → (IsBetter l k → ⊥) → IsTied k l
tied k l a b =
    let s = neither_less (selectors_in k.naming) (selectors_in l.naming) (λ h. b (inl h)) (λ h. a (inl h)) in
    let e = neither_above (has_extension k.naming) (has_extension l.naming) (λ h. a (inr (s, inl h))) (λ h. b (inr (sym s, inl h))) in
    let m = neither_above (has_label k.naming) (has_label l.naming) (λ h. a (inr (s, inr (e, inl h)))) (λ h. b (inr (sym s, inr (sym e, inl h)))) in
    let t = neither_less k.type l.type (λ h. a (inr (s, inr (e, inr (m, inl h))))) (λ h. b (inr (sym s, inr (sym e, inr (sym m, inl h))))) in
    let p = neither_less k.place l.place (λ h. a (inr (s, inr (e, inr (m, inr (t, inl h)))))) (λ h. b (inr (sym s, inr (sym e, inr (sym m, inr (sym t, inl h)))))) in
    let n = neither_less k.spelling l.spelling (λ h. a (inr (s, inr (e, inr (m, inr (t, inr (p, h))))))) (λ h. b (inr (sym s, inr (sym e, inr (sym m, inr (sym t, inr (sym p, h))))))) in
    record { selectors = s; extension = e; label = m; type = t; place = p; spelling = n }

same_Ok : (p q : List (List ℕ)) {r : Result (List (List ℕ)) PathFault} → r ≡ Ok p → r ≡ Ok q → p ≡ q
same_Ok p q e f = cc

pub tied_scripts : (tree : Content) (chain : List TypeName) (parts : Parts) (p q : List (List ℕ)) (k l : Key)
    → Candidate tree chain parts p k → Candidate tree chain parts q l → (IsBetter k l → ⊥) → (IsBetter l k → ⊥) → p ≡ q
tied_scripts tree chain parts p q k l c d a b =
    let t = tied k l a b in
    let named : k.naming ≡ l.naming =
    sym (by_columns parts k.naming c.offered) ∙ ap (λ n. naming_of n (has_extension k.naming) (has_label k.naming)) t.selectors
    ∙ ap (λ n. naming_of (selectors_in l.naming) n (has_label k.naming)) t.extension ∙ ap (naming_of (selectors_in l.naming) (has_extension l.naming)) t.label
    ∙ by_columns parts l.naming d.offered in
    let type = one_item chain k.type l.type c.type d.type t.type c.in_chain d.in_chain in
    let place = one_item (places d.type) k.place l.place c.place d.place t.place (subst (λ u. slice_get (places u) k.place ≡ Some c.place) type c.of_type) d.of_type in
    let spelt : spellings parts (name_of c.type.segs) k.naming ≡ spellings parts (name_of d.type.segs) l.naming =
    ap (λ u. spellings parts (name_of u.segs) k.naming) type ∙ ap (spellings parts (name_of d.type.segs)) named in
    let spelling = one_item (spellings parts (name_of d.type.segs) l.naming) k.spelling l.spelling c.spelling d.spelling t.spelling
    (subst (λ ns. slice_get ns k.spelling ≡ Some c.spelling) spelt c.spelled) d.spelled in
    let text : path_of (text_of c.place ++ (c.spelling ++ codes ".html")) ≡ path_of (text_of d.place ++ (d.spelling ++ codes ".html")) =
    ap (λ u. path_of (text_of u ++ (c.spelling ++ codes ".html"))) place ∙ ap (λ u. path_of (text_of d.place ++ (u ++ codes ".html"))) spelling in
    same_Ok p q c.reads (text ∙ d.reads)

irreflexive : (k : Key) → IsBetter k k → ⊥
irreflexive k (inl h) = omega (arith, h)
irreflexive k (inr (s, inl h)) = not_above (has_extension k.naming) h
irreflexive k (inr (s, inr (e, inl h))) = not_above (has_label k.naming) h
irreflexive k (inr (s, inr (e, inr (m, inl h)))) = omega (arith, h)
irreflexive k (inr (s, inr (e, inr (m, inr (t, inl h))))) = omega (arith, h)
irreflexive k (inr (s, inr (e, inr (m, inr (t, inr (p, h)))))) = omega (arith, h)

pub one_key : (tree : Content) (chain : List TypeName) (parts : Parts) (p q : List (List ℕ)) (k : Key)
    → Candidate tree chain parts p k → Candidate tree chain parts q k → p ≡ q
one_key tree chain parts p q k c d = tied_scripts tree chain parts p q k k c d (irreflexive k) (irreflexive k)

pub one_first : (tree : Content) (chain : List TypeName) (parts : Parts) (p q : List (List ℕ)) → IsFirstScript tree chain parts p → IsFirstScript tree chain parts q → p ≡ q
one_first tree chain parts p q f g =
    tied_scripts tree chain parts p q f.key g.key f.candidate g.candidate (g.best p f.key f.candidate) (f.best q g.key g.candidate)

by_first : (tree : Content) (chain : List TypeName) (parts : Parts) (o : Option (List (List ℕ))) → o ≡ search_result tree chain parts
    → IfSome o (λ path. IsFirstScript tree chain parts path)
by_first tree chain parts (Some path) is = result_first tree chain parts path (sym is)
by_first tree chain parts None is = tt

by_none : (tree : Content) (chain : List TypeName) (parts : Parts) (o : Option (List (List ℕ))) → o ≡ search_result tree chain parts
    → IfNone o (HasNoCandidate tree chain parts)
by_none tree chain parts (Some path) is = tt
by_none tree chain parts None is = no_result tree chain parts (sym is)

pub search_first : (tree : Content) (chain : List TypeName) (parts : Parts) → IfSome (search_result tree chain parts) (λ path. IsFirstScript tree chain parts path)
search_first tree chain parts = by_first tree chain parts (search_result tree chain parts) refl

pub search_none : (tree : Content) (chain : List TypeName) (parts : Parts) → IfNone (search_result tree chain parts) (HasNoCandidate tree chain parts)
search_none tree chain parts = by_none tree chain parts (search_result tree chain parts) refl

pub answers_first : {E : Type 0} (tree : Content) (chain : List TypeName) (parts : Parts) (r : Result (Option (List (List ℕ))) E) → IfOk r (λ o. o ≡ search_result tree chain parts)
    → IfOk r (λ o. IfSome o (λ path. IsFirstScript tree chain parts path))
answers_first tree chain parts (Ok o) is = by_first tree chain parts o is
answers_first tree chain parts (Err e) is = tt

pub answers_none : {E : Type 0} (tree : Content) (chain : List TypeName) (parts : Parts) (r : Result (Option (List (List ℕ))) E) → IfOk r (λ o. o ≡ search_result tree chain parts)
    → IfOk r (λ o. IfNone o (HasNoCandidate tree chain parts))
answers_none tree chain parts (Ok o) is = by_none tree chain parts o is
answers_none tree chain parts (Err e) is = tt
