-- A made name is free, and the least: of more names than the parent has kids and properties one isn't among theirs.
use Rattle.std.proofs.Common.{◌≡◌, ◌∙◌, ◌<◌, ◌≤◌, ◌+◌, ◌^◌, ◌||◌, ◌⊎◌, ⊎_elim, inl, inr, ap, sym, refl, subst, arith, ◌∷◌, [], ◌++◌, ℕ, zero, suc, List, Option, Some, None, true, false, Bool, length, decimal, cond}
use Rattle.std.specs.Prelude.{is_some, nat_eq, drop}
use Rattle.std.specs.Cmp.Lexicographic.{pointwise, nat_list_eq_equiv, same_text, texts_ties}
use Rattle.std.specs.FinMap.Entries.{is_some-find}
use Rattle.std.specs.List.{AllByRecursion, IsDistinct, list_any}
use Rattle.std.specs.Map.{keys_of}
use Rattle.std.specs.Option.{option_map_or}
use Rattle.std.specs.Ordering.{eq_by_cmp}
use Rattle.std.proofs.lemmas.Bool.{cases_eq, true≢false, or_left, or_right}
use Rattle.std.proofs.lemmas.Fmt.{decimal_injective}
use Rattle.std.proofs.lemmas.List.{append_cancel_left, length-append}
use Rattle.std.proofs.lemmas.List.Folds.{list_any-append}
use Rattle.std.proofs.lemmas.Map.Entries.{length-keys_of}
use Rattle.std.proofs.lemmas.Map.Made.{length-le_from_is_member}
use Rattle.sp_base.specs.Names.{by_name}
use Rattle.resource_tree.specs.declared.nodes.Node.{Node}
use Rattle.resource_tree.specs.Changes.{has_prop_at}
use Rattle.resource_tree.specs.Content.{Content, IsGood, kid, node_at, prop_at}
use Rattle.post_apply.specs.Laws.{IsMadeName}
use Rattle.post_apply.specs.Names.{free_name, free_number, is_taken, most_taken, numbered_name}

-- a name with the numbers below one
abbrev numbered_below : List ℕ → ℕ → List (List ℕ)
numbered_below name zero = []
numbered_below name (suc n) = numbered_name name n ∷ numbered_below name n

length-numbered_below : (name : List ℕ) (n : ℕ) → length (numbered_below name n) ≡ n
length-numbered_below name zero = refl
length-numbered_below name (suc n) = ap suc (length-numbered_below name n)

-- other numbers make other names
other_number : (name : List ℕ) (n m : ℕ) → m < n → n < 2 ^ 64 → pointwise nat_eq (numbered_name name n) (numbered_name name m) ≡ false
other_number name n m less small = by (pointwise nat_eq (numbered_name name n) (numbered_name name m)) refl
  where
    by : (b : Bool) → pointwise nat_eq (numbered_name name n) (numbered_name name m) ≡ b → b ≡ false
    by false is = refl
    by true is =
        let same : 95 ∷ decimal n ≡ 95 ∷ decimal m = append_cancel_left name (95 ∷ decimal n) (95 ∷ decimal m) (same_text (numbered_name name n) (numbered_name name m) (sym is)) in
        let one : n ≡ m = decimal_injective n m small (omega (arith, less, small)) (ap (λ (l : List ℕ). drop 1 l) same) in
        absurd (omega (arith, one, less))

apart : (name : List ℕ) (n m : ℕ) → m ≤ n → n < 2 ^ 64 → AllByRecursion (λ y. pointwise nat_eq (numbered_name name n) y ≡ false) (numbered_below name m)
apart name n zero within small = tt
apart name n (suc m) within small = (other_number name n m (omega (arith, within)) small, apart name n m (omega (arith, within)) small)

distinct : (name : List ℕ) (n : ℕ) → n ≤ 2 ^ 64 → IsDistinct (pointwise nat_eq) (numbered_below name n)
unfolding IsDistinct
distinct name zero small = tt
distinct name (suc n) small = (apart name n n (omega arith) (omega (arith, small)), distinct name n (omega (arith, small)))

-- where the names with all numbers below one are listed, so is each of those
listed : (names : List (List ℕ)) (name : List ℕ) (n : ℕ) → ((m : ℕ) → m < n → list_any (pointwise nat_eq (numbered_name name m)) names ≡ true)
    → (q : List ℕ) → list_any (pointwise nat_eq q) (numbered_below name n) ≡ true → list_any (pointwise nat_eq q) names ≡ true
listed names name zero all q is = absurd (true≢false (sym is))
listed names name (suc n) all q is = by (listed names name n (λ m below. all m (omega (arith, below))) q) (pointwise nat_eq q (numbered_name name n)) refl
  where
    by : (list_any (pointwise nat_eq q) (numbered_below name n) ≡ true → list_any (pointwise nat_eq q) names ≡ true) → (b : Bool) → pointwise nat_eq q (numbered_name name n) ≡ b → list_any (pointwise nat_eq q) names ≡ true
    by rest true one = ap (λ (p : List ℕ). list_any (pointwise nat_eq p) names) (same_text q (numbered_name name n) (sym one)) ∙ all n (omega arith)
    by rest false other = rest (sym (ap (λ b. b || list_any (pointwise nat_eq q) (numbered_below name n)) other) ∙ is)

-- so they are no more than the names of a list
pub no_more : (names : List (List ℕ)) (name : List ℕ) (n : ℕ) → n ≤ 2 ^ 64 → ((m : ℕ) → m < n → list_any (pointwise nat_eq (numbered_name name m)) names ≡ true) → n ≤ length names
no_more names name n small all =
    subst (λ k. k ≤ length names) (length-numbered_below name n)
    (length-le_from_is_member nat_list_eq_equiv (numbered_below name n) names (distinct name n small) (listed names name n all))

-- the names of a node's kids and properties
abbrev names_of : Node → List (List ℕ)
names_of node = node.kids ++ keys_of node.props

length-names_of : (node : Node) → length (names_of node) ≡ length node.kids + length node.props
length-names_of node = length-append node.kids (keys_of node.props) ∙ ap (λ n. length node.kids + n) (length-keys_of node.props)

same_test : (p q : List ℕ → Bool) → ((x : List ℕ) → p x ≡ q x) → (xs : List (List ℕ)) → list_any p xs ≡ list_any q xs
same_test p q alike [] = refl
same_test p q alike (x ∷ xs) = ap (λ b. b || list_any p xs) (alike x) ∙ ap (λ b. q x || b) (same_test p q alike xs)

named_prop : (node : Node) (name : List ℕ) → is_some (prop_at node name) ≡ list_any (pointwise nat_eq name) (keys_of node.props)
named_prop node name = is_some-find by_name name node.props ∙ same_test (eq_by_cmp by_name name) (pointwise nat_eq name) (λ x. sym (texts_ties name x)) (keys_of node.props)

-- a name that is taken is one of those
taken_named : (tree : Content) (parent : List (List ℕ)) (node : Node) (name : List ℕ) → IsGood tree → node_at tree parent ≡ Some node → is_taken tree parent name ≡ true → list_any (pointwise nat_eq name) (names_of node) ≡ true
taken_named tree parent node name good there_ taken = by (has_prop_at tree parent name) refl
  where
    both : list_any (pointwise nat_eq name) (names_of node) ≡ (list_any (pointwise nat_eq name) node.kids || list_any (pointwise nat_eq name) (keys_of node.props))
    both = list_any-append (pointwise nat_eq name) node.kids (keys_of node.props)

    prop : has_prop_at tree parent name ≡ list_any (pointwise nat_eq name) (keys_of node.props)
    prop = ap (λ o. option_map_or (λ (n : Node). is_some (prop_at n name)) o false) there_ ∙ named_prop node name

    by : (b : Bool) → has_prop_at tree parent name ≡ b → list_any (pointwise nat_eq name) (names_of node) ≡ true
    by true is = both ∙ or_right _ _ (sym prop ∙ is)
    by false is =
        let kid_there : is_some (node_at tree (kid parent name)) ≡ true = sym (ap (λ b. b || is_some (node_at tree (kid parent name))) is) ∙ taken in
        both ∙ or_left _ _ ((good.shape.nodes parent node there_).kids name ∙ kid_there)

-- below a node that isn't there nothing is taken
nothing_taken : (tree : Content) (parent : List (List ℕ)) (name : List ℕ) → IsGood tree → node_at tree parent ≡ None → is_taken tree parent name ≡ false
nothing_taken tree parent name good none = ap (λ b. b || is_some (node_at tree (kid parent name))) (ap (λ o. option_map_or (λ (n : Node). is_some (prop_at n name)) o false) none) ∙ by (node_at tree (kid parent name)) refl
  where
    by : (o : Option Node) → node_at tree (kid parent name) ≡ o → is_some o ≡ false
    by None is = refl
    by (Some node) is = absurd (true≢false (sym (good.shape.parents parent name (ap is_some is)) ∙ ap is_some none))

-- so not all numbers up to this one are taken
pub one_is_free : (tree : Content) (parent : List (List ℕ)) (name : List ℕ) → IsGood tree → most_taken tree parent < 2 ^ 64 → ((m : ℕ) → m < suc (most_taken tree parent) → is_taken tree parent (numbered_name name m) ≡ true) → ⊥
one_is_free tree parent name good small all = by (node_at tree parent) refl
  where
    by : (o : Option Node) → node_at tree parent ≡ o → ⊥
    by None none = true≢false (sym (all 0 (omega arith)) ∙ nothing_taken tree parent (numbered_name name 0) good none)
    by (Some node) there_ =
        let most : most_taken tree parent ≡ length node.kids + length node.props = ap (λ o. option_map_or (λ (n : Node). length n.kids + length n.props) o 0) there_ in
        let within : suc (most_taken tree parent) ≤ length (names_of node)
        = no_more (names_of node) name (suc (most_taken tree parent)) (omega (arith, small)) (λ m below. taken_named tree parent node (numbered_name name m) good there_ (all m below)) in
        omega (arith, within, most, length-names_of node)

-- where a search ends: before it all are taken, and it is free or the last
abbrev Ends : Content → List (List ℕ) → List ℕ → ℕ → ℕ → Type 0
Ends tree parent name last n = ((m : ℕ) → m < n → is_taken tree parent (numbered_name name m) ≡ true) × ((is_taken tree parent (numbered_name name n) ≡ false) ⊎ (n ≡ last))

one_more : (P : ℕ → Type 0) (n : ℕ) → ((m : ℕ) → m < n → P m) → P n → (m : ℕ) → m < suc n → P m
one_more P n all here m below = ⊎_elim (λ e. subst P (sym e) here) (λ ne. all m (omega (arith, below, ne))) (cases_eq m n)

search_ends : (tree : Content) (parent : List (List ℕ)) (name : List ℕ) (n more : ℕ) → ((m : ℕ) → m < n → is_taken tree parent (numbered_name name m) ≡ true) → Ends tree parent name (n + more) (free_number tree parent name n more)
unfolding free_number
search_ends tree parent name n zero all = (all, inr (omega arith))
search_ends tree parent name n (suc more) all = by (search_ends tree parent name (n + 1) more) (is_taken tree parent (numbered_name name n)) refl
  where
    by : (((m : ℕ) → m < n + 1 → is_taken tree parent (numbered_name name m) ≡ true) → Ends tree parent name (n + 1 + more) (free_number tree parent name (n + 1) more))
        → (b : Bool) → is_taken tree parent (numbered_name name n) ≡ b → Ends tree parent name (n + suc more) (cond b (free_number tree parent name (n + 1) more) n)
    by rest true is =
        let before : (m : ℕ) → m < n + 1 → is_taken tree parent (numbered_name name m) ≡ true
        = λ m below. one_more (λ k. is_taken tree parent (numbered_name name k) ≡ true) n all is m (omega (arith, below)) in
        let end : n + 1 + more ≡ n + suc more = omega arith in
        subst (λ last. Ends tree parent name last (free_number tree parent name (n + 1) more)) end (rest before)
    by rest false is = (all, inl is)

-- the number that is found is free
number_free : (tree : Content) (parent : List (List ℕ)) (name : List ℕ) → IsGood tree → most_taken tree parent < 2 ^ 64 → is_taken tree parent (numbered_name name (free_number tree parent name 0 (most_taken tree parent))) ≡ false
number_free tree parent name good small = ⊎_elim (λ free. free) (λ last. by last (is_taken tree parent (numbered_name name found)) refl) ends.1
  where
    found : ℕ
    found = free_number tree parent name 0 (most_taken tree parent)

    ends : Ends tree parent name (0 + most_taken tree parent) found
    ends = search_ends tree parent name 0 (most_taken tree parent) (λ m below. absurd (omega (arith, below)))

    by : found ≡ 0 + most_taken tree parent → (b : Bool) → is_taken tree parent (numbered_name name found) ≡ b → b ≡ false
    by last false is = refl
    by last true is = absurd (one_is_free tree parent name good small
        (λ m below. one_more (λ k. is_taken tree parent (numbered_name name k) ≡ true) found ends.0 is m (omega (arith, below, last))))

-- so the made name is free, and the least
pub made_name : (tree : Content) (parent : List (List ℕ)) (hint : List ℕ) → IsGood tree → most_taken tree parent < 2 ^ 64 → IsMadeName tree parent hint (free_name tree parent hint)
made_name tree parent hint good small = by (is_taken tree parent hint) refl
  where
    found : ℕ
    found = free_number tree parent hint 0 (most_taken tree parent)

    before : (m : ℕ) → m < found → is_taken tree parent (numbered_name hint m) ≡ true
    before = (search_ends tree parent hint 0 (most_taken tree parent) (λ m below. absurd (omega (arith, below)))).0

    by : (b : Bool) → is_taken tree parent hint ≡ b → IsMadeName tree parent hint (cond b (numbered_name hint found) hint)
    by true is = record { free = number_free tree parent hint good small; bare = λ free. absurd (true≢false (sym is ∙ free)); least = λ taken. (found, refl, before) }
    by false is = record { free = is; bare = λ free. refl; least = λ taken. absurd (true≢false (sym taken ∙ is)) }
