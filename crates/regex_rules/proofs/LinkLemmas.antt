-- Gone over place by place, a pattern's places give which of its characters may come after which, and which take one of a text.
use Rattle.std.proofs.Common.{◌≡◌, ◌↔◌, ◌⊎◌, inl, inr, ℕ, zero, suc, ◌+◌, ◌/◌, ◌%◌, ◌<◌, ◌≤◌, ◌==◌, Bool, true, false, List, [], ◌∷◌, ◌++◌, length, get_or, refl, ap, sym, ◌∙◌, subst, append_assoc, append-nil, arith, bit_or, if◌then◌else◌, eqb-true, eq-eqb, add-zero, pow-suc, take-suc-set, drop-set-lt, take_all, drop, take, set, add-one, length-append, below_more}
use Rattle.std.proofs.lemmas.List.{get_or_append_left, get_or_push}
use Rattle.std.proofs.lemmas.Nat.Bits.{bit_at_lowest, bit_at-suc}
use Rattle.regex_rules.specs.declared.linking.Piece.{Piece}
use Rattle.regex_rules.specs.declared.linking.Rows.{Rows}
use Rattle.regex_rules.specs.declared.linking.Linking.{Linking}
use Rattle.regex_rules.specs.declared.takers.Takers.{Takers}
use Rattle.regex_rules.specs.declared.repeat.Repeat.{Repeat}
use Rattle.regex_rules.specs.declared.place.PatternPlace.{PatternPlace}
use Rattle.regex_rules.specs.declared.place.PatternPlace.TheVariants.{One, Open, Bar, Close}
use Rattle.regex_rules.specs.Trees.{PatternTree, Empty, Char, Bracket, Or, places_of}
use Rattle.regex_rules.specs.Languages.{is_one, may_go_on, Last, Earlier}
use Rattle.regex_rules.specs.Positions.{Has, bit_of, count, one_at, row_at, rows_at, Joins, Follows, Takes}
use Rattle.regex_rules.specs.Linkings.{next_bit, link, join, begun_rows, linking_at, past, linked, stand, stood, ones}
use Rattle.regex_rules.proofs.TextLemmas.{iff_then, iff_or}
use Rattle.regex_rules.proofs.WalkLemmas.{item_at, drop_past}
use Rattle.regex_rules.proofs.BitLemmas.{has_if, has_only}

-- ---- bits

bit_after : (n : ℕ) → next_bit (bit_of n) ≡ bit_of (suc n)
unfolding bit_of
bit_after n = omega (arith, pow-suc 2 n)

-- ---- the steps of the functions

pub one_linked : (place : PatternPlace) (places : List PatternPlace) (self : Linking) → linked (place ∷ places) self ≡ linked places (past place self)
unfolding linked
one_linked place places self = refl

pub none_linked : (self : Linking) → linked [] self ≡ self
unfolding linked
none_linked self = refl

pub one_stood : (c : ℕ) (place : PatternPlace) (places : List PatternPlace) (self : Takers) → stood c (place ∷ places) self ≡ stood c places (stand c place self)
unfolding stood
one_stood c place places self = refl

pub none_stood : (c : ℕ) (self : Takers) → stood c [] self ≡ self
unfolding stood
none_stood c self = refl

-- ---- what may come after which

-- the list of the sets, with what a tree adds
abbrev pub table : PatternTree → ℕ → List ℕ → List ℕ
table Empty n sets = sets
table (Char rows one repeat) n sets = join repeat (row_at Last rows n) (one_at (n + count rows)) (table rows n sets)
table (Bracket rows inner repeat) n sets = join repeat (row_at Last rows n) (rows_at inner (n + count rows)) (table inner (n + count rows) (table rows n sets))
table (Or rows) n sets = table rows n sets

abbrev pub rows_of : PatternTree → ℕ → Rows
rows_of tree n = record { earlier = row_at Earlier tree n; row = row_at Last tree n }

pub links : (tree : PatternTree) (n : ℕ) (sets : List ℕ) (places : List PatternPlace) (around : List Rows)
    → linked (places_of tree ++ places) (linking_at sets begun_rows around (bit_of n)) ≡ linked places (linking_at (table tree n sets) (rows_of tree n) around (bit_of (n + count tree)))
links Empty n sets places around = ap (λ (m : ℕ). linked places (linking_at sets begun_rows around (bit_of m))) (sym (add-zero n))
links (Char rows one repeat) n sets places around =
    let m = n + count rows in
    let same : suc m ≡ n + suc (count rows) = omega arith in
    let bit : next_bit (bit_of m) ≡ bit_of (n + suc (count rows)) = bit_after m ∙ ap bit_of same in
    ap (λ (ps : List PatternPlace). linked ps (linking_at sets begun_rows around (bit_of n))) (append_assoc (places_of rows) (One one repeat ∷ []) places)
    ∙ links rows n sets (One one repeat ∷ places) around
    ∙ one_linked (One one repeat) places (linking_at (table rows n sets) (rows_of rows n) around (bit_of m))
    ∙ ap (λ (b : ℕ). linked places (linking_at (table (Char rows one repeat) n sets) (rows_of (Char rows one repeat) n) around b)) bit
links (Bracket rows inner repeat) n sets places around =
    let m = n + count rows in
    let sum : m + count inner ≡ n + (count rows + count inner) = omega arith in
    ap (λ (ps : List PatternPlace). linked ps (linking_at sets begun_rows around (bit_of n)))
    (append_assoc (places_of rows) (Open ∷ places_of inner ++ (Close repeat ∷ [])) places ∙ ap (λ (ps : List PatternPlace). places_of rows ++ (Open ∷ ps)) (append_assoc (places_of inner) (Close repeat ∷ []) places))
    ∙ links rows n sets (Open ∷ (places_of inner ++ (Close repeat ∷ places))) around
    ∙ one_linked Open (places_of inner ++ (Close repeat ∷ places)) (linking_at (table rows n sets) (rows_of rows n) around (bit_of m))
    ∙ links inner m (table rows n sets) (Close repeat ∷ places) (rows_of rows n ∷ around)
    ∙ one_linked (Close repeat) places (linking_at (table inner m (table rows n sets)) (rows_of inner m) (rows_of rows n ∷ around) (bit_of (m + count inner)))
    ∙ ap (λ (k : ℕ). linked places (linking_at (table (Bracket rows inner repeat) n sets) (rows_of (Bracket rows inner repeat) n) around (bit_of k))) sum
links (Or rows) n sets places around =
    ap (λ (ps : List PatternPlace). linked ps (linking_at sets begun_rows around (bit_of n))) (append_assoc (places_of rows) (Bar ∷ []) places)
    ∙ links rows n sets (Bar ∷ places) around
    ∙ one_linked Bar places (linking_at (table rows n sets) (rows_of rows n) around (bit_of (n + count rows)))

-- one place further, where the places come from a list
pub linked_on : (places : List PatternPlace) (i : ℕ) (place : PatternPlace) (self next whole : Linking) → i < length places → place ≡ get_or places i place → next ≡ past place self
    → linked (drop i places) self ≡ whole → linked (drop (i + 1) places) next ≡ whole
linked_on places i place self next whole lt e f h =
    ap (linked (drop (i + 1) places)) f ∙ sym (ap (λ (ps : List PatternPlace). linked ps self) (item_at places i place place lt e) ∙ one_linked place (drop (i + 1) places) self) ∙ h

pub linked_over : (places : List PatternPlace) (i : ℕ) (self : Linking) → length places ≤ i → linked (drop i places) self ≡ self
linked_over places i self le = ap (λ (ps : List PatternPlace). linked ps self) (drop_past places i le) ∙ none_linked self

pub stood_on : (c : ℕ) (places : List PatternPlace) (i : ℕ) (place : PatternPlace) (self next whole : Takers) → i < length places → place ≡ get_or places i place → next ≡ stand c place self
    → stood c (drop i places) self ≡ whole → stood c (drop (i + 1) places) next ≡ whole
stood_on c places i place self next whole lt e f h =
    ap (stood c (drop (i + 1) places)) f ∙ sym (ap (λ (ps : List PatternPlace). stood c ps self) (item_at places i place place lt e) ∙ one_stood c place (drop (i + 1) places) self) ∙ h

pub stood_over : (c : ℕ) (places : List PatternPlace) (i : ℕ) (self : Takers) → length places ≤ i → stood c (drop i places) self ≡ self
stood_over c places i self le = ap (λ (ps : List PatternPlace). stood c ps self) (drop_past places i le) ∙ none_stood c self

-- one set further, where sets are joined one by one
pub link_on : (sets : List ℕ) (i left next v : ℕ) (whole : List ℕ) → i < length sets → v ≡ (if left % 2 == 1 then bit_or (get_or sets i 0) next else get_or sets i 0)
    → take i sets ++ link left next (drop i sets) ≡ whole → take (i + 1) (set sets i v) ++ link (left / 2) next (drop (i + 1) (set sets i v)) ≡ whole
link_on sets i left next v whole lt e h =
    let rest : List ℕ = link (left / 2) next (drop (i + 1) sets) in
    let begin : take (i + 1) (set sets i v) ≡ take i sets ++ v ∷ [] = rw (add-one) (take-suc-set sets i v lt) in
    let end : drop (i + 1) (set sets i v) ≡ drop (i + 1) sets = drop-set-lt (i + 1) sets i v (omega arith) in
    let here : link left next (drop i sets) ≡ v ∷ rest = ap (link left next) (item_at sets i (get_or sets i 0) 0 lt refl) ∙ ap (λ (n : ℕ). n ∷ rest) (sym e) in
    ap (λ (l : List ℕ). l ++ link (left / 2) next (drop (i + 1) (set sets i v))) begin ∙ ap (λ (l : List ℕ). take i sets ++ v ∷ [] ++ link (left / 2) next l) end
    ∙ append_assoc (take i sets) (v ∷ []) rest ∙ ap (λ (l : List ℕ). take i sets ++ l) (sym here) ∙ h

pub link_over : (sets : List ℕ) (i left next : ℕ) (whole : List ℕ) → i ≡ length sets → take i sets ++ link left next (drop i sets) ≡ whole → sets ≡ whole
link_over sets i left next whole e h =
    sym (append-nil sets) ∙ ap (λ (l : List ℕ). l ++ []) (sym (take_all i sets (omega (arith, e)))) ∙ ap (λ (l : List ℕ). take i sets ++ link left next l) (sym (drop_past sets i (omega (arith, e)))) ∙ h

-- ---- what the list says

itself : (A : Type 0) → A ↔ A
itself A = (λ x. x, λ x. x)

length_link : (after next : ℕ) (sets : List ℕ) → length (link after next sets) ≡ length sets
length_link after next [] = refl
length_link after next (set ∷ sets) = ap suc (length_link (after / 2) next sets)

odd_has : (after : ℕ) → ((after % 2 == 1) ≡ true) ↔ Has after 0
unfolding Has
odd_has after = (λ e. bit_at_lowest after ∙ eqb-true (after % 2) 1 e, λ h. eq-eqb (after % 2) 1 (sym (bit_at_lowest after) ∙ h))

half_has : (after k : ℕ) → Has (after / 2) k ↔ Has after (suc k)
unfolding Has
half_has after k = (λ h. bit_at-suc after k ∙ h, λ h. sym (bit_at-suc after k) ∙ h)

link_says : (after next : ℕ) (sets : List ℕ) (q p : ℕ) → q < length sets → Has (get_or (link after next sets) q 0) p ↔ (Has (get_or sets q 0) p ⊎ (Has after q × Has next p))
link_says after next [] q p lt = absurd (omega (arith, lt))
link_says after next (set ∷ sets) zero p lt =
    iff_then (has_if (after % 2 == 1) set next p) (iff_or (itself (Has set p)) (λ s. ((odd_has after).0 s.0, s.1), λ s. ((odd_has after).1 s.0, s.1)))
link_says after next (set ∷ sets) (suc q) p lt =
    iff_then (link_says (after / 2) next sets q p (omega (arith, lt))) (iff_or (itself (Has (get_or sets q 0) p)) (λ s. ((half_has after q).0 s.0, s.1), λ s. ((half_has after q).1 s.0, s.1)))

length_join : (repeat : Repeat) (one next : Piece) (sets : List ℕ) → length (join repeat one next sets) ≡ length sets
length_join repeat one next sets = length_link one.last next.first (if may_go_on repeat then link next.last next.first sets else sets) ∙ again (may_go_on repeat)
  where
    again : (b : Bool) → length (if b then link next.last next.first sets else sets) ≡ length sets
    again true = length_link next.last next.first sets
    again false = refl

again_says : (b : Bool) (last first : ℕ) (sets : List ℕ) (q p : ℕ) → q < length sets
    → Has (get_or (if b then link last first sets else sets) q 0) p ↔ (Has (get_or sets q 0) p ⊎ ((b ≡ true) × (Has last q × Has first p)))
again_says true last first sets q p lt = iff_then (link_says last first sets q p lt) (iff_or (itself (Has (get_or sets q 0) p)) (λ s. (refl, s), λ s. s.1))
again_says false last first sets q p lt = (λ h. inl h, λ s. elim s [ inl x ↦ x | inr y ↦ absurd (no y.0) ])
  where
    no : false ≡ true → ⊥
    no e = absurd cc

join_says : (repeat : Repeat) (one next : Piece) (sets : List ℕ) (q p : ℕ) → q < length sets
    → Has (get_or (join repeat one next sets) q 0) p ↔ (Has (get_or sets q 0) p ⊎ Joins one next repeat q p)
join_says repeat one next sets q p lt = (λ h. there ((link_says one.last next.first more q p long).0 h), λ s. (link_says one.last next.first more q p long).1 (back s))
  where
    more : List ℕ
    more = if may_go_on repeat then link next.last next.first sets else sets

    long : q < length more
    long = subst (λ (n : ℕ). q < n) (sym (size (may_go_on repeat))) lt
      where
        size : (b : Bool) → length (if b then link next.last next.first sets else sets) ≡ length sets
        size true = length_link next.last next.first sets
        size false = refl

    there : Has (get_or more q 0) p ⊎ (Has one.last q × Has next.first p) → Has (get_or sets q 0) p ⊎ Joins one next repeat q p
    there (inl h) = elim ((again_says (may_go_on repeat) next.last next.first sets q p lt).0 h) [ inl x ↦ inl x | inr y ↦ inr (y.1.1, inr (y.0, y.1.0)) ]
    there (inr s) = inr (s.1, inl s.0)

    back : Has (get_or sets q 0) p ⊎ Joins one next repeat q p → Has (get_or more q 0) p ⊎ (Has one.last q × Has next.first p)
    back (inl h) = inl ((again_says (may_go_on repeat) next.last next.first sets q p lt).1 (inl h))
    back (inr (first, inl last)) = inr (last, first)
    back (inr (first, inr (go, last))) = inl ((again_says (may_go_on repeat) next.last next.first sets q p lt).1 (inr (go, (last, first))))

length_table : (tree : PatternTree) (n : ℕ) (sets : List ℕ) → length (table tree n sets) ≡ length sets
length_table Empty n sets = refl
length_table (Char rows one repeat) n sets = length_join repeat (row_at Last rows n) (one_at (n + count rows)) (table rows n sets) ∙ length_table rows n sets
length_table (Bracket rows inner repeat) n sets =
    length_join repeat (row_at Last rows n) (rows_at inner (n + count rows)) (table inner (n + count rows) (table rows n sets)) ∙ length_table inner (n + count rows) (table rows n sets) ∙ length_table rows n sets
length_table (Or rows) n sets = length_table rows n sets

or_assoc : (A B C : Type 0) → ((A ⊎ B) ⊎ C) ↔ (A ⊎ (B ⊎ C))
or_assoc A B C = (there, back)
  where
    there : (A ⊎ B) ⊎ C → A ⊎ (B ⊎ C)
    there (inl (inl x)) = inl x
    there (inl (inr y)) = inr (inl y)
    there (inr z) = inr (inr z)

    back : A ⊎ (B ⊎ C) → (A ⊎ B) ⊎ C
    back (inl x) = inl (inl x)
    back (inr (inl y)) = inl (inr y)
    back (inr (inr z)) = inr z

nothing_more : (A : Type 0) → A ↔ (A ⊎ ⊥)
nothing_more A = (λ x. inl x, λ s. elim s [ inl x ↦ x | inr y ↦ absurd y ])

-- The list says what may come after each character.
pub table_says : (tree : PatternTree) (n : ℕ) (sets : List ℕ) (q p : ℕ) → q < length sets → Has (get_or (table tree n sets) q 0) p ↔ (Has (get_or sets q 0) p ⊎ Follows tree n q p)
table_says Empty n sets q p lt = nothing_more (Has (get_or sets q 0) p)
table_says (Char rows one repeat) n sets q p lt =
    iff_then (join_says repeat (row_at Last rows n) (one_at (n + count rows)) (table rows n sets) q p (subst (λ (k : ℕ). q < k) (sym (length_table rows n sets)) lt))
    (iff_then (iff_or (table_says rows n sets q p lt) (itself (Joins (row_at Last rows n) (one_at (n + count rows)) repeat q p)))
    (or_assoc (Has (get_or sets q 0) p) (Follows rows n q p) (Joins (row_at Last rows n) (one_at (n + count rows)) repeat q p)))
table_says (Bracket rows inner repeat) n sets q p lt =
    let m = n + count rows in
    let long : q < length (table rows n sets) = subst (λ (k : ℕ). q < k) (sym (length_table rows n sets)) lt in
    let longer : q < length (table inner m (table rows n sets)) = subst (λ (k : ℕ). q < k) (sym (length_table inner m (table rows n sets))) long in
    iff_then (join_says repeat (row_at Last rows n) (rows_at inner m) (table inner m (table rows n sets)) q p longer)
    (iff_then (iff_or (iff_then (table_says inner m (table rows n sets) q p long) (iff_or (table_says rows n sets q p lt) (itself (Follows inner m q p)))) (itself (Joins (row_at Last rows n) (rows_at inner m) repeat q p)))
    (iff_then (or_assoc (Has (get_or sets q 0) p ⊎ Follows rows n q p) (Follows inner m q p) (Joins (row_at Last rows n) (rows_at inner m) repeat q p))
    (or_assoc (Has (get_or sets q 0) p) (Follows rows n q p) (Follows inner m q p ⊎ Joins (row_at Last rows n) (rows_at inner m) repeat q p))))
table_says (Or rows) n sets q p lt = table_says rows n sets q p lt

-- ---- which characters take one of a text

-- the set, with what a tree adds
abbrev pub takers : ℕ → PatternTree → ℕ → ℕ → ℕ
takers c Empty n set = set
takers c (Char rows one repeat) n set = if is_one one c then bit_or (takers c rows n set) (bit_of (n + count rows)) else takers c rows n set
takers c (Bracket rows inner repeat) n set = takers c inner (n + count rows) (takers c rows n set)
takers c (Or rows) n set = takers c rows n set

abbrev pub takers_at : ℕ → ℕ → Takers
takers_at set bit = record { set = set; bit = bit }

pub stands : (c : ℕ) (tree : PatternTree) (n set : ℕ) (places : List PatternPlace) → stood c (places_of tree ++ places) (takers_at set (bit_of n)) ≡ stood c places (takers_at (takers c tree n set) (bit_of (n + count tree)))
stands c Empty n set places = ap (λ (m : ℕ). stood c places (takers_at set (bit_of m))) (sym (add-zero n))
stands c (Char rows one repeat) n set places =
    let m = n + count rows in
    let same : suc m ≡ n + suc (count rows) = omega arith in
    let bit : next_bit (bit_of m) ≡ bit_of (n + suc (count rows)) = bit_after m ∙ ap bit_of same in
    ap (λ (ps : List PatternPlace). stood c ps (takers_at set (bit_of n))) (append_assoc (places_of rows) (One one repeat ∷ []) places)
    ∙ stands c rows n set (One one repeat ∷ places)
    ∙ one_stood c (One one repeat) places (takers_at (takers c rows n set) (bit_of m))
    ∙ ap (λ (b : ℕ). stood c places (takers_at (takers c (Char rows one repeat) n set) b)) bit
stands c (Bracket rows inner repeat) n set places =
    let m = n + count rows in
    let sum : m + count inner ≡ n + (count rows + count inner) = omega arith in
    ap (λ (ps : List PatternPlace). stood c ps (takers_at set (bit_of n)))
    (append_assoc (places_of rows) (Open ∷ places_of inner ++ (Close repeat ∷ [])) places ∙ ap (λ (ps : List PatternPlace). places_of rows ++ (Open ∷ ps)) (append_assoc (places_of inner) (Close repeat ∷ []) places))
    ∙ stands c rows n set (Open ∷ (places_of inner ++ (Close repeat ∷ places)))
    ∙ one_stood c Open (places_of inner ++ (Close repeat ∷ places)) (takers_at (takers c rows n set) (bit_of m))
    ∙ stands c inner m (takers c rows n set) (Close repeat ∷ places)
    ∙ one_stood c (Close repeat) places (takers_at (takers c inner m (takers c rows n set)) (bit_of (m + count inner)))
    ∙ ap (λ (k : ℕ). stood c places (takers_at (takers c inner m (takers c rows n set)) (bit_of k))) sum
stands c (Or rows) n set places =
    ap (λ (ps : List PatternPlace). stood c ps (takers_at set (bit_of n))) (append_assoc (places_of rows) (Bar ∷ []) places)
    ∙ stands c rows n set (Bar ∷ places)
    ∙ one_stood c Bar places (takers_at (takers c rows n set) (bit_of (n + count rows)))

-- The set has the characters that take it.
pub takers_say : (c : ℕ) (tree : PatternTree) (n set p : ℕ) → n + count tree ≤ 64 → Has (takers c tree n set) p ↔ (Has set p ⊎ Takes tree n p c)
takers_say c Empty n set p small = nothing_more (Has set p)
takers_say c (Char rows one repeat) n set p small =
    let m = n + count rows in
    let lt : m < 64 = omega (arith, small) in
    let here : ((is_one one c ≡ true) × Has (bit_of m) p) ↔ ((p ≡ m) × (is_one one c ≡ true)) = (λ s. ((has_only m p lt).0 s.1, s.0), λ s. (s.1, (has_only m p lt).1 s.0)) in
    iff_then (has_if (is_one one c) (takers c rows n set) (bit_of m) p)
    (iff_then (iff_or (takers_say c rows n set p (omega (arith, small))) here)
    (or_assoc (Has set p) (Takes rows n p c) ((p ≡ m) × (is_one one c ≡ true))))
takers_say c (Bracket rows inner repeat) n set p small =
    let m = n + count rows in
    iff_then (takers_say c inner m (takers c rows n set) p (omega (arith, small)))
    (iff_then (iff_or (takers_say c rows n set p (omega (arith, small))) (itself (Takes inner m p c))) (or_assoc (Has set p) (Takes rows n p c) (Takes inner m p c)))
takers_say c (Or rows) n set p small = takers_say c rows n set p small

-- ---- how many characters

ones_more : (xs ys : List PatternPlace) → ones (xs ++ ys) ≡ ones xs + ones ys
ones_more [] ys = omega arith
ones_more (One one repeat ∷ xs) ys = let ih = ones_more xs ys in omega (arith, ih)
ones_more (Open ∷ xs) ys = ones_more xs ys
ones_more (Bar ∷ xs) ys = ones_more xs ys
ones_more (Close repeat ∷ xs) ys = ones_more xs ys

pub ones_of : (tree : PatternTree) → ones (places_of tree) ≡ count tree
ones_of Empty = refl
ones_of (Char rows one repeat) = let ih = ones_of rows in let more = ones_more (places_of rows) (One one repeat ∷ []) in omega (arith, ih, more)
ones_of (Bracket rows inner repeat) =
    let more = ones_more (places_of rows) (Open ∷ places_of inner ++ (Close repeat ∷ [])) in
    let inside = ones_more (places_of inner) (Close repeat ∷ []) in
    let left = ones_of rows in
    let right = ones_of inner in
    omega (arith, more, inside, left, right)
ones_of (Or rows) = let ih = ones_of rows in let more = ones_more (places_of rows) (Bar ∷ []) in omega (arith, ih, more)

pub count_on : (places : List PatternPlace) (i count v whole : ℕ) (place : PatternPlace) → i < length places → place ≡ get_or places i place → v ≡ ones (place ∷ [])
    → count + ones (drop i places) ≡ whole → count + v + ones (drop (i + 1) places) ≡ whole
count_on places i count v whole place lt e f h =
    let parts : ones (drop i places) ≡ ones (place ∷ []) + ones (drop (i + 1) places) = ap ones (item_at places i place place lt e) ∙ ones_more (place ∷ []) (drop (i + 1) places) in
    omega (arith, parts, f, h)

pub count_over : (places : List PatternPlace) (i count whole : ℕ) → length places ≤ i → count + ones (drop i places) ≡ whole → count ≡ whole
count_over places i count whole le h = let none : ones (drop i places) ≡ 0 = ap ones (drop_past places i le) in omega (arith, none, h)

-- a list of answers with one more
pub one_more_listed : (xs ys : List ℕ) (n x : ℕ) (f : ℕ → ℕ) → ys ≡ xs ++ x ∷ [] → length xs ≡ n → x ≡ f n → ((k : ℕ) → k < n → get_or xs k 0 ≡ f k)
    → (length ys ≡ n + 1) × ((k : ℕ) → k < n + 1 → get_or ys k 0 ≡ f k)
one_more_listed xs ys n x f e len is all =
    let size : length ys ≡ length xs + 1 = ap length e ∙ length-append xs (x ∷ []) in (
      omega (arith, size, len),
      below_more (λ k. get_or ys k 0 ≡ f k) n (λ k lt. ap (λ (l : List ℕ). get_or l k 0) e ∙ get_or_append_left xs (x ∷ []) 0 k (omega (arith, lt, len)) ∙ all k lt)
          (ap (λ (l : List ℕ). get_or l n 0) e ∙ get_or_push xs x 0 n len ∙ is),
    )
