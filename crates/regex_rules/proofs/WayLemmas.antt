-- The texts of a pattern are those that have a way through its characters.
use Rattle.std.proofs.Common.{◌≡◌, ◌↔◌, ◌⊎◌, inl, inr, ℕ, suc, ◌+◌, ◌<◌, ◌≤◌, Bool, true, false, ◌||◌, List, [], ◌∷◌, ◌++◌, refl, sym, subst, append_assoc, append-nil, arith, bit_or, le_of_eq}
use Rattle.regex_rules.specs.declared.character.OneChar.{OneChar}
use Rattle.regex_rules.specs.declared.linking.Piece.{Piece}
use Rattle.regex_rules.specs.declared.repeat.Repeat.{Repeat}
use Rattle.regex_rules.specs.Trees.{PatternTree, Empty, Char, Bracket, Or}
use Rattle.regex_rules.specs.Languages.{Texts, Repeated, IsOne, is_one, may_lack, may_go_on, Which, Last, Earlier, InRow, InLanguage}
use Rattle.regex_rules.specs.Positions.{Has, bit_of, count, piece_of, either, followed, so_often, one_at, row_at, rows_at, Joins, Follows, Takes, GoesOn, IsWay}
use Rattle.regex_rules.proofs.TextLemmas.{Reach, Inside, Whole, Says, says_or, says_iff, says_true, says_false, iff_then, repeated_empty, one_end, reach_nothing, reach_whole, reach_or}
use Rattle.regex_rules.proofs.MarkLemmas.{Next, lacks_past, says_itself}
use Rattle.regex_rules.proofs.MatchLemmas.{reaches_whole, snoc_is_some}
use Rattle.regex_rules.proofs.BitLemmas.{has_or, has_nothing, has_only, has_if}
use Rattle.regex_rules.proofs.PartLemmas.{EndsIn, Comes, both_end, both_step}

-- A text, which begins after one of the set, has just taken this character of rows.
abbrev pub At : Texts → PatternTree → ℕ → ℕ → Texts
At P Empty n p w = ⊥
At P (Char rows one repeat) n p w = At P rows n p w ⊎ ((p ≡ n + count rows) × Reach (Inside (Next P rows) repeat (IsOne one)) (IsOne one) w)
At P (Bracket rows inner repeat) n p w = At P rows n p w ⊎ At (Inside (Next P rows) repeat (InLanguage inner)) inner (n + count rows) p w
At P (Or rows) n p w = At P rows n p w

-- ---- which numbers the characters of a tree have

abbrev pub Within : ℕ → ℕ → ℕ → Type 0
Within low high p = (low ≤ p) × (p < high)

wider : (low mid high p : ℕ) → mid ≤ high → Within low mid p → Within low high p
wider low mid high p le r = (r.0, omega (arith, r.1, le))

pub at_within : (tree : PatternTree) (P : Texts) (n p : ℕ) (w : List ℕ) → At P tree n p w → Within n (n + count tree) p
at_within Empty P n p w a = absurd a
at_within (Char rows one repeat) P n p w (inl a) = let r = at_within rows P n p w a in (r.0, omega (arith, r.1))
at_within (Char rows one repeat) P n p w (inr (e, a)) = (omega (arith, e), omega (arith, e))
at_within (Bracket rows inner repeat) P n p w (inl a) = let r = at_within rows P n p w a in (r.0, omega (arith, r.1))
at_within (Bracket rows inner repeat) P n p w (inr a) = let r = at_within inner (Inside (Next P rows) repeat (InLanguage inner)) (n + count rows) p w a in (omega (arith, r.0), omega (arith, r.1))
at_within (Or rows) P n p w a = at_within rows P n p w a

pub takes_within : (tree : PatternTree) (n p c : ℕ) → Takes tree n p c → Within n (n + count tree) p
takes_within Empty n p c t = absurd t
takes_within (Char rows one repeat) n p c (inl t) = let r = takes_within rows n p c t in (r.0, omega (arith, r.1))
takes_within (Char rows one repeat) n p c (inr (e, fits)) = (omega (arith, e), omega (arith, e))
takes_within (Bracket rows inner repeat) n p c (inl t) = let r = takes_within rows n p c t in (r.0, omega (arith, r.1))
takes_within (Bracket rows inner repeat) n p c (inr t) = let r = takes_within inner (n + count rows) p c t in (omega (arith, r.0), omega (arith, r.1))
takes_within (Or rows) n p c t = takes_within rows n p c t

-- those with which the texts of a piece begin or end
pub record Spans (low high : ℕ) (one : Piece) : Type 0 where
  pub first : (p : ℕ) → Has one.first p → Within low high p
  pub last : (p : ℕ) → Has one.last p → Within low high p

spans_none : (low high : ℕ) (lacks : Bool) → Spans low high (piece_of 0 0 lacks)
spans_none low high lacks = record { first = λ p h. absurd (has_nothing p h); last = λ p h. absurd (has_nothing p h) }

spans_only : (m high : ℕ) → m < 64 → m < high → Spans m high (one_at m)
spans_only m high small lt = record { first = here; last = here }
  where
    here : (p : ℕ) → Has (bit_of m) p → Within m high p
    here p h = let same = (has_only m p small).0 h in (omega (arith, same), omega (arith, same, lt))

spans_wide : (low lower mid high : ℕ) (one : Piece) → lower ≤ low → mid ≤ high → Spans low mid one → Spans lower high one
spans_wide low lower mid high one le lt s = record {
  first = λ p h. let r = s.first p h in (omega (arith, r.0, le), omega (arith, r.1, lt));
  last = λ p h. let r = s.last p h in (omega (arith, r.0, le), omega (arith, r.1, lt));
}

spans_either : (low high : ℕ) (one other : Piece) → Spans low high one → Spans low high other → Spans low high (either one other)
spans_either low high one other s t = record {
  first = λ p h. elim ((has_or one.first other.first p).0 h) [ inl x ↦ s.first p x | inr y ↦ t.first p y ];
  last = λ p h. elim ((has_or one.last other.last p).0 h) [ inl x ↦ s.last p x | inr y ↦ t.last p y ];
}

spans_then : (low high : ℕ) (one next : Piece) → Spans low high one → Spans low high next → Spans low high (followed one next)
spans_then low high one next s t = record {
  first = λ p h. elim ((has_if one.lacks one.first next.first p).0 h) [ inl x ↦ s.first p x | inr y ↦ t.first p y.1 ];
  last = λ p h. elim ((has_if next.lacks next.last one.last p).0 h) [ inl x ↦ t.last p x | inr y ↦ s.last p y.1 ];
}

spans_so_often : (low high : ℕ) (repeat : Repeat) (one : Piece) → Spans low high one → Spans low high (so_often repeat one)
spans_so_often low high repeat one s = record { first = s.first; last = s.last }

pub row_spans : (tree : PatternTree) (which : Which) (n : ℕ) → n + count tree ≤ 64 → Spans n (n + count tree) (row_at which tree n)
row_spans Empty Last n small = spans_none n (n + 0) true
row_spans Empty Earlier n small = spans_none n (n + 0) false
row_spans (Char rows one repeat) Last n small =
    let m = n + count rows in
    let high = n + suc (count rows) in
    spans_then n high (row_at Last rows n) (so_often repeat (one_at m)) (spans_wide n n m high (row_at Last rows n) (omega arith) (omega arith) (row_spans rows Last n (omega (arith, small))))
    (spans_so_often n high repeat (one_at m) (spans_wide m n high high (one_at m) (omega arith) (omega arith) (spans_only m high (omega (arith, small)) (omega arith))))
row_spans (Char rows one repeat) Earlier n small = spans_wide n n (n + count rows) (n + suc (count rows)) (row_at Earlier rows n) (omega arith) (omega arith) (row_spans rows Earlier n (omega (arith, small)))
row_spans (Bracket rows inner repeat) Last n small =
    let m = n + count rows in
    let high = n + (count rows + count inner) in
    spans_then n high (row_at Last rows n) (so_often repeat (either (row_at Earlier inner m) (row_at Last inner m))) (spans_wide n n m high (row_at Last rows n) (omega arith) (omega arith) (row_spans rows Last n (omega (arith, small))))
    (spans_so_often n high repeat (either (row_at Earlier inner m) (row_at Last inner m)) (spans_wide m n (m + count inner) high (either (row_at Earlier inner m) (row_at Last inner m)) (omega arith) (omega arith)
    (spans_either m (m + count inner) (row_at Earlier inner m) (row_at Last inner m) (row_spans inner Earlier m (omega (arith, small))) (row_spans inner Last m (omega (arith, small))))))
row_spans (Bracket rows inner repeat) Earlier n small =
    spans_wide n n (n + count rows) (n + (count rows + count inner)) (row_at Earlier rows n) (omega arith) (omega arith) (row_spans rows Earlier n (omega (arith, small)))
row_spans (Or rows) Last n small = spans_none n (n + count rows) true
row_spans (Or rows) Earlier n small = spans_either n (n + count rows) (row_at Earlier rows n) (row_at Last rows n) (row_spans rows Earlier n small) (row_spans rows Last n small)

pub whole_spans : (tree : PatternTree) (n : ℕ) → n + count tree ≤ 64 → Spans n (n + count tree) (rows_at tree n)
whole_spans tree n small = spans_either n (n + count tree) (row_at Earlier tree n) (row_at Last tree n) (row_spans tree Earlier n small) (row_spans tree Last n small)

pub follows_within : (tree : PatternTree) (n q p : ℕ) → n + count tree ≤ 64 → Follows tree n q p → Within n (n + count tree) q × Within n (n + count tree) p
follows_within Empty n q p small f = absurd f
follows_within (Char rows one repeat) n q p small (inl f) =
    let r = follows_within rows n q p (omega (arith, small)) f in
    (wider n (n + count rows) (n + suc (count rows)) q (omega arith) r.0, wider n (n + count rows) (n + suc (count rows)) p (omega arith) r.1)
follows_within (Char rows one repeat) n q p small (inr (first, last)) =
    let m = n + count rows in
    let here = (has_only m p (omega (arith, small))).0 first in
    (after last, (omega (arith, here), omega (arith, here)))
  where
    after : Has (row_at Last rows n).last q ⊎ ((may_go_on repeat ≡ true) × Has (bit_of (n + count rows)) q) → Within n (n + suc (count rows)) q
    after (inl h) = wider n (n + count rows) (n + suc (count rows)) q (omega arith) ((row_spans rows Last n (omega (arith, small))).last q h)
    after (inr (go, h)) = let same = (has_only (n + count rows) q (omega (arith, small))).0 h in (omega (arith, same), omega (arith, same))
follows_within (Bracket rows inner repeat) n q p small (inl f) =
    let r = follows_within rows n q p (omega (arith, small)) f in
    (wider n (n + count rows) (n + (count rows + count inner)) q (omega arith) r.0, wider n (n + count rows) (n + (count rows + count inner)) p (omega arith) r.1)
follows_within (Bracket rows inner repeat) n q p small (inr (inl f)) =
    let r = follows_within inner (n + count rows) q p (omega (arith, small)) f in
    ((omega (arith, r.0.0), omega (arith, r.0.1)), (omega (arith, r.1.0), omega (arith, r.1.1)))
follows_within (Bracket rows inner repeat) n q p small (inr (inr (first, last))) =
    let r = (whole_spans inner (n + count rows) (omega (arith, small))).first p first in
    (after last, (omega (arith, r.0), omega (arith, r.1)))
  where
    after : Has (row_at Last rows n).last q ⊎ ((may_go_on repeat ≡ true) × Has (rows_at inner (n + count rows)).last q) → Within n (n + (count rows + count inner)) q
    after (inl h) = wider n (n + count rows) (n + (count rows + count inner)) q (omega arith) ((row_spans rows Last n (omega (arith, small))).last q h)
    after (inr (go, h)) = let r = (whole_spans inner (n + count rows) (omega (arith, small))).last q h in (omega (arith, r.0), omega (arith, r.1))
follows_within (Or rows) n q p small f = follows_within rows n q p small f

-- ---- nothing

one_is_some : (one : OneChar) → IsOne one [] → ⊥
one_is_some one (c, fits, e) = absurd cc

so_often_lacks : (repeat : Repeat) (A : Texts) (lacks : Bool) → Says lacks (A []) → Says (may_lack repeat || lacks) (Repeated repeat A [])
so_often_lacks repeat A lacks says = says_iff (may_lack repeat || lacks) (says_or (may_lack repeat) lacks (says_itself (may_lack repeat)) says) (repeated_empty repeat A)

-- Nothing is a text of a row exactly where the row lacks.
pub row_lacks : (tree : PatternTree) (which : Which) (n : ℕ) → Says (row_at which tree n).lacks (InRow which tree [])
row_lacks Empty Last n = says_true refl
row_lacks Empty Earlier n = says_false (λ x. x)
row_lacks (Char rows one repeat) Last n =
    lacks_past (Repeated repeat (IsOne one)) rows (row_at Last rows n).lacks (may_lack repeat || false) (row_lacks rows Last n) (so_often_lacks repeat (IsOne one) false (says_false (one_is_some one)))
row_lacks (Char rows one repeat) Earlier n = row_lacks rows Earlier n
row_lacks (Bracket rows inner repeat) Last n =
    let m = n + count rows in
    lacks_past (Repeated repeat (InLanguage inner)) rows (row_at Last rows n).lacks (may_lack repeat || ((row_at Earlier inner m).lacks || (row_at Last inner m).lacks)) (row_lacks rows Last n)
    (so_often_lacks repeat (InLanguage inner) ((row_at Earlier inner m).lacks || (row_at Last inner m).lacks)
    (says_or (row_at Earlier inner m).lacks (row_at Last inner m).lacks (row_lacks inner Earlier m) (row_lacks inner Last m)))
row_lacks (Bracket rows inner repeat) Earlier n = row_lacks rows Earlier n
row_lacks (Or rows) Last n = says_true refl
row_lacks (Or rows) Earlier n = says_or (row_at Earlier rows n).lacks (row_at Last rows n).lacks (row_lacks rows Earlier n) (row_lacks rows Last n)

pub whole_lacks : (tree : PatternTree) (n : ℕ) → Says (rows_at tree n).lacks (InLanguage tree [])
whole_lacks tree n = says_or (row_at Earlier tree n).lacks (row_at Last tree n).lacks (row_lacks tree Earlier n) (row_lacks tree Last n)

-- ---- the end of a text

flip : {A B : Type 0} → A ↔ B → B ↔ A
flip f = (f.1, f.0)

ends_either : (R S : Type 0) (At : ℕ → Texts) (one other : ℕ) (w : List ℕ) → R ↔ EndsIn At one w → S ↔ EndsIn At other w → (R ⊎ S) ↔ EndsIn At (bit_or one other) w
ends_either R S At one other w r s = (there, λ e. back e.0 e.1 ((has_or one other e.0).0 e.2))
  where
    there : R ⊎ S → EndsIn At (bit_or one other) w
    there (inl x) = let e = r.0 x in (e.0, e.1, (has_or one other e.0).1 (inl e.2))
    there (inr y) = let e = s.0 y in (e.0, e.1, (has_or one other e.0).1 (inr e.2))

    back : (q : ℕ) → At q w → Has one q ⊎ Has other q → R ⊎ S
    back q a (inl h) = inl (r.1 (q, a, h))
    back q a (inr h) = inr (s.1 (q, a, h))

-- ends of earlier rows
ends_more : (R : Type 0) (At Late : ℕ → Texts) (set mid : ℕ) (w : List ℕ) → R ↔ EndsIn At set w → ((q : ℕ) → Has set q → q < mid) → ((q : ℕ) → Late q w → mid ≤ q)
    → R ↔ ((q : ℕ) × (At q w ⊎ Late q w) × Has set q)
ends_more R At Late set mid w r low high = (λ x. let e = r.0 x in (e.0, inl e.1, e.2), λ e. back e.0 e.1 e.2)
  where
    back : (q : ℕ) → At q w ⊎ Late q w → Has set q → R
    back q (inl a) h = r.1 (q, a, h)
    back q (inr l) h = let lt = low q h in let le = high q l in absurd (omega (arith, lt, le))

only_end : (Q : Texts) (one : OneChar) (m : ℕ) (w : List ℕ) → m < 64 → Reach Q (IsOne one) w ↔ EndsIn (λ q v. (q ≡ m) × Reach Q (IsOne one) v) (bit_of m) w
only_end Q one m w small = (λ r. (m, (refl, r), (has_only m m small).1 refl), λ e. e.1.1)

-- Of a text that takes more than nothing of a row, the last character is taken by one with which the row ends.
pub row_ends : (tree : PatternTree) (which : Which) (P : Texts) (n : ℕ) (w : List ℕ) → n + count tree ≤ 64 → Reach P (InRow which tree) w ↔ EndsIn (λ q v. At P tree n q v) (row_at which tree n).last w
row_ends Empty Last P n w small = (λ r. absurd (reach_whole P w r), λ e. absurd e.1)
row_ends Empty Earlier P n w small = (λ r. absurd r.3, λ e. absurd e.1)
row_ends (Char rows one repeat) Last P n w small =
    let m = n + count rows in
    let Q : Texts = Inside (Next P rows) repeat (IsOne one) in
    both_end P (InRow Last rows) (IsOne one) repeat (row_at Last rows n) (one_at m) (λ q v. At P rows n q v) (λ R q v. (q ≡ m) × Reach R (IsOne one) v) m w
    (row_lacks rows Last n) (so_often_lacks repeat (IsOne one) false (says_false (one_is_some one)))
    (row_ends rows Last P n w (omega (arith, small))) (only_end Q one m w (omega (arith, small)))
    (λ q a. (at_within rows P n q w a).1) (λ q a. le_of_eq (sym a.0))
    (λ q h. ((row_spans rows Last n (omega (arith, small))).last q h).1) (λ q h. le_of_eq (sym ((has_only m q (omega (arith, small))).0 h)))
row_ends (Char rows one repeat) Earlier P n w small =
    let m = n + count rows in
    ends_more (Reach P (InRow Earlier rows) w) (λ q v. At P rows n q v) (λ q v. (q ≡ m) × Reach (Inside (Next P rows) repeat (IsOne one)) (IsOne one) v) (row_at Earlier rows n).last m w
    (row_ends rows Earlier P n w (omega (arith, small))) (λ q h. ((row_spans rows Earlier n (omega (arith, small))).last q h).1) (λ q a. le_of_eq (sym a.0))
row_ends (Bracket rows inner repeat) Last P n w small =
    let m = n + count rows in
    let Q : Texts = Inside (Next P rows) repeat (InLanguage inner) in
    both_end P (InRow Last rows) (InLanguage inner) repeat (row_at Last rows n) (rows_at inner m) (λ q v. At P rows n q v) (λ R q v. At R inner m q v) m w
    (row_lacks rows Last n) (so_often_lacks repeat (InLanguage inner) (rows_at inner m).lacks (whole_lacks inner m))
    (row_ends rows Last P n w (omega (arith, small)))
    (iff_then (flip (reach_or Q (InRow Earlier inner) (InRow Last inner) w))
    (ends_either (Reach Q (InRow Earlier inner) w) (Reach Q (InRow Last inner) w) (λ q v. At Q inner m q v) (row_at Earlier inner m).last (row_at Last inner m).last w
    (row_ends inner Earlier Q m w (omega (arith, small))) (row_ends inner Last Q m w (omega (arith, small)))))
    (λ q a. (at_within rows P n q w a).1) (λ q a. (at_within inner Q m q w a).0)
    (λ q h. ((row_spans rows Last n (omega (arith, small))).last q h).1) (λ q h. ((whole_spans inner m (omega (arith, small))).last q h).0)
row_ends (Bracket rows inner repeat) Earlier P n w small =
    let m = n + count rows in
    let Q : Texts = Inside (Next P rows) repeat (InLanguage inner) in
    ends_more (Reach P (InRow Earlier rows) w) (λ q v. At P rows n q v) (λ q v. At Q inner m q v) (row_at Earlier rows n).last m w
    (row_ends rows Earlier P n w (omega (arith, small))) (λ q h. ((row_spans rows Earlier n (omega (arith, small))).last q h).1) (λ q a. (at_within inner Q m q w a).0)
row_ends (Or rows) Last P n w small = (λ r. absurd (reach_whole P w r), λ e. absurd (has_nothing e.0 e.2))
row_ends (Or rows) Earlier P n w small =
    iff_then (flip (reach_or P (InRow Earlier rows) (InRow Last rows) w))
    (ends_either (Reach P (InRow Earlier rows) w) (Reach P (InRow Last rows) w) (λ q v. At P rows n q v) (row_at Earlier rows n).last (row_at Last rows n).last w
    (row_ends rows Earlier P n w small) (row_ends rows Last P n w small))

pub whole_ends : (tree : PatternTree) (P : Texts) (n : ℕ) (w : List ℕ) → n + count tree ≤ 64 → Reach P (InLanguage tree) w ↔ EndsIn (λ q v. At P tree n q v) (rows_at tree n).last w
whole_ends tree P n w small =
    iff_then (flip (reach_or P (InRow Earlier tree) (InRow Last tree) w))
    (ends_either (Reach P (InRow Earlier tree) w) (Reach P (InRow Last tree) w) (λ q v. At P tree n q v) (row_at Earlier tree n).last (row_at Last tree n).last w
    (row_ends tree Earlier P n w small) (row_ends tree Last P n w small))

-- ---- one more character

comes_as : (T E F G : Type 0) (Of : ℕ → Texts) (H K : ℕ → Type 0) (w : List ℕ) → F ↔ G → ((q : ℕ) → H q ↔ K q) → (T × Comes E F Of H w) ↔ (T × Comes E G Of K w)
comes_as T E F G Of H K w f h = (λ s. (s.0, there s.1), λ s. (s.0, back s.1))
  where
    there : Comes E F Of H w → Comes E G Of K w
    there (inl (e, x)) = inl (e, f.0 x)
    there (inr (q, a, x)) = inr (q, a, (h q).0 x)

    back : Comes E G Of K w → Comes E F Of H w
    back (inl (e, x)) = inl (e, f.1 x)
    back (inr (q, a, x)) = inr (q, a, (h q).1 x)

first_more : (earlier late next : Piece) (p : ℕ)
    → (Has (either earlier late).first p ⊎ ((late.lacks ≡ true) × Has next.first p)) ↔ Has (either earlier (followed late next)).first p
first_more earlier late next p = (there, λ h. back ((has_or earlier.first (followed late next).first p).0 h))
  where
    there : Has (either earlier late).first p ⊎ ((late.lacks ≡ true) × Has next.first p) → Has (either earlier (followed late next)).first p
    there (inl h) =
        (has_or earlier.first (followed late next).first p).1
        (elim ((has_or earlier.first late.first p).0 h) [ inl x ↦ inl x | inr y ↦ inr ((has_if late.lacks late.first next.first p).1 (inl y)) ])
    there (inr s) = (has_or earlier.first (followed late next).first p).1 (inr ((has_if late.lacks late.first next.first p).1 (inr s)))

    back : Has earlier.first p ⊎ Has (followed late next).first p → Has (either earlier late).first p ⊎ ((late.lacks ≡ true) × Has next.first p)
    back (inl h) = inl ((has_or earlier.first late.first p).1 (inl h))
    back (inr h) = elim ((has_if late.lacks late.first next.first p).0 h) [ inl x ↦ inl ((has_or earlier.first late.first p).1 (inr x)) | inr s ↦ inr s ]

first_bar : (first p : ℕ) → Has first p ↔ Has (bit_or first 0) p
first_bar first p = (λ h. (has_or first 0 p).1 (inl h), λ h. elim ((has_or first 0 p).0 h) [ inl x ↦ x | inr y ↦ absurd (has_nothing p y) ])

without : (A B : Type 0) → (A ⊎ (⊥ ⊎ B)) ↔ (A ⊎ B)
without A B = (there, λ s. elim s [ inl x ↦ inl x | inr y ↦ inr (inr y) ])
  where
    there : A ⊎ (⊥ ⊎ B) → A ⊎ B
    there (inl x) = inl x
    there (inr (inl x)) = absurd x
    there (inr (inr y)) = inr y

itself : (A : Type 0) → A ↔ A
itself A = (λ x. x, λ x. x)

only_step : (Q : Texts) (one : OneChar) (m p c : ℕ) (w : List ℕ) → m < 64
    → ((p ≡ m) × Reach Q (IsOne one) (w ++ c ∷ [])) ↔ (((p ≡ m) × (is_one one c ≡ true)) × Comes (Q w) (Has (bit_of m) p) (λ q v. (q ≡ m) × Reach Q (IsOne one) v) (λ q. ⊥) w)
only_step Q one m p c w small = (there, back)
  where
    there : (p ≡ m) × Reach Q (IsOne one) (w ++ c ∷ []) → ((p ≡ m) × (is_one one c ≡ true)) × Comes (Q w) (Has (bit_of m) p) (λ q v. (q ≡ m) × Reach Q (IsOne one) v) (λ q. ⊥) w
    there (e, reach) = let s = (one_end Q one w c).1 reach in ((e, s.1), inl (s.0, (has_only m p small).1 e))

    back : ((p ≡ m) × (is_one one c ≡ true)) × Comes (Q w) (Has (bit_of m) p) (λ q v. (q ≡ m) × Reach Q (IsOne one) v) (λ q. ⊥) w → (p ≡ m) × Reach Q (IsOne one) (w ++ c ∷ [])
    back ((e, fits), inl (begins, h)) = (e, (one_end Q one w c).0 (begins, fits))
    back ((e, fits), inr (q, a, x)) = absurd x

-- A character takes the next one of a text where it is one with which texts begin, or one that may come after the one before.
pub step : (tree : PatternTree) (P : Texts) (n : ℕ) (w : List ℕ) (c p : ℕ) → n + count tree ≤ 64
    → At P tree n p (w ++ c ∷ []) ↔ (Takes tree n p c × Comes (P w) (Has (rows_at tree n).first p) (λ q v. At P tree n q v) (λ q. Follows tree n q p) w)
step Empty P n w c p small = (λ a. absurd a, λ s. absurd s.0)
step (Char rows one repeat) P n w c p small =
    let m = n + count rows in
    let Q : Texts = Inside (Next P rows) repeat (IsOne one) in
    let lt : m < 64 = omega (arith, small) in
    iff_then
    (both_step P (InRow Last rows) (IsOne one) repeat (row_at Last rows n) (one_at m) (λ q v. At P rows n q v) (λ R q v. (q ≡ m) × Reach R (IsOne one) v) m w
    (row_lacks rows Last n) (so_often_lacks repeat (IsOne one) false (says_false (one_is_some one)))
    (row_ends rows Last P n w (omega (arith, small))) (only_end Q one m w lt)
    (λ q a. (at_within rows P n q w a).1) (λ q a. le_of_eq (sym a.0))
    (λ q h. ((row_spans rows Last n (omega (arith, small))).last q h).1) (λ q h. le_of_eq (sym ((has_only m q lt).0 h)))
    (w ++ c ∷ []) p (Takes rows n p c) ((p ≡ m) × (is_one one c ≡ true)) (Has (rows_at rows n).first p) (λ q. Follows rows n q p) (λ q. ⊥)
    (step rows P n w c p (omega (arith, small))) (only_step Q one m p c w lt)
    (λ t. (takes_within rows n p c t).1) (λ t. le_of_eq (sym t.0)) (λ h. ((whole_spans rows n (omega (arith, small))).first p h).1) (λ h. le_of_eq (sym ((has_only m p lt).0 h)))
    (λ q f. let r = follows_within rows n q p (omega (arith, small)) f in (r.0.1, r.1.1)) (λ q f. absurd f))
    (comes_as (Takes (Char rows one repeat) n p c) (P w) (Has (rows_at rows n).first p ⊎ (((row_at Last rows n).lacks ≡ true) × Has (bit_of m) p)) (Has (rows_at (Char rows one repeat) n).first p)
    (λ q v. At P (Char rows one repeat) n q v) (λ q. Follows rows n q p ⊎ (⊥ ⊎ Joins (row_at Last rows n) (one_at m) repeat q p)) (λ q. Follows (Char rows one repeat) n q p) w
    (first_more (row_at Earlier rows n) (row_at Last rows n) (so_often repeat (one_at m)) p) (λ q. without (Follows rows n q p) (Joins (row_at Last rows n) (one_at m) repeat q p)))
step (Bracket rows inner repeat) P n w c p small =
    let m = n + count rows in
    let Q : Texts = Inside (Next P rows) repeat (InLanguage inner) in
    let within : m + count inner ≤ 64 = omega (arith, small) in
    iff_then
    (both_step P (InRow Last rows) (InLanguage inner) repeat (row_at Last rows n) (rows_at inner m) (λ q v. At P rows n q v) (λ R q v. At R inner m q v) m w
    (row_lacks rows Last n) (so_often_lacks repeat (InLanguage inner) (rows_at inner m).lacks (whole_lacks inner m))
    (row_ends rows Last P n w (omega (arith, small))) (whole_ends inner Q m w within)
    (λ q a. (at_within rows P n q w a).1) (λ q a. (at_within inner Q m q w a).0)
    (λ q h. ((row_spans rows Last n (omega (arith, small))).last q h).1) (λ q h. ((whole_spans inner m within).last q h).0)
    (w ++ c ∷ []) p (Takes rows n p c) (Takes inner m p c) (Has (rows_at rows n).first p) (λ q. Follows rows n q p) (λ q. Follows inner m q p)
    (step rows P n w c p (omega (arith, small))) (step inner Q m w c p within)
    (λ t. (takes_within rows n p c t).1) (λ t. (takes_within inner m p c t).0) (λ h. ((whole_spans rows n (omega (arith, small))).first p h).1) (λ h. ((whole_spans inner m within).first p h).0)
    (λ q f. let r = follows_within rows n q p (omega (arith, small)) f in (r.0.1, r.1.1)) (λ q f. let r = follows_within inner m q p within f in (r.0.0, r.1.0)))
    (comes_as (Takes (Bracket rows inner repeat) n p c) (P w) (Has (rows_at rows n).first p ⊎ (((row_at Last rows n).lacks ≡ true) × Has (rows_at inner m).first p)) (Has (rows_at (Bracket rows inner repeat) n).first p)
    (λ q v. At P (Bracket rows inner repeat) n q v) (λ q. Follows (Bracket rows inner repeat) n q p) (λ q. Follows (Bracket rows inner repeat) n q p) w
    (first_more (row_at Earlier rows n) (row_at Last rows n) (so_often repeat (rows_at inner m)) p) (λ q. itself (Follows (Bracket rows inner repeat) n q p)))
step (Or rows) P n w c p small =
    iff_then (step rows P n w c p small)
    (comes_as (Takes rows n p c) (P w) (Has (rows_at rows n).first p) (Has (rows_at (Or rows) n).first p) (λ q v. At P rows n q v) (λ q. Follows rows n q p) (λ q. Follows rows n q p) w
    (first_bar (rows_at rows n).first p) (λ q. itself (Follows rows n q p)))

-- ---- whole texts

pub at_nothing : (tree : PatternTree) (P : Texts) (n p : ℕ) → At P tree n p [] → ⊥
at_nothing Empty P n p a = a
at_nothing (Char rows one repeat) P n p (inl a) = at_nothing rows P n p a
at_nothing (Char rows one repeat) P n p (inr (e, reach)) = reach_nothing (Inside (Next P rows) repeat (IsOne one)) (IsOne one) reach
at_nothing (Bracket rows inner repeat) P n p (inl a) = at_nothing rows P n p a
at_nothing (Bracket rows inner repeat) P n p (inr a) = at_nothing inner (Inside (Next P rows) repeat (InLanguage inner)) (n + count rows) p a
at_nothing (Or rows) P n p a = at_nothing rows P n p a

-- a text that isn't empty is in the language where its last character is taken by one with which texts end
pub text_ends : (tree : PatternTree) (w : List ℕ) → count tree ≤ 64 → ((w ≡ []) → ⊥) → InLanguage tree w ↔ EndsIn (λ q v. At Whole tree 0 q v) (rows_at tree 0).last w
text_ends tree w small some = iff_then (flip (reaches_whole (InLanguage tree) w some)) (whole_ends tree Whole 0 w (omega (arith, small)))

way_there : (tree : PatternTree) → count tree ≤ 64 → (cs w : List ℕ) (p : ℕ) → ((w ≡ []) → ⊥) → At Whole tree 0 p w → GoesOn tree p cs → InLanguage tree (w ++ cs)
way_there tree small [] w p some a h = subst (λ (l : List ℕ). InLanguage tree l) (sym (append-nil w)) ((text_ends tree w small some).1 (p, a, h))
way_there tree small (c ∷ cs) w p some a (q, f, t, g) =
    subst (λ (l : List ℕ). InLanguage tree l) (append_assoc w (c ∷ []) cs)
    (way_there tree small cs (w ++ c ∷ []) q (snoc_is_some w c) ((step tree Whole 0 w c q (omega (arith, small))).1 (t, inr (p, a, f))) g)

pub way_back : (tree : PatternTree) → count tree ≤ 64 → (cs w : List ℕ) → ((w ≡ []) → ⊥) → InLanguage tree (w ++ cs) → (p : ℕ) × At Whole tree 0 p w × GoesOn tree p cs
way_back tree small [] w some l = (text_ends tree w small some).0 (subst (λ (t : List ℕ). InLanguage tree t) (append-nil w) l)
way_back tree small (c ∷ cs) w some l =
    let s = way_back tree small cs (w ++ c ∷ []) (snoc_is_some w c) (subst (λ (t : List ℕ). InLanguage tree t) (sym (append_assoc w (c ∷ []) cs)) l) in
    let t = (step tree Whole 0 w c s.0 (omega (arith, small))).0 s.1 in
    elim t.1 [ inl b ↦ absurd (some b.0) | inr b ↦ (b.0, b.1, (s.0, b.2, t.0, s.2)) ]

pub ways_are_language : (tree : PatternTree) (cs : List ℕ) → count tree ≤ 64 → IsWay tree cs ↔ InLanguage tree cs
ways_are_language tree [] small = whole_lacks tree 0
ways_are_language tree (c ∷ cs) small = (there, back)
  where
    there : IsWay tree (c ∷ cs) → InLanguage tree (c ∷ cs)
    there (p, first, t, g) = way_there tree small cs (c ∷ []) p (snoc_is_some [] c) ((step tree Whole 0 [] c p (omega (arith, small))).1 (t, inl (refl, first))) g

    back : InLanguage tree (c ∷ cs) → IsWay tree (c ∷ cs)
    back l =
        let s = way_back tree small cs (c ∷ []) (snoc_is_some [] c) l in
        let t = (step tree Whole 0 [] c s.0 (omega (arith, small))).0 s.1 in
        elim t.1 [ inl b ↦ (s.0, b.1, t.0, s.2) | inr b ↦ absurd (at_nothing tree Whole 0 b.0 b.1) ]
