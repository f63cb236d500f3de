-- Sets of texts: cuttings, repetitions, and what more than nothing of a set reaches.
use Rattle.std.proofs.Common.{◌≡◌, ◌↔◌, ◌⊎◌, inl, inr, ℕ, zero, suc, Bool, true, false, ◌&&◌, ◌||◌, List, [], ◌∷◌, ◌++◌, refl, ap, sym, ◌∙◌, subst, append_assoc}
use Rattle.std.proofs.lemmas.List.{append-nil, same_from_push}
use Rattle.regex_rules.specs.declared.repeat.Repeat.{Repeat}
use Rattle.regex_rules.specs.declared.repeat.Repeat.TheVariants.{Once, Optional, Any, AtLeastOnce}
use Rattle.regex_rules.specs.declared.character.OneChar.{OneChar}
use Rattle.regex_rules.specs.Languages.{Texts, Cut, Times, Repeated, IsOne, is_one, may_lack, may_go_on}

-- a text of the first set, and then one of the second that isn't empty
abbrev pub Reach : Texts → Texts → Texts
Reach P L cs = (xs : List ℕ) × (ys : List ℕ) × P xs × L ys × ((ys ≡ []) → ⊥) × (cs ≡ xs ++ ys)

abbrev pub Whole : Texts
Whole cs = cs ≡ []

-- where the inside of a repeated piece may begin
abbrev pub Inside : Texts → Repeat → Texts → Texts
Inside P Once A = P
Inside P Optional A = P
Inside P Any A = Cut P (λ cs. (number : ℕ) × Times number A cs)
Inside P AtLeastOnce A = Cut P (λ cs. (number : ℕ) × Times number A cs)

-- a test says whether something holds
abbrev pub Says : Bool → Type 0 → Type 0
Says b A = (b ≡ true) ↔ A

pub says_or : {A B : Type 0} (a b : Bool) → Says a A → Says b B → Says (a || b) (A ⊎ B)
says_or true b sa sb = (λ e. inl (sa.0 refl), λ s. refl)
says_or false b sa sb = (λ e. inr (sb.0 e), λ s. elim s [ inl x ↦ absurd (no (sa.1 x)) | inr y ↦ sb.1 y ])
  where
    no : false ≡ true → ⊥
    no e = absurd cc

pub says_and : {A B : Type 0} (a b : Bool) → Says a A → Says b B → Says (a && b) (A × B)
says_and true b sa sb = (λ e. (sa.0 refl, sb.0 e), λ s. sb.1 s.1)
says_and false b sa sb = (λ e. absurd cc, λ s. sa.1 s.0)

pub says_iff : {A B : Type 0} (a : Bool) → Says a A → A ↔ B → Says a B
says_iff a sa e = (λ h. e.0 (sa.0 h), λ y. sa.1 (e.1 y))

pub says_true : {A : Type 0} → A → Says true A
says_true x = (λ h. x, λ y. refl)

pub says_false : {A : Type 0} → (A → ⊥) → Says false A
says_false f = (λ h. absurd cc, λ y. absurd (f y))

pub iff_then : {A B C : Type 0} → A ↔ B → B ↔ C → A ↔ C
iff_then f g = (λ x. g.0 (f.0 x), λ z. f.1 (g.1 z))

pub iff_or : {A B C D : Type 0} → A ↔ B → C ↔ D → (A ⊎ C) ↔ (B ⊎ D)
iff_or f g = (λ s. elim s [ inl x ↦ inl (f.0 x) | inr y ↦ inr (g.0 y) ], λ s. elim s [ inl x ↦ inl (f.1 x) | inr y ↦ inr (g.1 y) ])

-- ---- lists

pub ends_empty : {A : Type 0} (xs ys : List A) → [] ≡ xs ++ ys → (xs ≡ []) × (ys ≡ [])
ends_empty [] [] e = (refl, refl)
ends_empty [] (y ∷ ys) e = absurd cc
ends_empty (x ∷ xs) ys e = absurd cc

pub cons_is_some : {A : Type 0} (x : A) (xs : List A) → (x ∷ xs ≡ []) → ⊥
cons_is_some x xs e = absurd cc

-- ---- cuttings

-- a place past one more piece
pub cut_step : (P L M : Texts) (w : List ℕ) → ((Cut P L w × M []) ⊎ Reach (Cut P L) M w) ↔ Cut P (Cut L M) w
cut_step P L M w = (there, back)
  where
    there : (Cut P L w × M []) ⊎ Reach (Cut P L) M w → Cut P (Cut L M) w
    there (inl ((xs, ys, p, l, e), m)) = (xs, ys, p, (ys, [], l, m, sym (append-nil ys)), e)
    there (inr (zs, vs, (xs, ys, p, l, f), m, some, e)) = (xs, ys ++ vs, p, (ys, vs, l, m, refl), e ∙ ap (λ (t : List ℕ). t ++ vs) f ∙ append_assoc xs ys vs)

    back : Cut P (Cut L M) w → (Cut P L w × M []) ⊎ Reach (Cut P L) M w
    back (xs, ys, p, (us, [], l, m, f), e) = inl ((xs, us, p, l, e ∙ ap (λ (t : List ℕ). xs ++ t) (f ∙ append-nil us)), m)
    back (xs, ys, p, (us, v ∷ vs, l, m, f), e) = inr (xs ++ us, v ∷ vs, (xs, us, p, l, refl), m, cons_is_some v vs, e ∙ ap (λ (t : List ℕ). xs ++ t) f ∙ sym (append_assoc xs us (v ∷ vs)))

-- the same of what more than nothing reaches
pub reach_step : (P L M : Texts) (w : List ℕ) → ((Reach P L w × M []) ⊎ Reach (Cut P L) M w) ↔ Reach P (Cut L M) w
reach_step P L M w = (there, back)
  where
    there : (Reach P L w × M []) ⊎ Reach (Cut P L) M w → Reach P (Cut L M) w
    there (inl ((xs, ys, p, l, some, e), m)) = (xs, ys, p, (ys, [], l, m, sym (append-nil ys)), some, e)
    there (inr (zs, vs, (xs, ys, p, l, f), m, some, e)) =
        (xs, ys ++ vs, p, (ys, vs, l, m, refl), λ none. some (ends_empty ys vs (sym none)).1, e ∙ ap (λ (t : List ℕ). t ++ vs) f ∙ append_assoc xs ys vs)

    back : Reach P (Cut L M) w → (Reach P L w × M []) ⊎ Reach (Cut P L) M w
    back (xs, ys, p, (us, [], l, m, f), some, e) =
        inl ((xs, us, p, l, λ none. some (f ∙ append-nil us ∙ none), e ∙ ap (λ (t : List ℕ). xs ++ t) (f ∙ append-nil us)), m)
    back (xs, ys, p, (us, v ∷ vs, l, m, f), some, e) = inr (xs ++ us, v ∷ vs, (xs, us, p, l, refl), m, cons_is_some v vs, e ∙ ap (λ (t : List ℕ). xs ++ t) f ∙ sym (append_assoc xs us (v ∷ vs)))

pub cut_empty : (L M : Texts) → (L [] × M []) ↔ Cut L M []
cut_empty L M = (λ s. ([], [], s.0, s.1, refl), back)
  where
    back : Cut L M [] → L [] × M []
    back (xs, ys, l, m, e) = let parts = ends_empty xs ys e in (subst L parts.0 l, subst M parts.1 m)

-- ---- repetitions

pub repeated_empty : (repeat : Repeat) (A : Texts) → ((may_lack repeat ≡ true) ⊎ A []) ↔ Repeated repeat A []
repeated_empty Once A = (λ s. elim s [ inl e ↦ absurd cc | inr a ↦ a ], λ a. inr a)
repeated_empty Optional A = (λ s. inl refl, λ a. inl refl)
repeated_empty Any A = (λ s. (0, refl), λ a. inl refl)
repeated_empty AtLeastOnce A = (λ s. elim s [ inl e ↦ absurd cc | inr a ↦ (0, ([], [], a, refl, refl)) ], λ r. inr (subst A (ends_empty r.1.0 r.1.1 r.1.4).0 r.1.2))

abbrev Many : Texts → Texts
Many A cs = (number : ℕ) × Times number A cs

-- a text in some parts ends with one that isn't empty
last_part : (A : Texts) (number : ℕ) (ys : List ℕ) → Times number A ys → ((ys ≡ []) → ⊥)
    → (fewer : ℕ) × (us : List ℕ) × (vs : List ℕ) × Times fewer A us × A vs × ((vs ≡ []) → ⊥) × (ys ≡ us ++ vs)
last_part A zero ys e some = absurd (some e)
last_part A (suc number) ys (xs, [], a, t, e) some = (0, [], xs, refl, a, λ none. some (e ∙ append-nil xs ∙ none), e ∙ append-nil xs)
last_part A (suc number) ys (xs, z ∷ zs, a, t, e) some =
    let ih = last_part A number (z ∷ zs) t (cons_is_some z zs) in
    (suc ih.0, xs ++ ih.1, ih.2, (xs, ih.1, a, ih.3, refl), ih.4, ih.5, e ∙ ap (λ (l : List ℕ). xs ++ l) ih.6 ∙ sym (append_assoc xs ih.1 ih.2))

one_more : (A : Texts) (number : ℕ) (us vs : List ℕ) → Times number A us → A vs → Times (suc number) A (us ++ vs)
one_more A zero us vs e a = (vs, [], a, refl, ap (λ (l : List ℕ). l ++ vs) e ∙ sym (append-nil vs))
one_more A (suc number) us vs (xs, zs, b, t, e) a =
    (xs, zs ++ vs, b, one_more A number zs vs t a, ap (λ (l : List ℕ). l ++ vs) e ∙ append_assoc xs zs vs)

-- the end of a repeated piece is the end of what it repeats
pub reach_inside : (P : Texts) (repeat : Repeat) (A : Texts) (w : List ℕ) → Reach (Inside P repeat A) A w ↔ Reach P (Repeated repeat A) w
reach_inside P Once A w = (λ r. r, λ r. r)
reach_inside P Optional A w = (λ r. (r.0, r.1, r.2, inr r.3, r.4, r.5), back)
  where
    back : Reach P (Repeated Optional A) w → Reach P A w
    back (xs, ys, p, inl e, some, f) = absurd (some e)
    back (xs, ys, p, inr a, some, f) = (xs, ys, p, a, some, f)
reach_inside P Any A w = (there, back)
  where
    there : Reach (Cut P (Many A)) A w → Reach P (Many A) w
    there (zs, vs, (xs, us, p, (number, t), f), a, some, e) =
        (xs, us ++ vs, p, (suc number, one_more A number us vs t a), λ none. some (ends_empty us vs (sym none)).1, e ∙ ap (λ (l : List ℕ). l ++ vs) f ∙ append_assoc xs us vs)

    back : Reach P (Many A) w → Reach (Cut P (Many A)) A w
    back (xs, ys, p, (number, t), some, e) =
        let part = last_part A number ys t some in
        (xs ++ part.1, part.2, (xs, part.1, p, (part.0, part.3), refl), part.4, part.5, e ∙ ap (λ (l : List ℕ). xs ++ l) part.6 ∙ sym (append_assoc xs part.1 part.2))
reach_inside P AtLeastOnce A w = (there, back)
  where
    there : Reach (Cut P (Many A)) A w → Reach P (Repeated AtLeastOnce A) w
    there (zs, vs, (xs, us, p, (number, t), f), a, some, e) =
        (xs, us ++ vs, p, (number, one_more A number us vs t a), λ none. some (ends_empty us vs (sym none)).1, e ∙ ap (λ (l : List ℕ). l ++ vs) f ∙ append_assoc xs us vs)

    back : Reach P (Repeated AtLeastOnce A) w → Reach (Cut P (Many A)) A w
    back (xs, ys, p, (number, t), some, e) =
        let part = last_part A (suc number) ys t some in
        (xs ++ part.1, part.2, (xs, part.1, p, (part.0, part.3), refl), part.4, part.5, e ∙ ap (λ (l : List ℕ). xs ++ l) part.6 ∙ sym (append_assoc xs part.1 part.2))

-- what a repeated piece repeats begins where the piece does, and again at its end
pub enters_inside : (P : Texts) (repeat : Repeat) (A : Texts) (w : List ℕ) → (P w ⊎ ((may_go_on repeat ≡ true) × Reach P (Repeated repeat A) w)) ↔ Inside P repeat A w
enters_inside P Once A w = (λ s. elim s [ inl p ↦ p | inr r ↦ absurd (no r.0) ], λ p. inl p)
  where
    no : false ≡ true → ⊥
    no e = absurd cc
enters_inside P Optional A w = (λ s. elim s [ inl p ↦ p | inr r ↦ absurd (no r.0) ], λ p. inl p)
  where
    no : false ≡ true → ⊥
    no e = absurd cc
enters_inside P Any A w = (there, back)
  where
    there : P w ⊎ ((true ≡ true) × Reach P (Many A) w) → Cut P (Many A) w
    there (inl p) = (w, [], p, (0, refl), sym (append-nil w))
    there (inr (go, (xs, ys, p, t, some, e))) = (xs, ys, p, t, e)

    back : Cut P (Many A) w → P w ⊎ ((true ≡ true) × Reach P (Many A) w)
    back (xs, [], p, t, e) = inl (subst P (sym (e ∙ append-nil xs)) p)
    back (xs, y ∷ ys, p, t, e) = inr (refl, (xs, y ∷ ys, p, t, cons_is_some y ys, e))
enters_inside P AtLeastOnce A w = (there, back)
  where
    there : P w ⊎ ((true ≡ true) × Reach P (Repeated AtLeastOnce A) w) → Cut P (Many A) w
    there (inl p) = (w, [], p, (0, refl), sym (append-nil w))
    there (inr (go, (xs, ys, p, (number, t), some, e))) = (xs, ys, p, (suc number, t), e)

    back : Cut P (Many A) w → P w ⊎ ((true ≡ true) × Reach P (Repeated AtLeastOnce A) w)
    back (xs, [], p, t, e) = inl (subst P (sym (e ∙ append-nil xs)) p)
    back (xs, y ∷ ys, p, (zero, t), e) = absurd (cons_is_some y ys t)
    back (xs, y ∷ ys, p, (suc number, t), e) = inr (refl, (xs, y ∷ ys, p, (number, t), cons_is_some y ys, e))

-- one more character of a text is the end of a piece of one character
pub one_end : (Q : Texts) (one : OneChar) (w : List ℕ) (c : ℕ) → (Q w × (is_one one c ≡ true)) ↔ Reach Q (IsOne one) (w ++ c ∷ [])
one_end Q one w c = (λ s. (w, c ∷ [], s.0, (c, s.1, refl), cons_is_some c [], refl), back)
  where
    back : Reach Q (IsOne one) (w ++ c ∷ []) → Q w × (is_one one c ≡ true)
    back (xs, ys, q, (d, fits, f), some, e) =
        let same = same_from_push w xs c d (e ∙ ap (λ (l : List ℕ). xs ++ l) f) in
        (subst Q (sym same.0) q, subst (λ (n : ℕ). is_one one n ≡ true) (sym same.1) fits)

-- nothing more is reached by nothing
pub reach_nothing : (P L : Texts) → Reach P L [] → ⊥
reach_nothing P L (xs, ys, p, l, some, e) = some (ends_empty xs ys e).1

pub reach_whole : (P : Texts) (w : List ℕ) → Reach P Whole w → ⊥
reach_whole P w (xs, ys, p, l, some, e) = some l

pub cut_whole : (P : Texts) (w : List ℕ) → P w ↔ Cut P Whole w
cut_whole P w = (λ p. (w, [], p, refl, sym (append-nil w)), back)
  where
    back : Cut P Whole w → P w
    back (xs, ys, p, l, e) = subst P (sym (e ∙ ap (λ (t : List ℕ). xs ++ t) l ∙ append-nil xs)) p

-- a cutting takes more than nothing of the second set, or nothing
pub cut_parts : (P L : Texts) (w : List ℕ) → ((P w × L []) ⊎ Reach P L w) ↔ Cut P L w
cut_parts P L w = (there, back)
  where
    there : (P w × L []) ⊎ Reach P L w → Cut P L w
    there (inl (p, l)) = (w, [], p, l, sym (append-nil w))
    there (inr (xs, ys, p, l, some, e)) = (xs, ys, p, l, e)

    back : Cut P L w → (P w × L []) ⊎ Reach P L w
    back (xs, [], p, l, e) = inl (subst P (sym (e ∙ append-nil xs)) p, l)
    back (xs, y ∷ ys, p, l, e) = inr (xs, y ∷ ys, p, l, cons_is_some y ys, e)

pub reach_or : (P L M : Texts) (w : List ℕ) → (Reach P L w ⊎ Reach P M w) ↔ Reach P (λ cs. L cs ⊎ M cs) w
reach_or P L M w = (there, back)
  where
    there : Reach P L w ⊎ Reach P M w → Reach P (λ cs. L cs ⊎ M cs) w
    there (inl (xs, ys, p, l, some, e)) = (xs, ys, p, inl l, some, e)
    there (inr (xs, ys, p, m, some, e)) = (xs, ys, p, inr m, some, e)

    back : Reach P (λ cs. L cs ⊎ M cs) w → Reach P L w ⊎ Reach P M w
    back (xs, ys, p, inl l, some, e) = inl (xs, ys, p, l, some, e)
    back (xs, ys, p, inr m, some, e) = inr (xs, ys, p, m, some, e)
