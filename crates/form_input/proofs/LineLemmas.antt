-- The lines of a text, and where it may be cut.
use Rattle.std.proofs.Common.{◌≡◌, ◌<◌, ◌+◌, ℕ, zero, suc, Bool, true, false, cond, ◌&&◌, eqb, List, [], ◌∷◌, ◌++◌, take, drop, slice_index, refl, ap, ◌∙◌, arith}
use Rattle.std.proofs.lemmas.Bool.{eqb-true}
use Rattle.std.specs.List.{onto_first}
use Rattle.memchr.specs.Find.{OccursAt}
use Rattle.form_input.specs.Lines.{is_line_end_pair, lines, lines_text}

-- CR LF
abbrev pub line_end : List ℕ
line_end = 13 ∷ 10 ∷ []

line_end_is : (b c : ℕ) → is_line_end_pair b c ≡ true → (b ≡ 13) × (c ≡ 10)
line_end_is b c e = go (eqb b 13) refl e
  where
    go : (x : Bool) → eqb b 13 ≡ x → (x && eqb c 10) ≡ true → (b ≡ 13) × (c ≡ 10)
    go true eb e = (eqb-true b 13 eb, eqb-true c 10 e)
    go false eb e = absurd cc

is_line_end_at : (b c : ℕ) → b ≡ 13 → c ≡ 10 → is_line_end_pair b c ≡ true
is_line_end_at b c eb ec = rw (eb, ec) refl

reads_prefix : (b c : ℕ) (t : List ℕ) → b ≡ 13 → c ≡ 10 → (j : ℕ) → j < 2 → slice_index (b ∷ c ∷ t) (0 + j) ≡ slice_index line_end j
reads_prefix b c t eb ec zero low = eb
reads_prefix b c t eb ec (suc zero) low = ec
reads_prefix b c t eb ec (suc (suc j)) low = absurd (omega (arith, low))

occurs_prefix : (b c : ℕ) (t : List ℕ) → is_line_end_pair b c ≡ true → OccursAt (b ∷ c ∷ t) line_end 0
occurs_prefix b c t e = let both = line_end_is b c e in record { fits = omega arith; reads = reads_prefix b c t both.0 both.1 }

prefix_occurs : (b c : ℕ) (t : List ℕ) → OccursAt (b ∷ c ∷ t) line_end 0 → is_line_end_pair b c ≡ true
prefix_occurs b c t o = is_line_end_at b c (o.reads 0 (omega arith)) (o.reads 1 (omega arith))

occurs_later : (b : ℕ) (t : List ℕ) (k : ℕ) → OccursAt t line_end k → OccursAt (b ∷ t) line_end (suc k)
occurs_later b t k o = record {
  fits = let f = o.fits in omega (arith, f);
  reads = λ j low. let e : suc k + j ≡ suc (k + j) = omega arith in rw e (o.reads j low);
}

occurs_before : (b : ℕ) (t : List ℕ) (k : ℕ) → OccursAt (b ∷ t) line_end (suc k) → OccursAt t line_end k
occurs_before b t k o = record {
  fits = let f = o.fits in omega (arith, f);
  reads = λ j low. let e : suc k + j ≡ suc (k + j) = omega arith in rw e at (o.reads j low);
}

-- a text without a line end is a line
pub lines_alone : (t : List ℕ) → ((k : ℕ) → OccursAt t line_end k → ⊥) → lines t ≡ t ∷ []
unfolding lines
lines_alone [] none = refl
lines_alone (b ∷ []) none = refl
lines_alone (b ∷ c ∷ t) none = go (is_line_end_pair b c) refl (lines_alone (c ∷ t) (λ k o. none (suc k) (occurs_later b (c ∷ t) k o)))
  where
    go : (x : Bool) → is_line_end_pair b c ≡ x → lines (c ∷ t) ≡ (c ∷ t) ∷ [] → cond x ([] ∷ lines t) (onto_first b (lines (c ∷ t))) ≡ (b ∷ c ∷ t) ∷ []
    go true e ih = absurd (none 0 (occurs_prefix b c t e))
    go false e ih = ap (onto_first b) ih

-- a text is cut at its first line end
pub record Cut (k : ℕ) (t : List ℕ) : Type 0 where
  pub split : lines t ≡ take k t ∷ lines (drop (k + 2) t)
  pub alone : lines (take k t) ≡ take k t ∷ []
  pub parts : t ≡ take k t ++ 13 ∷ 10 ∷ drop (k + 2) t

pub cut_at : (k : ℕ) (t : List ℕ) → OccursAt t line_end k → ((m : ℕ) → m < k → OccursAt t line_end m → ⊥) → Cut k t
unfolding lines
cut_at k [] o none = absurd (let f = o.fits in omega (arith, f))
cut_at k (b ∷ []) o none = absurd (let f = o.fits in omega (arith, f))
cut_at zero (b ∷ c ∷ t) o none =
    let e = prefix_occurs b c t o in
    let both = line_end_is b c e in
    record { split = go (is_line_end_pair b c) e; alone = refl; parts = rw (both.0, both.1) refl }
  where
    go : (x : Bool) → x ≡ true → cond x ([] ∷ lines t) (onto_first b (lines (c ∷ t))) ≡ [] ∷ lines t
    go true e = refl
    go false e = absurd cc
cut_at (suc k) (b ∷ c ∷ t) o none = go (is_line_end_pair b c) refl k (cut_at k (c ∷ t) (occurs_before b (c ∷ t) k o) (λ m low p. none (suc m) (omega (arith, low)) (occurs_later b (c ∷ t) m p)))
  where
    more : (x : Bool) → x ≡ false → cond x ([] ∷ lines t) (onto_first b (lines (c ∷ t))) ≡ onto_first b (lines (c ∷ t))
    more true e = absurd cc
    more false e = refl

    shut : (x : Bool) (s : List ℕ) → x ≡ false → cond x ([] ∷ lines s) (onto_first b (lines (c ∷ s))) ≡ onto_first b (lines (c ∷ s))
    shut true s e = absurd cc
    shut false s e = refl

    alone : (k : ℕ) → is_line_end_pair b c ≡ false → lines (take k (c ∷ t)) ≡ take k (c ∷ t) ∷ [] → lines (b ∷ take k (c ∷ t)) ≡ (b ∷ take k (c ∷ t)) ∷ []
    alone zero e ih = refl
    alone (suc k) e ih = shut (is_line_end_pair b c) (take k t) e ∙ ap (onto_first b) ih

    go : (x : Bool) → is_line_end_pair b c ≡ x → (k : ℕ) → Cut k (c ∷ t) → Cut (suc k) (b ∷ c ∷ t)
    go true e k ih = absurd (none 0 (omega arith) (occurs_prefix b c t e))
    go false e k ih =
        let next : suc k + 2 ≡ suc (k + 2) = omega arith in
        record {
          split = rw next (more (is_line_end_pair b c) e ∙ ap (onto_first b) ih.split);
          alone = alone k e ih.alone;
          parts = rw next (ap (λ (s : List ℕ). b ∷ s) ih.parts);
        }

-- there is a first line
pub record HasFirst (t : List ℕ) : Type 0 where
  pub first : List ℕ
  pub more : List (List ℕ)
  pub is : lines t ≡ first ∷ more

onto_cons : (b : ℕ) (ls : List (List ℕ)) → (first : List ℕ) × (more : List (List ℕ)) × (onto_first b ls ≡ first ∷ more)
onto_cons b [] = (b ∷ [], [], refl)
onto_cons b (l ∷ ls) = (b ∷ l, ls, refl)

pub has_first : (t : List ℕ) → HasFirst t
unfolding lines
has_first [] = record { first = []; more = []; is = refl }
has_first (b ∷ []) = record { first = b ∷ []; more = []; is = refl }
has_first (b ∷ c ∷ t) = go (is_line_end_pair b c) refl
  where
    is : (x : Bool) → is_line_end_pair b c ≡ x → lines (b ∷ c ∷ t) ≡ cond x ([] ∷ lines t) (onto_first b (lines (c ∷ t)))
    is x e = ap (λ (y : Bool). cond y ([] ∷ lines t) (onto_first b (lines (c ∷ t)))) e

    go : (x : Bool) → is_line_end_pair b c ≡ x → HasFirst (b ∷ c ∷ t)
    go true e = record { first = []; more = lines t; is = is true e }
    go false e = let o = onto_cons b (lines (c ∷ t)) in record { first = o.0; more = o.1; is = is false e ∙ o.2 }

joined_onto : (b : ℕ) (ls : List (List ℕ)) → lines_text (onto_first b ls) ≡ b ∷ lines_text ls
unfolding lines_text
joined_onto b [] = refl
joined_onto b (l ∷ []) = refl
joined_onto b (l ∷ m ∷ ls) = refl

joined_first : (t : List ℕ) → lines_text ([] ∷ lines t) ≡ 13 ∷ 10 ∷ lines_text (lines t)
unfolding lines_text
joined_first t = let h = has_first t in rw h.is refl

-- the lines give the text back
pub joined_lines : (t : List ℕ) → lines_text (lines t) ≡ t
unfolding lines lines_text
joined_lines [] = refl
joined_lines (b ∷ []) = refl
joined_lines (b ∷ c ∷ t) = go (is_line_end_pair b c) refl (joined_lines t) (joined_lines (c ∷ t))
  where
    go : (x : Bool) → is_line_end_pair b c ≡ x → lines_text (lines t) ≡ t → lines_text (lines (c ∷ t)) ≡ c ∷ t → lines_text (cond x ([] ∷ lines t) (onto_first b (lines (c ∷ t)))) ≡ b ∷ c ∷ t
    go true e here ih = let both = line_end_is b c e in joined_first t ∙ rw (both.0, both.1) (ap (λ (s : List ℕ). 13 ∷ 10 ∷ s) here)
    go false e here ih = joined_onto b (lines (c ∷ t)) ∙ ap (λ (s : List ℕ). b ∷ s) ih

onto_append : (b : ℕ) (ls ms : List (List ℕ)) (first : List ℕ) (more : List (List ℕ)) → ls ≡ first ∷ more → onto_first b (ls ++ ms) ≡ onto_first b ls ++ ms
onto_append b [] ms first more e = absurd cc
onto_append b (l ∷ ls) ms first more e = refl

-- lines on the two sides of a line end
pub lines_append : (a b : List ℕ) → lines (a ++ 13 ∷ 10 ∷ b) ≡ lines a ++ lines b
unfolding lines
lines_append [] b = refl
lines_append (x ∷ []) b = go (eqb x 13)
  where
    go : (y : Bool) → cond (y && false) ([] ∷ lines (10 ∷ b)) (onto_first x ([] ∷ lines b)) ≡ (x ∷ []) ∷ lines b
    go true = refl
    go false = refl
lines_append (x ∷ y ∷ a) b = go (is_line_end_pair x y) (lines_append a b) (lines_append (y ∷ a) b)
  where
    go : (z : Bool) → lines (a ++ 13 ∷ 10 ∷ b) ≡ lines a ++ lines b → lines (y ∷ a ++ 13 ∷ 10 ∷ b) ≡ lines (y ∷ a) ++ lines b
        → cond z ([] ∷ lines (a ++ 13 ∷ 10 ∷ b)) (onto_first x (lines (y ∷ a ++ 13 ∷ 10 ∷ b))) ≡ cond z ([] ∷ lines a) (onto_first x (lines (y ∷ a))) ++ lines b
    go true here ih = ap (λ (s : List (List ℕ)). [] ∷ s) here
    go false here ih = let h = has_first (y ∷ a) in ap (onto_first x) ih ∙ onto_append x (lines (y ∷ a)) (lines b) h.first h.more h.is
