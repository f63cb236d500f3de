-- The removal of dot segments has one outcome.
use Rattle.std.proofs.Common.{◌≡◌, inl, inr, ℕ, true, false, eqb, List, [], ◌∷◌, ◌++◌, codes, refl, ap, sym, ◌∙◌, subst}
use Rattle.std.proofs.lemmas.Bool.{or_parts}
use Rattle.sp_base.specs.Paths.{has_slash, is_dots}
use Rattle.sp_base.specs.PathTexts.{ends_segment}
use Rattle.form_laws.specs.DotSegments.{HasFirstSegment, or_slash, IsWithoutLast, RemovesDots}

pub same_parts : (one other rest more : List ℕ) → has_slash one ≡ false → has_slash other ≡ false → ends_segment rest ≡ true → ends_segment more ≡ true → one ++ rest ≡ other ++ more → (one ≡ other) × (rest ≡ more)
same_parts [] [] rest more w v e f same = (refl, same)
same_parts [] (c ∷ other) rest more w v e f same = absurd (let g : ends_segment rest ≡ eqb c 47 = ap ends_segment same in let h = (or_parts (eqb c 47) (has_slash other) v).0 in let k : true ≡ false = sym e ∙ g ∙ h in cc)
same_parts (c ∷ one) [] rest more w v e f same = absurd (let g : eqb c 47 ≡ ends_segment more = ap ends_segment same in let h = (or_parts (eqb c 47) (has_slash one) w).0 in let k : true ≡ false = sym f ∙ sym g ∙ h in cc)
same_parts (c ∷ one) (d ∷ other) rest more w v e f same =
    let head : c ≡ d = cc in
    let tail : one ++ rest ≡ other ++ more = cc in
    let ih = same_parts one other rest more (or_parts (eqb c 47) (has_slash one) w).1 (or_parts (eqb d 47) (has_slash other) v).1 e f tail in
    (ap (λ (b : ℕ). b ∷ one) head ∙ ap (λ (s : List ℕ). d ∷ s) ih.0, ih.1)

first_same : (input one rest other more : List ℕ) → HasFirstSegment input one rest → HasFirstSegment input other more → (one ≡ other) × (rest ≡ more)
first_same input one rest other more a b =
    let whole : 47 ∷ (one ++ rest) ≡ 47 ∷ (other ++ more) = sym a.spells ∙ b.spells in
    let parts : one ++ rest ≡ other ++ more = cc in
    same_parts one other rest more a.whole b.whole a.ends b.ends parts

-- nothing is before a slash that no slash follows but one thing
same_kept : (kept last other end : List ℕ) → has_slash last ≡ false → has_slash end ≡ false → kept ++ 47 ∷ last ≡ other ++ 47 ∷ end → kept ≡ other
same_kept [] last [] end w v e = refl
same_kept [] last (c ∷ other) end w v e =
    let tail : last ≡ other ++ 47 ∷ end = cc in
    absurd (slash_in other end (sym (ap has_slash tail) ∙ w))
  where
    slash_in : (xs ys : List ℕ) → has_slash (xs ++ 47 ∷ ys) ≡ false → ⊥
    slash_in [] ys f = absurd cc
    slash_in (x ∷ xs) ys f = slash_in xs ys (or_parts (eqb x 47) (has_slash (xs ++ 47 ∷ ys)) f).1
same_kept (c ∷ kept) last [] end w v e =
    let tail : kept ++ 47 ∷ last ≡ end = cc in
    absurd (slash_in kept last (ap has_slash tail ∙ v))
  where
    slash_in : (xs ys : List ℕ) → has_slash (xs ++ 47 ∷ ys) ≡ false → ⊥
    slash_in [] ys f = absurd cc
    slash_in (x ∷ xs) ys f = slash_in xs ys (or_parts (eqb x 47) (has_slash (xs ++ 47 ∷ ys)) f).1
same_kept (c ∷ kept) last (d ∷ other) end w v e =
    let head : c ≡ d = cc in
    let tail : kept ++ 47 ∷ last ≡ other ++ 47 ∷ end = cc in
    ap (λ (b : ℕ). b ∷ kept) head ∙ ap (λ (s : List ℕ). d ∷ s) (same_kept kept last other end w v tail)

no_end : (kept last : List ℕ) → [] ≡ kept ++ 47 ∷ last → ⊥
no_end [] last e = absurd cc
no_end (c ∷ kept) last e = absurd cc

without_same : (output one other : List ℕ) → IsWithoutLast output one → IsWithoutLast output other → one ≡ other
without_same output one other (inl a) (inl b) = same_kept one a.last other b.last a.whole b.whole (sym a.spells ∙ b.spells)
without_same output one other (inl a) (inr b) = absurd (no_end one a.last (sym b.0 ∙ a.spells))
without_same output one other (inr a) (inl b) = absurd (no_end other b.last (sym a.0 ∙ b.spells))
without_same output one other (inr a) (inr b) = a.1 ∙ sym b.1

no_first : (input segment rest : List ℕ) → input ≡ [] → HasFirstSegment input segment rest → ⊥
no_first input segment rest e f = let g : [] ≡ 47 ∷ (segment ++ rest) = sym e ∙ f.spells in absurd cc

no_dot : (segment : List ℕ) → codes "." ≡ segment → is_dots segment ≡ false → ⊥
no_dot segment same e = let g : true ≡ false = ap is_dots same ∙ e in absurd cc

no_dots : (segment : List ℕ) → codes ".." ≡ segment → is_dots segment ≡ false → ⊥
no_dots segment same e = let g : true ≡ false = ap is_dots same ∙ e in absurd cc

one_or_two : codes "." ≡ codes ".." → ⊥
one_or_two e = absurd cc

pub one_outcome : (input output one other : List ℕ) → RemovesDots input output one → RemovesDots input output other → one ≡ other
one_outcome input output one other (RemovesDots.Ends e f) (RemovesDots.Ends g h) = f ∙ sym h
one_outcome input output one other (RemovesDots.Ends e f) (RemovesDots.Stays rest b q) = absurd (no_first input (codes ".") rest e b)
one_outcome input output one other (RemovesDots.Ends e f) (RemovesDots.Climbs rest kept b w q) = absurd (no_first input (codes "..") rest e b)
one_outcome input output one other (RemovesDots.Ends e f) (RemovesDots.Moves segment rest b d q) = absurd (no_first input segment rest e b)
one_outcome input output one other (RemovesDots.Stays rest a p) (RemovesDots.Ends e f) = absurd (no_first input (codes ".") rest e a)
one_outcome input output one other (RemovesDots.Stays rest a p) (RemovesDots.Stays more b q) =
    one_outcome (or_slash rest) output one other p (subst (λ (r : List ℕ). RemovesDots (or_slash r) output other) (sym (first_same input (codes ".") rest (codes ".") more a b).1) q)
one_outcome input output one other (RemovesDots.Stays rest a p) (RemovesDots.Climbs more kept b w q) = absurd (one_or_two (first_same input (codes ".") rest (codes "..") more a b).0)
one_outcome input output one other (RemovesDots.Stays rest a p) (RemovesDots.Moves segment more b d q) = absurd (no_dot segment (first_same input (codes ".") rest segment more a b).0 d)
one_outcome input output one other (RemovesDots.Climbs rest kept a w p) (RemovesDots.Ends e f) = absurd (no_first input (codes "..") rest e a)
one_outcome input output one other (RemovesDots.Climbs rest kept a w p) (RemovesDots.Stays more b q) = absurd (one_or_two (first_same input (codes ".") more (codes "..") rest b a).0)
one_outcome input output one other (RemovesDots.Climbs rest kept a w p) (RemovesDots.Climbs more left b v q) =
    one_outcome (or_slash rest) kept one other p
    (subst (λ (k : List ℕ). RemovesDots (or_slash rest) k other) (sym (without_same output kept left w v)) (subst (λ (r : List ℕ). RemovesDots (or_slash r) left other) (sym (first_same input (codes "..") rest (codes "..") more a b).1) q))
one_outcome input output one other (RemovesDots.Climbs rest kept a w p) (RemovesDots.Moves segment more b d q) = absurd (no_dots segment (first_same input (codes "..") rest segment more a b).0 d)
one_outcome input output one other (RemovesDots.Moves segment rest a d p) (RemovesDots.Ends e f) = absurd (no_first input segment rest e a)
one_outcome input output one other (RemovesDots.Moves segment rest a d p) (RemovesDots.Stays more b q) = absurd (no_dot segment (first_same input (codes ".") more segment rest b a).0 d)
one_outcome input output one other (RemovesDots.Moves segment rest a d p) (RemovesDots.Climbs more kept b w q) = absurd (no_dots segment (first_same input (codes "..") more segment rest b a).0 d)
one_outcome input output one other (RemovesDots.Moves segment rest a d p) (RemovesDots.Moves name more b g q) =
    let same = first_same input segment rest name more a b in
    one_outcome rest (output ++ 47 ∷ segment) one other p
    (subst (λ (s : List ℕ). RemovesDots rest (output ++ 47 ∷ s) other) (sym same.0) (subst (λ (r : List ℕ). RemovesDots r (output ++ 47 ∷ name) other) (sym same.1) q))
