-- The tests that try every cutting of a text say what the language does.
use Rattle.std.proofs.Common.{◌≡◌, ◌↔◌, ◌⊎◌, inl, inr, ℕ, zero, suc, ◌+◌, Bool, true, false, ◌&&◌, ◌||◌, List, [], ◌∷◌, ◌++◌, length, IsTrue, IfOk, Result, Ok, Err, refl, ap, sym, ◌∙◌, subst, arith}
use Rattle.std.proofs.lemmas.List.{length-append}
use Rattle.sp_base.proofs.BoolLemmas.{or_true}
use Rattle.regex_rules.specs.declared.repeat.Repeat.{Repeat}
use Rattle.regex_rules.specs.declared.repeat.Repeat.TheVariants.{Once, Optional, Any, AtLeastOnce}
use Rattle.regex_rules.specs.declared.character.OneChar.{OneChar}
use Rattle.regex_rules.specs.Trees.{PatternTree, Empty, Char, Bracket, Or}
use Rattle.regex_rules.specs.Languages.{Texts, Cut, Times, Repeated, IsOne, is_one, Which, Last, Earlier, InRow, InLanguage, lacks_characters, is_one_text, is_cut_in_two, is_times, is_times_at_most, is_any_times, is_repetition, in_row, in_language}
use Rattle.regex_rules.proofs.TextLemmas.{Says, says_or, says_and, says_iff, says_false, ends_empty, cons_is_some}

-- a test says of each text whether it is in a set
abbrev Tells : (List ℕ → Bool) → Texts → Type 0
Tells p P = (cs : List ℕ) → Says (p cs) (P cs)

tells_empty : Tells lacks_characters (λ cs. cs ≡ [])
tells_empty [] = (λ e. refl, λ e. refl)
tells_empty (c ∷ cs) = says_false (cons_is_some c cs)

tells_one : (one : OneChar) → Tells (is_one_text one) (IsOne one)
tells_one one [] = says_false (λ s. cons_is_some s.0 [] (sym s.2))
tells_one one (c ∷ cs) = says_iff (is_one one c && lacks_characters cs) (says_and (is_one one c) (lacks_characters cs) ((λ e. e), (λ e. e)) (tells_empty cs)) (there, back)
  where
    there : (is_one one c ≡ true) × (cs ≡ []) → IsOne one (c ∷ cs)
    there (fits, none) = (c, fits, ap (λ (l : List ℕ). c ∷ l) none)

    back : IsOne one (c ∷ cs) → (is_one one c ≡ true) × (cs ≡ [])
    back (d, fits, e) =
        let same : c ≡ d = cc in
        (subst (λ (n : ℕ). is_one one n ≡ true) (sym same) fits, cc)

-- ---- cuttings

tells_cut : {P Q : Texts} (p q : List ℕ → Bool) → Tells p P → Tells q Q → Tells (is_cut_in_two p q) (Cut P Q)
tells_cut {P = P} {Q = Q} p q sp sq [] = says_iff (p [] && q []) (says_and (p []) (q []) (sp []) (sq [])) (there, back)
  where
    there : P [] × Q [] → Cut P Q []
    there (x, y) = ([], [], x, y, refl)

    back : Cut P Q [] → P [] × Q []
    back (xs, ys, x, y, e) = let parts = ends_empty xs ys e in (subst P parts.0 x, subst Q parts.1 y)
tells_cut {P = P} {Q = Q} p q sp sq (c ∷ cs) =
    says_iff ((p [] && q (c ∷ cs)) || is_cut_in_two (λ part. p (c ∷ part)) q cs)
    (says_or (p [] && q (c ∷ cs)) (is_cut_in_two (λ part. p (c ∷ part)) q cs) (says_and (p []) (q (c ∷ cs)) (sp []) (sq (c ∷ cs))) (tells_cut {P = λ part. P (c ∷ part)} {Q = Q} (λ part. p (c ∷ part)) q (λ part. sp (c ∷ part)) sq cs))
    (there, back)
  where
    there : (P [] × Q (c ∷ cs)) ⊎ Cut (λ part. P (c ∷ part)) Q cs → Cut P Q (c ∷ cs)
    there (inl (x, y)) = ([], c ∷ cs, x, y, refl)
    there (inr (xs, ys, x, y, e)) = (c ∷ xs, ys, x, y, ap (λ (l : List ℕ). c ∷ l) e)

    back : Cut P Q (c ∷ cs) → (P [] × Q (c ∷ cs)) ⊎ Cut (λ part. P (c ∷ part)) Q cs
    back ([], ys, x, y, e) = inl (x, subst Q (sym e) y)
    back (d ∷ xs, ys, x, y, e) =
        let same : d ≡ c = cc in
        let rest : cs ≡ xs ++ ys = cc in
        inr (xs, ys, subst (λ (n : ℕ). P (n ∷ xs)) same x, y, rest)

-- ---- repetitions

tells_times : {P : Texts} (p : List ℕ → Bool) → Tells p P → (number : ℕ) → Tells (is_times number p) (Times number P)
tells_times p sp zero cs = tells_empty cs
tells_times {P = P} p sp (suc number) cs = tells_cut {P = P} {Q = Times number P} p (is_times number p) sp (tells_times p sp number) cs

at_most_there : {P : Texts} (p : List ℕ → Bool) → Tells p P → (most : ℕ) (cs : List ℕ) → is_times_at_most most p cs ≡ true → (number : ℕ) × Times number P cs
at_most_there p sp zero cs e = (0, (tells_times p sp 0 cs).0 e)
at_most_there {P = P} p sp (suc most) cs e =
    elim ((says_or (is_times (suc most) p cs) (is_times_at_most most p cs) (tells_times p sp (suc most) cs) ((λ h. h), (λ h. h))).0 e) [
      | inl t ↦ (suc most, t)
      | inr h ↦ at_most_there p sp most cs h
    ]

-- this number of parts is at most itself
as_many : {P : Texts} (p : List ℕ → Bool) → Tells p P → (number : ℕ) (cs : List ℕ) → Times number P cs → is_times_at_most number p cs ≡ true
as_many p sp zero cs t = (tells_times p sp 0 cs).1 t
as_many p sp (suc number) cs t = ap (λ (b : Bool). b || is_times_at_most number p cs) ((tells_times p sp (suc number) cs).1 t)

at_most_back : {P : Texts} (p : List ℕ → Bool) → Tells p P → (more number most : ℕ) (cs : List ℕ) → most ≡ more + number → Times number P cs → is_times_at_most most p cs ≡ true
at_most_back p sp zero number most cs e t = let same : most ≡ number = omega arith in ap (λ (n : ℕ). is_times_at_most n p cs) same ∙ as_many p sp number cs t
at_most_back p sp (suc more) number zero cs e t = absurd (omega arith)
at_most_back p sp (suc more) number (suc most) cs e t =
    ap (λ (b : Bool). is_times (suc most) p cs || b) (at_most_back p sp more number most cs (omega arith) t) ∙ or_true (is_times (suc most) p cs)

-- no more parts are needed than a text has characters
few_parts : (P : Texts) (number : ℕ) (cs : List ℕ) → Times number P cs → (more : ℕ) × (fewer : ℕ) × (length cs ≡ more + fewer) × Times fewer P cs
few_parts P zero cs e = (0, 0, ap length e, e)
few_parts P (suc number) cs ([], ys, x, t, e) = let ih = few_parts P number ys t in (ih.0, ih.1, ap length e ∙ ih.2, subst (Times ih.1 P) (sym e) ih.3)
few_parts P (suc number) cs (c ∷ xs, ys, x, t, e) =
    let ih = few_parts P number ys t in
    let size : length cs ≡ length (c ∷ xs) + length ys = ap length e ∙ length-append (c ∷ xs) ys in
    let one : length (c ∷ xs) ≡ suc (length xs) = refl in
    (length xs + ih.0, suc ih.1, omega (arith, size, one, ih.2), (c ∷ xs, ys, x, ih.3, e))

tells_any : {P : Texts} (p : List ℕ → Bool) → Tells p P → Tells (is_any_times p) (λ cs. (number : ℕ) × Times number P cs)
tells_any {P = P} p sp cs = (at_most_there p sp (length cs) cs, back)
  where
    back : (number : ℕ) × Times number P cs → is_any_times p cs ≡ true
    back (number, t) = let few = few_parts P number cs t in at_most_back p sp few.0 few.1 (length cs) cs few.2 few.3

tells_repeated : {P : Texts} (p : List ℕ → Bool) → Tells p P → (repeat : Repeat) → Tells (is_repetition repeat p) (Repeated repeat P)
tells_repeated p sp Once cs = sp cs
tells_repeated p sp Optional cs = says_or (lacks_characters cs) (p cs) (tells_empty cs) (sp cs)
tells_repeated p sp Any cs = tells_any p sp cs
tells_repeated {P = P} p sp AtLeastOnce cs = says_iff (is_cut_in_two p (is_any_times p) cs) (tells_cut {P = P} {Q = λ ds. (number : ℕ) × Times number P ds} p (is_any_times p) sp (tells_any p sp) cs) (there, back)
  where
    there : Cut P (λ ds. (number : ℕ) × Times number P ds) cs → Repeated AtLeastOnce P cs
    there (xs, ys, x, (number, t), e) = (number, (xs, ys, x, t, e))

    back : Repeated AtLeastOnce P cs → Cut P (λ ds. (number : ℕ) × Times number P ds) cs
    back (number, (xs, ys, x, t, e)) = (xs, ys, x, (number, t), e)

-- ---- trees

tells_row : (which : Which) (tree : PatternTree) → Tells (in_row which tree) (InRow which tree)
tells_row Last Empty cs = tells_empty cs
tells_row Last (Char rows one repeat) cs = tells_cut {P = InRow Last rows} {Q = Repeated repeat (IsOne one)} (in_row Last rows) (is_repetition repeat (is_one_text one)) (tells_row Last rows) (tells_repeated (is_one_text one) (tells_one one) repeat) cs
tells_row Last (Bracket rows inner repeat) cs =
    tells_cut {P = InRow Last rows} {Q = Repeated repeat (λ ds. InRow Earlier inner ds ⊎ InRow Last inner ds)} (in_row Last rows) (is_repetition repeat (λ part. in_row Earlier inner part || in_row Last inner part)) (tells_row Last rows)
    (tells_repeated (λ part. in_row Earlier inner part || in_row Last inner part) (λ ds. says_or (in_row Earlier inner ds) (in_row Last inner ds) (tells_row Earlier inner ds) (tells_row Last inner ds)) repeat) cs
tells_row Last (Or rows) cs = tells_empty cs
tells_row Earlier Empty cs = says_false (λ s. s)
tells_row Earlier (Char rows one repeat) cs = tells_row Earlier rows cs
tells_row Earlier (Bracket rows inner repeat) cs = tells_row Earlier rows cs
tells_row Earlier (Or rows) cs = says_or (in_row Earlier rows cs) (in_row Last rows cs) (tells_row Earlier rows cs) (tells_row Last rows cs)

pub tells_language : (tree : PatternTree) (cs : List ℕ) → IsTrue (in_language tree cs) ↔ InLanguage tree cs
unfolding in_language
tells_language tree cs = says_or (in_row Earlier tree cs) (in_row Last tree cs) (tells_row Earlier tree cs) (tells_row Last tree cs)

-- two tests that say the same are one
same_test : {A : Type 0} (a b : Bool) → Says a A → Says b A → a ≡ b
same_test true true sa sb = refl
same_test true false sa sb = sym (sb.1 (sa.0 refl))
same_test false true sa sb = sa.1 (sb.0 refl)
same_test false false sa sb = refl

pub told : {E : Type 0} (tree : PatternTree) (cs : List ℕ) (result : Result Bool E) → IfOk result (λ answer. IsTrue answer ↔ InLanguage tree cs) → IfOk result (λ answer. answer ≡ in_language tree cs)
told tree cs (Ok answer) says = same_test answer (in_language tree cs) says (tells_language tree cs)
told tree cs (Err fault) says = tt
