-- Mangling a segment and unmangling it, by the namespace prefix that it begins with.
use Rattle.std.proofs.Common.{ℕ, Bool, true, false, cond, codes, T, List, [], ◌∷◌, ◌++◌, ◌&&◌, ◌||◌, ◌==◌, ◌≤◌, Ok, length, drop, map, take, Bor, nat_lt, refl, sym, ◌∙◌, ap, subst, ◌≡◌, arith, length-append, nat_eq}
use Rattle.std.proofs.lemmas.Bool.{cond-false, cond-true}
use Rattle.std.proofs.lemmas.Bool.Decides.{nat_tests}
use Rattle.std.proofs.lemmas.List.{take-append-drop, map-append, length-map}
use Rattle.std.specs.Cmp.Lexicographic.{bytes_decides, pointwise}
use Rattle.std.specs.List.{list_all, list_any, starts_with}
use Rattle.sp_base.specs.Paths.{is_path, is_empty, is_long, seg_ok, mangled_of, unless_fault, is_mangled, is_namespaced, mangled_seg, mangled_segs, unmangled_seg, unmangled_segs, pieces}
use Rattle.sp_base.specs.PathTexts.{spelling_of, segs_in}
use Rattle.sp_base.proofs.BoolLemmas.{T_both, T_first, T_second, and_first, and_second, or_first, or_second, true_from_T}
use Rattle.sp_base.proofs.ListLemmas.{cons_is_some}
use Rattle.sp_base.proofs.PathLemmas.{is_not, lacks_of, lacks_slash, mangled_on, no_fault, pieces_lack, small_back, small_le, true_test}
use Rattle.sp_base.proofs.PathText.{spelled-more, pieces-spelled}

-- a segment with a namespace mark is the namespace mark and one byte or more
parts_after : (namespace_mark seg : List ℕ) (rest : List ℕ) → seg ≡ namespace_mark ++ rest → nat_lt (length namespace_mark) (length seg) ≡ true → (x : ℕ) × (more : List ℕ) × (seg ≡ namespace_mark ++ x ∷ more)
parts_after namespace_mark seg [] e long =
    let size : length seg ≡ length namespace_mark = ap length e ∙ length-append namespace_mark [] ∙ omega arith in
    absurd (grind (arith, nat_tests))
parts_after namespace_mark seg (x ∷ more) e long = (x, more, e)

split_namespace_mark : (namespace_mark seg : List ℕ) → is_mangled namespace_mark seg ≡ true → (x : ℕ) × (more : List ℕ) × (seg ≡ namespace_mark ++ x ∷ more)
split_namespace_mark namespace_mark seg h =
    let leading : namespace_mark ≡ take (length namespace_mark) seg = (bytes_decides namespace_mark (take (length namespace_mark) seg)).0 (and_first (starts_with nat_eq seg namespace_mark) _ h) in
    parts_after namespace_mark seg (drop (length namespace_mark) seg) (sym (take-append-drop (length namespace_mark) seg) ∙ ap (λ (t : List ℕ). t ++ drop (length namespace_mark) seg) (sym leading))
    (and_second (starts_with nat_eq seg namespace_mark) _ h)

pub jcr_mangled : (x : ℕ) (more : List ℕ) → mangled_seg (codes "jcr:" ++ x ∷ more) ≡ codes "_jcr_" ++ x ∷ more
jcr_mangled x more = cond-true _ _ _ (mangled_on (codes "jcr:") (codes "jcr:" ++ x ∷ more) refl (cons_is_some x more))

pub sling_mangled : (x : ℕ) (more : List ℕ) → mangled_seg (codes "sling:" ++ x ∷ more) ≡ codes "_sling_" ++ x ∷ more
sling_mangled x more = cond-true _ _ _ (mangled_on (codes "sling:") (codes "sling:" ++ x ∷ more) refl (cons_is_some x more))

pub nt_mangled : (x : ℕ) (more : List ℕ) → mangled_seg (codes "nt:" ++ x ∷ more) ≡ codes "_nt_" ++ x ∷ more
nt_mangled x more = cond-true _ _ _ (mangled_on (codes "nt:") (codes "nt:" ++ x ∷ more) refl (cons_is_some x more))

pub cq_mangled : (x : ℕ) (more : List ℕ) → mangled_seg (codes "cq:" ++ x ∷ more) ≡ codes "_cq_" ++ x ∷ more
cq_mangled x more = cond-true _ _ _ (mangled_on (codes "cq:") (codes "cq:" ++ x ∷ more) refl (cons_is_some x more))

jcr_back : (x : ℕ) (more : List ℕ) → unmangled_seg (codes "_jcr_" ++ x ∷ more) ≡ codes "jcr:" ++ x ∷ more
jcr_back x more = cond-true _ _ _ (mangled_on (codes "_jcr_") (codes "_jcr_" ++ x ∷ more) refl (cons_is_some x more))

sling_back : (x : ℕ) (more : List ℕ) → unmangled_seg (codes "_sling_" ++ x ∷ more) ≡ codes "sling:" ++ x ∷ more
sling_back x more = cond-true _ _ _ (mangled_on (codes "_sling_") (codes "_sling_" ++ x ∷ more) refl (cons_is_some x more))

nt_back : (x : ℕ) (more : List ℕ) → unmangled_seg (codes "_nt_" ++ x ∷ more) ≡ codes "nt:" ++ x ∷ more
nt_back x more = cond-true _ _ _ (mangled_on (codes "_nt_") (codes "_nt_" ++ x ∷ more) refl (cons_is_some x more))

cq_back : (x : ℕ) (more : List ℕ) → unmangled_seg (codes "_cq_" ++ x ∷ more) ≡ codes "cq:" ++ x ∷ more
cq_back x more = cond-true _ _ _ (mangled_on (codes "_cq_") (codes "_cq_" ++ x ∷ more) refl (cons_is_some x more))

four_false : {A : Type 0} (a b c d : Bool) (v w x y z : A) → a ≡ false → b ≡ false → c ≡ false → d ≡ false → cond a v (cond b w (cond c x (cond d y z))) ≡ z
four_false a b c d v w x y z e f g h = cond-false a v (cond b w (cond c x (cond d y z))) e ∙ cond-false b w (cond c x (cond d y z)) f ∙ cond-false c x (cond d y z) g ∙ cond-false d y z h

-- a segment begins with one of the prefixes and goes on, or stays as it is
pub mangled_cases : (P : List ℕ → Type 0) (seg : List ℕ) → ((x : ℕ) (more : List ℕ) → P (codes "jcr:" ++ x ∷ more)) → ((x : ℕ) (more : List ℕ) → P (codes "sling:" ++ x ∷ more))
    → ((x : ℕ) (more : List ℕ) → P (codes "nt:" ++ x ∷ more)) → ((x : ℕ) (more : List ℕ) → P (codes "cq:" ++ x ∷ more)) → (mangled_seg seg ≡ seg → P seg) → P seg
mangled_cases P seg jcr sling nt cq unprefixed =
    elim (is_namespaced (codes "jcr:") seg) as (λ t. is_namespaced (codes "jcr:") seg ≡ t → P seg) [
      | true ↦ λ e. let w = split_namespace_mark (codes "jcr:") seg e in subst P (sym w.2) (jcr w.0 w.1)
      | false ↦ λ e. elim (is_namespaced (codes "sling:") seg) as (λ t. is_namespaced (codes "sling:") seg ≡ t → P seg) [
        | true ↦ λ f. let w = split_namespace_mark (codes "sling:") seg f in subst P (sym w.2) (sling w.0 w.1)
        | false ↦ λ f. elim (is_namespaced (codes "nt:") seg) as (λ t. is_namespaced (codes "nt:") seg ≡ t → P seg) [
          | true ↦ λ g. let w = split_namespace_mark (codes "nt:") seg g in subst P (sym w.2) (nt w.0 w.1)
          | false ↦ λ g. elim (is_namespaced (codes "cq:") seg) as (λ t. is_namespaced (codes "cq:") seg ≡ t → P seg) [
            | true ↦ λ h. let w = split_namespace_mark (codes "cq:") seg h in subst P (sym w.2) (cq w.0 w.1)
            | false ↦ λ h. unprefixed (four_false _ _ _ _ _ _ _ _ _ e f g h)
          ] refl
        ] refl
      ] refl
    ] refl

-- and so for a segment as URLs spell it
pub unmangled_cases : (P : List ℕ → Type 0) (seg : List ℕ) → ((x : ℕ) (more : List ℕ) → P (codes "_jcr_" ++ x ∷ more)) → ((x : ℕ) (more : List ℕ) → P (codes "_sling_" ++ x ∷ more))
    → ((x : ℕ) (more : List ℕ) → P (codes "_nt_" ++ x ∷ more)) → ((x : ℕ) (more : List ℕ) → P (codes "_cq_" ++ x ∷ more)) → (unmangled_seg seg ≡ seg → P seg) → P seg
unmangled_cases P seg jcr sling nt cq unprefixed =
    elim (is_mangled (codes "_jcr_") seg) as (λ t. is_mangled (codes "_jcr_") seg ≡ t → P seg) [
      | true ↦ λ e. let w = split_namespace_mark (codes "_jcr_") seg e in subst P (sym w.2) (jcr w.0 w.1)
      | false ↦ λ e. elim (is_mangled (codes "_sling_") seg) as (λ t. is_mangled (codes "_sling_") seg ≡ t → P seg) [
        | true ↦ λ f. let w = split_namespace_mark (codes "_sling_") seg f in subst P (sym w.2) (sling w.0 w.1)
        | false ↦ λ f. elim (is_mangled (codes "_nt_") seg) as (λ t. is_mangled (codes "_nt_") seg ≡ t → P seg) [
          | true ↦ λ g. let w = split_namespace_mark (codes "_nt_") seg g in subst P (sym w.2) (nt w.0 w.1)
          | false ↦ λ g. elim (is_mangled (codes "_cq_") seg) as (λ t. is_mangled (codes "_cq_") seg ≡ t → P seg) [
            | true ↦ λ h. let w = split_namespace_mark (codes "_cq_") seg h in subst P (sym w.2) (cq w.0 w.1)
            | false ↦ λ h. unprefixed (four_false _ _ _ _ _ _ _ _ _ e f g h)
          ] refl
        ] refl
      ] refl
    ] refl

back_seg : (seg : List ℕ) → unmangled_seg (mangled_seg seg) ≡ unmangled_seg seg
back_seg seg = mangled_cases (λ s. unmangled_seg (mangled_seg s) ≡ unmangled_seg s) seg
    (λ x more. ap unmangled_seg (jcr_mangled x more) ∙ jcr_back x more) (λ x more. ap unmangled_seg (sling_mangled x more) ∙ sling_back x more)
    (λ x more. ap unmangled_seg (nt_mangled x more) ∙ nt_back x more) (λ x more. ap unmangled_seg (cq_mangled x more) ∙ cq_back x more)
    (λ e. ap unmangled_seg e)

again_seg : (seg : List ℕ) → mangled_seg (mangled_seg seg) ≡ mangled_seg seg
again_seg seg = mangled_cases (λ s. mangled_seg (mangled_seg s) ≡ mangled_seg s) seg
    (λ x more. ap mangled_seg (jcr_mangled x more) ∙ sym (jcr_mangled x more)) (λ x more. ap mangled_seg (sling_mangled x more) ∙ sym (sling_mangled x more))
    (λ x more. ap mangled_seg (nt_mangled x more) ∙ sym (nt_mangled x more)) (λ x more. ap mangled_seg (cq_mangled x more) ∙ sym (cq_mangled x more))
    (λ e. ap mangled_seg e)

one_seg : (seg : List ℕ) → mangled_seg (unmangled_seg seg) ≡ mangled_seg seg
one_seg seg = unmangled_cases (λ s. mangled_seg (unmangled_seg s) ≡ mangled_seg s) seg
    (λ x more. ap mangled_seg (jcr_back x more) ∙ jcr_mangled x more) (λ x more. ap mangled_seg (sling_back x more) ∙ sling_mangled x more)
    (λ x more. ap mangled_seg (nt_back x more) ∙ nt_mangled x more) (λ x more. ap mangled_seg (cq_back x more) ∙ cq_mangled x more)
    (λ e. ap mangled_seg e)

pub back : (path : List (List ℕ)) → unmangled_segs (mangled_segs path) ≡ unmangled_segs path
back [] = refl
back (seg ∷ path) = λ i. back_seg seg i ∷ back path i

pub again : (path : List (List ℕ)) → mangled_segs (mangled_segs path) ≡ mangled_segs path
again [] = refl
again (seg ∷ path) = λ i. again_seg seg i ∷ again path i

pub one : (path : List (List ℕ)) → mangled_segs (unmangled_segs path) ≡ mangled_segs path
one [] = refl
one (seg ∷ path) = λ i. one_seg seg i ∷ one path i

-- a mangled segment has no slash
seg_lacks : (seg : List ℕ) → T (lacks_slash seg) → T (lacks_slash (mangled_seg seg))
seg_lacks seg = mangled_cases (λ s. T (lacks_slash s) → T (lacks_slash (mangled_seg s))) seg
    (λ x more h. subst (λ (s : List ℕ). T (lacks_slash s)) (sym (jcr_mangled x more)) h) (λ x more h. subst (λ (s : List ℕ). T (lacks_slash s)) (sym (sling_mangled x more)) h)
    (λ x more h. subst (λ (s : List ℕ). T (lacks_slash s)) (sym (nt_mangled x more)) h) (λ x more h. subst (λ (s : List ℕ). T (lacks_slash s)) (sym (cq_mangled x more)) h)
    (λ e h. subst (λ (s : List ℕ). T (lacks_slash s)) (sym e) h)

pub mangled_lacks : (segs : List (List ℕ)) → T (list_all lacks_slash segs) → T (list_all lacks_slash (mangled_segs segs))
mangled_lacks [] h = tt
mangled_lacks (seg ∷ segs) h = T_both _ _ (seg_lacks seg (T_first _ _ h)) (mangled_lacks segs (T_second _ _ h))

-- the segments of the mangled text
pub mangled_in : (text rest : List ℕ) → text ≡ spelling_of (mangled_segs (pieces rest)) → (segs_in text ≡ mangled_segs (pieces rest)) × (spelling_of (segs_in text) ≡ text)
unfolding segs_in
mangled_in text rest e =
    let same : segs_in text ≡ mangled_segs (pieces rest) = ap segs_in e ∙ ap (drop 1) (pieces-spelled (mangled_segs (pieces rest)) (mangled_lacks (pieces rest) (pieces_lack rest))) in
    (same, ap spelling_of same ∙ sym e)

-- one piece more
pub mangled-push : (seen : List (Bor (List ℕ))) (piece : Bor (List ℕ)) (text more : List ℕ) → text ≡ spelling_of (mangled_segs (map (λ s. s.now) seen)) → more ≡ (text ++ 47 ∷ []) ++ mangled_seg piece.now
    → more ≡ spelling_of (mangled_segs (map (λ s. s.now) (seen ++ piece ∷ [])))
mangled-push seen piece text more e is =
    let segs = map (λ s. s.now) seen in
    is ∙ ap (λ leading. (leading ++ 47 ∷ []) ++ mangled_seg piece.now) e ∙ sym (spelled-more (mangled_segs segs) (mangled_seg piece.now))
    ∙ ap spelling_of (sym (ap mangled_segs (map-append (λ s. s.now) seen (piece ∷ [])) ∙ map-append mangled_seg segs (piece.now ∷ [])))

-- segments without a slash are those of their spelling
pub segs_back : (segs : List (List ℕ)) → T (list_all lacks_slash segs) → segs_in (spelling_of segs) ≡ segs
unfolding segs_in
segs_back segs h = ap (drop 1) (pieces-spelled segs h)

-- a mangled segment is one unless it is too long
full_ok : (b : ℕ) (seg : List ℕ) → (b == 46) ≡ false → T (lacks_slash (b ∷ seg)) → is_long (b ∷ seg) ≡ false → T (seg_ok (b ∷ seg))
full_ok b seg dot lacks long =
    let full : is_empty (b ∷ seg) ≡ false = cons_is_some b seg in
    let first_differs : (pointwise nat_eq (b ∷ seg) (codes ".") || pointwise nat_eq (b ∷ seg) (codes "..")) ≡ false =
    ap (λ t. (t && pointwise nat_eq seg []) || (t && pointwise nat_eq seg (codes "."))) dot in
    T_both _ _ (is_not _ full) (T_both _ _ (is_not _ first_differs) (T_both _ _ (is_not _ long) lacks))

ok_after : (seg : List ℕ) → T (seg_ok seg) → is_long (mangled_seg seg) ≡ false → T (seg_ok (mangled_seg seg))
ok_after seg = mangled_cases (λ s. T (seg_ok s) → is_long (mangled_seg s) ≡ false → T (seg_ok (mangled_seg s))) seg
    (λ x more h long. subst (λ (s : List ℕ). T (seg_ok s)) (sym (jcr_mangled x more)) (full_ok 95 (codes "jcr_" ++ x ∷ more) refl (lacks_of (codes "jcr:" ++ x ∷ more) h) (ap is_long (sym (jcr_mangled x more)) ∙ long)))
    (λ x more h long. subst (λ (s : List ℕ). T (seg_ok s)) (sym (sling_mangled x more)) (full_ok 95 (codes "sling_" ++ x ∷ more) refl (lacks_of (codes "sling:" ++ x ∷ more) h) (ap is_long (sym (sling_mangled x more)) ∙ long)))
    (λ x more h long. subst (λ (s : List ℕ). T (seg_ok s)) (sym (nt_mangled x more)) (full_ok 95 (codes "nt_" ++ x ∷ more) refl (lacks_of (codes "nt:" ++ x ∷ more) h) (ap is_long (sym (nt_mangled x more)) ∙ long)))
    (λ x more h long. subst (λ (s : List ℕ). T (seg_ok s)) (sym (cq_mangled x more)) (full_ok 95 (codes "cq_" ++ x ∷ more) refl (lacks_of (codes "cq:" ++ x ∷ more) h) (ap is_long (sym (cq_mangled x more)) ∙ long)))
    (λ e h long. subst (λ (s : List ℕ). T (seg_ok s)) (sym e) h)

all_after : (segs : List (List ℕ)) → T (list_all seg_ok segs) → list_any is_long (mangled_segs segs) ≡ false → T (list_all seg_ok (mangled_segs segs))
all_after [] h long = tt
all_after (seg ∷ segs) h long = T_both _ _ (ok_after seg (T_first _ _ h) (or_first _ _ long)) (all_after segs (T_second _ _ h) (or_second _ _ long))

pub fits : (path : List (List ℕ)) → is_path path ≡ true → list_any is_long (mangled_segs path) ≡ false → mangled_of path ≡ Ok (mangled_segs path)
fits path h long =
    let t = true_test (is_path path) h in
    let few : length (mangled_segs path) ≤ 64 = omega (arith, small_back (length path) (T_second _ _ t), length-map path mangled_seg) in
    ap (λ fault. unless_fault fault (mangled_segs path)) (no_fault (mangled_segs path) (all_after path (T_first _ _ t) long) few)

pub mangled_path : (path : List (List ℕ)) → is_path path ≡ true → list_any is_long (mangled_segs path) ≡ false → is_path (mangled_segs path) ≡ true
mangled_path path h long =
    let t = true_test (is_path path) h in
    let few : length (mangled_segs path) ≤ 64 = omega (arith, small_back (length path) (T_second _ _ t), length-map path mangled_seg) in
    true_from_T _ (T_both _ _ (all_after path (T_first _ _ t) long) (small_le (length (mangled_segs path)) few))
