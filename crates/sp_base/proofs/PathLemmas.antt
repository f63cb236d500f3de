-- Pieces of a text have no slash, and pieces without a fault are a path.
use Rattle.std.proofs.Common.{IfOk, IfErr, Result, codes, map, lit≤, lit<, length-append, ◌<◌, drop, nat_eq, Ok, Err, ◌≡◌, ◌≢◌, ℕ, zero, suc, ◌+◌, ◌≤◌, Bool, true, false, cond, not, ◌&&◌, ◌||◌, T, List, [], ◌∷◌, ◌++◌, Option, Some, None, length, take, refl, sym, ◌∙◌, ap, subst, arith, nat_lt, ◌==◌, nat_le}
use Rattle.std.proofs.lemmas.Bool.{eqb-true, le-ltb}
use Rattle.std.proofs.lemmas.Bool.Decides.{nat_tests}
use Rattle.std.proofs.lemmas.Iterator.Adapters.{position_from-zero}
use Rattle.std.proofs.lemmas.List.{length-take, take-append-drop, take_at, length-drop, length-map}
use Rattle.std.specs.Cmp.Lexicographic.{bytes_decides}
use Rattle.std.specs.List.{list_all, list_any, position, position_from, onto_first, starts_with}
use Rattle.std.specs.Option.{MatchOption, IfNone}
use Rattle.sp_base.specs.declared.path.PathFault.{PathFault}
use Rattle.sp_base.specs.declared.path.PathFault.TheVariants.{EmptySegment, DotSegment, TooDeep}
use Rattle.sp_base.specs.Paths.{seg_ok, is_empty, is_dots, is_long, has_slash, pieces, fault_of, size_fault, is_path, path_of, child_of, path_or_fault, unless_fault, is_mangled, unmangled_by, unmangled_seg}
use Rattle.sp_base.proofs.BoolLemmas.{T_both, T_first, T_second, false_from_T_not, or_first, or_second, true_from_T}
use Rattle.sp_base.proofs.NatLemmas.{not_zero}

abbrev pub lacks_slash : List ℕ → Bool
lacks_slash seg = not (has_slash seg)

onto_first_lacks : (b : ℕ) (parts : List (List ℕ)) → (b == 47) ≡ false → T (list_all lacks_slash parts) → T (list_all lacks_slash (onto_first b parts))
onto_first_lacks b [] e h = subst (λ t. T (not (t || false) && true)) (sym e) tt
onto_first_lacks b (part ∷ parts) e h =
    T_both _ _ (subst (λ t. T (not (t || has_slash part))) (sym e) (T_first _ _ h)) (T_second _ _ h)

pub pieces_lack : (text : List ℕ) → T (list_all lacks_slash (pieces text))
pieces_lack [] = tt
pieces_lack (b ∷ text) =
    elim (b == 47) as (λ t. (b == 47) ≡ t → T (list_all lacks_slash (cond t ([] ∷ pieces text) (onto_first b (pieces text))))) [
      | true ↦ λ e. pieces_lack text
      | false ↦ λ e. onto_first_lacks b (pieces text) e (pieces_lack text)
    ] refl

pub all-append : (p : List ℕ → Bool) (xs ys : List (List ℕ)) → T (list_all p xs) → T (list_all p ys) → T (list_all p (xs ++ ys))
all-append p [] ys h k = k
all-append p (x ∷ xs) ys h k = T_both _ _ (T_first _ _ h) (all-append p xs ys (T_second _ _ h) k)

pub lacks_of : (seg : List ℕ) → T (seg_ok seg) → T (lacks_slash seg)
lacks_of seg h = T_second (not (is_long seg)) (lacks_slash seg) (T_second (not (is_dots seg)) _ (T_second (not (is_empty seg)) _ h))

pub path_lacks : (segs : List (List ℕ)) → T (list_all seg_ok segs) → T (list_all lacks_slash segs)
path_lacks [] h = tt
path_lacks (seg ∷ segs) h = T_both _ _ (lacks_of seg (T_first _ _ h)) (path_lacks segs (T_second _ _ h))

pub all-take : (p : List ℕ → Bool) (xs : List (List ℕ)) (n : ℕ) → T (list_all p xs) → T (list_all p (take n xs))
all-take p [] zero h = tt
all-take p [] (suc n) h = tt
all-take p (x ∷ xs) zero h = tt
all-take p (x ∷ xs) (suc n) h = T_both _ _ (T_first _ _ h) (all-take p xs n (T_second _ _ h))

-- what the absence of each fault says
pub is_not : (a : Bool) → a ≡ false → T (not a)
is_not a e = subst (λ t. T (not t)) (sym e) tt

no_long : (segs : List (List ℕ)) (n : ℕ) → position_from is_long n segs ≡ None → list_any is_long segs ≡ false
no_long [] n e = refl
no_long (seg ∷ segs) n e =
    elim (is_long seg) as (λ t. cond t (Some n) (position_from is_long (n + 1) segs) ≡ None → (t || list_any is_long segs) ≡ false) [
      | true ↦ λ h. absurd (cc)
      | false ↦ λ h. no_long segs (n + 1) h
    ] e

pub all_ok : (segs : List (List ℕ)) → list_any is_empty segs ≡ false → list_any is_dots segs ≡ false → list_any is_long segs ≡ false
    → T (list_all lacks_slash segs) → T (list_all seg_ok segs)
all_ok [] e d l h = tt
all_ok (seg ∷ segs) e d l h =
    T_both _ _
    (T_both _ _ (is_not (is_empty seg) (or_first _ _ e)) (T_both _ _ (is_not (is_dots seg) (or_first _ _ d)) (T_both _ _ (is_not (is_long seg) (or_first _ _ l)) (T_first _ _ h))))
    (all_ok segs (or_second _ _ e) (or_second _ _ d) (or_second _ _ l) (T_second _ _ h))

short_enough : (n : ℕ) → cond (nat_lt 64 n) (Some TooDeep) None ≡ None → n ≤ 64
short_enough n e =
    elim (nat_lt 64 n) as (λ t. nat_lt 64 n ≡ t → cond t (Some TooDeep) None ≡ None → n ≤ 64) [
      | true ↦ λ is h. absurd (cc)
      | false ↦ λ is h. grind (arith, nat_tests)
    ] refl e

sized : (o : Option ℕ) (n : ℕ) → size_fault o n ≡ None → (o ≡ None) × (n ≤ 64)
sized (Some place) n e = absurd (cc)
sized None n e = (refl, short_enough n e)

pub true_test : (b : Bool) → b ≡ true → T b
true_test b e = subst T (sym e) tt

pub small_le : (n : ℕ) → n ≤ 64 → T (nat_le n 64)
small_le n h = true_test (nat_le n 64) (grind (arith, nat_tests))

pub small_back : (n : ℕ) → T (nat_le n 64) → n ≤ 64
small_back n h = let e = true_from_T (nat_le n 64) h in grind (arith, nat_tests)

-- the first segments of a path are a path
pub first_path : (segs : List (List ℕ)) (n : ℕ) → is_path segs ≡ true → is_path (take n segs) ≡ true
first_path segs n h =
    let t = true_test (is_path segs) h in
    let shorter : length (take n segs) ≤ 64 = omega (arith, small_back (length segs) (T_second _ _ t), length-take n segs) in
    true_from_T _ (T_both _ _ (all-take seg_ok segs n (T_first _ _ t)) (small_le (length (take n segs)) shorter))

pub path_ok : (segs : List (List ℕ)) → is_path segs ≡ true → T (list_all seg_ok segs)
path_ok segs h = T_first _ _ (true_test (is_path segs) h)

pub path_pieces : (segs : List (List ℕ)) → is_path segs ≡ true → T (list_all lacks_slash segs)
path_pieces segs h = path_lacks segs (path_ok segs h)

pub path_from : (segs : List (List ℕ)) → T (list_all lacks_slash segs) → fault_of segs ≡ None → is_path segs ≡ true
path_from segs h none =
    elim (list_any is_empty segs) as (λ a. list_any is_empty segs ≡ a
    → cond a (Some EmptySegment) (cond (list_any is_dots segs) (Some DotSegment) (size_fault (position is_long segs) (length segs))) ≡ None → is_path segs ≡ true) [
      | true ↦ λ e n. absurd (cc)
      | false ↦ λ e n. elim (list_any is_dots segs) as (λ b. list_any is_dots segs ≡ b
          → cond b (Some DotSegment) (size_fault (position is_long segs) (length segs)) ≡ None → is_path segs ≡ true) [
            | true ↦ λ d m. absurd (cc)
            | false ↦ λ d m.
                let s = sized (position is_long segs) (length segs) m in
                true_from_T _ (T_both _ _ (all_ok segs e d (no_long segs 0 (sym (position_from-zero is_long segs) ∙ s.0)) h) (small_le (length segs) s.1))
          ] refl n
    ] refl none

pub of_pieces : (text rest : List ℕ) → text ≡ 47 ∷ rest → is_empty rest ≡ false → path_of text ≡ path_or_fault (pieces rest)
of_pieces text rest e full = ap path_of e ∙ ap (λ t. cond t (Ok []) (path_or_fault (pieces rest))) full

-- a text without a slash is its one piece
pub pieces_whole : (name : List ℕ) → has_slash name ≡ false → pieces name ≡ name ∷ []
pieces_whole [] h = refl
pieces_whole (b ∷ name) h =
    ap (λ t. cond t ([] ∷ pieces name) (onto_first b (pieces name))) (or_first _ _ h) ∙ ap (onto_first b) (pieces_whole name (or_second _ _ h))

ok_whole : (name : List ℕ) → seg_ok name ≡ true → pieces name ≡ name ∷ []
ok_whole name h = pieces_whole name (false_from_T_not _ (lacks_of name (true_test (seg_ok name) h)))

pub path_made_is : (fault : Option PathFault) (segs p : List (List ℕ)) → unless_fault fault segs ≡ Ok p → p ≡ segs
path_made_is None segs p e = cc (e)
path_made_is (Some fault) segs p e = absurd (cc (e))

pub child_whole : (segs : List (List ℕ)) (name : List ℕ) (p : List (List ℕ)) → child_of segs name ≡ Ok p → seg_ok name ≡ true → p ≡ segs ++ name ∷ []
child_whole segs name p e ok = path_made_is (fault_of (segs ++ pieces name)) (segs ++ pieces name) p e ∙ ap (λ more. segs ++ more) (ok_whole name ok)

pub no_segment_is : (p : List ℕ → Bool) (segs : List (List ℕ)) → ((seg : List ℕ) → T (seg_ok seg) → p seg ≡ false) → T (list_all seg_ok segs) → list_any p segs ≡ false
no_segment_is p [] none h = refl
no_segment_is p (seg ∷ segs) none h = ap (λ t. t || list_any p segs) (none seg (T_first _ _ h)) ∙ no_segment_is p segs none (T_second _ _ h)

pub none_long : (segs : List (List ℕ)) (n : ℕ) → list_any is_long segs ≡ false → position_from is_long n segs ≡ None
none_long [] n e = refl
none_long (seg ∷ segs) n e =
    ap (λ t. cond t (Some n) (position_from is_long (n + 1) segs)) (or_first _ _ e) ∙ none_long segs (n + 1) (or_second _ _ e)

pub none_empty : (segs : List (List ℕ)) → T (list_all seg_ok segs) → list_any is_empty segs ≡ false
none_empty segs h = no_segment_is is_empty segs (λ seg ok. false_from_T_not _ (T_first (not (is_empty seg)) _ ok)) h

pub none_dots : (segs : List (List ℕ)) → T (list_all seg_ok segs) → list_any is_dots segs ≡ false
none_dots segs h = no_segment_is is_dots segs (λ seg ok. false_from_T_not _ (T_first (not (is_dots seg)) _ (T_second (not (is_empty seg)) _ ok))) h

pub all_short : (segs : List (List ℕ)) → T (list_all seg_ok segs) → list_any is_long segs ≡ false
all_short segs h = no_segment_is is_long segs (λ seg ok. false_from_T_not _ (T_first (not (is_long seg)) _ (T_second (not (is_dots seg)) _ (T_second (not (is_empty seg)) _ ok)))) h

pub no_fault : (segs : List (List ℕ)) → T (list_all seg_ok segs) → length segs ≤ 64 → fault_of segs ≡ None
no_fault segs h small =
    let empty = none_empty segs h in
    let dots = none_dots segs h in
    let long = all_short segs h in
    let few : nat_lt 64 (length segs) ≡ false = grind (arith, nat_tests) in
    ap (λ t. cond t (Some EmptySegment) (cond (list_any is_dots segs) (Some DotSegment) (size_fault (position is_long segs) (length segs)))) empty
    ∙ ap (λ t. cond t (Some DotSegment) (size_fault (position is_long segs) (length segs))) dots
    ∙ ap (λ o. size_fault o (length segs)) (position_from-zero is_long segs ∙ none_long segs 0 long)
    ∙ ap (λ t. cond t (Some TooDeep) None) few

pub child_fits : (segs : List (List ℕ)) (name : List ℕ) → is_path segs ≡ true → seg_ok name ≡ true → length segs < 64 → child_of segs name ≡ Ok (segs ++ name ∷ [])
child_fits segs name path ok less =
    let each = all-append seg_ok segs (name ∷ []) (T_first _ _ (true_test (is_path segs) path)) (T_both _ _ (true_test (seg_ok name) ok) tt) in
    let small : length (segs ++ name ∷ []) ≤ 64 = omega (arith, length-append segs (name ∷ []), less) in
    ap (λ more. path_or_fault (segs ++ more)) (ok_whole name ok) ∙ ap (λ fault. unless_fault fault (segs ++ name ∷ [])) (no_fault (segs ++ name ∷ []) each small)

pub no_fault_left : (segs : List (List ℕ)) (name : List ℕ) (e : PathFault) → is_path segs ≡ true → child_of segs name ≡ Err e → seg_ok name ≡ true → length segs < 64 → ⊥
no_fault_left segs name e path h ok less = cc (h, child_fits segs name path ok less)

-- whether a segment begins with a namespace mark, by what stripping the namespace mark answers
lacks_namespace_mark : (namespace_mark seg : List ℕ) → ((rest : List ℕ) → seg ≢ namespace_mark ++ rest) → starts_with nat_eq seg namespace_mark ≡ false
lacks_namespace_mark namespace_mark seg lacks =
    let k = length namespace_mark in
    elim (starts_with nat_eq seg namespace_mark) as (λ b. starts_with nat_eq seg namespace_mark ≡ b → b ≡ false) [
      | true ↦ λ e. absurd (lacks (drop k seg) (sym (take-append-drop k seg) ∙ ap (λ leading. leading ++ drop k seg) (sym ((bytes_decides namespace_mark (take k seg)).0 e))))
      | false ↦ λ e. refl
    ] refl

has_namespace_mark : (namespace_mark seg : List ℕ) → seg ≡ namespace_mark ++ drop (length namespace_mark) seg → starts_with nat_eq seg namespace_mark ≡ true
has_namespace_mark namespace_mark seg e =
    let leading : namespace_mark ≡ take (length namespace_mark) seg = sym (ap (take (length namespace_mark)) e ∙ take_at namespace_mark (drop (length namespace_mark) seg) (length namespace_mark) refl) in
    (bytes_decides namespace_mark (take (length namespace_mark) seg)).1 leading

longer : (m n k : ℕ) → (k == 0) ≡ false → n ≡ m + k → nat_lt m n ≡ true
longer m n k h e = grind (arith, nat_tests)

pub not_mangled : (namespace_mark seg : List ℕ) → ((rest : List ℕ) → seg ≢ namespace_mark ++ rest) → is_mangled namespace_mark seg ≡ false
not_mangled namespace_mark seg lacks = ap (λ b. b && nat_lt (length namespace_mark) (length seg)) (lacks_namespace_mark namespace_mark seg lacks)

pub mangled_alone : (namespace_mark seg : List ℕ) → seg ≡ namespace_mark ++ drop (length namespace_mark) seg → (length (drop (length namespace_mark) seg) == 0) ≡ true → is_mangled namespace_mark seg ≡ false
mangled_alone namespace_mark seg e none =
    let zero_left = eqb-true (length (drop (length namespace_mark) seg)) 0 none in
    let long : nat_lt (length namespace_mark) (length seg) ≡ false =
    le-ltb (length namespace_mark) (length seg) (omega (arith, zero_left, ap length e, length-append namespace_mark (drop (length namespace_mark) seg))) in
    ap (λ b. b && nat_lt (length namespace_mark) (length seg)) (has_namespace_mark namespace_mark seg e) ∙ long

pub mangled_on : (namespace_mark seg : List ℕ) → seg ≡ namespace_mark ++ drop (length namespace_mark) seg → (length (drop (length namespace_mark) seg) == 0) ≡ false → is_mangled namespace_mark seg ≡ true
mangled_on namespace_mark seg e some =
    let long : nat_lt (length namespace_mark) (length seg) ≡ true = longer (length namespace_mark) (length seg) (length (drop (length namespace_mark) seg)) some (ap length e ∙ length-append namespace_mark (drop (length namespace_mark) seg)) in
    ap (λ b. b && nat_lt (length namespace_mark) (length seg)) (has_namespace_mark namespace_mark seg e) ∙ long

pub IfOk-from : {A E : Type 0} (r : Result A E) {P : A → Type 0} → ((x : A) → r ≡ Ok x → P x) → IfOk r P
IfOk-from (Ok x) h = h x refl
IfOk-from (Err e) h = tt

pub IfErr-from : {A E : Type 0} (r : Result A E) {P : E → Type 0} → ((e : E) → r ≡ Err e → P e) → IfErr r P
IfErr-from (Ok x) h = tt
IfErr-from (Err e) h = h e refl

-- unmangling keeps a path a path
pub lacks-drop : (n : ℕ) (seg : List ℕ) → has_slash seg ≡ false → has_slash (drop n seg) ≡ false
lacks-drop zero [] h = refl
lacks-drop (suc n) [] h = refl
lacks-drop zero (b ∷ seg) h = h
lacks-drop (suc n) (b ∷ seg) h = lacks-drop n seg (or_second _ _ h)

pub lacks-append : (a b : List ℕ) → has_slash a ≡ false → has_slash b ≡ false → has_slash (a ++ b) ≡ false
lacks-append [] b h k = k
lacks-append (x ∷ a) b h k = ap (λ t. t || has_slash (a ++ b)) (or_first _ _ h) ∙ lacks-append a b (or_second _ _ h) k

short_left : (n : ℕ) → T (not (nat_lt 200 n)) → n ≤ 200
short_left n h = let e = false_from_T_not (nat_lt 200 n) h in grind (arith, nat_tests)

kept : (namespace_mark prefix seg : List ℕ) → 0 < length prefix → is_dots (unmangled_by namespace_mark prefix seg) ≡ false
    → length prefix ≤ length namespace_mark → length prefix ≤ 200 → has_slash prefix ≡ false → T (seg_ok seg) → T (seg_ok (unmangled_by namespace_mark prefix seg))
kept namespace_mark prefix seg full dots le small slash h =
    let rest = T_second (not (is_dots seg)) _ (T_second (not (is_empty seg)) _ h) in
    let long = short_left (length seg) (T_first (not (is_long seg)) _ rest) in
    let lacks = false_from_T_not (has_slash seg) (T_second (not (is_long seg)) _ rest) in
    let size : length (prefix ++ drop (length namespace_mark) seg) ≤ 200 =
    omega (arith, long, le, small, length-append prefix (drop (length namespace_mark) seg), length-drop (length namespace_mark) seg) in
    T_both _ _ (is_not _ (not_zero (length (prefix ++ drop (length namespace_mark) seg)) (omega (arith, full, length-append prefix (drop (length namespace_mark) seg))))) (T_both _ _ (is_not _ dots) (T_both _ _ (is_not _ (le-ltb 200 (length (prefix ++ drop (length namespace_mark) seg)) size))
    (is_not _ (lacks-append prefix (drop (length namespace_mark) seg) slash (lacks-drop (length namespace_mark) seg lacks)))))

unmangled_ok : (seg : List ℕ) → T (seg_ok seg) → T (seg_ok (unmangled_seg seg))
unmangled_ok seg h =
    elim (is_mangled (codes "_jcr_") seg) as (λ a. T (seg_ok (cond a (unmangled_by (codes "_jcr_") (codes "jcr:") seg)
    (cond (is_mangled (codes "_sling_") seg) (unmangled_by (codes "_sling_") (codes "sling:") seg)
    (cond (is_mangled (codes "_nt_") seg) (unmangled_by (codes "_nt_") (codes "nt:") seg)
    (cond (is_mangled (codes "_cq_") seg) (unmangled_by (codes "_cq_") (codes "cq:") seg) seg)))))) [
      | true ↦ kept (codes "_jcr_") (codes "jcr:") seg (lit< tt) refl (lit≤ tt) (lit≤ tt) refl h
      | false ↦ elim (is_mangled (codes "_sling_") seg) as (λ a. T (seg_ok (cond a (unmangled_by (codes "_sling_") (codes "sling:") seg)
          (cond (is_mangled (codes "_nt_") seg) (unmangled_by (codes "_nt_") (codes "nt:") seg)
          (cond (is_mangled (codes "_cq_") seg) (unmangled_by (codes "_cq_") (codes "cq:") seg) seg))))) [
            | true ↦ kept (codes "_sling_") (codes "sling:") seg (lit< tt) refl (lit≤ tt) (lit≤ tt) refl h
            | false ↦ elim (is_mangled (codes "_nt_") seg) as (λ a. T (seg_ok (cond a (unmangled_by (codes "_nt_") (codes "nt:") seg)
                (cond (is_mangled (codes "_cq_") seg) (unmangled_by (codes "_cq_") (codes "cq:") seg) seg)))) [
                  | true ↦ kept (codes "_nt_") (codes "nt:") seg (lit< tt) refl (lit≤ tt) (lit≤ tt) refl h
                  | false ↦ elim (is_mangled (codes "_cq_") seg) as (λ a. T (seg_ok (cond a (unmangled_by (codes "_cq_") (codes "cq:") seg) seg))) [
                    | true ↦ kept (codes "_cq_") (codes "cq:") seg (lit< tt) refl (lit≤ tt) (lit≤ tt) refl h
                    | false ↦ h
                  ]
                ]
          ]
    ]

all_unmangled : (segs : List (List ℕ)) → T (list_all seg_ok segs) → T (list_all seg_ok (map unmangled_seg segs))
all_unmangled [] h = tt
all_unmangled (seg ∷ segs) h = T_both _ _ (unmangled_ok seg (T_first _ _ h)) (all_unmangled segs (T_second _ _ h))

pub unmangled_path : (segs : List (List ℕ)) → is_path segs ≡ true → is_path (map unmangled_seg segs) ≡ true
unmangled_path segs h =
    let t = true_test (is_path segs) h in
    let few : length (map unmangled_seg segs) ≤ 64 = omega (arith, small_back (length segs) (T_second _ _ t), length-map segs unmangled_seg) in
    true_from_T _ (T_both _ _ (all_unmangled segs (T_first _ _ t)) (small_le (length (map unmangled_seg segs)) few))

pub IfNone-from : {A : Type 0} (r : Option A) (P : Type 0) (Q : A → Type 0) → MatchOption r P Q → IfNone r P
IfNone-from None P Q h = h
IfNone-from (Some x) P Q h = tt
