-- The prefixes of a path's text that read as paths.
use Rattle.std.proofs.Common.{◌≡◌, ◌<◌, ◌≤◌, ◌-◌, ◌+◌, ◌++◌, ◌∷◌, [], List, ℕ, lit<, zero, suc, Bool, true, false, cond, T, None, Ok, length, length-append, take, drop, get_or, nat_eq, refl, sym, ◌∙◌, ap, arith, ◌⊎◌, inl, inr, ⊎_elim, ◌==◌, ◌||◌, codes}
use Rattle.std.proofs.Math.Seq.{get_or-append_seam, take-append-add, take-append_seam}
use Rattle.std.proofs.lemmas.Bool.{cases_lt}
use Rattle.std.proofs.lemmas.Bool.Decides.{nat_tests}
use Rattle.std.proofs.lemmas.List.{append-nil, take-append-drop, take-append-le, take-take, get_or-take, length-take-le, length-take}
use Rattle.std.proofs.lemmas.List.Concat.{flat_map-append}
use Rattle.std.proofs.lemmas.List.Folds.{length-flat_map-take}
use Rattle.std.specs.Cmp.Lexicographic.{pointwise}
use Rattle.std.specs.List.{list_all}
use Rattle.sp_base.specs.Paths.{is_empty, pieces, is_path, path_of, parent_of, text_of, is_under, path_or_fault, fault_of, has_slash}
use Rattle.sp_base.specs.PathTexts.{spelling_of}
use Rattle.sp_base.proofs.BoolLemmas.{T_both, T_first, T_second, false_from_T_not, or_first, or_second}
use Rattle.sp_base.proofs.PathLemmas.{lacks_slash, path_pieces, all-append, all-take, is_not, path_made_is}
use Rattle.sp_base.proofs.PathText.{pieces-spelled}
use Rattle.sp_base.proofs.TextLemmas.{segments_themselves}

-- a prefix of a text of segments ends in a segment: k bytes are j segments, a slash and i bytes of the next
record IsEnd (segs : List (List ℕ)) (k : ℕ) : Type 0 where
  pub j : ℕ
  pub i : ℕ
  pub there : j < length segs
  pub within : i ≤ length (get_or segs j [])
  pub is : take k (spelling_of segs) ≡ spelling_of (take j segs ++ take i (get_or segs j []) ∷ [])
  pub size : k ≡ length (spelling_of (take j segs)) + 1 + i

end_here : (seg : List ℕ) (segs : List (List ℕ)) (k i : ℕ) → k ≡ suc i → i ≤ length seg → IsEnd (seg ∷ segs) k
end_here seg segs k i e h = record {
  j = 0;
  i = i;
  there = omega arith;
  within = h;
  is = ap (λ n. take n (spelling_of (seg ∷ segs))) e ∙ ap (λ t. 47 ∷ t) (take-append-le i seg (spelling_of segs) h ∙ sym (append-nil (take i seg)));
  size = omega (arith, e);
}

end_later : (seg : List ℕ) (segs : List (List ℕ)) (k n : ℕ) → k ≡ suc (length seg + n) → IsEnd segs n → IsEnd (seg ∷ segs) k
end_later seg segs k n e r = record {
  j = suc r.j;
  i = r.i;
  there = omega (arith, r.there);
  within = r.within;
  is = ap (λ m. take m (spelling_of (seg ∷ segs))) e ∙ ap (λ t. 47 ∷ t) (take-append-add seg (spelling_of segs) n ∙ ap (λ t. seg ++ t) r.is);
  size = omega (arith, e, r.size, length-append seg (spelling_of (take r.j segs)));
}

ends : (segs : List (List ℕ)) (k : ℕ) → 0 < k → k ≤ length (spelling_of segs) → IsEnd segs k
ends [] k some h = absurd (omega (arith, some, h))
ends (seg ∷ segs) k some h = ⊎_elim
    (λ (less : k < length seg + 2). end_here seg segs k (k - 1) (omega (arith, some)) (omega (arith, less)))
    (λ (more : length seg + 2 ≤ k). end_later seg segs k (k - 1 - length seg) (omega (arith, more))
    (ends segs (k - 1 - length seg) (omega (arith, more)) (omega (arith, h, length-append seg (spelling_of segs)))))
    (cases_lt k (length seg + 2))

lacks-take : (n : ℕ) (seg : List ℕ) → has_slash seg ≡ false → has_slash (take n seg) ≡ false
lacks-take zero [] h = refl
lacks-take zero (b ∷ seg) h = refl
lacks-take (suc n) [] h = refl
lacks-take (suc n) (b ∷ seg) h = ap (λ t. t || has_slash (take n seg)) (or_first (b == 47) (has_slash seg) h) ∙ lacks-take n seg (or_second (b == 47) (has_slash seg) h)

lacks_at : (segs : List (List ℕ)) (j : ℕ) → T (list_all lacks_slash segs) → has_slash (get_or segs j []) ≡ false
lacks_at [] j h = refl
lacks_at (seg ∷ segs) zero h = false_from_T_not (has_slash seg) (T_first (lacks_slash seg) _ h)
lacks_at (seg ∷ segs) (suc j) h = lacks_at segs j (T_second (lacks_slash seg) _ h)

end_lacks : (segs : List (List ℕ)) (j i : ℕ) → is_path segs ≡ true → T (list_all lacks_slash (take j segs ++ take i (get_or segs j []) ∷ []))
end_lacks segs j i h =
    all-append lacks_slash (take j segs) (take i (get_or segs j []) ∷ []) (all-take lacks_slash segs j (path_pieces segs h))
    (T_both _ _ (is_not _ (lacks-take i (get_or segs j []) (lacks_at segs j (path_pieces segs h)))) tt)

-- what is read of such a text: the root, of a slash alone, or its segments
pub root_or_path : (b : Bool) (qs path : List (List ℕ)) → cond b (Ok []) (path_or_fault qs) ≡ Ok path → ((b ≡ true) × (path ≡ [])) ⊎ (path ≡ qs)
root_or_path true qs path e = inl (refl, path_made_is None [] path e)
root_or_path false qs path e = inr (path_made_is (fault_of qs) qs path e)

none_after : (rest : List ℕ) → is_empty rest ≡ true → length (47 ∷ rest) ≡ 1
none_after rest e = grind (arith, nat_tests)

read_of : (qs path : List (List ℕ)) → 0 < length qs → T (list_all lacks_slash qs) → path_of (spelling_of qs) ≡ Ok path → ((length (spelling_of qs) ≡ 1) × (path ≡ [])) ⊎ (path ≡ qs)
read_of [] path some h e = absurd (omega (arith, some))
read_of (q ∷ qs) path some h e =
    let rest = q ++ spelling_of qs in
    let parts : pieces rest ≡ q ∷ qs = ap (drop 1) (pieces-spelled (q ∷ qs) h) in
    ⊎_elim
    (λ (r : (is_empty rest ≡ true) × (path ≡ [])). inl (none_after rest r.0, r.1))
    (λ (r : path ≡ pieces rest). inr (r ∙ parts))
    (root_or_path (is_empty rest) (pieces rest) path e)

pub under_take : (path : List (List ℕ)) (j : ℕ) → j ≤ length path → is_under path (take j path) ≡ true
under_take path j h = ap (λ n. pointwise (pointwise nat_eq) (take j path) (take n path)) (length-take-le j path h) ∙ segments_themselves (take j path)

pub parent_of_push : (segs : List (List ℕ)) (w : List ℕ) → parent_of (segs ++ w ∷ []) ≡ segs
parent_of_push segs w =
    let n : length (segs ++ w ∷ []) - 1 ≡ length segs = omega (arith, length-append segs (w ∷ [])) in
    ap (λ m. take m (segs ++ w ∷ [])) n ∙ take-append_seam segs (w ∷ [])

text_is : (segs : List (List ℕ)) → 0 < length segs → text_of segs ≡ spelling_of segs
text_is [] h = absurd (omega (arith, h))
text_is (seg ∷ segs) h = refl

text_some : (segs : List (List ℕ)) → 0 < length (text_of segs)
text_some [] = lit< tt
text_some (seg ∷ segs) = omega arith

-- a path that a prefix of a path's text reads as: the root, of a slash alone, or segments of the path and the beginning of one more
record IsRead (path : List (List ℕ)) (k : ℕ) (read : List (List ℕ)) : Type 0 where
  pub end : IsEnd path k
  pub path_is : ((k ≡ 1) × (read ≡ [])) ⊎ (read ≡ take end.j path ++ take end.i (get_or path end.j []) ∷ [])

read_by : (path : List (List ℕ)) (k : ℕ) (read : List (List ℕ)) → is_path path ≡ true → k ≤ length (spelling_of path) → IsEnd path k → path_of (take k (spelling_of path)) ≡ Ok read → IsRead path k read
read_by path k read h within r e =
    let qs = take r.j path ++ take r.i (get_or path r.j []) ∷ [] in
    record {
      end = r;
      path_is = ⊎_elim
          (λ (root : (length (spelling_of qs) ≡ 1) × (read ≡ [])). inl (sym (length-take-le k (spelling_of path) within) ∙ ap length r.is ∙ root.0, root.1))
          (λ (same : read ≡ qs). inr same)
          (read_of qs read (omega (arith, length-append (take r.j path) (take r.i (get_or path r.j []) ∷ []))) (end_lacks path r.j r.i h) (ap path_of (sym r.is) ∙ e));
    }

pub root_under : (path : List (List ℕ)) (read : List (List ℕ)) → read ≡ [] → is_under path (parent_of read) ≡ true
root_under [] read e = ap (λ q. is_under [] (parent_of q)) e
root_under (seg ∷ segs) read e = ap (λ q. is_under (seg ∷ segs) (parent_of q)) e

read_under : (path : List (List ℕ)) (k : ℕ) (read : List (List ℕ)) → IsRead path k read → is_under path (parent_of read) ≡ true
read_under path k read r = ⊎_elim
    (λ (root : (k ≡ 1) × (read ≡ [])). root_under path read root.1)
    (λ (same : read ≡ take r.end.j path ++ take r.end.i (get_or path r.end.j []) ∷ []).
    ap (λ q. is_under path (parent_of q)) same ∙ ap (is_under path) (parent_of_push (take r.end.j path) (take r.end.i (get_or path r.end.j []))) ∙ under_take path r.end.j (omega (arith, r.end.there)))
    r.path_is

end_within : (path : List (List ℕ)) (k n : ℕ) (r : IsEnd path k) → r.j < n → k ≤ length (text_of (take n path))
end_within path k n r less =
    let j = r.j in
    let some : j < length (take n path) = omega (arith, r.there, less, length-take n path) in
    let parts : take j (take n path) ≡ take j path = take-take j n path (omega (arith, less)) in
    let here : get_or (take n path) j [] ≡ get_or path j [] = get_or-take n path j [] less in
    let sum = length-flat_map-take (λ (s : List ℕ). 47 ∷ s) (take n path) j [] some in
    omega (arith, sum, ap (λ segs. length (spelling_of segs)) parts, ap (λ (s : List ℕ). length (47 ∷ s)) here, r.size, r.within, ap length (text_is (take n path) (omega (arith, some))))

read_within : (path : List (List ℕ)) (k n : ℕ) (read : List (List ℕ)) → IsRead path k read → length read ≤ n → k ≤ length (text_of (take n path))
read_within path k n read r few = ⊎_elim
    (λ (root : (k ≡ 1) × (read ≡ [])). omega (arith, root.0, text_some (take n path)))
    (λ (same : read ≡ take r.end.j path ++ take r.end.i (get_or path r.end.j []) ∷ []).
    end_within path k n r.end (omega (arith, few, ap length same, length-append (take r.end.j path) (take r.end.i (get_or path r.end.j []) ∷ []), length-take-le r.end.j path (omega (arith, r.end.there)))))
    r.path_is

pub nothing_is_no_path : (read : List (List ℕ)) → path_of [] ≡ Ok read → ⊥
nothing_is_no_path read e = cc (e)

read_root : (k : ℕ) (read : List (List ℕ)) → k ≤ 1 → path_of (take k (codes "/")) ≡ Ok read → (k ≡ 1) × (read ≡ [])
read_root zero read h e = absurd (nothing_is_no_path read e)
read_root (suc zero) read h e = (refl, path_made_is None [] read e)
read_root (suc (suc k)) read h e = absurd (omega (arith, h))

pub prefix_under : (path read : List (List ℕ)) (k : ℕ) → is_path path ≡ true → k ≤ length (text_of path) → path_of (take k (text_of path)) ≡ Ok read → is_under path (parent_of read) ≡ true
prefix_under [] read k h within e = root_under [] read (read_root k read within e).1
prefix_under (seg ∷ segs) read zero h within e = absurd (nothing_is_no_path read e)
prefix_under (seg ∷ segs) read (suc k) h within e =
    read_under (seg ∷ segs) (suc k) read (read_by (seg ∷ segs) (suc k) read h within (ends (seg ∷ segs) (suc k) (omega arith) within) e)

pub prefix_within : (path read : List (List ℕ)) (k n : ℕ) → is_path path ≡ true → k ≤ length (text_of path) → path_of (take k (text_of path)) ≡ Ok read → length read ≤ n → k ≤ length (text_of (take n path))
prefix_within [] read k n h within e few = omega (arith, within, text_some (take n []))
prefix_within (seg ∷ segs) read zero n h within e few = omega arith
prefix_within (seg ∷ segs) read (suc k) n h within e few =
    read_within (seg ∷ segs) (suc k) n read (read_by (seg ∷ segs) (suc k) read h within (ends (seg ∷ segs) (suc k) (omega arith) within) e) few

-- ---- the first segments

spelled_parts : (path : List (List ℕ)) (n : ℕ) → spelling_of path ≡ spelling_of (take n path) ++ spelling_of (drop n path)
spelled_parts path n = ap spelling_of (sym (take-append-drop n path)) ∙ flat_map-append (λ s. 47 ∷ s) (take n path) (drop n path)

pub first_begins : (path : List (List ℕ)) (n : ℕ) → 0 < n → text_of (take n path) ≡ take (length (text_of (take n path))) (text_of path)
first_begins path zero h = absurd (omega (arith, h))
first_begins [] (suc n) h = refl
first_begins (seg ∷ segs) (suc n) h =
    let path = seg ∷ segs in
    sym (ap (take (length (spelling_of (take (suc n) path)))) (spelled_parts path (suc n)) ∙ take-append_seam (spelling_of (take (suc n) path)) (spelling_of (drop (suc n) path)))

seam : (text : List ℕ) (segs : List (List ℕ)) → length text < length (text ++ spelling_of segs) → get_or (text ++ spelling_of segs) (length text) 0 ≡ 47
seam text [] h = absurd (omega (arith, h, length-append text []))
seam text (seg ∷ segs) h = get_or-append_seam text 47 (seg ++ spelling_of segs) 0

pub first_slash : (path : List (List ℕ)) (n : ℕ) → 0 < n → length (text_of (take n path)) < length (text_of path) → get_or (text_of path) (length (text_of (take n path))) 0 ≡ 47
first_slash path zero h less = absurd (omega (arith, h))
first_slash [] (suc n) h less = absurd (omega (arith, less))
first_slash (seg ∷ segs) (suc n) h less =
    let path = seg ∷ segs in
    let leading = spelling_of (take (suc n) path) in
    ap (λ t. get_or t (length leading) 0) (spelled_parts path (suc n)) ∙ seam leading (drop (suc n) path) (omega (arith, less, ap length (spelled_parts path (suc n))))
