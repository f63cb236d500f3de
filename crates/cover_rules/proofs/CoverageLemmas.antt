-- Coverage, read off what is left of a page's path after a handle's.
use Rattle.std.proofs.Common.{ℕ, zero, suc, Bool, true, false, not, codes, ◌&&◌, ◌||◌, ◌==◌, List, [], ◌∷◌, ◌++◌, ◌-◌, ◌<◌, ◌≤◌, length, take, drop, append_assoc, length-append, nat_eq, refl, sym, ◌∙◌, ap, subst, ◌≡◌, arith, Bor}
use Rattle.std.proofs.lemmas.Bool.{and_right, false_from_ne_true}
use Rattle.std.proofs.lemmas.Bool.Decides.{nat_tests}
use Rattle.std.proofs.lemmas.List.{append-nil, length-take, length-map, take-map, take_all}
use Rattle.std.proofs.lemmas.List.Concat.{flat_map-append}
use Rattle.std.proofs.lemmas.List.Folds.{list_all-append}
use Rattle.std.specs.Cmp.Lexicographic.{pointwise}
use Rattle.std.specs.List.{starts_with}
use Rattle.sp_base.specs.Paths.{has_slash, is_under, mangled_segs, mangled_seg, parent_of, pieces}
use Rattle.sp_base.specs.PathTexts.{ends_segment, lack_slashes, segs_in, spelling_of, text_under}
use Rattle.sp_base.proofs.BoolLemmas.{and_first, and_second, same_truth}
use Rattle.sp_base.proofs.NatLemmas.{nat_eq_itself}
use Rattle.sp_base.proofs.TextLemmas.{begins_with, segments_are, segments_themselves}
use Rattle.cover_rules.specs.declared.page.PageKey.{PageKey}
use Rattle.cover_rules.specs.declared.invalidation.Invalidation.{Invalidation}
use Rattle.cover_rules.specs.declared.walk.Rest.{Rest}
use Rattle.cover_rules.specs.declared.walk.Rest.TheVariants.{Folder, File}
use Rattle.cover_rules.specs.Pages.{page_path, page_text}
use Rattle.cover_rules.specs.Coverage.{deletes, handle_of, is_handle, is_part_page, is_rendering, takes_below}
use Rattle.cover_rules.specs.Walk.{Lacks, Leaves, page_spelling}
use Rattle.cover_rules.proofs.PageLemmas.{page_text_is}
use Rattle.cover_rules.proofs.WalkLemmas.{whole}

-- what is known of the texts of a page's path and of a handle's
pub record Texts (key : PageKey) (handle : List (List ℕ)) : Type 0 where
  pub page : lack_slashes (page_path key) ≡ true
  pub folder : lack_slashes key.folder ≡ true
  pub slashless : lack_slashes handle ≡ true
  pub spelling : spelling_of (page_path key) ≡ page_spelling key
  pub text : page_text key ≡ page_spelling key
  pub under : (path other : List (List ℕ)) → lack_slashes path ≡ true → lack_slashes other ≡ true → text_under (spelling_of path) (spelling_of other) ≡ is_under path other
  pub back : (path : List (List ℕ)) → lack_slashes path ≡ true → segs_in (spelling_of path) ≡ path

starts_cancel : (beginning l m : List ℕ) → starts_with nat_eq (beginning ++ l) (beginning ++ m) ≡ starts_with nat_eq l m
starts_cancel [] l m = refl
starts_cancel (b ∷ beginning) l m = ap (λ t. t && starts_with nat_eq (beginning ++ l) (beginning ++ m)) (nat_eq_itself b) ∙ starts_cancel beginning l m

under_cancel : (beginning l m : List ℕ) → text_under (beginning ++ l) (beginning ++ m) ≡ text_under l m
under_cancel [] l m = refl
under_cancel (b ∷ beginning) l m =
    ap (λ t. (t && starts_with nat_eq (beginning ++ l) (beginning ++ m)) && ends_segment (drop (length (beginning ++ m)) (beginning ++ l))) (nat_eq_itself b) ∙ under_cancel beginning l m

too_long : (text prefix : List ℕ) → length text < length prefix → text_under text prefix ≡ false
too_long text prefix long = false_from_ne_true (text_under text prefix)
    (λ h. let e = begins_with text prefix (and_first (starts_with nat_eq text prefix) _ h) in omega (arith, ap length e, length-append prefix (drop (length prefix) text), long))

-- the page is the handle where nothing is left
handle_left : (key : PageKey) (handle : List (List ℕ)) (l : List ℕ) → Texts key handle → page_spelling key ≡ spelling_of handle ++ l → is_handle handle key ≡ (length l == 0)
handle_left key handle [] texts e =
    let same : page_path key ≡ handle = sym (texts.back (page_path key) texts.page) ∙ ap segs_in (texts.spelling ∙ e ∙ append-nil (spelling_of handle)) ∙ texts.back handle texts.slashless in
    ap (λ (p : List (List ℕ)). pointwise (pointwise nat_eq) p handle) same ∙ segments_themselves handle
handle_left key handle (b ∷ l) texts e =
    let more : (length (b ∷ l) == 0) ≡ false = grind (arith, nat_tests) in
    false_from_ne_true (is_handle handle key) (λ h.
    let same = ap spelling_of (sym (segments_are (page_path key) handle h)) ∙ texts.spelling ∙ e in
    omega (arith, ap length same, length-append (spelling_of handle) (b ∷ l))) ∙ sym more

rendering_left : (key : PageKey) (handle : List (List ℕ)) (l : List ℕ) → page_text key ≡ page_spelling key → page_spelling key ≡ spelling_of handle ++ l
    → is_rendering handle key ≡ (not (length handle == 0) && starts_with nat_eq l (codes "."))
rendering_left key [] l text e = refl
rendering_left key (seg ∷ handle) l text e =
    ap (λ b. not (length (seg ∷ handle) == 0) && b)
    (ap (λ (t : List ℕ). starts_with nat_eq t (spelling_of (seg ∷ handle) ++ codes ".")) (text ∙ e) ∙ starts_cancel (spelling_of (seg ∷ handle)) l (codes "."))

under_left : (key : PageKey) (handle : List (List ℕ)) (l : List ℕ) → Texts key handle → page_spelling key ≡ spelling_of handle ++ l → is_under (page_path key) handle ≡ text_under l []
under_left key handle l texts e =
    sym (texts.under (page_path key) handle texts.page texts.slashless) ∙ ap (λ (t : List ℕ). text_under t (spelling_of handle)) (texts.spelling ∙ e)
    ∙ ap (λ (t : List ℕ). text_under (spelling_of handle ++ l) t) (sym (append-nil (spelling_of handle))) ∙ under_cancel (spelling_of handle) l []

before_file : (text file : List ℕ) → text_under (text ++ 47 ∷ file) [] ≡ text_under text []
before_file [] file = refl
before_file (b ∷ text) file = refl

dot_before_file : (text file : List ℕ) → starts_with nat_eq (text ++ 47 ∷ file) (codes ".") ≡ starts_with nat_eq text (codes ".")
dot_before_file [] file = refl
dot_before_file (b ∷ text) file = refl

-- the folder of a page's content
pub content_part_lacks_slashes : (handle : List (List ℕ)) → lack_slashes handle ≡ true → lack_slashes (handle ++ codes "_jcr_content" ∷ []) ≡ true
content_part_lacks_slashes handle h = list_all-append (λ seg. not (has_slash seg)) handle (codes "_jcr_content" ∷ []) ∙ ap (λ b. b && true) h

part_left : (key : PageKey) (handle : List (List ℕ)) (text : List ℕ) → Texts key handle → spelling_of key.folder ≡ spelling_of handle ++ text → is_part_page handle key ≡ text_under text (codes "/_jcr_content")
part_left key handle text texts e =
    sym (texts.under key.folder (handle ++ codes "_jcr_content" ∷ []) texts.folder (content_part_lacks_slashes handle texts.slashless))
    ∙ ap (λ (t : List ℕ). text_under t (spelling_of (handle ++ codes "_jcr_content" ∷ []))) e
    ∙ ap (λ (t : List ℕ). text_under (spelling_of handle ++ text) t) (flat_map-append (λ s. 47 ∷ s) handle (codes "_jcr_content" ∷ []))
    ∙ under_cancel (spelling_of handle) text (codes "/_jcr_content")

part_beyond : (key : PageKey) (handle : List (List ℕ)) → Texts key handle → length (spelling_of key.folder) < length (spelling_of handle) → is_part_page handle key ≡ false
part_beyond key handle texts long =
    let all = flat_map-append (λ s. 47 ∷ s) handle (codes "_jcr_content" ∷ []) in
    sym (texts.under key.folder (handle ++ codes "_jcr_content" ∷ []) texts.folder (content_part_lacks_slashes handle texts.slashless))
    ∙ too_long (spelling_of key.folder) (spelling_of (handle ++ codes "_jcr_content" ∷ [])) (omega (arith, ap length all, length-append (spelling_of handle) (codes "/_jcr_content"), long))

not_nil : (text file : List ℕ) → (length (text ++ 47 ∷ file) == 0) ≡ false
not_nil text file = let size = length-append text (47 ∷ file) in grind (arith, nat_tests)

pub deletes_folder : (inv : Invalidation) (key : PageKey) (text : Bor (List ℕ)) → Texts key (handle_of inv) → Leaves key (spelling_of (handle_of inv)) (Folder text)
    → deletes inv key ≡ (not (length (handle_of inv) == 0) && starts_with nat_eq text.now (codes ".") || (text_under text.now (codes "/_jcr_content") || takes_below inv.action && text_under text.now []))
deletes_folder inv key text texts h =
    let handle = handle_of inv in
    let e = whole key (spelling_of handle) (Folder text) h in
    let l = text.now ++ 47 ∷ key.file in
    let some : (length l == 0) ≡ false = not_nil text.now key.file in
    let at = handle_left key handle l texts e ∙ some in
    let dot = rendering_left key handle l texts.text e ∙ ap (λ b. not (length handle == 0) && b) (dot_before_file text.now key.file) in
    let part = part_left key handle text.now texts h in
    let below = under_left key handle l texts e ∙ before_file text.now key.file in
    λ i. at i || (dot i || (part i || takes_below inv.action && below i))

pub deletes_file : (inv : Invalidation) (key : PageKey) (text : Bor (List ℕ)) → Texts key (handle_of inv) → Leaves key (spelling_of (handle_of inv)) (File text)
    → deletes inv key ≡ (length text.now == 0 || (not (length (handle_of inv) == 0) && starts_with nat_eq text.now (codes ".") || takes_below inv.action && text_under text.now []))
deletes_file inv key text texts h =
    let handle = handle_of inv in
    let at = handle_left key handle text.now texts h.0 in
    let dot = rendering_left key handle text.now texts.text h.0 in
    let part = part_beyond key handle texts h.1 in
    let below = under_left key handle text.now texts h.0 in
    λ i. at i || (dot i || (part i || takes_below inv.action && below i))

-- a page that isn't along the handle
rendering_lacks : (key : PageKey) (handle : List (List ℕ)) → page_text key ≡ page_spelling key → Lacks key (spelling_of handle) → is_rendering handle key ≡ false
rendering_lacks key [] text lacks = refl
rendering_lacks key (seg ∷ handle) text lacks = false_from_ne_true (is_rendering (seg ∷ handle) key)
    (λ h. let e = begins_with (page_text key) (spelling_of (seg ∷ handle) ++ codes ".") (and_second (not (length (seg ∷ handle) == 0)) _ h) in
    lacks (codes "." ++ drop (length (spelling_of (seg ∷ handle) ++ codes ".")) (page_text key)) (sym text ∙ e ∙ append_assoc (spelling_of (seg ∷ handle)) (codes ".") (drop (length (spelling_of (seg ∷ handle) ++ codes ".")) (page_text key))))

pub deletes_none : (inv : Invalidation) (key : PageKey) → Texts key (handle_of inv) → Lacks key (spelling_of (handle_of inv)) → deletes inv key ≡ false
deletes_none inv key texts lacks =
    let handle = handle_of inv in
    let at = false_from_ne_true (is_handle handle key) (λ h. lacks [] (sym texts.spelling ∙ ap spelling_of (segments_are (page_path key) handle h) ∙ sym (append-nil (spelling_of handle)))) in
    let dot = rendering_lacks key handle texts.text lacks in
    let below = false_from_ne_true (is_under (page_path key) handle) (λ h.
    let e = begins_with (spelling_of (page_path key)) (spelling_of handle) (and_first _ _ (texts.under (page_path key) handle texts.page texts.slashless ∙ h)) in
    lacks (drop (length (spelling_of handle)) (spelling_of (page_path key))) (sym texts.spelling ∙ e)) in
    let part = false_from_ne_true (is_part_page handle key) (λ h.
    let all = handle ++ codes "_jcr_content" ∷ [] in
    let e = begins_with (spelling_of key.folder) (spelling_of all) (and_first _ _ (texts.under key.folder all texts.folder (content_part_lacks_slashes handle texts.slashless) ∙ h)) in
    let f = e ∙ ap (λ (t : List ℕ). t ++ drop (length (spelling_of all)) (spelling_of key.folder)) (flat_map-append (λ s. 47 ∷ s) handle (codes "_jcr_content" ∷ []))
    ∙ append_assoc (spelling_of handle) (codes "/_jcr_content") (drop (length (spelling_of all)) (spelling_of key.folder)) in
    lacks ((codes "/_jcr_content" ++ drop (length (spelling_of all)) (spelling_of key.folder)) ++ 47 ∷ key.file)
    (ap (λ (t : List ℕ). t ++ 47 ∷ key.file) f ∙ append_assoc (spelling_of handle) (codes "/_jcr_content" ++ drop (length (spelling_of all)) (spelling_of key.folder)) (47 ∷ key.file))) in
    λ i. at i || (dot i || (part i || and_right (takes_below inv.action) (is_under (page_path key) handle) below i))

-- the first segments of a page's folder and of a handle
same_lists : (xs ys : List (List ℕ)) → pointwise (pointwise nat_eq) xs ys ≡ true → pointwise (pointwise nat_eq) ys xs ≡ true
same_lists xs ys h = ap (λ (zs : List (List ℕ)). pointwise (pointwise nat_eq) zs xs) (sym (segments_are xs ys h)) ∙ segments_themselves xs

turned : (xs ys : List (List ℕ)) → pointwise (pointwise nat_eq) xs ys ≡ pointwise (pointwise nat_eq) ys xs
turned xs ys = same_truth (pointwise (pointwise nat_eq) xs ys) (pointwise (pointwise nat_eq) ys xs) (same_lists xs ys) (same_lists ys xs)

first_length : (xs : List (List ℕ)) (n : ℕ) → n ≤ length xs → length (take n xs) ≡ n
first_length xs n h = omega (arith, length-take n xs)

pub take_first : (xs : List (List ℕ)) (n m : ℕ) → n ≤ m → take n (take m xs) ≡ take n xs
take_first [] zero m h = refl
take_first [] (suc n) zero h = absurd (omega arith)
take_first [] (suc n) (suc m) h = refl
take_first (x ∷ xs) zero m h = refl
take_first (x ∷ xs) (suc n) zero h = absurd (omega arith)
take_first (x ∷ xs) (suc n) (suc m) h = λ i. x ∷ take_first xs n m (omega arith) i

-- the handle's parent begins with them where the folder begins with as many of the handle's
pub parent_begins : (handle folder : List (List ℕ)) (n : ℕ) → n ≤ length folder → n ≤ length handle - 1 → is_under (parent_of handle) (take n folder) ≡ is_under folder (take n handle)
parent_begins handle folder n f h =
    let one = first_length folder n f in
    let other = first_length handle n (omega arith) in
    ap (λ k. pointwise (pointwise nat_eq) (take n folder) (take k (parent_of handle))) one
    ∙ ap (λ (xs : List (List ℕ)). pointwise (pointwise nat_eq) (take n folder) xs) (take_first handle n (length handle - 1) h)
    ∙ turned (take n folder) (take n handle)
    ∙ sym (ap (λ k. pointwise (pointwise nat_eq) (take n handle) (take k folder)) other)

pub folder_left : (key : PageKey) (handle : List (List ℕ)) (text : Bor (List ℕ)) → Texts key handle → Leaves key (spelling_of handle) (Folder text) → is_under key.folder handle ≡ text_under text.now []
folder_left key handle text texts e =
    sym (texts.under key.folder handle texts.folder texts.slashless) ∙ ap (λ (t : List ℕ). text_under t (spelling_of handle)) e
    ∙ ap (λ (t : List ℕ). text_under (spelling_of handle ++ text.now) t) (sym (append-nil (spelling_of handle))) ∙ under_cancel (spelling_of handle) text.now []

pub folder_short : (key : PageKey) (handle : List (List ℕ)) (text : Bor (List ℕ)) → Texts key handle → Leaves key (spelling_of handle) (File text) → is_under key.folder handle ≡ false
folder_short key handle text texts h = sym (texts.under key.folder handle texts.folder texts.slashless) ∙ too_long (spelling_of key.folder) (spelling_of handle) h.1

pub folder_lacks : (key : PageKey) (handle : List (List ℕ)) → Texts key handle → Lacks key (spelling_of handle) → is_under key.folder handle ≡ false
folder_lacks key handle texts lacks = false_from_ne_true (is_under key.folder handle) (λ h.
    let e = begins_with (spelling_of key.folder) (spelling_of handle) (and_first _ _ (texts.under key.folder handle texts.folder texts.slashless ∙ h)) in
    lacks (drop (length (spelling_of handle)) (spelling_of key.folder) ++ 47 ∷ key.file)
    (ap (λ (t : List ℕ). t ++ 47 ∷ key.file) e ∙ append_assoc (spelling_of handle) (drop (length (spelling_of handle)) (spelling_of key.folder)) (47 ∷ key.file)))

-- what the law on spellings says of a page and a handle
pub texts_of : (key : PageKey) (handle : List (List ℕ)) → lack_slashes key.folder ≡ true → lack_slashes handle ≡ true
    → ((path other : List (List ℕ)) → lack_slashes path ≡ true → lack_slashes other ≡ true → text_under (spelling_of path) (spelling_of other) ≡ is_under path other)
    → ((path : List (List ℕ)) → lack_slashes path ≡ true → segs_in (spelling_of path) ≡ path) → lack_slashes (pieces key.file) ≡ true → spelling_of (pieces key.file) ≡ 47 ∷ key.file → Texts key handle
texts_of key handle folder slashless under back file text = record {
  page = list_all-append (λ seg. not (has_slash seg)) key.folder (pieces key.file) ∙ ap (λ b. b && lack_slashes (pieces key.file)) folder ∙ file;
  folder = folder;
  slashless = slashless;
  spelling = flat_map-append (λ s. 47 ∷ s) key.folder (pieces key.file) ∙ ap (λ (t : List ℕ). spelling_of key.folder ++ t) text;
  text = page_text_is key text;
  under = under;
  back = back;
}

-- the same after as many segments as the handle has
pub deletes_folder_at : (inv : Invalidation) (key : PageKey) (n : ℕ) (rest : Rest) (text : Bor (List ℕ)) → Texts key (handle_of inv) → n ≡ length inv.handle → rest ≡ Folder text
    → Leaves key (spelling_of (mangled_segs (take n inv.handle))) rest
    → deletes inv key ≡ (not (n == 0) && starts_with nat_eq text.now (codes ".") || (text_under text.now (codes "/_jcr_content") || takes_below inv.action && text_under text.now []))
deletes_folder_at inv key n rest text texts size is h =
    let all = ap mangled_segs (take_all n inv.handle (omega arith)) in
    let leaves = subst (λ (segs : List (List ℕ)). Leaves key (spelling_of segs) (Folder text)) all (subst (λ r. Leaves key (spelling_of (mangled_segs (take n inv.handle))) r) is h) in
    deletes_folder inv key text texts leaves
    ∙ ap (λ k. not (k == 0) && starts_with nat_eq text.now (codes ".") || (text_under text.now (codes "/_jcr_content") || takes_below inv.action && text_under text.now []))
    (length-map inv.handle mangled_seg ∙ sym size)

pub deletes_file_at : (inv : Invalidation) (key : PageKey) (n : ℕ) (rest : Rest) (text : Bor (List ℕ)) → Texts key (handle_of inv) → n ≡ length inv.handle → rest ≡ File text
    → Leaves key (spelling_of (mangled_segs (take n inv.handle))) rest
    → deletes inv key ≡ (length text.now == 0 || (not (n == 0) && starts_with nat_eq text.now (codes ".") || takes_below inv.action && text_under text.now []))
deletes_file_at inv key n rest text texts size is h =
    let all = ap mangled_segs (take_all n inv.handle (omega arith)) in
    let leaves = subst (λ (segs : List (List ℕ)). Leaves key (spelling_of segs) (File text)) all (subst (λ r. Leaves key (spelling_of (mangled_segs (take n inv.handle))) r) is h) in
    deletes_file inv key text texts leaves
    ∙ ap (λ k. length text.now == 0 || (not (k == 0) && starts_with nat_eq text.now (codes ".") || takes_below inv.action && text_under text.now [])) (length-map inv.handle mangled_seg ∙ sym size)

pub deletes_none_at : (inv : Invalidation) (key : PageKey) (n : ℕ) → Texts key (handle_of inv) → n ≡ length inv.handle → Lacks key (spelling_of (mangled_segs (take n inv.handle))) → deletes inv key ≡ false
deletes_none_at inv key n texts size lacks =
    deletes_none inv key texts (subst (λ (segs : List (List ℕ)). Lacks key (spelling_of segs)) (ap mangled_segs (take_all n inv.handle (omega arith))) lacks)

-- the parent of a handle, and a folder, by what is left of the page's path after the first segments of the handle
pub parent_by : (inv : Invalidation) (key : PageKey) (n : ℕ) (b : Bool) → n ≤ length key.folder → n ≤ length inv.handle - 1 → is_under key.folder (mangled_segs (take n inv.handle)) ≡ b
    → is_under (parent_of (handle_of inv)) (take n key.folder) ≡ b
parent_by inv key n b f h e =
    let size = length-map inv.handle mangled_seg in
    parent_begins (handle_of inv) key.folder n f (omega arith) ∙ ap (λ (segs : List (List ℕ)). is_under key.folder segs) (take-map mangled_seg n inv.handle) ∙ e
