-- The text of a handle as it stands in URLs tells the handle.
use Rattle.std.proofs.Common.{◌≡◌, ◌≢◌, ◌≤◌, ◌<◌, ◌+◌, ◌++◌, ◌∙◌, ℕ, length, take, get_or, Bool, true, false, List, [], ◌∷◌, codes, sym, ap, refl, drop, subst, if◌then◌else◌}
use Rattle.std.specs.Prelude.{IsTrue, flat_map}
use Rattle.std.proofs.lemmas.Grind.{flat_map-append}
use Rattle.std.proofs.lemmas.List.{append-nil, take_all, take_more}
use Rattle.sp_base.specs.Paths.{is_namespaced, is_path, mangled_seg, mangled_segs, text_of, unmangled_segs}
use Rattle.sp_base.specs.PathTexts.{spelling_of, lack_slashes, segs_in}
use Rattle.run_events.specs.Named.{IsHandle}

-- two handles of requests have two texts
abbrev pub HandlesTell : Type 0
HandlesTell = (h k : List (List ℕ)) → IsHandle h → IsHandle k → text_of (mangled_segs h) ≡ text_of (mangled_segs k) → h ≡ k

marked_or : (t : Bool) (b : ℕ) (x y s : List ℕ) → (y ≡ [] → s ≡ []) → (if t then b ∷ x else y) ≡ [] → s ≡ []
marked_or true b x y s h e = cc (e)
marked_or false b x y s h e = h e

mangled_none : (seg : List ℕ) → mangled_seg seg ≡ [] → seg ≡ []
mangled_none seg e =
    marked_or (is_namespaced (codes "jcr:") seg) 95 _ _ seg
    (marked_or (is_namespaced (codes "sling:") seg) 95 _ _ seg
    (marked_or (is_namespaced (codes "nt:") seg) 95 _ _ seg
    (marked_or (is_namespaced (codes "cq:") seg) 95 _ _ seg (λ (h : seg ≡ []). h)))) e

-- no path is spelled by a slash alone but the root
not_empty : (path : List (List ℕ)) → is_path path ≡ true → mangled_segs path ≢ [] ∷ []
not_empty [] is e = cc (e)
not_empty (seg ∷ a ∷ path) is e = cc (e)
not_empty (seg ∷ []) is e =
    let none : mangled_seg seg ≡ [] = cc (e) in
    let bad : is_path ([] ∷ []) ≡ true = subst (λ (s : List ℕ). is_path (s ∷ []) ≡ true) (mangled_none seg none) is in cc (bad)

both_empty : (seg : List ℕ) (segs : List (List ℕ)) → seg ++ spelling_of segs ≡ [] → seg ∷ segs ≡ [] ∷ []
both_empty [] [] e = refl
both_empty [] (s ∷ segs) e = cc (e)
both_empty (b ∷ seg) segs e = cc (e)

same_spelling : (a b : List (List ℕ)) → a ≢ [] ∷ [] → b ≢ [] ∷ [] → text_of a ≡ text_of b → spelling_of a ≡ spelling_of b
same_spelling [] [] p q e = refl
same_spelling [] (s ∷ b) p q e = absurd (q (both_empty s b (sym (ap (drop 1) e))))
same_spelling (s ∷ a) [] p q e = absurd (p (both_empty s a (ap (drop 1) e)))
same_spelling (s ∷ a) (t ∷ b) p q e = e

pub handles_tell : ((path : List (List ℕ)) → unmangled_segs (mangled_segs path) ≡ unmangled_segs path)
    → ((path : List (List ℕ)) → mangled_segs (unmangled_segs path) ≡ mangled_segs path)
    → ((path : List (List ℕ)) → IsTrue (is_path path) → IsTrue (lack_slashes path))
    → ((path : List (List ℕ)) → IsTrue (lack_slashes path) → IsTrue (lack_slashes (mangled_segs path)))
    → ((path : List (List ℕ)) → IsTrue (lack_slashes path) → segs_in (spelling_of path) ≡ path)
    → HandlesTell
handles_tell undone one of_path of_mangled back h k (x, is_x, h_is) (y, is_y, k_is) e =
    let mangled_h : mangled_segs h ≡ mangled_segs x = ap mangled_segs h_is ∙ one x in
    let mangled_k : mangled_segs k ≡ mangled_segs y = ap mangled_segs k_is ∙ one y in
    let texts : text_of (mangled_segs x) ≡ text_of (mangled_segs y) = sym (ap text_of mangled_h) ∙ e ∙ ap text_of mangled_k in
    let spelled = same_spelling (mangled_segs x) (mangled_segs y) (not_empty x is_x) (not_empty y is_y) texts in
    let same : mangled_segs x ≡ mangled_segs y =
    sym (back (mangled_segs x) (of_mangled x (of_path x is_x))) ∙ ap segs_in spelled ∙ back (mangled_segs y) (of_mangled y (of_path y is_y)) in
    h_is ∙ sym (undone x) ∙ ap unmangled_segs same ∙ undone y ∙ sym k_is

-- a path spelled segment by segment as in URLs
abbrev pub spelled_segments : List (List ℕ) → List ℕ
spelled_segments path = flat_map (λ seg. 47 ∷ mangled_seg seg) path

segments-spelled : (path : List (List ℕ)) → spelled_segments path ≡ spelling_of (mangled_segs path)
segments-spelled [] = refl
segments-spelled (seg ∷ path) = ap (λ t. (47 ∷ mangled_seg seg) ++ t) (segments-spelled path)

-- one segment more
pub segments-more : (path : List (List ℕ)) (place : ℕ) → place < length path
    → spelled_segments (take (place + 1) path) ≡ spelled_segments (take place path) ++ 47 ∷ mangled_seg (get_or path place [])
segments-more path place lt =
    ap spelled_segments (take_more path place [] lt) ∙ flat_map-append (λ seg. 47 ∷ mangled_seg seg) (take place path) (get_or path place [] ∷ [])
    ∙ ap (λ t. spelled_segments (take place path) ++ t) (append-nil (47 ∷ mangled_seg (get_or path place [])))

-- all of them, where there are some
pub segments-all : (path : List (List ℕ)) (place : ℕ) (text : List ℕ) → length path ≤ place → text ≡ spelled_segments (take place path) → length text ≢ 0
    → text ≡ text_of (mangled_segs path)
segments-all [] place text le e some = absurd (some (ap length (e ∙ ap spelled_segments (take_all place [] le))))
segments-all (seg ∷ path) place text le e some = e ∙ ap spelled_segments (take_all place (seg ∷ path) le) ∙ segments-spelled (seg ∷ path)

-- the root has none
pub segments-none : (path : List (List ℕ)) (place : ℕ) (text : List ℕ) → length path ≤ place → text ≡ spelled_segments (take place path) → length text ≡ 0
    → text ++ codes "/" ≡ text_of (mangled_segs path)
segments-none [] place text le e none = ap (λ t. t ++ codes "/") (e ∙ ap spelled_segments (take_all place [] le))
segments-none (seg ∷ path) place text le e none =
    let whole = e ∙ ap spelled_segments (take_all place (seg ∷ path) le) in
    let long : length (spelled_segments (seg ∷ path)) ≡ 0 = sym (ap length whole) ∙ none in cc (long)
