-- What the names of the files begin with that a flush takes away: the name of the handle's folder, with a dot in place of its slash, and that name or more.
use Rattle.std.proofs.Common.{◌≡◌, ◌⊎◌, ⊎_elim, ℕ, zero, suc, Bool, true, false, cond, ◌||◌, ◌++◌, [], ◌∷◌, Option, Some, None, codes, drop, get_or, is_some, length, take, refl, sym, ◌∙◌, ap, arith, subst}
use Rattle.std.specs.Prelude.{slice_get}
use Rattle.std.proofs.Math.ListN.{get_or-eq_default}
use Rattle.std.proofs.Math.Seq.{get_or-append_seam}
use Rattle.std.proofs.lemmas.Bool.{false_from_ne_true, true≢false}
use Rattle.std.proofs.lemmas.Grind.{flat_map-append}
use Rattle.std.proofs.lemmas.List.{append-nil, append_cancel_right, length-append}
use Rattle.sp_base.specs.Paths.{name_of, parent_of}
use Rattle.sp_base.specs.Texts.{Segments, Text}
use Rattle.sp_base.proofs.TextLemmas.{begins_with}
use Rattle.sp_outside.specs.Files.{has_prefix}
use Rattle.cover_rules.specs.Coverage.{handle_of, takes_below}
use Rattle.cover_rules.specs.Names.{file_name}
use Rattle.cover_rules.specs.Pages.{is_page, key_at}
use Rattle.cover_rules.specs.declared.page.PageKey.{PageKey}
use Rattle.cover_rules.specs.declared.invalidation.Invalidation.{Invalidation}
use Rattle.docroot_format.specs.Deletions.{begins_with_any, deleted_folder, deleted_prefixes, rendering_prefixes}
use Rattle.docroot_format.specs.Names.{body_name, folder_name}
use Rattle.docroot_format.proofs.DeletedNames.{parent_and_name}
use Rattle.docroot_format.proofs.NameLemmas.{append_both}
use Rattle.cache_files.specs.Pages.{page_body_name, page_head_name}
use Rattle.invalidation.specs.Walks.{AreNamesApart}

-- ---- the name of a folder

abbrev folder_piece : Text → Text
folder_piece seg = file_name seg ++ 47 ∷ []

-- the name of a folder is that of a body in its place, and a slash
pub last_folder : (seg : Text) (segs : Segments) → folder_name (seg ∷ segs) ≡ body_name (parent_of (seg ∷ segs)) (name_of (seg ∷ segs)) ++ 47 ∷ []
last_folder seg segs =
    let front = parent_of (seg ∷ segs) in
    let last = name_of (seg ∷ segs) in
    ap folder_name (sym (parent_and_name seg segs)) ∙ flat_map-append folder_piece front (last ∷ []) ∙ ap (λ (xs : Text). folder_name front ++ xs) (append-nil (file_name last ++ 47 ∷ [])) ∙ append_both (folder_name front) (file_name last) (47 ∷ [])

none_ends : (front : Text) → [] ≡ front ++ 47 ∷ [] → ⊥
none_ends front e = (let long : 0 ≡ length (front ++ 47 ∷ []) = ap length e in omega (arith, long, length-append front (47 ∷ [])))

pub rendering_is : (handle : Segments) (front : Text) → folder_name handle ≡ front ++ 47 ∷ [] → rendering_prefixes handle ≡ (front ++ codes ".") ∷ []
rendering_is [] front e = absurd (none_ends front e)
rendering_is (seg ∷ segs) front e = ap (λ (body : Text). (body ++ codes ".") ∷ []) (append_cancel_right _ front (47 ∷ []) (sym (last_folder seg segs) ∙ e))

pub no_rendering : (handle : Segments) → ((front : Text) → folder_name handle ≡ front ++ 47 ∷ [] → ⊥) → rendering_prefixes handle ≡ []
no_rendering [] none = refl
no_rendering (seg ∷ segs) none = absurd (none _ (last_folder seg segs))

-- what follows the name of the handle's folder
abbrev pub below_handle : Bool → Text
below_handle below = cond below [] (codes "_jcr_content/")

below_is : (b : Bool) (handle : Segments) → folder_name (cond b handle (handle ++ codes "_jcr_content" ∷ [])) ≡ folder_name handle ++ below_handle b
unfolding file_name
below_is true handle = sym (append-nil (folder_name handle))
below_is false handle = flat_map-append folder_piece handle (codes "_jcr_content" ∷ [])

pub below_folder : (inv : Invalidation) → folder_name (deleted_folder inv) ≡ folder_name (handle_of inv) ++ below_handle (takes_below inv.action)
below_folder inv = below_is (takes_below inv.action) (handle_of inv)

-- ---- no name begins with two prefixes

begins_at : (front rest name : Text) (b : ℕ) → has_prefix (front ++ b ∷ rest) name ≡ true → get_or name (length front) 0 ≡ b
begins_at front rest name b has =
    let more = drop (length (front ++ b ∷ rest)) name in
    ap (λ (t : Text). get_or t (length front) 0) (begins_with name (front ++ b ∷ rest) has ∙ sym (append_both front (b ∷ rest) more)) ∙ get_or-append_seam front b (rest ++ more) 0

both_begin : (front rest name : Text) → has_prefix (front ++ codes ".") name ≡ true → has_prefix (front ++ 47 ∷ rest) name ≡ true → ⊥
both_begin front rest name dot slash =
    let e : 46 ≡ 47 = sym (begins_at front [] name 46 dot) ∙ begins_at front rest name 47 slash in
    omega (arith, e)

false_or : (b : Bool) → (b ≡ true → ⊥) → b || false ≡ false
false_or true none = absurd (none refl)
false_or false none = refl

-- the folder of what is deleted below a handle is that handle's, or one in it
folder_is : (b : Bool) (seg : Text) (segs : Segments) → folder_name (cond b (seg ∷ segs) ((seg ∷ segs) ++ codes "_jcr_content" ∷ [])) ≡ body_name (parent_of (seg ∷ segs)) (name_of (seg ∷ segs)) ++ 47 ∷ below_handle b
folder_is b seg segs =
    let front = body_name (parent_of (seg ∷ segs)) (name_of (seg ∷ segs)) in
    below_is b (seg ∷ segs) ∙ ap (λ (t : Text). t ++ below_handle b) (last_folder seg segs) ∙ sym (append_both front (47 ∷ []) (below_handle b))

one_apart : (d prefix name : Text) (n : ℕ) → slice_get (d ∷ []) n ≡ Some prefix → begins_with_any (take n (d ∷ [])) name ≡ false
one_apart d prefix name zero at = refl
one_apart d prefix name (suc n) at = absurd (cc (at))

two_apart : (front rest prefix name : Text) (n : ℕ) → slice_get ((front ++ codes ".") ∷ (front ++ 47 ∷ rest) ∷ []) n ≡ Some prefix → has_prefix prefix name ≡ true
    → begins_with_any (take n ((front ++ codes ".") ∷ (front ++ 47 ∷ rest) ∷ [])) name ≡ false
two_apart front rest prefix name zero at has = refl
two_apart front rest prefix name (suc zero) at has =
    let is : front ++ 47 ∷ rest ≡ prefix = cc (at) in
    false_or _ (λ dot. both_begin front rest name dot (ap (λ p. has_prefix p name) is ∙ has))
two_apart front rest prefix name (suc (suc n)) at has = absurd (cc (at))

apart_handle : (b : Bool) (handle : Segments) → AreNamesApart (rendering_prefixes handle ++ folder_name (cond b handle (handle ++ codes "_jcr_content" ∷ [])) ∷ [])
apart_handle b [] n prefix name at has = one_apart _ prefix name n at
apart_handle b (seg ∷ segs) n prefix name at has =
    let front = body_name (parent_of (seg ∷ segs)) (name_of (seg ∷ segs)) in
    subst (λ (d : Text). slice_get ((front ++ codes ".") ∷ d ∷ []) n ≡ Some prefix → begins_with_any (take n ((front ++ codes ".") ∷ d ∷ [])) name ≡ false) (sym (folder_is b seg segs))
    (λ there. two_apart front (below_handle b) prefix name n there has) at

pub prefixes_apart : (inv : Invalidation) → AreNamesApart (deleted_prefixes inv)
prefixes_apart inv = apart_handle (takes_below inv.action) (handle_of inv)

-- ---- the files of the page at the handle are none of these

abbrev folder_in : Option PageKey → Segments
folder_in None = []
folder_in (Some key) = key.folder

abbrev file_in : Option PageKey → Text
file_in None = []
file_in (Some key) = key.file

-- a key is made of the parts of its path
record IsKeyOf (segs : Segments) (key : PageKey) : Type 0 where
  page : is_page segs ≡ true
  folder : key.folder ≡ parent_of segs
  file : key.file ≡ name_of segs

key_parts : (segs : Segments) (key : PageKey) (b : Bool) → is_page segs ≡ b → cond b (Some (record { folder = parent_of segs; file = name_of segs })) None ≡ Some key → IsKeyOf segs key
key_parts segs key true page e = record { page = page; folder = ap folder_in (sym e); file = ap file_in (sym e) }
key_parts segs key false page e = absurd (true≢false (sym (ap is_some e)))

key_of : (segs : Segments) (key : PageKey) → key_at segs ≡ Some key → IsKeyOf segs key
unfolding key_at
key_of segs key e = key_parts segs key (is_page segs) refl e

begins_not : (front rest name : Text) (b c : ℕ) → get_or name (length front) 0 ≡ c → (c ≡ b → ⊥) → has_prefix (front ++ b ∷ rest) name ≡ false
begins_not front rest name b c at differ = false_from_ne_true (has_prefix (front ++ b ∷ rest) name) (λ has. differ (sym at ∙ begins_at front rest name b has))

none_begins : (front rest name : Text) (c : ℕ) → get_or name (length front) 0 ≡ c → (c ≡ 46 → ⊥) → (c ≡ 47 → ⊥) → begins_with_any ((front ++ codes ".") ∷ (front ++ 47 ∷ rest) ∷ []) name ≡ false
none_begins front rest name c at dot slash =
    ap (λ b. b || (has_prefix (front ++ 47 ∷ rest) name || false)) (begins_not front [] name 46 c at dot) ∙ ap (λ b. b || false) (begins_not front rest name 47 c at slash)

handle_begins : (b : Bool) (handle : Segments) (key : PageKey) (name : Text) (c : ℕ) → IsKeyOf handle key → get_or name (length (page_body_name key)) 0 ≡ c → (c ≡ 46 → ⊥) → (c ≡ 47 → ⊥)
    → begins_with_any (rendering_prefixes handle ++ folder_name (cond b handle (handle ++ codes "_jcr_content" ∷ [])) ∷ []) name ≡ false
handle_begins b [] key name c is at dot slash = absurd (true≢false (sym is.page))
handle_begins b (seg ∷ segs) key name c is at dot slash =
    let front = body_name (parent_of (seg ∷ segs)) (name_of (seg ∷ segs)) in
    let same : page_body_name key ≡ front = ap (λ (f : Segments). body_name f key.file) is.folder ∙ ap (body_name (parent_of (seg ∷ segs))) is.file in
    ap (λ (d : Text). begins_with_any ((front ++ codes ".") ∷ d ∷ []) name) (folder_is b seg segs)
    ∙ none_begins front (below_handle b) name c (ap (λ (f : Text). get_or name (length f) 0) (sym same) ∙ at) dot slash

-- neither the body's name nor the head's begins with one of the prefixes
pub handle_page_apart : (inv : Invalidation) (key : PageKey) (name : Text) → key_at (handle_of inv) ≡ Some key → (name ≡ page_body_name key) ⊎ (name ≡ page_head_name key) → begins_with_any (deleted_prefixes inv) name ≡ false
handle_page_apart inv key name own is = ⊎_elim
    (λ body. handle_begins (takes_below inv.action) (handle_of inv) key name 0 (key_of (handle_of inv) key own)
    (ap (λ (t : Text). get_or t (length (page_body_name key)) 0) body ∙ get_or-eq_default (page_body_name key) 0 (omega arith)) (λ e. omega (arith, e)) (λ e. omega (arith, e)))
    (λ head. handle_begins (takes_below inv.action) (handle_of inv) key name 37 (key_of (handle_of inv) key own)
    (ap (λ (t : Text). get_or t (length (page_body_name key)) 0) head ∙ get_or-append_seam (page_body_name key) 37 (104 ∷ []) 0) (λ e. omega (arith, e)) (λ e. omega (arith, e))) is
