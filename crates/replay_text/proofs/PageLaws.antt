-- The text of a page's path tells its key.
use Rattle.std.proofs.Common.{◌≡◌, ◌++◌, ◌&&◌, ◌∙◌, ℕ, zero, suc, Bool, true, List, [], ◌∷◌, Some, sym, ap, refl, take}
use Rattle.std.proofs.lemmas.Bool.{and_parts}
use Rattle.std.specs.Prelude.{IsTrue}
use Rattle.std.specs.List.{list_all}
use Rattle.sp_base.specs.Paths.{is_path, mangled_segs, name_of, parent_of, pieces, text_of}
use Rattle.sp_base.specs.PathTexts.{spelling_of, lack_slashes, segs_in}
use Rattle.sp_base.proofs.OptionLemmas.{cond_some_same}
use Rattle.cover_rules.specs.Pages.{is_page, key_at, page_key_of, page_path, page_text}
use Rattle.cover_rules.specs.declared.page.PageKey.{PageKey}
use Rattle.run_events.specs.Named.{IsPage}

-- two keys of pages have two texts
abbrev pub KeysTell : Type 0
KeysTell = (k l : PageKey) → IsPage (Some k) → IsPage (Some l) → page_text k ≡ page_text l → k ≡ l

all_of : (p : List ℕ → Bool) (seg : List ℕ) (segs : List (List ℕ)) → p seg ≡ true → list_all p segs ≡ true → list_all p (seg ∷ segs) ≡ true
all_of p seg segs e f = ap (λ t. t && list_all p segs) e ∙ f

all-take : (p : List ℕ → Bool) (k : ℕ) (segs : List (List ℕ)) → list_all p segs ≡ true → list_all p (take k segs) ≡ true
all-take p zero segs e = refl
all-take p (suc k) [] e = refl
all-take p (suc k) (seg ∷ segs) e =
    let parts = and_parts (p seg) (list_all p segs) e in
    all_of p seg (take k segs) parts.0 (all-take p k segs parts.1)

all-append : (p : List ℕ → Bool) (a b : List (List ℕ)) → list_all p a ≡ true → list_all p b ≡ true → list_all p (a ++ b) ≡ true
all-append p [] b e f = f
all-append p (seg ∷ a) b e f =
    let parts = and_parts (p seg) (list_all p a) e in
    all_of p seg (a ++ b) parts.0 (all-append p a b parts.1 f)

folder_is : (path : List (List ℕ)) (key : PageKey) → page_key_of path ≡ Some key → key.folder ≡ parent_of (mangled_segs path)
unfolding key_at
folder_is path key e =
    let made : PageKey = record { folder = parent_of (mangled_segs path); file = name_of (mangled_segs path) } in
    ap (λ (k : PageKey). k.folder) (sym (cond_some_same (is_page (mangled_segs path)) made key e))

-- a path that isn't the root is spelled by its segments alone
spelled_by : (folder segs : List (List ℕ)) (text : List ℕ) → spelling_of segs ≡ 47 ∷ text → text_of (folder ++ segs) ≡ spelling_of (folder ++ segs)
spelled_by [] [] text e = cc
spelled_by [] (seg ∷ segs) text e = refl
spelled_by (seg ∷ folder) segs text e = refl

pub keys_tell : ((path : List (List ℕ)) (key : PageKey) → IsTrue (is_path path) → page_key_of path ≡ Some key → page_key_of (page_path key) ≡ Some key)
    → ((path : List (List ℕ)) → IsTrue (is_path path) → IsTrue (lack_slashes path))
    → ((path : List (List ℕ)) → IsTrue (lack_slashes path) → IsTrue (lack_slashes (mangled_segs path)))
    → ((text : List ℕ) → IsTrue (lack_slashes (pieces text)))
    → ((path : List (List ℕ)) → IsTrue (lack_slashes path) → segs_in (spelling_of path) ≡ path)
    → ((text : List ℕ) → spelling_of (pieces text) ≡ 47 ∷ text)
    → KeysTell
keys_tell own of_path of_mangled of_pieces back whole k l p q e =
    let lacks : (key : PageKey) → IsPage (Some key) → lack_slashes (page_path key) ≡ true = λ key is.
    let folder : lack_slashes (parent_of (mangled_segs is.0)) ≡ true = all-take _ _ (mangled_segs is.0) (of_mangled is.0 (of_path is.0 is.1)) in
    all-append _ key.folder (pieces key.file) (ap lack_slashes (folder_is is.0 key is.2) ∙ folder) (of_pieces key.file) in
    let text : (key : PageKey) → page_text key ≡ spelling_of (page_path key) = λ key. spelled_by key.folder (pieces key.file) key.file (whole key.file) in
    let paths : page_path k ≡ page_path l =
    sym (back (page_path k) (lacks k p)) ∙ ap segs_in (sym (text k) ∙ e ∙ text l) ∙ back (page_path l) (lacks l q) in
    let keys : Some k ≡ Some l = sym (own p.0 k p.1 p.2) ∙ ap page_key_of paths ∙ own q.0 l q.1 q.2 in
    cc (keys)
