-- The page at the handle is taken away.
use Rattle.std.proofs.Common.{◌≡◌, inl, inr, ⊎_elim, List, Option, Some, None, Ok, Err, cond, refl, sym, ◌∙◌, ap, arith}
use Rattle.std.specs.Cmp.{tied_itself}
use Rattle.std.specs.Cmp.Lexicographic.{nat_list_cmp_total}
use Rattle.std.specs.FinMap.{get-remove}
use Rattle.std.specs.Ordering.{is_eq}
use Rattle.std.specs.Prelude.{IfErr, IfSome, OnOk, Result}
use Rattle.sp_base.specs.Texts.{Text}
use Rattle.sp_outside.specs.Calls.{Call}
use Rattle.sp_outside.specs.Files.{Files, file_at, without_file}
use Rattle.cover_rules.specs.Coverage.{handle_of}
use Rattle.cover_rules.specs.Pages.{IsPageKey, page_key_of, page_path}
use Rattle.cover_rules.specs.declared.invalidation.Invalidation.{Invalidation}
use Rattle.cover_rules.specs.declared.page.PageKey.{PageKey}
use Rattle.docroot_format.specs.declared.fault.FileFault.{FileFault}
use Rattle.cache_files.specs.Pages.{IsDropLeft, files_without_page, page_body_name, page_head_name, told_without_page}
use Rattle.docroot_changes.specs.Changes.{Told}
use Rattle.docroot_changes.proofs.ToldFiles.{drop_keeps, told_drop, told_made}
use Rattle.invalidation.specs.Slices.{IsHandlePage}
use Rattle.invalidation.specs.Walks.{IsHandleGone, TakesFiles}
use Rattle.invalidation.proofs.Chains.{either}
use Rattle.invalidation.proofs.TakenFiles.{stays_gone, takes_as, takes_none, takes_one, takes_then}

-- the key is that of the page at the handle
pub record IsHandleKey (inv : Invalidation) (key : PageKey) : Type 0 where
  pub page : IsPageKey key
  pub path : page_path key ≡ handle_of inv

bare : (inv : Invalidation) (key : PageKey) → IsHandleKey inv key → (old : Files) → TakesFiles (IsHandlePage inv) 1 old (without_file old (page_head_name key))
bare inv key is old = takes_one (IsHandlePage inv) old (page_head_name key) (key, (is.page, (is.path, inr refl)))

whole : (inv : Invalidation) (key : PageKey) → IsHandleKey inv key → (old : Files) → TakesFiles (IsHandlePage inv) 2 old (files_without_page old key)
whole inv key is old =
    let half = without_file old (page_head_name key) in
    takes_then (IsHandlePage inv) 1 1 old half (files_without_page old key) (bare inv key is old) (takes_one (IsHandlePage inv) half (page_body_name key) (key, (is.page, (is.path, inl refl))))

stopped : (inv : Invalidation) (key : PageKey) → IsHandleKey inv key → (asked made : Option (List Call)) (old new : Files) (fault : FileFault) → IsDropLeft asked made (Some old) (Some new) key fault → TakesFiles (IsHandlePage inv) 2 old new
stopped inv key is asked made old new fault left =
    drop_keeps (λ told. IfSome told (TakesFiles (IsHandlePage inv) 2 old)) asked made (Some old) (Some new) key fault (takes_none (IsHandlePage inv) 2 old)
    (takes_as (IsHandlePage inv) (IsHandlePage inv) 1 2 old (without_file old (page_head_name key)) (omega arith) (λ name h. h) (bare inv key is old)) (whole inv key is old) left

pub told_dropped : (inv : Invalidation) (key : PageKey) → IsHandleKey inv key → {T : Type 0} (r : Result T FileFault) (asked made : Option (List Call)) (x y : Option Files) → OnOk r (y ≡ told_without_page x key) → IfErr r (IsDropLeft asked made x y key)
    → Told (TakesFiles (IsHandlePage inv) 2) x y
told_dropped inv key is r asked made x y ok err =
    let P = TakesFiles (IsHandlePage inv) 2 in
    either r (y ≡ told_without_page x key) (Told P x y) (IsDropLeft asked made x y key)
    (told_made P (λ files. files_without_page files key) x y (whole inv key is))
    (λ fault left. told_drop P asked made x y key fault (λ old new l. stopped inv key is asked made old new fault l) left) ok err

same_key : (key other : PageKey) → Some other ≡ Some key → other ≡ key
same_key key other e = cc (e)

itself_gone : (files : Files) (name : Text) → file_at (without_file files name) name ≡ None
itself_gone files name = get-remove nat_list_cmp_total files name name ∙ ap (λ o. cond (is_eq o) None (file_at files name)) (tied_itself nat_list_cmp_total name)

both_gone : (inv : Invalidation) (key : PageKey) → IsHandleKey inv key → (old : Files) → IsHandleGone inv (files_without_page old key)
both_gone inv key is old name taken =
    let half = without_file old (page_head_name key) in
    let new = files_without_page old key in
    let same = same_key key taken.0 (sym taken.1.0.own ∙ ap page_key_of (taken.1.1.0 ∙ sym is.path) ∙ is.page.own) in
    let last = takes_one (IsHandlePage inv) half (page_body_name key) (key, (is.page, (is.path, inl refl))) in
    ⊎_elim (λ e. ap (file_at new) (e ∙ ap page_body_name same) ∙ itself_gone half (page_body_name key))
    (λ e. ap (file_at new) (e ∙ ap page_head_name same) ∙ stays_gone (IsHandlePage inv) 1 half new (page_head_name key) last (itself_gone old (page_head_name key))) taken.1.1.1

pub told_handle_gone : (inv : Invalidation) (key : PageKey) → IsHandleKey inv key → {T : Type 0} (r : Result T FileFault) (x y : Option Files) → OnOk r (y ≡ told_without_page x key) → OnOk r (Told (λ a b. IsHandleGone inv b) x y)
told_handle_gone inv key is (Ok t) x y ok = told_made (λ a b. IsHandleGone inv b) (λ files. files_without_page files key) x y (both_gone inv key is) ok
told_handle_gone inv key is (Err e) x y ok = ok
