-- What a slice makes of the pages, the stamps and the number of the session, from what its parts make of files.
use Rattle.std.proofs.Common.{◌≡◌, ◌≢◌, ◌⊎◌, inl, inr, ⊎_elim, ℕ, true, false, not, ◌&&◌, Option, Some, None, codes, get_or, map, nat_eq, refl, sym, ◌∙◌, ap, arith}
use Rattle.std.specs.Prelude.{IsTrue, ◌↔◌, option_and_then, option_map, unwrap_or}
use Rattle.std.proofs.lemmas.Bool.{true≢false}
use Rattle.sp_base.specs.Paths.{mangled_segs, name_of, pieces}
use Rattle.sp_base.specs.Texts.{Segments, Text}
use Rattle.sp_base.proofs.BoolLemmas.{and_false}
use Rattle.sp_base.proofs.OptionLemmas.{some_is_not_none}
use Rattle.sp_outside.specs.FileNames.{has_segments}
use Rattle.sp_outside.specs.Files.{Files, file_at}
use Rattle.cover_rules.specs.Coverage.{deletes, handle_of}
use Rattle.cover_rules.specs.Names.{file_name}
use Rattle.cover_rules.specs.Pages.{IsPageKey, page_key_of, page_path}
use Rattle.cover_rules.specs.declared.invalidation.Invalidation.{Invalidation}
use Rattle.cover_rules.specs.declared.page.PageKey.{PageKey}
use Rattle.cover_rules.specs.declared.stamp.Stamp.{Stamp}
use Rattle.docroot_format.specs.Deletions.{IsDeletedByName}
use Rattle.docroot_format.specs.Names.{epoch_name, is_page_file, stat_name}
use Rattle.docroot_format.specs.Readings.{epoch_of, head_of, stat_of}
use Rattle.docroot_format.proofs.Apart.{pieces_body}
use Rattle.docroot_format.proofs.FileRoles.{name_of_push}
use Rattle.cache_files.specs.Epochs.{epoch_after}
use Rattle.cache_files.specs.HeldStamps.{HoldsStamp, KeepsOrder}
use Rattle.cache_files.specs.Pages.{head_at, note_of, page_at, page_body_name, page_head_name, stored_page}
use Rattle.cache_files.specs.declared.page.Page.{Page}
use Rattle.stat_files.specs.Stamps.{stamp_at, stamp_in}
use Rattle.docroot_changes.specs.Changes.{KeepsNumber, Told}
use Rattle.invalidation.specs.Slices.{IsTakenFor, folders_of, stamps_written}
use Rattle.invalidation.specs.Walks.{SliceChange, TakesFiles, handle_files}
use Rattle.invalidation.specs.declared.place.WalkPlace.{WalkPlace}
use Rattle.invalidation.proofs.Chains.{told_itself}
use Rattle.invalidation.proofs.TakenFiles.{takes_none}
use Rattle.invalidation.proofs.Touching.{touches_none}

pub no_change : (IsTaken : Text → Type 0) (level : ℕ) (inv : Invalidation) (stamp : Stamp) (place : Option WalkPlace) (x : Option Files) → Told (SliceChange IsTaken (folders_of level inv place) (stamps_written level place) (handle_files place) stamp) x x
no_change IsTaken level inv stamp place x =
    told_itself (SliceChange IsTaken (folders_of level inv place) (stamps_written level place) (handle_files place) stamp) x
    (λ files. record { between = files; touches = touches_none (folders_of level inv place) (stamps_written level place) stamp files; takes = takes_none IsTaken (handle_files place) files; first = inr refl })

-- ---- what is known of names

-- what the laws say of the names of pages, and of those that an invalidation deletes
pub record NameLaws (inv : Invalidation) : Type 0 where
  pub body_deleted : (key : PageKey) → IsPageKey key → (deletes inv key ≡ true) ↔ IsDeletedByName inv key (page_body_name key)
  pub head_deleted : (key : PageKey) → IsPageKey key → (deletes inv key ≡ true) ↔ IsDeletedByName inv key (page_head_name key)
  pub bodies : (key other : PageKey) → IsPageKey key → IsPageKey other → page_body_name key ≡ page_body_name other → key ≡ other
  pub heads : (key other : PageKey) → IsPageKey key → IsPageKey other → page_head_name key ≡ page_head_name other → key ≡ other
  pub head : (key other : PageKey) → IsPageKey key → IsPageKey other → page_head_name key ≢ page_body_name other
  pub body_page : (key : PageKey) → IsPageKey key → IsTrue (is_page_file (page_body_name key))
  pub head_page : (key : PageKey) → IsPageKey key → IsTrue (is_page_file (page_head_name key))
  pub epoch_page : is_page_file epoch_name ≡ false
  pub mangled : page_key_of (handle_of inv) ≡ page_key_of inv.handle

taken_page : (inv : Invalidation) (name : Text) → NameLaws inv → IsTakenFor inv name → is_page_file name ≡ true
taken_page inv name laws taken = ⊎_elim
    (λ h. ⊎_elim (λ e. ap is_page_file e ∙ laws.body_page h.0 h.1.0) (λ e. ap is_page_file e ∙ laws.head_page h.0 h.1.0) h.1.1.1)
    (λ l. l.0) taken

taken_body : (inv : Invalidation) (key : PageKey) → NameLaws inv → IsPageKey key → IsTakenFor inv (page_body_name key) → deletes inv key ≡ true
taken_body inv key laws page taken = (laws.body_deleted key page).1 (⊎_elim
    (λ h. inl (⊎_elim (λ e. ap page_path (laws.bodies key h.0 page h.1.0 e) ∙ h.1.1.0) (λ e. absurd (laws.head h.0 key h.1.0 page (sym e))) h.1.1.1))
    (λ l. inr l.1) taken)

taken_head : (inv : Invalidation) (key : PageKey) → NameLaws inv → IsPageKey key → IsTakenFor inv (page_head_name key) → deletes inv key ≡ true
taken_head inv key laws page taken = (laws.head_deleted key page).1 (⊎_elim
    (λ h. inl (⊎_elim (λ e. absurd (laws.head key h.0 page h.1.0 e)) (λ e. ap page_path (laws.heads key h.0 page h.1.0 e) ∙ h.1.1.0) h.1.1.1))
    (λ l. inr l.1) taken)

-- a .stat file is no page's
pub stat_no_page : (folder : Segments) → is_page_file (stat_name folder) ≡ false
stat_no_page folder =
    let last : name_of (pieces (stat_name folder)) ≡ codes ".stat" = ap name_of (pieces_body (mangled_segs folder) (codes ".stat") refl) ∙ name_of_push (map file_name (mangled_segs folder)) (codes ".stat") in
    ap (λ (piece : Text). has_segments (stat_name folder) && not (nat_eq (get_or piece 0 0) 46)) last ∙ and_false (has_segments (stat_name folder))

-- ---- what taking files away makes of a page

abbrev page_from : Option Text → Option Text → Option Page
page_from head body = option_and_then (λ line. option_and_then (stored_page line) body) (option_and_then head_of head)

no_body : (head : Option Text) → page_from head None ≡ None
no_body head = elim (option_and_then head_of head) as (λ o. option_and_then (λ line. option_and_then (stored_page line) None) o ≡ None) [
  | None ↦ refl
  | Some line ↦ refl
]

pub page_left : (inv : Invalidation) (most : ℕ) (old new : Files) → NameLaws inv → TakesFiles (IsTakenFor inv) most old new → (key : PageKey) → IsPageKey key → (page_at new key ≡ page_at old key) ⊎ ((deletes inv key ≡ true) × (page_at new key ≡ None))
page_left inv most old new laws takes key page = ⊎_elim
    (λ head. ⊎_elim
    (λ body. inl (ap (λ h. page_from h (file_at new (page_body_name key))) head ∙ ap (page_from (file_at old (page_head_name key))) body))
    (λ w. inr (taken_body inv key laws page w.0, ap (page_from (file_at new (page_head_name key))) w.1 ∙ no_body (file_at new (page_head_name key)))) (takes.files (page_body_name key)))
    (λ w. inr (taken_head inv key laws page w.0, ap (λ h. page_from h (file_at new (page_body_name key))) w.1)) (takes.files (page_head_name key))

pub head_left : (inv : Invalidation) (most : ℕ) (old new : Files) → NameLaws inv → TakesFiles (IsTakenFor inv) most old new → (key : PageKey) → IsPageKey key → (head_at new key ≡ head_at old key) ⊎ ((deletes inv key ≡ true) × (head_at new key ≡ None))
head_left inv most old new laws takes key page = ⊎_elim
    (λ e. inl (ap (λ h. option_map note_of (option_and_then head_of h)) e))
    (λ w. inr (taken_head inv key laws page w.0, ap (λ h. option_map note_of (option_and_then head_of h)) w.1)) (takes.files (page_head_name key))

other_left : (inv : Invalidation) (most : ℕ) (old new : Files) → NameLaws inv → TakesFiles (IsTakenFor inv) most old new → (name : Text) → is_page_file name ≡ false → file_at new name ≡ file_at old name
other_left inv most old new laws takes name other = ⊎_elim (λ e. e) (λ w. absurd (true≢false (sym (taken_page inv name laws w.0) ∙ other))) (takes.files name)

pub stamp_left : (inv : Invalidation) (most : ℕ) (old new : Files) → NameLaws inv → TakesFiles (IsTakenFor inv) most old new → (folder : Segments) → stamp_at new folder ≡ stamp_at old folder
stamp_left inv most old new laws takes folder = ap (option_map stamp_in) (other_left inv most old new laws takes (stat_name folder) (stat_no_page folder))

pub number_left : (inv : Invalidation) (most : ℕ) (old new : Files) → NameLaws inv → TakesFiles (IsTakenFor inv) most old new → KeepsNumber old new
number_left inv most old new laws takes =
    let same = other_left inv most old new laws takes epoch_name laws.epoch_page in
    record { held = ap (λ found. unwrap_or (option_and_then epoch_of found) 0) same; next = ap epoch_after same }

held_left : (inv : Invalidation) (most : ℕ) (old new : Files) → NameLaws inv → TakesFiles (IsTakenFor inv) most old new → (stamp : Stamp) → HoldsStamp new stamp → HoldsStamp old stamp
held_left inv most old new laws takes stamp holds = ⊎_elim
    (λ p. ⊎_elim
    (λ same. inl (p.0, (p.1.0, (p.1.1.0, (sym same ∙ p.1.1.1.0, p.1.1.1.1)))))
    (λ w. absurd (some_is_not_none p.1.1.0 (sym p.1.1.1.0 ∙ w.1))) (head_left inv most old new laws takes p.0 p.1.0))
    (λ f. inr (f.0, (f.1.0, (f.1.1.0, ap (option_and_then stat_of) (sym (other_left inv most old new laws takes (stat_name f.0) (stat_no_page f.0))) ∙ f.1.1.1))))
    holds

pub order_left : (inv : Invalidation) (most : ℕ) (old new : Files) → NameLaws inv → TakesFiles (IsTakenFor inv) most old new → KeepsOrder old new
order_left inv most old new laws takes = λ none stamp holds.
    let le = none stamp (held_left inv most old new laws takes stamp holds) in
    let same = (number_left inv most old new laws takes).held in
    omega (arith, le, same)
