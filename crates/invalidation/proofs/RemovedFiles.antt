-- Which files a slice removed, from what its parts make of the files.
use Rattle.std.proofs.Common.{◌≡◌, inl, inr, ⊎_elim, ℕ, Bool, true, false, ◌&&◌, List, [], ◌∷◌, Option, Some, None, drop, take, sym, ◌∙◌, ap}
use Rattle.std.proofs.lemmas.Bool.{true≢false}
use Rattle.sp_base.specs.Texts.{Text}
use Rattle.sp_outside.specs.Files.{Files, file_at}
use Rattle.cover_rules.specs.declared.invalidation.Invalidation.{Invalidation}
use Rattle.cover_rules.specs.declared.stamp.Stamp.{Stamp}
use Rattle.docroot_format.specs.Deletions.{begins_with_any, deleted_prefixes}
use Rattle.docroot_format.specs.Names.{is_page_file}
use Rattle.invalidation.specs.Slices.{IsFileBehind, IsGoneSince, IsListedPage, IsTakenFor, is_passed, place_or_start, start_place}
use Rattle.invalidation.specs.Walks.{IsBegun, Walked, WalkedOn}
use Rattle.invalidation.specs.declared.place.WalkPlace.{WalkPlace}
use Rattle.invalidation.proofs.LookedNames.{end_passed}
use Rattle.invalidation.proofs.TakenFiles.{stays_gone}

none_of : (b : Bool) → b && false ≡ true → ⊥
none_of true e = true≢false (sym e)
none_of false e = true≢false (sym e)

-- a walk begins with nothing that it passed
pub starts_at_none : (prefixes : List Text) (name : Text) → is_page_file name ≡ true → is_passed prefixes start_place name ≡ true → ⊥
starts_at_none prefixes [] page passed = true≢false (sym page)
starts_at_none prefixes (b ∷ name) page passed = none_of (begins_with_any (take 1 (drop 0 prefixes)) (b ∷ name)) passed

-- after a walk each file behind its place is gone, or stood behind the one from which the slice set out
pub removed_behind : (level : ℕ) (inv : Invalidation) (stamp : Stamp) (place : Option WalkPlace) (seen : ℕ) (old mid new : Files) (now : WalkPlace) → IsBegun level inv stamp place old mid → Walked (deleted_prefixes inv) (place_or_start place) now seen mid new
    → (name : Text) → IsFileBehind inv (Some now) name → IsGoneSince inv place old new name
removed_behind level inv stamp None seen old mid new now o walked name behind = inl (⊎_elim
    (λ handle. stays_gone (IsListedPage (deleted_prefixes inv)) seen mid new name walked.takes (o.gone name handle))
    (λ w. ⊎_elim (λ passed. absurd (starts_at_none (deleted_prefixes inv) name w.0 passed)) (λ none. none) (walked.passed name w.0 w.1)) behind)
removed_behind level inv stamp (Some place) seen old mid new now same walked name behind =
    let was : IsFileBehind inv (Some place) name → IsGoneSince inv (Some place) old new name = λ before. ⊎_elim (λ e. inr (before, e ∙ ap (λ files. file_at files name) same)) (λ w. inl w.1) (walked.takes.files name) in
    ⊎_elim (λ handle. was (inl handle)) (λ w. ⊎_elim (λ passed. was (inr (w.0, passed))) (λ none. inl none) (walked.passed name w.0 w.1)) behind

-- after the whole walk each file that the invalidation takes away
pub removed_all : (level : ℕ) (inv : Invalidation) (stamp : Stamp) (place : Option WalkPlace) (old mid new : Files) (now : WalkPlace) → IsBegun level inv stamp place old mid → WalkedOn (deleted_prefixes inv) (place_or_start place) now false mid new
    → (name : Text) → IsTakenFor inv name → IsGoneSince inv place old new name
removed_all level inv stamp place old mid new now begun walked name taken = removed_behind level inv stamp place walked.0 old mid new now begun walked.1.0 name
    (⊎_elim (λ handle. inl handle) (λ listed. inr (listed.0, end_passed (deleted_prefixes inv) now name walked.1.1.0 listed.1)) taken)
