-- What a change leaves at its own key or folder, by the fault that stopped it.
use Rattle.std.proofs.Common.{◌≡◌, ◌⊎◌, inl, inr, ⊎_elim, List, Option, Some, refl, sym, ◌∙◌, subst}
use Rattle.std.proofs.lemmas.Option.{same_Some}
use Rattle.sp_base.specs.Texts.{Segments}
use Rattle.sp_base.specs.declared.answer.Answer.{Answer}
use Rattle.sp_outside.specs.Calls.{Call}
use Rattle.sp_outside.specs.Files.{Files}
use Rattle.cover_rules.specs.declared.page.PageKey.{PageKey}
use Rattle.cover_rules.specs.declared.stamp.Stamp.{Stamp}
use Rattle.docroot_format.specs.declared.fault.FileFault.{FileFault}
use Rattle.docroot_format.specs.declared.fault.FileFault.TheVariants.{Disk, NoMemory}
use Rattle.cache_files.specs.Changes.{HasNoPage, HasPage, HasSamePage, IsOldNoneOrNew, IsOldOrNone}
use Rattle.cache_files.specs.Pages.{IsDropLeft, files_with_page}
use Rattle.cache_files.proofs.PageFiles.{same_kept}
use Rattle.stat_files.specs.Stamps.{files_with_stamp}
use Rattle.docroot_changes.specs.Changes.{BesideStamp, KeepsNumber}

pub same_number : (old new : Files) → new ≡ old → KeepsNumber old new
same_number old new e = subst (KeepsNumber old) (sym e) (record { held = refl; next = refl })

has_page : (whole new : Files) (key : PageKey) (stamp : Stamp) (answer : Answer) → HasSamePage whole new key → HasPage whole key stamp answer → HasPage new key stamp answer
has_page whole new key stamp answer same has = record { page = same.page ∙ has.page; head = same.head ∙ has.head }

pub put_here : (old new : Files) (key : PageKey) (stamp : Stamp) (answer : Answer) (fault : FileFault) → HasPage (files_with_page old key stamp answer) key stamp answer → (fault ≡ NoMemory → IsOldOrNone old new key)
    → IsOldNoneOrNew old new key stamp answer → HasSamePage old new key ⊎ (HasNoPage new key ⊎ ((fault ≡ Disk) × HasPage new key stamp answer))
put_here old new key stamp answer Disk whole dry any =
    ⊎_elim (λ same. inl same) (λ more. inr (⊎_elim (λ none. inl none) (λ is. inr (refl, has_page (files_with_page old key stamp answer) new key stamp answer is whole)) more)) any
put_here old new key stamp answer NoMemory whole dry any = ⊎_elim (λ same. inl same) (λ none. inr (inl none)) (dry refl)

pub drop_here : (asked made : Option (List Call)) (old new : Files) (key : PageKey) (fault : FileFault) → IsOldOrNone old new key → IsDropLeft asked made (Some old) (Some new) key fault
    → HasSamePage old new key ⊎ ((fault ≡ Disk) × HasNoPage new key)
drop_here asked made old new key fault any left =
    ⊎_elim (λ unbegun. inl (same_kept old new key (same_Some new old unbegun.1.1)))
    (λ begun. let failed : fault ≡ Disk = ⊎_elim (λ l. l.0) (λ l. l.0) begun in ⊎_elim (λ same. inl same) (λ none. inr (failed, none)) any) left

-- ---- the files that a touch leaves

pub touch_left : (P : Files → Type 0) (old new : Files) (folder : Segments) (stamp : Stamp) (fault : FileFault) → P old → P (files_with_stamp old folder stamp)
    → (new ≡ old) ⊎ ((fault ≡ Disk) × (new ≡ files_with_stamp old folder stamp)) → P new
touch_left P old new folder stamp fault p q left = ⊎_elim (λ e. subst P (sym e) p) (λ w. subst P (sym w.1) q) left

pub same_beside : (folder : Segments) (old : Files) → BesideStamp folder old old
same_beside folder old = record {
  pages = λ key page. record { page = refl; head = refl };
  stamps = λ other may differ. refl;
  number = record { held = refl; next = refl };
}
