-- What holds of the files between the steps of a put and of a drop, holds of what a failed one leaves.
use Rattle.std.proofs.Common.{◌≢◌, ⊎_elim, ℕ, List, Some, sym, subst}
use Rattle.std.proofs.lemmas.Option.{same_Some}
use Rattle.sp_base.specs.declared.answer.Answer.{Answer}
use Rattle.sp_outside.specs.Files.{Files, with_file, without_file}
use Rattle.cover_rules.specs.declared.page.PageKey.{PageKey}
use Rattle.cover_rules.specs.declared.stamp.Stamp.{Stamp}
use Rattle.docroot_format.specs.Faults.{IsLeftByFault}
use Rattle.docroot_format.specs.declared.fault.FileFault.{FileFault}
use Rattle.docroot_format.specs.declared.fault.FileFault.TheVariants.{Disk, NoMemory}
use Rattle.cache_files.specs.Changes.{LeftByDrop, LeftByPutOutOfMemory, LeftByPut}
use Rattle.cache_files.specs.Pages.{files_with_page, files_without_page, page_body_name, page_head_name}

-- the files once a page's head was taken away, and once its body was written then
abbrev pub bare_files : Files → PageKey → Files
bare_files files key = without_file files (page_head_name key)

abbrev pub half_files : Files → PageKey → List ℕ → Files
half_files files key bytes = with_file (bare_files files key) (page_body_name key) bytes

left_state : (P : Files → Type 0) (old wanted new : Files) (fault : FileFault) → P old → P wanted → IsLeftByFault (Some old) (Some wanted) (Some new) fault → P new
left_state P old wanted new fault p q left = ⊎_elim (λ e. subst P (sym (same_Some new old e)) p) (λ e. subst P (sym (same_Some new wanted e.1)) q) left

pub put_left : (P : Files → Type 0) (files new : Files) (key : PageKey) (stamp : Stamp) (answer : Answer) → P files → P (bare_files files key) → P (half_files files key answer.body)
    → P (files_with_page files key stamp answer) → LeftByPut files new key stamp answer → P new
put_left P files new key stamp answer old bare half whole left =
    let fault = left.1.1.0 in
    ⊎_elim (λ l. subst P (sym (same_Some new files l.1.1)) old)
    (λ begun. ⊎_elim (λ l. left_state P files (bare_files files key) new fault old bare l.1.1)
    (λ more. ⊎_elim (λ l. left_state P (bare_files files key) (half_files files key answer.body) new fault bare half l.1)
    (λ l. left_state P (half_files files key answer.body) (files_with_page files key stamp answer) new fault half whole l.1) more) begun) left.1.1.1

pub drop_left : (P : Files → Type 0) (files new : Files) (key : PageKey) → P files → P (bare_files files key) → P (files_without_page files key) → LeftByDrop files new key → P new
drop_left P files new key old bare gone left =
    let fault = left.1.1.0 in
    ⊎_elim (λ l. subst P (sym (same_Some new files l.1.1)) old)
    (λ begun. ⊎_elim (λ l. left_state P files (bare_files files key) new fault old bare l.1.1)
    (λ l. left_state P (bare_files files key) (files_without_page files key) new fault bare gone l.1.1) begun) left.1.1.1

-- ---- out of memory, a change was not made

not_disk : NoMemory ≢ Disk
not_disk e = cc (e)

dry_state : (P : Files → Type 0) (old wanted new : Files) → P old → IsLeftByFault (Some old) (Some wanted) (Some new) NoMemory → P new
dry_state P old wanted new p left = ⊎_elim (λ e. subst P (sym (same_Some new old e)) p) (λ e. absurd (not_disk e.0)) left

pub put_left_dry : (P : Files → Type 0) (files new : Files) (key : PageKey) (stamp : Stamp) (answer : Answer) → P files → P (bare_files files key) → P (half_files files key answer.body)
    → LeftByPutOutOfMemory files new key stamp answer → P new
put_left_dry P files new key stamp answer old bare half left =
    ⊎_elim (λ l. subst P (sym (same_Some new files l.1.1)) old)
    (λ begun. ⊎_elim (λ l. absurd (not_disk l.0))
    (λ more. ⊎_elim (λ l. dry_state P (bare_files files key) (half_files files key answer.body) new bare l.1)
    (λ l. dry_state P (half_files files key answer.body) (files_with_page files key stamp answer) new half l.1) more) begun) left.1.1
