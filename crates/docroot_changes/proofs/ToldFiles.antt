-- A call on the files of a disk, by the files that the disk tells.
use Rattle.std.proofs.Common.{◌≡◌, ⊎_elim, ℕ, List, Option, Some, None, refl, sym, subst, option_map}
use Rattle.std.specs.Prelude.{IfSome, IfOk, OnOk, Result, Ok, Err}
use Rattle.sp_base.specs.Texts.{Segments}
use Rattle.sp_base.specs.declared.answer.Answer.{Answer}
use Rattle.sp_outside.specs.Calls.{Call}
use Rattle.sp_outside.specs.Files.{Files}
use Rattle.cover_rules.specs.declared.page.PageKey.{PageKey}
use Rattle.cover_rules.specs.declared.stamp.Stamp.{Stamp}
use Rattle.docroot_format.specs.Faults.{IsLeftByFault}
use Rattle.docroot_format.specs.declared.fault.FileFault.{FileFault}
use Rattle.cache_files.specs.Epochs.{IsOpenLeft, told_with_epoch}
use Rattle.cache_files.specs.Pages.{IsDropLeft, IsPutLeft, told_headless, told_with_body, told_with_page, told_without_page}
use Rattle.cache_files.specs.declared.epoch.OpenFault.{OpenFault}
use Rattle.stat_files.specs.Stamps.{told_with_stamp}
use Rattle.docroot_changes.specs.Changes.{Told}

-- ---- an answer

pub on_ok : {T E : Type 0} (r : Result T E) (P Q : Type 0) → (P → Q) → OnOk r P → OnOk r Q
on_ok (Ok t) P Q all h = all h
on_ok (Err e) P Q all h = h

pub if_ok : {T E : Type 0} (r : Result T E) (P Q R : T → Type 0) → ((t : T) → P t → Q t → R t) → IfOk r P → IfOk r Q → IfOk r R
if_ok (Ok t) P Q R all p q = all t p q
if_ok (Err e) P Q R all p q = p

-- ---- a change that was made whole

pub told_made : (P : Files → Files → Type 0) (change : Files → Files) (before after : Option Files) → ((old : Files) → P old (change old)) → after ≡ option_map change before → Told P before after
told_made P change None after all e = e
told_made P change (Some old) after all e = subst (λ t. Told P (Some old) t) (sym e) (all old)

pub told_when : (P : Files → Files → Type 0) (Pre : Files → Type 0) (change : Files → Files) (before after : Option Files) → ((old : Files) → Pre old → P old (change old)) → IfSome before Pre → after ≡ option_map change before
    → Told P before after
told_when P Pre change None after all is e = e
told_when P Pre change (Some old) after all is e = subst (λ t. Told P (Some old) t) (sym e) (all old is)

-- ---- a change that failed

abbrev AreTold : Option Files → Type 0
AreTold None = ⊥
AreTold (Some _) = Unit {0}

one_left : (Q : Option Files → Type 0) (old wanted new : Option Files) (fault : FileFault) → Q old → Q wanted → IsLeftByFault old wanted new fault → Q new
one_left Q old wanted new fault p q left = ⊎_elim (λ e. subst Q (sym e) p) (λ e. subst Q (sym e.1) q) left

pub put_keeps : (Q : Option Files → Type 0) (asked made : Option (List Call)) (old new : Option Files) (key : PageKey) (stamp : Stamp) (answer : Answer) (fault : FileFault) → Q old → Q (told_headless old key) → Q (told_with_body old key answer)
    → Q (told_with_page old key stamp answer) → IsPutLeft asked made old new key stamp answer fault → Q new
put_keeps Q asked made old new key stamp answer fault o bare half whole left =
    ⊎_elim (λ l. subst Q (sym l.1.1) o)
    (λ begun. ⊎_elim (λ l. one_left Q old (told_headless old key) new fault o bare l.1.1)
    (λ more. ⊎_elim (λ l. one_left Q (told_headless old key) (told_with_body old key answer) new fault bare half l.1)
    (λ l. one_left Q (told_with_body old key answer) (told_with_page old key stamp answer) new fault half whole l.1) more) begun) left

pub drop_keeps : (Q : Option Files → Type 0) (asked made : Option (List Call)) (old new : Option Files) (key : PageKey) (fault : FileFault) → Q old → Q (told_headless old key) → Q (told_without_page old key)
    → IsDropLeft asked made old new key fault → Q new
drop_keeps Q asked made old new key fault o bare gone left =
    ⊎_elim (λ l. subst Q (sym l.1.1) o)
    (λ begun. ⊎_elim (λ l. one_left Q old (told_headless old key) new fault o bare l.1.1)
    (λ l. one_left Q (told_headless old key) (told_without_page old key) new fault bare gone l.1.1) begun) left

open_keeps : (Q : Option Files → Type 0) (asked made : Option (List Call)) (old new : Option Files) (fault : OpenFault) → Q old → ((epoch : ℕ) → Q (told_with_epoch old epoch)) → IsOpenLeft asked made old new fault → Q new
open_keeps Q asked made old new fault o set left =
    ⊎_elim (λ l. subst Q (sym l.1) o)
    (λ more. ⊎_elim (λ l. subst Q (sym l.1) o)
    (λ l. ⊎_elim (λ same. subst Q (sym same) o) (λ w. subst Q (sym w.1) (set l.0)) l.1.1.1) more) left

pub told_put : (P : Files → Files → Type 0) (asked made : Option (List Call)) (before after : Option Files) (key : PageKey) (stamp : Stamp) (answer : Answer) (fault : FileFault)
    → ((old new : Files) → IsPutLeft asked made (Some old) (Some new) key stamp answer fault → P old new) → IsPutLeft asked made before after key stamp answer fault → Told P before after
told_put P asked made None after key stamp answer fault all left = put_keeps (λ t. t ≡ None) asked made None after key stamp answer fault refl refl refl refl left
told_put P asked made (Some old) None key stamp answer fault all left = put_keeps AreTold asked made (Some old) None key stamp answer fault tt tt tt tt left
told_put P asked made (Some old) (Some new) key stamp answer fault all left = all old new left

pub told_drop : (P : Files → Files → Type 0) (asked made : Option (List Call)) (before after : Option Files) (key : PageKey) (fault : FileFault) → ((old new : Files) → IsDropLeft asked made (Some old) (Some new) key fault → P old new)
    → IsDropLeft asked made before after key fault → Told P before after
told_drop P asked made None after key fault all left = drop_keeps (λ t. t ≡ None) asked made None after key fault refl refl refl left
told_drop P asked made (Some old) None key fault all left = drop_keeps AreTold asked made (Some old) None key fault tt tt tt left
told_drop P asked made (Some old) (Some new) key fault all left = all old new left

pub told_touch : (P : Files → Files → Type 0) (before after : Option Files) (folder : Segments) (stamp : Stamp) (fault : FileFault) → ((old new : Files) → IsLeftByFault (Some old) (told_with_stamp (Some old) folder stamp) (Some new) fault → P old new)
    → IsLeftByFault before (told_with_stamp before folder stamp) after fault → Told P before after
told_touch P None after folder stamp fault all left = one_left (λ t. t ≡ None) None None after fault refl refl left
told_touch P (Some old) None folder stamp fault all left = one_left AreTold (Some old) (told_with_stamp (Some old) folder stamp) None fault tt tt left
told_touch P (Some old) (Some new) folder stamp fault all left = all old new left

pub told_open : (P : Files → Files → Type 0) (asked made : Option (List Call)) (before after : Option Files) (fault : OpenFault) → ((old new : Files) → IsOpenLeft asked made (Some old) (Some new) fault → P old new)
    → IsOpenLeft asked made before after fault → Told P before after
told_open P asked made None after fault all left = open_keeps (λ t. t ≡ None) asked made None after fault refl (λ epoch. refl) left
told_open P asked made (Some old) None fault all left = open_keeps AreTold asked made (Some old) None fault tt (λ epoch. tt) left
told_open P asked made (Some old) (Some new) fault all left = all old new left
