-- The calls that put, drop and read pages and stamps, and that begin a session, are such calls.
use Rattle.std.proofs.Common.{◌≡◌, inl, inr, ⊎_elim, ℕ, true, false, List, [], ◌∷◌, Option, Ok, Err, IsTrue, refl}
use Rattle.std.specs.Prelude.{⊤, IfErr, IfOk, OnOk, Result}
use Rattle.sp_base.specs.declared.answer.Answer.{Answer}
use Rattle.sp_outside.specs.Calls.{Call, Get, Put, Remove, told_calls}
use Rattle.sp_outside.specs.Files.{Files}
use Rattle.cover_rules.specs.declared.page.PageKey.{PageKey}
use Rattle.cover_rules.specs.declared.stamp.Stamp.{Stamp}
use Rattle.docroot_format.specs.Names.{epoch_name, is_docroot_name, is_page_file}
use Rattle.docroot_format.specs.Texts.{epoch_text}
use Rattle.docroot_format.specs.declared.fault.FileFault.{FileFault}
use Rattle.cache_files.specs.Epochs.{IsOpenLeft, open_calls}
use Rattle.cache_files.specs.Pages.{IsDropLeft, IsPutLeft, drop_calls, page_body_name, page_head_name, page_head_text, put_calls}
use Rattle.cache_files.specs.declared.epoch.OpenFault.{OpenFault}
use Rattle.docroot_changes.specs.DocrootCalls.{IsCacheFile, MakesDocrootCalls}

-- the two names of a page's files
pub record ArePageFiles (key : PageKey) : Type 0 where
  pub body : IsTrue (is_page_file (page_body_name key))
  pub head : IsTrue (is_page_file (page_head_name key))
  pub body_lies : IsTrue (is_docroot_name (page_body_name key))
  pub head_lies : IsTrue (is_docroot_name (page_head_name key))

pub body_kept : (key : PageKey) → ArePageFiles key → IsCacheFile (page_body_name key) × IsTrue (is_docroot_name (page_body_name key))
body_kept key are = (inr (inl are.body), are.body_lies)

pub head_kept : (key : PageKey) → ArePageFiles key → IsCacheFile (page_head_name key) × IsTrue (is_docroot_name (page_head_name key))
head_kept key are = (inr (inl are.head), are.head_lies)

pub put_made : (result : Result ⊤ FileFault) (asked made : Option (List Call)) (before after : Option Files) (key : PageKey) (stamp : Stamp) (answer : Answer) → ArePageFiles key
    → OnOk result (made ≡ told_calls asked (put_calls key stamp answer)) → IfErr result (IsPutLeft asked made before after key stamp answer) → MakesDocrootCalls asked made
put_made (Ok done) asked made before after key stamp answer are ok err = (put_calls key stamp answer, ((inl are.head, (body_kept key are, (head_kept key are, tt))), ok))
put_made (Err fault) asked made before after key stamp answer are ok err = ⊎_elim (λ none. ([], (tt, none.1.0)))
    (λ begun. ⊎_elim (λ l. (Remove (page_head_name key) false ∷ [], ((inl are.head, tt), l.1.0)))
    (λ more. ⊎_elim
    (λ l. (Remove (page_head_name key) true ∷ Put (page_body_name key) answer.body false ∷ [], ((inl are.head, (body_kept key are, tt)), l.0)))
    (λ l. (Remove (page_head_name key) true ∷ Put (page_body_name key) answer.body true ∷ Put (page_head_name key) (page_head_text stamp answer) false ∷ [], ((inl are.head, (body_kept key are, (head_kept key are, tt))), l.0)))
    more) begun) err

pub drop_made : (result : Result ⊤ FileFault) (asked made : Option (List Call)) (before after : Option Files) (key : PageKey) → ArePageFiles key → OnOk result (made ≡ told_calls asked (drop_calls key))
    → IfErr result (IsDropLeft asked made before after key) → MakesDocrootCalls asked made
drop_made (Ok done) asked made before after key are ok err = (drop_calls key, ((inl are.head, (inl are.body, tt)), ok))
drop_made (Err fault) asked made before after key are ok err = ⊎_elim (λ none. ([], (tt, none.1.0)))
    (λ begun. ⊎_elim (λ l. (Remove (page_head_name key) false ∷ [], ((inl are.head, tt), l.1.0)))
    (λ l. (Remove (page_head_name key) true ∷ Remove (page_body_name key) false ∷ [], ((inl are.head, (inl are.body, tt)), l.1.0))) begun) err

pub open_made : IsTrue (is_docroot_name epoch_name) → (result : Result ℕ OpenFault) (asked made : Option (List Call)) (before after : Option Files) → IfOk result (λ epoch. made ≡ told_calls asked (open_calls epoch))
    → IfErr result (IsOpenLeft asked made before after) → MakesDocrootCalls asked made
open_made lies (Ok epoch) asked made before after ok err = (open_calls epoch, (((inl refl, lies), ((inl refl, lies), tt)), ok))
open_made lies (Err fault) asked made before after ok err = ⊎_elim (λ l. (Get epoch_name false ∷ [], (((inl refl, lies), tt), l.0)))
    (λ more. ⊎_elim (λ l. (Get epoch_name true ∷ [], (((inl refl, lies), tt), l.0)))
    (λ l. (Get epoch_name true ∷ Put epoch_name (epoch_text l.0) false ∷ [], (((inl refl, lies), ((inl refl, lies), tt)), l.1.1.0))) more) err
