use Rattle.std.proofs.Common.{◌≡◌, ℕ, Bool, true, false, cond, List, Option, Some, None, refl, ap, length, nat_eq, option_map}
use Rattle.std.specs.Prelude.{option_and_then}
use Rattle.sp_outside.specs.Files.{file_at}
use Rattle.cover_rules.specs.declared.stamp.Stamp.{Stamp}
use Rattle.docroot_format.specs.Readings.{HeadLine, head_of}
use Rattle.cache_files.specs.declared.head_note.HeadNote.{HeadNote}
use Rattle.cache_files.specs.declared.page.Page.{Page}
use Rattle.cache_files.specs.Pages.{note_of, page_body_name, page_head_name, plain_page, stored_page}
use Rattle.cache_files.proofs.epoch_laws.a_page_has_a_held_stamp.Goals as goal

-- the head under which a page stands has its stamp
abbrev Noted : Option HeadLine → Page → Type 0
Noted line page = (head : HeadNote) × ((option_map note_of line ≡ Some head) × (head.stamp ≡ page.stamp))

stamp_of : (test : Bool) (stamp : Stamp) (kind body : List ℕ) (page : Page) → cond test (Some (plain_page stamp kind body)) None ≡ Some page → stamp ≡ page.stamp
stamp_of true stamp kind body page e = let is : plain_page stamp kind body ≡ page = cc (e) in ap (λ (p : Page). p.stamp) is
stamp_of false stamp kind body page e = absurd cc

noted : (line : Option HeadLine) (found : Option (List ℕ)) (page : Page) → option_and_then (λ head. option_and_then (stored_page head) found) line ≡ Some page → Noted line page
noted None found page e = absurd cc
noted (Some line) None page e = absurd cc
noted (Some line) (Some body) page e =
    (note_of line, (refl, stamp_of (nat_eq (length body) line.size) line.stamp line.kind body page e))

pub returns : goal.returns
returns c = λ files key page is at.
    let found = noted (option_and_then head_of (file_at files (page_head_name key))) (file_at files (page_body_name key)) page at in
    (key, (is, found))
