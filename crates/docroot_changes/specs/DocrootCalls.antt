-- Which calls of a disk the cache makes. Each is of one of its files, and none leads out of the document root.
use Rattle.std.specs.Prelude.{◌≡◌, ◌⊎◌, [], Bool, Contains, IsTrue, List, Option, ◌++◌, IfErr, OnOk, Result, ⊤, ◌∷◌, IfOk, true, ℕ}
use Rattle.std.specs.List.{AllByRecursion, list_all}
use Rattle.sp_base.specs.Paths.{is_path, parent_of, pieces}
use Rattle.sp_base.specs.Texts.{Text, Segments}
use Rattle.sp_base.specs.declared.answer.Answer.{Answer}
use Rattle.sp_outside.specs.Calls.{Call, Get, Put, Remove, Names, told_calls, MadeFirst, told_call}
use Rattle.sp_outside.specs.FileNames.{is_inner}
use Rattle.sp_outside.specs.Files.{Files}
use Rattle.cover_rules.specs.declared.invalidation.Invalidation.{Invalidation}
use Rattle.cover_rules.specs.Pages.{IsPageKey}
use Rattle.cover_rules.specs.declared.page.PageKey.{PageKey}
use Rattle.cover_rules.specs.declared.stamp.Stamp.{Stamp}
use Rattle.docroot_format.specs.Deletions.{deleted_prefixes}
use Rattle.docroot_format.specs.Names.{epoch_name, is_docroot_name, is_page_file, is_stat_file, stat_name}
use Rattle.docroot_format.specs.declared.fault.FileFault.{FileFault}
use Rattle.docroot_format.specs.Faults.{IsOneCall}
use Rattle.cache_files.specs.Pages.{IsPutLeft, put_calls, drop_calls, IsDropLeft, page_head_name, page_body_name, IsCallLeft}
use Rattle.cache_files.specs.declared.head_note.HeadNote.{HeadNote}
use Rattle.cache_files.specs.declared.page.Page.{Page}
use Rattle.cache_files.specs.declared.epoch.OpenFault.{OpenFault}
use Rattle.cache_files.specs.Epochs.{open_calls, IsOpenLeft}

-- the name is that of the session's number, of a page's file or of a folder's stamp
abbrev pub IsCacheFile : Text → Type 0
IsCacheFile name = (name ≡ epoch_name) ⊎ (IsTrue (is_page_file name) ⊎ IsTrue (is_stat_file name))

-- what the names begin with that are listed: anything, or what names begin with that the invalidation of a path deletes
abbrev pub IsListedPrefix : Text → Type 0
IsListedPrefix prefix = (prefix ≡ []) ⊎ ((inv : Invalidation) × (IsTrue (is_path inv.handle) × Contains (deleted_prefixes inv) prefix))

-- A call that the cache may make: what is read or written is a file of the cache, whose name lies in the docroot; what is taken away has
-- the name of a page's file or of a folder's stamp.
abbrev pub IsDocrootCall : Call → Type 0
IsDocrootCall (Get name answered) = IsCacheFile name × IsTrue (is_docroot_name name)
IsDocrootCall (Put name bytes answered) = IsCacheFile name × IsTrue (is_docroot_name name)
IsDocrootCall (Remove name answered) = IsTrue (is_page_file name) ⊎ IsTrue (is_stat_file name)
IsDocrootCall (Names prefix after most answered) = IsListedPrefix prefix

-- Between two moments the cache made some calls of a disk, or none, each one that it may make, and no other was made.
abbrev pub MakesDocrootCalls : Option (List Call) → Option (List Call) → Type 0
MakesDocrootCalls before after = (made : List Call) × (AllByRecursion IsDocrootCall made × (after ≡ told_calls before made))

-- each piece of the beginning of names but the one after its last slash leads into a folder, so that it begins with no slash either
abbrev pub leads_in : Text → Bool
leads_in prefix = list_all is_inner (parent_of (pieces prefix))

-- calls that the cache may make stay such calls when more of them follow
abbrev pub CallsAddUp : Option (List Call) → Option (List Call) → Option (List Call) → Type 0
CallsAddUp before between after = MakesDocrootCalls before between → MakesDocrootCalls between after → MakesDocrootCalls before after

-- the calls before stay the first, and those after them are such calls
abbrev pub FollowsByDocrootCalls : List Call → List Call → Type 0
FollowsByDocrootCalls before after = (made : List Call) × (AllByRecursion IsDocrootCall made × (after ≡ before ++ made))

-- a put of a page makes only calls that the cache may make, whatever it answers
abbrev pub PutsTakeDocrootCalls : Type 0
PutsTakeDocrootCalls = (result : Result ⊤ FileFault) (asked made : Option (List Call)) (before after : Option Files) (key : PageKey) (stamp : Stamp) (answer : Answer)
    → IsPageKey key → OnOk result (made ≡ told_calls asked (put_calls key stamp answer))
    → IfErr result (IsPutLeft asked made before after key stamp answer) → MakesDocrootCalls asked made

-- a drop of a page does so too
abbrev pub DropsTakeDocrootCalls : Type 0
DropsTakeDocrootCalls = (result : Result ⊤ FileFault) (asked made : Option (List Call)) (before after : Option Files) (key : PageKey) → IsPageKey key
    → OnOk result (made ≡ told_calls asked (drop_calls key)) → IfErr result (IsDropLeft asked made before after key) → MakesDocrootCalls asked made

-- some of the calls were made that read a page, its head first
abbrev pub ReadsHeadFirst : Option (List Call) → Option (List Call) → PageKey → Type 0
ReadsHeadFirst asked made key = MadeFirst asked made (Get (page_head_name key) ∷ Get (page_body_name key) ∷ [])

-- a reading of a page's head makes only such calls, whatever it answers
abbrev pub HeadReadingsTakeDocrootCalls : Type 0
HeadReadingsTakeDocrootCalls = (result : Result (Option HeadNote) FileFault) (asked made : Option (List Call)) (key : PageKey) → IsPageKey key
    → IfOk result (λ _. made ≡ told_call asked (Get (page_head_name key) true)) → IfErr result (IsCallLeft asked made (Get (page_head_name key))) → MakesDocrootCalls asked made

-- and so does one of the body of a page whose head is known
abbrev pub BodyReadingsTakeDocrootCalls : Type 0
BodyReadingsTakeDocrootCalls = (result : Result (Option Page) FileFault) (asked made : Option (List Call)) (key : PageKey) → IsPageKey key
    → IfOk result (λ _. made ≡ told_call asked (Get (page_body_name key) true)) → IfErr result (IsCallLeft asked made (Get (page_body_name key))) → MakesDocrootCalls asked made

-- a touch of a folder makes only such calls, whatever it answers
abbrev pub TouchesTakeDocrootCalls : Type 0
TouchesTakeDocrootCalls = (result : Result ⊤ FileFault) (asked made : Option (List Call)) (folder : Segments) (bytes : Text) → IsTrue (is_path folder)
    → IsOneCall asked made (Put (stat_name folder) bytes) result → MakesDocrootCalls asked made

-- and so does a reading of its stamp
abbrev pub StampReadingsTakeDocrootCalls : Type 0
StampReadingsTakeDocrootCalls = (result : Result (Option Stamp) FileFault) (asked made : Option (List Call)) (folder : Segments) → IsTrue (is_path folder)
    → IsOneCall asked made (Get (stat_name folder)) result → MakesDocrootCalls asked made

-- an opening makes only such calls, whatever it answers
abbrev pub OpeningsTakeDocrootCalls : Type 0
OpeningsTakeDocrootCalls = (result : Result ℕ OpenFault) (asked made : Option (List Call)) (before after : Option Files)
    → IfOk result (λ epoch. made ≡ told_calls asked (open_calls epoch)) → IfErr result (IsOpenLeft asked made before after) → MakesDocrootCalls asked made
