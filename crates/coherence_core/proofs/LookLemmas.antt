-- What a look at a page leaves noted, and what it answers.
use Rattle.std.proofs.Common.{◌≡◌, ◌&&◌, ◌==◌, ℕ, Bool, true, false, List, [], ◌∷◌, Contains, Option, Some, None, refl, sym, ◌∙◌, ap, subst, if◌then◌else◌, length}
use Rattle.std.proofs.lemmas.Bool.{both_ways}
use Rattle.std.specs.Prelude.{Result, Ok, Err, IfOk, IfSome, option_map}
use Rattle.docroot_format.specs.Faults.{HasFileCause}
use Rattle.docroot_format.specs.declared.fault.FileFault.{FileFault}
use Rattle.docroot_format.specs.declared.fault.FileFault.TheVariants as file_fault
use Rattle.std.specs.FinMap.{empty}
use Rattle.std.specs.Option.{option_and_then}
use Rattle.sp_base.specs.Texts.{Segments, Text}
use Rattle.sp_base.specs.declared.answer.Answer.{Answer}
use Rattle.sp_base.proofs.BoolLemmas.{or_first, or_second}
use Rattle.sp_outside.specs.Calls.{Call}
use Rattle.sp_outside.specs.Files.{Files, file_at}
use Rattle.docroot_changes.specs.DocrootCalls.{MakesDocrootCalls}
use Rattle.cover_rules.specs.Coverage.{covers, deletes, outdates, stat_folder, touched_of}
use Rattle.cover_rules.specs.Pages.{IsPageKey}
use Rattle.cover_rules.specs.declared.invalidation.Invalidation.{Invalidation}
use Rattle.cover_rules.specs.declared.page.PageKey.{PageKey}
use Rattle.cover_rules.specs.declared.stamp.Stamp.{Stamp}
use Rattle.dispatch_rules.specs.Caching.{is_auto}
use Rattle.cache_files.specs.Pages.{head_at, known_at, page_at, page_body_name, plain_page, page_under}
use Rattle.cache_files.specs.declared.head_note.HeadNote.{HeadNote}
use Rattle.cache_files.specs.declared.page.Page.{Page}
use Rattle.stat_files.specs.Outdated.{outdates_page}
use Rattle.stat_files.specs.Stamps.{stamp_at}
use Rattle.page_index.specs.Agreement.{Agrees, HasNoneCovered}
use Rattle.page_index.specs.Notes.{known_page}
use Rattle.page_index.specs.declared.index.PageIndex.{PageIndex}
use Rattle.coherence_core.specs.Facts.{CoverageFacts}
use Rattle.coherence_core.specs.Asking.{is_barred}
use Rattle.coherence_core.specs.Lookups.{IfAgreed, IsLook, NotesHead, NotesPage, NotesStamp, ReadsFiles}
use Rattle.coherence_core.specs.Notes.{AreNotesUncovered, HoldsStill}
use Rattle.coherence_core.specs.Served.{served}
use Rattle.coherence_core.specs.declared.look.Look.{Look}
use Rattle.coherence_core.specs.declared.pending.Pending.{Pending}
use Rattle.coherence_core.proofs.NoteLemmas.{apart_kept}

-- ---- notes, one after another

told_agrees : (told : Option Files) (a b c : PageIndex) → IfSome told (λ files. Agrees a files → Agrees b files) → IfSome told (λ files. Agrees b files → Agrees c files) → IfSome told (λ files. Agrees a files → Agrees c files)
told_agrees None a b c first next = tt
told_agrees (Some files) a b c first next = λ agrees. next (first agrees)

told_stays : (told : Option Files) (a : PageIndex) → IfSome told (λ files. Agrees a files → Agrees a files)
told_stays None a = tt
told_stays (Some files) a = λ agrees. agrees

told_still : (told : Option Files) (a b : PageIndex) → HoldsStill a b → IfSome told (λ files. Agrees a files → Agrees b files)
told_still None a b still = tt
told_still (Some files) a b still = (still files).agree

pub notes_none : (look : Look) (told : Option Files) (notes : PageIndex) → NotesPage look told notes notes
notes_none look told notes = record { agree = told_stays told notes; apart = λ all. all }

pub notes_then : (look : Look) (told : Option Files) (a b c : PageIndex) → NotesPage look told a b → NotesPage look told b c → NotesPage look told a c
notes_then look told a b c first next = record { agree = told_agrees told a b c first.agree next.agree; apart = λ all. next.apart (first.apart all) }

pub notes_still : (look : Look) (told : Option Files) (a b : PageIndex) → HoldsStill a b → NotesPage look told a b
notes_still look told a b still = record { agree = told_still told a b still; apart = apart_kept look.farm.now.level a b ((still empty).apart look.farm.now.level) look.queue.now.items }

-- ---- what is noted of a part

told_this : (told : Option Files) (IsSo : Files → Type 0) (a b : PageIndex) → ((files : Files) → IsSo files → Agrees a files → Agrees b files) → IfSome told IsSo → IfSome told (λ files. Agrees a files → Agrees b files)
told_this None IsSo a b each so = tt
told_this (Some files) IsSo a b each so = each files so

-- what was read, said the other way round
pub stamp_read : (told : Option Files) (folder : Segments) (stamp : Option Stamp) → IfSome told (λ files. stamp ≡ stamp_at files folder) → IfSome told (λ files. stamp_at files folder ≡ stamp)
stamp_read None folder stamp is = tt
stamp_read (Some files) folder stamp is = sym is

pub head_read : (told : Option Files) (key : PageKey) (head : Option HeadNote) → IfSome told (λ files. head ≡ head_at files key) → IfSome told (λ files. head_at files key ≡ head)
head_read None key head is = tt
head_read (Some files) key head is = sym is

-- what covers none of the notes covers none still, where it doesn't cover the page, and no flush of the queue does
free_apart : (level : ℕ) (auto : Bool) (key : PageKey) (a b : PageIndex) → ((inv : Invalidation) → covers level auto inv key ≡ false → HasNoneCovered level inv a → HasNoneCovered level inv b) → (queue : List Pending) → is_barred level auto (Some key) queue ≡ false → AreNotesUncovered level a queue → AreNotesUncovered level b queue
free_apart level auto key a b each [] off all = tt
free_apart level auto key a b each (p ∷ ps) off all = (
  (all.0.0, each p.purge.inv (or_first (covers level auto p.purge.inv key) (is_barred level auto (Some key) ps) off) all.0.1),
  free_apart level auto key a b each ps (or_second (covers level auto p.purge.inv key) (is_barred level auto (Some key) ps) off) all.1,
)

-- the head of a page that no flush covers
pub noted_head : (look : Look) (told : Option Files) (head : Option HeadNote) (a b : PageIndex) → is_barred look.farm.now.level look.auto (Some look.key.now) look.queue.now.items ≡ false → NotesHead look.key.now head a b → IfSome told (λ files. head_at files look.key.now ≡ head) → NotesPage look told a b
noted_head look told head a b free notes so = record {
  agree = told_this told (λ files. head_at files look.key.now ≡ head) a b notes.agree so;
  apart = free_apart look.farm.now.level look.auto look.key.now a b
      (λ inv off none. notes.apart look.farm.now.level inv (λ deleted. both_ways (deletes inv look.key.now) (or_first (deletes inv look.key.now) (outdates look.farm.now.level look.auto inv look.key.now) off) deleted) none)
      look.queue.now.items free;
}

-- the stamp that is asked for a page that no flush covers
pub noted_stamp : (look : Look) → CoverageFacts look.farm.now → IsLook look → look.auto ≡ true → (told : Option Files) (folder : Segments) → folder ≡ stat_folder look.farm.now.level look.key.now → (stamp : Option Stamp) (a b : PageIndex) → is_barred look.farm.now.level look.auto (Some look.key.now) look.queue.now.items ≡ false → NotesStamp folder stamp a b → IfSome told (λ files. stamp_at files folder ≡ stamp) → NotesPage look told a b
noted_stamp look facts is auto told folder folder_is stamp a b free notes so = record {
  agree = told_this told (λ files. stamp_at files folder ≡ stamp) a b notes.agree so;
  apart = free_apart look.farm.now.level look.auto look.key.now a b
      (λ inv off none. notes.apart look.farm.now.level inv (λ touched. both_ways (covers look.farm.now.level (is_auto look.farm.now look.key.now) inv look.key.now)
      (subst (λ (x : Bool). covers look.farm.now.level x inv look.key.now ≡ false) is.auto off)
      (facts.touched inv look.key.now is.page (sym is.auto ∙ auto) (subst (λ (f : Segments). Contains (touched_of look.farm.now.level inv) f) folder_is touched))) none)
      look.queue.now.items free;
}

-- the head, the stamp and the hit of a page
pub notes_with_body : (look : Look) (told : Option Files) (a b c d : PageIndex) (head : HeadNote) → IfAgreed told a (λ files. head_at files look.key.now ≡ Some head) → NotesPage look told a b → NotesPage look told b c → IfSome told (λ files. head_at files look.key.now ≡ Some head → Agrees c files → Agrees d files)
    → ((level : ℕ) (inv : Invalidation) → HasNoneCovered level inv c → HasNoneCovered level inv d) → NotesPage look told a d
notes_with_body look None a b c d head is first next body apart = record { agree = tt; apart = λ all. apart_kept look.farm.now.level c d (apart look.farm.now.level) look.queue.now.items (next.apart (first.apart all)) }
notes_with_body look (Some files) a b c d head is first next body apart = record {
  agree = λ agrees. body (is agrees) (next.agree (first.agree agrees));
  apart = λ all. apart_kept look.farm.now.level c d (apart look.farm.now.level) look.queue.now.items (next.apart (first.apart all));
}

-- ---- what agrees

pub agreed_map : (told : Option Files) (notes : PageIndex) (A B : Files → Type 0) → ((files : Files) → Agrees notes files → A files → B files) → IfAgreed told notes A → IfAgreed told notes B
agreed_map None notes A B each is = tt
agreed_map (Some files) notes A B each is = λ agrees. each files agrees (is agrees)

pub agreed_both : (told : Option Files) (notes : PageIndex) (A B C : Files → Type 0) → ((files : Files) → Agrees notes files → A files → B files → C files) → IfAgreed told notes A → IfAgreed told notes B → IfAgreed told notes C
agreed_both None notes A B C each a b = tt
agreed_both (Some files) notes A B C each a b = λ agrees. each files agrees (a agrees) (b agrees)

-- what is so where later notes agree, is so where earlier ones did
pub agreed_before : (told : Option Files) (old new : PageIndex) (A : Files → Type 0) → IfSome told (λ files. Agrees old files → Agrees new files) → IfAgreed told new A → IfAgreed told old A
agreed_before None old new A kept is = tt
agreed_before (Some files) old new A kept is = λ agrees. is (kept agrees)

pub agreed_of : (told : Option Files) (notes : PageIndex) (A : Files → Type 0) → ((files : Files) → Agrees notes files → A files) → IfAgreed told notes A
agreed_of None notes A each = tt
agreed_of (Some files) notes A each = λ agrees. each files agrees

-- what a page that is noted whole is served as, is what its files are served as
pub known_value : (told : Option Files) (old mid : PageIndex) → HoldsStill old mid → (key : PageKey) → IsPageKey key → (page : Page) → known_page old key ≡ Some page → (auto : Bool) (stat : Files → Option Stamp) (result : Result (Option Answer) FileFault)
    → IfOk result (λ found. IfAgreed told mid (λ files. served auto (stat files) (Some page) ≡ found)) → IfOk result (λ found. IfAgreed told old (λ files. served auto (stat files) (page_at files key) ≡ found))
known_value None old mid still key good page known auto stat (Ok found) is = tt
known_value (Some files) old mid still key good page known auto stat (Ok found) is = λ agrees. ap (served auto (stat files)) (agrees.pages key page good known) ∙ is ((still files).agree agrees)
known_value told old mid still key good page known auto stat (Err fault) is = tt

-- ---- what is served

-- a page with this head, where its stamp is fresh or not
served_none : (auto : Bool) (stat : Option Stamp) (head : HeadNote) (body : Option Text) → (auto && outdates_page stat head.stamp) ≡ true → served auto stat (option_and_then (page_under head) body) ≡ None
served_none auto stat head None on = refl
served_none auto stat head (Some body) on = by_test (length body == head.length)
  where
    by_test : (b : Bool) → served auto stat (if b then Some (plain_page head.stamp head.kind body) else None) ≡ None
    by_test true = ap (λ (x : Bool). if x then None else Some (plain_page head.stamp head.kind body).answer) on
    by_test false = refl

served_some : (auto : Bool) (stat : Option Stamp) (head : HeadNote) (body : Option Text) → (auto && outdates_page stat head.stamp) ≡ false → served auto stat (option_and_then (page_under head) body) ≡ option_map (λ (p : Page). p.answer) (option_and_then (page_under head) body)
served_some auto stat head None off = refl
served_some auto stat head (Some body) off = by_test (length body == head.length)
  where
    by_test : (b : Bool) → served auto stat (if b then Some (plain_page head.stamp head.kind body) else None) ≡ option_map (λ (p : Page). p.answer) (if b then Some (plain_page head.stamp head.kind body) else None)
    by_test true = ap (λ (x : Bool). if x then None else Some (plain_page head.stamp head.kind body).answer) off
    by_test false = refl

module _ (law : (files : Files) (key : PageKey) → page_at files key ≡ option_and_then (known_at files key) (head_at files key)) (files : Files) (key : PageKey) (auto : Bool) (stat : Option Stamp) where
  of_head : (head : Option HeadNote) → head_at files key ≡ head → page_at files key ≡ option_and_then (known_at files key) head
  of_head head is = law files key ∙ ap (option_and_then (known_at files key)) is

  pub headless : head_at files key ≡ None → served auto stat (page_at files key) ≡ None
  headless is = ap (served auto stat) (of_head None is)

  pub outdated : (head : HeadNote) → head_at files key ≡ Some head → (auto && outdates_page stat head.stamp) ≡ true → served auto stat (page_at files key) ≡ None
  outdated head is on = ap (served auto stat) (of_head (Some head) is) ∙ served_none auto stat head (file_at files (page_body_name key)) on

  pub fresh : (head : HeadNote) → head_at files key ≡ Some head → (auto && outdates_page stat head.stamp) ≡ false → (answer : Option Answer) → option_map (λ (p : Page). p.answer) (known_at files key head) ≡ answer → served auto stat (page_at files key) ≡ answer
  fresh head is off answer known = ap (served auto stat) (of_head (Some head) is) ∙ served_some auto stat head (file_at files (page_body_name key)) off ∙ known

-- ---- one reading after another

pub reads_ok : {A B : Type 0} (told after : Option Files) (faults now : ℕ) (asked made : Option (List Call)) (a : A) (b : B) → ReadsFiles told after faults now asked made (Ok a) → ReadsFiles told after faults now asked made (Ok b)
reads_ok told after faults now asked made a b reads = record { files = reads.files; cause = reads.cause; calls = reads.calls }

pub reads_then : {A B : Type 0} → ((before between after : Option (List Call)) → MakesDocrootCalls before between → MakesDocrootCalls between after → MakesDocrootCalls before after)
    → (told mid after : Option Files) (faults between now : ℕ) (asked made last : Option (List Call)) (a : A) (result : Result B FileFault)
    → ReadsFiles told mid faults between asked made (Ok a) → ReadsFiles mid after between now made last result → ReadsFiles told after faults now asked last result
reads_then more told mid after faults between now asked made last a result first next = record {
  files = next.files ∙ first.files;
  cause = subst (λ (n : ℕ). HasFileCause n now result) first.cause next.cause;
  calls = more asked made last first.calls next.calls;
}

pub reads_err : {A B : Type 0} (told after : Option Files) (faults now : ℕ) (asked made : Option (List Call)) (fault : FileFault) → ReadsFiles {T = A} told after faults now asked made (Err fault) → ReadsFiles {T = B} told after faults now asked made (Err fault)
reads_err told after faults now asked made file_fault.Disk reads = record { files = reads.files; cause = reads.cause; calls = reads.calls }
reads_err told after faults now asked made file_fault.NoMemory reads = record { files = reads.files; cause = reads.cause; calls = reads.calls }
