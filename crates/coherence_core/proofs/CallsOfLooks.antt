-- The files that a look at a page reads, part after part.
use Rattle.std.proofs.Common.{◌≡◌, ◌⊎◌, ◌++◌, append-nil, inl, inr, ⊎_elim, Bool, true, false, List, [], ◌∷◌, Option, Some, None, refl, sym, ◌∙◌, ap, subst, if◌then◌else◌, map}
use Rattle.std.specs.Prelude.{⊤, ◌&&◌, Result, Ok, Err, option_map}
use Rattle.std.specs.Option.{option_and_then}
use Rattle.sp_base.specs.Texts.{Segments, Text}
use Rattle.sp_outside.specs.Calls.{Call, Get, MadeFirst, told_call, told_calls}
use Rattle.sp_outside.specs.Files.{Files}
use Rattle.any_config.specs.declared.farm.Farm.{Farm}
use Rattle.cover_rules.specs.Coverage.{stat_folder}
use Rattle.cover_rules.specs.Pages.{IsPageKey}
use Rattle.cover_rules.specs.declared.page.PageKey.{PageKey}
use Rattle.cover_rules.specs.declared.stamp.Stamp.{Stamp}
use Rattle.dispatch_rules.specs.Caching.{is_auto}
use Rattle.docroot_format.specs.Faults.{IsOneCall}
use Rattle.docroot_format.specs.Names.{stat_name}
use Rattle.docroot_format.specs.declared.fault.FileFault.{FileFault}
use Rattle.docroot_format.specs.declared.fault.FileFault.TheVariants as file_fault
use Rattle.cache_files.specs.Pages.{IsCallLeft, head_at, known_at, page_at, page_body_name, page_head_name}
use Rattle.cache_files.specs.declared.head_note.HeadNote.{HeadNote}
use Rattle.cache_files.specs.declared.page.Page.{Page}
use Rattle.page_index.specs.Notes.{known_page, page_from, page_noted, stamp_noted}
use Rattle.page_index.specs.declared.index.PageIndex.{PageIndex}
use Rattle.page_index.specs.declared.page_note.PageNote.{PageNote}
use Rattle.stat_files.specs.Outdated.{is_outdated, outdates_page}
use Rattle.coherence_core.specs.LookCalls.{AreRead, FailsAt, ReadsPage, body_file, ended_as, files_read, files_under, gets, head_file, stat_file, unless_noted}
use Rattle.coherence_core.specs.Lookups.{IfAgreed, IsLook, NotesPage, stat_asked}
use Rattle.coherence_core.specs.Requests.{is_got_out_of_memory}
use Rattle.coherence_core.specs.declared.answers.Requested.{Requested}
use Rattle.coherence_core.specs.declared.look.Look.{Look}
use Rattle.coherence_core.proofs.LookLemmas.{agreed_before, agreed_both, agreed_map, agreed_of}

abbrev Told : Type 0
Told = Option (List Call)

abbrev all_got : List Text → List Call
all_got names = map (λ name. Get name true) names

-- ---- one call

-- a reading by one call failed
pub err_read : (fault : FileFault) (asked made : Told) (name : Text) → IsCallLeft asked made (Get name) fault → AreRead {T = ⊤} asked made (name ∷ []) (Err fault)
err_read file_fault.Disk asked made name err = ⊎_elim (λ none. absurd (cc none.0)) (λ more. ⊎_elim (λ failed. inl failed) (λ done. absurd (cc done.0)) more) err
err_read file_fault.NoMemory asked made name err = ⊎_elim (λ none. inl none.1) (λ more. ⊎_elim (λ failed. inr (inl failed)) (λ done. inr (inr done.1)) more) err

-- the same of a call that tells no more
pub err_read_once : (fault : FileFault) (asked made : Told) (name : Text) → IsOneCall {T = ⊤} asked made (Get name) (Err fault) → AreRead {T = ⊤} asked made (name ∷ []) (Err fault)
err_read_once file_fault.Disk asked made name one = inl one
err_read_once file_fault.NoMemory asked made name one = ⊎_elim (λ none. inl none) (λ failed. inr (inl failed)) one

-- ---- calls after calls

-- what is so of the calls after a reading that was answered, is so of them with it
then_any : (P : Told → List Text → Type 0) → ((t : Told) (x : Text) (ys : List Text) → P (told_call t (Get x true)) ys → P t (x ∷ ys)) → (xs ys : List Text) (asked mid : Told) → mid ≡ told_calls asked (all_got xs) → P mid ys → P asked (xs ++ ys)
then_any P step [] ys asked mid is p = subst (λ (t : Told). P t ys) is p
then_any P step (x ∷ xs) ys asked mid is p = step asked x (xs ++ ys) (then_any P step xs ys (told_call asked (Get x true)) mid is p)

none_first : (made : Told) (xs : List Text) → MadeFirst made made (gets xs)
none_first made [] = refl
none_first made (x ∷ xs) = inl refl

first_then : (xs ys : List Text) (asked mid made : Told) → mid ≡ told_calls asked (all_got xs) → MadeFirst mid made (gets ys) → MadeFirst asked made (gets (xs ++ ys))
first_then xs ys asked mid made is first = then_any (λ t ns. MadeFirst t made (gets ns)) (λ t x ns p. inr (inr p)) xs ys asked mid is first

first_more : (xs ys : List Text) (asked made : Told) → MadeFirst asked made (gets xs) → MadeFirst asked made (gets (xs ++ ys))
first_more [] ys asked made is = subst (λ (t : Told). MadeFirst t made (gets ys)) is (none_first made ys)
first_more (x ∷ xs) ys asked made is = ⊎_elim (λ none. inl none) (λ more. ⊎_elim (λ failed. inr (inl failed)) (λ later. inr (inr (first_more xs ys (told_call asked (Get x true)) made later))) more) is

fails_more : (xs ys : List Text) (asked made : Told) → FailsAt asked made xs → FailsAt asked made (xs ++ ys)
fails_more [] ys asked made is = absurd is
fails_more (x ∷ xs) ys asked made is = ⊎_elim (λ failed. inl failed) (λ later. inr (fails_more xs ys (told_call asked (Get x true)) made later)) is

fails_first : (xs : List Text) (asked made : Told) → FailsAt asked made xs → MadeFirst asked made (gets xs)
fails_first [] asked made is = absurd is
fails_first (x ∷ xs) asked made is = ⊎_elim (λ failed. inr (inl failed)) (λ later. inr (inr (fails_first xs (told_call asked (Get x true)) made later))) is

-- one reading after another
pub read_then : {B : Type 0} (result : Result B FileFault) (xs ys : List Text) (asked mid made : Told) → mid ≡ told_calls asked (all_got xs) → AreRead mid made ys result → AreRead asked made (xs ++ ys) result
read_then (Ok b) xs ys asked mid made first next = then_any (λ t ns. made ≡ told_calls t (all_got ns)) (λ t x ns p. p) xs ys asked mid first next
read_then (Err file_fault.Disk) xs ys asked mid made first next = then_any (λ t ns. FailsAt t made ns) (λ t x ns p. inr p) xs ys asked mid first next
read_then (Err file_fault.NoMemory) xs ys asked mid made first next = first_then xs ys asked mid made first next

-- a reading that failed is one of more files
pub read_more : (fault : FileFault) (xs ys : List Text) (asked made : Told) → AreRead {T = ⊤} asked made xs (Err fault) → AreRead {T = ⊤} asked made (xs ++ ys) (Err fault)
read_more file_fault.Disk xs ys asked made is = fails_more xs ys asked made is
read_more file_fault.NoMemory xs ys asked made is = first_more xs ys asked made is

-- the first of them were read, and maybe of more
pub read_first : {A : Type 0} (result : Result A FileFault) (xs ys : List Text) (asked made : Told) → AreRead asked made xs result → MadeFirst asked made (gets (xs ++ ys))
read_first (Ok a) xs ys asked made is = first_then xs ys asked made made is (none_first made ys)
read_first (Err file_fault.Disk) xs ys asked made is = first_more xs ys asked made (fails_first xs asked made is)
read_first (Err file_fault.NoMemory) xs ys asked made is = first_more xs ys asked made is

-- ---- what is noted

-- the .stat file is asked for by the notes before, where these have the same stamps
pub stat_as_before : (old new : PageIndex) (farm : Farm) (key : PageKey) → ((folder : Segments) → stamp_noted new folder ≡ stamp_noted old folder) → stat_file new farm key ≡ stat_file old farm key
stat_as_before old new farm key same = ap (λ (o : Option (Option Stamp)). if is_auto farm key then unless_noted o (stat_name (stat_folder farm.level key)) else []) (same (stat_folder farm.level key))

pub stat_before : {A : Type 0} (result : Result A FileFault) (old new : PageIndex) (farm : Farm) (key : PageKey) (asked made : Told) → ((folder : Segments) → stamp_noted new folder ≡ stamp_noted old folder) → AreRead asked made (stat_file new farm key) result → AreRead asked made (stat_file old farm key) result
stat_before result old new farm key asked made same is = subst (λ (ns : List Text). AreRead asked made ns result) (stat_as_before old new farm key same) is

pub unknown_body : (notes : PageIndex) (key : PageKey) → known_page notes key ≡ None → body_file notes key ≡ page_body_name key ∷ []
unknown_body notes key is = ap (λ (o : Option Page). unless_noted o (page_body_name key)) is

known_body : (notes : PageIndex) (key : PageKey) (page : Page) → known_page notes key ≡ Some page → body_file notes key ≡ []
known_body notes key page is = ap (λ (o : Option Page). unless_noted o (page_body_name key)) is

known_head : (notes : PageIndex) (key : PageKey) (page : Page) → known_page notes key ≡ Some page → head_file notes key ≡ []
known_head notes key page is = of_note (page_noted notes key) is
  where
    of_note : (o : Option PageNote) → option_and_then page_from o ≡ Some page → unless_noted (option_map (λ (note : PageNote). note.head) o) (page_head_name key) ≡ []
    of_note None e = absurd (cc e)
    of_note (Some note) e = refl

pub read_all : {A : Type 0} (result : Result A FileFault) (xs : List Text) (asked made : Told) → AreRead asked made xs result → MadeFirst asked made (gets xs)
read_all result xs asked made is = subst (λ (ns : List Text). MadeFirst asked made (gets ns)) (append-nil xs) (read_first result xs [] asked made is)

none_either : (b : Bool) (xs : List Text) → xs ≡ [] → (if b then [] else xs) ≡ []
none_either true xs is = refl
none_either false xs is = is

-- ---- a look

-- the head and the body are noted
pub look_known : {A : Type 0} (law : (files : Files) (key : PageKey) → page_at files key ≡ option_and_then (known_at files key) (head_at files key)) (told : Option Files) (asked made : Told) (notes : PageIndex) (farm : Farm) (key : PageKey) → IsPageKey key → (page : Page) → known_page notes key ≡ Some page
    → (result : Result A FileFault) → AreRead asked made (stat_file notes farm key) result → ReadsPage told asked made notes farm key result
look_known law told asked made notes farm key good page known result reads = record {
  first = subst (λ (hs : List Text). MadeFirst asked made (gets (hs ++ (stat_file notes farm key ++ body_file notes key)))) (sym (known_head notes key page known)) (read_first result (stat_file notes farm key) (body_file notes key) asked made reads);
  read = agreed_of told notes (λ files. AreRead asked made (files_read notes farm key files) result)
      (λ files agrees. subst (λ (hs : List Text). AreRead asked made (hs ++ files_under notes farm key files (head_at files key)) result) (sym (known_head notes key page known))
      (of_head files (head_at files key) (sym (law files key) ∙ agrees.pages key page good known)));
}
  where
    of_head : (files : Files) (o : Option HeadNote) → option_and_then (known_at files key) o ≡ Some page → AreRead asked made (files_under notes farm key files o) result
    of_head files None e = absurd (cc e)
    of_head files (Some head) e = subst (λ (ns : List Text). AreRead asked made (stat_file notes farm key ++ ns) result)
        (sym (none_either (is_outdated farm.level (is_auto farm key) files key head.stamp) (body_file notes key) (known_body notes key page known)))
        (subst (λ (ns : List Text). AreRead asked made ns result) (sym (append-nil (stat_file notes farm key))) reads)

-- the head couldn't be read
pub look_headfault : {B : Type 0} (told : Option Files) (asked made : Told) (notes : PageIndex) (farm : Farm) (key : PageKey) (fault : FileFault) → AreRead {T = ⊤} asked made (head_file notes key) (Err fault) → ReadsPage {T = B} told asked made notes farm key (Err fault)
look_headfault {B} told asked made notes farm key fault reads = record {
  first = read_first {A = ⊤} (Err fault) (head_file notes key) (stat_file notes farm key ++ body_file notes key) asked made reads;
  read = agreed_of told notes (λ files. AreRead {T = B} asked made (files_read notes farm key files) (Err fault)) (λ files agrees. read_more fault (head_file notes key) (files_under notes farm key files (head_at files key)) asked made reads);
}

-- there is no head
pub look_headless : {B : Type 0} (told : Option Files) (asked made : Told) (notes : PageIndex) (farm : Farm) (key : PageKey) (b : B) → made ≡ told_calls asked (all_got (head_file notes key)) → IfAgreed told notes (λ files. head_at files key ≡ None) → ReadsPage told asked made notes farm key (Ok b)
look_headless told asked made notes farm key b reads none = record {
  first = read_first (Ok b) (head_file notes key) (stat_file notes farm key ++ body_file notes key) asked made reads;
  read = agreed_map told notes (λ files. head_at files key ≡ None) (λ files. AreRead asked made (files_read notes farm key files) (Ok b))
      (λ files agrees is. subst (λ (o : Option HeadNote). AreRead asked made (head_file notes key ++ files_under notes farm key files o) (Ok b)) (sym is)
      (subst (λ (ns : List Text). AreRead asked made ns (Ok b)) (sym (append-nil (head_file notes key))) reads)) none;
}

-- what is read under a head
under_head : {B : Type 0} (told : Option Files) (asked mid made : Told) (notes : PageIndex) (farm : Farm) (key : PageKey) (head : HeadNote) (result : Result B FileFault) → mid ≡ told_calls asked (all_got (head_file notes key)) → IfAgreed told notes (λ files. head_at files key ≡ Some head)
    → MadeFirst mid made (gets (stat_file notes farm key ++ body_file notes key)) → IfAgreed told notes (λ files. AreRead mid made (files_under notes farm key files (Some head)) result) → ReadsPage told asked made notes farm key result
under_head told asked mid made notes farm key head result reads there first read = record {
  first = first_then (head_file notes key) (stat_file notes farm key ++ body_file notes key) asked mid made reads first;
  read = agreed_both told notes (λ files. head_at files key ≡ Some head) (λ files. AreRead mid made (files_under notes farm key files (Some head)) result) (λ files. AreRead asked made (files_read notes farm key files) result)
      (λ files agrees is under. subst (λ (o : Option HeadNote). AreRead asked made (head_file notes key ++ files_under notes farm key files o) result) (sym is)
      (read_then result (head_file notes key) (files_under notes farm key files (Some head)) asked mid made reads under)) there read;
}

-- what a look knows of the stamp, said of the notes before it
pub outdated_before : (look : Look) → IsLook look → (told mid : Option Files) → mid ≡ told → (old new : PageIndex) → NotesPage look told old new → (head : HeadNote) (is : Bool) → IfAgreed mid new (λ files. (look.auto && outdates_page (stat_asked look files) head.stamp) ≡ is)
    → IfAgreed told old (λ files. is_outdated look.farm.now.level (is_auto look.farm.now look.key.now) files look.key.now head.stamp ≡ is)
outdated_before look looks told mid same old new notes head is outdated = subst (λ (auto : Bool). IfAgreed told old (λ files. is_outdated look.farm.now.level auto files look.key.now head.stamp ≡ is)) looks.auto
    (agreed_before told old new (λ files. is_outdated look.farm.now.level look.auto files look.key.now head.stamp ≡ is) notes.agree
    (subst (λ (t : Option Files). IfAgreed t new (λ files. (look.auto && outdates_page (stat_asked look files) head.stamp) ≡ is)) same outdated))

-- the .stat file couldn't be read
pub look_statfault : {C : Type 0} (told : Option Files) (asked mid made : Told) (notes : PageIndex) (farm : Farm) (key : PageKey) (head : HeadNote) (fault : FileFault) → mid ≡ told_calls asked (all_got (head_file notes key)) → IfAgreed told notes (λ files. head_at files key ≡ Some head)
    → AreRead {T = ⊤} mid made (stat_file notes farm key) (Err fault) → ReadsPage {T = C} told asked made notes farm key (Err fault)
look_statfault {C} told asked mid made notes farm key head fault reads there stat = under_head {B = C} told asked mid made notes farm key head (Err fault) reads there
    (read_first {A = ⊤} (Err fault) (stat_file notes farm key) (body_file notes key) mid made stat)
    (agreed_of told notes (λ files. AreRead {T = C} mid made (files_under notes farm key files (Some head)) (Err fault))
    (λ files agrees. read_more fault (stat_file notes farm key) (if is_outdated farm.level (is_auto farm key) files key head.stamp then [] else body_file notes key) mid made stat))

-- the page is outdated
pub look_stale : {C : Type 0} (told : Option Files) (asked mid made : Told) (notes : PageIndex) (farm : Farm) (key : PageKey) (head : HeadNote) (c : C) → mid ≡ told_calls asked (all_got (head_file notes key)) → IfAgreed told notes (λ files. head_at files key ≡ Some head)
    → made ≡ told_calls mid (all_got (stat_file notes farm key)) → IfAgreed told notes (λ files. is_outdated farm.level (is_auto farm key) files key head.stamp ≡ true) → ReadsPage told asked made notes farm key (Ok c)
look_stale told asked mid made notes farm key head c reads there stat outdated = under_head told asked mid made notes farm key head (Ok c) reads there
    (read_first (Ok c) (stat_file notes farm key) (body_file notes key) mid made stat)
    (agreed_map told notes (λ files. is_outdated farm.level (is_auto farm key) files key head.stamp ≡ true) (λ files. AreRead mid made (files_under notes farm key files (Some head)) (Ok c))
    (λ files agrees is. subst (λ (t : Bool). AreRead mid made (stat_file notes farm key ++ (if t then [] else body_file notes key)) (Ok c)) (sym is)
    (subst (λ (ns : List Text). AreRead mid made ns (Ok c)) (sym (append-nil (stat_file notes farm key))) stat)) outdated)

-- the body was read, or couldn't be
pub look_body : {C : Type 0} (told : Option Files) (asked mid between made : Told) (notes : PageIndex) (farm : Farm) (key : PageKey) (head : HeadNote) (result : Result C FileFault) → mid ≡ told_calls asked (all_got (head_file notes key)) → IfAgreed told notes (λ files. head_at files key ≡ Some head)
    → between ≡ told_calls mid (all_got (stat_file notes farm key)) → IfAgreed told notes (λ files. is_outdated farm.level (is_auto farm key) files key head.stamp ≡ false) → known_page notes key ≡ None → AreRead between made (page_body_name key ∷ []) result → ReadsPage told asked made notes farm key result
look_body told asked mid between made notes farm key head result reads there stat fresh unknown body =
    let whole = read_then result (stat_file notes farm key) (body_file notes key) mid between made stat (subst (λ (ns : List Text). AreRead between made ns result) (sym (unknown_body notes key unknown)) body) in
    under_head told asked mid made notes farm key head result reads there
    (read_all result (stat_file notes farm key ++ body_file notes key) mid made whole)
    (agreed_map told notes (λ files. is_outdated farm.level (is_auto farm key) files key head.stamp ≡ false) (λ files. AreRead mid made (files_under notes farm key files (Some head)) result)
    (λ files agrees is. subst (λ (t : Bool). AreRead mid made (stat_file notes farm key ++ (if t then [] else body_file notes key)) result) (sym is) whole) fresh)

-- ---- a request

-- what a request ended as, where the disk didn't fail
as_other : (requested : Requested) → requested.disk_failed ≡ false → ended_as requested ≡ (if is_got_out_of_memory requested.got then Err file_fault.NoMemory else Ok (tt {0}))
as_other requested failed = ap (λ (b : Bool). if b then Err file_fault.Disk else (if is_got_out_of_memory requested.got then Err file_fault.NoMemory else Ok (tt {0}))) failed

-- a look that was answered, as the request tells it
pub ended_ok : {A : Type 0} (told : Option Files) (asked made : Told) (notes : PageIndex) (farm : Farm) (key : PageKey) (a : A) (requested : Requested) → requested.disk_failed ≡ false → ReadsPage told asked made notes farm key (Ok a) → ReadsPage told asked made notes farm key (ended_as requested)
ended_ok told asked made notes farm key a requested failed reads = subst (λ (r : Result ⊤ FileFault). ReadsPage told asked made notes farm key r) (sym (as_other requested failed)) (by_test (is_got_out_of_memory requested.got))
  where
    by_test : (b : Bool) → ReadsPage {T = ⊤} told asked made notes farm key (if b then Err file_fault.NoMemory else Ok (tt {0}))
    by_test true = record {
      first = reads.first;
      read = agreed_map told notes (λ files. AreRead asked made (files_read notes farm key files) (Ok a)) (λ files. AreRead {T = ⊤} asked made (files_read notes farm key files) (Err file_fault.NoMemory)) (λ files agrees is. read_all (Ok a) (files_read notes farm key files) asked made is) reads.read;
    }
    by_test false = record {
      first = reads.first;
      read = agreed_map told notes (λ files. AreRead asked made (files_read notes farm key files) (Ok a)) (λ files. AreRead {T = ⊤} asked made (files_read notes farm key files) (Ok (tt {0}))) (λ files agrees is. is) reads.read;
    }
