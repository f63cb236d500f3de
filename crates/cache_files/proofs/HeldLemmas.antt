-- A change of one file of the docroot leaves no stamp later than the session, where the file isn't one of a later stamp.
use Rattle.std.proofs.Common.{◌≡◌, ◌≢◌, ◌≤◌, inl, inr, ⊎_elim, ℕ, List, Some, None, sym, ◌∙◌, ap, subst, arith, option_map}
use Rattle.std.proofs.lemmas.Option.{none-some, same_Some}
use Rattle.std.specs.Prelude.{option_and_then, unwrap_or}
use Rattle.std.specs.List.{AllByRecursion}
use Rattle.sp_base.specs.Bytes.{AreBytes}
use Rattle.sp_outside.specs.Files.{Files, file_at, with_file, without_file}
use Rattle.sp_base.specs.declared.answer.Answer.{Answer}
use Rattle.sp_base.proofs.TextLemmas.{one_text_or_two}
use Rattle.cover_rules.specs.Pages.{IsPageKey}
use Rattle.cover_rules.specs.declared.page.PageKey.{PageKey}
use Rattle.cover_rules.specs.declared.stamp.Stamp.{Stamp}
use Rattle.docroot_format.specs.Names.{epoch_name, stat_name}
use Rattle.docroot_format.specs.Readings.{HeadLine, epoch_of, head_of, stat_of}
use Rattle.cache_files.specs.declared.head_note.HeadNote.{HeadNote}
use Rattle.cache_files.specs.Epochs.{epoch_held}
use Rattle.cache_files.specs.HeldStamps.{HasNoLaterStamp, IsFolderStamp, IsPageStamp}
use Rattle.cache_files.specs.Pages.{files_with_page, files_without_page, head_at, note_of, page_body_name, page_head_name, page_head_text}
use Rattle.cache_files.proofs.PageFiles.{FileLaws, NameLaws, head_from}
use Rattle.cache_files.proofs.StoppedChanges.{bare_files, half_files}

-- only the file of this name may have changed
abbrev pub Beside : Files → Files → List ℕ → Type 0
Beside files new name = (other : List ℕ) → other ≢ name → file_at new other ≡ file_at files other

abbrev pub NoHead : List ℕ → Type 0
NoHead name = (key : PageKey) → IsPageKey key → page_head_name key ≢ name

abbrev pub NoStat : List ℕ → Type 0
NoStat name = (folder : List (List ℕ)) → AllByRecursion AreBytes folder → stat_name folder ≢ name

-- a head of this name has no later stamp, nor has a .stat file
abbrev HeadsKept : Files → List ℕ → Type 0
HeadsKept new name = (key : PageKey) → IsPageKey key → page_head_name key ≡ name → (head : HeadNote) → head_at new key ≡ Some head → head.stamp.epoch ≤ epoch_held new

abbrev StatsKept : Files → List ℕ → Type 0
StatsKept new name = (folder : List (List ℕ)) → AllByRecursion AreBytes folder → stat_name folder ≡ name → (stamp : Stamp) → option_and_then stat_of (file_at new (stat_name folder)) ≡ Some stamp
    → stamp.epoch ≤ epoch_held new

keeps_page : (files new : Files) (name : List ℕ) (stamp : Stamp) → Beside files new name → HeadsKept new name → epoch_held files ≤ epoch_held new → HasNoLaterStamp files → IsPageStamp new stamp → stamp.epoch ≤ epoch_held new
keeps_page files new name stamp beside heads rises before held =
    let key = held.0 in
    let page = held.1.0 in
    let head = held.1.1.0 in
    let at = held.1.1.1.0 in
    let is = held.1.1.1.1 in
    ⊎_elim (λ e. subst (λ (s : Stamp). s.epoch ≤ epoch_held new) is (heads key page e head at))
    (λ differ. let old : head_at files key ≡ Some head = ap head_from (sym (beside (page_head_name key) differ)) ∙ at in
    omega (arith, rises, before stamp (inl (key, (page, (head, (old, is)))))))
    (one_text_or_two (page_head_name key) name)

keeps_folder : (files new : Files) (name : List ℕ) (stamp : Stamp) → Beside files new name → StatsKept new name → epoch_held files ≤ epoch_held new → HasNoLaterStamp files → IsFolderStamp new stamp → stamp.epoch ≤ epoch_held new
keeps_folder files new name stamp beside stats rises before held =
    let folder = held.0 in
    let path = held.1.0 in
    let text = held.1.1.0 in
    let at = held.1.1.1 in
    ⊎_elim (λ e. stats folder text e stamp at)
    (λ differ. omega (arith, rises, before stamp (inr (folder, (path, (text, ap (option_and_then stat_of) (sym (beside (stat_name folder) differ)) ∙ at))))))
    (one_text_or_two (stat_name folder) name)

keeps : (files new : Files) (name : List ℕ) → Beside files new name → HeadsKept new name → StatsKept new name → epoch_held files ≤ epoch_held new → HasNoLaterStamp files → HasNoLaterStamp new
keeps files new name beside heads stats rises before stamp held =
    ⊎_elim (λ page. keeps_page files new name stamp beside heads rises before page) (λ folder. keeps_folder files new name stamp beside stats rises before folder) held

pub same_epoch : (files new : Files) (name : List ℕ) → Beside files new name → epoch_name ≢ name → epoch_held new ≡ epoch_held files
same_epoch files new name beside differ = ap (λ found. unwrap_or (option_and_then epoch_of found) 0) (beside epoch_name differ)

same_up_to : (m n : ℕ) → n ≡ m → m ≤ n
same_up_to m n e = omega (arith, e)

rises_by : (files new : Files) (name : List ℕ) → Beside files new name → epoch_name ≢ name → epoch_held files ≤ epoch_held new
rises_by files new name beside differ = same_up_to (epoch_held files) (epoch_held new) (same_epoch files new name beside differ)

pub removed : (files new : Files) (name : List ℕ) → Beside files new name → file_at new name ≡ None → epoch_name ≢ name → HasNoLaterStamp files → HasNoLaterStamp new
removed files new name beside none differ before =
    keeps files new name beside
    (λ key page e head at. absurd (none-some head (sym (ap (λ n. head_from (file_at new n)) e ∙ ap head_from none) ∙ at)))
    (λ folder text e stamp at. absurd (none-some stamp (sym (ap (λ n. option_and_then stat_of (file_at new n)) e ∙ ap (option_and_then stat_of) none) ∙ at)))
    (rises_by files new name beside differ) before

pub other_file : (files new : Files) (name : List ℕ) → Beside files new name → NoHead name → NoStat name → epoch_held files ≤ epoch_held new → HasNoLaterStamp files → HasNoLaterStamp new
other_file files new name beside heads stats rises before =
    keeps files new name beside (λ key page e. absurd (heads key page e)) (λ folder text e. absurd (stats folder text e)) rises before

pub body_file : (files new : Files) (name : List ℕ) → Beside files new name → NoHead name → NoStat name → epoch_name ≢ name → HasNoLaterStamp files → HasNoLaterStamp new
body_file files new name beside heads stats differ = other_file files new name beside heads stats (rises_by files new name beside differ)

noted : (line : HeadLine) (head : HeadNote) → Some (note_of line) ≡ Some head → note_of line ≡ head
noted line head e = cc (e)

pub head_file : (files new : Files) (name text : List ℕ) (line : HeadLine) → Beside files new name → file_at new name ≡ Some text → head_of text ≡ Some line → line.stamp.epoch ≤ epoch_held files → NoStat name → epoch_name ≢ name
    → HasNoLaterStamp files → HasNoLaterStamp new
head_file files new name text line beside found read small stats differ before =
    let rises = rises_by files new name beside differ in
    keeps files new name beside
    (λ key page e head at.
    let is : Some (note_of line) ≡ Some head = sym (ap (λ n. head_from (file_at new n)) e ∙ ap head_from found ∙ ap (option_map note_of) read) ∙ at in
    subst (λ (h : HeadNote). h.stamp.epoch ≤ epoch_held new) (noted line head is) (omega (arith, small, rises)))
    (λ folder texts e. absurd (stats folder texts e)) rises before

pub stat_file : (files new : Files) (name text : List ℕ) (stamp : Stamp) → Beside files new name → file_at new name ≡ Some text → stat_of text ≡ Some stamp → stamp.epoch ≤ epoch_held files → NoHead name → epoch_name ≢ name
    → HasNoLaterStamp files → HasNoLaterStamp new
stat_file files new name text stamp beside found read small heads differ before =
    let rises = rises_by files new name beside differ in
    keeps files new name beside (λ key page e. absurd (heads key page e))
    (λ folder texts e other at.
    let is : Some stamp ≡ Some other = sym (ap (λ n. option_and_then stat_of (file_at new n)) e ∙ ap (option_and_then stat_of) found ∙ read) ∙ at in
    subst (λ (s : Stamp). s.epoch ≤ epoch_held new) (same_Some stamp other is) (omega (arith, small, rises)))
    rises before

-- ---- the steps of a put and of a drop

pub record PutStates (files : Files) (key : PageKey) (stamp : Stamp) (answer : Answer) : Type 0 where
  pub bare : HasNoLaterStamp (bare_files files key)
  pub half : HasNoLaterStamp (half_files files key answer.body)
  pub whole : HasNoLaterStamp (files_with_page files key stamp answer)

pub bare_state : FileLaws → (files : Files) (name : List ℕ) → epoch_name ≢ name → HasNoLaterStamp files → HasNoLaterStamp (without_file files name)
bare_state laws files name differ before = removed files (without_file files name) name (laws.left files name) (laws.removed files name) differ before

pub put_states : FileLaws → (files : Files) (key : PageKey) (stamp : Stamp) (answer : Answer) (line : HeadLine) → NameLaws key → head_of (page_head_text stamp answer) ≡ Some line → line.stamp.epoch ≤ epoch_held files
    → HasNoLaterStamp files → PutStates files key stamp answer
put_states laws files key stamp answer line names read small before =
    let head = page_head_name key in
    let body = page_body_name key in
    let bytes = answer.body in
    let text = page_head_text stamp answer in
    let bare = bare_files files key in
    let half = half_files files key bytes in
    let one = bare_state laws files head names.epoch_head before in
    let two = body_file bare half body (λ other. laws.beside bare body other bytes) names.head names.stat_body names.epoch_body one in
    let first : epoch_held bare ≡ epoch_held files = same_epoch files bare head (laws.left files head) names.epoch_head in
    let second : epoch_held half ≡ epoch_held bare = same_epoch bare half body (λ other. laws.beside bare body other bytes) names.epoch_body in
    record {
      bare = one;
      half = two;
      whole = head_file half (with_file half head text) head text line (λ other. laws.beside half head other text) (laws.written half head text) read (omega (arith, small, first, second)) names.stat_head names.epoch_head two;
    }

pub drop_states : FileLaws → (files : Files) (key : PageKey) → NameLaws key → HasNoLaterStamp files → HasNoLaterStamp (bare_files files key) × HasNoLaterStamp (files_without_page files key)
drop_states laws files key names before =
    let one = bare_state laws files (page_head_name key) names.epoch_head before in
    (one, bare_state laws (bare_files files key) (page_body_name key) names.epoch_body one)
