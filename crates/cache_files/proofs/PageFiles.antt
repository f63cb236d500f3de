-- A page by its two files.
use Rattle.std.proofs.Common.{◌≡◌, ◌≢◌, ◌++◌, ℕ, List, Option, Some, None, length, codes, refl, ◌∙◌, ap, arith, option_map}
use Rattle.std.specs.Prelude.{option_and_then, unwrap_or}
use Rattle.std.specs.List.{AllByRecursion}
use Rattle.std.proofs.lemmas.List.{length-append}
use Rattle.sp_base.specs.Bytes.{AreBytes}
use Rattle.sp_base.specs.declared.answer.Answer.{Answer}
use Rattle.sp_outside.specs.Files.{Files, file_at, with_file, without_file}
use Rattle.cover_rules.specs.Pages.{IsPageKey}
use Rattle.cover_rules.specs.declared.page.PageKey.{PageKey}
use Rattle.cover_rules.specs.declared.stamp.Stamp.{Stamp}
use Rattle.docroot_format.specs.Names.{epoch_name, stat_name}
use Rattle.docroot_format.specs.Readings.{HeadLine, epoch_of, head_of}
use Rattle.cache_files.specs.declared.head_note.HeadNote.{HeadNote}
use Rattle.cache_files.specs.declared.page.Page.{Page}
use Rattle.cache_files.specs.Changes.{HasNoPage, HasSamePage, KeepsFiles, KeepsOtherPages, KeepsStamps}
use Rattle.cache_files.specs.Pages.{files_with_page, files_without_page, head_at, note_of, page_at, page_body_name, page_head_name, page_head_text, stored_page}

-- what the laws of files say
pub record FileLaws : Type 0 where
  pub written : (files : Files) (name bytes : List ℕ) → file_at (with_file files name bytes) name ≡ Some bytes
  pub beside : (files : Files) (name other bytes : List ℕ) → other ≢ name → file_at (with_file files name bytes) other ≡ file_at files other
  pub removed : (files : Files) (name : List ℕ) → file_at (without_file files name) name ≡ None
  pub left : (files : Files) (name other : List ℕ) → other ≢ name → file_at (without_file files name) other ≡ file_at files other

-- what the laws of the docroot say of the names of one page, beside those of others
pub record NameLaws (key : PageKey) : Type 0 where
  pub bodies : (other : PageKey) → IsPageKey other → page_body_name other ≡ page_body_name key → other ≡ key
  pub heads : (other : PageKey) → IsPageKey other → page_head_name other ≡ page_head_name key → other ≡ key
  pub head : (other : PageKey) → IsPageKey other → page_head_name other ≢ page_body_name key
  pub body : (other : PageKey) → IsPageKey other → page_body_name other ≢ page_head_name key
  pub stat_body : (folder : List (List ℕ)) → AllByRecursion AreBytes folder → stat_name folder ≢ page_body_name key
  pub stat_head : (folder : List (List ℕ)) → AllByRecursion AreBytes folder → stat_name folder ≢ page_head_name key
  pub epoch_body : epoch_name ≢ page_body_name key
  pub epoch_head : epoch_name ≢ page_head_name key

-- a head's name is two bytes longer
pub head_apart : (body : List ℕ) → body ≢ body ++ codes "%h"
head_apart body e =
    let same : length body ≡ length (body ++ codes "%h") = ap length e in
    omega (arith, same, length-append body (codes "%h"))

-- the page that the bytes of a head and a body make
abbrev pub page_from : Option (List ℕ) → Option (List ℕ) → Option Page
page_from head body = option_and_then (λ line. option_and_then (stored_page line) body) (option_and_then head_of head)

-- the head that bytes make
abbrev pub head_from : Option (List ℕ) → Option HeadNote
head_from found = option_map note_of (option_and_then head_of found)

same_page : (h b h2 b2 : Option (List ℕ)) → h ≡ h2 → b ≡ b2 → page_from h b ≡ page_from h2 b2
same_page h b h2 b2 heads bodies = ap (λ x. page_from x b) heads ∙ ap (page_from h2) bodies

-- ---- of one key

pub kept : (files new : Files) (key : PageKey) → file_at new (page_head_name key) ≡ file_at files (page_head_name key) → file_at new (page_body_name key) ≡ file_at files (page_body_name key)
    → HasSamePage files new key
kept files new key heads bodies = record {
  page = same_page (file_at new (page_head_name key)) (file_at new (page_body_name key)) (file_at files (page_head_name key)) (file_at files (page_body_name key)) heads bodies;
  head = ap head_from heads;
}

pub same_kept : (files new : Files) (key : PageKey) → new ≡ files → HasSamePage files new key
same_kept files new key e = record { page = ap (λ f. page_at f key) e; head = ap (λ f. head_at f key) e }

pub headless : (files : Files) (key : PageKey) → file_at files (page_head_name key) ≡ None → HasNoPage files key
headless files key none = record {
  page = ap (λ h. page_from h (file_at files (page_body_name key))) none;
  head = ap head_from none;
}

no_body : (line : Option HeadLine) → option_and_then (λ l. option_and_then (stored_page l) None) line ≡ None
no_body None = refl
no_body (Some line) = refl

pub no_page_without_body : (files : Files) (key : PageKey) → file_at files (page_body_name key) ≡ None → page_at files key ≡ None
no_page_without_body files key none = ap (page_from (file_at files (page_head_name key))) none ∙ no_body (option_and_then head_of (file_at files (page_head_name key)))

-- ---- beside one key's files

pub others_kept : (files new : Files) (key : PageKey) → NameLaws key → KeepsFiles files new key → KeepsOtherPages files new key
others_kept files new key names keeps = λ other page differ.
    kept files new other (keeps (page_head_name other) (λ e. differ (names.heads other page e)) (names.head other page))
    (keeps (page_body_name other) (names.body other page) (λ e. differ (names.bodies other page e)))

pub stamps_kept : (files new : Files) (key : PageKey) → NameLaws key → KeepsFiles files new key → KeepsStamps files new
stamps_kept files new key names keeps = record {
  stats = λ folder bytes. keeps (stat_name folder) (names.stat_head folder bytes) (names.stat_body folder bytes);
  epoch = ap (λ found. unwrap_or (option_and_then epoch_of found) 0) (keeps epoch_name names.epoch_head names.epoch_body);
}

pub bare_keeps : FileLaws → (files : Files) (key : PageKey) → KeepsFiles files (without_file files (page_head_name key)) key
bare_keeps laws files key = λ name no_head no_body. laws.left files (page_head_name key) name no_head

pub half_keeps : FileLaws → (files : Files) (key : PageKey) (bytes : List ℕ) → KeepsFiles files (with_file (without_file files (page_head_name key)) (page_body_name key) bytes) key
half_keeps laws files key bytes = λ name no_head no_body.
    laws.beside (without_file files (page_head_name key)) (page_body_name key) name bytes no_body ∙ laws.left files (page_head_name key) name no_head

pub put_keeps : FileLaws → (files : Files) (key : PageKey) (stamp : Stamp) (answer : Answer) → KeepsFiles files (files_with_page files key stamp answer) key
put_keeps laws files key stamp answer = λ name no_head no_body.
    let half = with_file (without_file files (page_head_name key)) (page_body_name key) answer.body in
    laws.beside half (page_head_name key) name (page_head_text stamp answer) no_head ∙ half_keeps laws files key answer.body name no_head no_body

pub drop_keeps : FileLaws → (files : Files) (key : PageKey) → KeepsFiles files (files_without_page files key) key
drop_keeps laws files key = λ name no_head no_body.
    laws.left (without_file files (page_head_name key)) (page_body_name key) name no_body ∙ laws.left files (page_head_name key) name no_head
