-- When notes agree with files, note by note.
use Rattle.std.proofs.Common.{◌≡◌, ◌⊎◌, ◌==◌, ℕ, Bool, true, false, Option, Some, None, inl, inr, ⊎_elim, length, refl, sym, ◌∙◌, ap, subst, option_map}
use Rattle.std.proofs.lemmas.Option.{none-some}
use Rattle.std.specs.Prelude.{Contains, IfSome, if◌then◌else◌, nat_le, option_and_then}
use Rattle.sp_base.specs.Texts.{Segments, Text}
use Rattle.sp_outside.specs.Files.{Files, file_at}
use Rattle.cover_rules.specs.Coverage.{deletes, touched_of}
use Rattle.cover_rules.specs.Pages.{IsPageKey}
use Rattle.cover_rules.specs.declared.invalidation.Invalidation.{Invalidation}
use Rattle.cover_rules.specs.declared.page.PageKey.{PageKey}
use Rattle.cover_rules.specs.declared.stamp.Stamp.{Stamp}
use Rattle.cache_files.specs.Pages.{head_at, known_at, page_at, page_body_name, plain_page, page_under}
use Rattle.cache_files.specs.declared.head_note.HeadNote.{HeadNote}
use Rattle.cache_files.specs.declared.page.Page.{Page}
use Rattle.stat_files.specs.Stamps.{stamp_at}
use Rattle.docroot_changes.specs.Changes.{IsStampFolder}
use Rattle.page_index.specs.Agreement.{Agrees, HasNoneCovered}
use Rattle.page_index.specs.Effects.{IsFewer}
use Rattle.page_index.specs.Held.{after_hit, body_after, fresh_note}
use Rattle.page_index.specs.Limits.{hits_before_keeping, longest_kept}
use Rattle.page_index.specs.Notes.{page_from, page_noted, stamp_noted}
use Rattle.page_index.specs.declared.index.PageIndex.{PageIndex}
use Rattle.page_index.specs.declared.page_note.PageNote.{PageNote}

-- ---- one note

-- the note of a page is what the files give
pub record NoteAgrees (files : Files) (key : PageKey) (note : PageNote) : Type 0 where
  pub head : head_at files key ≡ note.head
  pub page : (page : Page) → page_from note ≡ Some page → page_at files key ≡ Some page

-- the same of a note, where there is one
abbrev pub PageAgrees : Files → PageKey → Option PageNote → Type 0
PageAgrees files key note = IfSome note (NoteAgrees files key)

from_parts : (files : Files) (key : PageKey) (o : Option PageNote) → ((head : Option HeadNote) → option_map (λ n. n.head) o ≡ Some head → head_at files key ≡ head)
    → ((page : Page) → option_and_then page_from o ≡ Some page → page_at files key ≡ Some page) → PageAgrees files key o
from_parts files key None heads pages = tt
from_parts files key (Some note) heads pages = record { head = heads note.head refl; page = pages }

to_head : (files : Files) (key : PageKey) (o : Option PageNote) → PageAgrees files key o → (head : Option HeadNote) → option_map (λ n. n.head) o ≡ Some head → head_at files key ≡ head
to_head files key None agrees head e = absurd (none-some head e)
to_head files key (Some note) agrees head e = agrees.head ∙ same note.head head e
  where
    same : (x y : Option HeadNote) → Some x ≡ Some y → x ≡ y
    same x y e = cc e

to_page : (files : Files) (key : PageKey) (o : Option PageNote) → PageAgrees files key o → (page : Page) → option_and_then page_from o ≡ Some page → page_at files key ≡ Some page
to_page files key None agrees page e = absurd (none-some page e)
to_page files key (Some note) agrees page e = agrees.page page e

-- the notes agree page by page, and stamp by stamp
pub pages_of : (index : PageIndex) (files : Files) → Agrees index files → (key : PageKey) → IsPageKey key → PageAgrees files key (page_noted index key)
pages_of index files agrees key good = from_parts files key (page_noted index key) (λ head e. agrees.heads key head good e) (λ page e. agrees.pages key page good e)

pub agrees_by : (index : PageIndex) (files : Files) → ((key : PageKey) → IsPageKey key → PageAgrees files key (page_noted index key))
    → ((folder : Segments) (stamp : Option Stamp) → IsStampFolder folder → stamp_noted index folder ≡ Some stamp → stamp_at files folder ≡ stamp) → Agrees index files
agrees_by index files pages stamps = record {
  heads = λ key head good e. to_head files key (page_noted index key) (pages key good) head e;
  pages = λ key page good e. to_page files key (page_noted index key) (pages key good) page e;
  stamps = stamps;
}

-- ---- notes that stay or fall, over files that keep what is noted

-- a note that stays, of a page that stays
moved : (old new : Files) (key : PageKey) (o : Option PageNote) → page_at new key ≡ page_at old key → head_at new key ≡ head_at old key → PageAgrees old key o → PageAgrees new key o
moved old new key None page head agrees = tt
moved old new key (Some note) page head agrees = record { head = head ∙ agrees.head; page = λ p e. page ∙ agrees.page p e }

pub same_note : (files : Files) (key : PageKey) (o p : Option PageNote) → p ≡ o → PageAgrees files key o → PageAgrees files key p
same_note files key o p e agrees = subst (λ x. PageAgrees files key x) (sym e) agrees

pub no_note : (files : Files) (key : PageKey) (o : Option PageNote) → o ≡ None → PageAgrees files key o
no_note files key o e = subst (λ x. PageAgrees files key x) (sym e) tt

pub same_or_none : (files : Files) (key : PageKey) (o p : Option PageNote) → (p ≡ o) ⊎ (p ≡ None) → PageAgrees files key o → PageAgrees files key p
same_or_none files key o p h agrees = ⊎_elim (λ e. same_note files key o p e agrees) (λ e. no_note files key p e) h

pub same_or_no_stamp : (o p : Option (Option Stamp)) (stamp now : Option Stamp) → (p ≡ o) ⊎ (p ≡ None) → (o ≡ Some stamp → now ≡ stamp) → p ≡ Some stamp → now ≡ stamp
same_or_no_stamp o p stamp now (inl e) agrees is = agrees (sym e ∙ is)
same_or_no_stamp o p stamp now (inr e) agrees is = absurd (none-some stamp (sym e ∙ is))

pub fewer_agrees : (old new : PageIndex) (files : Files) → IsFewer old new → Agrees old files → Agrees new files
fewer_agrees old new files fewer agrees =
    agrees_by new files
    (λ key good. same_or_none files key (page_noted old key) (page_noted new key) (fewer.pages key) (pages_of old files agrees key good))
    (λ folder stamp good is. same_or_no_stamp (stamp_noted old folder) (stamp_noted new folder) stamp (stamp_at files folder) (fewer.stamps folder) (agrees.stamps folder stamp good) is)

-- the same notes over other files, which keep each page and each stamp that is noted
pub files_agree : (index : PageIndex) (old new : Files)
    → ((key : PageKey) → IsPageKey key → (page_noted index key ≡ None) ⊎ ((page_at new key ≡ page_at old key) × (head_at new key ≡ head_at old key)))
    → ((folder : Segments) → IsStampFolder folder → (stamp_noted index folder ≡ None) ⊎ (stamp_at new folder ≡ stamp_at old folder))
    → Agrees index old → Agrees index new
files_agree index old new pages stamps agrees =
    agrees_by index new
    (λ key good. ⊎_elim (λ none. no_note new key (page_noted index key) none) (λ same. moved old new key (page_noted index key) same.0 same.1 (pages_of index old agrees key good)) (pages key good))
    (λ folder stamp good is. ⊎_elim (λ none. absurd (none-some stamp (sym none ∙ is))) (λ same. same ∙ agrees.stamps folder stamp good is) (stamps folder good))

-- ---- what is noted of a head

pub none_from_head : (o : Option PageNote) → option_map (λ n. n.head) o ≡ None → o ≡ None
none_from_head None e = refl
none_from_head (Some note) e = absurd (none-some note.head (sym e))

pub none_in_head : (o : Option PageNote) → o ≡ None → option_map (λ n. n.head) o ≡ None
none_in_head o e = ap (option_map (λ (n : PageNote). n.head)) e

pub covered_by : (level : ℕ) (inv : Invalidation) (old new : PageIndex)
    → ((key : PageKey) → deletes inv key ≡ true → page_noted old key ≡ None → page_noted new key ≡ None)
    → ((folder : Segments) → Contains (touched_of level inv) folder → stamp_noted old folder ≡ None → stamp_noted new folder ≡ None)
    → HasNoneCovered level inv old → HasNoneCovered level inv new
covered_by level inv old new pages stamps covered = record {
  pages = λ key good del. none_in_head (page_noted new key) (pages key del (none_from_head (page_noted old key) (covered.pages key good del)));
  stamps = λ folder good has. stamps folder has (covered.stamps folder good has);
}

-- what stays or falls is none where it was none
pub none_stays : {A : Type 0} (o p : Option A) → (p ≡ o) ⊎ (p ≡ None) → o ≡ None → p ≡ None
none_stays o p (inl e) none = e ∙ none
none_stays o p (inr e) none = e

-- ---- a hit that is counted

none_after : {A B : Type 0} (f : A → Option B) → ((x : A) → f x ≡ None) → (o : Option A) → option_and_then f o ≡ None
none_after f none None = refl
none_after f none (Some x) = none x

-- no page is made without a body
no_body : (head : Option HeadNote) → option_and_then (λ h. option_and_then (page_under h) None) head ≡ None
no_body head = none_after (λ h. option_and_then (page_under h) None) (λ h. refl) head

-- the body of a page that a head and a body make is this
body_is : (head : HeadNote) (bytes : Text) (page : Page) → page_under head bytes ≡ Some page → page.answer.body ≡ bytes
body_is head bytes page e = by (length bytes == head.length) e
  where
    by : (b : Bool) → (if b then Some (plain_page head.stamp head.kind bytes) else None) ≡ Some page → page.answer.body ≡ bytes
    by true e = sym (ap (λ (p : Page). p.answer.body) (one e))
      where
        one : Some (plain_page head.stamp head.kind bytes) ≡ Some page → plain_page head.stamp head.kind bytes ≡ page
        one e = cc e
    by false e = absurd (none-some page e)

-- the page under a head is the page of the files, where it is made of the body that a hit read
read_body : (head : HeadNote) (o : Option Text) (page : Page) (body : Text) → option_and_then (page_under head) o ≡ Some page → page.answer.body ≡ body → page_under head body ≡ Some page
read_body head None page body e is = absurd (none-some page e)
read_body head (Some bytes) page body e is = subst (λ b. page_under head b ≡ Some page) (sym (body_is head bytes page e) ∙ is) e

module _ (files : Files) (key : PageKey) (law : page_at files key ≡ option_and_then (known_at files key) (head_at files key)) (page : Page) (body : Text)
    (here : page_at files key ≡ Some page) (is : page.answer.body ≡ body) where
  kept_page : (head : Option HeadNote) → head_at files key ≡ head → (p : Page) → option_and_then (λ h. option_and_then (page_under h) (Some body)) head ≡ Some p → page_at files key ≡ Some p
  kept_page None at p e = absurd (none-some p e)
  kept_page (Some head) at p e =
      let there : option_and_then (page_under head) (file_at files (page_body_name key)) ≡ Some page = sym (ap (option_and_then (known_at files key)) at) ∙ sym law ∙ here in
      here ∙ sym (read_body head (file_at files (page_body_name key)) page body there is) ∙ e

  after : (note : PageNote) → NoteAgrees files key note → (kept : Option Text) → (kept ≡ note.body) ⊎ ((kept ≡ None) ⊎ (kept ≡ Some body))
      → (p : Page) → option_and_then (λ h. option_and_then (page_under h) kept) note.head ≡ Some p → page_at files key ≡ Some p
  after note agrees kept (inl same) p e = agrees.page p (ap (λ k. option_and_then (λ h. option_and_then (page_under h) k) note.head) (sym same) ∙ e)
  after note agrees kept (inr (inl none)) p e =
      absurd (none-some p (sym (ap (λ k. option_and_then (λ h. option_and_then (page_under h) k) note.head) none ∙ no_body note.head) ∙ e))
  after note agrees kept (inr (inr some)) p e = kept_page note.head agrees.head p (ap (λ k. option_and_then (λ h. option_and_then (page_under h) k) note.head) (sym some) ∙ e)

  kept_is : (hits : ℕ) (kept : Option Text) → (body_after hits kept body ≡ kept) ⊎ ((body_after hits kept body ≡ None) ⊎ (body_after hits kept body ≡ Some body))
  kept_is hits (Some kept) = inl refl
  kept_is hits None = by (nat_le hits_before_keeping hits) (nat_le (length body) longest_kept)
    where
      by : (b c : Bool) → let kept : Option Text = if b then (if c then Some body else None) else None in (kept ≡ None) ⊎ ((kept ≡ None) ⊎ (kept ≡ Some body))
      by true true = inr (inr refl)
      by true false = inl refl
      by false c = inl refl

  counted : (o : Option PageNote) → PageAgrees files key o → PageAgrees files key (option_map (after_hit body) o)
  counted None agrees = tt
  counted (Some note) agrees = record { head = agrees.head; page = after note agrees (body_after note.hits note.body body) (kept_is note.hits note.body) }

pub counted_agrees : (files : Files) (key : PageKey) → page_at files key ≡ option_and_then (known_at files key) (head_at files key) → (page : Page) (body : Text) → page_at files key ≡ Some page → page.answer.body ≡ body
    → (o : Option PageNote) → PageAgrees files key o → PageAgrees files key (option_map (after_hit body) o)
counted_agrees files key law page body here is o agrees = counted files key law page body here is o agrees

-- a note that was just made agrees, where the files have its head
pub fresh_agrees : (files : Files) (key : PageKey) (head : Option HeadNote) → head_at files key ≡ head → NoteAgrees files key (fresh_note key head)
fresh_agrees files key head is = record { head = is; page = λ page e. absurd (none-some page (sym (no_body head) ∙ e)) }
