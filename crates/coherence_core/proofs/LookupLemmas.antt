-- What the files give for a page that is looked up.
use Rattle.std.proofs.Common.{◌≡◌, ◌&&◌, ◌==◌, Bool, true, false, Option, Some, None, refl, sym, ◌∙◌, ap, if◌then◌else◌, length}
use Rattle.std.specs.Option.{option_and_then}
use Rattle.sp_outside.specs.Files.{Files, file_at}
use Rattle.sp_base.specs.Texts.{Text}
use Rattle.sp_base.specs.declared.answer.Answer.{Answer}
use Rattle.cover_rules.specs.declared.page.PageKey.{PageKey}
use Rattle.cover_rules.specs.declared.stamp.Stamp.{Stamp}
use Rattle.dispatch_rules.specs.Caching.{is_storable}
use Rattle.cache_files.specs.declared.head_note.HeadNote.{HeadNote}
use Rattle.cache_files.specs.declared.page.Page.{Page}
use Rattle.cache_files.specs.Pages.{head_at, known_at, page_at, page_body_name, plain_page, page_under}
use Rattle.stat_files.specs.Outdated.{outdates_page}
use Rattle.coherence_core.specs.Served.{served}

-- the answer of a page under a head may be stored
under_head : (head : HeadNote) (body : Text) (page : Page) → page_under head body ≡ Some page → is_storable page.answer ≡ true
under_head head body page is = by_test (length body == head.length) is
  where
    by_test : (b : Bool) → (if b then Some (plain_page head.stamp head.kind body) else None) ≡ Some page → is_storable page.answer ≡ true
    by_test true e = let same : plain_page head.stamp head.kind body ≡ page = cc e in ap (λ (p : Page). is_storable p.answer) (sym same)
    by_test false e = absurd (cc e)

known_page : (o : Option Text) (head : HeadNote) (page : Page) → option_and_then (page_under head) o ≡ Some page → is_storable page.answer ≡ true
known_page None head page is = absurd (cc is)
known_page (Some body) head page is = under_head head body page is

-- what is served may be stored
pub served_storable : (files : Files) (key : PageKey) (auto : Bool) (stat : Option Stamp) (answer : Answer) → page_at files key ≡ option_and_then (known_at files key) (head_at files key) → served auto stat (page_at files key) ≡ Some answer → is_storable answer ≡ true
served_storable files key auto stat answer law is = of_head (head_at files key) (sym (ap (λ (o : Option Page). served auto stat o) law) ∙ is)
  where
    of_page : (o : Option Page) → ((page : Page) → o ≡ Some page → is_storable page.answer ≡ true) → served auto stat o ≡ Some answer → is_storable answer ≡ true
    of_page None each e = absurd (cc e)
    of_page (Some page) each e = by_test (auto && outdates_page stat page.stamp) e
      where
        by_test : (b : Bool) → (if b then None else Some page.answer) ≡ Some answer → is_storable answer ≡ true
        by_test true t = absurd (cc t)
        by_test false t = let same : page.answer ≡ answer = cc t in ap is_storable (sym same) ∙ each page refl

    of_head : (o : Option HeadNote) → served auto stat (option_and_then (known_at files key) o) ≡ Some answer → is_storable answer ≡ true
    of_head None e = absurd (cc e)
    of_head (Some head) e = of_page (known_at files key head) (λ page at. known_page (file_at files (page_body_name key)) head page at) e
