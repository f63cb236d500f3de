-- The head of a page's answer tells the length of its body, and nothing else of it.
use Rattle.std.proofs.Common.{◌≡◌, ◌==◌, Bool, true, false, Option, Some, None, length, refl, sym, ◌∙◌, ap, arith}
use Rattle.std.specs.Prelude.{IfSome, if◌then◌else◌}
use Rattle.sp_base.specs.Texts.{Text}
use Rattle.cache_files.specs.Pages.{page_under, plain_page}
use Rattle.cache_files.specs.declared.head_note.HeadNote.{HeadNote}
use Rattle.cache_files.specs.declared.page.Page.{Page}
use Rattle.http_front.specs.Answers.{answer_head}
use Rattle.page_index.specs.AnswerHeads.{IsAnswerHead}

-- bodies of one length have one head
one_head : (head : HeadNote) (a b : Text) → length a ≡ length b → answer_head false false (plain_page head.stamp head.kind a).answer ≡ answer_head false false (plain_page head.stamp head.kind b).answer
unfolding answer_head
one_head head a b e = rw e refl

-- a page is made of a body of the length that its head says
made_of : (head : HeadNote) (body : Text) (page : Page) → page_under head body ≡ Some page → (length body ≡ head.length) × (plain_page head.stamp head.kind body ≡ page)
made_of head body page is = by (length body == head.length) refl is
  where
    by : (t : Bool) → (length body == head.length) ≡ t → (if t then Some (plain_page head.stamp head.kind body) else None) ≡ Some page → (length body ≡ head.length) × (plain_page head.stamp head.kind body ≡ page)
    by true e made = (grind (arith, e), cc made)
    by false e made = absurd (cc made)

-- the head of one page's answer is that of each page under the same head
pub is_head_of_each : (head : HeadNote) (body bytes : Text) (page : Page) → page_under head body ≡ Some page → bytes ≡ answer_head false false page.answer → IsAnswerHead head bytes
is_head_of_each head body bytes page is same other = by (page_under head other) refl
  where
    here : (length body ≡ head.length) × (plain_page head.stamp head.kind body ≡ page)
    here = made_of head body page is

    by : (o : Option Page) → page_under head other ≡ o → IfSome o (λ p. bytes ≡ answer_head false false p.answer)
    by None e = tt
    by (Some p) e =
        let there = made_of head other p e in
        same ∙ ap (λ (q : Page). answer_head false false q.answer) (sym here.1) ∙ one_head head body other (here.0 ∙ sym there.0) ∙ ap (λ (q : Page). answer_head false false q.answer) there.1
