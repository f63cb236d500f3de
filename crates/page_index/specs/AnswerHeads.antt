-- The bytes with which the answers of pages begin. Only a private invariant needs them: no call tells whether they are kept.
use Rattle.std.specs.Prelude.{◌≡◌, false, IfSome}
use Rattle.sp_base.specs.Texts.{Text}
use Rattle.cache_files.specs.Pages.{page_under}
use Rattle.cache_files.specs.declared.head_note.HeadNote.{HeadNote}
use Rattle.http_front.specs.Answers.{answer_head}

-- These are the bytes of the answer's head, to a GET after which the connection stays open, of each page that this head and a body make.
abbrev pub IsAnswerHead : HeadNote → Text → Type 0
IsAnswerHead head bytes = (body : Text) → IfSome (page_under head body) (λ page. bytes ≡ answer_head false false page.answer)
