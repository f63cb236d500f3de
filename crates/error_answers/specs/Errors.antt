-- How an error is told (RFC 9110, section 15).
use Rattle.std.specs.Prelude.{◌==◌, ◌++◌, ℕ, if◌then◌else◌, List, [], ◌∷◌, codes, decimal, unwrap_or}
use Rattle.http.specs.StatusCode.{reason_phrase}
use Rattle.sp_base.specs.declared.answer.Answer.{Answer}
use Rattle.sp_base.specs.declared.answer.Mark.TheVariants.{Plain}

-- the reason phrase of a status code; RFC 9110 has another for 413 than the lists before it
unfoldable pub phrase_of : ℕ → List ℕ
phrase_of status = if status == 413 then codes "Content Too Large" else unwrap_or (reason_phrase status) []

-- an answer with a line of text
abbrev pub line_answer : ℕ → List ℕ → Answer
line_answer status line = record { status = status; kind = codes "text/plain;charset=utf-8"; location = []; mark = Plain; body = line }

-- an error is told in a line of text: the status code and its phrase
unfoldable pub error_answer : ℕ → Answer
error_answer status = line_answer status (decimal status ++ codes " " ++ phrase_of status ++ 10 ∷ [])
