-- Answers of a media type and a body, and redirects (RFC 9110, section 15).
use Rattle.std.specs.Prelude.{ℕ, List, []}
use Rattle.sp_base.specs.declared.answer.Answer.{Answer}
use Rattle.sp_base.specs.declared.answer.Mark.{Mark}
use Rattle.sp_base.specs.declared.answer.Mark.TheVariants.{Plain}
use Rattle.location_field.specs.Location.{location_of}

-- an answer with a media type and a body
abbrev pub answer_with_body : ℕ → List ℕ → Mark → List ℕ → Answer
answer_with_body status kind mark body = record { status = status; kind = kind; location = []; mark = mark; body = body }

-- a redirect to a URI reference (RFC 9110, sections 10.2.2 and 15.4): its location, and no representation
abbrev pub redirect : ℕ → List ℕ → Answer
redirect status reference = record { status = status; kind = []; location = location_of reference; mark = Plain; body = [] }
