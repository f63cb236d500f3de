-- A publisher that gives one page.
use Rattle.std.specs.Prelude.{[], codes}
use Rattle.sp_base.specs.declared.answer.Answer.{Answer}
use Rattle.sp_base.specs.declared.answer.Mark.TheVariants.{Plain}
use Rattle.run_events.specs.Publishers.{Publishing}

-- the page
abbrev pub one_page : Answer
one_page = record { status = 200; kind = codes "text/plain"; location = []; mark = Plain; body = codes "page" }

-- whatever is asked for it is given, and the content stays
abbrev pub one_page_publisher : Publishing
one_page_publisher content ask = record { answer = one_page; content = content }
