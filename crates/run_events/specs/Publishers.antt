-- What a publisher is asked, and what it gives.
use Rattle.std.specs.Prelude.{List, [], ℕ, Option, Some, None, codes}
use Rattle.sp_base.specs.declared.answer.Answer.{Answer}
use Rattle.sp_base.specs.declared.answer.Ask.{Ask}
use Rattle.resource_tree.specs.Content.{Content}
use Rattle.any_config.specs.declared.farm.Farm.{Farm}
use Rattle.http_front.specs.declared.target.Target.{Target}
use Rattle.http_front.specs.Targets.{target_of}
use Rattle.error_answers.specs.Errors.{error_answer}

-- what a publisher gives: the answer to a request, and the content after it
pub record Publication : Type 0 where
  pub answer : Answer
  pub content : Content

-- a publisher: what it gives for a request on a content
abbrev pub Publishing : Type 0
Publishing = Content → Ask → Publication

-- what the publisher is asked for a target alone: a GET of it (RFC 9110, section 9.3.1) at the farm's host
abbrev pub get_of : Farm → Target → Ask
get_of farm target = record {
  method = codes "GET";
  host = farm.ask_host;
  port = farm.ask_port;
  path = target.path;
  slash = target.slash;
  kind = [];
  body = [];
}

-- the publisher's answer, or Bad Request where the target is a bad one (RFC 9110, section 15.5.1)
abbrev pub answer_to : Publishing → Farm → Content → Option Target → Answer
answer_to publishing farm content (Some target) = (publishing content (get_of farm target)).answer
answer_to publishing farm content None = error_answer 400

-- the answer to a target that is asked past the connections
abbrev pub direct_answer : Publishing → Farm → Content → List ℕ → Answer
direct_answer publishing farm content target = answer_to publishing farm content (target_of target)
