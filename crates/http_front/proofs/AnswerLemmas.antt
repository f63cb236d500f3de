-- Answers in two parts.
use Rattle.std.proofs.Common.{◌≡◌, ◌++◌, Bool, append_assoc}
use Rattle.sp_base.specs.declared.answer.Answer.{Answer}
use Rattle.http_front.specs.Answers.{answer_bytes, answer_content, answer_head}

-- the head, and the content behind it
pub head_and_content : (head_only close : Bool) (answer : Answer) → answer_bytes head_only close answer ≡ answer_head head_only close answer ++ answer_content head_only answer
unfolding answer_bytes answer_head
head_and_content head_only close answer = simp append_assoc
