use Rattle.block_laws.proofs.Together.{text_as_content, body_as_content}
use Rattle.block_laws.proofs.laws.a_body_is_written_as_the_content.Goals as goal

pub returns-clause-text : goal.returns-clause-text
returns-clause-text c = text_as_content

pub returns-clause-body : goal.returns-clause-body
returns-clause-body c = body_as_content
