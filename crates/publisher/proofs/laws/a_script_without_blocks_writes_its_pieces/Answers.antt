use Rattle.publisher.specs.Pages.{setting_for}
use Rattle.publisher.specs.Rendering.{answer_to_request}
use Rattle.publisher.proofs.ScriptLaw.{plain_page}
use Rattle.publisher.proofs.laws.a_script_without_blocks_writes_its_pieces.Goals as goal

pub returns : goal.returns
returns c tree ask res text pieces good reads plain spells ok =
    plain_page tree (setting_for reads.script res) text pieces (answer_to_request tree ask).body (c.the_pieces_are_the_text.ensures.only text pieces spells) plain c.a_text_writes_its_template.ensures
    (λ blocks spelled. c.a_script_writes_its_page.ensures tree ask res text blocks good reads spelled ok)
