use Rattle.std.proofs.Common.{◌∙◌}
use Rattle.glob_rules.proofs.CharLemmas.{empty_chars}
use Rattle.glob_rules.proofs.chars.is_empty.Goals as goal

pub returns : goal.returns
returns c = c.is_empty.ensures ∙ empty_chars c.args.text.now c.utf8.text
