use Rattle.std.proofs.Common.{◌∙◌, sym}
use Rattle.script_rank.proofs.TextLemmas.{notes_none}
use Rattle.script_rank.proofs.change.note_entry.Goals as goal

pub returns-then-not-is_text_path : goal.returns-then-not-is_text_path
returns-then-not-is_text_path c = notes_none c.args.path.now _ _ c.args.change.now (sym c.is_text_path.ensures ∙ c.if-not-is_text_path.true)
