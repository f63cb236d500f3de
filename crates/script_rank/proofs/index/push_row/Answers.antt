use Rattle.std.proofs.Common.{◌∙◌, ap, sym}
use Rattle.std.specs.Prelude.{◌&&◌}
use Rattle.script_rank.specs.Noting.{has_data_text}
use Rattle.script_rank.proofs.TextLemmas.{adds_none}
use Rattle.script_rank.proofs.index.push_row.Goals as goal

pub returns-then-not-is_text_path : goal.returns-then-not-is_text_path
returns-then-not-is_text_path c =
    let other = sym c.is_text_path.ensures ∙ c.if-not-is_text_path.true in
    adds_none c.args.path.now _ c.args.scripts.now.items (ap (λ named. named && has_data_text c.args.node.now) other)
