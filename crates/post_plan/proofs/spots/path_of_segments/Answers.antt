use Rattle.std.proofs.Common.{◌∙◌, sym}
use Rattle.post_plan.proofs.PieceLemmas.{path_read}
use Rattle.post_plan.proofs.spots.path_of_segments.Goals as goal

pub returns : goal.returns
returns c =
    path_read c.read_or_none.result c.args.names.now c.as_str.result.now c.a_path_and_its_text.ensures.read (sym c.is_empty.ensures ∙ c.if-is_empty.false) (sym c.make_path.ensures ∙ c.if-not-make_path.false)
    (c.as_str.ensures.value ∙ c.in_ok-text.ensures) c.read_or_none.ensures
