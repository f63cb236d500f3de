use Rattle.std.proofs.Common.{arith}
use Rattle.std.proofs.lemmas.List.{length-drop}
use Rattle.htl_blocks.proofs.Parts.{inside_boundary, closing_part}
use Rattle.htl_blocks.specs.Markup.{tag_name}
use Rattle.htl_blocks.proofs.cut.cut_at.Goals as goal

pub split_at-requires : goal.split_at-requires
split_at-requires c = inside_boundary (tag_name c.args.tag.now) c.args.text.now c.args.len c.requires

pub end_tag_split-requires-clause-some : goal.end_tag_split-requires-clause-some
end_tag_split-requires-clause-some c =
    let x = closing_part (tag_name c.args.tag.now) c.args.text.now c.args.len c.requires in
    let lt = x.within in
    let size = length-drop c.args.len c.args.text.now in
    rw c.split_at.ensures.back (omega (arith, lt, size))

pub end_tag_split-requires-clause-end_tag : goal.end_tag_split-requires-clause-end_tag
end_tag_split-requires-clause-end_tag c =
    let x = closing_part (tag_name c.args.tag.now) c.args.text.now c.args.len c.requires in
    rw c.split_at.ensures.back x.end_tag
