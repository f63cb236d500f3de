use Rattle.std.proofs.Common.{string_bytes, refl}
use Rattle.htl_expr.specs.Bindings.{with_vars}
use Rattle.htl_expr.specs.Variables.{vars_of}
use Rattle.htl_text.specs.Template.{template_output}
use Rattle.htl_blocks.proofs.SheetSteps.{template_result}
use Rattle.htl_blocks.proofs.sheet.write.Goals as goal

pub returns : goal.returns
returns c =
    rw (← c.sheet.view_is)
    (template_result c.push_template.result _ c.sheet.inside.of c.push_template.new.of c.sheet.inside.keeping c.sheet.inside.pieces (string_bytes c.sheet.inside.tail) (template_output (with_vars c.sheet.inside.of (vars_of c.args.vars.now)) c.args.template.now) (string_bytes c.push_template.new.text) c.sheet.inside.rounds c.room-room.result
    refl c.sheet.invariant.0 c.room-room.ensures c.push_template.ensures.resource c.push_template.ensures.ok c.push_template.ensures.err)
