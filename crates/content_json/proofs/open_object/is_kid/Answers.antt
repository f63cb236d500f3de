use Rattle.std.proofs.Common.{Some, None, sym, ◌∙◌, subst}
use Rattle.serde_json.specs.Find.{get_member}
use Rattle.content_json.proofs.PartLemmas.{IsFound, part_found, is_kid_found}
use Rattle.content_json.proofs.open_object.is_kid.Goals as goal

pub returns-in-Some : goal.returns-in-Some
returns-in-Some c levels path ms held fit =
    let q = c.args.name.now in
    let found = subst (λ o. IsFound levels path q o (get_member q ms)) (sym c.in-Some.ensures.value) (part_found levels path q c.args.members.now.entries ms held) in
    c.is_kid_part.ensures ∙ is_kid_found levels path q (Some c.in-Some.part.now) ms found fit

pub returns-in-None : goal.returns-in-None
returns-in-None c levels path ms held fit =
    let q = c.args.name.now in
    let found = subst (λ o. IsFound levels path q o (get_member q ms)) (sym c.in-None.ensures.value) (part_found levels path q c.args.members.now.entries ms held) in
    is_kid_found levels path q None ms found fit
