use Rattle.std.proofs.Common.{sym, subst}
use Rattle.serde_json.specs.Find.{get_member}
use Rattle.content_json.specs.Names.{order_name}
use Rattle.content_json.proofs.PartLemmas.{IsFound, part_found, order_absent, order_made}
use Rattle.content_json.proofs.open_object.listed_names.Goals as goal

pub returns-in-Some : goal.returns-in-Some
returns-in-Some c levels path ms held =
    order_made levels path ms c.in-Some.part.now c.listed_in.result c.listed_in.ensures
    (subst (λ o. IsFound levels path order_name o (get_member order_name ms)) (sym c.in-Some.ensures.value) (part_found levels path order_name c.args.members.now.entries ms held))

pub returns-in-None : goal.returns-in-None
returns-in-None c levels path ms held =
    order_absent levels path ms (subst (λ o. IsFound levels path order_name o (get_member order_name ms)) (sym c.in-None.ensures.value) (part_found levels path order_name c.args.members.now.entries ms held))
