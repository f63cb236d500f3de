use Rattle.std.proofs.Common.{false, map, subst, arith, ◌≡◌}
use Rattle.content_json.specs.Names.{is_order}
use Rattle.content_json.specs.Parts.{IsMemberPart, entry_of}
use Rattle.content_json.proofs.PartLemmas.{value_added}
use Rattle.content_json.proofs.open_object.add_part.Goals as goal

pub returns-in_ok-put-in-Value : goal.returns-in_ok-put-in-Value
returns-in_ok-put-in-Value c levels path d is =
    let name = c.args.name.now in
    let other : is_order name ≡ false = grind arith in
    value_added levels path name c.in-Value.value d c.args.props.now c.put.new.self (map entry_of c.args.below.now.items) other (subst (λ p. IsMemberPart levels path name p d) c.in-Value.is is) c.in_ok-put-in-Value.ensures.ok
