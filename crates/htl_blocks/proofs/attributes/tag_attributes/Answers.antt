use Rattle.std.proofs.Common.{◌≡◌, ◌≢◌, sym, ap, ◌∙◌, rules, length, string_bytes, None, Some}
use Rattle.htl_blocks.specs.declared.fault.BlockFault.TheVariants.{NoMemory, BadBlock}
use Rattle.htl_blocks.specs.Attributes.{tag_attributes}
use Rattle.htl_blocks.proofs.Turns.{attributes_more, attributes_bad, attributes_end, attributes_done}
use Rattle.htl_blocks.proofs.attributes.tag_attributes.Goals as goal

pub loop-turn-preserved : goal.loop-turn-preserved
loop-turn-preserved c =
    let same =
    sym (attributes_more (length c.args.tag.now) c.loop-turn._turn c.loop-turn.found c.in_ok-more-in-Some.more (string_bytes c.loop-turn.kept) _ c.loop-turn.rest.now c.in-Some.before.now c.in-Some.statement.now c.after_attribute-rest.result.now c.loop-turn-test.true (sym c.in-Some.ensures) c.in_ok-more-in-Some.ensures.ok c.in_ok-push_str-in-Some.ensures.bytes c.after_attribute-rest.ensures) ∙ c.loop-turn.invariant.1 in
    (search rules, same)

pub returns-in_err-more-in-Some-clause-err : goal.returns-in_err-more-in-Some-clause-err
returns-in_err-more-in-Some-clause-err c =
    let fails : c.in_err-more-in-Some.field-0.0 ≢ NoMemory → (c.in_err-more-in-Some.field-0.0 ≡ BadBlock c.args.place) × (tag_attributes c.args.tag.now ≡ None) =
    λ known.
    let bad = c.in_err-more-in-Some.ensures.err known in
    (bad.0, sym c.loop-turn.invariant.1 ∙ attributes_bad (length c.args.tag.now) c.loop-turn._turn c.loop-turn.found (string_bytes c.loop-turn.kept) c.loop-turn.rest.now _ _ c.loop-turn-test.true (sym c.in-Some.ensures) bad.1) in
    search rules

pub returns-in-None-clause-ok : goal.returns-in-None-clause-ok
returns-in-None-clause-ok c =
    sym c.loop-turn.invariant.1 ∙ attributes_end (length c.args.tag.now) c.loop-turn._turn c.loop-turn.found (string_bytes c.loop-turn.kept) c.loop-turn.rest.now c.loop-turn-test.true (sym c.in-None.ensures) ∙ ap Some (sym c.in_ok-finished-in-None.ensures)

pub returns-clause-ok : goal.returns-clause-ok
returns-clause-ok c =
    sym c.loop-turn.invariant.1 ∙ attributes_done (length c.args.tag.now) c.loop-turn._turn c.loop-turn.found (string_bytes c.loop-turn.kept) c.loop-turn.rest.now c.loop-turn-test.false ∙ ap Some (sym c.in_ok-finished.ensures)
