use Rattle.std.proofs.Common.{◌≡◌, ◌≢◌, ◌∙◌, ◌-◌, suc, length, rules, arith, sym, ap, Err}
use Rattle.htl_blocks.specs.LentValues.{cut_shown}
use Rattle.htl_blocks.specs.declared.fault.BlockFault.TheVariants.{NoMemory}
use Rattle.htl_blocks.specs.Reading.{element, content_within, element_within, blocks_within}
use Rattle.htl_blocks.proofs.Turns.{blocks_more, blocks_end, blocks_run_fails, blocks_one_fails, blocks_done, within_is, tag_has_level, element_is, element_open, element_tag_fails, element_content_fails}
use Rattle.htl_blocks.proofs.reader.+reader.Goals as goal

pub blocks-loop-turn-preserved : goal.blocks-loop-turn-preserved
blocks-loop-turn-preserved t c =
    let same =
    sym (blocks_more (element c.args.levels (content_within c.args.levels) c.args.end) c.args.end (length c.args.text.now) c.loop-turn._turn c.loop-turn.found _ c.loop-turn.rest.now _ _ _ _ c.loop-turn-test.true (rw c.place_of.ensures at c.in_ok-push_run.ensures.ok) c.run.ensures.run c.run.ensures.rest (sym c.if-is_empty.ensures) c.in_ok-one.ensures.ok) ∙ c.loop-turn.invariant.1 in
    (search rules, rw c.in_ok-push.ensures.ok same)

pub blocks-returns-then-is_empty-clause-ok : goal.blocks-returns-then-is_empty-clause-ok
blocks-returns-then-is_empty-clause-ok t c =
    within_is c.args.levels c.args.end c.args.text.now ∙ sym c.loop-turn.invariant.1
    ∙ blocks_end (element c.args.levels (content_within c.args.levels) c.args.end) c.args.end (length c.args.text.now) c.loop-turn._turn c.loop-turn.found _ c.loop-turn.rest.now _ _ c.loop-turn-test.true (rw c.place_of.ensures at c.in_ok-push_run.ensures.ok) c.run.ensures.run c.run.ensures.rest (sym c.if-is_empty.ensures)

pub blocks-returns-in_err-push_run-clause-err : goal.blocks-returns-in_err-push_run-clause-err
blocks-returns-in_err-push_run-clause-err t c =
    let fails : c.in_err-push_run.field-0.0 ≢ NoMemory → blocks_within c.args.levels c.args.end c.args.text.now ≡ Err c.in_err-push_run.field-0.0 =
    λ known.
    within_is c.args.levels c.args.end c.args.text.now ∙ sym c.loop-turn.invariant.1
    ∙ blocks_run_fails (element c.args.levels (content_within c.args.levels) c.args.end) c.args.end (length c.args.text.now) c.loop-turn._turn c.loop-turn.found c.loop-turn.rest.now _ _ c.loop-turn-test.true (rw c.place_of.ensures at (c.in_err-push_run.ensures.err known)) c.run.ensures.run in
    search rules

pub blocks-returns-in_err-one-clause-err : goal.blocks-returns-in_err-one-clause-err
blocks-returns-in_err-one-clause-err t c =
    let fails : c.in_err-one.field-0.0 ≢ NoMemory → blocks_within c.args.levels c.args.end c.args.text.now ≡ Err c.in_err-one.field-0.0 =
    λ known.
    within_is c.args.levels c.args.end c.args.text.now ∙ sym c.loop-turn.invariant.1
    ∙ blocks_one_fails (element c.args.levels (content_within c.args.levels) c.args.end) c.args.end (length c.args.text.now) c.loop-turn._turn c.loop-turn.found _ c.loop-turn.rest.now _ _ _ c.loop-turn-test.true (rw c.place_of.ensures at c.in_ok-push_run.ensures.ok) c.run.ensures.run c.run.ensures.rest (sym c.if-is_empty.ensures) (c.in_err-one.ensures.err known) in
    search rules

pub blocks-returns-clause-ok : goal.blocks-returns-clause-ok
blocks-returns-clause-ok t c =
    within_is c.args.levels c.args.end c.args.text.now ∙ sym c.loop-turn.invariant.1
    ∙ blocks_done (element c.args.levels (content_within c.args.levels) c.args.end) c.args.end (length c.args.text.now) c.loop-turn._turn c.loop-turn.found c.loop-turn.rest.now c.loop-turn-test.false

pub element-returns-clause-ok : goal.element-returns-clause-ok
element-returns-clause-ok t c =
    let level = tag_has_level c.args.levels c.place_of-place.result c.in_ok-cut.cut.tag.now c.in_ok-tag.tag c.in_ok-tag.ensures.ok in
    let less = c.saturating_sub.ensures in
    let same : suc c.saturating_sub.result ≡ c.args.levels = omega (arith, level, less) in
    let content = rw same at c.in_ok-content.ensures.ok in
    rw c.in_ok-end_tag.ensures (element_is c.args.levels (content_within c.args.levels) c.args.end c.args.text.now c.place_of-place.result c.place_of-inside_end.result (cut_shown c.in_ok-cut.cut) _ _ c.place_of-place.ensures (c.place_of-inside_end.ensures ∙ ap (λ n. n - length c.in_ok-cut.cut.end_tag.now) c.place_of.ensures) c.in_ok-cut.ensures.ok c.in_ok-tag.ensures.ok content)

pub element-returns-in_err-cut-clause-err : goal.element-returns-in_err-cut-clause-err
element-returns-in_err-cut-clause-err t c =
    let fails : c.in_err-cut.field-0.0 ≢ NoMemory → element_within c.args.levels c.args.end c.args.text.now ≡ Err c.in_err-cut.field-0.0 =
    λ known.
    element_open c.args.levels (content_within c.args.levels) c.args.end c.args.text.now c.place_of-place.result _ c.place_of-place.ensures c.in_err-cut.ensures.err in
    search rules

pub element-returns-in_err-tag-clause-err : goal.element-returns-in_err-tag-clause-err
element-returns-in_err-tag-clause-err t c =
    let fails : c.in_err-tag.field-0.0 ≢ NoMemory → element_within c.args.levels c.args.end c.args.text.now ≡ Err c.in_err-tag.field-0.0 =
    λ known.
    element_tag_fails c.args.levels (content_within c.args.levels) c.args.end c.args.text.now c.place_of-place.result (cut_shown c.in_ok-cut.cut) _ c.place_of-place.ensures c.in_ok-cut.ensures.ok (c.in_err-tag.ensures.err known) in
    search rules

pub element-returns-in_err-content-clause-err : goal.element-returns-in_err-content-clause-err
element-returns-in_err-content-clause-err t c =
    let fails : c.in_err-content.field-0.0 ≢ NoMemory → element_within c.args.levels c.args.end c.args.text.now ≡ Err c.in_err-content.field-0.0 =
    λ known.
    let level = tag_has_level c.args.levels c.place_of-place.result c.in_ok-cut.cut.tag.now c.in_ok-tag.tag c.in_ok-tag.ensures.ok in
    let less = c.saturating_sub.ensures in
    let same : suc c.saturating_sub.result ≡ c.args.levels = omega (arith, level, less) in
    let content = rw same at (c.in_err-content.ensures.err known) in
    element_content_fails c.args.levels (content_within c.args.levels) c.args.end c.args.text.now c.place_of-place.result c.place_of-inside_end.result (cut_shown c.in_ok-cut.cut) _ _ c.place_of-place.ensures (c.place_of-inside_end.ensures ∙ ap (λ n. n - length c.in_ok-cut.cut.end_tag.now) c.place_of.ensures) c.in_ok-cut.ensures.ok c.in_ok-tag.ensures.ok content in
    search rules

pub element-blocks-requires : goal.element-blocks-requires
element-blocks-requires t c =
    let level = tag_has_level c.args.levels c.place_of-place.result c.in_ok-cut.cut.tag.now c.in_ok-tag.tag c.in_ok-tag.ensures.ok in
    let less = c.saturating_sub.ensures in
    let known = c.requires in
    (omega (arith, level, less, known), tt)
