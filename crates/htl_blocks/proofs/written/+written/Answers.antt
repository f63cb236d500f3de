use Rattle.std.proofs.Common.{◌<◌, ◌∷◌, [], ◌∙◌, List, ℕ, length, get_or, rules, refl, sym, ap, subst, arith}
use Rattle.std.specs.List.{flat_map}
use Rattle.htl_expr.specs.Bindings.{Bindings, with_vars}
use Rattle.htl_expr.specs.Variables.{vars_of}
use Rattle.htl_expr.proofs.VariableLemmas.{with_one}
use Rattle.htl_blocks.specs.Settings.{seen_at}
use Rattle.htl_blocks.specs.declared.block.Block.{Block}
use Rattle.htl_blocks.specs.declared.piece.Round.{Round as RoundOf}
use Rattle.htl_blocks.specs.Parts.{Round}
use Rattle.htl_blocks.specs.Sheets.{Stops}
use Rattle.htl_blocks.specs.Written.{block_parts, blocks_parts, body_parts, round_parts, with_variable, within_room}
use Rattle.htl_blocks.proofs.WrittenLemmas.{each_stopped, inner_setting, item_is, item_there, setting_stays, round_item, round_written, same_scope}
use Rattle.htl_blocks.specs.VariableRoom.{HasVariableRoom}
use Rattle.htl_blocks.proofs.RoomLemmas.{item_stops}
use Rattle.htl_blocks.proofs.SheetLemmas.{stopped}
use Rattle.htl_blocks.proofs.ElementSteps.{repeated_some, tags_written, tags_stop, between_stops, block_element}
use Rattle.htl_blocks.proofs.written.+written.Goals as goal

pub block-returns-in-Element : goal.block-returns-in-Element
block-returns-in-Element t c =
    block_element c.element.result c.args.sheet.now c.element.new.sheet c.args.one.now _ _ _ (seen_at c.args.sheet.now.scope c.args.setting.now) c.in-Element.is (rw (c.get.ensures, c.as_slice.ensures, c.text.ensures) at c.element.ensures)

pub for_items-returns-in_err-open_tag : goal.for_items-returns-in_err-open_tag
for_items-returns-in_err-open_tag t c =
    let stops = tags_stop c.in_err-open_tag.field-0.0 c.args.sheet.now c.keeps_tags.new.sheet c.open_tag.new.sheet (vars_of c.args.setting.now.vars.now) c.in_ok-keeps.keeps c.args.tags.now.start.now c.args.tags.now.end.now (λ (s : Bindings). flat_map (round_parts c.args.repetition.now.name.now (λ (s : Bindings). body_parts c.args.repetition.now.body.now (λ (s : Bindings). blocks_parts s c.args.content.now) s) s) c.args.repetition.now.items) _ c.keeps_tags.ensures.sheet c.in_ok-keeps.ensures.keeps (repeated_some c.args.repetition.now.name.now (λ (s : Bindings). body_parts c.args.repetition.now.body.now (λ (s : Bindings). blocks_parts s c.args.content.now) s) (seen_at c.args.sheet.now.scope c.args.setting.now) c.args.repetition.now.items (λ none. c.if-len-eq0.false (c.len.ensures ∙ none))) c.in_err-open_tag.ensures in
    search rules

pub for_items-returns-in_err-rounds : goal.for_items-returns-in_err-rounds
for_items-returns-in_err-rounds t c =
    let stops = between_stops c.in_err-rounds.field-0.0 c.args.sheet.now c.keeps_tags.new.sheet c.open_tag.new.sheet c.rounds.new.sheet (vars_of c.args.setting.now.vars.now) c.in_ok-keeps.keeps c.args.tags.now.start.now c.args.tags.now.end.now (λ (s : Bindings). flat_map (round_parts c.args.repetition.now.name.now (λ (s : Bindings). body_parts c.args.repetition.now.body.now (λ (s : Bindings). blocks_parts s c.args.content.now) s) s) c.args.repetition.now.items) _ c.keeps_tags.ensures.sheet c.in_ok-keeps.ensures.keeps c.in_ok-open_tag.ensures (repeated_some c.args.repetition.now.name.now (λ (s : Bindings). body_parts c.args.repetition.now.body.now (λ (s : Bindings). blocks_parts s c.args.content.now) s) (seen_at c.args.sheet.now.scope c.args.setting.now) c.args.repetition.now.items (λ none. c.if-len-eq0.false (c.len.ensures ∙ none))) c.in_err-rounds.ensures in
    search rules

pub for_items-returns : goal.for_items-returns
for_items-returns t c =
    tags_written c.close_tag.result c.args.sheet.now c.keeps_tags.new.sheet c.open_tag.new.sheet c.rounds.new.sheet c.close_tag.new.sheet (vars_of c.args.setting.now.vars.now) c.in_ok-keeps.keeps c.args.tags.now.start.now c.args.tags.now.end.now (λ (s : Bindings). flat_map (round_parts c.args.repetition.now.name.now (λ (s : Bindings). body_parts c.args.repetition.now.body.now (λ (s : Bindings). blocks_parts s c.args.content.now) s) s) c.args.repetition.now.items) _ c.keeps_tags.ensures.sheet c.in_ok-keeps.ensures.keeps c.in_ok-open_tag.ensures c.in_ok-rounds.ensures (repeated_some c.args.repetition.now.name.now (λ (s : Bindings). body_parts c.args.repetition.now.body.now (λ (s : Bindings). blocks_parts s c.args.content.now) s) (seen_at c.args.sheet.now.scope c.args.setting.now) c.args.repetition.now.items (λ none. c.if-len-eq0.false (c.len.ensures ∙ none))) c.close_tag.ensures

pub once-returns-in_err-open_tag : goal.once-returns-in_err-open_tag
once-returns-in_err-open_tag t c =
    let stops = tags_stop c.in_err-open_tag.field-0.0 c.args.sheet.now c.keeps_tags.new.sheet c.open_tag.new.sheet (vars_of c.args.setting.now.vars.now) c.in_ok-keeps.keeps c.args.tags.now.start.now c.args.tags.now.end.now (λ (s : Bindings). body_parts c.args.tags.now.start.now.attributes.body (λ (s : Bindings). blocks_parts s c.args.content.now) s) _ c.keeps_tags.ensures.sheet c.in_ok-keeps.ensures.keeps refl c.in_err-open_tag.ensures in
    search rules

pub once-returns-in_err-inside : goal.once-returns-in_err-inside
once-returns-in_err-inside t c =
    let stops = between_stops c.in_err-inside.field-0.0 c.args.sheet.now c.keeps_tags.new.sheet c.open_tag.new.sheet c.inside.new.sheet (vars_of c.args.setting.now.vars.now) c.in_ok-keeps.keeps c.args.tags.now.start.now c.args.tags.now.end.now (λ (s : Bindings). body_parts c.args.tags.now.start.now.attributes.body (λ (s : Bindings). blocks_parts s c.args.content.now) s) _ c.keeps_tags.ensures.sheet c.in_ok-keeps.ensures.keeps c.in_ok-open_tag.ensures refl c.in_err-inside.ensures in
    search rules

pub once-returns : goal.once-returns
once-returns t c =
    tags_written c.close_tag.result c.args.sheet.now c.keeps_tags.new.sheet c.open_tag.new.sheet c.inside.new.sheet c.close_tag.new.sheet (vars_of c.args.setting.now.vars.now) c.in_ok-keeps.keeps c.args.tags.now.start.now c.args.tags.now.end.now (λ (s : Bindings). body_parts c.args.tags.now.start.now.attributes.body (λ (s : Bindings). blocks_parts s c.args.content.now) s) _ c.keeps_tags.ensures.sheet c.in_ok-keeps.ensures.keeps c.in_ok-open_tag.ensures c.in_ok-inside.ensures refl c.close_tag.ensures

pub blocks-returns-in_err-block : goal.blocks-returns-in_err-block
blocks-returns-in_err-block t c =
    let w = subst (λ (s : Bindings). Stops c.in_err-block.field-0.0 c.loop-one.sheet (block_parts c.one-item.result (with_vars s (vars_of c.args.setting.now.vars.now)))) (same_scope c.args.sheet.now c.loop-one.sheet _ c.loop-one.invariant) c.in_err-block.ensures in
    let stops = each_stopped (λ (b : Block). block_parts b (seen_at c.args.sheet.now.scope c.args.setting.now)) c.in_err-block.field-0.0 c.args.sheet.now c.loop-one.sheet c.block.new.sheet c.args.all.now c.loop-one.one-index c.one-item.result c.one-item.result c.loop-one-test.true c.one-item.is c.loop-one.invariant w in
    search rules

pub rounds-returns-in_err-round : goal.rounds-returns-in_err-round
rounds-returns-in_err-round t c =
    let len = c.len-index-end.ensures in
    let test = c.loop-index-test.true in
    let lt : c.loop-index.index < length c.args.repetition.now.items = omega (arith, len, test) in
    let item = get_or c.args.repetition.now.items c.loop-index.index [] in
    let w = subst (λ (s : Bindings). Stops c.in_err-round.field-0.0 c.loop-index.sheet (round_parts c.args.repetition.now.name.now (λ (s : Bindings). body_parts c.args.repetition.now.body.now (λ (s : Bindings). blocks_parts s c.args.content.now) s) (with_vars s (vars_of c.args.setting.now.vars.now)) item)) (same_scope c.args.sheet.now c.loop-index.sheet _ c.loop-index.invariant) c.in_err-round.ensures in
    let stops = each_stopped (round_parts c.args.repetition.now.name.now (λ (s : Bindings). body_parts c.args.repetition.now.body.now (λ (s : Bindings). blocks_parts s c.args.content.now) s) (seen_at c.args.sheet.now.scope c.args.setting.now)) c.in_err-round.field-0.0 c.args.sheet.now c.loop-index.sheet c.round.new.sheet c.args.repetition.now.items c.loop-index.index [] item lt refl c.loop-index.invariant w in
    search rules

pub round-inside-requires : goal.round-inside-requires
round-inside-requires t c =
    let one : RoundOf = record { list = c.args.repetition.now.list; name = c.args.repetition.now.name; index = c.args.index } in
    let there = sym c.in-Some.is ∙ c.in_ok-item.ensures.ok in
    let outer = setting_stays c.args.sheet.now c.begin_round.new.self (Round ∷ []) c.args.setting.now.frame.now.rounds (vars_of c.args.setting.now.vars.now) c.in_ok-begin_round.ensures.parts c.requires.setting in
    let is = c.text.ensures ∙ round_item c.args.sheet.now c.begin_round.new.self (Round ∷ []) (vars_of c.args.setting.now.vars.now) one c.args.repetition.now.items c.in-Some.item c.in_ok-begin_round.ensures.parts c.requires.items there in
    let inner = inner_setting c.begin_round.new.self.scope c.args.setting.now.frame.now.rounds c.in_ok-frame.frame.rounds one (vars_of c.args.setting.now.vars.now) c.text.result.now outer c.in_ok-frame.ensures is in
    (search rules, inner ∙ ap (with_vars c.begin_round.new.self.scope) (sym (with_one c.args.repetition.now.name c.text.result c.args.setting.now.vars)))

pub round-returns-in_err-begin_round : goal.round-returns-in_err-begin_round
round-returns-in_err-begin_round t c =
    let inner = with_variable (seen_at c.args.sheet.now.scope c.args.setting.now) c.args.repetition.now.name.now (get_or c.args.repetition.now.items c.args.index []) in
    let stops = stopped c.in_err-begin_round.field-0.0 c.args.sheet.now c.begin_round.new.self c.begin_round.new.self (Round ∷ []) (within_room (λ (s : Bindings). body_parts c.args.repetition.now.body.now (λ (s : Bindings). blocks_parts s c.args.content.now) s) inner) c.in_err-begin_round.ensures.parts in
    search rules

pub round-returns-in_default : goal.round-returns-in_default
round-returns-in_default t c = absurd (item_there c.args.repetition.now.items c.args.index c.requires.index (sym c.in_default.is ∙ c.in_ok-item.ensures.ok))

pub round-returns-in_err-item : goal.round-returns-in_err-item
round-returns-in_err-item t c =
    let stops = item_stops c.in_err-item.field-0.0 c.args.sheet.now c.begin_round.new.self (λ (s : Bindings). body_parts c.args.repetition.now.body.now (λ (s : Bindings). blocks_parts s c.args.content.now) s) (vars_of c.args.setting.now.vars.now) c.args.repetition.now.name.now (get_or c.args.repetition.now.items c.args.index []) c.in_ok-begin_round.ensures.parts c.in_ok-begin_round.ensures.within c.in_err-item.ensures.err in
    search rules

pub round-returns : goal.round-returns
round-returns t c =
    let there = sym c.in-Some.is ∙ c.in_ok-item.ensures.ok in
    let same = item_is c.args.repetition.now.items c.args.index c.in-Some.item there in
    let is = c.text.ensures ∙ same in
    let fits = subst (HasVariableRoom c.args.repetition.now.name.now (vars_of c.args.setting.now.vars.now)) same (rw c.in-Some.is at c.in_ok-item.ensures.room) in
    round_written c.inside.result c.args.sheet.now c.begin_round.new.self c.inside.new.sheet (λ (s : Bindings). body_parts c.args.repetition.now.body.now (λ (s : Bindings). blocks_parts s c.args.content.now) s) (vars_of c.args.setting.now.vars.now) _ c.args.repetition.now.name.now (get_or c.args.repetition.now.items c.args.index [])
    c.in_ok-begin_round.ensures.parts (with_one c.args.repetition.now.name c.text.result c.args.setting.now.vars ∙ ap (λ (x : List ℕ). (c.args.repetition.now.name.now, x) ∷ (vars_of c.args.setting.now.vars.now)) is) fits c.inside.ensures
