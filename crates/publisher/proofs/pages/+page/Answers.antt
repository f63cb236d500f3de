use Rattle.std.proofs.Common.{rules, ◌≢◌, ◌∙◌, ◌-◌, None, Some, List, sym, ap, subst}
use Rattle.resource_tree.specs.Content.{Content}
use Rattle.overlay_merge.specs.Merged.{merged_alone}
use Rattle.htl_expr.specs.Bindings.{Bindings}
use Rattle.htl_expr.specs.Variables.{lent_pairs, vars_of}
use Rattle.htl_expr.proofs.VariableLemmas.{none_are, pairs_are}
use Rattle.htl_blocks.specs.Parts as part
use Rattle.htl_blocks.specs.declared.piece.Piece.{Piece}
use Rattle.htl_blocks.specs.Pieces.{piece_parts, pieces_parts, within}
use Rattle.htl_blocks.specs.Written.{blocks_parts}
use Rattle.publisher.specs.Waits.{IsLeastOf, nothing}
use Rattle.publisher.specs.Gathering.{Gathered, IsPassed, PassLimits, bindings_in, inclusion_in, setting_in}
use Rattle.publisher.specs.declared.page_fault.PageFault.TheVariants.{NoMemory}
use Rattle.publisher.specs.Pages.{inclusion, joined, parts_page, text_page, written_page}
use Rattle.publisher.proofs.PageLemmas.{gathered_alone, parts_none, text_is}
use Rattle.publisher.proofs.PageSteps.{all_left, blocks_written, by_step, deep_stops, each_more, each_stopped, nothing_more, one_less, pieces_stop, resource_step, resource_stopped, resource_written, room_stop, rounds_stop, script_step, script_stopped, script_written, shown_step, written_for}
use Rattle.publisher.proofs.pages.+page.Goals as goal

pub include_resource-returns-then-setting-eq0-clause-page : goal.include_resource-returns-then-setting-eq0-clause-page
include_resource-returns-then-setting-eq0-clause-page t c known =
    let s = c.args.setting.now in
    deep_stops s.waiting s.content.now s.levels (setting_in s) (part.Resource c.args.name.now) c.args.page.now c.if-setting-eq0.true

pub include_resource-returns-in_default-clause-page : goal.include_resource-returns-in_default-clause-page
include_resource-returns-in_default-clause-page t c =
    let s = c.args.setting.now in
    nothing_more c.args.page.now (inclusion_in s (part.Resource c.args.name.now))
    (resource_step s.content.now s.levels (setting_in s) c.args.name.now None c.if-setting-eq0.false (sym c.in_default.is ∙ c.in_ok-path.ensures))

pub include_resource-returns-in_default-2-clause-page : goal.include_resource-returns-in_default-2-clause-page
include_resource-returns-in_default-2-clause-page t c =
    let s = c.args.setting.now in
    nothing_more c.args.page.now (inclusion_in s (part.Resource c.args.name.now))
    (resource_step s.content.now s.levels (setting_in s) c.args.name.now (Some c.in-Some.path) c.if-setting-eq0.false (sym c.in-Some.is ∙ c.in_ok-path.ensures)
    ∙ ap (written_page (inclusion s.content.now (s.levels - 1))) (shown_step s.content.now c.in-Some.path None (sym c.in_default-2.is ∙ c.in_ok-res.ensures ∙ ap (λ (t : Content). merged_alone t c.in-Some.path) c.tree.ensures)))

pub include_resource-returns-in_default-3-clause-page : goal.include_resource-returns-in_default-3-clause-page
include_resource-returns-in_default-3-clause-page t c =
    let s = c.args.setting.now in
    nothing_more c.args.page.now (inclusion_in s (part.Resource c.args.name.now))
    (resource_step s.content.now s.levels (setting_in s) c.args.name.now (Some c.in-Some.path) c.if-setting-eq0.false (sym c.in-Some.is ∙ c.in_ok-path.ensures)
    ∙ ap (written_page (inclusion s.content.now (s.levels - 1)))
    (shown_step s.content.now c.in-Some.path (Some c.in-Some-2.res) (sym c.in-Some-2.is ∙ c.in_ok-res.ensures ∙ ap (λ (t : Content). merged_alone t c.in-Some.path) c.tree.ensures) ∙ by_step s.content.now c.in-Some-2.res None (sym c.in_default-3.is ∙ c.in_ok-script.ensures)))

pub include_resource-returns-clause-page : goal.include_resource-returns-clause-page
include_resource-returns-clause-page t c =
    let s = c.args.setting.now in
    let old = c.args.page.now in
    let new = c.write_script.new.page in
    let inner = inclusion s.content.now (s.levels - 1) in
    let is = resource_step s.content.now s.levels (setting_in s) c.args.name.now (Some c.in-Some.path) c.if-setting-eq0.false (sym c.in-Some.is ∙ c.in_ok-path.ensures)
    ∙ ap (written_page inner)
    (shown_step s.content.now c.in-Some.path (Some c.in-Some-2.res) (sym c.in-Some-2.is ∙ c.in_ok-res.ensures ∙ ap (λ (t : Content). merged_alone t c.in-Some.path) c.tree.ensures) ∙ by_step s.content.now c.in-Some-2.res (Some c.in-Some-3.script) (sym c.in-Some-3.is ∙ c.in_ok-script.ensures)) in
    subst (Gathered s.waiting c.write_script.result old new) (sym is)
    (written_for s.waiting c.write_script.result inner s.content.now c.in-Some-2.res c.in-Some-3.script c.path-2.result.now c.props.result.now _ old new c.path-2.ensures c.props.ensures none_are c.write_script.ensures.page)

pub include_script-returns-then-setting-eq0-clause-page : goal.include_script-returns-then-setting-eq0-clause-page
include_script-returns-then-setting-eq0-clause-page t c known =
    let s = c.args.setting.now in
    deep_stops s.waiting s.content.now s.levels (setting_in s) (part.Script c.args.name.now (vars_of c.args.vars.now)) c.args.page.now c.if-setting-eq0.true

pub include_script-returns-in_default-clause-page : goal.include_script-returns-in_default-clause-page
include_script-returns-in_default-clause-page t c =
    let s = c.args.setting.now in
    nothing_more c.args.page.now (inclusion_in s (part.Script c.args.name.now (vars_of c.args.vars.now)))
    (script_step s.content.now s.levels (setting_in s) c.args.name.now (vars_of c.args.vars.now) c.in_ok-folder.folder None c.if-setting-eq0.false c.in_ok-folder.ensures (sym c.in_default.is ∙ c.in_ok-script.ensures))

pub include_script-returns-clause-page : goal.include_script-returns-clause-page
include_script-returns-clause-page t c =
    let s = c.args.setting.now in
    subst (Gathered s.waiting c.write_script.result c.args.page.now c.write_script.new.page)
    (sym (script_step s.content.now s.levels (setting_in s) c.args.name.now (vars_of c.args.vars.now) c.in_ok-folder.folder (Some c.in-Some.script) c.if-setting-eq0.false c.in_ok-folder.ensures (sym c.in-Some.is ∙ c.in_ok-script.ensures)))
    c.write_script.ensures.page

pub write_blocks-returns-in_err-list-clause-page : goal.write_blocks-returns-in_err-list-clause-page
write_blocks-returns-in_err-list-clause-page t c =
    let s = c.args.setting.now in
    let f = c.in_err-list.field-0.0 in
    let stops = pieces_stop s.waiting f (inclusion_in s) c.args.page.now (blocks_parts (bindings_in s) c.args.blocks.now)
    (subst (λ (b : Bindings). f ≢ NoMemory → PassLimits (blocks_parts b c.args.blocks.now)) c.scope_in-scope.ensures c.in_err-list.ensures.over) in
    search rules

pub write_blocks-returns-in_err-count_rounds-clause-page : goal.write_blocks-returns-in_err-count_rounds-clause-page
write_blocks-returns-in_err-count_rounds-clause-page t c =
    let s = c.args.setting.now in
    let count = c.rounds.ensures ∙ c.in_ok-list.ensures.rounds ∙ ap (λ (b : Bindings). part.rounds (blocks_parts b c.args.blocks.now)) c.scope_in-scope.ensures in
    let stops = rounds_stop s.waiting c.in_err-count_rounds.field-0.0 (inclusion_in s) c.args.page.now (blocks_parts (bindings_in s) c.args.blocks.now) c.rounds.result count c.in_err-count_rounds.ensures in
    search rules

pub write_blocks-returns-in_err-needs_room-clause-page : goal.write_blocks-returns-in_err-needs_room-clause-page
write_blocks-returns-in_err-needs_room-clause-page t c =
    let s = c.args.setting.now in
    let parts = c.in_ok-list.ensures.parts ∙ ap (λ (b : Bindings). part.seen (blocks_parts b c.args.blocks.now)) c.scope_in-scope.ensures in
    let count = c.rounds.ensures ∙ c.in_ok-list.ensures.rounds ∙ ap (λ (b : Bindings). part.rounds (blocks_parts b c.args.blocks.now)) c.scope_in-scope.ensures in
    let stops = room_stop c.in_err-needs_room.field-0.0 s.waiting c.beside.result c.least_of-least.result (inclusion_in s) c.args.page.now c.count_rounds.new.self (blocks_parts (bindings_in s) c.args.blocks.now) _ c.rounds.result
    parts count c.in_ok-count_rounds.ensures c.least_of-least.ensures c.beside.ensures.text c.beside.ensures.inclusions c.in_err-needs_room.ensures in
    search rules

pub write_blocks-returns-clause-page : goal.write_blocks-returns-clause-page
write_blocks-returns-clause-page t c =
    let s = c.args.setting.now in
    let parts = c.in_ok-list.ensures.parts ∙ ap (λ (b : Bindings). part.seen (blocks_parts b c.args.blocks.now)) c.scope_in-scope.ensures in
    let count = c.rounds.ensures ∙ c.in_ok-list.ensures.rounds ∙ ap (λ (b : Bindings). part.rounds (blocks_parts b c.args.blocks.now)) c.scope_in-scope.ensures in
    blocks_written s.waiting c.write_pieces.result (inclusion_in s) c.args.page.now c.count_rounds.new.self c.write_pieces.new.page (blocks_parts (bindings_in s) c.args.blocks.now) _ c.rounds.result
    parts count c.in_ok-count_rounds.ensures c.write_pieces.ensures.page

pub write_piece-returns-in_err-count_inclusion-in-Script-clause-page : goal.write_piece-returns-in_err-count_inclusion-in-Script-clause-page
write_piece-returns-in_err-count_inclusion-in-Script-clause-page t c =
    let put = inclusion_in c.args.setting.now in
    let scope = c.args.list.now.scope in
    let f = c.in_err-count_inclusion-in-Script.field-0.0 in
    let stops = subst (λ (p : Piece). f ≢ NoMemory → IsPassed c.args.setting.now.waiting (joined c.args.page.now (parts_page put (piece_parts scope p)))) (sym c.in-Script.is)
    (script_stopped c.args.setting.now.waiting f put c.args.page.now c.in-Script.name (within scope c.in-Script.frame.rounds).vars c.in_err-count_inclusion-in-Script.ensures) in
    search rules

pub write_piece-returns-in_err-count_inclusion-in-Resource-clause-page : goal.write_piece-returns-in_err-count_inclusion-in-Resource-clause-page
write_piece-returns-in_err-count_inclusion-in-Resource-clause-page t c =
    let put = inclusion_in c.args.setting.now in
    let scope = c.args.list.now.scope in
    let f = c.in_err-count_inclusion-in-Resource.field-0.0 in
    let stops = subst (λ (p : Piece). f ≢ NoMemory → IsPassed c.args.setting.now.waiting (joined c.args.page.now (parts_page put (piece_parts scope p)))) (sym c.in-Resource.is)
    (resource_stopped c.args.setting.now.waiting f put c.args.page.now c.in-Resource.name c.in_err-count_inclusion-in-Resource.ensures) in
    search rules

pub write_piece-returns-in-Text-clause-page : goal.write_piece-returns-in-Text-clause-page
write_piece-returns-in-Text-clause-page t c =
    let put = inclusion_in c.args.setting.now in
    let scope = c.args.list.now.scope in
    gathered_alone c.args.setting.now.waiting c.push.result c.args.page.now c.push.new.self _
    (subst (Gathered nothing c.push.result c.args.page.now c.push.new.self)
    (ap text_page c.text.ensures ∙ sym (text_is put c.in-Text.text) ∙ ap (λ (p : Piece). parts_page put (piece_parts scope p)) (sym c.in-Text.is)) c.push.ensures)

pub write_piece-returns-in_ok-pairs-in-Script-clause-page : goal.write_piece-returns-in_ok-pairs-in-Script-clause-page
write_piece-returns-in_ok-pairs-in-Script-clause-page t c =
    let put = inclusion_in c.args.setting.now in
    let scope = c.args.list.now.scope in
    let old = c.args.page.now in
    let mid = c.count_inclusion.new.self in
    let new = c.include_script.new.page in
    let vars = pairs_are c.as_slice.result ∙ ap lent_pairs c.as_slice.ensures ∙ c.in_ok-pairs-in-Script.ensures ∙ c.in_ok-owned-in-Script.ensures in
    let more = subst (Gathered c.args.setting.now.waiting c.include_script.result mid new) (λ i. put (part.Script (c.text-in-Script.ensures i) (vars i))) c.include_script.ensures.page in
    subst (λ (p : Piece). Gathered c.args.setting.now.waiting c.include_script.result old new (parts_page put (piece_parts scope p))) (sym c.in-Script.is)
    (script_written c.args.setting.now.waiting c.include_script.result put old mid new c.in-Script.name (within scope c.in-Script.frame.rounds).vars c.in_ok-count_inclusion-in-Script.ensures more)

pub write_piece-returns-in_ok-count_inclusion-in-Resource-clause-page : goal.write_piece-returns-in_ok-count_inclusion-in-Resource-clause-page
write_piece-returns-in_ok-count_inclusion-in-Resource-clause-page t c =
    let put = inclusion_in c.args.setting.now in
    let scope = c.args.list.now.scope in
    let old = c.args.page.now in
    let mid = c.count_inclusion-in-Resource.new.self in
    let new = c.include_resource.new.page in
    let more = subst (Gathered c.args.setting.now.waiting c.include_resource.result mid new) (λ i. put (part.Resource (c.text-in-Resource.ensures i))) c.include_resource.ensures.page in
    subst (λ (p : Piece). Gathered c.args.setting.now.waiting c.include_resource.result old new (parts_page put (piece_parts scope p))) (sym c.in-Resource.is)
    (resource_written c.args.setting.now.waiting c.include_resource.result put old mid new c.in-Resource.name c.in_ok-count_inclusion-in-Resource.ensures more)

pub write_pieces-loop-piece-init : goal.write_pieces-loop-piece-init
write_pieces-loop-piece-init t c =
    let scope = c.args.list.now.scope in
    let items = c.pieces-piece-items.result.now in (
      record {
        written = nothing_more c.args.page.now _ (parts_none (inclusion_in c.args.setting.now));
        remains = all_left c.args.least (pieces_parts scope items) (subst (IsLeastOf c.args.least) (sym c.pieces-piece-items.ensures) c.requires.least);
      },
      c.requires.kept,
    )

pub write_pieces-returns-in_err-write_piece-clause-page : goal.write_pieces-returns-in_err-write_piece-clause-page
write_pieces-returns-in_err-write_piece-clause-page t c =
    let w = c.args.setting.now.waiting in
    let put = inclusion_in c.args.setting.now in
    let g = piece_parts c.args.list.now.scope in
    let f = c.in_err-write_piece.field-0.0 in
    let items = c.pieces-piece-items.result.now in
    let i = c.loop-piece.piece-index in
    let x = c.piece-item.result in
    let left = one_less g items i x x c.loop-piece.left c.size_of_piece.result c.without-left.result c.loop-piece-test.true c.piece-item.is (c.size_of_piece.ensures c.args.list.now.scope) c.without-left.ensures.text c.without-left.ensures.inclusions c.loop-piece.invariant.0.remains in
    let stops = subst (λ (ps : List part.Part). f ≢ NoMemory → IsPassed w (joined c.args.page.now (parts_page put ps))) c.pieces-piece-items.ensures
    (each_stopped w c.beside.result c.without-left.result put g f c.args.page.now c.loop-piece.page items i x x c.loop-piece-test.true c.piece-item.is c.loop-piece.invariant.0.written c.beside.ensures.text c.beside.ensures.inclusions left c.in_err-write_piece.ensures.page) in
    search rules

pub write_pieces-loop-piece-preserved : goal.write_pieces-loop-piece-preserved
write_pieces-loop-piece-preserved t c =
    let g = piece_parts c.args.list.now.scope in
    let items = c.pieces-piece-items.result.now in
    let i = c.loop-piece.piece-index in
    let x = c.piece-item.result in (
      record {
        written = each_more (inclusion_in c.args.setting.now) g c.args.page.now c.loop-piece.page c.write_piece.new.page items i x x c.loop-piece-test.true c.piece-item.is c.loop-piece.invariant.0.written c.in_ok-write_piece.ensures.page;
        remains = one_less g items i x x c.loop-piece.left c.size_of_piece.result c.without-left.result c.loop-piece-test.true c.piece-item.is (c.size_of_piece.ensures c.args.list.now.scope) c.without-left.ensures.text c.without-left.ensures.inclusions c.loop-piece.invariant.0.remains;
      },
      c.in_ok-write_piece.ensures.kept,
    )
