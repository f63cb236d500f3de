use Rattle.std.proofs.Common.{rules, ◌≡◌, ◌∙◌, ◌<◌, sym, Bor, List, ℕ, length, map}
use Rattle.sp_base.proofs.ResultLemmas.{IfOk-then}
use Rattle.tree_draft.proofs.FallLemmas.{all_stand, standing_names-none, walked}
use Rattle.tree_draft.proofs.kid_list.standing_names.Goals as goal

pub returns-then-is_empty : goal.returns-then-is_empty
returns-then-is_empty c =
    IfOk-then c.lent_names.result (λ lent is. is ∙ sym (standing_names-none c.args.falls.now 0 c.args.names.now (c.is_empty.ensures.0 c.if-is_empty.true))) c.lent_names.ensures

pub loop-place-preserved : goal.loop-place-preserved
loop-place-preserved c =
    let within : c.loop-place.place < length c.args.names.now = search rules in
    walked c.args.falls.now c.args.names.now c.loop-place.place c.index-names-place.result (map (λ (w : Bor (List ℕ)). w.now) c.loop-place.lent.items) (map (λ (w : Bor (List ℕ)). w.now) c.push_standing.new.lent.items) within
    c.index-names-place.is
    c.in_ok-push_standing.ensures
    c.loop-place.invariant

pub returns : goal.returns
returns c =
    let at_end : c.loop-place.place ≡ length c.args.names.now = search rules in
    all_stand c.args.falls.now c.args.names.now c.loop-place.place (map (λ (w : Bor (List ℕ)). w.now) c.loop-place.lent.items) at_end c.loop-place.invariant
