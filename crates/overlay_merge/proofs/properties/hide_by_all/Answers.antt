use Rattle.std.proofs.Common.{◌≡◌, ◌+◌, ◌++◌, ◌∷◌, [], take, not, sym, ◌∙◌, ap}
use Rattle.std.specs.FinMap.Entries.{where_key}
use Rattle.sp_base.specs.Names.{by_name}
use Rattle.overlay_merge.specs.Hiding.{text_stands_for}
use Rattle.std.proofs.lemmas.List.{take_more}
use Rattle.overlay_merge.proofs.PropertyLemmas.{hide_none, hide_more}
use Rattle.overlay_merge.proofs.properties.hide_by_all.Goals as goal

pub loop-text-init : goal.loop-text-init
loop-text-init c = hide_none c.args.props.now

pub loop-text-preserved : goal.loop-text-preserved
loop-text-preserved c =
    let texts = c.args.texts.now in
    let i = c.loop-text.text-index in
    let text = c.text-item.result in
    let more : take (i + 1) texts ≡ take i texts ++ text ∷ [] = take_more texts i text c.loop-text-test.true ∙ ap (λ t. take i texts ++ t ∷ []) (sym c.text-item.is) in
    hide_more (take i texts) (take (i + 1) texts) text c.args.props.now c.loop-text.props c.hide_by.new.props more c.loop-text.invariant
    (c.hide_by.ensures ∙ ap (λ t. where_key by_name (λ name. not (text_stands_for name t)) c.loop-text.props) c.text.ensures)
