use Rattle.std.proofs.Common.{◌∙◌, ℕ, List, sym, ap}
use Rattle.std.specs.Prelude.{◌||◌}
use Rattle.std.specs.List.{list_any}
use Rattle.std.specs.Str.{bytes_eq}
use Rattle.std.proofs.lemmas.List.{take_all}
use Rattle.url_maps.specs.Claims.{spells_alias}
use Rattle.sp_base.specs.Properties.{value_texts}
use Rattle.url_maps.proofs.ClaimLemmas.{any_word, below_claims, root_claims_none}
use Rattle.url_maps.proofs.claimed.aliases_of.Goals as goal

pub returns-then-depth-eq0 : goal.returns-then-depth-eq0
returns-then-depth-eq0 c = λ t. ap (list_any (bytes_eq t)) c.new-claimed.ensures ∙ sym (root_claims_none c.args.path.now c.args.node.now (sym c.depth.ensures.depth ∙ c.if-depth-eq0.true) t)

pub loop-word-init : goal.loop-word-init
loop-word-init c = λ t. ap (list_any (bytes_eq t)) c.new-claimed.ensures

pub loop-word-preserved : goal.loop-word-preserved
loop-word-preserved c = λ t.
    any_word (spells_alias c.args.path.now t) c.value_texts-words.result.now c.loop-word.word-index c.word-item.result _ _ c.loop-word-test.true c.word-item.is (c.loop-word.invariant t)
    (c.in_ok-push_alias.ensures t ∙ ap (λ (w : List ℕ). list_any (bytes_eq t) c.loop-word.claimed || spells_alias c.args.path.now t w) c.text.ensures)

pub returns : goal.returns
returns c = λ t.
    let words = c.value_texts-words.result.now in
    c.loop-word.invariant t ∙ ap (list_any (spells_alias c.args.path.now t)) (take_all c.loop-word.word-index words c.loop-word-test.false)
    ∙ sym (below_claims c.args.path.now c.args.node.now words (λ e. c.if-depth-eq0.false (c.depth.ensures.depth ∙ e)) (c.value_texts-words.ensures ∙ ap value_texts c.get.ensures) t)
