use Rattle.std.proofs.Common.{◌∙◌, ℕ, List, sym, ap}
use Rattle.std.specs.Prelude.{◌||◌}
use Rattle.std.specs.List.{list_any}
use Rattle.std.specs.Str.{bytes_eq}
use Rattle.std.proofs.lemmas.List.{take_all}
use Rattle.url_maps.specs.Claims.{spells_vanity_path}
use Rattle.sp_base.specs.Properties.{value_texts}
use Rattle.url_maps.proofs.ClaimLemmas.{any_word, vanity_words}
use Rattle.url_maps.proofs.claimed.vanity_paths_of.Goals as goal

pub loop-word-init : goal.loop-word-init
loop-word-init c = λ t. ap (list_any (bytes_eq t)) c.new-claimed.ensures

pub loop-word-preserved : goal.loop-word-preserved
loop-word-preserved c = λ t.
    any_word (spells_vanity_path t) c.value_texts-words.result.now c.loop-word.word-index c.word-item.result _ _ c.loop-word-test.true c.word-item.is (c.loop-word.invariant t)
    (c.in_ok-push_vanity_path.ensures t ∙ ap (λ (w : List ℕ). list_any (bytes_eq t) c.loop-word.claimed || spells_vanity_path t w) c.text.ensures)

pub returns : goal.returns
returns c = λ t.
    let words = c.value_texts-words.result.now in
    c.loop-word.invariant t ∙ ap (list_any (spells_vanity_path t)) (take_all c.loop-word.word-index words c.loop-word-test.false)
    ∙ sym (vanity_words c.args.node.now words (c.value_texts-words.ensures ∙ ap value_texts c.get.ensures) t)
