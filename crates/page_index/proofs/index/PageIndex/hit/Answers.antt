use Rattle.std.proofs.Common.{◌≡◌, None, Some, option_map, ◌∙◌, ap, subst}
use Rattle.std.proofs.lemmas.Result.{on_err_weaker, on_ok_weaker}
use Rattle.page_index.specs.Effects.{SetsPage}
use Rattle.page_index.specs.Held.{after_hit}
use Rattle.page_index.specs.Limits.{longest_kept}
use Rattle.page_index.specs.Notes.{page_noted}
use Rattle.page_index.specs.declared.page_note.PageNote.{PageNote}
use Rattle.page_index.proofs.IndexLemmas.{taken_set}
use Rattle.page_index.proofs.index.PageIndex.hit.Goals as goal

pub returns-in_ok-counted-in-Some-clause-ok : goal.returns-in_ok-counted-in-Some-clause-ok
returns-in_ok-counted-in-Some-clause-ok c =
    let key = c.args.key.now in
    let old = c.args.self.now in
    let new = c.settle.new.self in
    let counted = c.in_ok-counted-in-Some.counted in
    let body = c.args.body.now in
    let is : counted ≡ after_hit body c.in-Some.note = c.in_ok-counted-in-Some.ensures.ok in
    let of : counted.key ≡ key = ap (λ (n : PageNote). n.key) is ∙ c.in-Some.ensures.key in
    let noted : Some counted ≡ option_map (after_hit body) (page_noted old key) = ap (λ n. Some n) is ∙ ap (option_map (after_hit body)) c.in-Some.ensures.value in
    on_ok_weaker c.settle.result
    (λ sets. subst (λ o. SetsPage key longest_kept o old new) noted (taken_set old c.take.new.self new key counted (Some counted) c.take.ensures.forgets c.take.ensures.fewer c.take.ensures.bytes of c.settle.ensures.weight sets))
    c.settle.ensures.ok

pub returns-in_ok-counted-in-Some-clause-err : goal.returns-in_ok-counted-in-Some-clause-err
returns-in_ok-counted-in-Some-clause-err c =
    let key = c.args.key.now in
    let counted = c.in_ok-counted-in-Some.counted in
    let is : counted ≡ after_hit c.args.body.now c.in-Some.note = c.in_ok-counted-in-Some.ensures.ok in
    on_err_weaker c.settle.result
    (λ sets. taken_set c.args.self.now c.take.new.self c.settle.new.self key counted None c.take.ensures.forgets c.take.ensures.fewer c.take.ensures.bytes (ap (λ (n : PageNote). n.key) is ∙ c.in-Some.ensures.key) c.settle.ensures.weight sets)
    c.settle.ensures.err
