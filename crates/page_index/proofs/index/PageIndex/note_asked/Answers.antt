use Rattle.std.proofs.Common.{◌≡◌, None, Some, refl, sym, ◌∙◌, subst, le_refl}
use Rattle.std.proofs.lemmas.Result.{on_err_weaker, on_ok_weaker}
use Rattle.page_index.specs.Effects.{SetsPage}
use Rattle.page_index.specs.Held.{held_note}
use Rattle.page_index.specs.Limits.{longest_kept}
use Rattle.page_index.specs.Notes.{page_noted}
use Rattle.page_index.proofs.IndexLemmas.{forgotten_set, none_lent, noted_older, taken_older, taken_set, with_older}
use Rattle.page_index.proofs.index.PageIndex.note_asked.Goals as goal

pub returns-in-Some-clause-ok : goal.returns-in-Some-clause-ok
returns-in-Some-clause-ok c =
    let key = c.args.key.now in
    let place = c.place_of-place.result in
    let old = c.args.self.now in
    let older = c.take.new.self in
    let new = c.settle.new.self in
    let note = c.in-Some.note in
    let young : held_note old.young place key ≡ None = sym c.get.ensures ∙ none_lent c.get.result (sym c.if-is_some.ensures) in
    let forgets = taken_older key place old older c.place_of-place.ensures young c.take.ensures.gone c.take.ensures.others in
    let noted : page_noted old key ≡ Some note = noted_older key place old (Some note) c.place_of-place.ensures young (sym c.in-Some.ensures.value) in
    on_ok_weaker c.settle.result
    (λ sets. subst (λ o. SetsPage key longest_kept o old new) (sym noted) (taken_set old (with_older old older) new key note (Some note) forgets (le_refl _) refl c.in-Some.ensures.key c.settle.ensures.weight sets))
    c.settle.ensures.ok

pub returns-in-Some-clause-err : goal.returns-in-Some-clause-err
returns-in-Some-clause-err c =
    let key = c.args.key.now in
    let place = c.place_of-place.result in
    let old = c.args.self.now in
    let older = c.take.new.self in
    let young : held_note old.young place key ≡ None = sym c.get.ensures ∙ none_lent c.get.result (sym c.if-is_some.ensures) in
    let forgets = taken_older key place old older c.place_of-place.ensures young c.take.ensures.gone c.take.ensures.others in
    on_err_weaker c.settle.result
    (λ sets. taken_set old (with_older old older) c.settle.new.self key c.in-Some.note None forgets (le_refl _) refl c.in-Some.ensures.key c.settle.ensures.weight sets)
    c.settle.ensures.err

pub returns-in-None-clause-ok : goal.returns-in-None-clause-ok
returns-in-None-clause-ok c =
    let key = c.args.key.now in
    let place = c.place_of-place.result in
    let old = c.args.self.now in
    let older = c.take.new.self in
    let young : held_note old.young place key ≡ None = sym c.get.ensures ∙ none_lent c.get.result (sym c.if-is_some.ensures) in
    let forgets = taken_older key place old older c.place_of-place.ensures young c.take.ensures.gone c.take.ensures.others in
    let noted : page_noted old key ≡ None = noted_older key place old None c.place_of-place.ensures young (sym c.take.ensures.value ∙ c.in-None.is) in
    subst (λ o. SetsPage key longest_kept o old (with_older old older)) (sym noted) (forgotten_set old (with_older old older) key longest_kept forgets)
