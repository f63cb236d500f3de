use Rattle.std.proofs.Common.{◌≡◌, None, refl, subst}
use Rattle.page_index.specs.Held.{held_note}
use Rattle.page_index.proofs.IndexLemmas.{taken}
use Rattle.page_index.proofs.index.PageIndex.take.Goals as goal

pub returns-clause-forgets : goal.returns-clause-forgets
returns-clause-forgets c =
    let key = c.args.key.now in
    let young = c.take-young.new.self in
    let older = c.take-older.new.self in
    taken key c.args.self.now (record { young = young; older = older; stamps = c.args.self.now.stamps })
    (subst (λ p. held_note young p key ≡ None) c.place_of-place.ensures c.take-young.ensures.gone)
    (subst (λ p. held_note older p key ≡ None) c.place_of-place.ensures c.take-older.ensures.gone)
    c.take-young.ensures.others c.take-older.ensures.others refl
