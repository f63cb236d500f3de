use Rattle.std.proofs.Common.{refl, subst}
use Rattle.page_index.specs.Held.{weight_of}
use Rattle.page_index.proofs.IndexLemmas.{HasMadeRoom, settled}
use Rattle.page_index.proofs.index.PageIndex.settle.Goals as goal

pub returns-clause-ok : goal.returns-clause-ok
returns-clause-ok c =
    let old = c.args.self.now in
    let mid = c.make_room.new.self in
    let note = c.args.note in
    settled old mid (record { young = c.put.new.self; older = c.vacate.new.self; stamps = mid.stamps }) note c.args.place (weight_of note) c.requires.place
    (subst (λ n. HasMadeRoom n old mid) c.weight.ensures.value c.make_room.ensures.kept) c.make_room.ensures.stamps refl
    c.in_ok-put.ensures.here c.in_ok-put.ensures.displaced c.in_ok-put.ensures.beside c.vacate.ensures.gone c.vacate.ensures.beside
