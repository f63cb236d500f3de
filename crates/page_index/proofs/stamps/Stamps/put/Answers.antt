use Rattle.std.proofs.Common.{◌≡◌, None, ⊎_elim, ◌∙◌, ap}
use Rattle.std.proofs.lemmas.Result.{on_err_weaker}
use Rattle.page_index.specs.Held.{HeldStamps}
use Rattle.page_index.specs.Notes.{held_stamp}
use Rattle.page_index.proofs.StampLemmas.{gone_here}
use Rattle.page_index.proofs.stamps.Stamps.put.Goals as goal

pub returns-clause-err : goal.returns-clause-err
returns-clause-err c =
    let folder = c.args.folder in
    let gone : held_stamp c.make_room.new.self folder ≡ None =
    ⊎_elim (λ same. same ∙ c.forget.ensures.gone folder ∙ gone_here folder (held_stamp c.args.self.now folder)) (λ fell. fell.1) (c.make_room.ensures.kept folder) in
    on_err_weaker c.put_young.result (λ same. ap (λ (s : HeldStamps). held_stamp s folder) same ∙ gone) c.put_young.ensures.err
