use Rattle.std.proofs.Common.{◌≡◌, ◌+◌, List, ℕ, IfSome, take, slice_get, sym, subst}
use Rattle.sling_dispatch.proofs.Words.{words_push}
use Rattle.sling_dispatch.proofs.command.words_of.Goals as goal

pub loop-place-preserved : goal.loop-place-preserved
loop-place-preserved g c =
    let told = g.W.Words.told c.args.line.now in
    let place = c.loop-place.place in
    let more = words_push told c.loop-place.words place c.in-Some.word c.loop-place.invariant
    (subst (λ o. IfSome told (λ all. o ≡ slice_get all place)) c.in-Some.is c.in_ok-word.ensures) in
    subst (λ (w : List (List ℕ)). IfSome told (λ all. w ≡ take (place + 1) all)) (sym c.in_ok-push-in-Some.ensures.ok) more
