use Rattle.std.proofs.Common.{◌≡◌, ◌++◌, ◌∷◌, ◌∙◌, [], ap, sym, subst, drop}
use Rattle.std.specs.Prelude.{flat_map}
use Rattle.std.proofs.lemmas.Bool.{false≢true}
use Rattle.sp_base.specs.Bytes.{AreBytes}
use Rattle.replay_text.specs.Transcript.{quoted_byte}
use Rattle.replay_text.proofs.Escapes.{AreBytes-snoc, spelled-snoc, goes_on}
use Rattle.replay_text.proofs.quoted.unquoted.Goals as goal

pub loop-b-preserved : goal.loop-b-preserved
loop-b-preserved c =
    let b = c.in-Some-first_byte.b in
    let before = c.loop-b.bytes.items in
    let after = c.in-Some-first_byte.after.now in
    let kept : AreBytes (before ++ b ∷ []) = AreBytes-snoc before b c.loop-b.invariant.0 c.in-Some-first_byte.ensures.byte in
    let told : c.args.text.now ≡ 34 ∷ (flat_map quoted_byte (before ++ b ∷ []) ++ after) =
    c.loop-b.invariant.1
    ∙ ap (λ t. 34 ∷ (flat_map quoted_byte before ++ t)) c.in-Some-first_byte.ensures.some
    ∙ ap (λ t. 34 ∷ t) (sym (spelled-snoc before b after)) in
    subst (λ items. AreBytes items × (c.args.text.now ≡ 34 ∷ (flat_map quoted_byte items ++ after))) (sym c.in_ok-push.ensures.items) (kept, told)

pub returns-else-same-clause-none : goal.returns-else-same-clause-none
returns-else-same-clause-none c = λ bytes are e.
    let told = ap (drop 1) (sym c.loop-b.invariant.1 ∙ e) in
    let end = goes_on c.loop-b.bytes.items bytes c.loop-b.rest.now are c.in_default-first_byte.ensures.none told in
    false≢true (sym c.if-same.false ∙ c.same.ensures.1 end)
