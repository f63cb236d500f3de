use Rattle.std.proofs.Common.{◌≡◌, Bool, IfOk, sym, subst, ◌∙◌}
use Rattle.overlay_merge.proofs.LawLemmas.{has_no_kid, has_kid_there}
use Rattle.overlay_merge.proofs.kids.has_kid.Goals as goal

pub returns-then-not-known : goal.returns-then-not-known
returns-then-not-known c = sym (has_no_kid c.args.tree.now c.args.path.now c.args.layers.now c.args.name.now (sym c.in_ok-known.ensures ∙ c.if-not-known.true))

pub returns : goal.returns
returns c =
    subst (λ (there : Bool). IfOk c.is_there.result (λ b. b ≡ there))
    (sym (has_kid_there c.args.tree.now c.args.path.now c.args.layers.now c.args.name.now (sym c.in_ok-known.ensures ∙ c.if-not-known.false))) c.is_there.ensures
