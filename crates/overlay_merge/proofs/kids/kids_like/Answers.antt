use Rattle.std.proofs.Common.{◌∷◌, ◌++◌, [], cond, sym, ap, ◌∙◌}
use Rattle.overlay_merge.proofs.kids.kids_like.Goals as goal

pub returns-then-not-listed : goal.returns-then-not-listed
returns-then-not-listed c = c.new-kids.ensures ∙ sym (ap (λ t. cond t (c.args.name.now ∷ []) []) (sym c.in_ok-listed.ensures ∙ c.if-not-listed.true))

pub returns : goal.returns
returns c =
    c.in_ok-push.ensures.ok ∙ ap (λ l. l ++ c.in_ok-of.field-0 ∷ []) c.new-kids.ensures ∙ ap (λ name. name ∷ []) c.in_ok-of.ensures
    ∙ sym (ap (λ t. cond t (c.args.name.now ∷ []) []) (sym c.in_ok-listed.ensures ∙ c.if-not-listed.false))
