use Rattle.std.proofs.Common.{◌≡◌, ◌++◌, ◌∷◌, [], sym, ap, ◌∙◌, subst}
use Rattle.serde_json.specs.Data.{string}
use Rattle.sp_base.specs.declared.value.Value.TheVariants.{Texts}
use Rattle.content_json.specs.Tokens.{HasItemMore}
use Rattle.content_json.proofs.ListLemmas.{more_texts, text_mixes}
use Rattle.content_json.proofs.tokens.with_text.Goals as goal

pub returns-in_ok-push-in-Texts : goal.returns-in_ok-push-in-Texts
returns-in_ok-push-in-Texts c =
    let texts = c.in-Texts.texts in
    let t = c.args.text.now in
    let grown : c.push.new.self ≡ texts ++ t ∷ [] = c.in_ok-push-in-Texts.ensures.ok ∙ ap (λ x. texts ++ x ∷ []) c.in_ok-of-in-Texts.ensures in
    subst (λ l. HasItemMore l (string t) (Texts c.push.new.self)) (sym c.in-Texts.is) (subst (λ xs. HasItemMore (Texts texts) (string t) (Texts xs)) (sym grown) (more_texts texts t))

pub returns-in_default : goal.returns-in_default
returns-in_default c = text_mixes c.args.list c.args.text.now c.requires c.in_default.not-Texts
