use Rattle.std.proofs.Common.{◌∙◌, ◌++◌, ◌∷◌, [], List, ℕ, sym, ap}
use Rattle.invalidation.proofs.PrefixLemmas.{no_rendering, rendering_is}
use Rattle.invalidation.proofs.prefixes.rendering_prefixes.Goals as goal

pub returns-in_ok-push-in-Some : goal.returns-in_ok-push-in-Some
returns-in_ok-push-in-Some c = λ handle e. c.in_ok-push-in-Some.ensures.ok ∙ ap (λ (ps : List (List ℕ)). ps ++ c.in_ok-joined-in-Some.field-0 ∷ []) c.new-prefixes.ensures ∙ ap (λ (p : List ℕ). [] ++ p ∷ []) c.in_ok-joined-in-Some.ensures ∙ sym (rendering_is handle c.in-Some.handle.now (e ∙ c.in-Some.ensures.some))

pub returns-in-None : goal.returns-in-None
returns-in-None c = λ handle e. c.new-prefixes.ensures ∙ sym (no_rendering handle (λ front ends. c.in-None.ensures.none front (sym e ∙ ends)))
