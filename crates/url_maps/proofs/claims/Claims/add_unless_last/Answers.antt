use Rattle.std.proofs.Common.{◌∙◌, ◌∷◌, [], ◌++◌, ap, cond, refl}
use Rattle.std.proofs.lemmas.Result.{on_ok_weaker}
use Rattle.std.specs.Str.{bytes_eq}
use Rattle.url_maps.specs.Claims.{claimants}
use Rattle.url_maps.proofs.ClaimLemmas.{added, not_added}
use Rattle.url_maps.proofs.claims.Claims.add_unless_last.Goals as goal

pub returns-then-is_last : goal.returns-then-is_last
returns-then-is_last c = not_added c.args.self.now.rows c.args.path.now c.args.text.now (rw c.get.ensures at (c.is_last.ensures c.if-is_last.true))

pub returns : goal.returns
returns c =
    let old = c.args.self.now.rows in
    let text = c.args.text.now in
    on_ok_weaker c.add.result
    (λ is. added old c.add.new.self.rows c.args.path.now text (λ t. is t ∙ ap (λ p. cond (bytes_eq text t) (claimants old t ++ p ∷ []) (claimants old t)) c.in_ok-duplicate.ensures) (λ t. bytes_eq t text) (λ t. refl))
    c.add.ensures
