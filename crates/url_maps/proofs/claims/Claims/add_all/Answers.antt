use Rattle.std.proofs.Common.{ℕ, List, subst}
use Rattle.std.specs.Str.{bytes_eq}
use Rattle.url_maps.specs.Claims.{AddsClaims}
use Rattle.url_maps.proofs.ClaimLemmas.{words_more}
use Rattle.url_maps.proofs.claims.Claims.add_all.Goals as goal

pub loop-text-preserved : goal.loop-text-preserved
loop-text-preserved c =
    let path = c.args.path.now in
    let old = c.loop-text.self.rows in
    let new = c.add_unless_last.new.self.rows in
    words_more c.args.self.now.rows old new path bytes_eq c.args.texts.now c.loop-text.text-index c.text-item.result c.loop-text-test.true c.text-item.is c.loop-text.invariant
    (subst (λ (word : List ℕ). AddsClaims path (λ t. bytes_eq t word) old new) c.text.ensures c.in_ok-add_unless_last.ensures)
