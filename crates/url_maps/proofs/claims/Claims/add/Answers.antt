use Rattle.url_maps.proofs.ClaimLemmas.{added_to}
use Rattle.url_maps.proofs.claims.Claims.add.Goals as goal

pub returns : goal.returns
returns c =
    added_to c.args.self.now.rows c.take-paths.new.self.rows c.set.new.self.rows c.args.text.now c.args.path c.take-paths.result c.push.new.self c.take-paths.ensures.value c.in_ok-push.ensures.ok c.take-paths.ensures.rest c.in_ok-set.ensures
