use Rattle.resource_tree.specs.Patches.{patching_at}
use Rattle.url_maps.specs.Claims.{claims_vanity_path}
use Rattle.url_maps.specs.Changes.{patched_vanity_path}
use Rattle.url_maps.proofs.LeaderLemmas.{changed_led, others_led, rows_are_led}
use Rattle.url_maps.proofs.change.change_by.Goals as goal

pub returns : goal.returns
returns c =
    let tree = c.args.tree.now in
    let patch = c.args.patch.now in
    let at = patching_at tree patch in
    record {
      aliases = c.in_ok-siblings_change.ensures;
      vanity_paths = changed_led at (claims_vanity_path tree) (patched_vanity_path tree patch) c.in_ok-vanity_change.field-0 c.in_ok-put_leaders_first.field-0 c.in_ok-put_leaders_first.ensures c.in_ok-vanity_change.ensures.changed;
      others = others_led tree patch at c.in_ok-vanity_change.field-0 c.in_ok-put_leaders_first.field-0 c.in_ok-put_leaders_first.ensures c.in_ok-vanity_change.ensures.others;
      leaders = rows_are_led at c.in_ok-vanity_change.field-0 c.in_ok-put_leaders_first.field-0 c.in_ok-put_leaders_first.ensures;
      patterns = c.in_ok-patterns_change.ensures;
    }
