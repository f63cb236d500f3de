use Rattle.std.proofs.Common.{List, sym, subst}
use Rattle.resource_tree.specs.Content.{node_at}
use Rattle.resource_tree.specs.Patches.{patching_at}
use Rattle.url_maps.specs.Claims.{IsIndexOf, claims_vanity_path}
use Rattle.url_maps.specs.Changes.{IsChangeOf, patched_vanity_path}
use Rattle.url_maps.proofs.ChangeLemmas.{claims_alike, claims_over, vanity_path_after}
use Rattle.url_maps.proofs.LeaderLemmas.{led_by_same, led_over}
use Rattle.url_maps.specs.declared.patterns.PatternNode.{PatternNode}
use Rattle.url_maps.specs.PatternRows.{ArePatterns}
use Rattle.url_maps.proofs.RowLemmas.{patterns_by, patterns_over}
use Rattle.url_maps.proofs.SiblingLemmas.{names_by, names_over}
use Rattle.url_maps.proofs.index.MapIndex.take.Goals as goal

pub returns : goal.returns
returns c = λ tree after patch is change shows.
    let old = subst (IsIndexOf tree) (sym c.self.view_is) is in
    let changed = subst (IsChangeOf tree patch) (sym c.change.view_is) change in
    record {
      aliases = names_by (patching_at tree patch) (node_at after) c.change-2.new.self.rows (λ q. sym (shows q))
          (names_over (node_at tree) (patching_at tree patch) c.change.inside.aliases c.self.inside.aliases.rows c.change-2.new.self.rows old.aliases changed.aliases c.change-2.ensures);
      vanity_paths = claims_alike (patched_vanity_path tree patch) (claims_vanity_path after) c.change-3.new.self.rows (vanity_path_after tree after patch shows)
          (claims_over (claims_vanity_path tree) (patched_vanity_path tree patch) c.change.inside.vanity_paths c.self.inside.vanity_paths.rows c.change-3.new.self.rows old.vanity_paths changed.vanity_paths c.change-3.ensures);
      leaders = led_by_same (patching_at tree patch) (node_at after) c.change-3.new.self.rows shows
          (led_over tree patch c.change.inside.vanity_paths c.self.inside.vanity_paths.rows c.change-3.new.self.rows old.vanity_paths old.leaders changed.others changed.leaders c.change-3.ensures);
      patterns = patterns_by (patching_at tree patch) (node_at after) c.put_patterns.new.patterns (λ q. sym (shows q))
          (subst (λ (rows : List PatternNode). ArePatterns (patching_at tree patch) rows) (sym c.put_patterns.ensures)
          (patterns_over (node_at tree) (patching_at tree patch) c.self.inside.patterns c.change.inside.patterns old.patterns changed.patterns));
    }
