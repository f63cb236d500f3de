use Rattle.std.proofs.Common.{take}
use Rattle.url_maps.specs.Claims.{claims_vanity_path}
use Rattle.url_maps.specs.Noting.{left_vanity_path}
use Rattle.url_maps.proofs.ChangeLemmas.{AreNoted}
use Rattle.url_maps.proofs.change.vanity_change.Given as goal

abbrev pub invariant-loop-place : goal.invariant-loop-place
invariant-loop-place l = AreNoted l.index.vanity_paths.rows l.patch (claims_vanity_path l.tree) left_vanity_path (take l.place l.patch) l.change
