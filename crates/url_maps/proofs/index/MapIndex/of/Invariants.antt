use Rattle.std.proofs.Common.{take}
use Rattle.url_maps.specs.Claims.{claims_alias, claims_vanity_path}
use Rattle.url_maps.proofs.ClaimLemmas.{AreOfRows}
use Rattle.url_maps.proofs.index.MapIndex.of.Given as goal

abbrev pub invariant-loop-row : goal.invariant-loop-row
invariant-loop-row l = record {
  aliases : AreOfRows (λ r. r.0.now) (claims_alias l.tree) (take l.row-index l.rows) l.aliases.rows;
  vanity_paths : AreOfRows (λ r. r.0.now) (claims_vanity_path l.tree) (take l.row-index l.rows) l.vanity_paths.rows;
}
