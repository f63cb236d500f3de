use Rattle.std.proofs.Common.{take}
use Rattle.std.specs.List.{list_any}
use Rattle.std.specs.Str.{bytes_eq}
use Rattle.url_maps.specs.Claims.{AddsClaims}
use Rattle.url_maps.proofs.claims.Claims.add_all.Given as goal

abbrev pub invariant-loop-text : goal.invariant-loop-text
invariant-loop-text l = AddsClaims l.path (λ t. list_any (bytes_eq t) (take l.text-index l.texts)) l.fn.self.rows l.self.rows
