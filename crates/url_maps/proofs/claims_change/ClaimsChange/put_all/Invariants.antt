use Rattle.std.proofs.Common.{take}
use Rattle.std.specs.Prelude.{option_copied}
use Rattle.std.specs.List.{list_any}
use Rattle.std.specs.Str.{bytes_eq}
use Rattle.url_maps.specs.Siblings.{PutsRows}
use Rattle.url_maps.proofs.claims_change.ClaimsChange.put_all.Given as goal

abbrev pub invariant-loop-text : goal.invariant-loop-text
invariant-loop-text l = PutsRows (option_copied l.path) (λ t. list_any (bytes_eq t) (take l.text-index l.texts)) l.fn.self l.self
