use Rattle.std.proofs.Common.{◌≡◌, ℕ, List, take}
use Rattle.std.specs.List.{list_any}
use Rattle.std.specs.Str.{bytes_eq}
use Rattle.url_maps.specs.Claims.{spells_alias}
use Rattle.url_maps.proofs.claimed.aliases_of.Given as goal

abbrev pub invariant-loop-word : goal.invariant-loop-word
invariant-loop-word l = (t : List ℕ) → list_any (bytes_eq t) l.claimed ≡ list_any (spells_alias l.path t) (take l.word-index l.words)
