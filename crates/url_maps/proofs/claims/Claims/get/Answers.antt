use Rattle.std.proofs.Common.{[], sym, ◌∙◌, ap}
use Rattle.std.specs.Prelude.{string_bytes}
use Rattle.std.specs.Map.{lookup}
use Rattle.std.specs.Option.{option_map_or}
use Rattle.std.specs.Str.{bytes_eq}
use Rattle.url_maps.specs.Claims.{Table}
use Rattle.url_maps.proofs.ClaimLemmas.{lookup_shown}
use Rattle.url_maps.proofs.claims.Claims.get.Goals as goal

pub returns-in-Some : goal.returns-in-Some
returns-in-Some c =
    c.as_slice.ensures
    ∙ ap (λ o. option_map_or (λ paths. paths) o [])
    (c.in-Some.ensures.value ∙ sym (lookup_shown string_bytes (bytes_eq c.args.text.now) c.self.inside.table.entries) ∙ ap (λ (v : Table). lookup (bytes_eq c.args.text.now) v.rows) c.self.view_is)

pub returns-in-None : goal.returns-in-None
returns-in-None c =
    ap (λ o. option_map_or (λ paths. paths) o [])
    (c.in-None.ensures.value ∙ sym (lookup_shown string_bytes (bytes_eq c.args.text.now) c.self.inside.table.entries) ∙ ap (λ (v : Table). lookup (bytes_eq c.args.text.now) v.rows) c.self.view_is)
