use Rattle.std.proofs.Common.{Some, cond, sym, ◌∙◌, ap}
use Rattle.std.specs.Prelude.{string_bytes}
use Rattle.std.specs.Map.{lookup}
use Rattle.std.specs.Str.{bytes_eq}
use Rattle.std.proofs.lemmas.Map.Text.{hash_map_updates_text}
use Rattle.url_maps.proofs.ClaimLemmas.{lookup_shown}
use Rattle.url_maps.proofs.claims_change.ClaimsChange.put_row.Goals as goal

pub returns : goal.returns
returns c = λ t.
    lookup_shown string_bytes (bytes_eq t) c.insert.new.self.entries
    ∙ hash_map_updates_text (string_bytes c.args.text) c.self.inside.rows c.insert.new.self (Some c.args.paths) c.in_ok-insert.ensures.updates t
    ∙ ap (cond (bytes_eq (string_bytes c.args.text) t) (Some c.args.paths)) (sym (lookup_shown string_bytes (bytes_eq t) c.self.inside.rows.entries) ∙ ap (lookup (bytes_eq t)) c.self.view_is)
