use Rattle.std.proofs.Common.{Some, cond, sym, ◌∙◌, ap}
use Rattle.std.specs.Prelude.{string_bytes}
use Rattle.std.specs.Map.{lookup}
use Rattle.std.specs.Str.{bytes_eq}
use Rattle.std.proofs.lemmas.Map.Text.{hash_map_updates_text}
use Rattle.url_maps.proofs.ClaimLemmas.{lookup_shown}
use Rattle.url_maps.proofs.claims_change.ClaimsChange.set.Goals as goal

pub returns : goal.returns
returns c = λ t.
    lookup_shown string_bytes (bytes_eq t) c.insert.new.self.entries
    ∙ hash_map_updates_text (string_bytes c.in_ok-key.key) c.self.inside.rows c.insert.new.self (Some c.args.paths) c.in_ok-insert.ensures.updates t
    ∙ ap (λ b. cond (bytes_eq b t) (Some c.args.paths) (lookup (λ k. bytes_eq t (string_bytes k)) c.self.inside.rows.entries)) c.in_ok-key.ensures.ok
    ∙ ap (cond (bytes_eq c.args.text.now t) (Some c.args.paths)) (sym (lookup_shown string_bytes (bytes_eq t) c.self.inside.rows.entries) ∙ ap (lookup (bytes_eq t)) c.self.view_is)
