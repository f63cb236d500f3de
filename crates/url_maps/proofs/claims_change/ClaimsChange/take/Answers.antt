use Rattle.std.proofs.Common.{None, cond, sym, ◌∙◌, ap}
use Rattle.std.specs.Prelude.{string_bytes}
use Rattle.std.specs.Map.{lookup}
use Rattle.std.specs.Str.{bytes_eq}
use Rattle.std.proofs.lemmas.Map.Text.{hash_map_updates_text}
use Rattle.url_maps.proofs.ClaimLemmas.{lookup_shown}
use Rattle.url_maps.proofs.claims_change.ClaimsChange.take.Goals as goal

pub returns-clause-value : goal.returns-clause-value
returns-clause-value c = c.swap_remove.ensures.value ∙ sym (lookup_shown string_bytes (bytes_eq c.args.text.now) c.self.inside.rows.entries) ∙ ap (lookup (bytes_eq c.args.text.now)) c.self.view_is

pub returns-clause-rest : goal.returns-clause-rest
returns-clause-rest c = λ t.
    lookup_shown string_bytes (bytes_eq t) c.swap_remove.new.self.entries
    ∙ hash_map_updates_text c.args.text.now c.self.inside.rows c.swap_remove.new.self None c.swap_remove.ensures.updates t
    ∙ ap (cond (bytes_eq c.args.text.now t) None) (sym (lookup_shown string_bytes (bytes_eq t) c.self.inside.rows.entries) ∙ ap (lookup (bytes_eq t)) c.self.view_is)
