use Rattle.std.proofs.Common.{◌∙◌, Some, cond, ap}
use Rattle.std.specs.Prelude.{is_some}
use Rattle.std.specs.Map.{lookup}
use Rattle.std.specs.Str.{bytes_eq}
use Rattle.url_maps.proofs.SiblingLemmas.{had_row}
use Rattle.url_maps.proofs.claims_change.ClaimsChange.put_empty_row.Goals as goal

pub returns-clause-rest : goal.returns-clause-rest
returns-clause-rest c = λ t.
    ap is_some (c.in_ok-set.ensures t ∙ ap (cond (bytes_eq c.args.text.now t) (Some c.new.result)) (c.take.ensures.rest t))
    ∙ had_row (bytes_eq c.args.text.now t) c.new.result (lookup (bytes_eq t) c.args.self.now)
