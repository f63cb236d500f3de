use Rattle.std.proofs.Common.{◌∙◌, ◌-◌, ap, length, sym, rules, tests}
use Rattle.std.specs.Option.{option_copied}
use Rattle.std.proofs.lemmas.Map.Keys.{any_passes_from_place}
use Rattle.resource_tree.specs.Content.{same_path}
use Rattle.url_maps.proofs.claims.is_last.Goals as goal

pub returns-in-Some : goal.returns-in-Some
returns-in-Some c is = any_passes_from_place (same_path c.args.path.now) c.args.paths.now (length c.args.paths.now - 1) c.in-Some.last.now (sym c.last.ensures.value ∙ ap option_copied c.in-Some.is) (search (rules, tests))
