use Rattle.std.proofs.Common.{◌∙◌, sym}
use Rattle.script_rank.proofs.ScriptPlaceLemmas.{no_script_place}
use Rattle.script_rank.proofs.ranking.script_place_search.Goals as goal

pub returns-then-is_empty : goal.returns-then-is_empty
returns-then-is_empty g c = sym (no_script_place (g.S.Scripts.tells c.args.scripts.now) c.args.script_places.now c.args.parts.now (sym c.is_empty.ensures ∙ c.if-is_empty.true))
