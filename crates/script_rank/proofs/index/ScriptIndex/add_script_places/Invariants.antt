use Rattle.std.proofs.Common.{◌≡◌, ◌++◌, drop}
use Rattle.std.specs.Prelude.{flat_map}
use Rattle.resource_tree.specs.Content.{name_of}
use Rattle.script_rank.specs.ScriptPlaceSearch.{has_under, place_if}
use Rattle.script_rank.proofs.index.ScriptIndex.add_script_places.Given as goal

-- what is left to add
abbrev pub invariant-loop-place : goal.invariant-loop-place
invariant-loop-place l =
    l.script_places ++ flat_map (place_if (has_under l.self.scripts) (name_of l.name.segs)) (drop l.place-index l.place-items) ≡ l.fn.script_places ++ flat_map (place_if (has_under l.self.scripts) (name_of l.name.segs)) l.place-items
