use Rattle.std.proofs.Common.{◌≡◌, ◌++◌, drop}
use Rattle.std.specs.Prelude.{flat_map, option_copied}
use Rattle.std.specs.Option.{option_or}
use Rattle.resource_tree.specs.Content.{name_of}
use Rattle.type_chain.specs.Chain.{first_of, super_at}
use Rattle.type_chain.specs.ScriptPlaces.{script_place_at}
use Rattle.type_chain.proofs.script_places.visit_type.Given as goal

-- what is left to add and to look for
abbrev pub invariant-loop-place : goal.invariant-loop-place
invariant-loop-place l =
    (option_or (option_copied l.text) (first_of (super_at l.tree) (drop l.place-index l.place-items)) ≡ first_of (super_at l.tree) l.place-items)
    × (l.script_places ++ flat_map (script_place_at l.tree (name_of l.name.segs)) (drop l.place-index l.place-items) ≡ l.fn.script_places ++ flat_map (script_place_at l.tree (name_of l.name.segs)) l.place-items)
