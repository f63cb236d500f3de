use Rattle.std.proofs.Common.{◌≡◌, ◌++◌, drop}
use Rattle.std.specs.Prelude.{flat_map}
use Rattle.std.specs.List.{list_all}
use Rattle.sp_base.specs.Paths.{is_path}
use Rattle.type_chain.specs.ScriptPlaces.{script_places_of}
use Rattle.type_chain.proofs.script_places.type_script_places.Given as goal

-- what is left to add
abbrev pub invariant-loop-name : goal.invariant-loop-name
invariant-loop-name l =
    (l.script_places ++ flat_map (script_places_of l.tree) (drop l.name-index l.name-items) ≡ flat_map (script_places_of l.tree) l.name-items)
    × (list_all (λ type. is_path type.segs) l.name-items ≡ list_all (λ type. is_path type.segs) (drop l.name-index l.name-items))
