use Rattle.std.proofs.Common.{◌≡◌, ◌++◌, drop}
use Rattle.std.specs.Prelude.{flat_map}
use Rattle.std.specs.List.{list_all}
use Rattle.sp_base.specs.Paths.{is_path}
use Rattle.script_rank.specs.ScriptPlaceSearch.{has_under, kept_places_of}
use Rattle.script_rank.proofs.index.ScriptIndex.script_places.Given as goal

-- what is left to add
abbrev pub invariant-loop-name : goal.invariant-loop-name
invariant-loop-name l =
    (l.script_places ++ flat_map (kept_places_of (has_under l.self.scripts)) (drop l.name-index l.name-items) ≡ flat_map (kept_places_of (has_under l.self.scripts)) l.name-items)
    × (list_all (λ type. is_path type.segs) l.name-items ≡ list_all (λ type. is_path type.segs) (drop l.name-index l.name-items))
