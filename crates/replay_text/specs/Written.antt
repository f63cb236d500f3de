-- The text of a scenario, part by part.
use Rattle.std.specs.Prelude.{◌++◌, ℕ, List, [], Option, Some, None, codes}
use Rattle.replay_text.specs.declared.scenario.Scenario.{Scenario}

-- the lines about a farm
abbrev pub farm_part : Option (List ℕ) → List ℕ
farm_part None = []
farm_part (Some bytes) = codes "farm\n" ++ (bytes ++ codes ".\n")

-- the head, the content and its dot, the farm if there is one, the acts, and the end
abbrev pub scenario_text : Scenario → List ℕ
scenario_text s = codes "scenario 1\ncontent\n" ++ (s.content ++ (codes ".\n" ++ (farm_part s.farm ++ (s.acts ++ codes "end\n"))))
