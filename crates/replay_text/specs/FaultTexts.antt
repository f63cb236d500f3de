-- How it is written that bytes are no scenario.
use Rattle.std.specs.Prelude.{◌+◌, ◌++◌, ℕ, List, codes}
use Rattle.std.specs.Fmt.{decimal}
use Rattle.replay_text.specs.declared.scenario.ScenarioFault.{ScenarioFault}
use Rattle.replay_text.specs.declared.scenario.ScenarioFault.TheVariants.{Line, NoMemory}

-- by the line that is refused, counted from 1
abbrev pub scenario_fault_text : ScenarioFault → List ℕ
scenario_fault_text (Line before) = codes "scenario refused at line " ++ decimal (before + 1)
scenario_fault_text NoMemory = codes "Out of memory"
