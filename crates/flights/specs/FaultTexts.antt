-- How it is written that no flight is asked.
use Rattle.std.specs.Prelude.{ℕ, List, codes}
use Rattle.flights.specs.declared.flights.AskFault.{AskFault}
use Rattle.flights.specs.declared.flights.AskFault.TheVariants.{FullAir}

-- by its name
abbrev pub ask_fault_text : AskFault → List ℕ
ask_fault_text FullAir = codes "FullAir"
