-- What a session that was served leaves.
use Rattle.std.proofs.Common.{◌≡◌, ◌≢◌, ℕ, List, Option, refl, subst}
use Rattle.sp_outside.specs.Files.{Files}
use Rattle.any_config.specs.declared.farm.Farm.{Farm}
use Rattle.cache_log.specs.Rules.{IsLegal}
use Rattle.coherence_core.specs.Holds.{HoldsClosed}
use Rattle.run_events.specs.States.{RunState, Start, start_of}
use Rattle.run_events.specs.Events.{Event, Run, state_after_events}
use Rattle.run_laws.specs.Logs.{IsBeginning, log_after}
use Rattle.serve_loop.specs.declared.serving.ServeEnd.{ServeEnd}
use Rattle.serve_loop.specs.declared.serving.ServeEnd.TheVariants.{Turns, WorldFailed, NoMemory}
use Rattle.serve_loop.specs.Served.{DiskReport, HoldsAtEnd, HoldsWhatIsLeft, IsServed, LeavesLegalLog, WorldReport, left_log}
use Rattle.serve_loop.specs.Turns.{turn_events}
use Rattle.serve_loop.proofs.PartLemmas.{run_whole}

held_at : (end : ServeEnd) (told : Option Files) (w : RunState) → end ≢ NoMemory → HoldsAtEnd end told w → HoldsWhatIsLeft told w
held_at Turns told w ne held = held
held_at WorldFailed told w ne held = held
held_at NoMemory told w ne held = absurd (ne refl)

left_legal : (farm : Farm) (told : Option Files) (w : RunState) → w.farm ≡ farm → HoldsWhatIsLeft told w → IsLegal farm w.log → LeavesLegalLog farm told w
left_legal farm told w same held legal = record {
  files = held.files;
  told_is = held.told_is;
  holds = subst (λ (f : Farm). HoldsClosed f held.files (left_log w)) same held.holds;
  legal = subst (λ (f : Farm). IsLegal f w.log → IsLegal f (left_log w)) same held.legal legal;
}

pub leaves : ((s : Start) (events : List Event) → IsBeginning s → Run (start_of s) events → IsLegal s.farm (log_after s events))
    → ((w : RunState) (events : List Event) → (state_after_events w events).farm ≡ w.farm)
    → (s : Start) (limit : ℕ) (end : ServeEnd) (disk : DiskReport) (world : WorldReport) → IsBeginning s → (served : IsServed (start_of s) limit end disk world) → end ≢ NoMemory
    → LeavesLegalLog s.farm disk.new (state_after_events (start_of s) (turn_events served.turns))
leaves legal farm s limit end disk world begins served ne =
    let v = state_after_events (start_of s) (turn_events served.turns) in
    left_legal s.farm disk.new v (farm (start_of s) (turn_events served.turns)) (held_at end disk.new v ne served.held)
    (legal s (turn_events served.turns) begins (run_whole (start_of s) served.turns served.cut served.run))
