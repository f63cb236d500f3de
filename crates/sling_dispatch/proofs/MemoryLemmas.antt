-- The transcript of a scenario in which memory doesn't run out.
use Rattle.std.proofs.Common.{◌≡◌, ◌++◌, ℕ, List, [], ◌∷◌, Ok, map, refl, ap, sym, subst, ◌∙◌, append-nil}
use Rattle.std.specs.List.{filter_map}
use Rattle.run_laws.specs.Determined.{RunsWithMemoryAreOne, event_steps}
use Rattle.run_events.specs.Events.{Event, Run}
use Rattle.run_events.specs.States.{start_of}
use Rattle.replay_text.specs.EventLines.{IsEventLine, line_of}
use Rattle.replay_text.specs.Lines.{text_of_lines}
use Rattle.replay_text.specs.Scenario.{IsActs}
use Rattle.replay_text.specs.Transcript.{transcript}
use Rattle.replay_text.specs.declared.event_line.EventLine.{EventLine}
use Rattle.replay_text.specs.declared.scenario.Scenario.{Scenario}
use Rattle.sling_dispatch.specs.SessionsWithMemory.{SessionsWithMemoryAreOne}
use Rattle.sling_dispatch.specs.Runs.{IsSession, asked_publisher_host, sling_start, step_of}
use Rattle.sling_dispatch.proofs.SessionLemmas.{session_begins}

-- the first of acts is told by their bytes
abbrev pub TellsFirst : Type 0
TellsFirst = (lines rest : List ℕ) (acts : List EventLine) (act : EventLine) → IsActs lines acts → IsEventLine act → lines ≡ line_of act ++ 10 ∷ rest → (left : List EventLine) × (acts ≡ act ∷ left) × IsActs rest left

-- bytes are those of one list of acts
acts-one : TellsFirst → (bytes : List ℕ) (a b : List EventLine) → IsActs bytes a → IsActs bytes b → a ≡ b
acts-one law bytes [] [] one two = refl
acts-one law bytes [] (y ∷ b) one two =
    let found = law bytes (text_of_lines (map line_of b)) [] y one two.are.0 two.bytes_are in
    absurd (let none : [] ≡ y ∷ found.0 = found.1 in let no : ⊥ = cc in no)
acts-one law bytes (x ∷ a) b one two =
    let found = law bytes (text_of_lines (map line_of a)) b x two one.are.0 one.bytes_are in
    let rest = acts-one law (text_of_lines (map line_of a)) a found.0 (record { are = one.are.1; bytes_are = refl }) found.2 in
    ap (λ acts. x ∷ acts) rest ∙ sym found.1

-- the second session begins and goes on as the first
pub record Alike (s : Scenario) (a b : List Event) (one : IsSession s [] a) : Type 0 where
  pub steps : event_steps a ≡ event_steps b
  pub run : Run (start_of (sling_start one.farm one.tree)) b

pub sessions-alike : TellsFirst → (s : Scenario) (a b : List Event) (one : IsSession s [] a) → IsSession s [] b → Alike s a b one
sessions-alike first s a b one two =
    let trees : Ok one.tree ≡ Ok two.tree = sym one.reads ∙ two.reads in
    let tree : one.tree ≡ two.tree = cc in
    let farms : Ok one.farm ≡ Ok two.farm = sym one.farm_reads ∙ two.farm_reads in
    let farm : one.farm ≡ two.farm = cc in
    let all : one.made ++ [] ≡ two.made ++ [] = acts-one first s.acts (one.made ++ []) (two.made ++ []) one.acts two.acts in
    let made : one.made ≡ two.made = sym (append-nil one.made) ∙ all ∙ append-nil two.made in
    record {
      steps = one.steps ∙ ap (λ acts. filter_map (step_of (asked_publisher_host one.farm)) acts) made ∙ ap (λ f. filter_map (step_of (asked_publisher_host f)) two.made) farm ∙ sym two.steps;
      run = subst (λ f. Run (start_of (sling_start f one.tree)) b) (sym farm) (subst (λ t. Run (start_of (sling_start two.farm t)) b) (sym tree) two.run);
    }

pub sessions-with-memory : TellsFirst → RunsWithMemoryAreOne → SessionsWithMemoryAreOne
sessions-with-memory first runs s a b one two ends determined other_determined =
    let alike = sessions-alike first s a b one two in
    ap transcript (runs (sling_start one.farm one.tree) a b (session_begins one.farm one.tree) one.run alike.run alike.steps ends determined other_determined)
