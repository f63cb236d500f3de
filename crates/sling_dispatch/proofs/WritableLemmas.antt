-- The notes of a session are writable, so its transcript tells them.
use Rattle.std.proofs.Common.{◌≡◌, ◌+◌, ◌<◌, ◌≤◌, ◌++◌, ◌∙◌, ℕ, suc, List, [], ◌∷◌, Option, Some, None, map, length, codes, refl, ap, sym, subst, arith, length-append}
use Rattle.std.specs.List.{cons_option, filter_map}
use Rattle.sp_base.specs.declared.answer.Ask.{Ask}
use Rattle.resource_tree.specs.Content.{Content}
use Rattle.error_answers.specs.Errors.{error_answer}
use Rattle.publisher.specs.Rendering.{answer_to_request}
use Rattle.run_events.specs.declared.note.Note.{Note}
use Rattle.run_events.specs.declared.note.Note.TheVariants.{Answer as answered, Ask as asked, Hit, Local, Flush, Sliced, Done, Failed, Rendered, Kept, Unkept, Passed, Lost, Sent, Shut, Refused, Idle, Up, Down, Hurt, OutOfMemory}
use Rattle.run_events.specs.declared.step.Step.{Step}
use Rattle.run_events.specs.Events.{Event, Run, notes_of}
use Rattle.run_events.specs.States.{Start, start_of}
use Rattle.run_laws.specs.Named.{EventsNamePages, NamePages, NamesPage}
use Rattle.replay_text.specs.declared.event_line.EventLine.{EventLine}
use Rattle.replay_text.specs.declared.event_line.EventLine.TheVariants as line
use Rattle.replay_text.specs.declared.scenario.Scenario.{Scenario}
use Rattle.replay_text.specs.EventLines.{IsEventLine, line_of}
use Rattle.replay_text.specs.Lines.{text_of_lines}
use Rattle.replay_text.specs.Scenario.{AreActs, ReadsScenario, act_lines}
use Rattle.replay_text.specs.Transcript.{AreWritable, EventsAreWritable, IsWritable}
use Rattle.sling_dispatch.specs.Runs.{IsSession, asked_publisher_host, sling_start, step_of}
use Rattle.sling_dispatch.proofs.NumberLemmas.{AllNumbersFit, EventsFit, NumbersFit, StepFits, StepsFit, run_fits}

-- ---- numbers and names
note-writable : (note : Note) → NumbersFit note → NamesPage note → IsWritable note
note-writable (answered a) fits names = fits
note-writable (asked n c key) fits names = (fits.0, fits.1, names)
note-writable (Hit c key) fits names = (fits, names)
note-writable (Local c status) fits names = fits
note-writable (Flush v c inv) fits names = (fits, names)
note-writable (Sliced v) fits names = tt
note-writable (Done v) fits names = fits
note-writable (Failed v why) fits names = fits
note-writable (Rendered n a) fits names = fits
note-writable (Kept n key) fits names = (fits, names)
note-writable (Unkept n) fits names = fits
note-writable (Passed n) fits names = fits
note-writable (Lost n) fits names = fits
note-writable (Sent c bytes) fits names = fits
note-writable (Shut c) fits names = fits
note-writable (Refused c) fits names = fits
note-writable Idle fits names = tt
note-writable (Up epoch) fits names = fits
note-writable Down fits names = tt
note-writable Hurt fits names = tt
note-writable OutOfMemory fits names = tt

notes-writable : (notes : List Note) → AllNumbersFit notes → NamePages notes → AreWritable notes
notes-writable [] fits names = tt
notes-writable (note ∷ notes) fits names = (note-writable note fits.0 names.0, notes-writable notes fits.1 names.1)

events-writable : (events : List (List Note)) → EventsFit events → EventsNamePages events → EventsAreWritable events
events-writable [] fits names = tt
events-writable (notes ∷ events) fits names = (notes-writable notes fits.0 names.0, events-writable events fits.1 names.1)

-- ---- the steps of acts
abbrev OptionFits : Option Step → Type 0
OptionFits None = Unit {0}
OptionFits (Some s) = StepFits s

line-fits : (host : List ℕ) (act : EventLine) → IsEventLine act → OptionFits (step_of host act)
line-fits host (line.Direct target) is = tt
line-fits host (line.Open c peer) is = is.0
line-fits host (line.Close c) is = is
line-fits host (line.Bytes c bytes) is = is.0
line-fits host (line.Get c target) is = is.0
line-fits host (line.Post c target form) is = is.0
line-fits host (line.Flush c action handle only) is = is.0
line-fits host (line.Render flight) is = tt
line-fits host (line.Deliver flight) is = tt
line-fits host (line.Lose flight) is = tt
line-fits host line.Purge is = tt
line-fits host line.Restart is = tt
line-fits host (line.Fail n way) is = tt
line-fits host (line.Stop n way) is = tt

one-more : (o : Option Step) (steps : List Step) → OptionFits o → StepsFit steps → StepsFit (cons_option o steps)
one-more None steps first rest = rest
one-more (Some s) steps first rest = (first, rest)

acts-fit : (host : List ℕ) (made left : List EventLine) → AreActs (made ++ left) → StepsFit (filter_map (step_of host) made)
acts-fit host [] left are = tt
acts-fit host (act ∷ made) left are = one-more (step_of host act) (filter_map (step_of host) made) (line-fits host act are.0) (acts-fit host made left are.1)

-- ---- how many they are
one-longer : (o : Option Step) (steps : List Step) → length (cons_option o steps) ≤ length steps + 1
one-longer None steps = omega arith
one-longer (Some s) steps = omega arith

steps-few : (host : List ℕ) (made : List EventLine) → length (filter_map (step_of host) made) ≤ length made
steps-few host [] = omega arith
steps-few host (act ∷ made) = omega (arith, one-longer (step_of host act) (filter_map (step_of host) made), steps-few host made)

length-map : {A B : Type 0} (f : A → B) (xs : List A) → length (map f xs) ≡ length xs
length-map f [] = refl
length-map f (x ∷ xs) = ap (λ n. suc n) (length-map f xs)

-- each line has its newline
lines-few : (lines : List (List ℕ)) → length lines ≤ length (text_of_lines lines)
lines-few [] = omega arith
lines-few (l ∷ lines) = omega (arith, lines-few lines, length-append l (10 ∷ text_of_lines lines))

text-more : (a b : List (List ℕ)) → length (text_of_lines b) ≤ length (text_of_lines (a ++ b))
text-more [] b = omega arith
text-more (l ∷ a) b = omega (arith, text-more a b, length-append l (10 ∷ text_of_lines (a ++ b)))

text-first : (a b : List (List ℕ)) → length (text_of_lines a) ≤ length (text_of_lines (a ++ b))
text-first [] b = omega arith
text-first (l ∷ a) b = omega (arith, text-first a b, length-append l (10 ∷ text_of_lines (a ++ b)), length-append l (10 ∷ text_of_lines a))

-- the acts of a scenario that is read are no more bytes than its text
pub acts-short : (bytes : List ℕ) (s : Scenario) → ReadsScenario bytes s → length s.acts ≤ 67108864
acts-short bytes s read =
    let spells = read.0 in
    let lines : List (List ℕ) = map line_of spells.acts in
    let acts : length s.acts ≡ length (text_of_lines lines) = ap length spells.acts_are.bytes_are in
    let first : length (text_of_lines lines) ≤ length (text_of_lines (act_lines spells.acts)) = text-first lines (codes "end" ∷ []) in
    let farm : length (text_of_lines (act_lines spells.acts)) ≤ length (text_of_lines (spells.farm_lines ++ act_lines spells.acts)) = text-more spells.farm_lines (act_lines spells.acts) in
    let dotted : length (text_of_lines (spells.farm_lines ++ act_lines spells.acts)) ≤ length (text_of_lines (codes "." ∷ (spells.farm_lines ++ act_lines spells.acts))) = text-more (codes "." ∷ []) (spells.farm_lines ++ act_lines spells.acts) in
    let block : length (text_of_lines (codes "." ∷ (spells.farm_lines ++ act_lines spells.acts))) ≤ length (text_of_lines (spells.block ++ codes "." ∷ (spells.farm_lines ++ act_lines spells.acts))) = text-more spells.block (codes "." ∷ (spells.farm_lines ++ act_lines spells.acts)) in
    let head : length (text_of_lines (spells.block ++ codes "." ∷ (spells.farm_lines ++ act_lines spells.acts))) ≤ length (text_of_lines (codes "scenario 1" ∷ codes "content" ∷ (spells.block ++ codes "." ∷ (spells.farm_lines ++ act_lines spells.acts)))) = text-more (codes "scenario 1" ∷ codes "content" ∷ []) (spells.block ++ codes "." ∷ (spells.farm_lines ++ act_lines spells.acts)) in
    omega (arith, acts, first, farm, dotted, block, head, ap length spells.text_is, read.1)

pub events-few : (s : Scenario) (left : List EventLine) (events : List Event) → IsSession s left events → length events ≤ length s.acts
events-few s left events session =
    let host = asked_publisher_host session.farm in
    let steps : length events ≡ length (filter_map (step_of host) session.made) = sym (length-map (λ (e : Event). e.step) events) ∙ ap length session.steps in
    let lines : List (List ℕ) = map line_of (session.made ++ left) in
    omega (arith, steps, steps-few host session.made, length-append session.made left, length-map line_of (session.made ++ left), lines-few lines, ap length session.acts.bytes_are)

-- ---- sessions
abbrev pub NotesNamePages : Type 0
NotesNamePages = (s : Start) (events : List Event) → Run (start_of s) events → EventsNamePages (map notes_of events)

pub session-writable : NotesNamePages → ((tree : Content) (ask : Ask) → (answer_to_request tree ask).status < 1000) → ((status : ℕ) → (error_answer status).status ≡ status)
    → (bytes : List ℕ) (s : Scenario) (left : List EventLine) (events : List Event) → ReadsScenario bytes s → IsSession s left events → EventsAreWritable (map notes_of events)
session-writable named short error bytes s left events read session =
    let host = asked_publisher_host session.farm in
    let few : 1 + length events < 18446744073709551616 = omega (arith, events-few s left events session, acts-short bytes s read) in
    let steps : StepsFit (map (λ (e : Event). e.step) events) = subst StepsFit (sym session.steps) (acts-fit host session.made left session.acts.are) in
    let fits = run_fits short error 1 (start_of (sling_start session.farm session.tree)) events few (record {
      stamps_are = omega arith;
      epochs_are = omega arith;
      flights = tt;
      flushes = tt;
      slicing = tt;
      open_fit = λ c there. absurd (let never : ⊥ = cc in never);
      publishing_is = refl;
    }) steps session.run in
    events-writable (map notes_of events) fits (named (sling_start session.farm session.tree) events session.run)
