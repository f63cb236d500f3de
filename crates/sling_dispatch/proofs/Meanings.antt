-- What an ending means for what was written, at each step of the program.
use Rattle.std.proofs.Common.{◌≡◌, ◌≢◌, ◌≤◌, ◌+◌, ◌++◌, inl, inr, ⊎_elim, arith, ℕ, List, Option, Some, None, IfSome, IfOk, OnErr, Result, Ok, Err, false, length, take, sym, ◌∙◌, ap, subst}
use Rattle.std.proofs.lemmas.List.{append-nil}
use Rattle.std.proofs.lemmas.Bool.{cases_lt}
use Rattle.sp_base.proofs.ListLemmas.{take_none}
use Rattle.sp_outside.specs.Told.{held_after, before_taking, IsAtEnd}
use Rattle.sockets.proofs.Giving.{held_after-nil}
use Rattle.content_json.specs.ContentOf.{content as content_of}
use Rattle.content_json.specs.declared.fault.ContentFault.{ContentFault}
use Rattle.content_json.specs.declared.fault.ContentFault.TheVariants.{NoMemory as content_out_of_memory}
use Rattle.replay_text.specs.Languages.{IsRefusedWithin}
use Rattle.sling_dispatch.specs.Streams.{IsReadOut}
use Rattle.replay_text.specs.Scenario.{IsScenario, ReadsScenario, longest_scenario}
use Rattle.sling_dispatch.specs.Endings.{IsRunOf, Writing, Nothing, UsageLine, SourceLine, RefusalLine, ContentLine, FarmLine, Events, Generated, Summary, OfServing, output_of, EndsIn, WholeEnding, Broken, Means, IsDue, HasContent, IsReplay}
use Rattle.sling_dispatch.specs.Reports.{StreamReport, RunCall, HasNotFailed, IsUntouched, IsWorldUntouched}
use Rattle.sling_dispatch.specs.InnerEndings.{IsDueIn, IsDueOf, IsContentOr, IsFarmOr, TellsText, IsDueAt}
use Rattle.sling_dispatch.specs.Farms.{farm_in, farm_text, is_out_of_memory}
use Rattle.sling_dispatch.specs.declared.farms.FarmRefusal.{FarmRefusal}
use Rattle.replay_text.specs.declared.scenario.Scenario.{Scenario}
use Rattle.sling_dispatch.specs.declared.ending.Ending.{Ending}
use Rattle.sling_dispatch.specs.declared.ending.Ending.TheVariants.{Done, Usage, SourceFailed, SinkFailed, Refused, ContentRefused, FarmRefused, DocrootFailed, WorldFailed, InputFailed, NotOpened, NoMemory}

-- what may be written here may be written there
whole_weaker : (D E : Writing → Type 0) → ((w : Writing) → D w → E w) → (ending : Ending) (sink : StreamReport (List ℕ)) → WholeEnding D ending sink → WholeEnding E ending sink
whole_weaker D E to ending sink m = record { writing = m.writing; due = to m.writing m.due; ends = m.ends; wrote = m.wrote }

broken_weaker : (D E : Writing → Type 0) → ((w : Writing) → D w → E w) → (sink : StreamReport (List ℕ)) → Broken D sink → Broken E sink
broken_weaker D E to sink m = record { writing = m.writing; due = to m.writing m.due; wrote = m.wrote }

pub means_weaker : (D E : Writing → Type 0) → ((w : Writing) → D w → E w) → (ending : Ending) (sink : StreamReport (List ℕ)) → Means D ending sink → Means E ending sink
means_weaker D E to SinkFailed sink m = (broken_weaker D E to sink m.0, m.1)
means_weaker D E to NoMemory sink m = (broken_weaker D E to sink m.0, m.1)
means_weaker D E to Done sink m = whole_weaker D E to Done sink m
means_weaker D E to Usage sink m = whole_weaker D E to Usage sink m
means_weaker D E to SourceFailed sink m = whole_weaker D E to SourceFailed sink m
means_weaker D E to Refused sink m = whole_weaker D E to Refused sink m
means_weaker D E to ContentRefused sink m = whole_weaker D E to ContentRefused sink m
means_weaker D E to FarmRefused sink m = whole_weaker D E to FarmRefused sink m
means_weaker D E to DocrootFailed sink m = whole_weaker D E to DocrootFailed sink m
means_weaker D E to WorldFailed sink m = whole_weaker D E to WorldFailed sink m
means_weaker D E to InputFailed sink m = whole_weaker D E to InputFailed sink m
means_weaker D E to NotOpened sink m = whole_weaker D E to NotOpened sink m

-- Of what is due nothing was written, and memory ran out.
pub nothing_written : (D : Writing → Type 0) (w : Writing) → D w → (sink : StreamReport (List ℕ)) → sink.new ≡ sink.old → HasNotFailed sink → Means D NoMemory sink
nothing_written D w due sink e not_failed =
    (record { writing = w; due = due; wrote = (0, e ∙ sym (ap (held_after sink.old) (take_none (output_of w)) ∙ held_after-nil sink.old)) }, not_failed)

-- Nothing was written, and memory ran out.
pub out_of_memory : (D : Writing → Type 0) → D Nothing → (sink : StreamReport (List ℕ)) → sink.new ≡ sink.old → HasNotFailed sink → Means D NoMemory sink
out_of_memory D due sink e not_failed = (record { writing = Nothing; due = due; wrote = (0, e ∙ sym (held_after-nil sink.old)) }, not_failed)

-- What came of writing a text that is due, of which good was to be the ending.
pub told_line : (D : Writing → Type 0) (w : Writing) (good ending : Ending) (text : List ℕ) (sink : StreamReport (List ℕ)) → D w
    → EndsIn w good → (WholeEnding D good sink → Means D good sink) → text ≡ output_of w → TellsText good text ending sink → Means D ending sink
told_line D w good ending text sink due ends whole e (inl t) =
    subst (λ x. Means D x sink) (sym t.0) (whole (record { writing = w; due = due; ends = ends; wrote = (t.1 ∙ ap (held_after sink.old) e, t.2) }))
told_line D w good ending text sink due ends whole e (inr (inl t)) =
    subst (λ x. Means D x sink) (sym t.0) (record { writing = w; due = due; wrote = (t.1.0, t.1.1 ∙ ap (λ s. held_after sink.old (take t.1.0 s)) e) }, t.2)
told_line D w good ending text sink due ends whole e (inr (inr t)) =
    subst (λ x. Means D x sink) (sym t.0) (record { writing = w; due = due; wrote = (t.1.0, t.1.1 ∙ ap (λ s. held_after sink.old (take t.1.0 s)) e) }, t.2)

-- The same of a text for which memory may have run out.
pub told_made : {T E : Type 0} (items : T → List ℕ) (D : Writing → Type 0) (w : Writing) (good ending : Ending) (line : Result T E)
    (sink : StreamReport (List ℕ)) → D w → EndsIn w good → (WholeEnding D good sink → Means D good sink) → IfOk line (λ t. items t ≡ output_of w)
    → IfOk line (λ t. TellsText good (items t) ending sink) → OnErr line ((ending ≡ NoMemory) × IsUntouched sink) → Means D ending sink
told_made items D w good ending (Ok t) sink due ends whole e told untold = told_line D w good ending (items t) sink due ends whole e told
told_made items D w good ending (Err x) sink due ends whole e told untold =
    subst (λ n. Means D n sink) (sym untold.0) (nothing_written D w due sink untold.1.0 untold.1.1)

pub due_content : (s : Scenario) (fault : ContentFault) → (fault ≢ content_out_of_memory → content_of s.content ≡ Err fault) → (w : Writing) → IsContentOr fault w → IsDueIn s w
due_content s fault e Nothing d = tt
due_content s fault e UsageLine d = d
due_content s fault e SourceLine d = d
due_content s fault e (RefusalLine before) d = d
due_content s fault e (ContentLine f) d = (e d.1 ∙ ap (λ x. Err x) (sym d.0), λ h. d.1 (sym d.0 ∙ h))
due_content s fault e (FarmLine refusal) d = absurd d
due_content s fault e (Events t events) d = absurd d
due_content s fault e (Generated number) d = absurd d
due_content s fault e (Summary number t events) d = absurd d
due_content s fault e (OfServing w) d = absurd d

pub due_farm : (s : Scenario) (refusal : FarmRefusal) → HasContent s → (is_out_of_memory refusal ≡ false → farm_in (farm_text s.farm) ≡ Err refusal)
    → (w : Writing) → IsFarmOr refusal w → IsDueIn s w
due_farm s refusal has e Nothing d = tt
due_farm s refusal has e UsageLine d = d
due_farm s refusal has e SourceLine d = d
due_farm s refusal has e (RefusalLine before) d = d
due_farm s refusal has e (ContentLine fault) d = absurd d
due_farm s refusal has e (FarmLine r) d = (has, e d.1 ∙ ap (λ x. Err x) (sym d.0), ap is_out_of_memory d.0 ∙ d.1)
due_farm s refusal has e (Events t events) d = absurd d
due_farm s refusal has e (Generated number) d = absurd d
due_farm s refusal has e (Summary number t events) d = absurd d
due_farm s refusal has e (OfServing w) d = absurd d

-- what is written of the acts is written of the scenario
pub due_acts : (s : Scenario) (w : Writing) → IsDueOf s w → IsDueIn s w
due_acts s Nothing d = tt
due_acts s UsageLine d = d
due_acts s SourceLine d = d
due_acts s (RefusalLine before) d = d
due_acts s (ContentLine fault) d = absurd d
due_acts s (FarmLine refusal) d = absurd d
due_acts s (Events t events) d = d
due_acts s (Generated number) d = absurd d
due_acts s (Summary number t events) d = absurd d
due_acts s (OfServing w) d = absurd d

pub content_told : (s : Scenario) (fault : ContentFault) (bytes : List ℕ) (ending : Ending) (sink : StreamReport (List ℕ)) → bytes ≡ s.content
    → (fault ≢ content_out_of_memory → content_of bytes ≡ Err fault) → Means (IsContentOr fault) ending sink → Means (IsDueIn s) ending sink
content_told s fault bytes ending sink same e m =
    means_weaker (IsContentOr fault) (IsDueIn s) (due_content s fault (λ h. sym (ap content_of same) ∙ e h)) ending sink m

-- what is written of a scenario is written of the text that spells it
pub in_text : (text : List ℕ) (s : Scenario) → ReadsScenario text s → (w : Writing) → IsDueIn s w → IsDueAt text w
in_text text s reads Nothing d = tt
in_text text s reads UsageLine d = d
in_text text s reads SourceLine d = d
in_text text s reads (RefusalLine before) d = absurd d
in_text text s reads (ContentLine fault) d = (d.1, s, reads, d.0)
in_text text s reads (FarmLine refusal) d = (d.2, s, reads, d.0, d.1)
in_text text s reads (Events t events) d =
    let same = sym d.0 in (subst (ReadsScenario text) same reads, subst (λ (x : Scenario). IsRunOf x events) same d.1)
in_text text s reads (Generated number) d = absurd d
in_text text s reads (Summary number t events) d = absurd d
in_text text s reads (OfServing w) d = absurd d

told_refused : (text : List ℕ) (before : ℕ) (old new : Option (List ℕ)) → old ≡ before_taking text new → (length text ≤ longest_scenario → IsAtEnd new)
    → IsDueAt text (RefusalLine before) → IfSome old (λ bytes. IsRefusedWithin longest_scenario IsScenario bytes before)
told_refused text before old None e end r = subst (λ o. IfSome o (λ bytes. IsRefusedWithin longest_scenario IsScenario bytes before)) (sym e) tt
told_refused text before old (Some rest) e end r =
    subst (λ o. IfSome o (λ bytes. IsRefusedWithin longest_scenario IsScenario bytes before)) (sym e) (r rest end)

-- a text that was read up to one byte past the limit is all of the source, or that many bytes of it
read_out : (text : List ℕ) (old new : Option (List ℕ)) → old ≡ before_taking text new → (length text ≤ longest_scenario → IsAtEnd new) → length text ≤ longest_scenario + 1
    → IsReadOut (longest_scenario + 1) old new
read_out text old new e end within = ⊎_elim (λ long. inr (text, e, omega (arith, long, within))) (λ short. inl (end short)) (cases_lt longest_scenario (length text))

told : (Q : List ℕ → Type 0) (text : List ℕ) (old new : Option (List ℕ)) → old ≡ before_taking text new → IsAtEnd new → Q text → IfSome old Q
told Q text old None e end q = subst (λ o. IfSome o Q) (sym e) tt
told Q text old (Some rest) e end q =
    let whole : text ++ rest ≡ text = ap (λ t. text ++ t) end ∙ append-nil text in
    subst (λ o. IfSome o Q) (sym (e ∙ ap Some whole)) q

-- what may be written of the text that was read may be written by the call
pub due_of_source : (c : RunCall) (text : List ℕ) → IsReplay c.words → IsWorldUntouched c.world → HasNotFailed c.source
    → c.source.old ≡ before_taking text c.source.new → (length text ≤ longest_scenario → IsAtEnd c.source.new) → length text ≤ longest_scenario + 1 → (w : Writing) → IsDueAt text w → IsDue c w
due_of_source c text is apart not_failed e end within Nothing d = apart
due_of_source c text is apart not_failed e end within UsageLine d = absurd d
due_of_source c text is apart not_failed e end within SourceLine d = absurd d
due_of_source c text is apart not_failed e end within (RefusalLine before) d =
    ((is, not_failed, told_refused text before c.source.old c.source.new e end d), read_out text c.source.old c.source.new e end within)
due_of_source c text is apart not_failed e end within (ContentLine fault) d =
    let Q : List ℕ → Type 0 = λ bytes. (s : Scenario) × ReadsScenario bytes s × (content_of s.content ≡ Err fault) in
    let done = end d.2.1 in
    inl ((is, not_failed, told Q text c.source.old c.source.new e done (d.1, d.2, d.3)), done, d.0)
due_of_source c text is apart not_failed e end within (FarmLine refusal) d =
    let Q : List ℕ → Type 0 = λ bytes. (s : Scenario) × ReadsScenario bytes s × HasContent s × (farm_in (farm_text s.farm) ≡ Err refusal) in
    let done = end d.2.1 in
    inl ((is, not_failed, told Q text c.source.old c.source.new e done (d.1, d.2, d.3, d.4)), done, d.0)
due_of_source c text is apart not_failed e end within (Events s events) d =
    let Q : List ℕ → Type 0 = λ bytes. ReadsScenario bytes s in
    let done = end d.0.1 in
    ((is, not_failed, told Q text c.source.old c.source.new e done d.0), done, d.1)
due_of_source c text is apart not_failed e end within (Generated number) d = absurd d
due_of_source c text is apart not_failed e end within (Summary number s events) d = absurd d
due_of_source c text is apart not_failed e end within (OfServing w) d = absurd d
