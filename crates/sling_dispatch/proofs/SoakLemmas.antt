-- The events that were made so far are a run, and they are counted.
use Rattle.std.proofs.Common.{◌≡◌, ◌∙◌, ◌≤◌, ◌+◌, ◌++◌, ◌∷◌, [], ℕ, List, Option, Some, None, Result, Ok, Err, IfOk, OnErr, ap, sym, subst, refl, length}
use Rattle.any_config.specs.declared.farm.Farm.{Farm}
use Rattle.content_json.specs.ContentOf.{content as content_of}
use Rattle.replay_text.specs.Scenario.{IsActs, ReadsScenario}
use Rattle.replay_text.specs.Transcript.{event_text}
use Rattle.replay_text.specs.declared.event_line.EventLine.{EventLine}
use Rattle.replay_text.specs.declared.scenario.Scenario.{Scenario}
use Rattle.resource_tree.specs.Content.{Content}
use Rattle.run_events.specs.States.{start_of}
use Rattle.run_events.specs.declared.note.Note.{Note}
use Rattle.run_events.specs.declared.step.Step.{Step}
use Rattle.soak_scenarios.specs.Soaks.{generated_text}
use Rattle.sling_dispatch.specs.Endings.{Means, Nothing, Summary}
use Rattle.sling_dispatch.specs.Farms.{farm_in, farm_text}
use Rattle.sling_dispatch.specs.Fronts.{IsMade, IsNext, IsNextEvent, IsPlayed, SessionStandsFor, lines_of_event}
use Rattle.sling_dispatch.specs.InnerEndings.{AreActLines, TellsText}
use Rattle.sling_dispatch.specs.InnerServing.{CountsAll, CountsNotes, CountsOn, IsSummaryIn, IsSummaryOf, IsSummaryOr}
use Rattle.sling_dispatch.specs.Reports.{IsUntouched, StreamReport}
use Rattle.sling_dispatch.specs.Runs.{Arming, IsSession, Unarmed, arming_of, asked_publisher_host, sling_start, step_of}
use Rattle.sling_dispatch.specs.ScriptedDisks.{arming_of_disk}
use Rattle.sling_dispatch.specs.Summaries.{counts_of, counts_text}
use Rattle.sling_dispatch.specs.declared.ending.Ending.{Ending}
use Rattle.sling_dispatch.specs.declared.ending.Ending.TheVariants.{Done, NoMemory}
use Rattle.sling_dispatch.specs.declared.session.Session.{Session}
use Rattle.sling_dispatch.specs.declared.summary.Counts.{Counts}
use Rattle.sling_dispatch.proofs.Meanings.{nothing_written, told_line}
use Rattle.sling_dispatch.proofs.Sessions.{FirstIsTold, Goes, Leaves, Played, next_shorter, none_left, played_event, played_none, played_plan, session_of}

-- ---- the text of an event

played_of_made : (o : Option Step) (a : Option Arming) (old new : Session) (notes : Option (List Note)) → IsMade o a old new notes → IsPlayed o a old new (lines_of_event new.event notes)
played_of_made None (Some planned) old new None m = (m, refl)
played_of_made (Some step) None old new (Some notes) m = (notes, m, refl)
played_of_made None None old new None m = absurd m
played_of_made None None old new (Some notes) m = absurd m
played_of_made None (Some planned) old new (Some notes) m = absurd m
played_of_made (Some step) None old new None m = absurd m
played_of_made (Some step) (Some planned) old new None m = absurd m
played_of_made (Some step) (Some planned) old new (Some notes) m = absurd m

-- the lines of the event that was made are its text
pub next_told : (host lines rest : List ℕ) (old new : Session) (notes : Option (List Note)) (text : List ℕ) → IsNextEvent host lines rest old new notes → text ≡ lines_of_event new.event notes
    → IsNext host lines rest old new text
next_told host lines rest old new notes text x e = record {
  act = x.act;
  is_line = x.is_line;
  lines_are = x.lines_are;
  played = subst (IsPlayed (step_of host x.act) (arming_of x.act) old new) (sym e) (played_of_made (step_of host x.act) (arming_of x.act) old new notes x.made);
}

-- ---- counts

-- Some acts were played, and these are the counts of their events.
pub record Counted (tree : Content) (farm : Farm) (acts rest : List ℕ) (s : Session) (c : Counts) : Type 0 where
  pub gathered : List ℕ
  pub played : Played tree farm acts rest s None None gathered
  pub counts_are : c ≡ counts_of played.events

pub counted_none : (tree : Content) (farm : Farm) (acts : List ℕ) (s : Session) (c : Counts) → AreActLines acts → SessionStandsFor s (start_of (sling_start farm tree)) → arming_of_disk s.disk ≡ Unarmed → s.event ≡ 0
    → c ≡ counts_of [] → Counted tree farm acts acts s c
counted_none tree farm acts s c are stands unarmed event counts =
    let q = played_none tree farm acts s None are stands unarmed event in
    record { gathered = []; played = q.0; counts_are = counts ∙ ap counts_of (sym q.1) }

-- the next act was played, and its event counted
pub counted_next : Goes → Leaves → FirstIsTold → (tree : Content) (farm : Farm) (acts rest after : List ℕ) (s t : Session) (before c : Counts)
    → Counted tree farm acts rest s before → CountsOn (asked_publisher_host farm) rest after s t before c → Counted tree farm acts after t c
counted_next goes leaves told_first tree farm acts rest after s t before c k x =
    let p = k.played in
    let n = x.next in
    let first = told_first rest after p.left n.act p.left_are n.is_line n.lines_are in
    by_step (step_of (asked_publisher_host farm) n.act) (arming_of n.act) x.notes refl refl n.made x.counted first
  where
    by_step : (o : Option Step) (a : Option Arming) (notes : Option (List Note)) → step_of (asked_publisher_host farm) x.next.act ≡ o → arming_of x.next.act ≡ a → IsMade o a s t notes → CountsNotes notes before c
        → ((left : List EventLine) × (k.played.left ≡ x.next.act ∷ left) × IsActs after left) → Counted tree farm acts after t c
    by_step None (Some planned) None e f made counted (left, is, are) =
        let q = played_plan tree farm acts rest after s t None None k.gathered [] x.next.act left planned k.played e f is are (played_of_made None (Some planned) s t None made) in
        record { gathered = k.gathered ++ []; played = q.0; counts_are = counted ∙ k.counts_are ∙ ap counts_of (sym q.1) }
    by_step None None None e f made counted first = absurd made
    by_step None None (Some notes) e f made counted first = absurd made
    by_step None (Some planned) (Some notes) e f made counted first = absurd made
    by_step (Some step) None None e f made counted first = absurd made
    by_step (Some step) (Some planned) None e f made counted first = absurd made
    by_step (Some step) (Some planned) (Some notes) e f made counted first = absurd made
    by_step (Some step) None (Some notes) e f made counted (left, is, are) =
        let text = event_text t.event notes in
        let q = played_event goes leaves tree farm acts rest after s t None None k.gathered text x.next.act left step k.played e f is are (notes, made, refl) in
        record { gathered = k.gathered ++ text; played = q.0; counts_are = counted k.played.events q.1 k.counts_are q.3 ∙ ap counts_of (sym q.2) }

-- the lines after an act's are shorter
pub counted_shorter : (host rest after : List ℕ) (s t : Session) (before c : Counts) → CountsOn host rest after s t before c → length after + 1 ≤ length rest
counted_shorter host rest after s t before c x =
    next_shorter host rest after s t (lines_of_event t.event x.notes) (next_told host rest after s t x.notes (lines_of_event t.event x.notes) x.next refl)

-- all acts were played
pub counted_all : (tree : Content) (farm : Farm) (acts rest : List ℕ) (t : Session) (c : Counts) → rest ≡ [] → Counted tree farm acts rest t c → CountsAll tree farm acts c
counted_all tree farm acts rest t c whole k = λ s same reads farm_reads.
    let p = k.played in
    let session = session_of tree farm acts rest t None None k.gathered s same reads farm_reads p in
    (p.events, subst (λ (left : List EventLine). IsSession s left p.events) (none_left rest p.left p.left_are whole) session, k.counts_are)

-- ---- the summary

pub summary_in : (s : Scenario) (tree : Content) (farm : Farm) (c : Counts) (text : List ℕ) → content_of s.content ≡ Ok tree → farm_in (farm_text s.farm) ≡ Ok farm → CountsAll tree farm s.acts c
    → text ≡ counts_text c → IsSummaryIn s text
summary_in s tree farm c text reads farm_reads all is =
    let k = all s refl reads farm_reads in
    record { events = k.0; session = k.1; text_is = is ∙ ap counts_text k.2 }

pub summary_of : (number : ℕ) (s : Scenario) (text : List ℕ) → ReadsScenario (generated_text number) s → IsSummaryIn s text → IsSummaryOf number text
summary_of number s text reads k = record { scenario = s; events = k.events; reads = reads; session = k.session; text_is = k.text_is }

-- What came of writing the summary, where memory was there to make it.
pub told_summary : {T E : Type 0} (items : T → List ℕ) (number : ℕ) (ending : Ending) (line : Result T E) (sink : StreamReport (List ℕ)) → IfOk line (λ t. IsSummaryOf number (items t))
    → IfOk line (λ t. TellsText Done (items t) ending sink) → OnErr line ((ending ≡ NoMemory) × IsUntouched sink) → Means (IsSummaryOr number) ending sink
told_summary items number ending (Ok t) sink is told untold =
    told_line (IsSummaryOr number) (Summary number is.scenario is.events) Done ending (items t) sink (refl, is.reads, is.session) (refl, is.session) (λ m. m) is.text_is told
told_summary items number ending (Err e) sink is told untold =
    subst (λ (x : Ending). Means (IsSummaryOr number) x sink) (sym untold.0) (nothing_written (IsSummaryOr number) Nothing tt sink untold.1.0 untold.1.1)
