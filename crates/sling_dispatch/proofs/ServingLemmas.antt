-- What may be written of a part of a call that serves, or that makes a scenario from a number, may be written by the call.
use Rattle.std.proofs.Common.{◌≡◌, ◌≢◌, inr, ℕ, List, [], false, sym, subst}
use Rattle.cache_files.specs.declared.epoch.OpenFault.{OpenFault}
use Rattle.cache_files.specs.declared.epoch.OpenFault.TheVariants as open_fault
use Rattle.content_json.specs.declared.fault.ContentFault.{ContentFault}
use Rattle.content_json.specs.declared.fault.ContentFault.TheVariants.{NoMemory as out_of_memory}
use Rattle.outside_world.specs.declared.inputs.InputFault.{InputFault}
use Rattle.outside_world.specs.declared.inputs.InputFault.TheVariants as input_fault
use Rattle.serve_loop.specs.declared.serving.ServeEnd.{ServeEnd}
use Rattle.serve_loop.specs.declared.serving.ServeEnd.TheVariants as serve_end
use Rattle.replay_text.specs.Scenario.{ReadsScenario}
use Rattle.soak_scenarios.specs.Soaks.{generated_text}
use Rattle.sling_dispatch.specs.Endings.{Writing, Nothing, UsageLine, SourceLine, RefusalLine, ContentLine, FarmLine, Events, Generated, Summary, OfServing, ServeWriting, Served, CutOff, WorldLine, DocrootLine, OpeningLine, InputLine, IsDue, IsServingDue}
use Rattle.sling_dispatch.specs.Farms.{is_out_of_memory}
use Rattle.sling_dispatch.specs.Forms.{AsksFor}
use Rattle.sling_dispatch.specs.InnerEndings.{IsContentOr, IsFarmOr}
use Rattle.sling_dispatch.specs.InnerServing.{IsEndLine, IsInputLine, IsInputOr, IsOfServeEnd, IsOpeningLine, IsOpeningOr, IsScenarioOr, IsSummaryOr}
use Rattle.sling_dispatch.specs.Reports.{IsUntouched, IsWorldUntouched, RunCall}
use Rattle.sling_dispatch.specs.Serving.{FailsToOpen, IsNotOpened, LacksContent, LacksFarm, LacksInput, ServesSite}
use Rattle.sling_dispatch.specs.declared.farms.FarmRefusal.{FarmRefusal}
use Rattle.sling_dispatch.specs.declared.form.Form.TheVariants as form
use Rattle.sling_dispatch.specs.declared.form.ServeWords.{ServeWords}

-- ---- an input

input_line : (c : RunCall) (fault : InputFault) (name : List ℕ) → (fault ≢ input_fault.NoMemory → LacksInput c fault name) → (w : ServeWriting) → IsInputLine fault name w → IsServingDue c w
input_line c fault name lacks (Served words) d = absurd d
input_line c fault name lacks CutOff d = absurd d
input_line c fault name lacks WorldLine d = absurd d
input_line c fault name lacks DocrootLine d = absurd d
input_line c fault name lacks (OpeningLine f) d = absurd d
input_line c fault name lacks (InputLine f n) d =
    subst (λ x. LacksInput c x n) (sym d.0) (subst (λ x. LacksInput c fault x) (sym d.1) (lacks d.2))

pub due_input : (c : RunCall) (fault : InputFault) (name : List ℕ) → IsWorldUntouched c.world → (fault ≢ input_fault.NoMemory → LacksInput c fault name) → (w : Writing) → IsInputOr fault name w → IsDue c w
due_input c fault name apart lacks Nothing d = apart
due_input c fault name apart lacks UsageLine d = absurd d
due_input c fault name apart lacks SourceLine d = absurd d
due_input c fault name apart lacks (RefusalLine before) d = absurd d
due_input c fault name apart lacks (ContentLine f) d = absurd d
due_input c fault name apart lacks (FarmLine refusal) d = absurd d
due_input c fault name apart lacks (Events s events) d = absurd d
due_input c fault name apart lacks (Generated number) d = absurd d
due_input c fault name apart lacks (Summary number s events) d = absurd d
due_input c fault name apart lacks (OfServing w) d = input_line c fault name lacks w d

-- ---- the content and the farm of the inputs

pub due_unread_content : (c : RunCall) (fault : ContentFault) → IsWorldUntouched c.world → (fault ≢ out_of_memory → LacksContent c fault) → (w : Writing) → IsContentOr fault w → IsDue c w
due_unread_content c fault apart lacks Nothing d = apart
due_unread_content c fault apart lacks UsageLine d = absurd d
due_unread_content c fault apart lacks SourceLine d = absurd d
due_unread_content c fault apart lacks (RefusalLine before) d = absurd d
due_unread_content c fault apart lacks (ContentLine f) d = inr (subst (λ x. LacksContent c x) (sym d.0) (lacks d.1))
due_unread_content c fault apart lacks (FarmLine refusal) d = absurd d
due_unread_content c fault apart lacks (Events s events) d = absurd d
due_unread_content c fault apart lacks (Generated number) d = absurd d
due_unread_content c fault apart lacks (Summary number s events) d = absurd d
due_unread_content c fault apart lacks (OfServing w) d = absurd d

pub due_unread_farm : (c : RunCall) (refusal : FarmRefusal) → IsWorldUntouched c.world → (is_out_of_memory refusal ≡ false → LacksFarm c refusal) → (w : Writing) → IsFarmOr refusal w → IsDue c w
due_unread_farm c refusal apart lacks Nothing d = apart
due_unread_farm c refusal apart lacks UsageLine d = absurd d
due_unread_farm c refusal apart lacks SourceLine d = absurd d
due_unread_farm c refusal apart lacks (RefusalLine before) d = absurd d
due_unread_farm c refusal apart lacks (ContentLine f) d = absurd d
due_unread_farm c refusal apart lacks (FarmLine r) d = inr (subst (λ x. LacksFarm c x) (sym d.0) (lacks d.1))
due_unread_farm c refusal apart lacks (Events s events) d = absurd d
due_unread_farm c refusal apart lacks (Generated number) d = absurd d
due_unread_farm c refusal apart lacks (Summary number s events) d = absurd d
due_unread_farm c refusal apart lacks (OfServing w) d = absurd d

-- ---- an opening

opening_line : (c : RunCall) (fault : OpenFault) → (fault ≡ open_fault.Disk → FailsToOpen c) → (fault ≢ open_fault.Disk → fault ≢ open_fault.NoMemory → IsNotOpened c fault)
    → (w : ServeWriting) → IsOpeningLine fault w → IsServingDue c w
opening_line c fault fails not (Served words) d = absurd d
opening_line c fault fails not CutOff d = absurd d
opening_line c fault fails not WorldLine d = absurd d
opening_line c fault fails not DocrootLine d = fails d
opening_line c fault fails not (OpeningLine f) d = subst (λ x. IsNotOpened c x) (sym d.0) (not d.1 d.2)
opening_line c fault fails not (InputLine f name) d = absurd d

pub due_opening : (c : RunCall) (fault : OpenFault) → IsWorldUntouched c.world → (fault ≡ open_fault.Disk → FailsToOpen c)
    → (fault ≢ open_fault.Disk → fault ≢ open_fault.NoMemory → IsNotOpened c fault) → (w : Writing) → IsOpeningOr fault w → IsDue c w
due_opening c fault apart fails not Nothing d = apart
due_opening c fault apart fails not UsageLine d = absurd d
due_opening c fault apart fails not SourceLine d = absurd d
due_opening c fault apart fails not (RefusalLine before) d = absurd d
due_opening c fault apart fails not (ContentLine f) d = absurd d
due_opening c fault apart fails not (FarmLine refusal) d = absurd d
due_opening c fault apart fails not (Events s events) d = absurd d
due_opening c fault apart fails not (Generated number) d = absurd d
due_opening c fault apart fails not (Summary number s events) d = absurd d
due_opening c fault apart fails not (OfServing w) d = opening_line c fault fails not w d

-- ---- an end

end_line : (c : RunCall) (end : ServeEnd) (words : ServeWords) → ServesSite c words end → (w : ServeWriting) → IsEndLine end words w → IsServingDue c w
end_line c end words serves (Served s) d = subst (λ x. ServesSite c x serve_end.Turns) (sym d.0) (subst (λ x. ServesSite c words x) d.1 serves)
end_line c end words serves CutOff d = (words, subst (λ x. ServesSite c words x) d serves)
end_line c end words serves WorldLine d = (words, subst (λ x. ServesSite c words x) d serves)
end_line c end words serves DocrootLine d = absurd d
end_line c end words serves (OpeningLine f) d = absurd d
end_line c end words serves (InputLine f name) d = absurd d

pub due_end : (c : RunCall) (end : ServeEnd) (words : ServeWords) → ServesSite c words end → (w : Writing) → IsOfServeEnd end words w → IsDue c w
due_end c end words serves Nothing d = absurd d
due_end c end words serves UsageLine d = absurd d
due_end c end words serves SourceLine d = absurd d
due_end c end words serves (RefusalLine before) d = absurd d
due_end c end words serves (ContentLine f) d = absurd d
due_end c end words serves (FarmLine refusal) d = absurd d
due_end c end words serves (Events s events) d = absurd d
due_end c end words serves (Generated number) d = absurd d
due_end c end words serves (Summary number s events) d = absurd d
due_end c end words serves (OfServing w) d = end_line c end words serves w d

-- ---- scenarios that are made from a number

pub due_generated : (c : RunCall) (number : ℕ) → IsWorldUntouched c.world → AsksFor c.words (form.Scenario number) → IsUntouched c.source → (w : Writing) → IsScenarioOr number w → IsDue c w
due_generated c number apart asks source Nothing d = apart
due_generated c number apart asks source UsageLine d = absurd d
due_generated c number apart asks source SourceLine d = absurd d
due_generated c number apart asks source (RefusalLine before) d = absurd d
due_generated c number apart asks source (ContentLine f) d = absurd d
due_generated c number apart asks source (FarmLine refusal) d = absurd d
due_generated c number apart asks source (Events s events) d = absurd d
due_generated c number apart asks source (Generated n) d = (subst (λ x. AsksFor c.words (form.Scenario x)) (sym d) asks, source)
due_generated c number apart asks source (Summary n s events) d = absurd d
due_generated c number apart asks source (OfServing w) d = absurd d

pub due_summary : (c : RunCall) (number : ℕ) → IsWorldUntouched c.world → AsksFor c.words (form.Soak number) → IsUntouched c.source → (w : Writing) → IsSummaryOr number w → IsDue c w
due_summary c number apart asks source Nothing d = apart
due_summary c number apart asks source UsageLine d = absurd d
due_summary c number apart asks source SourceLine d = absurd d
due_summary c number apart asks source (RefusalLine before) d = absurd d
due_summary c number apart asks source (ContentLine f) d = absurd d
due_summary c number apart asks source (FarmLine refusal) d = absurd d
due_summary c number apart asks source (Events s events) d = absurd d
due_summary c number apart asks source (Generated n) d = absurd d
due_summary c number apart asks source (Summary n s events) d = by_number n (sym d.0)
  where
    by_number : (n : ℕ) → number ≡ n → IsDue c (Summary n s events)
    by_number n e = (subst (λ x. AsksFor c.words (form.Soak x)) e asks, source, subst (λ (x : ℕ). ReadsScenario (generated_text x) s) e d.1, ([], d.2))
due_summary c number apart asks source (OfServing w) d = absurd d
