-- A text that spells a scenario is not refused.
use Rattle.std.proofs.Common.{◌≡◌, ◌<◌, ◌⊎◌, inl, inr, ⊎_elim, ℕ, List, Some, IfSome, Err, subst, arith, sym, ◌∙◌, ap}
use Rattle.sp_base.specs.Limits.{greatest_u64}
use Rattle.content_json.specs.ContentOf.{content as content_of}
use Rattle.replay_text.specs.Languages.{IsRefusedWithin}
use Rattle.replay_text.specs.Scenario.{SpellsScenario, IsScenario, ReadsScenario, longest_scenario}
use Rattle.sling_dispatch.specs.Endings.{Writing, Nothing, UsageLine, SourceLine, RefusalLine, ContentLine, FarmLine, Events, Generated, Summary, OfServing, EndsIn, Means, IsDue, IsReplay, HasContent, HasFarm}
use Rattle.sling_dispatch.specs.Forms.{HasForm}
use Rattle.sling_dispatch.specs.Reports.{StreamReport, RunCall, HasNotFailed, HasFailed}
use Rattle.sling_dispatch.specs.Farms.{farm_in, farm_text}
use Rattle.replay_text.specs.declared.scenario.Scenario.{Scenario}
use Rattle.sling_dispatch.specs.declared.ending.Ending.{Ending}
use Rattle.sling_dispatch.specs.declared.ending.Ending.TheVariants.{Done, NoMemory}
use Rattle.sling_dispatch.specs.declared.form.Form.TheVariants as form
use Rattle.sling_dispatch.proofs.Servable.{by_ending, no_replay_numbers, no_replay_serves, serving_asked}

-- a text spells one scenario
abbrev IsOneReading : Type 0
IsOneReading = (text : List ℕ) (s t : Scenario) → SpellsScenario text s → SpellsScenario text t → s ≡ t

both_failed_and_not : (o : StreamReport (List ℕ)) → o.faults_old < greatest_u64 → HasNotFailed o → HasFailed o → ⊥
both_failed_and_not o below not_failed failed = omega (arith, not_failed, failed)

-- a text whose content has a reading isn't refused for its content
content_reads : IsOneReading → (bytes : List ℕ) (s t : Scenario) → ReadsScenario bytes s → HasContent s → ReadsScenario bytes t → (fault : _) → content_of t.content ≡ Err fault → ⊥
content_reads one bytes s t reads has other fault e =
    let same = one bytes s t reads.0 other.0 in
    let ok = sym (ap (λ (x : Scenario). content_of x.content) same) ∙ has.1 in
    cc (ok, e)

-- a text whose farm has a reading isn't refused for its farm
farm_reads : IsOneReading → (bytes : List ℕ) (s t : Scenario) → ReadsScenario bytes s → HasFarm s → ReadsScenario bytes t → (refusal : _) → farm_in (farm_text t.farm) ≡ Err refusal → ⊥
farm_reads one bytes s t reads has other refusal e =
    let same = one bytes s t reads.0 other.0 in
    let ok = sym (ap (λ (x : Scenario). farm_in (farm_text x.farm)) same) ∙ has.1 in
    cc (ok, e)

-- `replay` is a form
replay_form : (words : List (List ℕ)) → IsReplay words → HasForm words
replay_form words is = (form.Replay, record { words_are = is; in_range = tt })

-- what is written whole, where nothing is wrong, are all events
whole_done : IsOneReading → (c : RunCall) (bytes : List ℕ) (s : Scenario) (ending : Ending) (w : Writing) → IsDue c w → EndsIn w ending
    → IsReplay c.words → c.source.old ≡ Some bytes → ReadsScenario bytes s → HasContent s → HasFarm s
    → c.source.faults_old < greatest_u64 → HasNotFailed c.source → ending ≡ Done
whole_done one c bytes s ending Nothing due ends is told reads has farm bs cs = absurd ends
whole_done one c bytes s ending UsageLine due ends is told reads has farm bs cs = absurd (due.0 (replay_form c.words is))
whole_done one c bytes s ending SourceLine due ends is told reads has farm bs cs = absurd (both_failed_and_not c.source bs cs due.1)
whole_done one c bytes s ending (RefusalLine before) due ends is told reads has farm bs cs =
    let r = subst (λ o. IfSome o (λ t. IsRefusedWithin longest_scenario IsScenario t before)) told due.0.2 in
    absurd (r.none ((s, reads.0), reads.1))
whole_done one c bytes s ending (ContentLine fault) due ends is told reads has farm bs cs = absurd (⊎_elim
    (λ d. let r = subst (λ o. IfSome o (λ t. (x : Scenario) × ReadsScenario t x × (content_of x.content ≡ Err fault))) told d.0.2 in
    content_reads one bytes s r.0 reads has r.1 fault r.2)
    (λ d. no_replay_serves c.words d.words d.reads.asks is)
    due)
whole_done one c bytes s ending (FarmLine refusal) due ends is told reads has farm bs cs = absurd (⊎_elim
    (λ d. let r = subst (λ o. IfSome o (λ t. (x : Scenario) × ReadsScenario t x × HasContent x × (farm_in (farm_text x.farm) ≡ Err refusal))) told d.0.2 in
    farm_reads one bytes s r.0 reads farm r.1 refusal r.3)
    (λ d. no_replay_serves c.words d.words d.reads.asks is)
    due)
whole_done one c bytes s ending (Events t events) due ends is told reads has farm bs cs = ends.0
whole_done one c bytes s ending (Generated n) due ends is told reads has farm bs cs = absurd (no_replay_numbers c.words (n, inl due.0) is)
whole_done one c bytes s ending (Summary n t events) due ends is told reads has farm bs cs = absurd (no_replay_numbers c.words (n, inr due.0) is)
whole_done one c bytes s ending (OfServing w) due ends is told reads has farm bs cs =
    let asked = serving_asked c w due in
    absurd (no_replay_serves c.words asked.0 asked.1 is)

pub complete : IsOneReading → (c : RunCall) (sink : StreamReport (List ℕ)) (bytes : List ℕ) (s : Scenario) (ending : Ending) → Means (IsDue c) ending sink
    → IsReplay c.words → c.source.old ≡ Some bytes → ReadsScenario bytes s → HasContent s → HasFarm s
    → c.source.faults_old < greatest_u64 → HasNotFailed c.source → sink.faults_old < greatest_u64 → HasNotFailed sink
    → (ending ≡ Done) ⊎ (ending ≡ NoMemory)
complete one c sink bytes s ending m is told reads has farm bs cs bk ck = by_ending (IsDue c) ending sink m
    (λ e failed. absurd (both_failed_and_not sink bk ck failed))
    (λ e. inr e)
    (λ w due ends. inl (whole_done one c bytes s ending w due ends is told reads has farm bs cs))
