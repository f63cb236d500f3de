-- The disk of a scenario fails in an event only as the last line before it says that plans failures, one act more or less.
use Rattle.std.proofs.Common.{◌≡◌, ◌≢◌, ◌-◌, ◌<◌, ◌++◌, ◌∙◌, ℕ, Bool, true, false, List, [], ◌∷◌, Option, Some, None, if◌then◌else◌, subst, sym, refl, arith}
use Rattle.std.specs.Prelude.{IsTrue}
use Rattle.std.proofs.lemmas.Bool.{false≢true}
use Rattle.sp_base.specs.Limits.{greatest_u64}
use Rattle.run_events.specs.Causes.{SpoilAtMost}
use Rattle.run_events.specs.Events.{Event, HasCause, after_event, state_after_events, state_before_notes}
use Rattle.run_events.specs.States.{RunState}
use Rattle.run_events.specs.declared.note.Note.{Note}
use Rattle.sling_dispatch.specs.Runs.{AreArmed, Arming, IsArmed, MaySpoil, OneFailure, Unarmed, UntilRestart, arming_after, arming_in}
use Rattle.sling_dispatch.specs.ScriptedDisks.{LeavesCount, planned_count}
use Rattle.sp_outside.specs.Causes.{IsDiskFailure}

-- each line that has an event has it
abbrev pub Fit : List (Option Arming) → List Event → Type 0
Fit [] [] = Unit {0}
Fit [] (e ∷ events) = ⊥
Fit (Some planned ∷ lines) events = Fit lines events
Fit (None ∷ lines) [] = ⊥
Fit (None ∷ lines) (e ∷ events) = Fit lines events

-- how the disk may fail after these
abbrev pub armed_after : Arming → List (Option Arming) → List Event → Arming
armed_after armed [] events = armed
armed_after armed (Some planned ∷ lines) events = armed_after planned lines events
armed_after armed (None ∷ lines) [] = armed
armed_after armed (None ∷ lines) (e ∷ events) = armed_after (arming_after (arming_in armed e.step) e) lines events

-- ---- failures are planned

pub fit_plan : (lines : List (Option Arming)) (events : List Event) (planned : Arming) → Fit lines events → Fit (lines ++ Some planned ∷ []) events
fit_plan [] [] planned fit = tt
fit_plan [] (e ∷ events) planned fit = absurd fit
fit_plan (Some other ∷ lines) events planned fit = fit_plan lines events planned fit
fit_plan (None ∷ lines) [] planned fit = absurd fit
fit_plan (None ∷ lines) (e ∷ events) planned fit = fit_plan lines events planned fit

pub armed_plan : (a : Arming) (w : RunState) (lines : List (Option Arming)) (events : List Event) (planned : Arming) → Fit lines events → AreArmed a w lines events
    → AreArmed a w (lines ++ Some planned ∷ []) events
armed_plan a w [] events planned fit armed = tt
armed_plan a w (Some other ∷ lines) events planned fit armed = armed_plan other w lines events planned fit armed
armed_plan a w (None ∷ lines) [] planned fit armed = absurd fit
armed_plan a w (None ∷ lines) (e ∷ events) planned fit armed = (armed.0, armed_plan (arming_after (arming_in a e.step) e) (after_event w e) lines events planned fit armed.1)

pub after_plan : (a : Arming) (lines : List (Option Arming)) (events : List Event) (planned : Arming) → Fit lines events → armed_after a (lines ++ Some planned ∷ []) events ≡ planned
after_plan a [] events planned fit = refl
after_plan a (Some other ∷ lines) events planned fit = after_plan other lines events planned fit
after_plan a (None ∷ lines) [] planned fit = absurd fit
after_plan a (None ∷ lines) (e ∷ events) planned fit = after_plan (arming_after (arming_in a e.step) e) lines events planned fit

-- ---- an event comes

pub fit_event : (lines : List (Option Arming)) (events : List Event) (e : Event) → Fit lines events → Fit (lines ++ None ∷ []) (events ++ e ∷ [])
fit_event [] [] e fit = tt
fit_event [] (x ∷ events) e fit = absurd fit
fit_event (Some planned ∷ lines) events e fit = fit_event lines events e fit
fit_event (None ∷ lines) [] e fit = absurd fit
fit_event (None ∷ lines) (x ∷ events) e fit = fit_event lines events e fit

pub armed_event : (a : Arming) (w : RunState) (lines : List (Option Arming)) (events : List Event) (e : Event) → Fit lines events → AreArmed a w lines events
    → IsArmed (arming_in (armed_after a lines events) e.step) (state_after_events w events) e → AreArmed a w (lines ++ None ∷ []) (events ++ e ∷ [])
armed_event a w [] [] e fit armed here = (here, tt)
armed_event a w [] (x ∷ events) e fit armed here = absurd fit
armed_event a w (Some planned ∷ lines) events e fit armed here = armed_event planned w lines events e fit armed here
armed_event a w (None ∷ lines) [] e fit armed here = absurd fit
armed_event a w (None ∷ lines) (x ∷ events) e fit armed here =
    (armed.0, armed_event (arming_after (arming_in a x.step) x) (after_event w x) lines events e fit armed.1 here)

pub after_event_armed : (a : Arming) (lines : List (Option Arming)) (events : List Event) (e : Event) → Fit lines events
    → armed_after a (lines ++ None ∷ []) (events ++ e ∷ []) ≡ arming_after (arming_in (armed_after a lines events) e.step) e
after_event_armed a [] [] e fit = refl
after_event_armed a [] (x ∷ events) e fit = absurd fit
after_event_armed a (Some planned ∷ lines) events e fit = after_event_armed planned lines events e fit
after_event_armed a (None ∷ lines) [] e fit = absurd fit
after_event_armed a (None ∷ lines) (x ∷ events) e fit = after_event_armed (arming_after (arming_in a x.step) x) lines events e fit

-- ---- the count of faults

-- how the disk may fail after an event in which it failed or didn't
abbrev left_after : Arming → Bool → Arming
left_after Unarmed failed = Unarmed
left_after OneFailure failed = if failed then Unarmed else OneFailure
left_after UntilRestart failed = UntilRestart

left_is : (armed : Arming) (e : Event) → arming_after armed e ≡ left_after armed e.conditions.disk_failed
left_is Unarmed e = refl
left_is OneFailure e = refl
left_is UntilRestart e = refl

one_is_armed : OneFailure ≢ Unarmed
one_is_armed e = cc (e)

stop_is_armed : UntilRestart ≢ Unarmed
stop_is_armed e = cc (e)

-- what a rise of the count says
count_says : (armed left : Arming) (after : ℕ) (failed : Bool) → LeavesCount armed left after → IsDiskFailure (planned_count armed) after failed
    → (IsTrue failed → armed ≢ Unarmed) × (left_after armed failed ≡ left)
count_says Unarmed Unarmed after true counted d = absurd (omega (arith, d.1, counted.1))
count_says Unarmed Unarmed after false counted d = ((λ h. absurd (false≢true h)), refl)
count_says Unarmed OneFailure after true counted d = absurd (omega (arith, d.0, counted.1))
count_says Unarmed OneFailure after false counted d = absurd (omega (arith, d, counted.1))
count_says Unarmed UntilRestart after failed counted d = absurd (counted.0 refl)
count_says OneFailure Unarmed after true counted d = ((λ h. one_is_armed), refl)
count_says OneFailure Unarmed after false counted d = absurd (omega (arith, d, counted.1))
count_says OneFailure OneFailure after true counted d = absurd (omega (arith, d.1, counted.1))
count_says OneFailure OneFailure after false counted d = ((λ h. absurd (false≢true h)), refl)
count_says OneFailure UntilRestart after failed counted d = absurd (counted.0 refl)
count_says UntilRestart left after failed counted d = ((λ h. stop_is_armed), sym counted)

-- what it says of what is spoilt
spoils_say : (armed left : Arming) (after : ℕ) (failed : Bool) (w : RunState) (notes : List Note) → LeavesCount armed left after → IsDiskFailure (planned_count armed) after failed
    → (after < greatest_u64 → SpoilAtMost (after - planned_count armed) w notes) → MaySpoil armed failed w notes
spoils_say Unarmed left after false w notes counted d spoils =
    let none : after - 1 ≡ 0 = omega (arith, d) in
    subst (λ (n : ℕ). SpoilAtMost n w notes) none (spoils (omega (arith, d)))
spoils_say OneFailure left after false w notes counted d spoils =
    let none : after - 0 ≡ 0 = omega (arith, d) in
    subst (λ (n : ℕ). SpoilAtMost n w notes) none (spoils (omega (arith, d)))
spoils_say UntilRestart left after false w notes counted d spoils =
    let none : after - 0 ≡ 0 = omega (arith, d) in
    subst (λ (n : ℕ). SpoilAtMost n w notes) none (spoils (omega (arith, d)))
spoils_say Unarmed Unarmed after true w notes counted d spoils = absurd (omega (arith, d.1, counted.1))
spoils_say Unarmed OneFailure after true w notes counted d spoils = absurd (omega (arith, d.0, counted.1))
spoils_say Unarmed UntilRestart after true w notes counted d spoils = absurd (counted.0 refl)
spoils_say OneFailure Unarmed after true w notes counted d spoils =
    let one : after - 0 ≡ 1 = omega (arith, counted.1) in
    subst (λ (n : ℕ). SpoilAtMost n w notes) one (spoils (omega (arith, counted.1)))
spoils_say OneFailure OneFailure after true w notes counted d spoils = absurd (omega (arith, d.1, counted.1))
spoils_say OneFailure UntilRestart after true w notes counted d spoils = absurd (counted.0 refl)
spoils_say UntilRestart left after true w notes counted d spoils = tt

pub armed_by : (armed left : Arming) (after : ℕ) (w : RunState) (e : Event) → LeavesCount armed left after → HasCause (planned_count armed) after w e
    → IsArmed armed w e × (arming_after armed e ≡ left)
armed_by armed left after w e counted cause =
    let failed = e.conditions.disk_failed in
    let says = count_says armed left after failed counted cause.disk in (
      record {
        may_fail = says.0;
        spoils = spoils_say armed left after failed (state_before_notes w e e.step) e.body counted cause.disk cause.spoils;
      },
      left_is armed e ∙ says.1,
    )
