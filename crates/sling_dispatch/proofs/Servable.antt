-- Where nothing is in the way of serving, or of a scenario that is made from a number, the run is done or memory ran out.
use Rattle.std.proofs.Common.{◌≡◌, ◌≤◌, ◌<◌, ◌∙◌, ◌⊎◌, inl, inr, ⊎_elim, ℕ, List, Option, Some, None, IfSome, Result, Ok, Err, length, arith, refl, sym, subst, ap}
use Rattle.sp_base.specs.Limits.{greatest_u64}
use Rattle.sp_outside.specs.Causes.{Rose}
use Rattle.sp_outside.specs.Files.{Files, file_at}
use Rattle.cache_files.specs.Epochs.{next_epoch}
use Rattle.content_json.specs.ContentOf.{content as content_of}
use Rattle.outside_world.specs.InputFiles.{IsLongInput, longest_input}
use Rattle.outside_world.specs.declared.inputs.InputFault.{InputFault}
use Rattle.outside_world.specs.declared.inputs.InputFault.TheVariants as input_fault
use Rattle.resource_tree.specs.Content.{Content}
use Rattle.any_config.specs.declared.farm.Farm.{Farm}
use Rattle.sling_dispatch.specs.Endings.{Writing, Nothing, UsageLine, SourceLine, RefusalLine, ContentLine, FarmLine, Events, Generated, Summary, OfServing, ServeWriting, Served, CutOff, WorldLine, DocrootLine, OpeningLine, InputLine, EndsIn, EndsServing, IsDue, IsReplay, IsServingDue, Means}
use Rattle.sling_dispatch.specs.Farms.{farm_in}
use Rattle.sling_dispatch.specs.Forms.{AsksFor, AsksNumber, IsServe}
use Rattle.sling_dispatch.specs.Reports.{HasFailed, HasNotFailed, RunCall, StreamReport}
use Rattle.sling_dispatch.specs.Serving.{HoldsInput, IsServable, LacksInput, OfInput}
use Rattle.sling_dispatch.specs.declared.ending.Ending.{Ending}
use Rattle.sling_dispatch.specs.declared.ending.Ending.TheVariants.{Done, Usage, SourceFailed, SinkFailed, Refused, ContentRefused, FarmRefused, DocrootFailed, WorldFailed, InputFailed, NotOpened, NoMemory}
use Rattle.sling_dispatch.specs.declared.form.Form.TheVariants as form
use Rattle.sling_dispatch.specs.declared.form.ServeWords.{ServeWords}

-- ---- the words are of one form

pub no_replay_serves : (words : List (List ℕ)) (s : ServeWords) → AsksFor words (form.Serve s) → IsReplay words → ⊥
no_replay_serves words s a is = let e = a.words_are in cc (e, is)

no_scenario_serves : (words : List (List ℕ)) (s : ServeWords) (n : ℕ) → AsksFor words (form.Serve s) → AsksFor words (form.Scenario n) → ⊥
no_scenario_serves words s n a b = let e = a.words_are in let h = b.words_are in cc (e, h)

no_soak_serves : (words : List (List ℕ)) (s : ServeWords) (n : ℕ) → AsksFor words (form.Serve s) → AsksFor words (form.Soak n) → ⊥
no_soak_serves words s n a b = let e = a.words_are in let h = b.words_are in cc (e, h)

same_content : (words : List (List ℕ)) (s t : ServeWords) → AsksFor words (form.Serve s) → AsksFor words (form.Serve t) → s.content ≡ t.content
same_content words s t a b = let e = a.words_are in let h = b.words_are in cc (e, h)

same_any : (words : List (List ℕ)) (s t : ServeWords) → AsksFor words (form.Serve s) → AsksFor words (form.Serve t) → s.any ≡ t.any
same_any words s t a b = let e = a.words_are in let h = b.words_are in cc (e, h)

-- ---- the inputs have what they have

both_rose_and_not : (before after : ℕ) → before < greatest_u64 → after ≡ before → Rose before after → ⊥
both_rose_and_not before after below same rose = omega (arith, same, rose)

-- a value that a reading has, and a fault, aren't both given for one input
read_and_refused : {T E : Type 0} (reading : List ℕ → Result T E) (inputs : StreamReport Files) (held : Files) (name other : List ℕ) (fault : E) → inputs.old ≡ Some held → name ≡ other
    → HoldsInput held name (λ bytes. (value : T) × (reading bytes ≡ Ok value)) → OfInput inputs other (λ bytes. reading bytes ≡ Err fault) → ⊥
read_and_refused reading inputs held name other fault told same has lacks =
    let of_other : HoldsInput held other (λ bytes. reading bytes ≡ Err fault) = subst (λ o. IfSome o (λ h. HoldsInput h other (λ bytes. reading bytes ≡ Err fault))) told lacks in
    let of_name : HoldsInput held name (λ bytes. reading bytes ≡ Err fault) = subst (λ n. HoldsInput held n (λ bytes. reading bytes ≡ Err fault)) (sym same) of_other in
    let found : Some has.0 ≡ Some of_name.0 = sym has.1 ∙ of_name.1 in
    let bytes : has.0 ≡ of_name.0 = cc found in
    let ok : reading of_name.0 ≡ Ok has.3.0 = sym (ap reading bytes) ∙ has.3.1 in
    let err = of_name.3 in
    cc (ok, err)

short_and_long : (found : Option (List ℕ)) (bytes : List ℕ) → found ≡ Some bytes → length bytes ≤ longest_input → IsLongInput found → ⊥
short_and_long None bytes e short long = absurd long
short_and_long (Some more) bytes e short long =
    let same : more ≡ bytes = cc e in
    let size = ap length same in
    omega (arith, size, short, long)

-- an input that is short isn't too long
no_long : (inputs : StreamReport Files) (held : Files) (name : List ℕ) (P : List ℕ → Type 0) → inputs.old ≡ Some held → HoldsInput held name P
    → IfSome inputs.old (λ h. IsLongInput (file_at h name)) → ⊥
no_long inputs held name P told has long =
    short_and_long (file_at held name) has.0 has.1 has.2 (subst (λ o. IfSome o (λ h. IsLongInput (file_at h name))) told long)

-- each input of the words is there and short
short_input : (c : RunCall) (words : ServeWords) (s : IsServable c words) (fault : InputFault) (name : List ℕ) → LacksInput c fault name → IfSome c.inputs.old (λ h. IsLongInput (file_at h name)) → ⊥
short_input c words s fault name lacks long = ⊎_elim
    (λ is. let same = is ∙ same_content c.words lacks.words words lacks.reads.asks s.asks in
    no_long c.inputs s.held words.content (λ bytes. (tree : Content) × (content_of bytes ≡ Ok tree)) s.held_is s.content (subst (λ n. IfSome c.inputs.old (λ h. IsLongInput (file_at h n))) same long))
    (λ is. let same = is.0 ∙ same_any c.words lacks.words words lacks.reads.asks s.asks in
    no_long c.inputs s.held words.any (λ bytes. (farm : Farm) × (farm_in bytes ≡ Ok farm)) s.held_is s.any (subst (λ n. IfSome c.inputs.old (λ h. IsLongInput (file_at h n))) same long))
    lacks.next

inputs_read : (c : RunCall) (words : ServeWords) (s : IsServable c words) (fault : InputFault) (name : List ℕ) → LacksInput c fault name → ⊥
inputs_read c words s input_fault.Failed name lacks = both_rose_and_not c.inputs.faults_old c.inputs.faults_new s.inputs_bounded s.inputs_kept lacks.cause
inputs_read c words s input_fault.TooLong name lacks = short_input c words s input_fault.TooLong name lacks lacks.cause.1
inputs_read c words s input_fault.NoMemory name lacks = absurd lacks.cause

-- ---- serving

serving_done : (c : RunCall) (words : ServeWords) (s : IsServable c words) (ending : Ending) (w : ServeWriting) → IsServingDue c w → EndsServing w ending → ending ≡ Done
serving_done c words s ending (Served t) due ends = ends
serving_done c words s ending CutOff due ends = absurd ends
serving_done c words s ending WorldLine due ends = absurd (both_rose_and_not c.world.next_old c.world.next_new s.world_bounded s.world_kept due.1.cause)
serving_done c words s ending DocrootLine due ends = absurd (both_rose_and_not c.disk.faults_old c.disk.faults_new s.disk_bounded (s.disk_kept due.world) due.failed)
serving_done c words s ending (OpeningLine fault) due ends =
    let e = subst (λ o. IfSome o (λ files. next_epoch files ≡ Err fault)) s.files_are due.next in
    let ok = s.next in
    absurd (cc (e, ok))
serving_done c words s ending (InputLine fault name) due ends = absurd (inputs_read c words s fault name due)

whole_served : (c : RunCall) (words : ServeWords) (s : IsServable c words) (ending : Ending) (w : Writing) → IsDue c w → EndsIn w ending → ending ≡ Done
whole_served c words s ending Nothing due ends = absurd ends
whole_served c words s ending UsageLine due ends = absurd (due.0 (form.Serve words, s.asks))
whole_served c words s ending SourceLine due ends = absurd (no_replay_serves c.words words s.asks due.0)
whole_served c words s ending (RefusalLine before) due ends = absurd (no_replay_serves c.words words s.asks due.0.0)
whole_served c words s ending (ContentLine fault) due ends = absurd (⊎_elim
    (λ d. no_replay_serves c.words words s.asks d.0.0)
    (λ d. read_and_refused content_of c.inputs s.held words.content d.words.content fault s.held_is (same_content c.words words d.words s.asks d.reads.asks) s.content d.content)
    due)
whole_served c words s ending (FarmLine refusal) due ends = absurd (⊎_elim
    (λ d. no_replay_serves c.words words s.asks d.0.0)
    (λ d. read_and_refused farm_in c.inputs s.held words.any d.words.any refusal s.held_is (same_any c.words words d.words s.asks d.reads.asks) s.any d.any)
    due)
whole_served c words s ending (Events t events) due ends = absurd (no_replay_serves c.words words s.asks due.0.0)
whole_served c words s ending (Generated n) due ends = absurd (no_scenario_serves c.words words n s.asks due.0)
whole_served c words s ending (Summary n t events) due ends = absurd (no_soak_serves c.words words n s.asks due.0)
whole_served c words s ending (OfServing w) due ends = serving_done c words s ending w due ends

-- an ending, by what was written
pub by_ending : {P : Type 0} (D : Writing → Type 0) (ending : Ending) (sink : StreamReport (List ℕ)) → Means D ending sink → (ending ≡ SinkFailed → HasFailed sink → P) → (ending ≡ NoMemory → P)
    → ((w : Writing) → D w → EndsIn w ending → P) → P
by_ending D SinkFailed sink m failed memory whole = failed refl m.1
by_ending D NoMemory sink m failed memory whole = memory refl
by_ending D Done sink m failed memory whole = whole m.writing m.due m.ends
by_ending D Usage sink m failed memory whole = whole m.writing m.due m.ends
by_ending D SourceFailed sink m failed memory whole = whole m.writing m.due m.ends
by_ending D Refused sink m failed memory whole = whole m.writing m.due m.ends
by_ending D ContentRefused sink m failed memory whole = whole m.writing m.due m.ends
by_ending D FarmRefused sink m failed memory whole = whole m.writing m.due m.ends
by_ending D DocrootFailed sink m failed memory whole = whole m.writing m.due m.ends
by_ending D WorldFailed sink m failed memory whole = whole m.writing m.due m.ends
by_ending D InputFailed sink m failed memory whole = whole m.writing m.due m.ends
by_ending D NotOpened sink m failed memory whole = whole m.writing m.due m.ends

pub served : (c : RunCall) (sink : StreamReport (List ℕ)) (words : ServeWords) (ending : Ending) → Means (IsDue c) ending sink → IsServable c words
    → sink.faults_old < greatest_u64 → HasNotFailed sink → (ending ≡ Done) ⊎ (ending ≡ NoMemory)
served c sink words ending m s bounded calm = by_ending (IsDue c) ending sink m
    (λ e failed. absurd (both_rose_and_not sink.faults_old sink.faults_new bounded calm failed))
    (λ e. inr e)
    (λ w due ends. inl (whole_served c words s ending w due ends))

-- ---- scenarios that are made from a number

pub no_replay_numbers : (words : List (List ℕ)) → AsksNumber words → IsReplay words → ⊥
no_replay_numbers words (n, inl a) is = let e = a.words_are in cc (e, is)
no_replay_numbers words (n, inr a) is = let e = a.words_are in cc (e, is)

no_serve_numbers : (words : List (List ℕ)) → AsksNumber words → IsServe words → ⊥
no_serve_numbers words (n, inl a) (s, b) = no_scenario_serves words s n b a
no_serve_numbers words (n, inr a) (s, b) = no_soak_serves words s n b a

-- what may be written of serving is written where that is asked for
pub serving_asked : (c : RunCall) (w : ServeWriting) → IsServingDue c w → IsServe c.words
serving_asked c (Served words) due = (words, due.has.asks)
serving_asked c CutOff due = (due.0, due.1.has.asks)
serving_asked c WorldLine due = (due.0, due.1.has.asks)
serving_asked c DocrootLine due = (due.words, due.has.asks)
serving_asked c (OpeningLine fault) due = (due.words, due.has.asks)
serving_asked c (InputLine fault name) due = (due.words, due.reads.asks)

numbered_form : (words : List (List ℕ)) → AsksNumber words → (f : _) × AsksFor words f
numbered_form words (n, inl a) = (form.Scenario n, a)
numbered_form words (n, inr a) = (form.Soak n, a)

whole_numbered : (c : RunCall) (ending : Ending) (w : Writing) → AsksNumber c.words → IsDue c w → EndsIn w ending → ending ≡ Done
whole_numbered c ending Nothing asks due ends = absurd ends
whole_numbered c ending UsageLine asks due ends = absurd (due.0 (numbered_form c.words asks))
whole_numbered c ending SourceLine asks due ends = absurd (no_replay_numbers c.words asks due.0)
whole_numbered c ending (RefusalLine before) asks due ends = absurd (no_replay_numbers c.words asks due.0.0)
whole_numbered c ending (ContentLine fault) asks due ends = absurd (⊎_elim (λ d. no_replay_numbers c.words asks d.0.0) (λ d. no_serve_numbers c.words asks (d.words, d.reads.asks)) due)
whole_numbered c ending (FarmLine refusal) asks due ends = absurd (⊎_elim (λ d. no_replay_numbers c.words asks d.0.0) (λ d. no_serve_numbers c.words asks (d.words, d.reads.asks)) due)
whole_numbered c ending (Events t events) asks due ends = absurd (no_replay_numbers c.words asks due.0.0)
whole_numbered c ending (Generated n) asks due ends = ends
whole_numbered c ending (Summary n t events) asks due ends = ends.0
whole_numbered c ending (OfServing w) asks due ends = absurd (no_serve_numbers c.words asks (serving_asked c w due))

pub numbered : (c : RunCall) (sink : StreamReport (List ℕ)) (ending : Ending) → Means (IsDue c) ending sink → AsksNumber c.words
    → (ending ≡ Done) ⊎ ((ending ≡ NoMemory) ⊎ ((ending ≡ SinkFailed) × HasFailed sink))
numbered c sink ending m asks = by_ending (IsDue c) ending sink m
    (λ e failed. inr (inr (e, failed)))
    (λ e. inr (inl e))
    (λ w due ends. inl (whole_numbered c ending w asks due ends))
