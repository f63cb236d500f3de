-- Each slot of a connection has its own request's answer, as notes come one after another.
use Rattle.std.proofs.Common.{◌≡◌, ◌≢◌, ℕ, ◌+◌, ◌++◌, Bool, false, List, [], ◌∷◌, Option, Some, None, refl, ap, sym, subst, ◌∙◌, inl, inr, ⊎_elim, append-nil, append_assoc}
use Rattle.std.specs.Prelude.{nat_eq, unwrap_or}
use Rattle.std.specs.Option.{option_map}
use Rattle.std.proofs.lemmas.Map.{update_apart, update_here}
use Rattle.std.proofs.lemmas.Bool.{cases_eq, ne_eqb}
use Rattle.sp_base.specs.declared.answer.Answer.{Answer}
use Rattle.sp_base.specs.Requests.{Request}
use Rattle.error_answers.specs.Errors.{error_answer}
use Rattle.cache_log.specs.Entries.{LogEntry, Lost as lost_entry, FlushOutcome, Done as done_outcome, Failed as failed_outcome, flights_asked, flushes_begun}
use Rattle.connections.specs.declared.awaited.Awaited.TheVariants.{Flight as flight_awaited, Flush as flush_awaited}
use Rattle.connections.specs.Slots.{Says, fixed_answer}
use Rattle.connections.specs.Connections.{Connection, with_end}
use Rattle.connections.specs.declared.sending.Sending.{Sending}
use Rattle.run_events.specs.declared.conditions.Conditions.{Conditions}
use Rattle.run_events.specs.declared.flying.Flying.{Flying}
use Rattle.run_events.specs.declared.flying.Flushing.{Flushing}
use Rattle.run_events.specs.declared.note.Note.{Note}
use Rattle.run_events.specs.declared.note.Note.TheVariants.{Sliced, Done, Failed, Rendered, Kept as kept_note, Unkept, Passed, Lost}
use Rattle.run_events.specs.Moves.{GivesDue, GivesNext, Serves, answer_in, due_of_connection, failure_status, flying_at, flush_at, over_with, state_after_ending, state_after_note, state_after_notes, treated_request, air_without}
use Rattle.run_events.specs.States.{RunState}
use Rattle.run_laws.specs.Histories.{sent_by, sent_in}
use Rattle.run_laws.specs.Renders.{Rendering, rendered_by, rendering_of, renders_in}
use Rattle.run_laws.specs.Owned.{FlushEnding, HasFlushEnding, IsOfFlight, Outcomes, Treating, WasLost, WasRendered, ended_by, ended_in, lost_by, lost_in, treated_by, treated_in}
use Rattle.run_laws.proofs.AskLemmas.{Numbered, are-rising, due-asks, note-numbered}
use Rattle.run_laws.proofs.FormLemmas.{IsDueNote, IsLandingNote, IsRequestNote, IsSliceNote, next-form, slice-form}
use Rattle.run_laws.proofs.HistoryLemmas.{Held, held-same, next-held}
use Rattle.run_laws.proofs.KeptLemmas.{Owns as OwnsSlice, due-apart, owns-due}
use Rattle.run_laws.proofs.OutcomeLemmas.{Agrees, IsAskedFor, IsOver, Moved, at-within, flying-unlost, moved-lost, moved-over, moved-rendered, moved-same, over-now, with_endings, with_losses, with_renders}
use Rattle.run_laws.proofs.OwnedLemmas.{Moves, Own, Owns, asked-moves, connection-owns, ending-moves, flush-moves, hit-moves, last-moved, own-moved, own-none, own-one, owns-flushed, owns-landed}

-- ---- outcomes that grow
abbrev pub plus : Outcomes → List Rendering → List ℕ → List FlushEnding → Outcomes
plus outcomes renders losses endings = record { renders = outcomes.renders ++ renders; losses = outcomes.losses ++ losses; endings = outcomes.endings ++ endings }

-- what a note adds
abbrev pub outcomes_by : RunState → Bool → Outcomes → Note → Outcomes
outcomes_by w out_of_memory outcomes note = plus outcomes (rendered_by w out_of_memory note) (lost_by note) (ended_by note)

pub plus-none : (outcomes : Outcomes) → plus outcomes [] [] [] ≡ outcomes
plus-none outcomes = ap (λ rs. record { renders = rs; losses = outcomes.losses ++ []; endings = outcomes.endings ++ [] }) (append-nil outcomes.renders) ∙ ap (λ ls. record { renders = outcomes.renders; losses = ls; endings = outcomes.endings ++ [] }) (append-nil outcomes.losses) ∙ ap (λ es. record { renders = outcomes.renders; losses = outcomes.losses; endings = es }) (append-nil outcomes.endings)

plus-ended : (outcomes : Outcomes) (more : List FlushEnding) → plus outcomes [] [] more ≡ with_endings outcomes more
plus-ended outcomes more = ap (λ rs. record { renders = rs; losses = outcomes.losses ++ []; endings = outcomes.endings ++ more }) (append-nil outcomes.renders) ∙ ap (λ ls. record { renders = outcomes.renders; losses = ls; endings = outcomes.endings ++ more }) (append-nil outcomes.losses)

plus-lost : (outcomes : Outcomes) (more : List ℕ) → plus outcomes [] more [] ≡ with_losses outcomes more
plus-lost outcomes more = ap (λ rs. record { renders = rs; losses = outcomes.losses ++ more; endings = outcomes.endings ++ [] }) (append-nil outcomes.renders) ∙ ap (λ es. record { renders = outcomes.renders; losses = outcomes.losses ++ more; endings = es }) (append-nil outcomes.endings)

plus-rendered : (outcomes : Outcomes) (more : List Rendering) → plus outcomes more [] [] ≡ with_renders outcomes more
plus-rendered outcomes more = ap (λ ls. record { renders = outcomes.renders ++ more; losses = ls; endings = outcomes.endings ++ [] }) (append-nil outcomes.losses) ∙ ap (λ es. record { renders = outcomes.renders ++ more; losses = outcomes.losses; endings = es }) (append-nil outcomes.endings)

pub plus-plus : (outcomes : Outcomes) (r s : List Rendering) (l k : List ℕ) (e f : List FlushEnding) → plus (plus outcomes r l e) s k f ≡ plus outcomes (r ++ s) (l ++ k) (e ++ f)
plus-plus outcomes r s l k e f =
    ap (λ rs. record { renders = rs; losses = (outcomes.losses ++ l) ++ k; endings = (outcomes.endings ++ e) ++ f }) (append_assoc outcomes.renders r s)
    ∙ ap (λ ls. record { renders = outcomes.renders ++ (r ++ s); losses = ls; endings = (outcomes.endings ++ e) ++ f }) (append_assoc outcomes.losses l k)
    ∙ ap (λ es. record { renders = outcomes.renders ++ (r ++ s); losses = outcomes.losses ++ (l ++ k); endings = es }) (append_assoc outcomes.endings e f)

-- ---- what one note leaves
abbrev pub OwnAfter : RunState → Conditions → ℕ → Outcomes → List Treating → List ℕ → List Sending → Note → Type 0
OwnAfter w m c outcomes treatings came sent note = Own (state_after_note w note) c (outcomes_by w m.out_of_memory outcomes note) (treatings ++ treated_by w c note) came (sent ++ sent_by c m note)

-- the same under other names
pub own-as : (w : RunState) (c : ℕ) (os ps : Outcomes) (fs gs : List Treating) (came : List ℕ) (xs ys : List Sending) → os ≡ ps → fs ≡ gs → xs ≡ ys → Own w c os fs came xs → Own w c ps gs came ys
own-as w c os ps fs gs came xs ys outcomes treatings sent own = subst (λ o. Own w c o gs came ys) outcomes (subst (λ hs. Own w c os hs came ys) treatings (subst (λ zs. Own w c os fs came zs) sent own))

-- nothing is treated, and nothing is sent
pub own-silent : (v : RunState) (c : ℕ) (os ps : Outcomes) (treatings : List Treating) (came : List ℕ) (sent : List Sending) → os ≡ ps → Own v c os treatings came sent → Own v c ps (treatings ++ []) came (sent ++ [])
own-silent v c os ps treatings came sent same own = own-as v c os ps treatings (treatings ++ []) came sent (sent ++ []) same (sym (append-nil treatings)) (sym (append-nil sent)) own

-- ---- a flush ends
pub ending-own : (w : RunState) (c u status : ℕ) (outcome : FlushOutcome) (outcomes : Outcomes) (treatings : List Treating) (came : List ℕ) (sent : List Sending) (at : Option Flushing) → Own w c outcomes treatings came sent
    → Own (state_after_ending w u outcome (Says (error_answer status)) at) c (with_endings outcomes (record { number = u; status = status } ∷ [])) treatings came sent
ending-own w c u status outcome outcomes treatings came sent None own = own-moved w w c outcomes (with_endings outcomes (record { number = u; status = status } ∷ [])) treatings came sent refl (ending-moves w u outcome (Says (error_answer status)) outcomes (record { number = u; status = status } ∷ []) None own.air_is) own
ending-own w c u status outcome outcomes treatings came sent (Some f) own = ⊎_elim (here (w.connection f.connection) refl) apart (cases_eq f.connection c)
  where
    v : RunState
    v = state_after_ending w u outcome (Says (error_answer status)) (Some f)

    all : Outcomes
    all = with_endings outcomes (record { number = u; status = status } ∷ [])

    moves : Moves w outcomes v all
    moves = ending-moves w u outcome (Says (error_answer status)) outcomes (record { number = u; status = status } ∷ []) (Some f) own.air_is

    ended : HasFlushEnding all.endings u status
    ended = record { before = outcomes.endings; later = []; is = refl }

    here : (at : Option Connection) → w.connection f.connection ≡ at → f.connection ≡ c → Own v c all treatings came sent
    here None is x = own-none v c all treatings came sent (subst (λ y. v.connection y ≡ None) x (update_here w.connection f.connection _ ∙ ap (option_map (with_end (flush_awaited u) (Says (error_answer status)))) is)) (last-moved w v outcomes all treatings came sent moves (own.over (sym (ap w.connection x) ∙ is))) moves.air_is
    here (Some k) is x =
        let now : v.connection f.connection ≡ Some (with_end (flush_awaited u) (Says (error_answer status)) k) = update_here w.connection f.connection _ ∙ ap (option_map (with_end (flush_awaited u) (Says (error_answer status)))) is in
        let owns : Owns v all treatings (with_end (flush_awaited u) (Says (error_answer status)) k) = owns-flushed w v outcomes all treatings u status k moves ended (own.here k (sym (ap w.connection x) ∙ is)) in
        own-one v c all treatings came sent (with_end (flush_awaited u) (Says (error_answer status)) k) (subst (λ y. v.connection y ≡ Some (with_end (flush_awaited u) (Says (error_answer status)) k)) x now) owns moves.air_is

    apart : f.connection ≢ c → Own v c all treatings came sent
    apart other = own-moved w v c outcomes all treatings came sent (update_apart w.connection f.connection _ c (λ x. other (sym x))) moves own

pub slice-own : (m : Conditions) (w : RunState) (c u : ℕ) (outcomes : Outcomes) (treatings : List Treating) (came : List ℕ) (sent : List Sending) (note : Note) → Own w c outcomes treatings came sent → IsSliceNote u note → OwnAfter w m c outcomes treatings came sent note
slice-own m w c u outcomes treatings came sent note own (inl done) =
    rw done (own-silent (state_after_note w (Done u)) c (with_endings outcomes (record { number = u; status = 200 } ∷ [])) (plus outcomes [] [] (record { number = u; status = 200 } ∷ [])) treatings came sent (sym (plus-ended outcomes (record { number = u; status = 200 } ∷ []))) (ending-own w c u 200 done_outcome outcomes treatings came sent (flush_at u w.flushes) own))
slice-own m w c u outcomes treatings came sent note own (inr (inl sliced)) =
    rw sliced (own-silent (state_after_note w (Sliced u)) c outcomes (plus outcomes [] [] []) treatings came sent (sym (plus-none outcomes)) (own-moved w (state_after_note w (Sliced u)) c outcomes outcomes treatings came sent refl (moved-same w.flights (flights_asked w.log) outcomes own.air_is) own))
slice-own m w c u outcomes treatings came sent note own (inr (inr failed)) =
    rw failed.1 (own-silent (state_after_note w (Failed u failed.0)) c (with_endings outcomes (record { number = u; status = failure_status failed.0 } ∷ [])) (plus outcomes [] [] (record { number = u; status = failure_status failed.0 } ∷ [])) treatings came sent (sym (plus-ended outcomes (record { number = u; status = failure_status failed.0 } ∷ []))) (ending-own w c u (failure_status failed.0) failed_outcome outcomes treatings came sent (flush_at u w.flushes) own))

-- ---- a note that is due to another connection
-- it answers nothing here, and moves the flights alone
pub record Elsewhere (w : RunState) (c : ℕ) (outcomes : Outcomes) (note : Note) : Type 0 where
  pub none : treated_by w c note ≡ []
  pub adds : (out_of_memory : Bool) → outcomes_by w out_of_memory outcomes note ≡ outcomes
  pub moves : Moves w outcomes (state_after_note w note) outcomes

request-elsewhere : (w : RunState) (c d : ℕ) (outcomes : Outcomes) (note : Note) → c ≢ d → Numbered w → Agrees outcomes w.flights (flights_asked w.log) → IsRequestNote w d note → Elsewhere w c outcomes note
request-elsewhere w c d outcomes note apart numbered air_is (inl local) =
    let other : nat_eq d c ≡ false = ne_eqb d c (λ e. apart (sym e)) in
    rw local.1 (record { none = rw other refl; adds = λ oom. plus-none outcomes; moves = moved-same w.flights (flights_asked w.log) outcomes air_is })
request-elsewhere w c d outcomes note apart numbered air_is (inr (inl ask)) =
    let other : nat_eq d c ≡ false = ne_eqb d c (λ e. apart (sym e)) in
    rw ask.1 (record { none = rw other refl; adds = λ oom. plus-none outcomes; moves = asked-moves w (flights_asked w.log + 1) d ask.0 outcomes (treated_request (due_of_connection w d)) refl numbered air_is })
request-elsewhere w c d outcomes note apart numbered air_is (inr (inr (inl hit))) =
    let other : nat_eq d c ≡ false = ne_eqb d c (λ e. apart (sym e)) in
    rw hit.1 (record { none = rw other refl; adds = λ oom. plus-none outcomes; moves = hit-moves w d hit.0 outcomes (treated_request (due_of_connection w d)) air_is })
request-elsewhere w c d outcomes note apart numbered air_is (inr (inr (inr flush))) =
    let other : nat_eq d c ≡ false = ne_eqb d c (λ e. apart (sym e)) in
    rw flush.1 (record { none = rw other refl; adds = λ oom. plus-none outcomes; moves = flush-moves w (flushes_begun w.log + 1) d flush.0 outcomes (treated_request (due_of_connection w d)) air_is })

-- a note that is due to the connection itself adds nothing to the outcomes, unless it is a slice's
request-adds : (w : RunState) (c : ℕ) (outcomes : Outcomes) (out_of_memory : Bool) (note : Note) → IsRequestNote w c note → outcomes_by w out_of_memory outcomes note ≡ outcomes
request-adds w c outcomes out_of_memory note (inl local) = rw local.1 (plus-none outcomes)
request-adds w c outcomes out_of_memory note (inr (inl ask)) = rw ask.1 (plus-none outcomes)
request-adds w c outcomes out_of_memory note (inr (inr (inl hit))) = rw hit.1 (plus-none outcomes)
request-adds w c outcomes out_of_memory note (inr (inr (inr flush))) = rw flush.1 (plus-none outcomes)

-- here, or elsewhere
own-here : (m : Conditions) (w : RunState) (c : ℕ) (outcomes : Outcomes) (treatings : List Treating) (came : List ℕ) (sent : List Sending) (note : Note) → Held w c came sent → Numbered w → Own w c outcomes treatings came sent → GivesDue m w c (due_of_connection w c) note
    → outcomes_by w m.out_of_memory outcomes note ≡ outcomes → OwnAfter w m c outcomes treatings came sent note
own-here m w c outcomes treatings came sent note held numbered own gives adds =
    own-as (state_after_note w note) c outcomes (outcomes_by w m.out_of_memory outcomes note) (treatings ++ treated_by w c note) (treatings ++ treated_by w c note) came (sent ++ sent_by c m note) (sent ++ sent_by c m note) (sym adds) refl refl
    (connection-owns m w c outcomes treatings came sent note (w.connection c) refl held numbered own gives)

own-elsewhere : (m : Conditions) (w : RunState) (c d : ℕ) (outcomes : Outcomes) (treatings : List Treating) (came : List ℕ) (sent : List Sending) (note : Note) → c ≢ d → OwnsSlice w d → IsDueNote w d note → Own w c outcomes treatings came sent → Elsewhere w c outcomes note
    → OwnAfter w m c outcomes treatings came sent note
own-elsewhere m w c d outcomes treatings came sent note apart owns form own elsewhere =
    let away = due-apart m w c d note apart owns form in
    own-as (state_after_note w note) c outcomes (outcomes_by w m.out_of_memory outcomes note) treatings (treatings ++ treated_by w c note) came sent (sent ++ sent_by c m note) (sym (elsewhere.adds m.out_of_memory))
    (sym (append-nil treatings) ∙ ap (λ fs. treatings ++ fs) (sym elsewhere.none)) (sym (append-nil sent) ∙ ap (λ xs. sent ++ xs) (sym away.none))
    (own-moved w (state_after_note w note) c outcomes outcomes treatings came sent away.connection elsewhere.moves own)

-- a note that gives the connection d what is due next
due-own : (m : Conditions) (w : RunState) (c d : ℕ) (outcomes : Outcomes) (treatings : List Treating) (came : List ℕ) (sent : List Sending) (note : Note) → Held w c came sent → Numbered w → OwnsSlice w d → Own w c outcomes treatings came sent → GivesDue m w d (due_of_connection w d) note → IsDueNote w d note
    → OwnAfter w m c outcomes treatings came sent note
due-own m w c d outcomes treatings came sent note held numbered owns own gives (inl request) = ⊎_elim
    (λ same. own-here m w c outcomes treatings came sent note held numbered own (subst (λ x. GivesDue m w x (due_of_connection w x) note) same gives) (request-adds w d outcomes m.out_of_memory note request))
    (λ apart. own-elsewhere m w c d outcomes treatings came sent note (λ e. apart (sym e)) owns (inl request) own (request-elsewhere w c d outcomes note (λ e. apart (sym e)) numbered own.air_is request))
    (cases_eq d c)
due-own m w c d outcomes treatings came sent note held numbered owns own gives (inr (inl bytes)) = ⊎_elim
    (λ same. own-here m w c outcomes treatings came sent note held numbered own (subst (λ x. GivesDue m w x (due_of_connection w x) note) same gives) (rw bytes.1 (plus-none outcomes)))
    (λ apart. own-elsewhere m w c d outcomes treatings came sent note (λ e. apart (sym e)) owns (inr (inl bytes)) own (rw bytes.1 (record { none = refl; adds = λ oom. plus-none outcomes; moves = moved-same w.flights (flights_asked w.log) outcomes own.air_is })))
    (cases_eq d c)
due-own m w c d outcomes treatings came sent note held numbered owns own gives (inr (inr (inl shut))) = ⊎_elim
    (λ same. own-here m w c outcomes treatings came sent note held numbered own (subst (λ x. GivesDue m w x (due_of_connection w x) note) same gives) (rw shut (plus-none outcomes)))
    (λ apart. own-elsewhere m w c d outcomes treatings came sent note (λ e. apart (sym e)) owns (inr (inr (inl shut))) own (rw shut (record { none = refl; adds = λ oom. plus-none outcomes; moves = moved-same w.flights (flights_asked w.log) outcomes own.air_is })))
    (cases_eq d c)
due-own m w c d outcomes treatings came sent note held numbered owns own gives (inr (inr (inr slice))) = slice-own m w c slice.0 outcomes treatings came sent note own slice.2

next-own : (m : Conditions) (w : RunState) (c d : ℕ) (outcomes : Outcomes) (treatings : List Treating) (came : List ℕ) (sent : List Sending) (slicing : Option ℕ) (note : Note) → w.slicing ≡ slicing → Held w c came sent → Numbered w → OwnsSlice w d → Own w c outcomes treatings came sent → GivesNext m w d slicing note
    → OwnAfter w m c outcomes treatings came sent note
next-own m w c d outcomes treatings came sent None note is held numbered owns own gives = due-own m w c d outcomes treatings came sent note held numbered owns own gives (next-form m w d None note is gives)
next-own m w c d outcomes treatings came sent (Some u) note is held numbered owns own gives = slice-own m w c u outcomes treatings came sent note own (slice-form m u note gives)

-- the past of the connection goes on, too
held-next : (m : Conditions) (w : RunState) (c d : ℕ) (came : List ℕ) (sent : List Sending) (note : Note) → Held w c came sent → OwnsSlice w d → GivesNext m w d w.slicing note → IsDueNote w d note → Held (state_after_note w note) c came (sent ++ sent_by c m note)
held-next m w c d came sent note held owns gives form = ⊎_elim
    (λ same. next-held m w c came sent w.slicing note held (subst (λ x. GivesNext m w x w.slicing note) same gives))
    (λ apart. let away = due-apart m w c d note (λ e. apart (sym e)) owns form in held-same w (state_after_note w note) c came sent (sent ++ sent_by c m note) away.connection (sym (append-nil sent) ∙ ap (λ xs. sent ++ xs) (sym away.none)) held)
    (cases_eq d c)

-- ---- notes, one after another
abbrev pub OwnAfterAll : RunState → Conditions → ℕ → Outcomes → List Treating → List ℕ → List Sending → List Note → Type 0
OwnAfterAll w m c outcomes treatings came sent notes = Own (state_after_notes w notes) c (plus outcomes (renders_in w m.out_of_memory notes) (lost_in notes) (ended_in notes)) (treatings ++ treated_in w c notes) came (sent ++ sent_in c m notes)

pub all-none : (w : RunState) (m : Conditions) (c : ℕ) (outcomes : Outcomes) (treatings : List Treating) (came : List ℕ) (sent : List Sending) → Own w c outcomes treatings came sent → OwnAfterAll w m c outcomes treatings came sent []
all-none w m c outcomes treatings came sent own = own-silent w c outcomes (plus outcomes [] [] []) treatings came sent (sym (plus-none outcomes)) own

pub all-more : (w : RunState) (m : Conditions) (c : ℕ) (outcomes : Outcomes) (treatings : List Treating) (came : List ℕ) (sent : List Sending) (note : Note) (notes : List Note)
    → OwnAfterAll (state_after_note w note) m c (outcomes_by w m.out_of_memory outcomes note) (treatings ++ treated_by w c note) came (sent ++ sent_by c m note) notes → OwnAfterAll w m c outcomes treatings came sent (note ∷ notes)
all-more w m c outcomes treatings came sent note notes rest =
    let v = state_after_note w note in
    own-as (state_after_notes v notes) c (plus (outcomes_by w m.out_of_memory outcomes note) (renders_in v m.out_of_memory notes) (lost_in notes) (ended_in notes)) (plus outcomes (renders_in w m.out_of_memory (note ∷ notes)) (lost_in (note ∷ notes)) (ended_in (note ∷ notes)))
    ((treatings ++ treated_by w c note) ++ treated_in v c notes) (treatings ++ treated_in w c (note ∷ notes)) came ((sent ++ sent_by c m note) ++ sent_in c m notes) (sent ++ sent_in c m (note ∷ notes))
    (plus-plus outcomes (rendered_by w m.out_of_memory note) (renders_in v m.out_of_memory notes) (lost_by note) (lost_in notes) (ended_by note) (ended_in notes))
    (append_assoc treatings (treated_by w c note) (treated_in v c notes)) (append_assoc sent (sent_by c m note) (sent_in c m notes)) rest

pub serves-own : (m : Conditions) (w : RunState) (c d : ℕ) (outcomes : Outcomes) (treatings : List Treating) (came : List ℕ) (sent : List Sending) (notes : List Note) → Held w c came sent → Numbered w → OwnsSlice w d → Own w c outcomes treatings came sent → Serves m w d notes
    → OwnAfterAll w m c outcomes treatings came sent notes
serves-own m w c d outcomes treatings came sent [] held numbered owns own serves = all-none w m c outcomes treatings came sent own
serves-own m w c d outcomes treatings came sent (note ∷ notes) held numbered owns own serves =
    let form = next-form m w d w.slicing note refl serves.0 in
    let one = next-own m w c d outcomes treatings came sent w.slicing note refl held numbered owns own serves.0 in
    all-more w m c outcomes treatings came sent note notes
    (serves-own m (state_after_note w note) c d (outcomes_by w m.out_of_memory outcomes note) (treatings ++ treated_by w c note) came (sent ++ sent_by c m note) notes (held-next m w c d came sent note held owns serves.0 form) (note-numbered w note (due-asks w d note form) numbered) (owns-due w d note owns form) one serves.1)

-- ---- a flight is over
over-own : (w : RunState) (c n : ℕ) (outcomes all : Outcomes) (treatings : List Treating) (came : List ℕ) (sent : List Sending) (f : Flying) (answer : Answer) (entry : LogEntry) → flights_asked (entry ∷ w.log) ≡ flights_asked w.log → Moved w.flights (flights_asked w.log) outcomes (air_without n w.flights) (flights_asked w.log) all
    → ((k : ℕ) (request : Request) → n ≡ k → IsAskedFor w.flights (flights_asked w.log) k request → IsOfFlight all k request (Says answer)) → Own w c outcomes treatings came sent → Own (over_with w n answer entry (Some f)) c all treatings came sent
over-own w c n outcomes all treatings came sent f answer entry same flies good own = ⊎_elim (here (w.connection f.connection) refl) apart (cases_eq f.connection c)
  where
    v : RunState
    v = over_with w n answer entry (Some f)

    moves : Moves w outcomes v all
    moves = rw same flies

    lands : (k : ℕ) (request : Request) → n ≡ k → IsAskedFor w.flights (flights_asked w.log) k request → IsOfFlight all k request (Says answer) × IsOver v.flights (flights_asked v.log) k
    lands k request number asked_for =
        let over : IsOver v.flights (flights_asked w.log) k = subst (λ i. IsOver (air_without i w.flights) (flights_asked w.log) k) (sym number) (over-now w.flights (flights_asked w.log) k asked_for.within) in
        (good k request number asked_for, subst (λ most. IsOver v.flights most k) (sym same) over)

    here : (at : Option Connection) → w.connection f.connection ≡ at → f.connection ≡ c → Own v c all treatings came sent
    here None is x = own-none v c all treatings came sent (subst (λ y. v.connection y ≡ None) x (update_here w.connection f.connection _ ∙ ap (option_map (with_end (flight_awaited n) (Says answer))) is)) (last-moved w v outcomes all treatings came sent moves (own.over (sym (ap w.connection x) ∙ is))) moves.air_is
    here (Some k) is x =
        let now : v.connection f.connection ≡ Some (with_end (flight_awaited n) (Says answer) k) = update_here w.connection f.connection _ ∙ ap (option_map (with_end (flight_awaited n) (Says answer))) is in
        let owns : Owns v all treatings (with_end (flight_awaited n) (Says answer) k) = owns-landed w v outcomes all treatings n answer k moves lands (own.here k (sym (ap w.connection x) ∙ is)) in
        own-one v c all treatings came sent (with_end (flight_awaited n) (Says answer) k) (subst (λ y. v.connection y ≡ Some (with_end (flight_awaited n) (Says answer) k)) x now) owns moves.air_is

    apart : f.connection ≢ c → Own v c all treatings came sent
    apart other = own-moved w v c outcomes all treatings came sent (update_apart w.connection f.connection _ c (λ x. other (sym x))) moves own

pub lost-own : (m : Conditions) (w : RunState) (c n : ℕ) (outcomes : Outcomes) (treatings : List Treating) (came : List ℕ) (sent : List Sending) (f : Flying) → flying_at n w.flights ≡ Some f → Numbered w → Own w c outcomes treatings came sent → OwnAfter w m c outcomes treatings came sent (Lost n)
lost-own m w c n outcomes treatings came sent f at numbered own =
    let all : Outcomes = with_losses outcomes (n ∷ []) in
    let moves = moved-lost w.flights (flights_asked w.log) n f outcomes at (at-within n 0 w.flights (flights_asked w.log) f (are-rising 0 w.flights (flights_asked w.log) numbered) at) own.air_is in
    let good : (k : ℕ) (request : Request) → n ≡ k → IsAskedFor w.flights (flights_asked w.log) k request → IsOfFlight all k request (Says (error_answer 502)) = λ k request same asked_for. inr (subst (WasLost all.losses) same (record { before = outcomes.losses; later = []; is = refl }), refl) in
    let done = over-own w c n outcomes all treatings came sent f (error_answer 502) (lost_entry n) refl moves good own in
    own-silent (state_after_note w (Lost n)) c all (plus outcomes [] (n ∷ []) []) treatings came sent (sym (plus-lost outcomes (n ∷ []))) (subst (λ u. Own u c all treatings came sent) (sym (ap (over_with w n (error_answer 502) (lost_entry n)) at)) done)

-- a landing gives the answer that was rendered
pub landed-own : (w : RunState) (c n : ℕ) (outcomes : Outcomes) (treatings : List Treating) (came : List ℕ) (sent : List Sending) (f : Flying) (answer : Answer) (entry : LogEntry) → flights_asked (entry ∷ w.log) ≡ flights_asked w.log → flying_at n w.flights ≡ Some f → f.rendered ≡ Some answer → Own w c outcomes treatings came sent
    → Own (over_with w n (answer_in (flying_at n w.flights)) entry (flying_at n w.flights)) c outcomes treatings came sent
landed-own w c n outcomes treatings came sent f answer entry same at has own =
    subst (λ o. Own (over_with w n (answer_in (flying_at n w.flights)) entry o) c outcomes treatings came sent) (sym at)
    (over-own w c n outcomes outcomes treatings came sent f (answer_in (flying_at n w.flights)) entry same (moved-over w.flights (flights_asked w.log) n outcomes own.air_is) good own)
  where
    given : answer_in (flying_at n w.flights) ≡ answer
    given = ap answer_in at ∙ ap (λ o. unwrap_or o fixed_answer) has

    good : (k : ℕ) (request : Request) → n ≡ k → IsAskedFor w.flights (flights_asked w.log) k request → IsOfFlight outcomes k request (Says (answer_in (flying_at n w.flights)))
    good k request number asked_for =
        let there : flying_at k w.flights ≡ Some f = subst (λ i. flying_at i w.flights ≡ Some f) number at in
        let was : WasRendered outcomes.renders k f.request answer = own.air_is.rendered k f answer there has in
        subst (λ a. IsOfFlight outcomes k request (Says a)) (sym given) (inl (subst (λ r. WasRendered outcomes.renders k r answer) (asked_for.same f there) was, flying-unlost outcomes w.flights (flights_asked w.log) k f own.air_is there))

pub landing-own : (m : Conditions) (w : RunState) (c n : ℕ) (outcomes : Outcomes) (treatings : List Treating) (came : List ℕ) (sent : List Sending) (f : Flying) (answer : Answer) (note : Note) → flying_at n w.flights ≡ Some f → f.rendered ≡ Some answer → Own w c outcomes treatings came sent → IsLandingNote n note
    → OwnAfter w m c outcomes treatings came sent note
landing-own m w c n outcomes treatings came sent f answer note at has own (inl kept) = rw kept.1 (own-silent (state_after_note w (kept_note n kept.0)) c outcomes (plus outcomes [] [] []) treatings came sent (sym (plus-none outcomes)) (landed-own w c n outcomes treatings came sent f answer _ refl at has own))
landing-own m w c n outcomes treatings came sent f answer note at has own (inr (inl unkept)) = rw unkept (own-silent (state_after_note w (Unkept n)) c outcomes (plus outcomes [] [] []) treatings came sent (sym (plus-none outcomes)) (landed-own w c n outcomes treatings came sent f answer _ refl at has own))
landing-own m w c n outcomes treatings came sent f answer note at has own (inr (inr passed)) = rw passed (own-silent (state_after_note w (Passed n)) c outcomes (plus outcomes [] [] []) treatings came sent (sym (plus-none outcomes)) (landed-own w c n outcomes treatings came sent f answer _ refl at has own))

-- a flight is rendered
pub rendered-own : (m : Conditions) (w : RunState) (c : ℕ) (outcomes : Outcomes) (treatings : List Treating) (came : List ℕ) (sent : List Sending) (f : Flying) (answer : Answer) → flying_at f.number w.flights ≡ Some f → Own w c outcomes treatings came sent → OwnAfter w m c outcomes treatings came sent (Rendered f.number answer)
rendered-own m w c outcomes treatings came sent f answer at own =
    let rendering : Rendering = record { number = f.number; request = f.request; answer = answer; out_of_memory = m.out_of_memory } in
    let adds : rendered_by w m.out_of_memory (Rendered f.number answer) ≡ rendering ∷ [] = ap (rendering_of answer m.out_of_memory) at in
    let v = state_after_note w (Rendered f.number answer) in
    let now = own-moved w v c outcomes (with_renders outcomes (rendering ∷ [])) treatings came sent refl (moved-rendered w.flights (flights_asked w.log) f answer m.out_of_memory outcomes at own.air_is) own in
    own-silent v c (with_renders outcomes (rendering ∷ [])) (plus outcomes (rendered_by w m.out_of_memory (Rendered f.number answer)) [] []) treatings came sent (sym (plus-rendered outcomes (rendering ∷ [])) ∙ ap (λ rs. plus outcomes rs [] []) (sym adds)) now
