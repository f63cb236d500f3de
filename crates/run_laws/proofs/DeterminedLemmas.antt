-- What happens in an event that leaves no choice is determined by its step and by how the stream ends.
use Rattle.std.proofs.Common.{◌≡◌, ◌⊎◌, ℕ, ◌<◌, ◌≤◌, ◌+◌, ◌++◌, ◌||◌, Bool, true, false, List, [], ◌∷◌, Option, Some, None, Result, Ok, Err, IsTrue, refl, ap, sym, subst, ◌∙◌, inl, inr, append-nil, arith, ⊎_elim}
use Rattle.std.proofs.lemmas.List.{append_cancel_left}
use Rattle.std.specs.Prelude.{nat_eq}
use Rattle.std.specs.Map.{update}
use Rattle.std.specs.Option.{option_map}
use Rattle.std.specs.List.{AllByRecursion}
use Rattle.sp_base.specs.declared.answer.Answer.{Answer}
use Rattle.sp_base.specs.Requests.{Request}
use Rattle.glob_rules.specs.Rules.{allows}
use Rattle.cover_rules.specs.declared.page.PageKey.{PageKey}
use Rattle.cover_rules.specs.declared.invalidation.Invalidation.{Invalidation}
use Rattle.invalidation.specs.Invalidations.{invalidation_of}
use Rattle.invalidation.specs.declared.inv_fault.InvFault.{InvFault}
use Rattle.http_front.specs.OpenEnds.{LeavesEndOpen}
use Rattle.http_front.specs.Turns.{End, SpellsTurns}
use Rattle.http_front.specs.declared.turn.Turn.{Turn}
use Rattle.http_front.specs.declared.turn.Turn.TheVariants.{Continue, Whole}
use Rattle.cache_log.specs.Entries.{Up as up_entry, downs_since, last_epoch}
use Rattle.cache_log.specs.Rules.{Allowed, HasFallenShort, MayStore}
use Rattle.connections.specs.Slots.{Awaits, Cached, Fixed, Interim, IsWritten, Response, Says, Slot}
use Rattle.connections.specs.Connections.{Close, Connection, Due, Nothing, Refuse, Send, Treat, with_piece}
use Rattle.run_events.specs.declared.conditions.Conditions.{Conditions}
use Rattle.run_events.specs.declared.flying.Flying.{Flying}
use Rattle.run_events.specs.declared.flying.Flushing.{Flushing}
use Rattle.run_events.specs.declared.note.Note.{Note}
use Rattle.run_events.specs.declared.note.Note.TheVariants.{Answer as answered, Hit, Kept, Lost, Rendered, Sent, Up, Down}
use Rattle.run_events.specs.declared.step.Step.{Step}
use Rattle.run_events.specs.declared.step.Step.TheVariants as step
use Rattle.run_events.specs.States.{AreAbove, AreNumbersRising, Start, RunState, is_among, start_of}
use Rattle.run_events.specs.Points.{AnswersFlush, AnswersInvalidation, BeginsFlush, IsFirstPoint, call_conditions, is_full_of_flushes, peer_of, points}
use Rattle.run_events.specs.Moves.{GivesDue, GivesNext, MaySend, Serves, Settles, due_if_open, due_of_connection, on_connection, state_after_note, state_after_notes}
use Rattle.run_events.specs.Restarts.{EndsRestart, Restarts, cut_notes, without_connections}
use Rattle.run_events.specs.Events.{DeliverAs, DeliverTo, Event, HappensBy, IsOrFixed, LeadsNotes, LoseTo, MayLand, PieceTo, PurgeTo, RenderTo, Run, after_event, condition_notes, is_any, is_rendered, is_unrendered, notes_of, picked_flight, state_before_notes}
use Rattle.run_laws.specs.Logs.{IsBeginning}
use Rattle.run_laws.specs.Determined.{AreDetermined, EndAlike, IsDetermined, IsEndLeftOpen, IsEndLeftOpenOf, IsSameEnd, IsSameEndOf, LeaveNoEndOpen, LeavesNoChoice, RunsWithMemoryAreOne, StreamsWithMemoryEndAlike, event_notes, event_steps}
use Rattle.run_laws.proofs.PlainLemmas.{IsPlain, plain-due}
use Rattle.run_laws.proofs.QuietLemmas.{Quiet, quiet-begun, quiet-event, quiet-note, quiet-notes}
use Rattle.run_laws.proofs.TurnLemmas.{Beginnings, no-more}

-- neither the disk failed nor memory ran out
pub record Works (m : Conditions) : Type 0 where
  pub disk : m.disk_failed ≡ false
  pub memory : m.out_of_memory ≡ false

has-memory : (m : Conditions) → Works m → IsTrue m.out_of_memory → ⊥
has-memory m works ran_out = let memory : m.out_of_memory ≡ false = works.memory in let never : ⊥ = cc in never

not-short : (m : Conditions) → Works m → HasFallenShort (call_conditions m false) → ⊥
not-short m works (inl failed) = let disk : m.disk_failed ≡ false = works.disk in let never : ⊥ = cc in never
not-short m works (inr ran_out) = has-memory m works ran_out

-- ---- a note
written-one : (slot : Slot) (response : Response) (a b : List ℕ) → IsPlain response → IsWritten slot response a → IsWritten slot response b → a ≡ b
written-one slot Interim a b plain x y = x ∙ sym y
written-one slot Fixed a b plain x y = x ∙ sym y
written-one slot (Awaits what) a b plain x y = absurd x
written-one slot (Says answer) a b plain x y = x ∙ sym y
written-one slot (Cached farm log key) a b plain x y = absurd plain

sent-with-memory : (m : Conditions) (slot : Slot) (bytes : List ℕ) → Works m → MaySend m slot bytes → IsWritten slot slot.response bytes
sent-with-memory m slot bytes works (inl written) = written
sent-with-memory m slot bytes works (inr out_of_memory) = absurd (has-memory m works out_of_memory.0)

begins-one : (w : RunState) (c : ℕ) (full : Bool) (inv : Invalidation) (x y : Note) → BeginsFlush full w c inv x → BeginsFlush full w c inv y → x ≡ y
begins-one w c true inv x y a b = a ∙ sym b
begins-one w c false inv x y a b = a ∙ sym b

flush-one : (w : RunState) (c : ℕ) (named : Result Invalidation InvFault) (x y : Note) → AnswersFlush w c named x → AnswersFlush w c named y → x ≡ y
flush-one w c (Err fault) x y a b = a ∙ sym b
flush-one w c (Ok inv) x y a b = begins-one w c (is_full_of_flushes w) inv x y a b

invalidation-one : (w : RunState) (c : ℕ) (request : Request) (may : Bool) (x y : Note) → AnswersInvalidation may w c request x → AnswersInvalidation may w c request y → x ≡ y
invalidation-one w c request false x y a b = a ∙ sym b
invalidation-one w c request true x y a b = flush-one w c (invalidation_of request) x y a b

no-hit : (c : ℕ) (key : PageKey) (x : Note) → x ≡ Hit c key → LeavesNoChoice x → ⊥
no-hit c key x is none = rw is at none

first-one : (m n : Conditions) (w : RunState) (c : ℕ) (request : Request) (x y : Note) → LeavesNoChoice x → LeavesNoChoice y → IsFirstPoint m w c request x points → IsFirstPoint n w c request y points → x ≡ y
first-one m n w c request x y p q (inl a) (inl b) = a.1 ∙ sym b.1
first-one m n w c request x y p q (inl a) (inr (pass, b)) = absurd (pass a.0)
first-one m n w c request x y p q (inr (pass, a)) (inl b) = absurd (pass b.0)
first-one m n w c request x y p q (inr (_, inl a)) (inr (_, inl b)) = a.1 ∙ sym b.1
first-one m n w c request x y p q (inr (_, inl a)) (inr (_, inr (pass, b))) = absurd (pass a.0)
first-one m n w c request x y p q (inr (_, inr (pass, a))) (inr (_, inl b)) = absurd (pass b.0)
first-one m n w c request x y p q (inr (_, inr (_, inl a))) (inr (_, inr (_, inl b))) = invalidation-one w c request (allows w.farm.clients (peer_of (w.connection c))) x y a.1 b.1
first-one m n w c request x y p q (inr (_, inr (_, inl a))) (inr (_, inr (_, inr (pass, b)))) = absurd (pass a.0)
first-one m n w c request x y p q (inr (_, inr (_, inr (pass, a)))) (inr (_, inr (_, inl b))) = absurd (pass b.0)
first-one m n w c request x y p q (inr (_, inr (_, inr (_, inl a)))) (inr (_, inr (_, inr (_, inl b)))) = a.1 ∙ sym b.1
first-one m n w c request x y p q (inr (_, inr (_, inr (_, inl a)))) (inr (_, inr (_, inr (_, inr (pass, b))))) = absurd (pass a.0)
first-one m n w c request x y p q (inr (_, inr (_, inr (_, inr (pass, a))))) (inr (_, inr (_, inr (_, inl b)))) = absurd (pass b.0)
first-one m n w c request x y p q (inr (_, inr (_, inr (_, inr (_, inl a))))) (inr (_, inr (_, inr (_, inr (_, b))))) = absurd (no-hit c a.1.0 x a.1.2 p)
first-one m n w c request x y p q (inr (_, inr (_, inr (_, inr (_, inr a))))) (inr (_, inr (_, inr (_, inr (_, inl b))))) = absurd (no-hit c b.1.0 y b.1.2 q)
first-one m n w c request x y p q (inr (_, inr (_, inr (_, inr (_, inr (_, inl a)))))) (inr (_, inr (_, inr (_, inr (_, inr (_, inl b)))))) = a.1 ∙ sym b.1
first-one m n w c request x y p q (inr (_, inr (_, inr (_, inr (_, inr (_, inl a)))))) (inr (_, inr (_, inr (_, inr (_, inr (_, inr (pass, b))))))) = absurd (pass a.0)
first-one m n w c request x y p q (inr (_, inr (_, inr (_, inr (_, inr (_, inr (pass, a))))))) (inr (_, inr (_, inr (_, inr (_, inr (_, inl b)))))) = absurd (pass b.0)
first-one m n w c request x y p q (inr (_, inr (_, inr (_, inr (_, inr (_, inr (_, inl a))))))) (inr (_, inr (_, inr (_, inr (_, inr (_, inr (_, inl b))))))) = a.1 ∙ sym b.1
first-one m n w c request x y p q (inr (_, inr (_, inr (_, inr (_, inr (_, inr (_, inl a))))))) (inr (_, inr (_, inr (_, inr (_, inr (_, inr (_, inr (never, _)))))))) = absurd never
first-one m n w c request x y p q (inr (_, inr (_, inr (_, inr (_, inr (_, inr (_, inr (never, _)))))))) (inr (_, inr (_, inr (_, inr (_, inr (_, inr b)))))) = absurd never

treated-one : (m n : Conditions) (w : RunState) (c : ℕ) (request : Request) (x y : Note) → Works m → Works n → LeavesNoChoice x → LeavesNoChoice y → GivesDue m w c (Treat (Whole request)) x → GivesDue n w c (Treat (Whole request)) y → x ≡ y
treated-one m n w c request x y works other p q (inl a) (inl b) = first-one m n w c request x y p q a b
treated-one m n w c request x y works other p q (inl a) (inr out_of_memory) = absurd (has-memory n other out_of_memory.0)
treated-one m n w c request x y works other p q (inr out_of_memory) b = absurd (has-memory m works out_of_memory.0)

gives-one : (m n : Conditions) (w : RunState) (c : ℕ) (owed : Due) (x y : Note) → Works m → Works n → ((slot : Slot) → owed ≡ Send slot → IsPlain slot.response) → LeavesNoChoice x → LeavesNoChoice y → GivesDue m w c owed x → GivesDue n w c owed y → x ≡ y
gives-one m n w c (Send slot) x y works other plain p q a b =
    let same : a.0 ≡ b.0 = written-one slot slot.response a.0 b.0 (plain slot refl) (sent-with-memory m slot a.0 works a.2) (sent-with-memory n slot b.0 other b.2) in
    a.1 ∙ ap (Sent c) same ∙ sym b.1
gives-one m n w c (Treat Continue) x y works other plain p q a b = absurd a
gives-one m n w c (Treat (Whole request)) x y works other plain p q a b = treated-one m n w c request x y works other p q a b
gives-one m n w c (Refuse fault) x y works other plain p q a b = a ∙ sym b
gives-one m n w c Close x y works other plain p q a b = a ∙ sym b
gives-one m n w c Nothing x y works other plain p q a b = absurd a

plain-owed : (w : RunState) (c : ℕ) → Quiet w → (at : Option Connection) → w.connection c ≡ at → (slot : Slot) → due_if_open at ≡ Send slot → IsPlain slot.response
plain-owed w c quiet None is slot e = absurd (cc e)
plain-owed w c quiet (Some k) is slot e = plain-due k slot (quiet.plain c k is) e

next-gives : (m : Conditions) (w : RunState) (c : ℕ) (note : Note) → Quiet w → GivesNext m w c w.slicing note → GivesDue m w c (due_of_connection w c) note
next-gives m w c note quiet gives = subst (λ o. GivesNext m w c o note) quiet.slicing gives

-- ---- all that a connection is owed
serves-one : (m n : Conditions) (w : RunState) (c : ℕ) (xs ys : List Note) → Works m → Works n → Quiet w → AllByRecursion LeavesNoChoice xs → AllByRecursion LeavesNoChoice ys → Serves m w c xs → Serves n w c ys → due_of_connection (state_after_notes w xs) c ≡ Nothing → due_of_connection (state_after_notes w ys) c ≡ Nothing → xs ≡ ys
serves-one m n w c [] [] works other quiet p q a b idle still = refl
serves-one m n w c [] (y ∷ ys) works other quiet p q a b idle still = absurd (subst (λ owed. GivesDue n w c owed y) idle (next-gives n w c y quiet b.0))
serves-one m n w c (x ∷ xs) [] works other quiet p q a b idle still = absurd (subst (λ owed. GivesDue m w c owed x) still (next-gives m w c x quiet a.0))
serves-one m n w c (x ∷ xs) (y ∷ ys) works other quiet p q a b idle still =
    let same : y ≡ x = gives-one n m w c (due_of_connection w c) y x other works (plain-owed w c quiet (w.connection c) refl) q.0 p.0 (next-gives n w c y quiet b.0) (next-gives m w c x quiet a.0) in
    let serves : Serves n (state_after_note w x) c ys = subst (λ note. Serves n (state_after_note w note) c ys) same b.1 in
    let ends : due_of_connection (state_after_notes (state_after_note w x) ys) c ≡ Nothing = subst (λ note. due_of_connection (state_after_notes (state_after_note w note) ys) c ≡ Nothing) same still in
    let rest = serves-one m n (state_after_note w x) c xs ys works other (quiet-note w x p.0 quiet) p.1 q.1 a.1 serves idle ends in
    λ i. sym same i ∷ rest i

settles-one : (m n : Conditions) (w : RunState) (c : ℕ) (xs ys : List Note) → Works m → Works n → Quiet w → AllByRecursion LeavesNoChoice xs → AllByRecursion LeavesNoChoice ys → Settles m w c xs → Settles n w c ys → xs ≡ ys
settles-one m n w c xs ys works other quiet p q a b = serves-one m n w c xs ys works other quiet p q a.serves b.serves a.idle b.idle

leads-one : (m n : Conditions) (w : RunState) (first : Note) (c : ℕ) (xs ys : List Note) → Works m → Works n → Quiet w → LeavesNoChoice first → AllByRecursion LeavesNoChoice xs → AllByRecursion LeavesNoChoice ys → LeadsNotes w m first c xs → LeadsNotes w n first c ys → xs ≡ ys
leads-one m n w first c xs ys works other quiet none p q a b =
    let left : AllByRecursion LeavesNoChoice (first ∷ a.rest) = subst (AllByRecursion LeavesNoChoice) a.begins p in
    let right : AllByRecursion LeavesNoChoice (first ∷ b.rest) = subst (AllByRecursion LeavesNoChoice) b.begins q in
    let same : a.rest ≡ b.rest = settles-one m n (state_after_note w first) c a.rest b.rest works other (quiet-note w first none quiet) left.1 right.1 a.settles b.settles in
    a.begins ∙ ap (λ rest. first ∷ rest) same ∙ sym b.begins

-- ---- an event
wanted-one : (m n : Conditions) (a b wanted : Answer) → Works m → Works n → IsOrFixed m a wanted → IsOrFixed n b wanted → a ≡ b
wanted-one m n a b wanted works other (inl x) (inl y) = x.0 ∙ sym y.0
wanted-one m n a b wanted works other (inl x) (inr fixed) = absurd (has-memory n other fixed.1)
wanted-one m n a b wanted works other (inr fixed) y = absurd (has-memory m works fixed.1)

-- two events of one step have the same notes and leave the same state
pub record IsOneEvent (w : RunState) (e f : Event) (s : Step) : Type 0 where
  pub body : e.body ≡ f.body
  pub state : state_before_notes w e s ≡ state_before_notes w f s

on-none : (w : RunState) (c : ℕ) (g h : Connection → Connection) → w.connection c ≡ None → on_connection w c g ≡ on_connection w c h
on-none w c g h none = ap (λ o. record w { connection = update nat_eq w.connection c o }) (ap (option_map g) none ∙ sym (ap (option_map h) none))

on-some : (w : RunState) (c : ℕ) (g h : Connection → Connection) (k : Connection) → w.connection c ≡ Some k → g k ≡ h k → on_connection w c g ≡ on_connection w c h
on-some w c g h k some same = ap (λ o. record w { connection = update nat_eq w.connection c o }) (ap (option_map g) some ∙ ap Some same ∙ sym (ap (option_map h) some))

turns-one : Beginnings → (stream : List ℕ) (turns a b : List Turn) (end last : End) → SpellsTurns stream (turns ++ a) end → SpellsTurns stream (turns ++ b) last → a ≡ b
turns-one law stream turns a b end last one two =
    let first = law stream [] (turns ++ a) (turns ++ b) end last one (subst (λ s. SpellsTurns s (turns ++ b) last) (sym (append-nil stream)) two) in
    let second = law stream [] (turns ++ b) (turns ++ a) last end two (subst (λ s. SpellsTurns s (turns ++ a) end) (sym (append-nil stream)) one) in
    append_cancel_left turns a b (no-more (turns ++ a) (turns ++ b) first.0 second.0 first.1 second.1)

closed-fed : (bytes : List ℕ) (turns : List Turn) (ends : End) (k : Connection) → k.closing ≡ true → with_piece bytes turns ends k ≡ k
closed-fed bytes turns ends k e = rw e refl

piece-one : Beginnings → (w : RunState) (e f : Event) (c : ℕ) (bytes : List ℕ) (at : Option Connection) → w.connection c ≡ at → IsSameEndOf at e.ends f.ends → Works e.conditions → Works f.conditions → Quiet w → AllByRecursion LeavesNoChoice e.body → AllByRecursion LeavesNoChoice f.body
    → PieceTo w e c bytes at → PieceTo w f c bytes at → IsOneEvent w e f (step.Piece c bytes)
piece-one law w e f c bytes None connection ends works other quiet p q a b = record { body = a ∙ sym b; state = on-none w c (with_piece bytes e.turns e.ends) (with_piece bytes f.turns f.ends) connection }
piece-one law w e f c bytes (Some k) connection ends works other quiet p q a b =
    let same = on-some w c (with_piece bytes e.turns e.ends) (with_piece bytes f.turns f.ends) k connection (by_closing k.closing refl) in
    record {
      body = settles-one e.conditions f.conditions (on_connection w c (with_piece bytes e.turns e.ends)) c e.body f.body works other (quiet-begun w e (step.Piece c bytes) quiet) p q a.settles (subst (λ v. Settles f.conditions v c f.body) (sym same) b.settles);
      state = same;
    }
  where
    by_closing : (closing : Bool) → k.closing ≡ closing → with_piece bytes e.turns e.ends k ≡ with_piece bytes f.turns f.ends k
    by_closing true is = closed-fed bytes e.turns e.ends k is ∙ sym (closed-fed bytes f.turns f.ends k is)
    by_closing false is =
        let turns : e.turns ≡ f.turns = turns-one law (k.stream ++ bytes) k.turns e.turns f.turns e.ends f.ends (a.spells is) (b.spells is) in
        ap (λ ts. with_piece bytes ts e.ends k) turns ∙ ap (λ end. with_piece bytes f.turns end k) (ends is)

render-one : (w : RunState) (e f : Event) (flying : Option Flying) → Works e.conditions → Works f.conditions → RenderTo w e flying → RenderTo w f flying → e.body ≡ f.body
render-one w e f None works other a b = a ∙ sym b
render-one w e f (Some g) works other a b = a.2 ∙ ap (λ answer. Rendered g.number answer ∷ []) (wanted-one e.conditions f.conditions a.0 b.0 _ works other a.1 b.1) ∙ sym b.2

-- both landings have the same note
landing-one : (w : RunState) (m n : Conditions) (g : Flying) (answer : Answer) (x y : Note) → Works m → Works n → MayLand w m g answer x → MayLand w n g answer y → (x ≡ y) × LeavesNoChoice x
landing-one w m n g answer x y works other (inl a) (inl b) =
    let keys : Some a.0 ≡ Some b.0 = sym a.1 ∙ b.1 in
    let key : a.0 ≡ b.0 = cc keys in
    (a.2 ∙ ap (Kept g.number) key ∙ sym b.2, rw a.2 tt)
landing-one w m n g answer x y works other (inl a) (inr (inl b)) = absurd (not-short n other b.2)
landing-one w m n g answer x y works other (inl a) (inr (inr b)) = absurd (b.1 (subst (λ k. MayStore w.farm w.log g.number k answer) (sym a.1) a.3))
landing-one w m n g answer x y works other (inr (inl a)) b = absurd (not-short m works a.2)
landing-one w m n g answer x y works other (inr (inr a)) (inl b) = absurd (a.1 (subst (λ k. MayStore w.farm w.log g.number k answer) (sym b.1) b.3))
landing-one w m n g answer x y works other (inr (inr a)) (inr (inl b)) = absurd (not-short n other b.2)
landing-one w m n g answer x y works other (inr (inr a)) (inr (inr b)) = (a.0 ∙ sym b.0, rw a.0 tt)

deliver-one : (w : RunState) (e f : Event) (g : Flying) (answer : Option Answer) → Works e.conditions → Works f.conditions → Quiet w → AllByRecursion LeavesNoChoice e.body → AllByRecursion LeavesNoChoice f.body → DeliverAs w e g answer → DeliverAs w f g answer → e.body ≡ f.body
deliver-one w e f g None works other quiet p q a b = a ∙ sym b
deliver-one w e f g (Some answer) works other quiet p q a b =
    let same = landing-one w e.conditions f.conditions g answer a.0 b.0 works other a.1 b.1 in
    leads-one e.conditions f.conditions w a.0 g.connection e.body f.body works other quiet same.1 p q a.2 (subst (λ note. LeadsNotes w f.conditions note g.connection f.body) (sym same.0) b.2)

delivers-one : (w : RunState) (e f : Event) (flying : Option Flying) → Works e.conditions → Works f.conditions → Quiet w → AllByRecursion LeavesNoChoice e.body → AllByRecursion LeavesNoChoice f.body → DeliverTo w e flying → DeliverTo w f flying → e.body ≡ f.body
delivers-one w e f None works other quiet p q a b = a ∙ sym b
delivers-one w e f (Some g) works other quiet p q a b = deliver-one w e f g g.rendered works other quiet p q a b

loses-one : (w : RunState) (e f : Event) (flying : Option Flying) → Works e.conditions → Works f.conditions → Quiet w → AllByRecursion LeavesNoChoice e.body → AllByRecursion LeavesNoChoice f.body → LoseTo w e flying → LoseTo w f flying → e.body ≡ f.body
loses-one w e f None works other quiet p q a b = a ∙ sym b
loses-one w e f (Some g) works other quiet p q a b = leads-one e.conditions f.conditions w (Lost g.number) g.connection e.body f.body works other quiet tt p q a b

-- no flush is unfinished, so a purge does nothing
purges-one : (w : RunState) (e f : Event) (flushes : List Flushing) → flushes ≡ [] → PurgeTo w e flushes → PurgeTo w f flushes → e.body ≡ f.body
purges-one w e f [] none a b = a ∙ sym b
purges-one w e f (flush ∷ flushes) none a b = absurd (cc none)

-- ---- a restart
among-none : (a c : ℕ) (numbers : List ℕ) → AreAbove a numbers → c ≤ a → is_among c numbers ≡ false
among-none a c [] above l = refl
among-none a c (d ∷ numbers) above l =
    let less : c < d = omega (arith, l, above.0) in
    let other : nat_eq d c ≡ false = grind (arith, less) in
    ap (λ b. b || is_among c numbers) other ∙ among-none d c numbers above.1 (omega (arith, less))

among-later : (a c : ℕ) (numbers : List ℕ) → AreAbove a numbers → is_among c numbers ≡ true → a < c
among-later a c [] above there = absurd (cc there)
among-later a c (d ∷ numbers) above there = by_test (nat_eq d c) refl there (among-later d c numbers above.1)
  where
    by_test : (b : Bool) → nat_eq d c ≡ b → (b || is_among c numbers) ≡ true → (is_among c numbers ≡ true → d < c) → a < c
    by_test true is e rest = let same : d ≡ c = grind (arith, is) in omega (arith, above.0, same)
    by_test false is e rest = omega (arith, above.0, rest e)

among-first : (c : ℕ) (numbers : List ℕ) → is_among c (c ∷ numbers) ≡ true
among-first c numbers = let here : nat_eq c c ≡ true = grind arith in ap (λ b. b || is_among c numbers) here

among-apart : (c d : ℕ) (numbers : List ℕ) → d < c → is_among c (d ∷ numbers) ≡ is_among c numbers
among-apart c d numbers less = let other : nat_eq d c ≡ false = grind (arith, less) in ap (λ b. b || is_among c numbers) other

rising-tail : (c : ℕ) (numbers : List ℕ) → AreNumbersRising (c ∷ numbers) → AreNumbersRising numbers
rising-tail c [] rising = tt
rising-tail c (d ∷ numbers) rising = rising.1

-- the first numbers of lists that rise and have the same numbers are the same
first-same : (c d : ℕ) (xs ys : List ℕ) → AreAbove c xs → AreAbove d ys → ((q : ℕ) → is_among q (c ∷ xs) ≡ is_among q (d ∷ ys)) → c ≡ d
first-same c d xs ys above over same = by_test (nat_eq d c) refl (sym (same c) ∙ among-first c xs)
  where
    back : d < c → ⊥
    back less =
        let there : is_among d (c ∷ xs) ≡ true = same d ∙ among-first d ys in
        let none : is_among d (c ∷ xs) ≡ false = (let other : nat_eq c d ≡ false = grind (arith, less) in ap (λ b. b || is_among d xs) other) ∙ among-none c d xs above (omega (arith, less)) in
        let never : ⊥ = cc in never

    by_test : (b : Bool) → nat_eq d c ≡ b → (b || is_among c ys) ≡ true → c ≡ d
    by_test true is e = grind (arith, is)
    by_test false is e = absurd (back (among-later d c ys over e))

rising-one : (xs ys : List ℕ) → AreNumbersRising xs → AreNumbersRising ys → ((q : ℕ) → is_among q xs ≡ is_among q ys) → xs ≡ ys
rising-one [] [] rising other same = refl
rising-one [] (d ∷ ys) rising other same = absurd (let none : false ≡ true = same d ∙ among-first d ys in let never : ⊥ = cc in never)
rising-one (c ∷ xs) [] rising other same = absurd (let none : true ≡ false = sym (among-first c xs) ∙ same c in let never : ⊥ = cc in never)
rising-one (c ∷ xs) (d ∷ ys) rising other same =
    let first : c ≡ d = first-same c d xs ys rising other same in
    let over : AreAbove c ys = subst (λ x. AreAbove x ys) (sym first) other in
    let later : (q : ℕ) → is_among q xs ≡ is_among q ys = λ q. tails q (subst (λ x. is_among q (c ∷ xs) ≡ is_among q (x ∷ ys)) (sym first) (same q)) over in
    let rest = rising-one xs ys (rising-tail c xs rising) (rising-tail d ys other) later in
    λ i. first i ∷ rest i
  where
    tails : (q : ℕ) → is_among q (c ∷ xs) ≡ is_among q (c ∷ ys) → AreAbove c ys → is_among q xs ≡ is_among q ys
    tails q e over = by_test (nat_eq c q) refl e
      where
        by_test : (b : Bool) → nat_eq c q ≡ b → (b || is_among q xs) ≡ (b || is_among q ys) → is_among q xs ≡ is_among q ys
        by_test true is e = let l : q ≤ c = grind (arith, is) in among-none c q xs rising l ∙ sym (among-none c q ys over l)
        by_test false is e = e

-- both restarts come up with the same epoch
up-one : (m : Conditions) (w : RunState) (epoch : ℕ) → downs_since w.log ≡ 0 → Allowed w.farm (call_conditions m true) (up_entry epoch) w.log → epoch ≡ last_epoch w.log + 1
up-one m w epoch none allowed = omega (arith, none, allowed.3, allowed.4)

no-down : (x : Note) → x ≡ Down → LeavesNoChoice x → ⊥
no-down x is none = rw is at none

ends-one : (m n : Conditions) (w : RunState) (x y : Note) → downs_since w.log ≡ 0 → LeavesNoChoice x → LeavesNoChoice y → EndsRestart w m x → EndsRestart w n y → x ≡ y
ends-one m n w x y none p q (inl a) (inl b) = a.1 ∙ ap Up (up-one m w a.0 none a.2 ∙ sym (up-one n w b.0 none b.2)) ∙ sym b.1
ends-one m n w x y none p q (inl a) (inr b) = absurd (no-down y b.0 q)
ends-one m n w x y none p q (inr a) b = absurd (no-down x a.0 p)

none-before : (xs ys : List Note) → AllByRecursion LeavesNoChoice (xs ++ ys) → AllByRecursion LeavesNoChoice xs × AllByRecursion LeavesNoChoice ys
none-before [] ys all = (tt, all)
none-before (x ∷ xs) ys all = let rest = none-before xs ys all.1 in ((all.0, rest.0), rest.1)

restart-one : (w : RunState) (m n : Conditions) (xs ys : List Note) → Quiet w → AllByRecursion LeavesNoChoice xs → AllByRecursion LeavesNoChoice ys → Restarts w m xs → Restarts w n ys → xs ≡ ys
restart-one w m n xs ys quiet p q a b = a.notes_are ∙ ap (λ cs. cut_notes w cs ++ a.last ∷ []) open_same ∙ ap (λ last. cut_notes w b.connections ++ last ∷ []) last_same ∙ sym b.notes_are
  where
    open_same : a.connections ≡ b.connections
    open_same = rising-one a.connections b.connections a.are_open.rising b.are_open.rising (λ c. sym (a.are_open.each c) ∙ b.are_open.each c)

    left : AllByRecursion LeavesNoChoice (cut_notes w a.connections) × AllByRecursion LeavesNoChoice (a.last ∷ [])
    left = none-before (cut_notes w a.connections) (a.last ∷ []) (subst (AllByRecursion LeavesNoChoice) a.notes_are p)

    right : AllByRecursion LeavesNoChoice (cut_notes w b.connections) × AllByRecursion LeavesNoChoice (b.last ∷ [])
    right = none-before (cut_notes w b.connections) (b.last ∷ []) (subst (AllByRecursion LeavesNoChoice) b.notes_are q)

    begun : Quiet (without_connections w)
    begun = record { flushes = quiet.flushes; slicing = quiet.slicing; downs = quiet.downs; plain = λ c k at. absurd (cc at) }

    quiet_cut : Quiet (state_after_notes (without_connections w) (cut_notes w a.connections))
    quiet_cut = quiet-notes (without_connections w) (cut_notes w a.connections) left.0 begun

    last_same : a.last ≡ b.last
    last_same = ends-one m n (state_after_notes (without_connections w) (cut_notes w a.connections)) a.last b.last quiet_cut.downs left.1.0 right.1.0 a.ends
        (subst (λ cs. EndsRestart (state_after_notes (without_connections w) (cut_notes w cs)) n b.last) (sym open_same) b.ends)

step-one : Beginnings → (w : RunState) (e f : Event) (s : Step) → Quiet w → IsSameEnd w s e.ends f.ends → IsDetermined e → IsDetermined f → HappensBy w e s → HappensBy w f s → IsOneEvent w e f s
step-one law w e f s quiet ends one two a b = by_step s ends a b
  where
    p : Works e.conditions
    p = record { disk = one.disk_worked; memory = one.not_out_of_memory }

    q : Works f.conditions
    q = record { disk = two.disk_worked; memory = two.not_out_of_memory }

    by_step : (s : Step) → IsSameEnd w s e.ends f.ends → HappensBy w e s → HappensBy w f s → IsOneEvent w e f s
    by_step (step.Opened c peer) ends a b = record { body = a ∙ sym b; state = refl }
    by_step (step.Piece c bytes) ends a b = piece-one law w e f c bytes (w.connection c) refl ends p q quiet one.no_choice two.no_choice a b
    by_step (step.Gone c) ends a b = record { body = a ∙ sym b; state = refl }
    by_step (step.Direct target) ends a b = record { body = a.2 ∙ ap (λ answer. answered answer ∷ []) (wanted-one e.conditions f.conditions a.0 b.0 _ p q a.1 b.1) ∙ sym b.2; state = refl }
    by_step (step.Render pick) ends a b = record { body = render-one w e f (picked_flight pick is_unrendered w.flights) p q a b; state = refl }
    by_step (step.Deliver pick) ends a b = record { body = delivers-one w e f (picked_flight pick is_rendered w.flights) p q quiet one.no_choice two.no_choice a b; state = refl }
    by_step (step.Lose pick) ends a b = record { body = loses-one w e f (picked_flight pick is_any w.flights) p q quiet one.no_choice two.no_choice a b; state = refl }
    by_step step.Purge ends a b = record { body = purges-one w e f w.flushes quiet.flushes a b; state = refl }
    by_step step.Restart ends a b = record { body = restart-one w e.conditions f.conditions e.body f.body quiet one.no_choice two.no_choice a b; state = refl }

-- ---- a run
no-conditions : (m : Conditions) → m.disk_failed ≡ false → m.out_of_memory ≡ false → condition_notes m ≡ []
no-conditions m disk memory = rw (disk, memory) refl

notes-with-memory : (e : Event) → IsDetermined e → notes_of e ≡ e.body
notes-with-memory e one = ap (λ notes. e.body ++ notes) (no-conditions e.conditions one.disk_worked one.not_out_of_memory) ∙ append-nil e.body

state-one : (w : RunState) (e f : Event) → e.step ≡ f.step → IsOneEvent w e f e.step → after_event w e ≡ after_event w f
state-one w e f same event = ap (λ v. state_after_notes v e.body) event.state ∙ ap (λ notes. state_after_notes (state_before_notes w f e.step) notes) event.body ∙ ap (λ s. state_after_notes (state_before_notes w f s) f.body) same

run-one : Beginnings → (w : RunState) (a b : List Event) → Quiet w → Run w a → Run w b → event_steps a ≡ event_steps b → EndAlike w a b → AreDetermined a → AreDetermined b → event_notes a ≡ event_notes b
run-one law w [] [] quiet one two steps ends p q = refl
run-one law w [] (f ∷ b) quiet one two steps ends p q = absurd (let never : ⊥ = cc in never)
run-one law w (e ∷ a) [] quiet one two steps ends p q = absurd (let never : ⊥ = cc in never)
run-one law w (e ∷ a) (f ∷ b) quiet one two steps ends p q =
    let same : e.step ≡ f.step = cc in
    let more : event_steps a ≡ event_steps b = cc in
    let happens : HappensBy w f e.step = subst (HappensBy w f) (sym same) two.0.0 in
    let event = step-one law w e f e.step quiet ends.0 p.0 q.0 one.0.0 happens in
    let rest = run-one law (after_event w e) a b (quiet-event w e p.0.no_choice quiet) one.1 (subst (λ v. Run v b) (sym (state-one w e f same event)) two.1) more ends.1 p.1 q.1 in
    let notes : notes_of e ≡ notes_of f = notes-with-memory e p.0 ∙ event.body ∙ sym (notes-with-memory f q.0) in
    λ i. notes i ∷ rest i

start-quiet : (s : Start) → IsBeginning s → Quiet (start_of s)
start-quiet s begins = record { flushes = refl; slicing = refl; downs = ap downs_since begins.log_is; plain = λ c k at. absurd (cc at) }

pub runs-with-memory : Beginnings → RunsWithMemoryAreOne
runs-with-memory law s a b begins = run-one law (start_of s) a b (start-quiet s begins)

-- ---- where streams end alike
abbrev pub OneEnd : Type 0
OneEnd = (stream : List ℕ) (turns : List Turn) (end last : End) → SpellsTurns stream turns end → SpellsTurns stream turns last → (end ≡ last) ⊎ LeavesEndOpen stream turns

piece-ends : Beginnings → OneEnd → (w : RunState) (e f : Event) (c : ℕ) (bytes : List ℕ) (at : Option Connection) → (IsEndLeftOpenOf at bytes e.turns → ⊥) → PieceTo w e c bytes at → PieceTo w f c bytes at → IsSameEndOf at e.ends f.ends
piece-ends law one w e f c bytes None closed a b = tt
piece-ends law one w e f c bytes (Some k) closed a b = λ read.
    let stream : List ℕ = k.stream ++ bytes in
    let turns : e.turns ≡ f.turns = turns-one law stream k.turns e.turns f.turns e.ends f.ends (a.spells read) (b.spells read) in
    let spelled : SpellsTurns stream (k.turns ++ e.turns) f.ends = subst (λ ts. SpellsTurns stream (k.turns ++ ts) f.ends) (sym turns) (b.spells read) in
    ⊎_elim (λ same. same) (λ open_end. absurd (closed (read, open_end))) (one stream (k.turns ++ e.turns) e.ends f.ends (a.spells read) spelled)

step-ends : Beginnings → OneEnd → (w : RunState) (e f : Event) (s : Step) → (IsEndLeftOpen w s e.turns → ⊥) → HappensBy w e s → HappensBy w f s → IsSameEnd w s e.ends f.ends
step-ends law one w e f (step.Piece c bytes) closed a b = piece-ends law one w e f c bytes (w.connection c) closed a b
step-ends law one w e f s closed a b = tt

run-ends : Beginnings → OneEnd → (w : RunState) (a b : List Event) → Quiet w → Run w a → Run w b → event_steps a ≡ event_steps b → AreDetermined a → AreDetermined b → LeaveNoEndOpen w a → EndAlike w a b
run-ends law end w [] b quiet one two steps p q closed = tt
run-ends law end w (e ∷ a) [] quiet one two steps p q closed = tt
run-ends law end w (e ∷ a) (f ∷ b) quiet one two steps p q closed =
    let same : e.step ≡ f.step = cc in
    let more : event_steps a ≡ event_steps b = cc in
    let happens : HappensBy w f e.step = subst (HappensBy w f) (sym same) two.0.0 in
    let alike = step-ends law end w e f e.step closed.0 one.0.0 happens in
    let event = step-one law w e f e.step quiet alike p.0 q.0 one.0.0 happens in
    (alike, run-ends law end (after_event w e) a b (quiet-event w e p.0.no_choice quiet) one.1 (subst (λ v. Run v b) (sym (state-one w e f same event)) two.1) more p.1 q.1 closed.1)

pub ends-with-memory : Beginnings → OneEnd → StreamsWithMemoryEndAlike
ends-with-memory law end s a b begins = run-ends law end (start_of s) a b (start-quiet s begins)
