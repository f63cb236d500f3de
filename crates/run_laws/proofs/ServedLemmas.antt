-- What is owed is served, where neither the disk failed nor memory ran out.
use Rattle.std.proofs.Common.{◌≡◌, ℕ, ◌++◌, Bool, true, false, List, [], ◌∷◌, Option, Some, None, Result, Ok, Err, map, refl, sym, subst, ap, ◌∙◌, inl, inr}
use Rattle.std.specs.Prelude.{if◌then◌else◌, nat_le}
use Rattle.sp_base.specs.declared.answer.Answer.{Answer}
use Rattle.sp_base.specs.Requests.{Request}
use Rattle.glob_rules.specs.Rules.{allows}
use Rattle.cover_rules.specs.declared.page.PageKey.{PageKey}
use Rattle.cover_rules.specs.declared.invalidation.Invalidation.{Invalidation}
use Rattle.invalidation.specs.Invalidations.{invalidation_of}
use Rattle.invalidation.specs.declared.inv_fault.InvFault.{InvFault}
use Rattle.http_front.specs.declared.turn.Turn.TheVariants.{Continue, Whole}
use Rattle.connections.specs.Connections.{Connection, Due, Send, Treat, Refuse, Close, Nothing, with_piece}
use Rattle.run_events.specs.declared.conditions.Conditions.{Conditions}
use Rattle.run_events.specs.declared.flying.Flying.{Flying}
use Rattle.run_events.specs.declared.flying.Flushing.{Flushing}
use Rattle.run_events.specs.declared.note.Failure.TheVariants.{Restart as cut_off}
use Rattle.run_events.specs.declared.note.Note.{Note}
use Rattle.run_events.specs.declared.note.Note.TheVariants.{Hit, Lost, Failed, Shut, Refused, Idle}
use Rattle.run_events.specs.declared.step.Step.{Step}
use Rattle.run_events.specs.declared.step.Step.TheVariants as step
use Rattle.run_events.specs.States.{RunState}
use Rattle.run_events.specs.Points.{AnswersFlush, AnswersInvalidation, BeginsFlush, IsFirstPoint, IsHitOwed, is_full_of_flushes, key_of, peer_of, points}
use Rattle.run_events.specs.Moves.{GivesDue, GivesNext, GivesSlice, Serves, due_of_connection, on_connection, state_after_note, state_after_notes, treated_request}
use Rattle.run_events.specs.Restarts.{EndsRestart, Restarts, cut_notes, without_connections}
use Rattle.run_events.specs.Events.{DeliverAs, DeliverTo, Event, HappensBy, LeadsNotes, LoseTo, MayLand, PieceTo, PurgeTo, RenderTo, going, is_any, is_rendered, is_unrendered, most_connections, opening, picked_flight, state_before_notes}
use Rattle.run_laws.specs.Logs.{IsOwedTo, KeptPagesAreServed, OwedAreHits, Treats}

-- the note treats no request
abbrev pub TreatsNone : Note → Type 0
TreatsNone note = (c : ℕ) → Treats c note → ⊥

abbrev pub AllTreatNone : List Note → Type 0
AllTreatNone [] = Unit {0}
AllTreatNone (note ∷ notes) = TreatsNone note × AllTreatNone notes

none-owed : (w : RunState) (note : Note) → TreatsNone note → IsOwedTo w note
none-owed w note none c request treats = absurd (none c treats)

all-none-owed : (w : RunState) (notes : List Note) → AllTreatNone notes → OwedAreHits w notes
all-none-owed w [] none = tt
all-none-owed w (note ∷ notes) none = (none-owed w note none.0, all-none-owed (state_after_note w note) notes none.1)

-- ---- a request is treated on its connection
begins-treats : (w : RunState) (c : ℕ) (full : Bool) (inv : Invalidation) (note : Note) (d : ℕ) → BeginsFlush full w c inv note → Treats d note → c ≡ d
begins-treats w c true inv note d is treats = rw is at treats
begins-treats w c false inv note d is treats = rw is at treats

flush-treats : (w : RunState) (c : ℕ) (named : Result Invalidation InvFault) (note : Note) (d : ℕ) → AnswersFlush w c named note → Treats d note → c ≡ d
flush-treats w c (Err fault) note d is treats = rw is at treats
flush-treats w c (Ok inv) note d is treats = begins-treats w c (is_full_of_flushes w) inv note d is treats

invalidation-treats : (w : RunState) (c : ℕ) (request : Request) (may : Bool) (note : Note) (d : ℕ) → AnswersInvalidation may w c request note → Treats d note → c ≡ d
invalidation-treats w c request false note d is treats = rw is at treats
invalidation-treats w c request true note d is treats = flush-treats w c (invalidation_of request) note d is treats

first-treats : (m : Conditions) (w : RunState) (c : ℕ) (request : Request) (note : Note) (d : ℕ) → IsFirstPoint m w c request note points → Treats d note → c ≡ d
first-treats m w c request note d (inl crowded) treats = rw crowded.1 at treats
first-treats m w c request note d (inr (_, inl fallen)) treats = rw fallen.1 at treats
first-treats m w c request note d (inr (_, inr (_, inl inv))) treats = invalidation-treats w c request (allows w.farm.clients (peer_of (w.connection c))) note d inv.1 treats
first-treats m w c request note d (inr (_, inr (_, inr (_, inl hidden)))) treats = rw hidden.1 at treats
first-treats m w c request note d (inr (_, inr (_, inr (_, inr (_, inl held))))) treats = rw held.1.2 at treats
first-treats m w c request note d (inr (_, inr (_, inr (_, inr (_, inr (_, inl full)))))) treats = rw full.1 at treats
first-treats m w c request note d (inr (_, inr (_, inr (_, inr (_, inr (_, inr (_, inl free))))))) treats = rw free.1 at treats
first-treats m w c request note d (inr (_, inr (_, inr (_, inr (_, inr (_, inr (_, inr (never, _)))))))) treats = absurd never

-- ---- what is owed passes no point but the cache
first-owed : (m : Conditions) (w : RunState) (c : ℕ) (request : Request) (note : Note) → m.disk_failed ≡ false → IsFirstPoint m w c request note points → IsHitOwed w c request → (key : PageKey) × (key_of w request ≡ Some key) × (note ≡ Hit c key)
first-owed m w c request note well (inl crowded) owed = absurd (cc (crowded.0, owed.not_crowded))
first-owed m w c request note well (inr (_, inl fallen)) owed = absurd (cc (fallen.0, owed.up))
first-owed m w c request note well (inr (_, inr (_, inl inv))) owed = absurd (cc (inv.0, owed.no_invalidation))
first-owed m w c request note well (inr (_, inr (_, inr (_, inl hidden)))) owed = absurd (cc (hidden.0, owed.admitted))
first-owed m w c request note well (inr (_, inr (_, inr (_, inr (_, inl held))))) owed = held.1
first-owed m w c request note well (inr (_, inr (_, inr (_, inr (_, inr (passed, later)))))) owed = absurd (let failed : m.disk_failed ≡ true = passed owed.owed in let never : ⊥ = cc in never)

one-request : (o : Option Request) (a b : Request) → o ≡ Some a → o ≡ Some b → a ≡ b
one-request o a b is also = let both : Some a ≡ Some b = sym is ∙ also in cc both

gives-owed : (m : Conditions) (w : RunState) (c : ℕ) (owed : Due) (note : Note) → m.disk_failed ≡ false → m.out_of_memory ≡ false → due_of_connection w c ≡ owed → GivesDue m w c owed note → IsOwedTo w note
gives-owed m w c (Send slot) note well not_out_of_memory is gives = rw gives.1 (λ d request treats. absurd treats)
gives-owed m w c (Treat Continue) note well not_out_of_memory is gives = absurd gives
gives-owed m w c (Treat (Whole request)) note well not_out_of_memory is (inl first) = λ d other treats treated owed.
    let here : c ≡ d = first-treats m w c request note d first treats in
    let asked_here : treated_request (due_of_connection w c) ≡ Some other = subst (λ x. treated_request (due_of_connection w x) ≡ Some other) (sym here) treated in
    let one : request ≡ other = one-request (treated_request (due_of_connection w c)) request other (ap treated_request is) asked_here in
    let owed_here : IsHitOwed w c request = subst (λ r. IsHitOwed w c r) (sym one) (subst (λ x. IsHitOwed w x other) (sym here) owed) in
    let hit = first-owed m w c request note well first owed_here in
    (hit.0, ap (key_of w) (sym one) ∙ hit.1, hit.2 ∙ ap (λ x. Hit x hit.0) here)
gives-owed m w c (Treat (Whole request)) note well not_out_of_memory is (inr out_of_memory) = absurd (let ran_out : m.out_of_memory ≡ true = out_of_memory.0 in let never : ⊥ = cc in never)
gives-owed m w c (Refuse fault) note well not_out_of_memory is gives = rw gives (λ d request treats treated owed.
    let there : treated_request (due_of_connection w c) ≡ Some request = subst (λ x. treated_request (due_of_connection w x) ≡ Some request) (sym treats) treated in
    absurd (let none : None ≡ Some request = sym (ap treated_request is) ∙ there in let never : ⊥ = cc in never))
gives-owed m w c Close note well not_out_of_memory is gives = rw gives (λ d request treats. absurd treats)
gives-owed m w c Nothing note well not_out_of_memory is gives = absurd gives

slice-none : (m : Conditions) (v : ℕ) (note : Note) → GivesSlice m v note → TreatsNone note
slice-none m v note (inl done) = rw done (λ c treats. treats)
slice-none m v note (inr (inl sliced)) = rw sliced (λ c treats. treats)
slice-none m v note (inr (inr (inl disk))) = rw disk.0 (λ c treats. treats)
slice-none m v note (inr (inr (inr memory))) = rw memory.0 (λ c treats. treats)

next-owed : (m : Conditions) (w : RunState) (c : ℕ) (slicing : Option ℕ) (note : Note) → m.disk_failed ≡ false → m.out_of_memory ≡ false → GivesNext m w c slicing note → IsOwedTo w note
next-owed m w c None note well not_out_of_memory gives = gives-owed m w c (due_of_connection w c) note well not_out_of_memory refl gives
next-owed m w c (Some v) note well not_out_of_memory gives = none-owed w note (slice-none m v note gives)

serves-owed : (m : Conditions) (w : RunState) (c : ℕ) (notes : List Note) → m.disk_failed ≡ false → m.out_of_memory ≡ false → Serves m w c notes → OwedAreHits w notes
serves-owed m w c [] well not_out_of_memory serves = tt
serves-owed m w c (note ∷ notes) well not_out_of_memory serves = (next-owed m w c w.slicing note well not_out_of_memory serves.0, serves-owed m (state_after_note w note) c notes well not_out_of_memory serves.1)

-- ---- the notes of a step
idle-owed : (w : RunState) (notes : List Note) → notes ≡ Idle ∷ [] → OwedAreHits w notes
idle-owed w notes is = rw is ((λ c request treats. absurd treats), tt)

opening-owed : (w : RunState) (c count : ℕ) (at : Option Connection) (notes : List Note) → notes ≡ opening c count at → OwedAreHits w notes
opening-owed w c count (Some k) notes is = idle-owed w notes is
opening-owed w c count None notes is = by_room (nat_le most_connections count) is
  where
    by_room : (full : Bool) → notes ≡ (if full then Refused c ∷ [] else []) → OwedAreHits w notes
    by_room true is = rw is ((λ d request treats. absurd treats), tt)
    by_room false is = rw is tt

going-owed : (w : RunState) (at : Option Connection) (notes : List Note) → notes ≡ going at → OwedAreHits w notes
going-owed w None notes is = idle-owed w notes is
going-owed w (Some k) notes is = rw is tt

piece-owed : (w : RunState) (e : Event) (c : ℕ) (bytes : List ℕ) (at : Option Connection) → e.conditions.disk_failed ≡ false → e.conditions.out_of_memory ≡ false → PieceTo w e c bytes at → OwedAreHits (on_connection w c (with_piece bytes e.turns e.ends)) e.body
piece-owed w e c bytes None well not_out_of_memory to = idle-owed (on_connection w c (with_piece bytes e.turns e.ends)) e.body to
piece-owed w e c bytes (Some k) well not_out_of_memory to = serves-owed e.conditions (on_connection w c (with_piece bytes e.turns e.ends)) c e.body well not_out_of_memory to.settles.serves

render-owed : (w : RunState) (e : Event) (flying : Option Flying) → RenderTo w e flying → OwedAreHits w e.body
render-owed w e None to = idle-owed w e.body to
render-owed w e (Some f) to = rw to.2 ((λ c request treats. absurd treats), tt)

leads-owed : (m : Conditions) (w : RunState) (first : Note) (c : ℕ) (notes : List Note) → m.disk_failed ≡ false → m.out_of_memory ≡ false → TreatsNone first → LeadsNotes w m first c notes → OwedAreHits w notes
leads-owed m w first c notes well not_out_of_memory none leads = rw leads.begins (none-owed w first none, serves-owed m (state_after_note w first) c leads.rest well not_out_of_memory leads.settles.serves)

landing-none : (w : RunState) (m : Conditions) (f : Flying) (answer : Answer) (note : Note) → MayLand w m f answer note → TreatsNone note
landing-none w m f answer note (inl kept) = rw kept.2 (λ c treats. treats)
landing-none w m f answer note (inr (inl unkept)) = rw unkept.0 (λ c treats. treats)
landing-none w m f answer note (inr (inr passed)) = rw passed.0 (λ c treats. treats)

deliver-owed : (w : RunState) (e : Event) (f : Flying) (answer : Option Answer) → e.conditions.disk_failed ≡ false → e.conditions.out_of_memory ≡ false → DeliverAs w e f answer → OwedAreHits w e.body
deliver-owed w e f None well not_out_of_memory to = idle-owed w e.body to
deliver-owed w e f (Some answer) well not_out_of_memory to = leads-owed e.conditions w to.0 f.connection e.body well not_out_of_memory (landing-none w e.conditions f answer to.0 to.1) to.2

delivers-owed : (w : RunState) (e : Event) (flying : Option Flying) → e.conditions.disk_failed ≡ false → e.conditions.out_of_memory ≡ false → DeliverTo w e flying → OwedAreHits w e.body
delivers-owed w e None well not_out_of_memory to = idle-owed w e.body to
delivers-owed w e (Some f) well not_out_of_memory to = deliver-owed w e f f.rendered well not_out_of_memory to

loses-owed : (w : RunState) (e : Event) (flying : Option Flying) → e.conditions.disk_failed ≡ false → e.conditions.out_of_memory ≡ false → LoseTo w e flying → OwedAreHits w e.body
loses-owed w e None well not_out_of_memory to = idle-owed w e.body to
loses-owed w e (Some f) well not_out_of_memory to = leads-owed e.conditions w (Lost f.number) f.connection e.body well not_out_of_memory (λ c treats. treats) to

purges-owed : (w : RunState) (e : Event) (flushes : List Flushing) → e.conditions.disk_failed ≡ false → e.conditions.out_of_memory ≡ false → PurgeTo w e flushes → OwedAreHits w e.body
purges-owed w e [] well not_out_of_memory to = idle-owed w e.body to
purges-owed w e (flush ∷ flushes) well not_out_of_memory to = leads-owed e.conditions w to.0 flush.connection e.body well not_out_of_memory (slice-none e.conditions flush.number to.0 to.1) to.2

-- ---- a restart treats no request
none-append : (notes more : List Note) → AllTreatNone notes → AllTreatNone more → AllTreatNone (notes ++ more)
none-append [] more none others = others
none-append (note ∷ notes) more none others = (none.0, none-append notes more none.1 others)

losses-none : (flights : List Flying) → AllTreatNone (map (λ (f : Flying). Lost f.number) flights)
losses-none [] = tt
losses-none (f ∷ flights) = ((λ c treats. treats), losses-none flights)

failures-none : (flushes : List Flushing) → AllTreatNone (map (λ (f : Flushing). Failed f.number cut_off) flushes)
failures-none [] = tt
failures-none (f ∷ flushes) = ((λ c treats. treats), failures-none flushes)

shuts-none : (connections : List ℕ) → AllTreatNone (map (λ (c : ℕ). Shut c) connections)
shuts-none [] = tt
shuts-none (c ∷ connections) = ((λ d treats. treats), shuts-none connections)

ends-none : (w : RunState) (m : Conditions) (note : Note) → EndsRestart w m note → TreatsNone note
ends-none w m note (inl up) = rw up.1 (λ c treats. treats)
ends-none w m note (inr down) = rw down.0 (λ c treats. treats)

restart-owed : (w : RunState) (m : Conditions) (notes : List Note) → Restarts w m notes → OwedAreHits (without_connections w) notes
restart-owed w m notes restarts =
    rw restarts.notes_are (all-none-owed (without_connections w) (cut_notes w restarts.connections ++ restarts.last ∷ [])
    (none-append (cut_notes w restarts.connections) (restarts.last ∷ []) (none-append _ _ (losses-none w.flights) (none-append _ _ (failures-none w.flushes) (shuts-none restarts.connections))) (ends-none (state_after_notes (without_connections w) (cut_notes w restarts.connections)) m restarts.last restarts.ends, tt)))

-- ---- an event
step-owed : (w : RunState) (e : Event) (s : Step) → e.conditions.disk_failed ≡ false → e.conditions.out_of_memory ≡ false → HappensBy w e s → OwedAreHits (state_before_notes w e s) e.body
step-owed w e (step.Opened c peer) well not_out_of_memory is = opening-owed _ c w.connection_count (w.connection c) e.body is
step-owed w e (step.Piece c bytes) well not_out_of_memory to = piece-owed w e c bytes (w.connection c) well not_out_of_memory to
step-owed w e (step.Gone c) well not_out_of_memory is = going-owed _ (w.connection c) e.body is
step-owed w e (step.Direct target) well not_out_of_memory to = rw to.2 ((λ c request treats. absurd treats), tt)
step-owed w e (step.Render pick) well not_out_of_memory to = render-owed w e (picked_flight pick is_unrendered w.flights) to
step-owed w e (step.Deliver pick) well not_out_of_memory to = delivers-owed w e (picked_flight pick is_rendered w.flights) well not_out_of_memory to
step-owed w e (step.Lose pick) well not_out_of_memory to = loses-owed w e (picked_flight pick is_any w.flights) well not_out_of_memory to
step-owed w e step.Purge well not_out_of_memory to = purges-owed w e w.flushes well not_out_of_memory to
step-owed w e step.Restart well not_out_of_memory to = restart-owed w e.conditions e.body to

pub kept-served : KeptPagesAreServed
kept-served w e run well not_out_of_memory = step-owed w e e.step well not_out_of_memory run.0.0
