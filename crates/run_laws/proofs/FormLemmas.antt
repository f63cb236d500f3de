-- The forms of the notes of an event.
use Rattle.std.proofs.Common.{◌≡◌, ◌⊎◌, ℕ, ◌+◌, ◌++◌, Bool, true, false, List, [], ◌∷◌, Option, Some, None, Result, Ok, Err, map, inl, inr}
use Rattle.sp_base.specs.declared.answer.Answer.{Answer}
use Rattle.sp_base.specs.Requests.{Request}
use Rattle.glob_rules.specs.Rules.{allows}
use Rattle.cover_rules.specs.declared.page.PageKey.{PageKey}
use Rattle.cover_rules.specs.declared.invalidation.Invalidation.{Invalidation}
use Rattle.invalidation.specs.Invalidations.{invalidation_of}
use Rattle.invalidation.specs.declared.inv_fault.InvFault.{InvFault}
use Rattle.http_front.specs.Faults.{fault_status}
use Rattle.http_front.specs.declared.turn.Turn.TheVariants.{Continue, Whole}
use Rattle.cache_log.specs.Entries.{flights_asked, flushes_begun}
use Rattle.connections.specs.Connections.{Close, Due, Nothing, Refuse, Send, Treat}
use Rattle.run_events.specs.declared.conditions.Conditions.{Conditions}
use Rattle.run_events.specs.declared.flying.Flying.{Flying}
use Rattle.run_events.specs.declared.flying.Flushing.{Flushing}
use Rattle.run_events.specs.declared.note.Failure.{Failure}
use Rattle.run_events.specs.declared.note.Failure.TheVariants.{Disk, NoMemory, Restart as cut_off}
use Rattle.run_events.specs.declared.note.Note.{Note}
use Rattle.run_events.specs.declared.note.Note.TheVariants.{Ask as asked, Hit, Local, Flush, Sliced, Done, Failed, Kept, Unkept, Passed, Lost, Sent, Shut, Up, Down}
use Rattle.run_events.specs.States.{RunState}
use Rattle.run_events.specs.Points.{AnswersFlush, AnswersInvalidation, BeginsFlush, IsFirstPoint, is_full_of_flushes, key_of, peer_of, points}
use Rattle.run_events.specs.Moves.{GivesDue, GivesNext, GivesSlice, due_of_connection, state_after_notes}
use Rattle.run_events.specs.Restarts.{EndsRestart, Restarts, cut_notes, without_connections}
use Rattle.run_events.specs.Events.{MayLand}

-- ---- a request
-- a note that treats a request of the connection
abbrev pub IsRequestNote : RunState → ℕ → Note → Type 0
IsRequestNote w c note = ((status : ℕ) × (note ≡ Local c status)) ⊎ (((key : Option PageKey) × (note ≡ asked (flights_asked w.log + 1) c key)) ⊎ (((key : PageKey) × (note ≡ Hit c key)) ⊎ ((inv : Invalidation) × (note ≡ Flush (flushes_begun w.log + 1) c inv))))

begins-form : (w : RunState) (c : ℕ) (full : Bool) (inv : Invalidation) (note : Note) → BeginsFlush full w c inv note → IsRequestNote w c note
begins-form w c true inv note is = inl (503, is)
begins-form w c false inv note is = inr (inr (inr (inv, is)))

flush-form : (w : RunState) (c : ℕ) (named : Result Invalidation InvFault) (note : Note) → AnswersFlush w c named note → IsRequestNote w c note
flush-form w c (Err fault) note is = inl (400, is)
flush-form w c (Ok inv) note is = begins-form w c (is_full_of_flushes w) inv note is

invalidation-form : (w : RunState) (c : ℕ) (request : Request) (may : Bool) (note : Note) → AnswersInvalidation may w c request note → IsRequestNote w c note
invalidation-form w c request false note is = inl (403, is)
invalidation-form w c request true note is = flush-form w c (invalidation_of request) note is

pub first-form : (m : Conditions) (w : RunState) (c : ℕ) (request : Request) (note : Note) → IsFirstPoint m w c request note points → IsRequestNote w c note
first-form m w c request note (inl crowded) = inl (503, crowded.1)
first-form m w c request note (inr (_, inl fallen)) = inl (503, fallen.1)
first-form m w c request note (inr (_, inr (_, inl inv))) = invalidation-form w c request (allows w.farm.clients (peer_of (w.connection c))) note inv.1
first-form m w c request note (inr (_, inr (_, inr (_, inl hidden)))) = inl (404, hidden.1)
first-form m w c request note (inr (_, inr (_, inr (_, inr (_, inl held))))) = inr (inr (inl (held.1.0, held.1.2)))
first-form m w c request note (inr (_, inr (_, inr (_, inr (_, inr (_, inl full)))))) = inl (503, full.1)
first-form m w c request note (inr (_, inr (_, inr (_, inr (_, inr (_, inr (_, inl free))))))) = inr (inl (key_of w request, free.1))
first-form m w c request note (inr (_, inr (_, inr (_, inr (_, inr (_, inr (_, inr (never, _)))))))) = absurd never

pub treated-form : (m : Conditions) (w : RunState) (c : ℕ) (request : Request) (note : Note) → GivesDue m w c (Treat (Whole request)) note → IsRequestNote w c note
treated-form m w c request note (inl first) = first-form m w c request note first
treated-form m w c request note (inr out_of_memory) = inl (507, out_of_memory.1)

-- ---- a slice
abbrev pub IsSliceNote : ℕ → Note → Type 0
IsSliceNote v note = (note ≡ Done v) ⊎ ((note ≡ Sliced v) ⊎ ((failure : Failure) × (note ≡ Failed v failure)))

pub slice-form : (m : Conditions) (v : ℕ) (note : Note) → GivesSlice m v note → IsSliceNote v note
slice-form m v note (inl done) = inl done
slice-form m v note (inr (inl sliced)) = inr (inl sliced)
slice-form m v note (inr (inr (inl disk))) = inr (inr (Disk, disk.0))
slice-form m v note (inr (inr (inr memory))) = inr (inr (NoMemory, memory.0))

-- ---- a landing
abbrev pub IsLandingNote : ℕ → Note → Type 0
IsLandingNote n note = ((key : PageKey) × (note ≡ Kept n key)) ⊎ ((note ≡ Unkept n) ⊎ (note ≡ Passed n))

pub landing-form : (w : RunState) (m : Conditions) (f : Flying) (answer : Answer) (note : Note) → MayLand w m f answer note → IsLandingNote f.number note
landing-form w m f answer note (inl kept) = inl (kept.0, kept.2)
landing-form w m f answer note (inr (inl unkept)) = inr (inl unkept.0)
landing-form w m f answer note (inr (inr passed)) = inr (inr passed.0)

-- ---- any note that is due
abbrev pub IsDueNote : RunState → ℕ → Note → Type 0
IsDueNote w c note = IsRequestNote w c note ⊎ (((bytes : List ℕ) × (note ≡ Sent c bytes)) ⊎ ((note ≡ Shut c) ⊎ ((v : ℕ) × (w.slicing ≡ Some v) × IsSliceNote v note)))

due-form : (m : Conditions) (w : RunState) (c : ℕ) (owed : Due) (note : Note) → GivesDue m w c owed note → IsDueNote w c note
due-form m w c (Send slot) note gives = inr (inl (gives.0, gives.1))
due-form m w c (Treat Continue) note gives = absurd gives
due-form m w c (Treat (Whole request)) note gives = inl (treated-form m w c request note gives)
due-form m w c (Refuse fault) note gives = inl (inl (fault_status fault, gives))
due-form m w c Close note gives = inr (inr (inl gives))
due-form m w c Nothing note gives = absurd gives

pub next-form : (m : Conditions) (w : RunState) (c : ℕ) (slicing : Option ℕ) (note : Note) → w.slicing ≡ slicing → GivesNext m w c slicing note → IsDueNote w c note
next-form m w c None note is gives = due-form m w c (due_of_connection w c) note gives
next-form m w c (Some v) note is gives = inr (inr (inr (v, is, slice-form m v note gives)))

-- ---- a restart
-- a note of what a restart cuts off, or of how it ends
abbrev pub IsCutNote : Note → Type 0
IsCutNote (Lost n) = Unit {0}
IsCutNote (Failed v failure) = Unit {0}
IsCutNote (Shut c) = Unit {0}
IsCutNote (Up epoch) = Unit {0}
IsCutNote Down = Unit {0}
IsCutNote _ = ⊥

abbrev pub AreCutNotes : List Note → Type 0
AreCutNotes [] = Unit {0}
AreCutNotes (note ∷ notes) = IsCutNote note × AreCutNotes notes

cut-append : (notes more : List Note) → AreCutNotes notes → AreCutNotes more → AreCutNotes (notes ++ more)
cut-append [] more are others = others
cut-append (note ∷ notes) more are others = (are.0, cut-append notes more are.1 others)

losses-cut : (flights : List Flying) → AreCutNotes (map (λ (f : Flying). Lost f.number) flights)
losses-cut [] = tt
losses-cut (f ∷ flights) = (tt, losses-cut flights)

failures-cut : (flushes : List Flushing) → AreCutNotes (map (λ (f : Flushing). Failed f.number cut_off) flushes)
failures-cut [] = tt
failures-cut (f ∷ flushes) = (tt, failures-cut flushes)

shuts-cut : (connections : List ℕ) → AreCutNotes (map (λ (c : ℕ). Shut c) connections)
shuts-cut [] = tt
shuts-cut (c ∷ connections) = (tt, shuts-cut connections)

ends-cut : (w : RunState) (m : Conditions) (note : Note) → EndsRestart w m note → IsCutNote note
ends-cut w m note (inl up) = rw up.1 tt
ends-cut w m note (inr down) = rw down.0 tt

pub restart-cut : (w : RunState) (m : Conditions) (notes : List Note) → Restarts w m notes → AreCutNotes notes
restart-cut w m notes restarts =
    rw restarts.notes_are (cut-append (cut_notes w restarts.connections) (restarts.last ∷ [])
    (cut-append (map (λ (f : Flying). Lost f.number) w.flights) (map (λ (f : Flushing). Failed f.number cut_off) w.flushes ++ map (λ (c : ℕ). Shut c) restarts.connections) (losses-cut w.flights) (cut-append (map (λ (f : Flushing). Failed f.number cut_off) w.flushes) (map (λ (c : ℕ). Shut c) restarts.connections) (failures-cut w.flushes) (shuts-cut restarts.connections)))
    (ends-cut (state_after_notes (without_connections w) (cut_notes w restarts.connections)) m restarts.last restarts.ends, tt))
