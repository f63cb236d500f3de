-- Notes, one after another: what treats a request, and that the content stays but for a render.
use Rattle.std.proofs.Common.{Bool, Err, List, None, Ok, Option, Result, Some, [], false, inl, inr, refl, true, ℕ, ◌++◌, ◌∙◌, ◌∷◌, ◌≡◌, ◌⊎◌}
use Rattle.sp_base.specs.Requests.{Request}
use Rattle.sp_base.specs.declared.answer.Answer.{Answer}
use Rattle.glob_rules.specs.Rules.{allows}
use Rattle.cover_rules.specs.declared.invalidation.Invalidation.{Invalidation}
use Rattle.cover_rules.specs.declared.page.PageKey.{PageKey}
use Rattle.cache_log.specs.Entries.{FlushOutcome, LogEntry}
use Rattle.invalidation.specs.Invalidations.{invalidation_of}
use Rattle.invalidation.specs.declared.inv_fault.InvFault.{InvFault}
use Rattle.http_front.specs.declared.turn.Turn.TheVariants.{Continue, Whole}
use Rattle.connections.specs.Connections.{Close, Due, Nothing, Refuse, Send, Treat}
use Rattle.connections.specs.Slots.{Response}
use Rattle.run_events.specs.Moves.{GivesDue, GivesNext, GivesSlice, Serves, due_of_connection, flush_at, flying_at, over_with, state_after_ask, state_after_ending, state_after_flush, state_after_hit, state_after_note, state_after_notes, treated_request}
use Rattle.run_events.specs.Points.{AnswersFlush, AnswersInvalidation, AnswersPoint, BeginsFlush, Crowded, Fallen, Free, Full, Held, Hidden, Invalidating, IsFirstPoint, Point, is_full_of_flushes, peer_of, points}
use Rattle.run_events.specs.States.{RunState}
use Rattle.run_events.specs.declared.conditions.Conditions.{Conditions}
use Rattle.run_events.specs.declared.flying.Flushing.{Flushing}
use Rattle.run_events.specs.declared.flying.Flying.{Flying}
use Rattle.run_events.specs.declared.note.Note.{Note}
use Rattle.run_events.specs.declared.note.Note.TheVariants.{Done, Down, Failed, Flush, Hit, Kept, Local, Lost, Passed, Rendered, Sent, Shut, Sliced, Unkept, Up, Ask as asked}

pub notes_append : (w : RunState) (notes more : List Note) → state_after_notes w (notes ++ more) ≡ state_after_notes (state_after_notes w notes) more
notes_append w [] more = refl
notes_append w (n ∷ notes) more = notes_append (state_after_note w n) notes more

-- the front's own answer, a hit, a flight or a flush
abbrev pub IsTreatment : ℕ → Note → Type 0
IsTreatment c note = ((status : ℕ) × (note ≡ Local c status)) ⊎ (((key : PageKey) × (note ≡ Hit c key)) ⊎ (((n : ℕ) × (key : Option PageKey) × (note ≡ asked n c key)) ⊎ ((n : ℕ) × (inv : Invalidation) × (note ≡ Flush n c inv))))

answered-by : (m : Conditions) (w : RunState) (c : ℕ) (request : Request) (note : Note) (ps : List Point) → IsFirstPoint m w c request note ps → (p : Point) × AnswersPoint w c request p note
answered-by m w c request note [] first = absurd first
answered-by m w c request note (p ∷ ps) (inl here) = (p, here.1)
answered-by m w c request note (p ∷ ps) (inr later) = answered-by m w c request note ps later.1

begins-treats : (full : Bool) (w : RunState) (c : ℕ) (inv : Invalidation) (note : Note) → BeginsFlush full w c inv note → IsTreatment c note
begins-treats true w c inv note is = inl (503, is)
begins-treats false w c inv note is = inr (inr (inr (_, inv, is)))

flush-treats : (w : RunState) (c : ℕ) (r : Result Invalidation InvFault) (note : Note) → AnswersFlush w c r note → IsTreatment c note
flush-treats w c (Err fault) note is = inl (400, is)
flush-treats w c (Ok inv) note is = begins-treats (is_full_of_flushes w) w c inv note is

invalidation-treats : (allowed : Bool) (w : RunState) (c : ℕ) (request : Request) (note : Note) → AnswersInvalidation allowed w c request note → IsTreatment c note
invalidation-treats false w c request note is = inl (403, is)
invalidation-treats true w c request note is = flush-treats w c (invalidation_of request) note is

point-treats : (w : RunState) (c : ℕ) (request : Request) (p : Point) (note : Note) → AnswersPoint w c request p note → IsTreatment c note
point-treats w c request Crowded note is = inl (503, is)
point-treats w c request Fallen note is = inl (503, is)
point-treats w c request Invalidating note is = invalidation-treats (allows w.farm.clients (peer_of (w.connection c))) w c request note is
point-treats w c request Hidden note is = inl (404, is)
point-treats w c request Held note is = inr (inl (is.0, is.2))
point-treats w c request Full note is = inl (503, is)
point-treats w c request Free note is = inr (inr (inl (_, _, is)))

first-treats : (m : Conditions) (w : RunState) (c : ℕ) (request : Request) (note : Note) → IsFirstPoint m w c request note points → IsTreatment c note
first-treats m w c request note first = let by = answered-by m w c request note points first in point-treats w c request by.0 note by.1

-- what is sent, what treats a request, the front's own answer of a fault, or the end
abbrev pub IsGift : ℕ → Note → Type 0
IsGift c note = ((bytes : List ℕ) × (note ≡ Sent c bytes)) ⊎ (IsTreatment c note ⊎ (note ≡ Shut c))

pub gift : (m : Conditions) (w : RunState) (c : ℕ) (owed : Due) (note : Note) → GivesDue m w c owed note → IsGift c note
gift m w c (Send slot) note gives = inl (gives.0, gives.1)
gift m w c (Treat Continue) note gives = absurd gives
gift m w c (Treat (Whole request)) note (inl first) = inr (inl (first-treats m w c request note first))
gift m w c (Treat (Whole request)) note (inr out_of_memory) = inr (inl (inl (507, out_of_memory.1)))
gift m w c (Refuse fault) note gives = inr (inl (inl (_, gives)))
gift m w c Close note gives = inr (inr gives)
gift m w c Nothing note gives = absurd gives

pub record SameContent (w v : RunState) : Type 0 where
  pub publishing : v.publishing ≡ w.publishing
  pub farm : v.farm ≡ w.farm
  pub content : v.content ≡ w.content
  pub found : v.found ≡ w.found

pub same_content : (w : RunState) → SameContent w w
same_content w = record { publishing = refl; farm = refl; content = refl; found = refl }

pub content_chain : (u v w : RunState) → SameContent u v → SameContent v w → SameContent u w
content_chain u v w f g = record { publishing = g.publishing ∙ f.publishing; farm = g.farm ∙ f.farm; content = g.content ∙ f.content; found = g.found ∙ f.found }

asked-same : (w : RunState) (number c : ℕ) (key : Option PageKey) (request : Option Request) → SameContent w (state_after_ask w number c key request)
asked-same w number c key None = same_content w
asked-same w number c key (Some request) = record { publishing = refl; farm = refl; content = refl; found = refl }

hit-same : (w : RunState) (c : ℕ) (key : PageKey) (request : Option Request) → SameContent w (state_after_hit w c key request)
hit-same w c key None = same_content w
hit-same w c key (Some request) = record { publishing = refl; farm = refl; content = refl; found = refl }

flush-same : (w : RunState) (number c : ℕ) (inv : Invalidation) (request : Option Request) → SameContent w (state_after_flush w number c inv request)
flush-same w number c inv None = same_content w
flush-same w number c inv (Some request) = record { publishing = refl; farm = refl; content = refl; found = refl }

over-same : (w : RunState) (number : ℕ) (answer : Answer) (entry : LogEntry) (flying : Option Flying) → SameContent w (over_with w number answer entry flying)
over-same w number answer entry None = same_content w
over-same w number answer entry (Some flying) = record { publishing = refl; farm = refl; content = refl; found = refl }

ending-same : (w : RunState) (number : ℕ) (outcome : FlushOutcome) (response : Response) (flush : Option Flushing) → SameContent w (state_after_ending w number outcome response flush)
ending-same w number outcome response None = same_content w
ending-same w number outcome response (Some flush) = record { publishing = refl; farm = refl; content = refl; found = refl }

-- the note doesn't tell a render
abbrev pub IsStillNote : Note → Type 0
IsStillNote (Rendered number answer) = ⊥
IsStillNote _ = Unit {0}

pub after-same : (w : RunState) (note : Note) → IsStillNote note → SameContent w (state_after_note w note)
after-same w (asked number c key) is = asked-same w number c key (treated_request (due_of_connection w c))
after-same w (Hit c key) is = hit-same w c key (treated_request (due_of_connection w c))
after-same w (Local c status) is = record { publishing = refl; farm = refl; content = refl; found = refl }
after-same w (Flush number c inv) is = flush-same w number c inv (treated_request (due_of_connection w c))
after-same w (Sliced number) is = record { publishing = refl; farm = refl; content = refl; found = refl }
after-same w (Done number) is = ending-same w number _ _ (flush_at number w.flushes)
after-same w (Failed number failure) is = ending-same w number _ _ (flush_at number w.flushes)
after-same w (Rendered number answer) is = absurd is
after-same w (Kept number key) is = over-same w number _ _ (flying_at number w.flights)
after-same w (Unkept number) is = over-same w number _ _ (flying_at number w.flights)
after-same w (Passed number) is = over-same w number _ _ (flying_at number w.flights)
after-same w (Lost number) is = over-same w number _ _ (flying_at number w.flights)
after-same w (Sent c bytes) is = record { publishing = refl; farm = refl; content = refl; found = refl }
after-same w (Shut c) is = record { publishing = refl; farm = refl; content = refl; found = refl }
after-same w (Up epoch) is = record { publishing = refl; farm = refl; content = refl; found = refl }
after-same w Down is = record { publishing = refl; farm = refl; content = refl; found = refl }
after-same w note is = same_content w

-- no note of these tells a render
abbrev pub AreStillNotes : List Note → Type 0
AreStillNotes [] = Unit {0}
AreStillNotes (note ∷ notes) = IsStillNote note × AreStillNotes notes

pub still-append : (notes more : List Note) → AreStillNotes notes → AreStillNotes more → AreStillNotes (notes ++ more)
still-append [] more a b = b
still-append (n ∷ notes) more a b = (a.0, still-append notes more a.1 b)

pub afters-same : (w : RunState) (notes : List Note) → AreStillNotes notes → SameContent w (state_after_notes w notes)
afters-same w [] are = same_content w
afters-same w (n ∷ notes) are = content_chain w (state_after_note w n) (state_after_notes (state_after_note w n) notes) (after-same w n are.0) (afters-same (state_after_note w n) notes are.1)

treats-still : (c : ℕ) (note : Note) → IsTreatment c note → IsStillNote note
treats-still c note (inl is) = rw is.1 tt
treats-still c note (inr (inl is)) = rw is.1 tt
treats-still c note (inr (inr (inl is))) = rw is.2 tt
treats-still c note (inr (inr (inr is))) = rw is.2 tt

gift-still : (c : ℕ) (note : Note) → IsGift c note → IsStillNote note
gift-still c note (inl sent) = rw sent.1 tt
gift-still c note (inr (inl treats)) = treats-still c note treats
gift-still c note (inr (inr shut)) = rw shut tt

pub slice-still : (m : Conditions) (flush : ℕ) (note : Note) → GivesSlice m flush note → IsStillNote note
slice-still m flush note (inl is) = rw is tt
slice-still m flush note (inr (inl is)) = rw is tt
slice-still m flush note (inr (inr (inl is))) = rw is.0 tt
slice-still m flush note (inr (inr (inr is))) = rw is.0 tt

next-still : (m : Conditions) (w : RunState) (c : ℕ) (slicing : Option ℕ) (note : Note) → GivesNext m w c slicing note → IsStillNote note
next-still m w c (Some flush) note gives = slice-still m flush note gives
next-still m w c None note gives = gift-still c note (gift m w c (due_of_connection w c) note gives)

pub serves-still : (m : Conditions) (w : RunState) (c : ℕ) (notes : List Note) → Serves m w c notes → AreStillNotes notes
serves-still m w c [] serves = tt
serves-still m w c (n ∷ notes) serves = (next-still m w c w.slicing n serves.0, serves-still m (state_after_note w n) c notes serves.1)
