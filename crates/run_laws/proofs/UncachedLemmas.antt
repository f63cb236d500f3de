-- The notes that come where no request asks for a page of the cache or an invalidation.
use Rattle.std.proofs.Common.{◌≡◌, ◌∙◌, ℕ, zero, suc, true, false, List, [], ◌∷◌, Option, Some, None, refl, ap, sym, subst, inl, inr}
use Rattle.std.specs.Prelude.{slice_get, length}
use Rattle.sp_base.specs.Requests.{Request}
use Rattle.any_config.specs.declared.farm.Farm.{Farm}
use Rattle.dispatch_rules.specs.Caching.{cache_key}
use Rattle.invalidation.specs.Invalidations.{is_invalidation}
use Rattle.http_front.specs.declared.turn.Turn.{Turn}
use Rattle.http_front.specs.declared.turn.Turn.TheVariants.{Continue, Whole}
use Rattle.connections.specs.Connections.{Close, Connection, Due, Nothing, Refuse, Send, Treat}
use Rattle.run_events.specs.declared.conditions.Conditions.{Conditions}
use Rattle.run_events.specs.declared.note.Note.{Note}
use Rattle.run_events.specs.declared.note.Note.TheVariants.{Up, Down}
use Rattle.run_events.specs.States.{RunState}
use Rattle.run_events.specs.Points.{IsFirstPoint, key_of, points}
use Rattle.run_events.specs.Moves.{GivesDue, GivesNext, due_if_open, due_of_connection, state_after_note}
use Rattle.run_laws.specs.Brought.{AsksNoCache, TurnAsksNoCache, TurnsAskNoCache}
use Rattle.run_laws.specs.Determined.{LeavesNoChoice}
use Rattle.run_laws.proofs.BroughtLemmas.{AllRead, note_read}
use Rattle.run_laws.proofs.FormLemmas.{IsLandingNote, IsSliceNote, slice-form}
use Rattle.run_laws.proofs.LogLemmas.{note-farm}
use Rattle.run_laws.proofs.NamedLemmas.{due-treats}

-- the turns of streams before this farm
abbrev pub Unasking : Farm → List ℕ → List Turn → Type 0
Unasking farm stream turns = TurnsAskNoCache farm turns

pub record Uncached (farm : Farm) (coming : ℕ → List ℕ) (w : RunState) : Type 0 where
  pub farm_is : w.farm ≡ farm
  pub all : AllRead (TurnsAskNoCache farm) (Unasking farm) coming w.connection

pub uncached-note : (farm : Farm) (coming : ℕ → List ℕ) (w : RunState) (note : Note) → Uncached farm coming w → Uncached farm coming (state_after_note w note)
uncached-note farm coming w note uncached = record { farm_is = (note-farm w note).farm ∙ uncached.farm_is; all = note_read (TurnsAskNoCache farm) (Unasking farm) coming w note uncached.all }

-- ---- the request that is treated
asks-at : (farm : Farm) (turns : List Turn) (n : ℕ) (request : Request) → TurnsAskNoCache farm turns → slice_get turns n ≡ Some (Whole request) → AsksNoCache farm request
asks-at farm [] n request all e = absurd (let never : ⊥ = cc in never)
asks-at farm (turn ∷ turns) zero request all e =
    let same : turn ≡ Whole request = cc (e) in subst (TurnAsksNoCache farm) same all.0
asks-at farm (turn ∷ turns) (suc n) request all e = asks-at farm turns n request all.1 e

treated-asks : (farm : Farm) (coming : ℕ → List ℕ) (w : RunState) (c : ℕ) (request : Request) → Uncached farm coming w → due_of_connection w c ≡ Treat (Whole request) → AsksNoCache farm request
treated-asks farm coming w c request uncached e = by_open (w.connection c) refl e
  where
    by_open : (o : Option Connection) → w.connection c ≡ o → due_if_open o ≡ Treat (Whole request) → AsksNoCache farm request
    by_open None is e = absurd (let never : ⊥ = cc in never)
    by_open (Some k) is e = asks-at farm k.turns (length k.slots) request (uncached.all c k is).turns (due-treats k (Whole request) e).next

-- ---- notes
-- by the note no epoch begins, and none is passed over
abbrev pub AddsNoEpoch : Note → Type 0
AddsNoEpoch (Up epoch) = ⊥
AddsNoEpoch Down = ⊥
AddsNoEpoch _ = Unit {0}

-- the note leaves no choice, and no epoch begins by it
abbrev pub IsFree : Note → Type 0
IsFree note = LeavesNoChoice note × AddsNoEpoch note

first-free : (m : Conditions) (w : RunState) (c : ℕ) (request : Request) (note : Note) → key_of w request ≡ None → is_invalidation request ≡ false → IsFirstPoint m w c request note points → IsFree note
first-free m w c request note none asks (inl crowded) = rw crowded.1 (tt, tt)
first-free m w c request note none asks (inr (_, inl fallen)) = rw fallen.1 (tt, tt)
first-free m w c request note none asks (inr (_, inr (_, inl inv))) = absurd (let there : is_invalidation request ≡ true = inv.0 in let both : true ≡ false = sym there ∙ asks in let never : ⊥ = cc in never)
first-free m w c request note none asks (inr (_, inr (_, inr (_, inl hidden)))) = rw hidden.1 (tt, tt)
first-free m w c request note none asks (inr (_, inr (_, inr (_, inr (_, inl held))))) = absurd (let both : None ≡ Some held.1.0 = sym none ∙ held.1.1 in let never : ⊥ = cc in never)
first-free m w c request note none asks (inr (_, inr (_, inr (_, inr (_, inr (_, inl full)))))) = rw full.1 (tt, tt)
first-free m w c request note none asks (inr (_, inr (_, inr (_, inr (_, inr (_, inr (_, inl free))))))) = rw free.1 (tt, tt)
first-free m w c request note none asks (inr (_, inr (_, inr (_, inr (_, inr (_, inr (_, inr (never, _)))))))) = absurd never

gives-free : (farm : Farm) (coming : ℕ → List ℕ) (m : Conditions) (w : RunState) (c : ℕ) (owed : Due) (note : Note) → due_of_connection w c ≡ owed → Uncached farm coming w → GivesDue m w c owed note → IsFree note
gives-free farm coming m w c (Send slot) note is uncached gives = rw gives.1 (tt, tt)
gives-free farm coming m w c (Treat Continue) note is uncached gives = absurd gives
gives-free farm coming m w c (Treat (Whole request)) note is uncached (inl first) =
    let asks = treated-asks farm coming w c request uncached is in
    first-free m w c request note (ap (λ f. cache_key f request) uncached.farm_is ∙ asks.no_page) asks.no_invalidation first
gives-free farm coming m w c (Treat (Whole request)) note is uncached (inr out_of_memory) = rw out_of_memory.1 (tt, tt)
gives-free farm coming m w c (Refuse fault) note is uncached gives = rw gives (tt, tt)
gives-free farm coming m w c Close note is uncached gives = rw gives (tt, tt)
gives-free farm coming m w c Nothing note is uncached gives = absurd gives

pub slice-free : (v : ℕ) (note : Note) → IsSliceNote v note → IsFree note
slice-free v note (inl done) = rw done (tt, tt)
slice-free v note (inr (inl sliced)) = rw sliced (tt, tt)
slice-free v note (inr (inr failed)) = rw failed.1 (tt, tt)

pub landing-free : (n : ℕ) (note : Note) → IsLandingNote n note → IsFree note
landing-free n note (inl kept) = rw kept.1 (tt, tt)
landing-free n note (inr (inl unkept)) = rw unkept (tt, tt)
landing-free n note (inr (inr passed)) = rw passed (tt, tt)

pub next-free : (farm : Farm) (coming : ℕ → List ℕ) (m : Conditions) (w : RunState) (c : ℕ) (slicing : Option ℕ) (note : Note) → Uncached farm coming w → GivesNext m w c slicing note → IsFree note
next-free farm coming m w c None note uncached gives = gives-free farm coming m w c (due_of_connection w c) note refl uncached gives
next-free farm coming m w c (Some v) note uncached gives = slice-free v note (slice-form m v note gives)
