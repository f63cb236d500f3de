-- What handing notes on makes of a world's log. (Of the theorem's reader this file is no concern.)
use Rattle.std.specs.Prelude.{◌≡◌, ◌++◌, ◌⊎◌, ℕ, true, List, [], ◌∷◌, Option}
use Rattle.outside_world.specs.Worlds.{is_connected, told_more, told_shut}
use Rattle.outside_world.specs.declared.world.WorldEntry.{WorldEntry}
use Rattle.outside_world.specs.declared.world.WorldEntry.TheVariants.{Sent as sent_entry, Unsent}
use Rattle.connections.specs.Ids.{ConnectionId}
use Rattle.run_events.specs.declared.note.Note.{Note}
use Rattle.run_events.specs.declared.note.Note.TheVariants.{Sent, Shut, Refused}
use Rattle.serve_loop.specs.Turns.{entries_of_note}
use Rattle.serve_loop.specs.declared.handing.HandedOn.{HandedOn}
use Rattle.serve_loop.specs.declared.handing.HandedOn.TheVariants.{All, FailedAt, NoMemory}

-- ---- in the world's words alone

-- the log after a note was handed on: a connection that isn't open isn't shut
abbrev pub told_note : Option (List WorldEntry) → Note → Option (List WorldEntry)
told_note told (Sent c bytes) = told_more told (sent_entry c bytes ∷ [])
told_note told (Shut c) = told_shut told c
told_note told (Refused c) = told_shut told c
told_note told _ = told

-- the same after several
abbrev pub world_told_notes : Option (List WorldEntry) → List Note → Option (List WorldEntry)
world_told_notes told [] = told
world_told_notes told (note ∷ notes) = world_told_notes (told_note told note) notes

-- the sending of this note failed, and its connection was shut
pub record FailsHere (c : ConnectionId) (old new : Option (List WorldEntry)) (note : Note) : Type 0 where
  pub bytes : List ℕ
  pub note_is : note ≡ Sent c bytes
  pub log : new ≡ told_shut (told_more old (Unsent c ∷ [])) c

-- there was no memory for the sending of this note
pub record IsUnsentHere (old new : Option (List WorldEntry)) (note : Note) : Type 0 where
  pub connection : ConnectionId
  pub bytes : List ℕ
  pub note_is : note ≡ Sent connection bytes
  pub log : new ≡ old

-- What handing a note on came to: the world's log has it; or its sending failed, and its connection is shut; or there was no memory for it.
abbrev pub HandsOneOn : HandedOn → Option (List WorldEntry) → Option (List WorldEntry) → Note → Type 0
HandsOneOn All old new note = new ≡ told_note old note
HandsOneOn (FailedAt c) old new note = FailsHere c old new note
HandsOneOn NoMemory old new note = IsUnsentHere old new note

-- The same of several: it has all of them; or it came to the other ends at one of them, and has those before it.
abbrev pub HandsOn : HandedOn → Option (List WorldEntry) → Option (List WorldEntry) → List Note → Type 0
HandsOn All old new notes = new ≡ world_told_notes old notes
HandsOn (FailedAt c) old new [] = ⊥
HandsOn (FailedAt c) old new (note ∷ notes) = FailsHere c old new note ⊎ HandsOn (FailedAt c) (told_note old note) new notes
HandsOn NoMemory old new [] = ⊥
HandsOn NoMemory old new (note ∷ notes) = IsUnsentHere old new note ⊎ HandsOn NoMemory (told_note old note) new notes

-- how many sendings failed in it
abbrev pub failures_of : HandedOn → ℕ
failures_of (FailedAt c) = 1
failures_of _ = 0

-- ---- where the connections are open

-- the connection that the note sends on or shuts is open
abbrev pub IsOfOpen : List WorldEntry → Note → Type 0
IsOfOpen log (Sent c bytes) = is_connected log c ≡ true
IsOfOpen log (Shut c) = is_connected log c ≡ true
IsOfOpen log (Refused c) = is_connected log c ≡ true
IsOfOpen log _ = Unit {0}

-- the same of notes, each after what those before it add
abbrev pub AreOfOpen : List WorldEntry → List Note → Type 0
AreOfOpen log [] = Unit {0}
AreOfOpen log (note ∷ notes) = IsOfOpen log note × AreOfOpen (log ++ entries_of_note note) notes
