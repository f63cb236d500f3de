-- What is handed on of notes, where the connections that they name are open: their entries.
use Rattle.std.proofs.Common.{◌≡◌, ◌++◌, ◌∙◌, inl, inr, true, List, [], ◌∷◌, Option, Some, None, IfSome, sym, ap, subst, refl, append_assoc, if◌then◌else◌}
use Rattle.outside_world.specs.Worlds.{is_connected, told_more, told_shut}
use Rattle.outside_world.specs.declared.world.WorldEntry.{WorldEntry}
use Rattle.outside_world.specs.declared.world.WorldEntry.TheVariants.{Unsent, Shut as shut_entry}
use Rattle.connections.specs.Ids.{ConnectionId}
use Rattle.run_events.specs.declared.note.Note.{Note}
use Rattle.run_events.specs.declared.note.Note.TheVariants as note
use Rattle.serve_loop.specs.declared.handing.HandedOn.{HandedOn}
use Rattle.serve_loop.specs.declared.handing.HandedOn.TheVariants.{All, FailedAt, NoMemory}
use Rattle.serve_loop.specs.Turns.{IsHandedOn, entries_of_note, entries_of_notes}
use Rattle.serve_loop.specs.Hands.{AreOfOpen, FailsHere, HandsOn, IsOfOpen, IsUnsentHere, told_note, world_told_notes}
use Rattle.serve_loop.proofs.LogLemmas.{open_more, told_nothing, told_twice}

-- a connection that is open is shut
shut_is_told : (told : Option (List WorldEntry)) (c : ConnectionId) → IfSome told (λ log. is_connected log c ≡ true) → told_shut told c ≡ told_more told (shut_entry c ∷ [])
shut_is_told None c h = refl
shut_is_told (Some log) c h = ap (λ b. Some (log ++ (if b then shut_entry c ∷ [] else []))) h

nothing_is_told : (told : Option (List WorldEntry)) → told ≡ told_more told []
nothing_is_told told = sym (told_nothing told)

pub note_is_told : (told : Option (List WorldEntry)) (note : Note) → IfSome told (λ log. IsOfOpen log note) → told_note told note ≡ told_more told (entries_of_note note)
note_is_told told (note.Shut c) h = shut_is_told told c h
note_is_told told (note.Refused c) h = shut_is_told told c h
note_is_told told (note.Sent c bytes) h = refl
note_is_told told (note.Answer a) h = nothing_is_told told
note_is_told told (note.Ask n c k) h = nothing_is_told told
note_is_told told (note.Hit c k) h = nothing_is_told told
note_is_told told (note.Local c s) h = nothing_is_told told
note_is_told told (note.Flush n c i) h = nothing_is_told told
note_is_told told (note.Sliced n) h = nothing_is_told told
note_is_told told (note.Done n) h = nothing_is_told told
note_is_told told (note.Failed n f) h = nothing_is_told told
note_is_told told (note.Rendered n a) h = nothing_is_told told
note_is_told told (note.Kept n k) h = nothing_is_told told
note_is_told told (note.Unkept n) h = nothing_is_told told
note_is_told told (note.Passed n) h = nothing_is_told told
note_is_told told (note.Lost n) h = nothing_is_told told
note_is_told told note.Idle h = nothing_is_told told
note_is_told told (note.Up e) h = nothing_is_told told
note_is_told told note.Down h = nothing_is_told told
note_is_told told note.Hurt h = nothing_is_told told
note_is_told told note.OutOfMemory h = nothing_is_told told

-- the notes name open connections, where the log is told
abbrev pub AreOfOpenIn : Option (List WorldEntry) → List Note → Type 0
AreOfOpenIn told notes = IfSome told (λ log. AreOfOpen log notes)

head_is_of_open : (told : Option (List WorldEntry)) (n : Note) (notes : List Note) → AreOfOpenIn told (n ∷ notes) → IfSome told (λ log. IsOfOpen log n)
head_is_of_open None n notes h = tt
head_is_of_open (Some log) n notes h = h.0

rest_is_of_open : (told : Option (List WorldEntry)) (n : Note) (notes : List Note) → AreOfOpenIn told (n ∷ notes) → AreOfOpenIn (told_more told (entries_of_note n)) notes
rest_is_of_open None n notes h = tt
rest_is_of_open (Some log) n notes h = h.1

-- what was handed on is told, up to where it came
pub record TellsHanded (r : HandedOn) (told new : Option (List WorldEntry)) (notes : List Note) : Type 0 where
  pub entries : List WorldEntry
  pub handed : IsHandedOn r notes entries
  pub told_is : new ≡ told_more told entries

all_is_told : (told : Option (List WorldEntry)) (notes : List Note) → AreOfOpenIn told notes → world_told_notes told notes ≡ told_more told (entries_of_notes notes)
all_is_told told [] h = nothing_is_told told
all_is_told told (n ∷ notes) h =
    ap (λ t. world_told_notes t notes) (note_is_told told n (head_is_of_open told n notes h)) ∙ (all_is_told (told_more told (entries_of_note n)) notes (rest_is_of_open told n notes h)
    ∙ told_twice told (entries_of_note n) (entries_of_notes notes))

unsent_stays_open : (told : Option (List WorldEntry)) (c : ConnectionId) → IfSome told (λ log. is_connected log c ≡ true) → IfSome (told_more told (Unsent c ∷ [])) (λ log. is_connected log c ≡ true)
unsent_stays_open None c h = tt
unsent_stays_open (Some log) c h = open_more log c (Unsent c) ∙ h

failed_here : (c : ConnectionId) (told new : Option (List WorldEntry)) (n : Note) (notes : List Note) → AreOfOpenIn told (n ∷ notes) → FailsHere c told new n → TellsHanded (FailedAt c) told new (n ∷ notes)
failed_here c told new n notes h f =
    let open_here = subst (λ m. IfSome told (λ log. IsOfOpen log m)) f.note_is (head_is_of_open told n notes h) in
    record {
      entries = Unsent c ∷ shut_entry c ∷ [];
      handed = record {
        before = [];
        bytes = f.bytes;
        later = notes;
        notes_are = ap (λ m. m ∷ notes) f.note_is;
        entries_are = refl;
      };
      told_is = f.log ∙ (shut_is_told (told_more told (Unsent c ∷ [])) c (unsent_stays_open told c open_here) ∙ told_twice told (Unsent c ∷ []) (shut_entry c ∷ []));
    }

failed_later : (c : ConnectionId) (told new : Option (List WorldEntry)) (n : Note) (notes : List Note) → TellsHanded (FailedAt c) (told_more told (entries_of_note n)) new notes → TellsHanded (FailedAt c) told new (n ∷ notes)
failed_later c told new n notes t = record {
  entries = entries_of_note n ++ t.entries;
  handed = record {
    before = n ∷ t.handed.before;
    bytes = t.handed.bytes;
    later = t.handed.later;
    notes_are = ap (λ ms. n ∷ ms) t.handed.notes_are;
    entries_are = ap (λ es. entries_of_note n ++ es) t.handed.entries_are ∙ sym (append_assoc (entries_of_note n) (entries_of_notes t.handed.before) (Unsent c ∷ shut_entry c ∷ []));
  };
  told_is = t.told_is ∙ told_twice told (entries_of_note n) t.entries;
}

failed_is_told : (c : ConnectionId) (told new : Option (List WorldEntry)) (notes : List Note) → AreOfOpenIn told notes → HandsOn (FailedAt c) told new notes → TellsHanded (FailedAt c) told new notes
failed_is_told c told new [] h k = absurd k
failed_is_told c told new (n ∷ notes) h (inl f) = failed_here c told new n notes h f
failed_is_told c told new (n ∷ notes) h (inr k) =
    failed_later c told new n notes (failed_is_told c (told_more told (entries_of_note n)) new notes (rest_is_of_open told n notes h)
    (subst (λ t. HandsOn (FailedAt c) t new notes) (note_is_told told n (head_is_of_open told n notes h)) k))

short_here : (told new : Option (List WorldEntry)) (n : Note) (notes : List Note) → IsUnsentHere told new n → TellsHanded NoMemory told new (n ∷ notes)
short_here told new n notes f = record {
  entries = [];
  handed = record {
    before = [];
    connection = f.connection;
    bytes = f.bytes;
    later = notes;
    notes_are = ap (λ m. m ∷ notes) f.note_is;
    entries_are = refl;
  };
  told_is = f.log ∙ nothing_is_told told;
}

short_later : (told new : Option (List WorldEntry)) (n : Note) (notes : List Note) → TellsHanded NoMemory (told_more told (entries_of_note n)) new notes → TellsHanded NoMemory told new (n ∷ notes)
short_later told new n notes t = record {
  entries = entries_of_note n ++ t.entries;
  handed = record {
    before = n ∷ t.handed.before;
    connection = t.handed.connection;
    bytes = t.handed.bytes;
    later = t.handed.later;
    notes_are = ap (λ ms. n ∷ ms) t.handed.notes_are;
    entries_are = ap (λ es. entries_of_note n ++ es) t.handed.entries_are;
  };
  told_is = t.told_is ∙ told_twice told (entries_of_note n) t.entries;
}

short_is_told : (told new : Option (List WorldEntry)) (notes : List Note) → AreOfOpenIn told notes → HandsOn NoMemory told new notes → TellsHanded NoMemory told new notes
short_is_told told new [] h k = absurd k
short_is_told told new (n ∷ notes) h (inl f) = short_here told new n notes f
short_is_told told new (n ∷ notes) h (inr k) =
    short_later told new n notes (short_is_told (told_more told (entries_of_note n)) new notes (rest_is_of_open told n notes h)
    (subst (λ t. HandsOn NoMemory t new notes) (note_is_told told n (head_is_of_open told n notes h)) k))

-- whatever handing on came to
pub handing_is_told : (r : HandedOn) (told new : Option (List WorldEntry)) (notes : List Note) → AreOfOpenIn told notes → HandsOn r told new notes → TellsHanded r told new notes
handing_is_told All told new notes h k = record {
  entries = entries_of_notes notes;
  handed = refl;
  told_is = k ∙ all_is_told told notes h;
}
handing_is_told (FailedAt c) told new notes h k = failed_is_told c told new notes h k
handing_is_told NoMemory told new notes h k = short_is_told told new notes h k
