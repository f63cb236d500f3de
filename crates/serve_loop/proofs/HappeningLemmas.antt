-- What came is told by the world's log, turn by turn.
use Rattle.std.proofs.Common.{◌≡◌, ◌++◌, ◌∙◌, Bool, true, false, List, [], ◌∷◌, Option, Some, None, map, sym, ap, subst, refl}
use Rattle.std.proofs.lemmas.List.{map-append}
use Rattle.std.proofs.lemmas.Grind.{flat_map-append}
use Rattle.outside_world.specs.declared.world.Happening.{Happening}
use Rattle.outside_world.specs.declared.world.WorldEntry.{WorldEntry}
use Rattle.outside_world.specs.declared.world.WorldEntry.TheVariants.{Came, Sent as sent_entry, Unsent, Shut as shut_entry}
use Rattle.run_events.specs.declared.note.Note.{Note}
use Rattle.run_events.specs.declared.note.Note.TheVariants as note
use Rattle.run_events.specs.States.{RunState}
use Rattle.run_events.specs.Events.{after_event, notes_of, state_after_events}
use Rattle.serve_loop.specs.declared.handing.HandedOn.{HandedOn}
use Rattle.serve_loop.specs.declared.handing.HandedOn.TheVariants.{All, FailedAt, NoMemory}
use Rattle.serve_loop.specs.Turns.{AreDue, AreWholeTurns, HandedEvent, IsCutTurn, IsHandedOn, ServedTurn, Stage, entries_made, entries_of_note, entries_of_notes, events_made, happenings_of, stage_after, stage_handed, stage_of, turn_entries, turn_events, with_cut}

happenings_append : (a b : List WorldEntry) → happenings_of (a ++ b) ≡ happenings_of a ++ happenings_of b
happenings_append [] b = refl
happenings_append (Came news ∷ a) b = ap (λ hs. news ∷ hs) (happenings_append a b)
happenings_append (sent_entry c bytes ∷ a) b = happenings_append a b
happenings_append (Unsent c ∷ a) b = happenings_append a b
happenings_append (shut_entry c ∷ a) b = happenings_append a b

-- nothing of it came
abbrev NoneCame : List WorldEntry → Type 0
NoneCame entries = happenings_of entries ≡ []

none_of_both : (a b : List WorldEntry) → NoneCame a → NoneCame b → NoneCame (a ++ b)
none_of_both a b h k = happenings_append a b ∙ (ap (λ hs. hs ++ happenings_of b) h ∙ k)

note_brings_none : (n : Note) → NoneCame (entries_of_note n)
note_brings_none (note.Sent c bytes) = refl
note_brings_none (note.Shut c) = refl
note_brings_none (note.Refused c) = refl
note_brings_none (note.Answer x) = refl
note_brings_none (note.Ask n c k) = refl
note_brings_none (note.Hit c k) = refl
note_brings_none (note.Local c s) = refl
note_brings_none (note.Flush n c i) = refl
note_brings_none (note.Sliced n) = refl
note_brings_none (note.Done n) = refl
note_brings_none (note.Failed n f) = refl
note_brings_none (note.Rendered n x) = refl
note_brings_none (note.Kept n k) = refl
note_brings_none (note.Unkept n) = refl
note_brings_none (note.Passed n) = refl
note_brings_none (note.Lost n) = refl
note_brings_none note.Idle = refl
note_brings_none (note.Up e) = refl
note_brings_none note.Down = refl
note_brings_none note.Hurt = refl
note_brings_none note.OutOfMemory = refl

notes_bring_none : (notes : List Note) → NoneCame (entries_of_notes notes)
notes_bring_none [] = refl
notes_bring_none (n ∷ notes) = none_of_both (entries_of_note n) (entries_of_notes notes) (note_brings_none n) (notes_bring_none notes)

handing_brings_none : (r : HandedOn) (notes : List Note) (entries : List WorldEntry) → IsHandedOn r notes entries → NoneCame entries
handing_brings_none All notes entries h = subst NoneCame (sym h) (notes_bring_none notes)
handing_brings_none (FailedAt c) notes entries h = subst NoneCame (sym h.entries_are) (none_of_both (entries_of_notes h.before) (Unsent c ∷ shut_entry c ∷ []) (notes_bring_none h.before) refl)
handing_brings_none NoMemory notes entries h = subst NoneCame (sym h.entries_are) (notes_bring_none h.before)

events_bring_none : (whole : Bool) (stage : Stage) (w : RunState) (made : List HandedEvent) → AreDue whole stage w made → NoneCame (entries_made made)
events_bring_none whole stage w [] h = refl
events_bring_none whole stage w (m ∷ made) h =
    none_of_both m.entries (entries_made made) (handing_brings_none m.handed (notes_of m.event) m.entries h.1)
    (events_bring_none whole (stage_handed m.handed (stage_after stage w)) (after_event w m.event) made h.2)

abbrev news_of : List ServedTurn → List Happening
news_of turns = map (λ (turn : ServedTurn). turn.news) turns

entries_of_both : (a b : List ServedTurn) → turn_entries (a ++ b) ≡ turn_entries a ++ turn_entries b
entries_of_both a b = flat_map-append (λ (turn : ServedTurn). Came turn.news ∷ entries_made turn.made) a b

turn_tells : (turn : ServedTurn) (later : List WorldEntry) → NoneCame (entries_made turn.made) → happenings_of ((Came turn.news ∷ entries_made turn.made) ++ later) ≡ turn.news ∷ happenings_of later
turn_tells turn later h = ap (λ hs. turn.news ∷ hs) (happenings_append (entries_made turn.made) later ∙ ap (λ hs. hs ++ happenings_of later) h)

whole_turns_tell : (w : RunState) (turns : List ServedTurn) → AreWholeTurns w turns → happenings_of (turn_entries turns) ≡ news_of turns
whole_turns_tell w [] h = refl
whole_turns_tell w (turn ∷ turns) h =
    turn_tells turn (turn_entries turns) (events_bring_none true (stage_of turn.news) w turn.made h.0)
    ∙ ap (λ hs. turn.news ∷ hs) (whole_turns_tell (state_after_events w (events_made turn.made)) turns h.1)

pub turns_tell : (w : RunState) (turns : List ServedTurn) (cut : Option ServedTurn) → AreWholeTurns w turns → IsCutTurn (state_after_events w (turn_events turns)) cut → happenings_of (turn_entries (with_cut turns cut)) ≡ news_of (with_cut turns cut)
turns_tell w turns None h k = whole_turns_tell w turns h
turns_tell w turns (Some turn) h k =
    ap happenings_of (entries_of_both turns (turn ∷ []))
    ∙ (happenings_append (turn_entries turns) (turn_entries (turn ∷ []))
    ∙ (ap (λ hs. hs ++ happenings_of (turn_entries (turn ∷ []))) (whole_turns_tell w turns h)
    ∙ (ap (λ hs. news_of turns ++ hs) (turn_tells turn [] (events_bring_none false (stage_of turn.news) (state_after_events w (turn_events turns)) turn.made k))
    ∙ sym (map-append (λ (t : ServedTurn). t.news) turns (turn ∷ [])))))
