-- A transcript is read back: what it tells of its events, and that it depends on nothing else.
use Rattle.std.proofs.Common.{◌≡◌, ◌+◌, ◌<◌, ◌≤◌, ◌++◌, ◌∙◌, ℕ, List, [], ◌∷◌, codes, map, sym, ap, refl, arith, drop, get_or, append_assoc}
use Rattle.std.proofs.lemmas.List.{append_cancel_left}
use Rattle.std.specs.Prelude.{flat_map}
use Rattle.std.specs.Fmt.{decimal}
use Rattle.run_events.specs.declared.note.Failure.TheVariants.{Disk}
use Rattle.run_events.specs.declared.note.Note.{Note}
use Rattle.run_events.specs.declared.note.Note.TheVariants.{Answer as answered, Ask, Hit, Local, Flush, Sliced, Done, Failed, Rendered, Kept, Unkept, Passed, Lost, Sent, Shut, Refused, Idle, Up, Down, Hurt, OutOfMemory}
use Rattle.replay_text.specs.Transcript.{note_line, note_text, event_text, told_notes, transcript_from, transcript, IsWritable, AreWritable, EventsAreWritable}
use Rattle.replay_text.proofs.HandleLaws.{HandlesTell}
use Rattle.replay_text.proofs.NoteLines.{last_number, one_answer, one_ask, one_flush, one_local, one_page, one_rendered, one_sent}
use Rattle.replay_text.proofs.PageLaws.{KeysTell}

-- ---- what is told, line by line

-- the line of a note, and its newline
abbrev line_text : Note → List ℕ
line_text note = note_line note ++ 10 ∷ []

-- the note has a line, which tells all of it
abbrev IsLined : Note → Type 0
IsLined (Sliced v) = ⊥
IsLined (Flush v c inv) = (c ≡ 0) × IsWritable (Flush v c inv)
IsLined (Failed v why) = (why ≡ Disk) × IsWritable (Failed v why)
IsLined note = IsWritable note

-- the same of each
abbrev AreLined : List Note → Type 0
AreLined [] = Unit {0}
AreLined (note ∷ notes) = IsLined note × AreLined notes

told_lines : (notes : List Note) → flat_map note_text notes ≡ flat_map line_text (told_notes notes)
told_lines [] = refl
told_lines (Sliced v ∷ notes) = told_lines notes
told_lines (Flush v c inv ∷ notes) = ap (λ t. line_text (Flush v c inv) ++ t) (told_lines notes)
told_lines (Failed v why ∷ notes) = ap (λ t. line_text (Failed v why) ++ t) (told_lines notes)
told_lines (note ∷ notes) = ap (λ t. line_text note ++ t) (told_lines notes)

told_lined : (notes : List Note) → AreWritable notes → AreLined (told_notes notes)
told_lined [] p = tt
told_lined (Sliced v ∷ notes) p = told_lined notes p.1
told_lined (Flush v c inv ∷ notes) p = ((refl, p.0), told_lined notes p.1)
told_lined (Failed v why ∷ notes) p = ((refl, p.0), told_lined notes p.1)
told_lined (note ∷ notes) p = (p.0, told_lined notes p.1)

-- ---- the lines of notes

-- a line tells its note, and where it ends: the first and the third letter tell the notes apart
one_line : KeysTell → HandlesTell → (m n : Note) (r s : List ℕ) → IsLined m → IsLined n → note_line m ++ 10 ∷ r ≡ note_line n ++ 10 ∷ s → (m ≡ n) × (r ≡ s)
one_line keys handles (Sliced v) n r s p q e = absurd p
one_line keys handles m (Sliced v) r s p q e = absurd q
one_line keys handles (answered a) (answered b) r s p q e =
    let x = one_answer a b (10 ∷ r) (10 ∷ s) p q (ap (drop 7) e) in (ap (λ v. answered v) x.0, ap (drop 1) x.1)
one_line keys handles (Ask m c k) (Ask n d l) r s p q e =
    let x = one_ask keys m n c d k l r s p.0 q.0 p.1 q.1 p.2 q.2 (ap (drop 4) e) in (cc (x.0, x.1, x.2), x.3)
one_line keys handles (Hit c k) (Hit d l) r s p q e =
    let x = one_page keys c d k l r s (omega (arith, p.0)) (omega (arith, q.0)) p.1 q.1 (ap (drop 4) e) in (cc (x.0, x.1), x.2)
one_line keys handles (Local c u) (Local d v) r s p q e =
    let x = one_local c d u v r s p.0 q.0 p.1 q.1 (ap (drop 6) e) in (cc (x.0, x.1), x.2)
one_line keys handles (Flush v c i) (Flush w d j) r s p q e =
    let x = one_flush handles v w i j r s p.1.0 q.1.0 p.1.1 q.1.1 (ap (drop 6) e) in (cc (x.0, x.1, p.0, q.0), x.2)
one_line keys handles (Done v) (Done w) r s p q e =
    let x = last_number v w r s p q (ap (drop 5) e) in (ap (λ n. Done n) x.0, x.1)
one_line keys handles (Failed v x) (Failed w y) r s p q e =
    let same = last_number v w r s p.1 q.1 (ap (drop 7) e) in (cc (same.0, p.0, q.0), same.1)
one_line keys handles (Rendered m a) (Rendered n b) r s p q e =
    let x = one_rendered m n a b r s p.0 q.0 p.1 q.1 (ap (drop 9) e) in (cc (x.0, x.1), x.2)
one_line keys handles (Kept m k) (Kept n l) r s p q e =
    let x = one_page keys m n k l r s p.0 q.0 p.1 q.1 (ap (drop 5) e) in (cc (x.0, x.1), x.2)
one_line keys handles (Unkept m) (Unkept n) r s p q e =
    let x = last_number m n r s p q (ap (drop 7) e) in (ap (λ v. Unkept v) x.0, x.1)
one_line keys handles (Passed m) (Passed n) r s p q e =
    let x = last_number m n r s p q (ap (drop 7) e) in (ap (λ v. Passed v) x.0, x.1)
one_line keys handles (Lost m) (Lost n) r s p q e =
    let x = last_number m n r s p q (ap (drop 5) e) in (ap (λ v. Lost v) x.0, x.1)
one_line keys handles (Sent c x) (Sent d y) r s p q e =
    let same = one_sent c d x y r s p q (ap (drop 5) e) in (cc (same.0, same.1), same.2)
one_line keys handles (Shut c) (Shut d) r s p q e =
    let x = last_number c d r s (omega (arith, p)) (omega (arith, q)) (ap (drop 5) e) in (ap (λ v. Shut v) x.0, x.1)
one_line keys handles (Refused c) (Refused d) r s p q e =
    let x = last_number c d r s (omega (arith, p)) (omega (arith, q)) (ap (drop 8) e) in (ap (λ v. Refused v) x.0, x.1)
one_line keys handles Idle Idle r s p q e = (refl, ap (drop 5) e)
one_line keys handles (Up m) (Up n) r s p q e =
    let x = last_number m n r s p q (ap (drop 3) e) in (ap (λ v. Up v) x.0, x.1)
one_line keys handles Down Down r s p q e = (refl, ap (drop 5) e)
one_line keys handles Hurt Hurt r s p q e = (refl, ap (drop 5) e)
one_line keys handles OutOfMemory OutOfMemory r s p q e = (refl, ap (drop 4) e)
one_line keys handles m n r s p q e = absurd (omega (arith, ap (λ t. get_or t 0 0) e, ap (λ t. get_or t 2 0) e))

one_note : KeysTell → HandlesTell → (m n : Note) (r s : List ℕ) → IsLined m → IsLined n → line_text m ++ r ≡ line_text n ++ s → (m ≡ n) × (r ≡ s)
one_note keys handles m n r s p q e =
    one_line keys handles m n r s p q (sym (append_assoc (note_line m) (10 ∷ []) r) ∙ e ∙ append_assoc (note_line n) (10 ∷ []) s)

-- a text that doesn't begin as a note does
abbrev Ends : List ℕ → Type 0
Ends text = get_or text 0 0 < 97

note_begins : (n : Note) (r : List ℕ) → IsLined n → 97 ≤ get_or (line_text n ++ r) 0 0
note_begins (answered a) r p = omega arith
note_begins (Ask n c key) r p = omega arith
note_begins (Hit c key) r p = omega arith
note_begins (Local c status) r p = omega arith
note_begins (Flush v c inv) r p = omega arith
note_begins (Sliced v) r p = absurd p
note_begins (Done v) r p = omega arith
note_begins (Failed v why) r p = omega arith
note_begins (Rendered n a) r p = omega arith
note_begins (Kept n key) r p = omega arith
note_begins (Unkept n) r p = omega arith
note_begins (Passed n) r p = omega arith
note_begins (Lost n) r p = omega arith
note_begins (Sent c bytes) r p = omega arith
note_begins (Shut c) r p = omega arith
note_begins (Refused c) r p = omega arith
note_begins Idle r p = omega arith
note_begins (Up epoch) r p = omega arith
note_begins Down r p = omega arith
note_begins Hurt r p = omega arith
note_begins OutOfMemory r p = omega arith

not_both : (n : Note) (text rest : List ℕ) → IsLined n → Ends text → text ≡ line_text n ++ rest → ⊥
not_both n text rest p ends e = absurd (omega (arith, ends, note_begins n rest p, ap (λ t. get_or t 0 0) e))

one_notes : KeysTell → HandlesTell → (x y : List Note) (r s : List ℕ) → AreLined x → AreLined y → Ends r → Ends s
    → flat_map line_text x ++ r ≡ flat_map line_text y ++ s → (x ≡ y) × (r ≡ s)
one_notes keys handles [] [] r s p q er es e = (refl, e)
one_notes keys handles [] (n ∷ y) r s p q er es e =
    absurd (not_both n r (flat_map line_text y ++ s) q.0 er (e ∙ append_assoc (line_text n) (flat_map line_text y) s))
one_notes keys handles (m ∷ x) [] r s p q er es e =
    absurd (not_both m s (flat_map line_text x ++ r) p.0 es (sym e ∙ append_assoc (line_text m) (flat_map line_text x) r))
one_notes keys handles (m ∷ x) (n ∷ y) r s p q er es e =
    let head = one_note keys handles m n (flat_map line_text x ++ r) (flat_map line_text y ++ s) p.0 q.0
    (sym (append_assoc (line_text m) (flat_map line_text x) r) ∙ e ∙ append_assoc (line_text n) (flat_map line_text y) s) in
    let tail = one_notes keys handles x y r s p.1 q.1 er es head.1 in
    (cc (head.0, tail.0), tail.1)

-- ---- the events

transcript_ends : (n : ℕ) (events : List (List Note)) → Ends (transcript_from n events)
transcript_ends n [] = omega arith
transcript_ends n (notes ∷ events) = omega arith

event_spread : (n : ℕ) (notes : List Note) (r : List ℕ)
    → event_text n notes ++ r ≡ (codes "@ " ++ decimal n ++ 10 ∷ []) ++ (flat_map line_text (told_notes notes) ++ r)
event_spread n notes r =
    append_assoc (codes "@ " ++ decimal n) (10 ∷ flat_map note_text notes) r
    ∙ sym (append_assoc (codes "@ " ++ decimal n) (10 ∷ []) (flat_map note_text notes ++ r))
    ∙ ap (λ t. (codes "@ " ++ decimal n ++ 10 ∷ []) ++ (t ++ r)) (told_lines notes)

told_events : KeysTell → HandlesTell → (n : ℕ) (a b : List (List Note)) → EventsAreWritable a → EventsAreWritable b
    → transcript_from n a ≡ transcript_from n b → map told_notes a ≡ map told_notes b
told_events keys handles n [] [] p q e = refl
told_events keys handles n [] (y ∷ b) p q e = cc (e)
told_events keys handles n (x ∷ a) [] p q e = cc (e)
told_events keys handles n (x ∷ a) (y ∷ b) p q e =
    let ta = transcript_from (n + 1) a in
    let tb = transcript_from (n + 1) b in
    let tx = flat_map line_text (told_notes x) in
    let ty = flat_map line_text (told_notes y) in
    let rest = append_cancel_left (codes "@ " ++ decimal n ++ 10 ∷ []) (tx ++ ta) (ty ++ tb) (sym (event_spread n x ta) ∙ e ∙ event_spread n y tb) in
    let head = one_notes keys handles (told_notes x) (told_notes y) ta tb (told_lined x p.0) (told_lined y q.0) (transcript_ends (n + 1) a) (transcript_ends (n + 1) b) rest in
    let tail = told_events keys handles (n + 1) a b p.1 q.1 head.1 in
    cc (head.0, tail)

pub transcript_tells : KeysTell → HandlesTell → (a b : List (List Note)) → EventsAreWritable a → EventsAreWritable b → transcript a ≡ transcript b
    → map told_notes a ≡ map told_notes b
transcript_tells keys handles a b p q e = told_events keys handles 1 a b p q e

-- the lines of events of which this much is told
abbrev lines_from : ℕ → List (List Note) → List ℕ
lines_from n [] = []
lines_from n (told ∷ events) = (codes "@ " ++ decimal n ++ 10 ∷ []) ++ (flat_map line_text told ++ lines_from (n + 1) events)

transcript_lines : (n : ℕ) (events : List (List Note)) → transcript_from n events ≡ lines_from n (map told_notes events)
transcript_lines n [] = refl
transcript_lines n (notes ∷ events) =
    event_spread n notes (transcript_from (n + 1) events)
    ∙ ap (λ t. (codes "@ " ++ decimal n ++ 10 ∷ []) ++ (flat_map line_text (told_notes notes) ++ t)) (transcript_lines (n + 1) events)

pub transcript_alone : (a b : List (List Note)) → map told_notes a ≡ map told_notes b → transcript a ≡ transcript b
transcript_alone a b e = transcript_lines 1 a ∙ ap (lines_from 1) e ∙ sym (transcript_lines 1 b)
