-- How events are written.
use Rattle.std.specs.Prelude.{◌+◌, ◌<◌, ◌/◌, ◌%◌, ◌++◌, ◌==◌, ℕ, Bool, true, false, if◌then◌else◌, nat_lt, List, [], ◌∷◌, codes, flat_map, Option, Some, None}
use Rattle.std.specs.Fmt.{decimal}
use Rattle.sp_base.specs.Bytes.{is_printable_ascii}
use Rattle.sp_base.specs.declared.answer.Answer.{Answer}
use Rattle.sp_base.specs.declared.answer.Mark.{Mark}
use Rattle.sp_base.specs.declared.answer.Mark.TheVariants.{Plain, NoCache, NoStore, MustRevalidate}
use Rattle.sp_base.specs.Paths.{mangled_segs, text_of}
use Rattle.cover_rules.specs.Pages.{page_text}
use Rattle.cover_rules.specs.declared.page.PageKey.{PageKey}
use Rattle.cover_rules.specs.declared.invalidation.Invalidation.{Invalidation}
use Rattle.cover_rules.specs.declared.invalidation.Action.{Action}
use Rattle.cover_rules.specs.declared.invalidation.Action.TheVariants.{Activate, Deactivate, Delete}
use Rattle.connections.specs.Ids.{ConnectionId}
use Rattle.run_events.specs.declared.note.Failure.TheVariants.{Disk}
use Rattle.run_events.specs.declared.note.Note.{Note}
use Rattle.run_events.specs.declared.note.Note.TheVariants.{Answer as answered, Ask, Hit, Local, Flush, Sliced, Done, Failed, Rendered, Kept, Unkept, Passed, Lost, Sent, Shut, Refused, Idle, Up, Down, Hurt, OutOfMemory}
use Rattle.run_events.specs.Named.{IsPage, IsHandle}

-- a hexadecimal digit, in lower case
abbrev pub hex : ℕ → ℕ
hex n = if nat_lt n 10 then 48 + n else 87 + n

-- A byte within quotes: visible bytes and blanks stand for themselves, but for the quote and the backslash.
abbrev pub quoted_byte : ℕ → List ℕ
quoted_byte b = if b == 34 then 92 ∷ 34 ∷ [] else (if b == 92 then 92 ∷ 92 ∷ [] else
    (if b == 13 then codes "\\r" else (if b == 10 then codes "\\n" else (if b == 9 then codes "\\t" else
    (if is_printable_ascii b then b ∷ [] else codes "\\x" ++ hex (b / 16) ∷ hex (b % 16) ∷ [])))))

-- a quoted text
abbrev pub quotation : List ℕ → List ℕ
quotation bytes = 34 ∷ (flat_map quoted_byte bytes ++ 34 ∷ [])

-- a quoted text, or a dash where there is none
abbrev pub quotation_or_dash : List ℕ → List ℕ
quotation_or_dash [] = codes "-"
quotation_or_dash (b ∷ bytes) = quotation (b ∷ bytes)

-- the word of a mark, or a dash where there is none
abbrev pub mark_text : Mark → List ℕ
mark_text Plain = codes "-"
mark_text NoCache = codes "no-cache"
mark_text NoStore = codes "no-store"
mark_text MustRevalidate = codes "must-revalidate"

-- an answer: its status, kind, location, mark and body
abbrev pub answer_text : Answer → List ℕ
answer_text a = decimal a.status ++ codes " " ++ quotation_or_dash a.kind ++ codes " " ++ quotation_or_dash a.location ++ codes " "
    ++ mark_text a.mark ++ codes " " ++ quotation a.body

-- the quoted path of a page, or a dash where there is none
abbrev pub key_text : Option PageKey → List ℕ
key_text None = codes "-"
key_text (Some key) = quotation (page_text key)

-- the word of an action (Adobe Dispatcher manual, "Invalidating Cached Pages From AEM": `CQ-Action`)
abbrev pub action_text : Action → List ℕ
action_text Activate = codes "Activate"
action_text Deactivate = codes "Deactivate"
action_text Delete = codes "Delete"

-- the word of an invalidation's scope: all, or the resource alone
abbrev pub scope_word : Bool → List ℕ
scope_word true = codes "only"
scope_word false = codes "all"

-- an invalidation: its action, the quoted text of its handle as that stands in URLs, and its scope
abbrev pub invalidation_text : Invalidation → List ℕ
invalidation_text inv = action_text inv.action ++ codes " " ++ quotation (text_of (mangled_segs inv.handle)) ++ codes " " ++ scope_word inv.only

-- the line of bytes that are handed to a connection
abbrev pub sent_line : ConnectionId → List ℕ → List ℕ
sent_line connection bytes = codes "sent " ++ decimal connection ++ codes " " ++ quotation bytes

-- The line of a note, without its newline: flights, flushes and connections stand there by their numbers. A slice that left more to do
-- has no line.
abbrev pub note_line : Note → List ℕ
note_line (answered a) = codes "answer " ++ answer_text a
note_line (Ask n c key) = codes "ask " ++ decimal n ++ codes " " ++ decimal c ++ codes " " ++ key_text key
note_line (Hit c key) = codes "hit " ++ decimal c ++ codes " " ++ key_text (Some key)
note_line (Local c status) = codes "local " ++ decimal c ++ codes " " ++ decimal status
note_line (Flush v c inv) = codes "flush " ++ decimal v ++ codes " " ++ invalidation_text inv
note_line (Sliced v) = []
note_line (Done v) = codes "done " ++ decimal v
note_line (Failed v why) = codes "failed " ++ decimal v
note_line (Rendered n a) = codes "rendered " ++ decimal n ++ codes " " ++ answer_text a
note_line (Kept n key) = codes "kept " ++ decimal n ++ codes " " ++ key_text (Some key)
note_line (Unkept n) = codes "unkept " ++ decimal n
note_line (Passed n) = codes "passed " ++ decimal n
note_line (Lost n) = codes "lost " ++ decimal n
note_line (Sent c bytes) = sent_line c bytes
note_line (Shut c) = codes "shut " ++ decimal c
note_line (Refused c) = codes "refused " ++ decimal c
note_line Idle = codes "none"
note_line (Up epoch) = codes "up " ++ decimal epoch
note_line Down = codes "down"
note_line Hurt = codes "hurt"
note_line OutOfMemory = codes "dry"

-- the line of a note, where it has one
abbrev pub note_text : Note → List ℕ
note_text (Sliced v) = []
note_text note = note_line note ++ 10 ∷ []

-- the lines of an event
abbrev pub event_text : ℕ → List Note → List ℕ
event_text n notes = codes "@ " ++ decimal n ++ 10 ∷ flat_map note_text notes

-- the lines of events from number n on
abbrev pub transcript_from : ℕ → List (List Note) → List ℕ
transcript_from n [] = []
transcript_from n (notes ∷ events) = event_text n notes ++ transcript_from (n + 1) events

-- the transcript of events, counted from 1
abbrev pub transcript : List (List Note) → List ℕ
transcript events = transcript_from 1 events

-- statuses have 16 bits
abbrev pub IsStatus : ℕ → Type 0
IsStatus status = status < 65536

-- numbers of flights and of flushes have 64 bits, and so have epochs
abbrev pub IsFlightNumber : ℕ → Type 0
IsFlightNumber n = n < 18446744073709551616

-- how many numbers a connection may have: 2^32
abbrev pub connection_numbers : ℕ
connection_numbers = 4294967296

-- numbers of connections have 32 bits
abbrev pub IsConnectionNumber : ConnectionId → Type 0
IsConnectionNumber c = c < connection_numbers

-- The numbers of the note fit, its key is one of a page, and its handle one of a request. Without the second two keys may have one text: a file `b/c.html` in
-- `/a`, and a file `c.html` in `/a/b`.
abbrev pub IsWritable : Note → Type 0
IsWritable (answered a) = IsStatus a.status
IsWritable (Ask n c key) = IsFlightNumber n × IsConnectionNumber c × IsPage key
IsWritable (Hit c key) = IsConnectionNumber c × IsPage (Some key)
IsWritable (Local c status) = IsConnectionNumber c × IsStatus status
IsWritable (Flush v c inv) = IsFlightNumber v × IsHandle inv.handle
IsWritable (Done v) = IsFlightNumber v
IsWritable (Failed v why) = IsFlightNumber v
IsWritable (Rendered n a) = IsFlightNumber n × IsStatus a.status
IsWritable (Kept n key) = IsFlightNumber n × IsPage (Some key)
IsWritable (Unkept n) = IsFlightNumber n
IsWritable (Passed n) = IsFlightNumber n
IsWritable (Lost n) = IsFlightNumber n
IsWritable (Sent c bytes) = IsConnectionNumber c
IsWritable (Shut c) = IsConnectionNumber c
IsWritable (Refused c) = IsConnectionNumber c
IsWritable (Up epoch) = IsFlightNumber epoch
IsWritable _ = Unit {0}

-- the same of each note
abbrev pub AreWritable : List Note → Type 0
AreWritable [] = Unit {0}
AreWritable (note ∷ notes) = IsWritable note × AreWritable notes

-- the same of each note of the events
abbrev pub EventsAreWritable : List (List Note) → Type 0
EventsAreWritable [] = Unit {0}
EventsAreWritable (notes ∷ events) = AreWritable notes × EventsAreWritable events

-- What the lines of an event tell: its notes, but for slices that left more to do, for the connection that asked for a flush, and for
-- why a flush failed. (For these two one stands that any might be.)
abbrev pub told_notes : List Note → List Note
told_notes [] = []
told_notes (Sliced v ∷ notes) = told_notes notes
told_notes (Flush v c inv ∷ notes) = Flush v 0 inv ∷ told_notes notes
told_notes (Failed v why ∷ notes) = Failed v Disk ∷ told_notes notes
told_notes (note ∷ notes) = note ∷ told_notes notes
