-- The lines of events: what each asks for, and how it is spelled.
use Rattle.std.specs.Prelude.{◌≢◌, ◌≤◌, ◌<◌, ◌++◌, ◌&&◌, ◌==◌, ℕ, Bool, true, false, not, List, [], ◌∷◌, codes, IsTrue, length}
use Rattle.std.specs.List.{list_all}
use Rattle.std.specs.Fmt.{decimal}
use Rattle.sp_base.specs.Bytes.{AreBytes, is_visible_ascii}
use Rattle.sp_outside.specs.declared.mem_disk.Way.{Way}
use Rattle.sp_outside.specs.declared.mem_disk.Way.TheVariants.{Old, New}
use Rattle.cover_rules.specs.declared.invalidation.Action.{Action}
use Rattle.replay_text.specs.Transcript.{quotation, action_text, IsConnectionNumber, IsFlightNumber}
use Rattle.replay_text.specs.declared.event_line.EventLine.{EventLine}
use Rattle.replay_text.specs.declared.event_line.EventLine.TheVariants.{Direct, Open, Close, Bytes, Get, Post, Flush, Render, Deliver, Lose, Purge, Restart, Fail, Stop}
use Rattle.replay_text.specs.declared.event_line.NamedFlight.{NamedFlight}
use Rattle.replay_text.specs.declared.event_line.NamedFlight.TheVariants.{First, Numbered}

-- a target, a peer or a handle: one or more visible bytes
abbrev pub is_visible_text : List ℕ → Bool
is_visible_text text = not (length text == 0) && list_all is_visible_ascii text

-- a flight: the first there is, or that of a number
abbrev pub flight_text : NamedFlight → List ℕ
flight_text First = codes "first"
flight_text (Numbered n) = decimal n

-- the scope of a flush: the resource alone, or nothing more is said
abbrev pub scope_text : Bool → List ℕ
scope_text true = codes " only"
scope_text false = []

-- what a flush asks for: what was done to the content, its handle and the scope
abbrev pub flushed_text : Action → List ℕ → Bool → List ℕ
flushed_text action handle only = action_text action ++ 32 ∷ (handle ++ scope_text only)

-- what a call of the disk that fails leaves of its change: the old files, or the new ones
abbrev pub way_text : Way → List ℕ
way_text Old = codes "old"
way_text New = codes "new"

-- the line of an event
abbrev pub line_of : EventLine → List ℕ
line_of (Direct target) = codes "direct " ++ target
line_of (Open c peer) = codes "open " ++ decimal c ++ 32 ∷ peer
line_of (Close c) = codes "close " ++ decimal c
line_of (Bytes c bytes) = codes "bytes " ++ decimal c ++ 32 ∷ quotation bytes
line_of (Get c target) = codes "get " ++ decimal c ++ 32 ∷ target
line_of (Post c target body) = codes "post " ++ decimal c ++ 32 ∷ (target ++ 32 ∷ quotation body)
line_of (Flush c action handle only) = codes "flush " ++ decimal c ++ 32 ∷ flushed_text action handle only
line_of (Render flight) = codes "render " ++ flight_text flight
line_of (Deliver flight) = codes "deliver " ++ flight_text flight
line_of (Lose flight) = codes "lose " ++ flight_text flight
line_of Purge = codes "purge"
line_of Restart = codes "restart"
line_of (Fail n way) = codes "fail " ++ decimal n ++ 32 ∷ way_text way
line_of (Stop n way) = codes "stop " ++ decimal n ++ 32 ∷ way_text way

-- calls of a disk are counted from 1, in 64 bits
abbrev pub IsCallNumber : ℕ → Type 0
IsCallNumber n = (1 ≤ n) × (n < 18446744073709551616)

-- flights are numbered from 1, in 64 bits
abbrev pub IsFlightText : NamedFlight → Type 0
IsFlightText First = Unit {0}
IsFlightText (Numbered n) = (1 ≤ n) × IsFlightNumber n

-- what it asks for can be asked for: peers, targets and handles are visible bytes, and a piece has some bytes
abbrev pub IsEventLine : EventLine → Type 0
IsEventLine (Direct target) = IsTrue (is_visible_text target)
IsEventLine (Open c peer) = IsConnectionNumber c × IsTrue (is_visible_text peer)
IsEventLine (Close c) = IsConnectionNumber c
IsEventLine (Bytes c bytes) = IsConnectionNumber c × AreBytes bytes × (bytes ≢ [])
IsEventLine (Get c target) = IsConnectionNumber c × IsTrue (is_visible_text target)
IsEventLine (Post c target body) = IsConnectionNumber c × IsTrue (is_visible_text target) × AreBytes body
IsEventLine (Flush c action handle only) = IsConnectionNumber c × IsTrue (is_visible_text handle)
IsEventLine (Render flight) = IsFlightText flight
IsEventLine (Deliver flight) = IsFlightText flight
IsEventLine (Lose flight) = IsFlightText flight
IsEventLine Purge = Unit {0}
IsEventLine Restart = Unit {0}
IsEventLine (Fail n way) = IsCallNumber n
IsEventLine (Stop n way) = IsCallNumber n
