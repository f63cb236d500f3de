-- Scaffolding: how the bytes of a quoted text are told from their spellings, for the private functions of the readers and for proofs
-- alone. A reader of the theorem needs none of it.
use Rattle.std.specs.Fmt.{decimal}
use Rattle.std.specs.Prelude.{◌≡◌, ◌≢◌, ◌≤◌, ◌<◌, ◌&&◌, ◌+◌, ◌-◌, ◌*◌, ◌++◌, ◌==◌, ℕ, Bool, true, not, if◌then◌else◌, nat_lt, List, [], ◌∷◌, get_or, codes, IsTrue}
use Rattle.sp_base.specs.Bytes.{AreBytes, is_printable_ascii}
use Rattle.sp_outside.specs.declared.mem_disk.Way.{Way}
use Rattle.cover_rules.specs.declared.invalidation.Action.{Action}
use Rattle.connections.specs.Ids.{ConnectionId}
use Rattle.replay_text.specs.Transcript.{quoted_byte, quotation, IsConnectionNumber}
use Rattle.replay_text.specs.EventLines.{is_visible_text, IsFlightText, IsCallNumber, flight_text, flushed_text, way_text}
use Rattle.replay_text.specs.declared.event_line.NamedFlight.{NamedFlight}

-- the number that a hexadecimal digit stands for
abbrev pub unhex : ℕ → ℕ
unhex d = if nat_lt d 58 then d - 48 else d - 87

-- the byte that a letter after a backslash stands for, where two digits may follow
unfoldable pub escaped_byte : ℕ → ℕ → ℕ → ℕ
escaped_byte letter high low = if letter == 34 then 34 else (if letter == 92 then 92 else (if letter == 114 then 13 else (if letter == 110 then 10 else
    (if letter == 116 then 9 else 16 * unhex high + unhex low))))

-- the byte whose spelling begins the text, where one does
unfoldable pub spelled_byte : List ℕ → ℕ
spelled_byte text = if get_or text 0 0 == 92 then escaped_byte (get_or text 1 0) (get_or text 2 0) (get_or text 3 0) else get_or text 0 0

-- the byte stands for itself within quotes
abbrev pub is_literal : ℕ → Bool
is_literal b = is_printable_ascii b && (not (b == 34) && not (b == 92))

-- so does each byte from a place up to another
abbrev pub AreLiteral : List ℕ → ℕ → ℕ → Type 0
AreLiteral bytes from to = (k : ℕ) → from ≤ k → k < to → is_literal (get_or bytes k 0) ≡ true

-- no byte's spelling begins the text
abbrev pub BeginsNoByte : List ℕ → Type 0
BeginsNoByte text = (b : ℕ) (rest : List ℕ) → b < 256 → text ≢ quoted_byte b ++ rest

-- the text is no quotation of bytes
abbrev pub IsNoQuotation : List ℕ → Type 0
IsNoQuotation text = (bytes : List ℕ) → AreBytes bytes → text ≢ quotation bytes

-- not a blank
abbrev pub not_blank : ℕ → Bool
not_blank b = not (b == 32)

-- the text begins with a word, a number and a blank, and goes on with rest
abbrev pub connection_text : List ℕ → ℕ → List ℕ → List ℕ
connection_text word c rest = word ++ (decimal c ++ 32 ∷ rest)

-- the word is no connection's number
abbrev pub IsNoConnection : List ℕ → Type 0
IsNoConnection word = (c : ConnectionId) → IsConnectionNumber c → word ≢ decimal c

-- no connection's number stands after a word that the line begins with, before a blank
abbrev pub IsOfNoConnectionAfter : List ℕ → List ℕ → Type 0
IsOfNoConnectionAfter word line = (c : ConnectionId) (rest : List ℕ) → IsConnectionNumber c → line ≢ connection_text word c rest

-- the line has none of these forms
abbrev pub IsNoDirect : List ℕ → Type 0
IsNoDirect line = (target : List ℕ) → IsTrue (is_visible_text target) → line ≢ codes "direct " ++ target

-- a word, a connection, and visible bytes
abbrev pub IsNoTargetOf : List ℕ → List ℕ → Type 0
IsNoTargetOf word line = (c : ConnectionId) (target : List ℕ) → IsConnectionNumber c → IsTrue (is_visible_text target) → line ≢ connection_text word c target

-- `close` and a connection
abbrev pub IsNoClose : List ℕ → Type 0
IsNoClose line = (c : ConnectionId) → IsConnectionNumber c → line ≢ codes "close " ++ decimal c

-- `bytes`, a connection, and some bytes in quotes
abbrev pub IsNoBytes : List ℕ → Type 0
IsNoBytes line = (c : ConnectionId) (bytes : List ℕ) → IsConnectionNumber c → AreBytes bytes → bytes ≢ [] → line ≢ connection_text (codes "bytes ") c (quotation bytes)

-- `post`, a connection, a target, and bytes in quotes
abbrev pub IsNoPost : List ℕ → Type 0
IsNoPost line = (c : ConnectionId) (target body : List ℕ) → IsConnectionNumber c → IsTrue (is_visible_text target) → AreBytes body
    → line ≢ connection_text (codes "post ") c (target ++ 32 ∷ quotation body)

-- an action, a handle and a scope
abbrev pub IsNoFlushed : List ℕ → Type 0
IsNoFlushed text = (action : Action) (handle : List ℕ) (only : Bool) → IsTrue (is_visible_text handle) → text ≢ flushed_text action handle only

-- `flush`, a connection, and these
abbrev pub IsNoFlush : List ℕ → Type 0
IsNoFlush line = (c : ConnectionId) (action : Action) (handle : List ℕ) (only : Bool) → IsConnectionNumber c → IsTrue (is_visible_text handle)
    → line ≢ connection_text (codes "flush ") c (flushed_text action handle only)

-- a word, the number of a call, and what it leaves
abbrev pub IsNoFailureOf : List ℕ → List ℕ → Type 0
IsNoFailureOf word line = (n : ℕ) (way : Way) → IsCallNumber n → line ≢ connection_text word n (way_text way)

-- a word and a flight
abbrev pub IsNoFlightOf : List ℕ → List ℕ → Type 0
IsNoFlightOf word line = (flight : NamedFlight) → IsFlightText flight → line ≢ word ++ flight_text flight

-- the line is of no connection
pub record IsOfNoConnection (line : List ℕ) : Type 0 where
  pub opens : IsNoTargetOf (codes "open ") line
  pub closes : IsNoClose line
  pub bytes : IsNoBytes line
  pub gets : IsNoTargetOf (codes "get ") line
  pub flushes : IsNoFlush line
  pub posts : IsNoPost line

-- the line is of no flight
pub record IsOfNoFlight (line : List ℕ) : Type 0 where
  pub renders : IsNoFlightOf (codes "render ") line
  pub delivers : IsNoFlightOf (codes "deliver ") line
  pub loses : IsNoFlightOf (codes "lose ") line

-- the line is none about the cache or its disk
pub record IsOfNoCache (line : List ℕ) : Type 0 where
  pub purges : line ≢ codes "purge"
  pub restarts : line ≢ codes "restart"
  pub fails : IsNoFailureOf (codes "fail ") line
  pub stops : IsNoFailureOf (codes "stop ") line
