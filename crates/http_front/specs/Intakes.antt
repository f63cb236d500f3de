-- What an intake has still to tell of the bytes that it has been given, and which stream it stands for.
-- `IntakeLeads`, `LeadsByTurn`, `IsBody`, `Advances` and `IsAtHead` are needed by private functions and proofs alone.
use Rattle.std.specs.Prelude.{◌≡◌, ◌<◌, ◌+◌, ◌*◌, ◌++◌, ◌≤◌, ℕ, List, [], ◌∷◌, Option, Some, None, length, drop}
use Rattle.http_front.specs.declared.fault.InFault.{InFault}
use Rattle.http_front.specs.declared.head.AskedHead.{AskedHead}
use Rattle.http_front.specs.declared.intake.Intake.{Intake}
use Rattle.http_front.specs.declared.intake.Phase.{Phase}
use Rattle.http_front.specs.declared.intake.Phase.TheVariants.{Heading, Body, Failed}
use Rattle.http_front.specs.declared.intake.Advance.{Advance}
use Rattle.http_front.specs.declared.intake.Advance.TheVariants.{Asked, Ready, Waiting}
use Rattle.http_front.specs.declared.turn.Turn.{Turn}
use Rattle.http_front.specs.declared.turn.Turn.TheVariants.{Continue, Whole}
use Rattle.http_front.specs.Turns.{End, Waits, Breaks, BeginsAsking, HasBody, SpellsTurns}

-- the turns that come after a head
abbrev pub TurnsFollow : AskedHead → List ℕ → List Turn → End → Type 0
TurnsFollow asked bytes [] end = (length bytes < asked.body_length) × (end ≡ Waits)
TurnsFollow asked bytes (Continue ∷ turns) end = ⊥
TurnsFollow asked bytes (Whole request ∷ turns) end = (rest : List ℕ) × HasBody asked bytes request rest × SpellsTurns rest turns end

-- what these bytes spell: from a head on, after one, or after a fault
abbrev pub Continues : Phase → List ℕ → List Turn → End → Type 0
Continues Heading bytes turns end = SpellsTurns bytes turns end
Continues (Body asked) bytes turns end = TurnsFollow asked bytes turns end
Continues (Failed fault) bytes turns end = (turns ≡ []) × (end ≡ Breaks fault)

-- the bytes that no turn has taken
abbrev pub rest_of : Intake → List ℕ
rest_of i = drop i.start i.buffer.items

-- what an intake has still to tell, if these bytes come
abbrev pub RemainderSpells : Intake → List ℕ → List Turn → End → Type 0
RemainderSpells i more turns end = Continues i.phase (rest_of i ++ more) turns end

-- The intake has been given the bytes of the stream, and has told these turns of it: whatever comes, what is left completes them to
-- the turns of the whole stream.
abbrev pub StandsFor : Intake → List ℕ → List Turn → Type 0
StandsFor i stream told = (more : List ℕ) (turns : List Turn) (end : End) → RemainderSpells i more turns end → SpellsTurns (stream ++ more) (told ++ turns) end

-- the fault of a phase, if it is that of a fault
abbrev pub fault_in : Phase → Option InFault
fault_in Heading = None
fault_in (Body asked) = None
fault_in (Failed fault) = Some fault

-- the fault that an intake has told
abbrev pub told_fault : Intake → Option InFault
told_fault i = fault_in i.phase

-- ---- what one call leads to

-- the intake stands for what it stood for
abbrev pub KeepsIfStoodFor : Intake → Intake → Type 0
KeepsIfStoodFor old new = (stream : List ℕ) (told : List Turn) → StandsFor old stream told → StandsFor new stream told

-- one turn more has been told of what it stood for
abbrev pub TellsIfStoodFor : Intake → Intake → Turn → Type 0
TellsIfStoodFor old new turn = (stream : List ℕ) (told : List Turn) → StandsFor old stream told → StandsFor new stream (told ++ turn ∷ [])

-- these bytes more have come of what it stood for
abbrev pub GrowsIfStoodFor : Intake → Intake → List ℕ → Type 0
GrowsIfStoodFor old new piece = (stream : List ℕ) (told : List Turn) → StandsFor old stream told → StandsFor new (stream ++ piece) told

-- the turns of what it stood for are all told, and end so
abbrev pub EndsIfStoodFor : Intake → End → Type 0
EndsIfStoodFor i end = (stream : List ℕ) (told : List Turn) → StandsFor i stream told → SpellsTurns stream told end

-- a number that falls with each turn
abbrev pub phase_weight : Phase → ℕ
phase_weight Heading = 0
phase_weight (Body asked) = 1
phase_weight (Failed fault) = 0

-- the same of an intake: it falls with each byte that a turn takes, too
abbrev pub weight : Intake → ℕ
weight i = 2 * length (rest_of i) + phase_weight i.phase

-- ---- the steps within one call

-- what is left of the new one is what is left of the old one
abbrev pub IntakeLeads : Intake → Intake → Type 0
IntakeLeads old new = (more : List ℕ) (turns : List Turn) (end : End) → RemainderSpells new more turns end → RemainderSpells old more turns end

-- what was left of the old one is this turn, and then what is left of the new one
abbrev pub LeadsByTurn : Intake → Intake → Turn → Type 0
LeadsByTurn old new turn = (more : List ℕ) (turns : List Turn) (end : End) → RemainderSpells new more turns end → RemainderSpells old more (turn ∷ turns) end

-- nothing is left
abbrev pub HasNothingLeft : Intake → End → Type 0
HasNothingLeft i end = RemainderSpells i [] [] end

-- the phase is that in which a body is read
abbrev pub IsBody : Phase → Type 0
IsBody Heading = ⊥
IsBody (Body asked) = Unit {0}
IsBody (Failed fault) = ⊥

-- the next head has been read, or there is none yet
abbrev pub Advances : Intake → Intake → Advance → Type 0
Advances old new Asked = LeadsByTurn old new Continue × (weight new < weight old)
Advances old new Ready = IntakeLeads old new × IsBody new.phase × (weight new ≤ weight old)
Advances old new Waiting = IntakeLeads old new × HasNothingLeft old Waits

-- what the bytes that no turn has taken begin with, and the phase: a head of `len` bytes that asks for this
pub record IsAtHead (i : Intake) (head : AskedHead) (len : ℕ) : Type 0 where
  pub heading : i.phase ≡ Heading
  pub some : 0 < len
  pub fits : len ≤ length (rest_of i)
  pub begins : BeginsAsking (rest_of i) head (drop len (rest_of i))
