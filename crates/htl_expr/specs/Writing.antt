-- What a write within a limit does. Only proofs and private functions need this.
use Rattle.std.specs.Prelude.{◌≡◌, ◌≢◌, ◌≤◌, ◌<◌, ℕ, List, ◌++◌, Result, Ok, Err, length}
use Rattle.htl_expr.specs.Print.{in_context}
use Rattle.htl_expr.specs.declared.escape.Writing.{Writing}
use Rattle.htl_expr.specs.declared.room.WriteFault.{WriteFault}
use Rattle.htl_expr.specs.declared.room.WriteFault.TheVariants.{TooLong, NoMemory}

-- a text that begins with another
pub record Begins (leading text : List ℕ) : Type 0 where
  pub rest : List ℕ
  pub parts : text ≡ leading ++ rest

-- a text is not written, and would go beyond the limit unless memory lacks; what stood there stays at the beginning
abbrev pub IsStopped : ℕ → WriteFault → List ℕ → List ℕ → List ℕ → Type 0
IsStopped most f old more new = Begins old new × (f ≢ NoMemory → (f ≡ TooLong) × (most < length (old ++ more)))

-- a text is written after what stood there, within the limit, or is not
abbrev pub Wrote : {A : Type 0} → ℕ → Result A WriteFault → List ℕ → List ℕ → List ℕ → Type 0
Wrote most (Ok _) old more new = (new ≡ old ++ more) × (length new ≤ most)
Wrote most (Err f) old more new = IsStopped most f old more new

-- a text is written in its context after what stood there, within its limit, or is not
abbrev pub WroteAs : {A : Type 0} → Writing → Result A WriteFault → List ℕ → List ℕ → List ℕ → Type 0
WroteAs writing result old plain new = Wrote writing.most result old (in_context writing.context plain) new

-- the text of a text
abbrev pub itself : List ℕ → List ℕ
itself text = text

-- a text is written after what stood there, within the limit
abbrev pub IsWrittenWithin : ℕ → List ℕ → List ℕ → List ℕ → Type 0
IsWrittenWithin most old more new = (new ≡ old ++ more) × (length new ≤ most)

-- it would go beyond the limit, unless memory lacks
abbrev pub WriteFailsAsTooLongIfMemory : ℕ → List ℕ → WriteFault → Type 0
WriteFailsAsTooLongIfMemory most text f = f ≢ NoMemory → (f ≡ TooLong) × (most < length text)
