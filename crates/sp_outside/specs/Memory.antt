-- The state of sources and sinks in memory, and what each call does to it.
use Rattle.std.specs.Prelude.{◌++◌, ◌==◌, ℕ, Bool, true, false, List, Result, Ok, Err, take, drop}
use Rattle.std.specs.List.{list_any}
use Rattle.sp_outside.specs.Causes.{next}
use Rattle.sp_outside.specs.declared.source.SourceFault.{SourceFault}
use Rattle.sp_outside.specs.declared.sink.SinkFault.{SinkFault}
use Rattle.sp_outside.specs.declared.sink.SinkFault.TheVariants.{Failed, NoMemory}

-- A source in memory: the bytes that are left, how many it gives at once, the numbers of the calls that fail, and how
-- many calls were made and have failed.
pub record SourceState : Type 0 where
  pub left : List ℕ
  pub most : ℕ
  pub fails : List ℕ
  pub calls : ℕ
  pub failed : ℕ

-- a sink in memory, alike, with the bytes that it holds
pub record SinkState : Type 0 where
  pub held : List ℕ
  pub most : ℕ
  pub fails : List ℕ
  pub calls : ℕ
  pub failed : ℕ

-- after `calls` calls, the next one is among those that fail
abbrev pub fails_next : List ℕ → ℕ → Bool
fails_next fails calls = list_any (λ n. n == next calls) fails

-- a write failed, and not because memory ran out
abbrev pub has_failed : {T : Type 0} → Result T SinkFault → Bool
has_failed (Ok _) = false
has_failed (Err Failed) = true
has_failed (Err NoMemory) = false

-- a read changes the bytes that are left by those that it gave, and the counts
abbrev pub source_after : SourceState → Result ℕ SourceFault → SourceState
source_after s (Ok n) = record s { left = drop n s.left; calls = next s.calls }
source_after s (Err _) = record s { calls = next s.calls; failed = next s.failed }

-- a write changes the bytes held by those that it took, and the counts
abbrev pub sink_after : SinkState → List ℕ → Result ℕ SinkFault → SinkState
sink_after s bytes (Ok n) = record s { held = s.held ++ take n bytes; calls = next s.calls }
sink_after s bytes (Err Failed) = record s { calls = next s.calls; failed = next s.failed }
sink_after s bytes (Err NoMemory) = record s { calls = next s.calls }
