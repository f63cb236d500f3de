-- What the ending of a call of `run` means, and that of the whole program over its command line.
use Rattle.std.specs.Prelude.{◌≡◌, ℕ, List, Option}
use Rattle.sp_base.specs.Texts.{Text}
use Rattle.sp_outside.specs.Files.{Files}
use Rattle.sp_outside.specs.Calls.{Call}
use Rattle.outside_world.specs.declared.world.WorldEntry.{WorldEntry}
use Rattle.sling_dispatch.specs.declared.ending.Ending.{Ending}
use Rattle.sling_dispatch.specs.declared.outside.Outside.{Outside}
use Rattle.sling_dispatch.specs.Endings.{Means, IsDue, IsReplay, AreWordsOf, ending_status}
use Rattle.sling_dispatch.specs.Forms.{IsServe}
use Rattle.sling_dispatch.specs.Reports.{IsServingUntouched, IsUntouched, report_over, call_over}

-- the ending says of the sink what it means, where what may be written is due by what the call made of the other objects
abbrev pub MeansWhatIsDue : {S K I D W : Type 0} → List Text → (S → Option (List ℕ)) → (S → ℕ) → (K → Option (List ℕ)) → (K → ℕ) → (I → Option Files) → (I → ℕ) → (D → Option Files) → (D → ℕ) → (W → Option (List WorldEntry)) → (W → ℕ) → (W → ℕ) → Outside S K I D W → Outside S K I D W → Ending → Type 0
MeansWhatIsDue words left source_faults held sink_faults contents input_faults files disk_faults log next_faults send_faults old new ending =
    Means (IsDue (call_over words left source_faults contents input_faults files disk_faults log next_faults send_faults old new)) ending
    (report_over held sink_faults old.sink new.sink)

-- the status is that of an ending which does
abbrev pub EndsAsIsDue : {S K I D W : Type 0} → List Text → (S → Option (List ℕ)) → (S → ℕ) → (K → Option (List ℕ)) → (K → ℕ) → (I → Option Files) → (I → ℕ) → (D → Option Files) → (D → ℕ) → (W → Option (List WorldEntry)) → (W → ℕ) → (W → ℕ) → Outside S K I D W → Outside S K I D W → ℕ → Type 0
EndsAsIsDue words left source_faults held sink_faults contents input_faults files disk_faults log next_faults send_faults old new status =
    (e : Ending) × (status ≡ ending_status e)
    × MeansWhatIsDue words left source_faults held sink_faults contents input_faults files disk_faults log next_faults send_faults old new e

-- With the words of the command line the status is that of an ending which does. Unless they are those of `serve` what only that asks
-- anything of is as before, the disk's calls too, and unless they are `replay` the source is.
abbrev pub CommandEndsAsIsDue : {S K I D W : Type 0} → Option (List Text) → (S → Option (List ℕ)) → (S → ℕ) → (K → Option (List ℕ)) → (K → ℕ) → (I → Option Files) → (I → ℕ) → (D → Option Files) → (D → ℕ) → (D → Option (List Call)) → (W → Option (List WorldEntry)) → (W → ℕ) → (W → ℕ) → Outside S K I D W → Outside S K I D W → ℕ → Type 0
CommandEndsAsIsDue told left source_faults held sink_faults contents input_faults files disk_faults calls log next_faults send_faults old new status =
    (words : List Text) × AreWordsOf told words × (e : Ending) × (status ≡ ending_status e)
    × MeansWhatIsDue words left source_faults held sink_faults contents input_faults files disk_faults log next_faults send_faults old new e
    × ((IsServe words → ⊥) → IsServingUntouched (call_over words left source_faults contents input_faults files disk_faults log next_faults send_faults old new)
    × (calls new.disk ≡ calls old.disk))
    × ((IsReplay words → ⊥) → IsUntouched (report_over left source_faults old.source new.source))
