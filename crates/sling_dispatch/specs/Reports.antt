-- What a call of `run` made of the objects of the outside.
use Rattle.std.specs.Prelude.{◌≡◌, ℕ, List, Option, map}
use Rattle.std.specs.Borrow.{Bor}
use Rattle.sp_base.specs.Texts.{Text}
use Rattle.sp_outside.specs.Files.{Files}
use Rattle.sp_outside.specs.Causes.{Rose}
use Rattle.serve_loop.specs.Served.{DiskReport, WorldReport, disk_over, world_over}
use Rattle.outside_world.specs.declared.world.WorldEntry.{WorldEntry}
use Rattle.sling_dispatch.specs.declared.outside.Outside.{Outside}
use Rattle.sling_dispatch.specs.Forms.{IsServe}

-- the texts of words that are lent
abbrev pub texts_in : List (Bor Text) → List Text
texts_in words = map (λ word. word.now) words

-- an object of the outside over one call: what it told before and after, and its count of faults before and after
pub record StreamReport (T : Type 0) : Type 0 where
  pub old : Option T
  pub new : Option T
  pub faults_old : ℕ
  pub faults_new : ℕ

-- what an object told before and after a call, with its counts of faults
abbrev pub report_of : {T : Type 0} → Option T → Option T → ℕ → ℕ → StreamReport T
report_of old new faults_old faults_new = record { old = old; new = new; faults_old = faults_old; faults_new = faults_new }

-- the same of an object of which this says what it tells and how often it failed
abbrev pub report_over : {T O : Type 0} → (O → Option T) → (O → ℕ) → O → O → StreamReport T
report_over told faults old new = report_of (told old) (told new) (faults old) (faults new)

-- no call of it failed
abbrev pub HasNotFailed : {T : Type 0} → StreamReport T → Type 0
HasNotFailed o = o.faults_new ≡ o.faults_old

-- a call of it failed
abbrev pub HasFailed : {T : Type 0} → StreamReport T → Type 0
HasFailed o = Rose o.faults_old o.faults_new

-- nothing was asked of it
abbrev pub IsUntouched : {T : Type 0} → StreamReport T → Type 0
IsUntouched o = (o.new ≡ o.old) × HasNotFailed o

-- what is told of one call of `run`, beside the sink
pub record RunCall : Type 0 where
  pub words : List Text
  pub source : StreamReport (List ℕ)
  pub inputs : StreamReport Files
  pub disk : DiskReport
  pub world : WorldReport

-- one call of `run`
abbrev pub call_of : List Text → StreamReport (List ℕ) → StreamReport Files → DiskReport → WorldReport → RunCall
call_of words source inputs disk world = record { words = words; source = source; inputs = inputs; disk = disk; world = world }

-- one call of `run` over the outside, of whose objects this says what they tell and how often they failed
abbrev pub call_over : {S K I D W : Type 0} → List Text → (S → Option (List ℕ)) → (S → ℕ) → (I → Option Files) → (I → ℕ) → (D → Option Files) → (D → ℕ) → (W → Option (List WorldEntry)) → (W → ℕ) → (W → ℕ) → Outside S K I D W → Outside S K I D W → RunCall
call_over words left source_faults contents input_faults files disk_faults log next_faults send_faults old new =
    call_of words (report_over left source_faults old.source new.source) (report_over contents input_faults old.inputs new.inputs)
    (disk_over files disk_faults old.disk new.disk) (world_over log next_faults send_faults old.world new.world)

-- the disk's files and its count of faults are as before
pub record IsDiskUntouched (disk : DiskReport) : Type 0 where
  pub files : disk.new ≡ disk.old
  pub count : disk.faults_new ≡ disk.faults_old

-- the world's log and its counts of faults are as before
pub record IsWorldUntouched (world : WorldReport) : Type 0 where
  pub log : world.new ≡ world.old
  pub next_count : world.next_new ≡ world.next_old
  pub send_count : world.send_new ≡ world.send_old

-- what only `serve` asks anything of is as before
pub record IsServingUntouched (c : RunCall) : Type 0 where
  pub inputs : IsUntouched c.inputs
  pub disk : IsDiskUntouched c.disk
  pub world : IsWorldUntouched c.world

-- unless the words are those of `serve`, what only that asks anything of is as before
abbrev pub IsApartUnlessServe : {S K I D W : Type 0} → List (Bor (List ℕ)) → (S → Option (List ℕ)) → (S → ℕ) → (I → Option Files) → (I → ℕ) → (D → Option Files) → (D → ℕ) → (W → Option (List WorldEntry)) → (W → ℕ) → (W → ℕ) → Outside S K I D W → Outside S K I D W → Type 0
IsApartUnlessServe words left source_faults contents input_faults files disk_faults log next_faults send_faults old new =
    (IsServe (texts_in words) → ⊥) → IsServingUntouched (call_over (texts_in words) left source_faults contents input_faults files disk_faults log next_faults send_faults old new)
