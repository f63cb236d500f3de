-- An event of a front over the disk of a scenario, whatever the disk has counted.
use Rattle.std.proofs.Common.{◌≡◌, ℕ, Bool, true, false, List, Option, if◌then◌else◌, refl, ◌∙◌, ap, subst, sym, arith, Some}
use Rattle.run_laws.specs.Logs.{is_restart}
use Rattle.sp_outside.specs.Files.{Files}
use Rattle.resource_tree.specs.Content.{Content}
use Rattle.run_events.specs.Events.{Extends, after_event}
use Rattle.run_events.specs.Publishers.{Publishing}
use Rattle.run_events.specs.States.{RunState}
use Rattle.run_events.specs.declared.note.Note.{Note}
use Rattle.run_events.specs.declared.step.Step.{Step}
use Rattle.front.specs.Boards.{at_disk}
use Rattle.front.specs.Fronts.{FrontStandsFor}
use Rattle.front.specs.declared.board.Board.{Board}
use Rattle.sling_dispatch.specs.Runs.{Arming, OneFailure, Unarmed, UntilRestart, arming_in, sling_publisher}
use Rattle.sling_dispatch.specs.ScriptedDisks.{LeavesCount, arming_of_disk, disk_in, planned_count, disk_gone, files_of_disk}
use Rattle.sling_dispatch.specs.ScriptedStates.{fault_count, FailingState, StoppedState}
use Rattle.sling_dispatch.specs.declared.scripted_disk.ScriptedDisk.{ScriptedDisk}
use Rattle.sling_dispatch.specs.declared.scripted_disk.ScriptedDisk.TheVariants.{Failing, Stopped}
use Rattle.front.specs.declared.front.Front.{Front}
use Rattle.sling_dispatch.specs.Fronts.{ArmsNext, ExtendsArmed, FrontStandsOver, SessionStandsFor}
use Rattle.sling_dispatch.specs.declared.session.Session.{Session}
use Rattle.sling_dispatch.specs.declared.renderer.PublisherRenderer.{PublisherRenderer}

-- fronts stand for the same states whatever their disks count
abbrev pub WhateverTheCount : Type 0
WhateverTheCount = (publishing : Publishing) (content : Content) (board : Board) (files : Option Files) (before after : ℕ) (w : RunState)
    → FrontStandsFor publishing content (at_disk board files before) w → FrontStandsFor publishing content (at_disk board files after) w

extends_whatever : WhateverTheCount → (publishing : Publishing) (c d : Content) (b e : Board) (f g : Option Files) (n m : ℕ) (step : Step) (notes : List Note)
    → Extends (FrontStandsFor publishing c (at_disk b f n)) (FrontStandsFor publishing d (at_disk e g m)) n m step notes
    → Extends (FrontStandsFor publishing c (at_disk b f 0)) (FrontStandsFor publishing d (at_disk e g 0)) n m step notes
extends_whatever law publishing c d b e f g n m step notes x = record {
  extended = λ w stands.
      let next = x.extended w (law publishing c b f 0 n w stands) in record {
        event = next.event;
        step_is = next.step_is;
        notes_are = next.notes_are;
        happens = next.happens;
        cause = next.cause;
        stands = law publishing d e g m 0 (after_event w next.event) next.stands;
      };
}

-- how files may fail of which one call may
abbrev pub arming_by : Bool → Arming
arming_by spent = if spent then Unarmed else OneFailure

-- none may, where the count says so
pub unarmed_by : (spent : Bool) → fault_count spent ≡ fault_count true → arming_by spent ≡ Unarmed
unarmed_by true e = refl
unarmed_by false e = absurd (omega (arith, e))

counts_planned : (spent : Bool) → fault_count spent ≡ planned_count (arming_by spent)
counts_planned true = refl
counts_planned false = refl

leaves_count : (spent left : Bool) → LeavesCount (arming_by spent) (arming_by left) (fault_count left)
leaves_count true true = ((λ e. cc (e)), refl)
leaves_count true false = ((λ e. cc (e)), refl)
leaves_count false true = ((λ e. cc (e)), refl)
leaves_count false false = ((λ e. cc (e)), refl)

-- a step over files of which one call may fail
pub failing_step : WhateverTheCount → (old new : Front PublisherRenderer) (d f : FailingState) (step : Step) (notes : List Note)
    → Extends (FrontStandsFor sling_publisher old.renderer.publisher (at_disk old.board (Some d.files) (fault_count d.spent)))
    (FrontStandsFor sling_publisher new.renderer.publisher (at_disk new.board (Some f.files) (fault_count f.spent))) (fault_count d.spent) (fault_count f.spent) step notes
    → ExtendsArmed (FrontStandsOver old (Failing d)) (FrontStandsOver new (Failing f)) (arming_of_disk (Failing d)) (arming_of_disk (Failing f)) step notes
failing_step law old new d f step notes x = record {
  after = fault_count f.spent;
  extends = subst (λ (n : ℕ). Extends (FrontStandsOver old (Failing d)) (FrontStandsOver new (Failing f)) n (fault_count f.spent) step notes) (counts_planned d.spent)
      (extends_whatever law sling_publisher old.renderer.publisher new.renderer.publisher old.board new.board (Some d.files) (Some f.files) (fault_count d.spent) (fault_count f.spent) step notes x);
  counted = leaves_count d.spent f.spent;
}

-- a step over files that are stopped, of which no failure was counted
pub stopped_step : WhateverTheCount → (old new : Front PublisherRenderer) (d m f : StoppedState) (step : Step) (notes : List Note) → m ≡ record { files = d.files; failed = 0 }
    → Extends (FrontStandsFor sling_publisher old.renderer.publisher (at_disk old.board (Some m.files) m.failed))
    (FrontStandsFor sling_publisher new.renderer.publisher (at_disk new.board (Some f.files) f.failed)) m.failed f.failed step notes
    → ExtendsArmed (FrontStandsOver old (Stopped d)) (FrontStandsOver new (Stopped f)) UntilRestart UntilRestart step notes
stopped_step law old new d m f step notes is x =
    let from = subst (λ (s : StoppedState). Extends (FrontStandsFor sling_publisher old.renderer.publisher (at_disk old.board (Some s.files) s.failed))
    (FrontStandsFor sling_publisher new.renderer.publisher (at_disk new.board (Some f.files) f.failed)) s.failed f.failed step notes) is x in record {
      after = f.failed;
      extends = extends_whatever law sling_publisher old.renderer.publisher new.renderer.publisher old.board new.board (Some d.files) (Some f.files) 0 f.failed step notes from;
      counted = refl;
    }

-- ---- a restart finds the disk running again

-- how the disk may fail, where a restart comes or doesn't
abbrev pub arming_at : Arming → Bool → Arming
arming_at Unarmed restarts = Unarmed
arming_at OneFailure restarts = OneFailure
arming_at UntilRestart restarts = if restarts then Unarmed else UntilRestart

arming_in_is : (armed : Arming) (step : Step) → arming_in armed step ≡ arming_at armed (is_restart step)
arming_in_is Unarmed step = refl
arming_in_is OneFailure step = refl
arming_in_is UntilRestart step = refl

stays : (spent restarts : Bool) → arming_by spent ≡ arming_at (arming_by spent) restarts
stays true restarts = refl
stays false restarts = refl

arming_at_is : (restarts : Bool) (disk : ScriptedDisk) → arming_of_disk (if restarts then disk_gone disk else disk) ≡ arming_at (arming_of_disk disk) restarts
arming_at_is true (Failing d) = stays d.spent true
arming_at_is true (Stopped d) = refl
arming_at_is false (Failing d) = stays d.spent false
arming_at_is false (Stopped d) = refl

files_at : (restarts : Bool) (disk : ScriptedDisk) → files_of_disk (if restarts then disk_gone disk else disk) ≡ files_of_disk disk
files_at true (Failing d) = refl
files_at true (Stopped d) = refl
files_at false (Failing d) = refl
files_at false (Stopped d) = refl

-- the event of a step is one of the disk as it was before
pub armed_in_step : (After : RunState → Type 0) (front : Front PublisherRenderer) (disk at : ScriptedDisk) (left : Arming) (step : Step) (notes : List Note) → at ≡ disk_in disk step
    → ExtendsArmed (FrontStandsOver front at) After (arming_of_disk at) left step notes → ExtendsArmed (FrontStandsOver front disk) After (arming_in (arming_of_disk disk) step) left step notes
armed_in_step After front disk at left step notes is x =
    let arming : arming_of_disk at ≡ arming_in (arming_of_disk disk) step = ap arming_of_disk is ∙ arming_at_is (is_restart step) disk ∙ sym (arming_in_is (arming_of_disk disk) step) in
    let files : files_of_disk at ≡ files_of_disk disk = ap files_of_disk is ∙ files_at (is_restart step) disk in
    subst (λ (a : Arming). ExtendsArmed (FrontStandsOver front disk) After a left step notes) arming
    (subst (λ (f : Files). ExtendsArmed (λ (w : RunState). FrontStandsFor sling_publisher front.renderer.publisher (at_disk front.board (Some f) 0) w) After (arming_of_disk at) left step notes) files x)

-- the event of a session is that of its front over the disk in which it begins
pub makes_next : (After : RunState → Type 0) (old at : Session) (left : Arming) (step : Step) (notes : List Note) → at ≡ record old { disk = disk_in old.disk step }
    → ExtendsArmed (FrontStandsOver at.front at.disk) After (arming_of_disk at.disk) left step notes → ExtendsArmed (SessionStandsFor old) After (arming_in (arming_of_disk old.disk) step) left step notes
makes_next After old at left step notes is x =
    armed_in_step After old.front old.disk (disk_in old.disk step) left step notes refl
    (subst (λ (s : Session). ExtendsArmed (FrontStandsOver s.front s.disk) After (arming_of_disk s.disk) left step notes) is x)

-- ---- failures are planned

pub arms_failure : (old new : Session) → new ≡ record old { disk = Failing (record { files = files_of_disk old.disk; spent = false }) } → ArmsNext old new OneFailure
arms_failure old new is =
    ((λ w stands. subst (λ (s : Session). SessionStandsFor s w) (sym is) stands), ap (λ (s : Session). arming_of_disk s.disk) is, ap (λ (s : Session). s.event) is)

pub arms_stop : (old new : Session) → new ≡ record old { disk = Stopped (record { files = files_of_disk old.disk; failed = 0 }) } → ArmsNext old new UntilRestart
arms_stop old new is =
    ((λ w stands. subst (λ (s : Session). SessionStandsFor s w) (sym is) stands), ap (λ (s : Session). arming_of_disk s.disk) is, ap (λ (s : Session). s.event) is)
