-- From which logs an opened front goes on.
use Rattle.std.proofs.Common.{◌≡◌, ◌≢◌, ℕ, List, [], Option, Some, None, Ok, Err, Result, IfOk, IfSome, sym, subst, refl}
use Rattle.std.proofs.lemmas.Bool.{true≢false}
use Rattle.sp_outside.specs.Files.{Files, with_file}
use Rattle.resource_tree.specs.Content.{Content}
use Rattle.any_config.specs.declared.farm.Farm.{Farm}
use Rattle.cache_files.specs.Epochs.{told_with_epoch}
use Rattle.coherence_core.specs.Holds.{files_counted}
use Rattle.coherence_core.specs.Sessions.{KeepsHolds}
use Rattle.docroot_changes.specs.Changes.{Told}
use Rattle.docroot_format.specs.Names.{epoch_name}
use Rattle.docroot_format.specs.Texts.{epoch_text}
use Rattle.front.specs.Boards.{BoardAt, at_disk}
use Rattle.front.specs.Fronts.{BeginsFresh, BeginsRun, FrontStandsFor, IsFrontOpened, OpensFront, epoch_of_board}
use Rattle.front.specs.declared.front.Front.{Front}
use Rattle.run_events.specs.States.{start_of}
use Rattle.run_events.specs.States.{RunState, Start}
use Rattle.run_laws.specs.Rounds.{HasNothingDue}
use Rattle.outside_world.specs.declared.world.WorldEntry.{WorldEntry}
use Rattle.cache_log.specs.Entries.{LogEntry}
use Rattle.cache_files.specs.Epochs.{HasOpenCause, next_epoch}
use Rattle.cache_files.specs.declared.epoch.OpenFault.{OpenFault}
use Rattle.cache_files.specs.declared.epoch.OpenFault.TheVariants as open_fault
use Rattle.sp_outside.specs.Causes.{Rose}
use Rattle.serve_loop.specs.Served.{AreCaused, HasEndCause, HasOpenConnections, IsServerAtRest, IsServed, WorldReport, disk_report}
use Rattle.serve_loop.specs.Turns.{turn_events, with_cut}
use Rattle.serve_loop.specs.declared.serving.ServeEnd.{ServeEnd}
use Rattle.sling_dispatch.specs.Endings.{Writing, IsDue}
use Rattle.sling_dispatch.specs.InnerServing.{IsOpeningOr, OpensRun}
use Rattle.sling_dispatch.specs.Reports.{IsWorldUntouched, StreamReport, call_of}
use Rattle.sling_dispatch.specs.Runs.{sling_publisher}
use Rattle.sling_dispatch.specs.Serving.{HasInputs, KeepsLogs, MayBeginOver, ServesSite, served_start}
use Rattle.sling_dispatch.specs.declared.form.Beginning.{Beginning}
use Rattle.sling_dispatch.specs.declared.form.Beginning.TheVariants.{Fresh, Warm}
use Rattle.sling_dispatch.specs.declared.form.ServeWords.{ServeWords}
use Rattle.sling_dispatch.specs.declared.renderer.PublisherRenderer.{PublisherRenderer}
use Rattle.sling_dispatch.proofs.ServingLemmas.{due_opening}

-- what an opening leaves of the logs
pub logs_kept : (beginning : Beginning) (farm : Farm) (old new : Option Files) → Told (KeepsHolds farm) old new → KeepsLogs beginning farm old new
logs_kept Fresh farm old new k = tt
logs_kept Warm farm old new k = k

-- a front that was opened warm
pub opened_warm : (farm : Farm) (tree now : Content) (told : Option Files) (b : BoardAt) → BeginsRun sling_publisher tree farm told b now → OpensRun Warm farm tree told b now
opened_warm farm tree now None b run = tt
opened_warm farm tree now (Some files) b run = λ log closed. run log closed

-- a front that was opened, and whose pages and stamps were then cleared away
pub opened_fresh : (farm : Farm) (tree now : Content) (old mid : Option Files) (b : BoardAt) (epoch : ℕ) → now ≡ tree → OpensFront farm old mid b.board
    → mid ≡ told_with_epoch old epoch → BeginsFresh sling_publisher now mid b → OpensRun Fresh farm tree old b now
opened_fresh farm tree now None mid b epoch same opened is begins = tt
opened_fresh farm tree now (Some files) mid b epoch same opened is begins = λ log may.
    let after = with_file files epoch_name (epoch_text epoch) in
    let front : IsFrontOpened farm (files_counted files) after b.board = subst (λ (m : Option Files). Told (λ (x y : Files). IsFrontOpened farm (files_counted x) y b.board) (Some files) m) is opened in
    let run = subst (λ (m : Option Files). BeginsFresh sling_publisher now m b) is begins in
    let stands = run farm (files_counted files) front in
    subst (λ (l : List LogEntry). FrontStandsFor sling_publisher now b (start_of (served_start farm tree (epoch_of_board b) files l))) (sym may)
    (subst (λ (c : Content). FrontStandsFor sling_publisher now b (start_of (served_start farm c (epoch_of_board b) files []))) same stands)

-- The same of what the clearing away answers: the front that was opened, or a fault.
pub opened_if_cleared : (beginning : Beginning) → beginning ≡ Fresh → (farm : Farm) (tree : Content) (old mid new : Option Files) (faults : ℕ) (front : Front PublisherRenderer) (cleared : Result (Front PublisherRenderer) OpenFault)
    → front.renderer.publisher ≡ tree → OpensFront farm old mid front.board → mid ≡ told_with_epoch old front.board.cache.core.epoch
    → IfOk cleared (λ f. f ≡ front) → IfOk cleared (λ _. BeginsFresh sling_publisher front.renderer.publisher mid (at_disk front.board new faults))
    → IfOk cleared (λ f. OpensRun beginning farm tree old (at_disk f.board new faults) f.renderer.publisher)
opened_if_cleared beginning fresh farm tree old mid new faults front (Err fault) renderer opened after same stands = tt
opened_if_cleared beginning fresh farm tree old mid new faults front (Ok f) renderer opened after same stands =
    let b = at_disk front.board new faults in
    let run = opened_fresh farm tree front.renderer.publisher old mid b front.board.cache.core.epoch renderer opened after stands in
    subst (λ (x : Front PublisherRenderer). OpensRun beginning farm tree old (at_disk x.board new faults) x.renderer.publisher) (sym same)
    (subst (λ (how : Beginning). OpensRun how farm tree old b front.renderer.publisher) (sym fresh) run)

-- ---- what was served

-- the disk before the opening doesn't matter to what was served, but for its count
served_since : (w : RunState) (turns : ℕ) (end : ServeEnd) (old mid new : Option Files) (before after count : ℕ) (world : WorldReport) → count ≡ before
    → IsServed w turns end (disk_report mid new count after) world → IsServed w turns end (disk_report old new before after) world
served_since w turns end old mid new before after count world same x = record {
  turns = x.turns;
  cut = x.cut;
  run = x.run;
  whole = x.whole;
  cut_is = x.cut_is;
  may_cut = x.may_cut;
  count = x.count;
  told = x.told;
  unsents = x.unsents;
  last = x.last;
  caused = subst (λ n. AreCaused n x.last w (turn_events (with_cut x.turns x.cut))) same x.caused;
  last_is = x.last_is;
  held = x.held;
}

-- At its beginning a run is at rest.
at_rest : (start : Start) (told : Option (List WorldEntry)) → HasNothingDue (start_of start) → IsServerAtRest (start_of start) told
at_rest start told due = record { flights = refl; nothing_due = due; connections = all_open told }
  where
    all_open : (told : Option (List WorldEntry)) → HasOpenConnections told (start_of start)
    all_open None = tt
    all_open (Some log) = λ c there. absurd (true≢false (sym there))

-- where nothing is due at first
abbrev pub BeginsIdle : Type 0
BeginsIdle = (start : Start) → HasNothingDue (start_of start)

-- what an opened front served
pub serves : BeginsIdle → (words : ServeWords) (tree now : Content) (farm : Farm) (end : ServeEnd) (b : BoardAt) (asked : List (List ℕ)) (source : StreamReport (List ℕ)) (inputs : StreamReport Files)
    → (old mid new : Option Files) (before after count : ℕ) (world : WorldReport) → HasInputs asked source inputs words tree farm
    → IfSome old (λ files. next_epoch files ≡ Ok (epoch_of_board b)) → OpensRun words.beginning farm tree old b now → count ≡ before
    → ((w : RunState) → FrontStandsFor sling_publisher now b w → IsServerAtRest w world.old → IsServed w words.turns end (disk_report mid new count after) world)
    → HasEndCause end world → ServesSite (call_of asked source inputs (disk_report old new before after) world) words end
serves idle words tree now farm end b asked source inputs old mid new before after count world has next opens same served cause = record {
  tree = tree;
  farm = farm;
  has = has;
  epoch = epoch_of_board b;
  next = next;
  served = by_files old opens;
  cause = cause;
}
  where
    by_files : (told : Option Files) → OpensRun words.beginning farm tree told b now
        → IfSome told (λ files. (log : List LogEntry) → MayBeginOver words.beginning farm files log → IsServed (start_of (served_start farm tree (epoch_of_board b) files log)) words.turns end (disk_report old new before after) world)
    by_files None opens = tt
    by_files (Some files) opens = λ log may.
        let start = served_start farm tree (epoch_of_board b) files log in
        served_since (start_of start) words.turns end old mid new before after count world same (served (start_of start) (opens log may) (at_rest start world.old (idle start)))

-- ---- no session begins

failed_disk : (T : Type 0) (before after : ℕ) (fault : OpenFault) → HasOpenCause {T = T} before after (Err fault) → fault ≡ open_fault.Disk → Rose before after
failed_disk T before after fault cause e = subst (λ f. HasOpenCause {T = T} before after (Err f)) e cause

kept_count : (T : Type 0) (before after : ℕ) (fault : OpenFault) → HasOpenCause {T = T} before after (Err fault) → fault ≢ open_fault.Disk → after ≡ before
kept_count T before after open_fault.Disk cause not = absurd (not refl)
kept_count T before after open_fault.Foreign cause not = cause
kept_count T before after open_fault.EpochEnd cause not = cause
kept_count T before after open_fault.NoMemory cause not = cause

-- what may be written where no session begins
pub due_unopened : (T : Type 0) (asked : List (List ℕ)) (source : StreamReport (List ℕ)) (inputs : StreamReport Files) (old new : Option Files) (before after : ℕ) (world : WorldReport) (words : ServeWords) (tree : Content) (farm : Farm) (fault : OpenFault)
    → HasInputs asked source inputs words tree farm → HasOpenCause {T = T} before after (Err fault) → KeepsLogs words.beginning farm old new
    → (fault ≢ open_fault.NoMemory → fault ≢ open_fault.Disk → IfSome old (λ files. next_epoch files ≡ Err fault))
    → (fault ≢ open_fault.NoMemory → fault ≢ open_fault.Disk → new ≡ old) → IsWorldUntouched world
    → (w : Writing) → IsOpeningOr fault w → IsDue (call_of asked source inputs (disk_report old new before after) world) w
due_unopened T asked source inputs old new before after world words tree farm fault has cause keeps err same world_is =
    due_opening (call_of asked source inputs (disk_report old new before after) world) fault world_is
    (λ e. record { words = words; tree = tree; farm = farm; has = has; failed = failed_disk T before after fault cause e; keeps = keeps; world = world_is })
    (λ disk memory. record {
      words = words;
      tree = tree;
      farm = farm;
      has = has;
      next = err memory disk;
      not_failed = disk;
      not_memory = memory;
      disk = record { files = same memory disk; count = kept_count T before after fault cause disk };
      world = world_is;
    })
