-- A session that is served is a run that begins in a legal log.
use Rattle.std.proofs.Common.{◌≡◌, ◌≢◌, ◌∷◌, ◌∙◌, ℕ, List, [], Option, refl, sym, ap, subst}
use Rattle.std.specs.Prelude.{IfSome, Ok}
use Rattle.sp_outside.specs.Files.{Files}
use Rattle.any_config.specs.declared.farm.Farm.{Farm}
use Rattle.cache_files.specs.Epochs.{next_epoch}
use Rattle.cache_log.specs.Entries.{LogEntry, Session}
use Rattle.cache_log.specs.Rules.{IsLegal, KeepsBound}
use Rattle.coherence_core.specs.Holds.{HoldsClosed}
use Rattle.run_events.specs.Events.{Event, Run, state_after_events}
use Rattle.run_events.specs.States.{RunState, Start, start_of}
use Rattle.run_laws.specs.Logs.{HitsAreFresh, IsBeginning, KeptPagesAreServed, RepliesInFlightAreNotStored, log_after}
use Rattle.serve_loop.specs.Served.{DiskReport, IsServed, LeavesLegalLog, WorldReport, left_log}
use Rattle.serve_loop.specs.Turns.{turn_events}
use Rattle.serve_loop.specs.declared.serving.ServeEnd.{ServeEnd}
use Rattle.serve_loop.specs.declared.serving.ServeEnd.TheVariants.{NoMemory}
use Rattle.sling_dispatch.specs.Reports.{RunCall}
use Rattle.sling_dispatch.specs.ServedLaws.{ServedHitsAreFresh, ServedLogsAreLegal, ServedRepliesInFlightAreNotStored, ServedSession, ServedSessionsGoOn, ServedSessionsLeaveLegalLogs, ServedSessionsServeKeptPages, SessionsAreServed, served_session_end, served_session_events, served_session_start}
use Rattle.sling_dispatch.specs.Serving.{MayBeginOver, served_start}
use Rattle.sling_dispatch.specs.declared.form.Beginning.{Beginning}
use Rattle.sling_dispatch.specs.declared.form.Beginning.TheVariants.{Fresh, Warm}
use Rattle.sling_dispatch.specs.declared.form.ServeWords.{ServeWords}
use Rattle.sling_dispatch.proofs.SessionLemmas.{one_event}

-- ---- sessions one after another

pub there : SessionsAreServed
there c words end site files files_are log may legal =
    let each = subst (λ (told : Option Files). IfSome told (λ (fs : Files). (l : List LogEntry) → MayBeginOver words.beginning site.farm fs l → IsServed (start_of (served_start site.farm site.tree site.epoch fs l)) words.turns end c.disk c.world)) files_are site.served in
    (record { site = site; files = files; files_are = files_are; log = log; may_begin = may; legal = legal; served = each log may }, (refl, refl))

-- a session begins as the laws of runs want it
pub record BeginsLegally : Type 0 where
  pub over : (s : Start) (files : Files) (log : List LogEntry) (epoch : ℕ) → HoldsClosed s.farm files log → IsLegal s.farm log → next_epoch files ≡ Ok epoch → s.log ≡ Session epoch ∷ log → IsBeginning s
  pub first : (s : Start) (epoch : ℕ) → s.log ≡ Session epoch ∷ [] → IsBeginning s

module _ (laws : BeginsLegally) (c : RunCall) (words : ServeWords) (end : ServeEnd) (s : ServedSession c words end) where
  next : next_epoch s.files ≡ Ok s.site.epoch
  next = subst (λ (told : Option Files). IfSome told (λ (files : Files). next_epoch files ≡ Ok s.site.epoch)) s.files_are s.site.next

  by_beginning : (b : Beginning) → MayBeginOver b s.site.farm s.files s.log → IsBeginning (served_session_start s)
  by_beginning Fresh none = laws.first (served_session_start s) s.site.epoch (ap (λ (log : List LogEntry). Session s.site.epoch ∷ log) none)
  by_beginning Warm closed = laws.over (served_session_start s) s.files s.log s.site.epoch closed s.legal next refl

  pub served_begins : IsBeginning (served_session_start s)
  served_begins = by_beginning words.beginning s.may_begin

-- what a session leaves
abbrev pub LeavesLogs : Type 0
LeavesLogs = (s : Start) (limit : ℕ) (end : ServeEnd) (disk : DiskReport) (world : WorldReport) → IsBeginning s → (served : IsServed (start_of s) limit end disk world) → end ≢ NoMemory
    → LeavesLegalLog s.farm disk.new (state_after_events (start_of s) (turn_events served.turns))

pub left : BeginsLegally → LeavesLogs → ServedSessionsLeaveLegalLogs
left laws leaves c words end s ne = leaves (served_session_start s) words.turns end c.disk c.world (served_begins laws c words end s) s.served ne

pub again : BeginsLegally → LeavesLogs → ServedSessionsGoOn
again laws leaves c d words next_words end later s ne site same warm farm =
    let l : LeavesLegalLog s.site.farm c.disk.new (served_session_end s) = left laws leaves c words end s ne in
    let log : List LogEntry = left_log (served_session_end s) in
    let closed : HoldsClosed site.farm l.files log = subst (λ (f : Farm). HoldsClosed f l.files log) (sym farm) l.holds in
    let may : MayBeginOver next_words.beginning site.farm l.files log = subst (λ (b : Beginning). MayBeginOver b site.farm l.files log) (sym warm) closed in
    there d next_words later site l.files (same ∙ l.told_is) log may (subst (λ (f : Farm). IsLegal f log) (sym farm) l.legal)

-- ---- the operator's laws

-- each run that begins so has a legal log that keeps the bound
pub record LegalLogs : Type 0 where
  pub legal : (s : Start) (events : List Event) → IsBeginning s → Run (start_of s) events → IsLegal s.farm (log_after s events)
  pub bound : (s : Start) (events : List Event) → IsBeginning s → Run (start_of s) events → KeepsBound s.farm s.found (log_after s events)

pub logs : BeginsLegally → LegalLogs → ServedLogsAreLegal
logs laws law c words end s =
    (law.legal (served_session_start s) (served_session_events s) (served_begins laws c words end s) s.served.run, law.bound (served_session_start s) (served_session_events s) (served_begins laws c words end s) s.served.run)

pub fresh_hits : BeginsLegally → HitsAreFresh → ServedHitsAreFresh
fresh_hits laws law c words end s = law (served_session_start s) (served_session_events s) (served_begins laws c words end s) s.served.run

pub not_stored_served : BeginsLegally → RepliesInFlightAreNotStored → ServedRepliesInFlightAreNotStored
not_stored_served laws law c words end s = law (served_session_start s) (served_session_events s) (served_begins laws c words end s) s.served.run

pub kept_served : KeptPagesAreServed → ServedSessionsServeKeptPages
kept_served law c words end s before e after is worked memory =
    let w : RunState = start_of (served_session_start s) in
    law (state_after_events w before) e (one_event w before after e (subst (Run w) is s.served.run)) worked memory
