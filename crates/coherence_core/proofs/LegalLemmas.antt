-- A session that goes on from a legal log.
use Rattle.std.proofs.Common.{◌≡◌, ◌≢◌, ◌+◌, ◌∙◌, ℕ, false, List, [], ◌∷◌, Some, sym, subst, eq-eqb, ne_eqb, ⊎_elim}
use Rattle.std.specs.Prelude.{Ok}
use Rattle.std.proofs.lemmas.Bool.{cases_eq}
use Rattle.sp_outside.specs.Files.{Files}
use Rattle.any_config.specs.declared.farm.Farm.{Farm}
use Rattle.cache_files.specs.Epochs.{after_epoch, epoch_held, greatest_epoch, next_epoch}
use Rattle.cache_log.specs.Entries.{LogEntry, Session}
use Rattle.cache_log.specs.Rules.{CallConditions, IsAboveAll, IsLegal}
use Rattle.coherence_core.specs.Holds.{HoldsClosed}

under_nothing : CallConditions
under_nothing = record { disk_failed = false; out_of_memory = false; restarts = false }

next_held : (held epoch : ℕ) → after_epoch (Some held) ≡ Ok epoch → epoch ≡ held + 1
next_held held epoch is = ⊎_elim
    (λ (same : held ≡ greatest_epoch). absurd (cc (rw (eq-eqb held greatest_epoch same) at is)))
    (λ (ne : held ≢ greatest_epoch). cc (rw (ne_eqb held greatest_epoch ne) at is))
    (cases_eq held greatest_epoch)

pub legal_over : (farm : Farm) (files : Files) (log : List LogEntry) (epoch : ℕ) → HoldsClosed farm files log → IsLegal farm log → next_epoch files ≡ Ok epoch → IsLegal farm (Session epoch ∷ log)
legal_over farm files log epoch closed legal next =
    let more : epoch ≡ epoch_held files + 1 = next_held (epoch_held files) epoch (sym closed.holds.numbered ∙ next) in
    ((under_nothing, (closed.idle, subst (λ (e : ℕ). IsAboveAll e log) (sym more) closed.holds.above)), legal)

pub legal_first : (farm : Farm) (epoch : ℕ) → IsLegal farm (Session epoch ∷ [])
legal_first farm epoch = ((under_nothing, (((λ flight key h. h), (λ flush inv h. h)), tt)), tt)
