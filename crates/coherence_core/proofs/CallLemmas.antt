-- What a call of the core owes, whichever it is.
use Rattle.std.proofs.Common.{◌≡◌, ◌≢◌, ◌⊎◌, ◌++◌, append_assoc, ℕ, List, [], ◌∷◌, Option, Some, None, inl, inr, refl, sym, ◌∙◌, ap, subst, ⊎_elim}
use Rattle.std.proofs.lemmas.Bool.{cases_eq}
use Rattle.sp_outside.specs.Files.{Files}
use Rattle.any_config.specs.declared.farm.Farm.{Farm}
use Rattle.cover_rules.specs.declared.page.PageKey.{PageKey}
use Rattle.cache_files.specs.Epochs.{after_epoch}
use Rattle.docroot_changes.specs.Changes.{KeepsNumber, Told}
use Rattle.cache_log.specs.Entries.{LogEntry}
use Rattle.cache_log.specs.Rules.{AllAllowed, Allowed, CallConditions}
use Rattle.coherence_core.specs.Asking.{IsSameCore}
use Rattle.coherence_core.specs.Cores.{ExtendsLogs, CoreStandsFor, StandsOver}
use Rattle.coherence_core.specs.Holds.{IsNumbered}
use Rattle.coherence_core.specs.Notes.{KnowsFiles, with_notes}
use Rattle.page_index.specs.declared.index.PageIndex.{PageIndex}
use Rattle.coherence_core.specs.declared.core_state.Core.{Core}
use Rattle.coherence_core.proofs.NoteLemmas.{same_known}

-- ---- keys

-- two lists are one, or not
list_cases : {A : Type 0} → ((a b : A) → (a ≡ b) ⊎ (a ≢ b)) → (xs ys : List A) → (xs ≡ ys) ⊎ (xs ≢ ys)
list_cases tell [] [] = inl refl
list_cases tell [] (y ∷ ys) = inr (λ e. cc e)
list_cases tell (x ∷ xs) [] = inr (λ e. cc e)
list_cases tell (x ∷ xs) (y ∷ ys) = ⊎_elim
    (λ (a : x ≡ y). ⊎_elim (λ (b : xs ≡ ys). inl (λ i. a i ∷ b i)) (λ (b : xs ≢ ys). inr (λ e. b (cc e))) (list_cases tell xs ys))
    (λ (a : x ≢ y). inr (λ e. a (cc e)))
    (tell x y)

pub key_cases : (k l : PageKey) → (k ≡ l) ⊎ (k ≢ l)
key_cases k l = ⊎_elim
    (λ (a : k.folder ≡ l.folder). ⊎_elim
    (λ (b : k.file ≡ l.file). inl (λ i. record { folder = a i; file = b i }))
    (λ (b : k.file ≢ l.file). inr (λ e. b (ap (λ (x : PageKey). x.file) e)))
    (list_cases cases_eq k.file l.file))
    (λ (a : k.folder ≢ l.folder). inr (λ e. a (ap (λ (x : PageKey). x.folder) e)))
    (list_cases (list_cases cases_eq) k.folder l.folder)

-- ---- files

pub told_map : (P Q : Files → Files → Type 0) (old new : Option Files) → ((f g : Files) → P f g → Q f g) → Told P old new → Told Q old new
told_map P Q None new all t = t
told_map P Q (Some f) None all t = t
told_map P Q (Some f) (Some g) all t = all f g t

pub told_same : (P : Files → Files → Type 0) (old new : Option Files) → new ≡ old → ((f : Files) → P f f) → Told P old new
told_same P None new is all = is
told_same P (Some f) None is all = absurd (cc is)
told_same P (Some f) (Some g) is all = let one : g ≡ f = cc is in subst (λ (x : Files). P f x) (sym one) (all f)

-- the number is of its form still
pub numbered_same : (f g : Files) → KeepsNumber f g → IsNumbered f → IsNumbered g
numbered_same f g kept is = kept.next ∙ is ∙ ap (λ (e : ℕ). after_epoch (Some e)) (sym kept.held)

-- ---- extensions

-- an extension, from one function
pub extends : {farm : Farm} {old new : List LogEntry → Type 0} {under : CallConditions} {entries : List LogEntry} → ((log : List LogEntry) → old log → AllAllowed farm under entries log × new (entries ++ log)) → ExtendsLogs farm old new under entries
extends both = record { allowed = λ log s. (both log s).0; stands = λ log s. (both log s).1 }

-- the entries of two calls
pub allowed_append : (farm : Farm) (under : CallConditions) (es fs log : List LogEntry) → AllAllowed farm under fs log → AllAllowed farm under es (fs ++ log) → AllAllowed farm under (es ++ fs) log
allowed_append farm under [] fs log old new = old
allowed_append farm under (e ∷ es) fs log old new = (subst (λ (l : List LogEntry). Allowed farm under e l) (sym (append_assoc es fs log)) new.0, allowed_append farm under es fs log old new.1)

-- a core with the same parts stands for the same
over_same : (found : ℕ) (files : Files) (old new : Core) (log : List LogEntry) → IsSameCore old new → StandsOver found files old log → StandsOver found files new log
over_same found files old new log same s = record {
  stands = rw (same.farm, same.flights, same.queue, same.asked, same.begun, same.epoch) s.stands;
  numbered = s.numbered;
  order = s.order;
  formed = s.formed;
  heads = rw (same.asked, same.begun, same.epoch) s.heads;
  down_is = same.down ∙ s.down_is;
  few = rw (same.asked, same.begun) s.few;
  slices = rw (same.farm, same.queue) s.slices;
  knows = same_known files old new same.farm same.queue same.pages s.knows;
}

-- so does one that has noted something, if that is known
pub noting_over : (found : ℕ) (files : Files) (core : Core) (notes : PageIndex) (log : List LogEntry) → StandsOver found files core log → KnowsFiles files (with_notes core notes) → StandsOver found files (with_notes core notes) log
noting_over found files core notes log s known = record { stands = s.stands; numbered = s.numbered; order = s.order; formed = s.formed; heads = s.heads; down_is = s.down_is; few = s.few; slices = s.slices; knows = known }

pub stands_same : (found : ℕ) (told : Option Files) (old new : Core) (log : List LogEntry) → IsSameCore old new → CoreStandsFor found told old log → CoreStandsFor found told new log
stands_same found None old new log same s = s
stands_same found (Some files) old new log same s = over_same found files old new log same s

pub adds_nothing : (farm : Farm) (found : ℕ) (told : Option Files) (old new : Core) (under : CallConditions) → IsSameCore old new → ExtendsLogs farm (CoreStandsFor found told old) (CoreStandsFor found told new) under []
adds_nothing farm found told old new under same = extends (λ log s. (tt, stands_same found told old new log same s))

pub same_core : (old new : Core) → new ≡ old → IsSameCore old new
same_core old new is = record {
  farm = ap (λ (c : Core). c.farm) is;
  flights = ap (λ (c : Core). c.flights) is;
  queue = ap (λ (c : Core). c.queue.items) is;
  asked = ap (λ (c : Core). c.asked) is;
  begun = ap (λ (c : Core). c.begun) is;
  epoch = ap (λ (c : Core). c.epoch) is;
  down = ap (λ (c : Core). c.down) is;
  pages = ap (λ (c : Core). c.pages) is;
}
