-- What is known of the files stays known.
use Rattle.std.proofs.Common.{◌≡◌, ◌++◌, ℕ, Bool, List, [], ◌∷◌, Option, Some, None, sym, ◌∙◌, subst}
use Rattle.std.specs.Prelude.{Result, Ok, Err, IfOk}
use Rattle.sp_base.specs.declared.answer.Answer.{Answer}
use Rattle.sp_outside.specs.Files.{Files}
use Rattle.cover_rules.specs.Coverage.{stat_folder}
use Rattle.dispatch_rules.specs.Caching.{is_auto}
use Rattle.docroot_format.specs.declared.fault.FileFault.{FileFault}
use Rattle.cache_files.specs.Pages.{page_at}
use Rattle.stat_files.specs.Stamps.{stamp_at}
use Rattle.cover_rules.specs.declared.invalidation.Invalidation.{Invalidation}
use Rattle.cover_rules.specs.declared.page.PageKey.{PageKey}
use Rattle.invalidation.specs.Slices.{IsSamePurge}
use Rattle.page_index.specs.Agreement.{Agrees, HasNoneCovered}
use Rattle.page_index.specs.Effects.{IsBare}
use Rattle.page_index.specs.declared.index.PageIndex.{PageIndex}
use Rattle.coherence_core.specs.Notes.{AreNotesUncovered, KnowsDisk, KnowsFiles, KnowsDiskWith, StaysKnown, StaysTold}
use Rattle.coherence_core.specs.Asking.{IsLookedUp, core_asking}
use Rattle.coherence_core.specs.Lookups.{IfAgreed, NotesPage}
use Rattle.coherence_core.specs.Served.{served}
use Rattle.coherence_core.specs.declared.core_state.Core.{Core}
use Rattle.coherence_core.specs.declared.look.Look.{Look}
use Rattle.coherence_core.specs.declared.pending.Pending.{Pending}

-- ---- the queue

pub apart_kept : (level : ℕ) (old new : PageIndex) → ((inv : Invalidation) → HasNoneCovered level inv old → HasNoneCovered level inv new) → (queue : List Pending) → AreNotesUncovered level old queue → AreNotesUncovered level new queue
apart_kept level old new kept [] all = tt
apart_kept level old new kept (p ∷ ps) all = ((all.0.0, kept p.purge.inv all.0.1), apart_kept level old new kept ps all.1)

pub apart_push : (level : ℕ) (notes : PageIndex) (queue : List Pending) (last : Pending) → AreNotesUncovered level notes queue → (last.purge.level ≡ level) × HasNoneCovered level last.purge.inv notes → AreNotesUncovered level notes (queue ++ last ∷ [])
apart_push level notes [] last all one = (one, tt)
apart_push level notes (p ∷ ps) last all one = (all.0, apart_push level notes ps last all.1 one)

-- the oldest flush, as far as it is then
pub apart_first : (level : ℕ) (notes : PageIndex) (p q : Pending) (rest : List Pending) → IsSamePurge p.purge q.purge → AreNotesUncovered level notes (p ∷ rest) → AreNotesUncovered level notes (q ∷ rest)
apart_first level notes p q rest same all = ((same.level ∙ all.0.0, rw (same.inv) all.0.1), all.1)

-- ---- a core

-- notes of which what was so is so still
pub stays_known : (files after : Files) (old new : Core) → new.farm ≡ old.farm → new.queue.items ≡ old.queue.items → StaysKnown files after old.pages new.pages → KnowsFiles files old → KnowsFiles after new
stays_known files after old new farm queue stays k = record {
  agree = stays.agree k.agree;
  apart = rw (farm, queue) (apart_kept old.farm.level old.pages new.pages (stays.apart old.farm.level) old.queue.items k.apart);
}

pub same_known : (files : Files) (old new : Core) → new.farm ≡ old.farm → new.queue.items ≡ old.queue.items → new.pages ≡ old.pages → KnowsFiles files old → KnowsFiles files new
same_known files old new farm queue pages k = record { agree = rw (pages) k.agree; apart = rw (farm, queue, pages) k.apart }

pub notes_same : (notes : PageIndex) (files : Files) → StaysKnown files files notes notes
notes_same notes files = record { agree = λ a. a; apart = λ level inv h. h }

-- ---- a disk

pub told_known : (told next : Option Files) (old new : Core) → new.farm ≡ old.farm → new.queue.items ≡ old.queue.items → StaysTold old.pages new.pages told next → KnowsDisk told old → KnowsDisk next new
told_known None None old new farm queue stays k = tt
told_known None (Some after) old new farm queue stays k = absurd (cc stays)
told_known (Some files) None old new farm queue stays k = tt
told_known (Some files) (Some after) old new farm queue stays k = stays_known files after old new farm queue stays k

pub known_same : (told : Option Files) (old new : Core) → new.farm ≡ old.farm → new.queue.items ≡ old.queue.items → new.pages ≡ old.pages → KnowsDisk told old → KnowsDisk told new
known_same None old new farm queue pages k = tt
known_same (Some files) old new farm queue pages k = same_known files old new farm queue pages k

-- a flight that is asked
pub asking_known : (told : Option Files) (core : Core) (key : Option PageKey) (auto : Bool) → KnowsDisk told core → KnowsDisk told (core_asking core key auto)
asking_known None core key auto k = tt
asking_known (Some files) core key auto k = record { agree = k.agree; apart = k.apart }

-- nothing is noted, and no flush is unfinished
pub bare_known : (told : Option Files) (core : Core) → ((index : PageIndex) (files : Files) → IsBare index → Agrees index files) → core.queue.items ≡ [] → IsBare core.pages → KnowsDisk told core
bare_known None core agrees queue bare = tt
bare_known (Some files) core agrees queue bare = record { agree = agrees core.pages files bare; apart = rw (queue) tt }

-- ---- a page that is looked up

pub looked_known : (told : Option Files) (core : Core) (look : Look) (new : PageIndex) → look.farm.now ≡ core.farm → look.queue.now.items ≡ core.queue.items → NotesPage look told core.pages new → KnowsDiskWith told core new
looked_known None core look new farm queue notes k = tt
looked_known (Some files) core look new farm queue notes k = record { agree = notes.agree k.agree; apart = rw (sym farm, sym queue) (notes.apart (rw (farm, queue) k.apart)) }

pub looked_value : (told : Option Files) (core : Core) (key : PageKey) (auto : Bool) → auto ≡ is_auto core.farm key → (result : Result (Option Answer) FileFault)
    → IfOk result (λ found. IfAgreed told core.pages (λ files. served auto (stamp_at files (stat_folder core.farm.level key)) (page_at files key) ≡ found)) → IfOk result (λ found. KnowsDisk told core → IsLookedUp told core.farm key found)
looked_value None core key auto auto_is (Ok found) is = λ k. tt
looked_value (Some files) core key auto auto_is (Ok found) is = λ k. subst (λ (b : Bool). served b (stamp_at files (stat_folder core.farm.level key)) (page_at files key) ≡ found) auto_is (is k.agree)
looked_value told core key auto auto_is (Err fault) is = tt
