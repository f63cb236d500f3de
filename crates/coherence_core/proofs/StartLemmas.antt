-- What files hold, as a session begins, goes on, or doesn't begin.
use Rattle.std.proofs.Common.{◌≡◌, ◌<◌, ◌+◌, ℕ, false, List, [], ◌∷◌, Option, Some, None, IsSome, IsTrue, inl, inr, refl, sym, ◌∙◌, ap, subst, arith, ⊎_elim, option_map}
use Rattle.std.specs.Prelude.{Ok, IfSome}
use Rattle.std.specs.FinMap.{empty, get-empty}
use Rattle.std.specs.Option.{option_and_then}
use Rattle.sp_base.specs.Names.{by_name}
use Rattle.sp_base.specs.Paths.{is_path}
use Rattle.sp_base.specs.Texts.{Segments, Text}
use Rattle.sp_base.proofs.OptionLemmas.{none_or_some}
use Rattle.sp_outside.specs.Files.{Files, file_at}
use Rattle.any_config.specs.declared.farm.Farm.{Farm}
use Rattle.cover_rules.specs.Pages.{IsPageKey}
use Rattle.cover_rules.specs.declared.page.PageKey.{PageKey}
use Rattle.cover_rules.specs.declared.stamp.Stamp.{Stamp}
use Rattle.dispatch_rules.specs.Caching.{is_auto}
use Rattle.docroot_format.specs.Names.{is_stat_file, stat_name}
use Rattle.docroot_format.specs.Readings.{stat_of}
use Rattle.cache_files.specs.declared.epoch.OpenFault.{OpenFault}
use Rattle.cache_files.specs.declared.page.Page.{Page}
use Rattle.cache_files.specs.Changes.{HasNoPage}
use Rattle.cache_files.specs.Epochs.{after_epoch, epoch_held, next_epoch}
use Rattle.cache_files.specs.HeldStamps.{HasNoLaterStamp, HoldsStamp, IsPageStamp}
use Rattle.cache_files.specs.Pages.{page_at}
use Rattle.stat_files.specs.Stamps.{IsHeldOrGreatest, stamp_at, stamp_in}
use Rattle.docroot_changes.specs.Changes.{IsStampFolder, MayOpen, NumberSet, Told}
use Rattle.cache_log.specs.Entries.{LogEntry, Session}
use Rattle.cache_log.proofs.LegalLemmas.{above-more}
use Rattle.coherence_core.specs.Cores.{StandsOver}
use Rattle.coherence_core.specs.Facts.{CoverageFacts}
use Rattle.coherence_core.specs.Holds.{AreStatsFormed, Holds, HoldsClosed, KeepsStatFiles, files_counted}
use Rattle.coherence_core.specs.Served.{served, stat_for}
use Rattle.coherence_core.specs.Sessions.{BeginsSession, IsNewCore, KeepsHolds}
use Rattle.coherence_core.specs.Stands.{AreBefore, CoreStands, stamp}
use Rattle.coherence_core.specs.declared.core_state.Core.{Core}
use Rattle.page_index.specs.Agreement.{Agrees}
use Rattle.page_index.specs.Effects.{IsBare}
use Rattle.page_index.specs.declared.index.PageIndex.{PageIndex}
use Rattle.coherence_core.proofs.StampLemmas.{low_epoch, none_drawn}
use Rattle.coherence_core.proofs.RestartSteps.{same_pages}
use Rattle.coherence_core.proofs.SessionLemmas.{numbered_next}
use Rattle.coherence_core.proofs.SliceBounds.{names_found}
use Rattle.coherence_core.proofs.CallLemmas.{numbered_same}
use Rattle.coherence_core.proofs.StatFileLemmas.{kept_formed}

-- ---- .stat files of their form

-- a folder with a stamp has a .stat file
stat_there : (o : Option Text) (t : Stamp) → option_map stamp_in o ≡ Some t → (bytes : Text) × (o ≡ Some bytes) × (stamp_in bytes ≡ t)
stat_there None t is = absurd (cc is)
stat_there (Some bytes) t is = (bytes, refl, cc is)

-- where it is of its form, the stamp is one that the files hold
held_stamp : (files : Files) (folder : Segments) (t : Stamp) → IsStampFolder folder → IsTrue (is_stat_file (stat_name folder)) → AreStatsFormed files → stamp_at files folder ≡ Some t → IsHeldOrGreatest files folder t → HoldsStamp files t
held_stamp files folder t good name formed there (inl held) = inr (folder, (good.path, (good.bytes, held)))
held_stamp files folder t good name formed there (inr foreign) =
    let h = stat_there (file_at files (stat_name folder)) t there in
    let read : IsSome (stat_of h.0) = formed (stat_name folder) h.0 name h.1 in
    let none : stat_of h.0 ≡ None = ap (λ (o : Option Text). option_and_then stat_of o) (sym h.1) ∙ foreign.0 in
    absurd (cc (subst (λ (o : Option Stamp). IsSome o) none read))

-- ---- a session that begins

module _ (farm : Farm) (facts : CoverageFacts farm) (f g : Files) (e : ℕ) (log : List LogEntry) (h : HoldsClosed farm f log) (set : NumberSet e f g) (next : next_epoch f ≡ Ok e) (keeps : KeepsStatFiles f g) (stat_told : (folder : Segments) → IsTrue (is_path folder) → IsTrue (is_stat_file (stat_name folder)))
    (above : (files : Files) (epoch : ℕ) (t : Stamp) → HasNoLaterStamp files → next_epoch files ≡ Ok epoch → HoldsStamp files t → t.epoch < epoch)
    (page_held : (files : Files) (key : PageKey) (page : Page) → IsPageKey key → page_at files key ≡ Some page → IsPageStamp files page.stamp)
    (stat_held : (files : Files) (folder : Segments) (t : Stamp) → stamp_at files folder ≡ Some t → IsHeldOrGreatest files folder t) where
  same_page : (k : PageKey) → IsPageKey k → page_at g k ≡ page_at f k
  same_page k good = (set.beside.pages k good).page

  same_stat : (d : Segments) → IsStampFolder d → stamp_at g d ≡ stamp_at f d
  same_stat d good = set.beside.stamps d good.bytes

  all_before : AreBefore (page_at g) (stamp_at g) (stamp e 0)
  all_before = record {
    pages = λ k p good is. low_epoch p.stamp e 0 (above f e p.stamp h.holds.order next (inl (page_held f k p good (sym (same_page k good) ∙ is))));
    stats = λ d t good is. let was : stamp_at f d ≡ Some t = sym (same_stat d good) ∙ is in low_epoch t e 0 (above f e t h.holds.order next (held_stamp f d t good (stat_told d good.path) h.holds.formed was (stat_held f d t was)));
  }

  session_stands : CoreStands farm (page_at g) (stamp_at g) (epoch_held g) [] [] 0 0 e 0 (Session e ∷ log)
  session_stands =
      let pages = same_pages farm facts (page_at f) (page_at g) (stamp_at f) (stamp_at g) same_page same_stat log h.holds.pages in
      let held : epoch_held g ≡ e = set.here.held in
      let more : e ≡ epoch_held f + 1 = set.here.more in
      record {
        holds = record { may = pages.may; must = pages.must; touched = pages.touched };
        before = all_before;
        epochs = record { first = omega (arith, more); last = refl; current = omega (arith, held); risen = omega (arith, held); above = (omega (arith, held), above-more (epoch_held f + 1) (epoch_held g + 1) log (omega (arith, held, more)) h.holds.above) };
        counts = record { flights = refl; flushes = refl; stamps = refl };
        flying = record { each = tt; all = λ n k air. absurd (h.idle.0 n k air); rising = omega arith };
        flushing = record { each = tt; all = λ v inv u. absurd (h.idle.1 v inv u); head = tt };
        tied = record {
          pages = λ k p good is fresh low. absurd (none_drawn p.stamp e (all_before.pages k p good is) low);
          stats = λ d t good is low. absurd (none_drawn t e (all_before.stats d t good is) low);
          flying = tt;
          flushing = tt;
        };
      }

  pub session_over : (core : Core) → core.farm ≡ farm → core.flights ≡ [] → core.queue.items ≡ [] → core.asked ≡ 0 → core.begun ≡ 0 → core.epoch ≡ e → core.down ≡ false → Agrees core.pages g → StandsOver (files_counted f) g core (Session core.epoch ∷ log)
  session_over core farm_is flights_is queue_is asked_is begun_is epoch_is down_is agree = record {
    stands = rw (farm_is, flights_is, queue_is, asked_is, begun_is, epoch_is) session_stands;
    numbered = numbered_next e f g set.here;
    order = set.order h.holds.order;
    formed = kept_formed f g keeps h.holds.formed;
    heads = rw (epoch_is, asked_is, begun_is) (λ key head good is. low_epoch head.stamp e 0 (above f e head.stamp h.holds.order next (inl (key, (good, (head, (sym (set.beside.pages key good).head ∙ is, refl)))))));
    down_is = down_is;
    few = rw (asked_is, begun_is) (omega arith);
    slices = rw (farm_is, queue_is, epoch_is) (names_found farm f g e log set.names);
    knows = record { agree = agree; apart = rw (queue_is) tt };
  }

pub begins : (farm : Farm) → CoverageFacts farm → (told new : Option Files) (e : ℕ) → Told (NumberSet e) told new → IfSome told (λ f. next_epoch f ≡ Ok e) → Told KeepsStatFiles told new → ((folder : Segments) → IsTrue (is_path folder) → IsTrue (is_stat_file (stat_name folder)))
    → ((files : Files) (epoch : ℕ) (t : Stamp) → HasNoLaterStamp files → next_epoch files ≡ Ok epoch → HoldsStamp files t → t.epoch < epoch)
    → ((files : Files) (key : PageKey) (page : Page) → IsPageKey key → page_at files key ≡ Some page → IsPageStamp files page.stamp)
    → ((files : Files) (folder : Segments) (t : Stamp) → stamp_at files folder ≡ Some t → IsHeldOrGreatest files folder t)
    → ((index : PageIndex) (files : Files) → IsBare index → Agrees index files)
    → (core : Core) → IsNewCore farm e core → BeginsSession farm told new core
begins farm facts None new e t next keeps stat_told above page_held stat_held none core fresh = tt
begins farm facts (Some f) None e t next keeps stat_told above page_held stat_held none core fresh = absurd t
begins farm facts (Some f) (Some g) e t next keeps stat_told above page_held stat_held none core fresh = λ log h. session_over farm facts f g e log h t next keeps stat_told above page_held stat_held core fresh.farm_is fresh.flights fresh.queue fresh.asked fresh.begun fresh.epoch_is fresh.up (none core.pages g fresh.pages)

-- ---- a session that doesn't begin

pub keeps_holds : (farm : Farm) (facts : CoverageFacts farm) (f g : Files) (fault : OpenFault) → MayOpen fault f g → KeepsStatFiles f g → KeepsHolds farm f g
keeps_holds farm facts f g fault may keeps log h = record {
  pages = same_pages farm facts (page_at f) (page_at g) (stamp_at f) (stamp_at g) (λ k good. (may.beside.pages k good).page) (λ d good. may.beside.stamps d good.bytes) log h.pages;
  numbered = ⊎_elim (λ same. numbered_same f g same h.numbered) (λ n. numbered_next (epoch_held f + 1) f g n.1) may.here;
  above = above-more (epoch_held f + 1) (epoch_held g + 1) log (⊎_elim (λ same. let is : epoch_held g ≡ epoch_held f = same.held in omega (arith, is)) (λ n. let is : epoch_held g ≡ epoch_held f + 1 = n.1.held in omega (arith, is)) may.here) h.above;
  order = may.order h.order;
  formed = kept_formed f g keeps h.formed;
}

pub keeps_told : (farm : Farm) (facts : CoverageFacts farm) (told new : Option Files) (fault : OpenFault) → Told (MayOpen fault) told new → Told KeepsStatFiles told new → Told (KeepsHolds farm) told new
keeps_told farm facts None new fault t keeps = t
keeps_told farm facts (Some f) None fault t keeps = absurd t
keeps_told farm facts (Some f) (Some g) fault t keeps = keeps_holds farm facts f g fault t keeps

pub holds_same : (farm : Farm) (f : Files) → KeepsHolds farm f f
holds_same farm f log h = h

-- ---- what stands

pub held : (found : ℕ) (files : Files) (core : Core) (log : List LogEntry) → StandsOver found files core log → Holds core.farm files log
held found files core log s = record { pages = s.stands.holds; numbered = s.numbered; above = s.stands.epochs.above; order = s.order; formed = s.formed }

-- ---- no files

pub empty_held : (farm : Farm) → ((key : PageKey) → HasNoPage empty key) → HasNoLaterStamp empty → epoch_held empty ≡ 0 → next_epoch empty ≡ Ok 1 → HoldsClosed farm empty []
empty_held farm no_page later epoch next = record {
  holds = record {
    pages = record {
      may = λ key answer good is. absurd (cc (is, ap (λ (o : Option Page). served (is_auto farm key) (stat_for farm (stamp_at empty) key) o) (no_page key).page));
      must = λ key answer good must. absurd must;
      touched = λ inv folder done good there. absurd done;
    };
    numbered = next ∙ ap (λ (e : ℕ). after_epoch (Some e)) (sym epoch);
    above = tt;
    order = later;
    formed = λ name bytes is at. absurd (none_or_some (file_at empty name) bytes (get-empty by_name name) at);
  };
  idle = (λ n k air. air, λ v inv u. u);
}
