-- A session that was just opened, and what stands where there is no page and no stamp.
use Rattle.std.proofs.Common.{◌≡◌, ◌≢◌, ◌≤◌, ◌+◌, ℕ, List, [], ◌∷◌, Option, Some, None, IsTrue, inl, inr, refl, sym, ◌∙◌, ap, subst, arith, ⊎_elim, option_map, unwrap_or}
use Rattle.std.specs.Option.{option_and_then}
use Rattle.sp_base.specs.Paths.{is_path}
use Rattle.sp_base.specs.Texts.{Segments, Text}
use Rattle.sp_outside.specs.Calls.{Call}
use Rattle.sp_outside.specs.Files.{Files, file_at}
use Rattle.cover_rules.specs.Pages.{IsPageKey}
use Rattle.cover_rules.specs.declared.page.PageKey.{PageKey}
use Rattle.dispatch_rules.specs.Caching.{is_auto}
use Rattle.docroot_format.specs.Names.{body_name, epoch_name, head_name, is_page_file, is_stat_file, stat_name}
use Rattle.docroot_format.specs.Readings.{HeadLine, epoch_of, head_of, stat_of}
use Rattle.cache_files.specs.declared.epoch.OpenFault.{OpenFault}
use Rattle.cache_files.specs.declared.epoch.OpenFault.TheVariants as open_fault
use Rattle.cache_files.specs.declared.page.Page.{Page}
use Rattle.cache_files.specs.Epochs.{IsOpenLeft, after_epoch, epoch_after, epoch_held}
use Rattle.cache_files.specs.HeldStamps.{HasNoLaterStamp}
use Rattle.cache_files.specs.Pages.{head_at, note_of, page_at, page_body_name, page_head_name, stored_page}
use Rattle.stat_files.specs.Stamps.{stamp_at, stamp_in}
use Rattle.docroot_changes.specs.Changes.{NumberSet, Told}
use Rattle.cache_log.specs.Entries.{Session}
use Rattle.coherence_core.specs.Bounds.{BoundsSlices}
use Rattle.coherence_core.specs.Cores.{StandsOver}
use Rattle.coherence_core.specs.Holds.{files_counted}
use Rattle.coherence_core.specs.Openings.{IsCleared, IsCoreOpened, OpensCore}
use Rattle.coherence_core.specs.Served.{served, stat_for}
use Rattle.coherence_core.specs.Sessions.{IsNewCore}
use Rattle.coherence_core.specs.Stands.{CoreStands}
use Rattle.coherence_core.specs.declared.core_state.Core.{Core}
use Rattle.page_index.specs.Agreement.{Agrees}
use Rattle.page_index.specs.Effects.{IsBare}
use Rattle.page_index.specs.declared.index.PageIndex.{PageIndex}
use Rattle.coherence_core.proofs.CallLemmas.{told_map}
use Rattle.coherence_core.proofs.SessionLemmas.{numbered_next}
use Rattle.coherence_core.proofs.SliceBounds.{counted_adds}

-- ---- a session that is opened

opened : (f g : Files) (e : ℕ) (core : Core) → NumberSet e f g → IsNewCore core.farm e core → IsCoreOpened (files_counted f) g core
opened f g e core set fresh = record {
  held = set.here.held ∙ sym fresh.epoch_is;
  first = let is : core.epoch ≡ e = fresh.epoch_is in let more : e ≡ epoch_held f + 1 = set.here.more in omega (arith, is, more);
  numbered = numbered_next e f g set.here;
  flights = fresh.flights;
  queue = fresh.queue;
  asked = fresh.asked;
  begun = fresh.begun;
  up = fresh.up;
  pages = fresh.pages;
  few = counted_adds 1 f g set.names;
}

pub opens : (e : ℕ) (told new : Option Files) → Told (NumberSet e) told new → (core : Core) → IsNewCore core.farm e core → OpensCore told new core
opens e told new t core fresh = told_map (NumberSet e) (λ old g. IsCoreOpened (files_counted old) g core) told new (λ f g set. opened f g e core set fresh) t

-- an opening that failed, but by the disk, leaves the files
pub unopened : (asked made : Option (List Call)) (told new : Option Files) (fault : OpenFault) → IsOpenLeft asked made told new fault → fault ≢ open_fault.Disk → new ≡ told
unopened asked made told new fault (inl h) ne = h.1
unopened asked made told new fault (inr (inl h)) ne = h.1
unopened asked made told new fault (inr (inr h)) ne = ⊎_elim (λ same. same) (λ disk. absurd (ne disk.0)) h.1.1.1

-- files that go, but for that of the number
pub stays_opened : (found : ℕ) (files after : Files) (core : Core) → IsCoreOpened found files core → file_at after epoch_name ≡ file_at files epoch_name → files_counted after ≤ files_counted files → IsCoreOpened found after core
stays_opened found files after core o same fewer = record {
  held = ap (λ (b : Option Text). unwrap_or (option_and_then epoch_of b) 0) same ∙ o.held;
  first = o.first;
  numbered = subst (λ (b : Option Text). epoch_after b ≡ after_epoch (Some (unwrap_or (option_and_then epoch_of b) 0))) (sym same) o.numbered;
  flights = o.flights;
  queue = o.queue;
  asked = o.asked;
  begun = o.begun;
  up = o.up;
  pages = o.pages;
  few = omega (arith, fewer, o.few);
}

-- ---- no page and no stamp

module _ (files : Files) (cleared : IsCleared files)
    (body_told : (key : PageKey) → IsPageKey key → IsTrue (is_page_file (body_name key.folder key.file)))
    (head_told : (key : PageKey) → IsPageKey key → IsTrue (is_page_file (head_name key.folder key.file)))
    (stat_told : (folder : Segments) → IsTrue (is_path folder) → IsTrue (is_stat_file (stat_name folder))) where
  no_page : (k : PageKey) → IsPageKey k → page_at files k ≡ None
  no_page k good = ap (λ (head : Option Text). option_and_then (λ (line : HeadLine). option_and_then (stored_page line) (file_at files (page_body_name k))) (option_and_then head_of head)) (cleared.pages (page_head_name k) (head_told k good))

  no_head : (k : PageKey) → IsPageKey k → head_at files k ≡ None
  no_head k good = ap (λ (head : Option Text). option_map note_of (option_and_then head_of head)) (cleared.pages (page_head_name k) (head_told k good))

  no_stat : (folder : Segments) → IsTrue (is_path folder) → file_at files (stat_name folder) ≡ None
  no_stat folder path = cleared.stats (stat_name folder) (stat_told folder path)

  no_stamp : (folder : Segments) → IsTrue (is_path folder) → stamp_at files folder ≡ None
  no_stamp folder path = ap (option_map stamp_in) (no_stat folder path)

  none_later : HasNoLaterStamp files
  none_later stamp (inl page) = absurd (cc (page.1.1.1.0, no_head page.0 page.1.0))
  none_later stamp (inr folder) = absurd (cc (folder.1.1.1, ap (option_and_then stat_of) (no_stat folder.0 folder.1.0)))

  module _ (none : (index : PageIndex) (files : Files) → IsBare index → Agrees index files) (found : ℕ) (core : Core) (o : IsCoreOpened found files core) where
    log_stands : CoreStands core.farm (page_at files) (stamp_at files) (epoch_held files) [] [] 0 0 core.epoch 0 (Session core.epoch ∷ [])
    log_stands = record {
      holds = record {
        may = λ k a good is. absurd (cc (is, ap (λ (p : Option Page). served (is_auto core.farm k) (stat_for core.farm (stamp_at files) k) p) (no_page k good)));
        must = λ k a good must. absurd must;
        touched = λ inv folder done good there. absurd done;
      };
      before = record {
        pages = λ k p good is. absurd (cc (is, no_page k good));
        stats = λ folder t good is. absurd (cc (is, no_stamp folder good.path));
      };
      epochs = record { first = o.first; last = refl; current = omega (arith, o.held); risen = omega (arith, o.held); above = (omega (arith, o.held), tt) };
      counts = record { flights = refl; flushes = refl; stamps = refl };
      flying = record { each = tt; all = λ n k air. absurd air; rising = omega arith };
      flushing = record { each = tt; all = λ v inv u. absurd u; head = tt };
      tied = record {
        pages = λ k p good is fresh low. absurd (cc (is, no_page k good));
        stats = λ folder t good is low. absurd (cc (is, no_stamp folder good.path));
        flying = tt;
        flushing = tt;
      };
    }

    log_bounds : BoundsSlices core.farm found files [] (Session core.epoch ∷ [])
    log_bounds = record {
      bound = λ v. omega arith;
      files_left = let few : files_counted files ≤ found + 1 = o.few in omega (arith, few);
      names_left = tt;
      unbegun = λ v lt. refl;
    }

    pub log_begins : StandsOver found files core (Session core.epoch ∷ [])
    log_begins = record {
      stands = rw (o.flights, o.queue, o.asked, o.begun) log_stands;
      numbered = o.numbered;
      order = none_later;
      formed = λ name bytes is at. absurd (cc (at, cleared.stats name is));
      heads = λ key head good is. absurd (cc (is, no_head key good));
      down_is = o.up;
      few = rw (o.asked, o.begun) (omega arith);
      slices = rw (o.queue) log_bounds;
      knows = record { agree = none core.pages files o.pages; apart = rw (o.queue) tt };
    }
