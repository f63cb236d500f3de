-- A restart keeps what is stood for, and so do files that hold the same pages and stamps.
use Rattle.std.proofs.Common.{◌≡◌, ◌≤◌, ◌+◌, ℕ, List, [], ◌∷◌, Option, IsSome, refl, sym, ◌∙◌, subst, arith}
use Rattle.sp_base.specs.Texts.{Segments}
use Rattle.any_config.specs.declared.farm.Farm.{Farm}
use Rattle.cover_rules.specs.Pages.{IsPageKey}
use Rattle.cover_rules.specs.declared.page.PageKey.{PageKey}
use Rattle.cover_rules.specs.declared.stamp.Stamp.{Stamp}
use Rattle.cover_rules.specs.Coverage.{stat_folder}
use Rattle.dispatch_rules.specs.Caching.{is_auto}
use Rattle.docroot_changes.specs.Changes.{IsStampFolder}
use Rattle.flights.specs.declared.flight.Flight.{Flight}
use Rattle.cache_log.specs.Entries.{LogEntry, Down, Up}
use Rattle.coherence_core.specs.Facts.{CoverageFacts}
use Rattle.coherence_core.specs.Served.{IsFresh, Pages, Stamps, served, serves_page}
use Rattle.coherence_core.specs.Stands.{AreLogFlushes, HasHeadAtWork, HoldsPages, CoreStands, stamp}
use Rattle.coherence_core.specs.declared.pending.Pending.{Pending}
use Rattle.cache_log.proofs.LegalLemmas.{above-more}
use Rattle.coherence_core.proofs.StampLemmas.{before_epoch}
use Rattle.coherence_core.proofs.FlightLemmas.{flights_to}
use Rattle.coherence_core.proofs.FlushLemmas.{flushes_to}

-- a restart, with nothing in the air and nothing unfinished
module _ (farm : Farm) (page : Pages) (stat : Stamps) (held : ℕ) (asked begun epoch drawn : ℕ) (log : List LogEntry) (s : CoreStands farm page stat held [] [] asked begun epoch drawn log) where
  -- it comes up with the number after that of the files
  pub up : CoreStands farm page stat (held + 1) [] [] asked begun (held + 1) drawn (Up (held + 1) ∷ log)
  up = record {
    holds = record { may = s.holds.may; must = s.holds.must; touched = s.holds.touched };
    before = record {
      pages = λ k p ok is. before_epoch p.stamp epoch drawn (held + 1) drawn (s.before.pages k p ok is) (omega (arith, s.epochs.current));
      stats = λ f t ok is. before_epoch t epoch drawn (held + 1) drawn (s.before.stats f t ok is) (omega (arith, s.epochs.current));
    };
    epochs = record { first = omega arith; last = refl; current = omega arith; risen = omega arith; above = (omega arith, above-more (held + 1) (held + 1 + 1) log (omega arith) s.epochs.above) };
    counts = record { flights = s.counts.flights; flushes = s.counts.flushes; stamps = s.counts.stamps };
    flying = record { each = tt; all = s.flying.all; rising = s.flying.rising };
    flushing = record { each = tt; all = s.flushing.all; head = tt };
    tied = record { pages = s.tied.pages; stats = s.tied.stats; flying = tt; flushing = tt };
  }

  -- it goes down, and the number may have been raised
  pub down : (now : ℕ) → held ≤ now → now ≤ held + 1 → CoreStands farm page stat now [] [] asked begun epoch drawn (Down ∷ log)
  down now le most = record {
    holds = record { may = s.holds.may; must = s.holds.must; touched = s.holds.touched };
    before = s.before;
    epochs = record { first = s.epochs.first; last = s.epochs.last; current = omega (arith, s.epochs.current, le); risen = omega (arith, s.epochs.risen, most); above = above-more (held + 1) (now + 1) log (omega (arith, le)) s.epochs.above };
    counts = record { flights = s.counts.flights; flushes = s.counts.flushes; stamps = s.counts.stamps };
    flying = record { each = tt; all = s.flying.all; rising = s.flying.rising };
    flushing = record { each = tt; all = s.flushing.all; head = tt };
    tied = record { pages = s.tied.pages; stats = s.tied.stats; flying = tt; flushing = tt };
  }

-- files that hold the same pages and stamps, of page keys and of folders that may have one
module _ (farm : Farm) (facts : CoverageFacts farm) (page after : Pages) (stat now : Stamps) (pages : (k : PageKey) → IsPageKey k → after k ≡ page k) (stats : (f : Segments) → IsStampFolder f → now f ≡ stat f) where
  same_serves : (k : PageKey) → IsPageKey k → serves_page farm after now k ≡ serves_page farm page stat k
  same_serves k good = (λ i. served (is_auto farm k) (stats (stat_folder farm.level k) (facts.folder k good) i) (pages k good i))

  pub same_pages : (log : List LogEntry) → HoldsPages farm page stat log → HoldsPages farm after now log
  same_pages log s = record {
    may = λ k a good is. s.may k a good (sym (same_serves k good) ∙ is);
    must = λ k a good must. same_serves k good ∙ s.must k a good must;
    touched = λ inv f done good there. subst (λ (o : Option Stamp). IsSome o) (sym (stats f good)) (s.touched inv f done good there);
  }

  same_flushes : (log : List LogEntry) (b : ℕ) (s : Stamp) (ps : List Pending) → AreLogFlushes farm page log b s ps → AreLogFlushes farm after log b s ps
  same_flushes log b s ps all = flushes_to farm page after log log b b s s ps (λ p ok. record { below = ok.below; level_is = ok.level_is; drawn = ok.drawn; unfinished = ok.unfinished; older = λ k q good is cov. ok.older k q good (sym (pages k good) ∙ is) cov }) all

  same_head : (ps : List Pending) → HasHeadAtWork page stat ps → HasHeadAtWork after now ps
  same_head [] head = tt
  same_head (p ∷ ps) head = record {
    newest = λ f t good is. head.newest f t good (sym (stats f good) ∙ is);
    progress = record { touched = λ begun f good there. stats f good ∙ head.progress.touched begun f good there; gone = λ k good del behind. pages k good ∙ head.progress.gone k good del behind };
  }

  pub same_files : (held : ℕ) (flights : List Flight) (queue : List Pending) (asked begun epoch drawn : ℕ) (log : List LogEntry) → CoreStands farm page stat held flights queue asked begun epoch drawn log → CoreStands farm after now held flights queue asked begun epoch drawn log
  same_files held flights queue asked begun epoch drawn log s = record {
    holds = same_pages log s.holds;
    before = record {
      pages = λ k p good is. s.before.pages k p good (sym (pages k good) ∙ is);
      stats = λ f t good is. s.before.stats f t good (sym (stats f good) ∙ is);
    };
    epochs = s.epochs;
    counts = s.counts;
    flying = record {
      each = flights_to farm log log stat now asked asked (stamp epoch drawn) (stamp epoch drawn) flights (λ f ok. record {
        below = ok.below;
        drawn = ok.drawn;
        in_air = ok.in_air;
        keyed = λ k is. let kk = ok.keyed k is in record { page = kk.page; auto_is = kk.auto_is; clear = kk.clear; voided = kk.voided; fresh = λ o. subst (λ (t : Option Stamp). IsFresh (is_auto farm k) t f.stamp) (sym (stats (stat_folder farm.level k) (facts.folder k kk.page))) (kk.fresh o) };
      }) s.flying.each;
      all = s.flying.all;
      rising = s.flying.rising;
    };
    flushing = record { each = same_flushes log begun (stamp epoch drawn) queue s.flushing.each; all = s.flushing.all; head = same_head queue s.flushing.head };
    tied = record {
      pages = λ k p good is fresh low. s.tied.pages k p good (sym (pages k good) ∙ is) (subst (λ (t : Option Stamp). IsFresh (is_auto farm k) t p.stamp) (stats (stat_folder farm.level k) (facts.folder k good)) fresh) low;
      stats = λ f t good is low. s.tied.stats f t good (sym (stats f good) ∙ is) low;
      flying = s.tied.flying;
      flushing = s.tied.flushing;
    };
  }
