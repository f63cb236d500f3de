-- A hit, a flight that is asked and a flush that begins keep what is stood for.
use Rattle.std.proofs.Common.{◌≡◌, ◌+◌, ℕ, true, false, List, [], ◌∷◌, ◌++◌, Some, None, inl, inr, refl, sym, ◌∙◌, ap, subst, arith, ⊎_elim, map}
use Rattle.any_config.specs.declared.farm.Farm.{Farm}
use Rattle.cover_rules.specs.Pages.{IsPageKey}
use Rattle.cover_rules.specs.declared.page.PageKey.{PageKey}
use Rattle.cover_rules.specs.declared.stamp.Stamp.{Stamp}
use Rattle.cover_rules.specs.declared.invalidation.Invalidation.{Invalidation}
use Rattle.cover_rules.specs.Coverage.{stat_folder}
use Rattle.dispatch_rules.specs.Caching.{is_auto}
use Rattle.flights.specs.declared.flight.Flight.{Flight}
use Rattle.flights.specs.Flights.{AreRising, after_invalidation}
use Rattle.cache_log.specs.Entries.{LogEntry, Asked, Begun, Hit, flights_asked, flushes_begun}
use Rattle.cache_log.specs.Hits.{Covers, Unfinished}
use Rattle.coherence_core.specs.Facts.{CoverageFacts}
use Rattle.coherence_core.specs.Served.{Before, Pages, Stamps, stat_for}
use Rattle.coherence_core.specs.StampTies.{stamp_after}
use Rattle.coherence_core.specs.Stands.{HasFlush, CoreStands, stamp}
use Rattle.coherence_core.specs.declared.pending.Pending.{Pending}
use Rattle.coherence_core.proofs.StampLemmas.{before_next, drawn_next, fresh_from}
use Rattle.coherence_core.proofs.FlightLemmas.{asked_flying, begun_flying, flights_to, has_first, has_last, has_map, same_ok}
use Rattle.coherence_core.proofs.TieLemmas.{asked_drawn, begun_drawn, map_drawn}
use Rattle.coherence_core.proofs.FlushLemmas.{begun_queue, flush_first, flush_last, flushes_to, push_head, spared}

module _ (farm : Farm) (page : Pages) (stat : Stamps) (held : ℕ) (flights : List Flight) (queue : List Pending) (asked begun epoch drawn : ℕ) (log : List LogEntry) (s : CoreStands farm page stat held flights queue asked begun epoch drawn log) where
  -- the stamp that is drawn next is that of the log
  drawn_by_log : stamp epoch drawn ≡ stamp_after log
  drawn_by_log = (λ i. stamp (sym s.epochs.last i) (s.counts.stamps i))

  -- an answer from the store
  pub hit : (key : PageKey) → CoreStands farm page stat held flights queue asked begun epoch drawn (Hit key ∷ log)
  hit key = record {
    holds = record { may = s.holds.may; must = s.holds.must; touched = s.holds.touched };
    before = s.before;
    epochs = record { first = s.epochs.first; last = s.epochs.last; current = s.epochs.current; risen = s.epochs.risen; above = s.epochs.above };
    counts = record { flights = s.counts.flights; flushes = s.counts.flushes; stamps = s.counts.stamps };
    flying = record {
      each = flights_to farm log (Hit key ∷ log) stat stat asked asked (stamp epoch drawn) (stamp epoch drawn) flights (λ f ok. same_ok farm log (Hit key ∷ log) stat asked (stamp epoch drawn) (stamp epoch drawn) f (λ h. h) (λ h. h) (λ k h. h) (λ k h. h) ok) s.flying.each;
      all = s.flying.all;
      rising = s.flying.rising;
    };
    flushing = record {
      each = flushes_to farm page page log (Hit key ∷ log) begun begun (stamp epoch drawn) (stamp epoch drawn) queue (λ p ok. spared farm page log (Hit key ∷ log) begun (stamp epoch drawn) (stamp epoch drawn) p (λ h. h) (λ v i h. h) ok) s.flushing.each;
      all = s.flushing.all;
      head = s.flushing.head;
    };
    tied = record { pages = s.tied.pages; stats = s.tied.stats; flying = s.tied.flying; flushing = s.tied.flushing };
  }

  -- a flight, voided exactly where an unfinished flush covers its page
  pub launch : CoverageFacts farm → (f : Flight) → f.number ≡ asked + 1 → f.stamp ≡ stamp epoch drawn → AreRising 0 (flights ++ f ∷ []) (asked + 1)
      → ((k : PageKey) → f.key ≡ Some k → IsPageKey k × (f.auto ≡ is_auto farm k))
      → (f.voided ≡ false → (k : PageKey) → f.key ≡ Some k → (v : ℕ) (inv : Invalidation) → HasFlush queue v inv → Covers farm inv k → ⊥)
      → (f.voided ≡ true → (k : PageKey) → f.key ≡ Some k → (v : ℕ) × (inv : Invalidation) × Unfinished log v inv × Covers farm inv k)
      → CoreStands farm page stat held (flights ++ f ∷ []) queue (asked + 1) begun epoch (drawn + 1) (Asked (asked + 1) f.key ∷ log)
  launch facts f num st rising good free bar = record {
    holds = record { may = s.holds.may; must = s.holds.must; touched = s.holds.touched };
    before = record {
      pages = λ k p ok is. before_next p.stamp epoch drawn (s.before.pages k p ok is);
      stats = λ g t ok is. before_next t epoch drawn (s.before.stats g t ok is);
    };
    epochs = record { first = s.epochs.first; last = s.epochs.last; current = s.epochs.current; risen = s.epochs.risen; above = s.epochs.above };
    counts = record { flights = ap (λ (n : ℕ). n + 1) s.counts.flights; flushes = s.counts.flushes; stamps = let is : drawn ≡ flights_asked log + flushes_begun log = s.counts.stamps in omega (arith, is) };
    flying = record {
      each = asked_flying farm log stat asked epoch drawn f.key flights f num s.flying.each (record {
        below = omega (arith, num);
        drawn = subst (λ (x : Stamp). Before x (stamp epoch (drawn + 1))) (sym st) (drawn_next epoch drawn);
        in_air = inl (sym num, refl);
        keyed = λ k is. record {
          page = (good k is).0;
          auto_is = (good k is).1;
          clear = λ o. inl (sym num, is, λ v inv u. free o k is v inv (s.flushing.all v inv u));
          fresh = λ o. fresh_from (is_auto farm k) (stat_for farm stat k) f.stamp (λ t there. subst (λ (x : Stamp). Before t x) (sym st) (s.before.stats (stat_folder farm.level k) t (facts.folder k (good k is).0) there));
          voided = λ o c. let b = bar o k is in ⊎_elim (λ x. x.2 b.0 b.1 b.2 b.3) (λ x. x.0 (sym num)) c;
        };
      });
      all = λ n k air. ⊎_elim (λ h. has_last flights f n k (num ∙ h.0) h.1) (λ h. has_first flights f n k (s.flying.all n k h.1)) air;
      rising = rising;
    };
    flushing = record {
      each = flushes_to farm page page log (Asked (asked + 1) f.key ∷ log) begun begun (stamp epoch drawn) (stamp epoch (drawn + 1)) queue (λ p ok. spared farm page log (Asked (asked + 1) f.key ∷ log) begun (stamp epoch drawn) (stamp epoch (drawn + 1)) p (before_next p.purge.stamp epoch drawn) (λ v i h. h) ok) s.flushing.each;
      all = s.flushing.all;
      head = s.flushing.head;
    };
    tied = record {
      pages = s.tied.pages;
      stats = s.tied.stats;
      flying = asked_drawn farm log stat asked (stamp epoch drawn) f.key flights f num (st ∙ drawn_by_log) s.flying.each s.tied.flying;
      flushing = s.tied.flushing;
    };
  }

  -- a flush
  pub begin : (q : Pending) → q.number ≡ begun + 1 → q.purge.stamp ≡ stamp epoch drawn → q.purge.place ≡ None → q.purge.level ≡ farm.level → AreRising 0 (map (after_invalidation farm.level q.purge.inv) flights) asked
      → CoreStands farm page stat held (map (after_invalidation farm.level q.purge.inv) flights) (queue ++ q ∷ []) asked (begun + 1) epoch (drawn + 1) (Begun (begun + 1) q.purge.inv ∷ log)
  begin q num st not level rising = record {
    holds = record { may = s.holds.may; must = λ k a good must. s.holds.must k a good must.1; touched = s.holds.touched };
    before = record {
      pages = λ k p ok is. before_next p.stamp epoch drawn (s.before.pages k p ok is);
      stats = λ g t ok is. before_next t epoch drawn (s.before.stats g t ok is);
    };
    epochs = record { first = s.epochs.first; last = s.epochs.last; current = s.epochs.current; risen = s.epochs.risen; above = s.epochs.above };
    counts = record { flights = s.counts.flights; flushes = ap (λ (n : ℕ). n + 1) s.counts.flushes; stamps = let is : drawn ≡ flights_asked log + flushes_begun log = s.counts.stamps in omega (arith, is) };
    flying = record {
      each = begun_flying farm log stat asked epoch drawn (begun + 1) q.purge.inv flights s.flying.each;
      all = λ n k air. has_map farm.level q.purge.inv n k flights (s.flying.all n k air);
      rising = rising;
    };
    flushing = record {
      each = begun_queue farm page log begun epoch drawn q.purge.inv queue q num st not s.flushing.each (record {
        below = omega (arith, num);
        level_is = level;
        drawn = subst (λ (x : Stamp). Before x (stamp epoch (drawn + 1))) (sym st) (drawn_next epoch drawn);
        unfinished = inl (sym num, refl);
        older = λ k p ok is cov. subst (λ (x : Stamp). Before p.stamp x) (sym st) (s.before.pages k p ok is);
      });
      all = λ v i unfinished. ⊎_elim (λ h. flush_last queue q v i (num ∙ h.0) h.1) (λ h. flush_first queue v i q (s.flushing.all v i h)) unfinished;
      head = push_head page stat queue q s.flushing.head not (λ g t ok is. subst (λ (x : Stamp). Before t x) (sym st) (s.before.stats g t ok is));
    };
    tied = record {
      pages = s.tied.pages;
      stats = λ g t ok is low. let old = s.tied.stats g t ok is low in (old.0, old.1, inr old.2, old.3);
      flying = map_drawn farm.level q.purge.inv log flights s.tied.flying;
      flushing = begun_drawn log (begun + 1) q.purge.inv queue q num refl (st ∙ drawn_by_log) s.tied.flushing;
    };
  }
