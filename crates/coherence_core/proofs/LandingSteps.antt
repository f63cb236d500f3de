-- A flight that is lost or lands keeps what is stood for.
use Rattle.std.proofs.Common.{◌≡◌, ◌≢◌, ◌⊎◌, ℕ, true, List, [], ◌∷◌, Option, Some, None, inl, inr, sym, ◌∙◌, ap, subst, ⊎_elim}
use Rattle.sp_base.specs.declared.answer.Answer.{Answer}
use Rattle.any_config.specs.declared.farm.Farm.{Farm}
use Rattle.cover_rules.specs.Pages.{IsPageKey}
use Rattle.cover_rules.specs.declared.page.PageKey.{PageKey}
use Rattle.cover_rules.specs.declared.invalidation.Invalidation.{Invalidation}
use Rattle.cover_rules.specs.Coverage.{deletes}
use Rattle.dispatch_rules.specs.Caching.{is_auto}
use Rattle.cache_files.specs.declared.page.Page.{Page}
use Rattle.flights.specs.declared.flight.Flight.{Flight}
use Rattle.flights.specs.Flights.{AreRising, without}
use Rattle.cache_log.specs.Entries.{LogEntry, Fate, Kept, Landed, Lost, Passed, Unkept}
use Rattle.cache_log.specs.Hits.{Covers, IsClear, NoneDoneSince, stored}
use Rattle.cache_log.proofs.HitLemmas.{clear-none-done, clear-unfinished}
use Rattle.coherence_core.specs.Facts.{CoverageFacts}
use Rattle.coherence_core.specs.Served.{Before, IsFresh, Pages, Stamps, served, serves_page, stat_for}
use Rattle.coherence_core.specs.StampTies.{IsFlightStamp}
use Rattle.coherence_core.specs.Stands.{AreBefore, AreLogFlushes, HasHeadAtWork, HoldsFlights, HoldsFlushes, CoreStands, stamp}
use Rattle.coherence_core.specs.declared.pending.Pending.{Pending}
use Rattle.coherence_core.proofs.StampLemmas.{served_page, serves_fresh}
use Rattle.coherence_core.proofs.FlightLemmas.{has_without, same_ok, without_to}
use Rattle.coherence_core.proofs.FlushLemmas.{flushes_to, spared}
use Rattle.coherence_core.proofs.TieLemmas.{without_drawn}

same_some : {A : Type 0} {k l : A} → Some k ≡ Some l → k ≡ l
same_some e = cc e

module _ (farm : Farm) (page : Pages) (stat : Stamps) (held : ℕ) (flights : List Flight) (queue : List Pending) (asked begun epoch drawn : ℕ) (log : List LogEntry) (s : CoreStands farm page stat held flights queue asked begun epoch drawn log) (n : ℕ) (rising : AreRising 0 (without n flights) asked) where
  pub lost : CoreStands farm page stat held (without n flights) queue asked begun epoch drawn (Lost n ∷ log)
  lost = record {
    holds = record { may = s.holds.may; must = s.holds.must; touched = s.holds.touched };
    before = s.before;
    epochs = record { first = s.epochs.first; last = s.epochs.last; current = s.epochs.current; risen = s.epochs.risen; above = s.epochs.above };
    counts = record { flights = s.counts.flights; flushes = s.counts.flushes; stamps = s.counts.stamps };
    flying = record {
      each = without_to farm log (Lost n ∷ log) stat asked n (stamp epoch drawn) flights (λ f ne ok. same_ok farm log (Lost n ∷ log) stat asked (stamp epoch drawn) (stamp epoch drawn) f (λ h. h) (λ h. ((λ e. ne (sym e)), h)) (λ k h. h) (λ k h. h) ok) s.flying.each;
      all = λ m k air. has_without n m k flights air.0 (s.flying.all m k air.1);
      rising = rising;
    };
    flushing = record {
      each = flushes_to farm page page log (Lost n ∷ log) begun begun (stamp epoch drawn) (stamp epoch drawn) queue (λ p ok. spared farm page log (Lost n ∷ log) begun (stamp epoch drawn) (stamp epoch drawn) p (λ h. h) (λ v i h. h) ok) s.flushing.each;
      all = s.flushing.all;
      head = s.flushing.head;
    };
    tied = record { pages = s.tied.pages; stats = s.tied.stats; flying = without_drawn log n flights s.tied.flying; flushing = s.tied.flushing };
  }

  landed_flying : (key : Option PageKey) (b : Answer) (fate : Fate) → HoldsFlights farm (Landed n key b fate ∷ log) stat asked (stamp epoch drawn) (without n flights)
  landed_flying key b fate = record {
    each = without_to farm log (Landed n key b fate ∷ log) stat asked n (stamp epoch drawn) flights (λ f ne ok. same_ok farm log (Landed n key b fate ∷ log) stat asked (stamp epoch drawn) (stamp epoch drawn) f (λ h. h) (λ h. ((λ e. ne (sym e)), h)) (λ k h. h) (λ k h. h) ok) s.flying.each;
    all = λ m k air. has_without n m k flights air.0 (s.flying.all m k air.1);
    rising = rising;
  }

  pub passed : (key : Option PageKey) (b : Answer) → CoreStands farm page stat held (without n flights) queue asked begun epoch drawn (Landed n key b Passed ∷ log)
  passed key b = record {
    holds = record { may = s.holds.may; must = s.holds.must; touched = s.holds.touched };
    before = s.before;
    epochs = record { first = s.epochs.first; last = s.epochs.last; current = s.epochs.current; risen = s.epochs.risen; above = s.epochs.above };
    counts = record { flights = s.counts.flights; flushes = s.counts.flushes; stamps = s.counts.stamps };
    flying = landed_flying key b Passed;
    flushing = record {
      each = flushes_to farm page page log (Landed n key b Passed ∷ log) begun begun (stamp epoch drawn) (stamp epoch drawn) queue (λ p ok. spared farm page log (Landed n key b Passed ∷ log) begun (stamp epoch drawn) (stamp epoch drawn) p (λ h. h) (λ v i h. h) ok) s.flushing.each;
      all = s.flushing.all;
      head = s.flushing.head;
    };
    tied = record { pages = s.tied.pages; stats = s.tied.stats; flying = without_drawn log n flights s.tied.flying; flushing = s.tied.flushing };
  }

  -- where a write may have left p, each page that is there is an old one, or p
  module _ (key : PageKey) (b : Answer) (p : Page) (answer_is : p.answer ≡ stored b) (after : Pages)
      (put : (k : PageKey) → IsPageKey k → (after k ≡ page k) ⊎ ((key ≡ k) × ((after k ≡ Some p) ⊎ (after k ≡ None))))
      (clear : IsClear farm log n key) (own : Before p.stamp (stamp epoch drawn)) (drew : IsFlightStamp log n p.stamp) where
    put_cases : (k : PageKey) (q : Page) → IsPageKey k → after k ≡ Some q → (page k ≡ Some q) ⊎ ((key ≡ k) × (p ≡ q))
    put_cases k q good is = ⊎_elim
        (λ (same : after k ≡ page k). inl (sym same ∙ is))
        (λ (h : (key ≡ k) × ((after k ≡ Some p) ⊎ (after k ≡ None))). inr (h.0, ⊎_elim (λ (e : after k ≡ Some p). same_some (sym e ∙ is)) (λ (e : after k ≡ None). absurd (cc (e, is))) h.1))
        (put k good)

    put_before : AreBefore after stat (stamp epoch drawn)
    put_before = record {
      pages = λ k q good is. ⊎_elim (λ (old : page k ≡ Some q). s.before.pages k q good old) (λ (h : (key ≡ k) × (p ≡ q)). subst (λ (r : Page). Before r.stamp (stamp epoch drawn)) h.1 own) (put_cases k q good is);
      stats = s.before.stats;
    }

    put_serves : (k : PageKey) (a : Answer) → IsPageKey k → serves_page farm after stat k ≡ Some a → (serves_page farm page stat k ≡ Some a) ⊎ ((key ≡ k) × (stored b ≡ a))
    put_serves k a good is =
        let q = served_page (is_auto farm k) (stat_for farm stat k) (after k) a is in
        ⊎_elim
        (λ (old : page k ≡ Some q.0). inl (ap (λ (o : Option Page). served (is_auto farm k) (stat_for farm stat k) o) (old ∙ sym q.1) ∙ is))
        (λ (h : (key ≡ k) × (p ≡ q.0)). inr (h.0, sym answer_is ∙ ap (λ (r : Page). r.answer) h.1 ∙ q.2))
        (put_cases k q.0 good q.1)

    -- it has the stamp of its flight
    new_tied : (k : PageKey) (q : Page) → key ≡ k → p ≡ q → (Some key ≡ Some k) × (stored b ≡ q.answer) × NoneDoneSince farm log n k × IsFlightStamp log n q.stamp
    new_tied k q same one = (
      ap (λ (l : PageKey). Some l) same,
      sym answer_is ∙ ap (λ (r : Page). r.answer) one,
      subst (λ (l : PageKey). NoneDoneSince farm log n l) same (clear-none-done farm log n key clear),
      subst (λ (r : Page). IsFlightStamp log n r.stamp) one drew,
    )

    -- what the oldest flush has looked at is gone still: a clear flight's page isn't one that it covers
    put_head : (deleted : (inv : Invalidation) (k : PageKey) → deletes inv k ≡ true → Covers farm inv k) (ps : List Pending) → AreLogFlushes farm page log begun (stamp epoch drawn) ps → HasHeadAtWork page stat ps → HasHeadAtWork after stat ps
    put_head deleted [] all head = tt
    put_head deleted (r ∷ rs) all head = record {
      newest = head.newest;
      progress = record {
        touched = head.progress.touched;
        gone = λ k good del behind. ⊎_elim
            (λ (same : after k ≡ page k). same ∙ head.progress.gone k good del behind)
            (λ (h : (key ≡ k) × ((after k ≡ Some p) ⊎ (after k ≡ None))). absurd (clear-unfinished farm log n key r.number r.purge.inv clear all.0.unfinished (subst (λ (l : PageKey). Covers farm r.purge.inv l) (sym h.0) (deleted r.purge.inv k del))))
            (put k good);
      };
    }

    put_flushing : CoverageFacts farm → (fate : Fate) → HoldsFlushes farm after stat (Landed n (Some key) b fate ∷ log) begun (stamp epoch drawn) queue
    put_flushing facts fate = record {
      each = flushes_to farm page after log (Landed n (Some key) b fate ∷ log) begun begun (stamp epoch drawn) (stamp epoch drawn) queue (λ r ok. record {
        below = ok.below;
        level_is = ok.level_is;
        drawn = ok.drawn;
        unfinished = ok.unfinished;
        older = λ k q good is cov. ⊎_elim
            (λ (old : page k ≡ Some q). ok.older k q good old cov)
            (λ (h : (key ≡ k) × (p ≡ q)). absurd (clear-unfinished farm log n key r.number r.purge.inv clear ok.unfinished (subst (λ (l : PageKey). Covers farm r.purge.inv l) (sym h.0) cov)))
            (put_cases k q good is);
      }) s.flushing.each;
      all = s.flushing.all;
      head = put_head facts.deleted queue s.flushing.each s.flushing.head;
    }

    pub unkept : CoverageFacts farm → CoreStands farm after stat held (without n flights) queue asked begun epoch drawn (Landed n (Some key) b Unkept ∷ log)
    unkept facts = record {
      holds = record {
        may = λ k a good is. ⊎_elim
            (λ (old : serves_page farm page stat k ≡ Some a). inr (s.holds.may k a good old))
            (λ (h : (key ≡ k) × (stored b ≡ a)). inl (ap (λ (l : PageKey). Some l) h.0, h.1, subst (λ (l : PageKey). NoneDoneSince farm log n l) h.0 (clear-none-done farm log n key clear)))
            (put_serves k a good is);
        must = λ k a good must. ⊎_elim
            (λ (same : after k ≡ page k). ap (λ (o : Option Page). served (is_auto farm k) (stat_for farm stat k) o) same ∙ s.holds.must k a good must.1)
            (λ (h : (key ≡ k) × ((after k ≡ Some p) ⊎ (after k ≡ None))). absurd (must.0 (ap (λ (l : PageKey). Some l) h.0)))
            (put k good);
        touched = s.holds.touched;
      };
      before = put_before;
      epochs = record { first = s.epochs.first; last = s.epochs.last; current = s.epochs.current; risen = s.epochs.risen; above = s.epochs.above };
      counts = record { flights = s.counts.flights; flushes = s.counts.flushes; stamps = s.counts.stamps };
      flying = landed_flying (Some key) b Unkept;
      flushing = put_flushing facts Unkept;
      tied = record {
        pages = λ k q good is fresh low. ⊎_elim
            (λ (old : page k ≡ Some q). inr (s.tied.pages k q good old fresh low))
            (λ (h : (key ≡ k) × (p ≡ q)). inl (new_tied k q h.0 h.1))
            (put_cases k q good is);
        stats = s.tied.stats;
        flying = without_drawn log n flights s.tied.flying;
        flushing = s.tied.flushing;
      };
    }

    pub kept : CoverageFacts farm → ((k l : PageKey) → (k ≡ l) ⊎ (k ≢ l)) → after key ≡ Some p → IsFresh (is_auto farm key) (stat_for farm stat key) p.stamp → CoreStands farm after stat held (without n flights) queue asked begun epoch drawn (Landed n (Some key) b Kept ∷ log)
    kept facts key_cases there fresh = record {
      holds = record {
        may = λ k a good is. ⊎_elim
            (λ (same : key ≡ k). let one : stored b ≡ a = same_some (sym here ∙ ap (λ (l : PageKey). serves_page farm after stat l) same ∙ is) in inl (ap (λ (l : PageKey). Some l) same, one, subst (λ (l : PageKey). NoneDoneSince farm log n l) same (clear-none-done farm log n key clear)))
            (λ (ne : key ≢ k). ⊎_elim (λ (old : serves_page farm page stat k ≡ Some a). inr ((λ e. ne (same_some e)), s.holds.may k a good old)) (λ (h : (key ≡ k) × (stored b ≡ a)). absurd (ne h.0)) (put_serves k a good is))
            (key_cases key k);
        must = λ k a good must. ⊎_elim
            (λ h. ap (λ (l : PageKey). serves_page farm after stat l) (sym (same_some h.0)) ∙ here ∙ ap (λ (x : Answer). Some x) h.1)
            (λ h. ⊎_elim
            (λ (same : after k ≡ page k). ap (λ (o : Option Page). served (is_auto farm k) (stat_for farm stat k) o) same ∙ s.holds.must k a good h.1)
            (λ (g : (key ≡ k) × ((after k ≡ Some p) ⊎ (after k ≡ None))). absurd (h.0 (ap (λ (l : PageKey). Some l) g.0)))
            (put k good))
            must;
        touched = s.holds.touched;
      };
      before = put_before;
      epochs = record { first = s.epochs.first; last = s.epochs.last; current = s.epochs.current; risen = s.epochs.risen; above = s.epochs.above };
      counts = record { flights = s.counts.flights; flushes = s.counts.flushes; stamps = s.counts.stamps };
      flying = landed_flying (Some key) b Kept;
      flushing = put_flushing facts Kept;
      tied = record {
        pages = λ k q good is fresh_now low. ⊎_elim
            (λ (same : key ≡ k). inl (new_tied k q same (same_some (sym there ∙ ap after same ∙ is))))
            (λ (ne : key ≢ k). ⊎_elim (λ (old : page k ≡ Some q). inr ((λ e. ne (same_some e)), s.tied.pages k q good old fresh_now low)) (λ (h : (key ≡ k) × (p ≡ q)). absurd (ne h.0)) (put_cases k q good is))
            (key_cases key k);
        stats = s.tied.stats;
        flying = without_drawn log n flights s.tied.flying;
        flushing = s.tied.flushing;
      };
    }
      where
        here : serves_page farm after stat key ≡ Some (stored b)
        here = ap (λ (o : Option Page). served (is_auto farm key) (stat_for farm stat key) o) there ∙ serves_fresh (is_auto farm key) (stat_for farm stat key) p fresh ∙ ap (λ (x : Answer). Some x) answer_is
