-- A slice of the oldest flush, and its end, keep what is stood for.
use Rattle.std.proofs.Common.{◌≡◌, ◌≢◌, ◌⊎◌, ℕ, Bool, true, false, List, [], ◌∷◌, Option, Some, None, IsSome, Contains, inl, inr, refl, sym, ◌∙◌, ap, subst, ⊎_elim}
use Rattle.std.proofs.lemmas.Bool.{cases_Bool}
use Rattle.sp_base.specs.Texts.{Segments}
use Rattle.sp_base.specs.declared.answer.Answer.{Answer}
use Rattle.any_config.specs.declared.farm.Farm.{Farm}
use Rattle.cover_rules.specs.Pages.{IsPageKey}
use Rattle.cover_rules.specs.declared.page.PageKey.{PageKey}
use Rattle.cover_rules.specs.declared.stamp.Stamp.{Stamp}
use Rattle.cover_rules.specs.declared.invalidation.Invalidation.{Invalidation}
use Rattle.cover_rules.specs.Coverage.{deletes, stat_folder, touched_of}
use Rattle.dispatch_rules.specs.Caching.{is_auto}
use Rattle.cache_files.specs.declared.page.Page.{Page}
use Rattle.flights.specs.declared.flight.Flight.{Flight}
use Rattle.invalidation.specs.declared.purge.Purge.{Purge}
use Rattle.invalidation.specs.Slices.{AllGone, AllTouched, IsSamePurge, Progress, Sliced as SlicedPages}
use Rattle.cache_log.specs.Entries.{LogEntry, Done, Ended, Failed, FlushOutcome, Sliced}
use Rattle.cache_log.specs.Hits.{Covers, IsClear, MustHit, SparesPage, Unfinished}
use Rattle.cache_log.proofs.HitLemmas.{clear-unfinished, must-unfinished}
use Rattle.coherence_core.specs.Facts.{CoverageFacts}
use Rattle.coherence_core.specs.Served.{Before, IsFresh, Pages, Stamps, served, serves_page, stat_for}
use Rattle.coherence_core.specs.StampTies.{IsFlushStamp}
use Rattle.coherence_core.specs.Stands.{AreLater, HasFlush, HoldsFlights, HoldsFlushes, CoreStands, stamp}
use Rattle.coherence_core.specs.declared.pending.Pending.{Pending}
use Rattle.coherence_core.proofs.StampLemmas.{before_not, before_trans, fresh_at, served_older, served_page, served_unasked, serves_fresh}
use Rattle.coherence_core.proofs.FlightLemmas.{flights_to, same_ok}
use Rattle.coherence_core.proofs.FlushLemmas.{flushes_to, later_apart, spared, tail_head, tail_queue}

same_some : {A : Type 0} {k l : A} → Some k ≡ Some l → k ≡ l
same_some e = cc e

module _ (farm : Farm) (facts : CoverageFacts farm) (page : Pages) (stat : Stamps) (held : ℕ) (flights : List Flight) (p : Pending) (queue : List Pending) (asked begun epoch drawn : ℕ) (log : List LogEntry) (s : CoreStands farm page stat held flights (p ∷ queue) asked begun epoch drawn log) where
  -- a slice left more to do
  pub went_on : CoreStands farm page stat held flights (p ∷ queue) asked begun epoch drawn (Sliced p.number ∷ log)
  went_on = record {
    holds = record { may = s.holds.may; must = s.holds.must; touched = s.holds.touched };
    before = s.before;
    epochs = record { first = s.epochs.first; last = s.epochs.last; current = s.epochs.current; risen = s.epochs.risen; above = s.epochs.above };
    counts = record { flights = s.counts.flights; flushes = s.counts.flushes; stamps = s.counts.stamps };
    flying = record {
      each = flights_to farm log (Sliced p.number ∷ log) stat stat asked asked (stamp epoch drawn) (stamp epoch drawn) flights (λ f ok. same_ok farm log (Sliced p.number ∷ log) stat asked (stamp epoch drawn) (stamp epoch drawn) f (λ h. h) (λ h. h) (λ k h. h) (λ k h. h) ok) s.flying.each;
      all = s.flying.all;
      rising = s.flying.rising;
    };
    flushing = record {
      each = flushes_to farm page page log (Sliced p.number ∷ log) begun begun (stamp epoch drawn) (stamp epoch drawn) (p ∷ queue) (λ r ok. spared farm page log (Sliced p.number ∷ log) begun (stamp epoch drawn) (stamp epoch drawn) r (λ h. h) (λ w i h. h) ok) s.flushing.each;
      all = s.flushing.all;
      head = s.flushing.head;
    };
    tied = record { pages = s.tied.pages; stats = s.tied.stats; flying = s.tied.flying; flushing = s.tied.flushing };
  }

  -- a touch of the folder whose .stat file is asked for a page covers the page
  asked_folder : (k : PageKey) → IsPageKey k → is_auto farm k ≡ true → Contains (touched_of p.purge.level p.purge.inv) (stat_folder farm.level k) → Covers farm p.purge.inv k
  asked_folder k good auto there = facts.touched p.purge.inv k good auto (subst (λ (l : ℕ). Contains (touched_of l p.purge.inv) (stat_folder farm.level k)) s.flushing.each.0.level_is there)

  -- A slice: only pages that it deletes are gone, and only folders that it touches have its stamp.
  pub sliced : (after : Pages) (now : Stamps) (q : Purge) → IsSamePurge p.purge q → SlicedPages p.purge.level p.purge.inv p.purge.stamp page after stat now → Progress q after now → CoreStands farm after now held flights (record { number = p.number; purge = q } ∷ queue) asked begun epoch drawn log
  sliced after now q same change progress =
      let ok = s.flushing.each.0 in
      record {
        holds = record {
          may = λ k a good is. s.holds.may k a good (was_served k a good is);
          must = λ k a good must. ⊎_elim
              (λ (same_page : after k ≡ page k). still_served k a good must same_page)
              (λ (h : (deletes p.purge.inv k ≡ true) × (after k ≡ None)). absurd (must-unfinished farm log k a p.number p.purge.inv must ok.unfinished (facts.deleted p.purge.inv k h.0)))
              (change.drops k good);
          touched = λ inv f done good there. ⊎_elim
              (λ (same_stat : now f ≡ stat f). subst (λ (o : Option Stamp). IsSome o) (sym same_stat) (s.holds.touched inv f done good there))
              (λ (h : Contains (touched_of p.purge.level p.purge.inv) f × (now f ≡ Some p.purge.stamp)). subst (λ (o : Option Stamp). IsSome o) (sym h.1) refl)
              (change.touches f good);
        };
        before = record {
          pages = λ k r good is. s.before.pages k r good (stays k r good is);
          stats = λ f t good is. ⊎_elim
              (λ (same_stat : now f ≡ stat f). s.before.stats f t good (sym same_stat ∙ is))
              (λ (h : Contains (touched_of p.purge.level p.purge.inv) f × (now f ≡ Some p.purge.stamp)). subst (λ (x : Stamp). Before x (stamp epoch drawn)) (same_some (sym h.1 ∙ is)) ok.drawn)
              (change.touches f good);
        };
        epochs = s.epochs;
        counts = s.counts;
        flying = record {
          each = flights_to farm log log stat now asked asked (stamp epoch drawn) (stamp epoch drawn) flights (λ f fk. record {
            below = fk.below;
            drawn = fk.drawn;
            in_air = fk.in_air;
            keyed = λ k is. let kk = fk.keyed k is in record {
              page = kk.page;
              auto_is = kk.auto_is;
              clear = kk.clear;
              voided = kk.voided;
              fresh = λ o. still_fresh f k kk.page (kk.clear o) (kk.fresh o);
            };
          }) s.flying.each;
          all = s.flying.all;
          rising = s.flying.rising;
        };
        flushing = record {
          each = (
            record {
              below = ok.below;
              level_is = same.level ∙ ok.level_is;
              drawn = subst (λ (x : Stamp). Before x (stamp epoch drawn)) (sym same.stamp) ok.drawn;
              unfinished = subst (λ (x : Invalidation). Unfinished log p.number x) (sym same.inv) ok.unfinished;
              older = λ k r good is cov. subst (λ (x : Stamp). Before r.stamp x) (sym same.stamp) (ok.older k r good (stays k r good is) (subst (λ (x : Invalidation). Covers farm x k) same.inv cov));
            },
            later_same queue s.flushing.each.1,
            flushes_to farm page after log log begun begun (stamp epoch drawn) (stamp epoch drawn) queue (λ r rk. record { below = rk.below; level_is = rk.level_is; drawn = rk.drawn; unfinished = rk.unfinished; older = λ k x good is cov. rk.older k x good (stays k x good is) cov }) s.flushing.each.2,
          );
          all = λ v i h. ⊎_elim (λ g. inl (g.0, same.inv ∙ g.1)) (λ g. inr g) (s.flushing.all v i h);
          head = record {
            newest = λ f t good is. subst (λ (x : Stamp). (t ≡ x) ⊎ Before t x) (sym same.stamp) (⊎_elim
                (λ (same_stat : now f ≡ stat f). s.flushing.head.newest f t good (sym same_stat ∙ is))
                (λ (h : Contains (touched_of p.purge.level p.purge.inv) f × (now f ≡ Some p.purge.stamp)). inl (same_some (sym is ∙ h.1)))
                (change.touches f good));
            progress = progress;
          };
        };
        tied = record {
          pages = λ k r good is fresh low.
              let was : page k ≡ Some r = stays k r good is in
              let before = served_page (is_auto farm k) (stat_for farm stat k) (page k) r.answer (was_served k r.answer good (ap (λ (o : Option Page). served (is_auto farm k) (stat_for farm now k) o) is ∙ serves_fresh (is_auto farm k) (stat_for farm now k) r fresh)) in
              let one : before.0 ≡ r = same_some (sym before.1 ∙ was) in
              s.tied.pages k r good was (subst (λ (x : Page). IsFresh (is_auto farm k) (stat_for farm stat k) x.stamp) one before.3) low;
          stats = λ f t good is low. ⊎_elim
              (λ (same_stat : now f ≡ stat f). s.tied.stats f t good (sym same_stat ∙ is) low)
              (λ (h : Contains (touched_of p.purge.level p.purge.inv) f × (now f ≡ Some p.purge.stamp)). (
                p.number,
                p.purge.inv,
                subst (λ (x : Stamp). IsFlushStamp log p.number p.purge.inv x) (same_some (sym h.1 ∙ is)) s.tied.flushing.0,
                subst (λ (l : ℕ). Contains (touched_of l p.purge.inv) f) ok.level_is h.0,
              ))
              (change.touches f good);
          flying = s.tied.flying;
          flushing = (subst (λ (i : Invalidation). IsFlushStamp log p.number i q.stamp) (sym same.inv) (subst (λ (x : Stamp). IsFlushStamp log p.number p.purge.inv x) (sym same.stamp) s.tied.flushing.0), s.tied.flushing.1);
        };
      }
    where
      stays : (k : PageKey) (r : Page) → IsPageKey k → after k ≡ Some r → page k ≡ Some r
      stays k r good is = ⊎_elim (λ (e : after k ≡ page k). sym e ∙ is) (λ (h : (deletes p.purge.inv k ≡ true) × (after k ≡ None)). absurd (cc (h.1, is))) (change.drops k good)

      later_same : (ps : List Pending) → AreLater p ps → AreLater (record { number = p.number; purge = q }) ps
      later_same [] later = tt
      later_same (r ∷ rs) later = (later.0, subst (λ (x : Stamp). Before x r.purge.stamp) (sym same.stamp) later.1, later.2, later_same rs later.3)

      -- what is served now was served before
      was_served : (k : PageKey) (a : Answer) → IsPageKey k → serves_page farm after now k ≡ Some a → serves_page farm page stat k ≡ Some a
      was_served k a good is = ⊎_elim
          (λ (e : after k ≡ page k).
          let still : served (is_auto farm k) (stat_for farm now k) (page k) ≡ Some a = ap (λ (o : Option Page). served (is_auto farm k) (stat_for farm now k) o) (sym e) ∙ is in
          ⊎_elim
          (λ (was : now (stat_folder farm.level k) ≡ stat (stat_folder farm.level k)). ap (λ (t : Option Stamp). served (is_auto farm k) t (page k)) (sym was) ∙ still)
          (λ (h : Contains (touched_of p.purge.level p.purge.inv) (stat_folder farm.level k) × (now (stat_folder farm.level k) ≡ Some p.purge.stamp)). served_older (is_auto farm k) (page k) (stat_for farm stat k) p.purge.stamp a (λ u is2. s.flushing.head.newest (stat_folder farm.level k) u (facts.folder k good) is2) (ap (λ (t : Option Stamp). served (is_auto farm k) t (page k)) (sym h.1) ∙ still))
          (change.touches (stat_folder farm.level k) (facts.folder k good)))
          (λ (h : (deletes p.purge.inv k ≡ true) × (after k ≡ None)). absurd (cc (ap (λ (o : Option Page). served (is_auto farm k) (stat_for farm now k) o) h.1, is)))
          (change.drops k good)

      -- what is owed is served still
      still_served : (k : PageKey) (a : Answer) → IsPageKey k → MustHit farm log k a → after k ≡ page k → serves_page farm after now k ≡ Some a
      still_served k a good must e = ⊎_elim
          (λ (auto : is_auto farm k ≡ true). ⊎_elim
          (λ (was : now (stat_folder farm.level k) ≡ stat (stat_folder farm.level k)). (λ i. served (is_auto farm k) (was i) (e i)) ∙ s.holds.must k a good must)
          (λ (h : Contains (touched_of p.purge.level p.purge.inv) (stat_folder farm.level k) × (now (stat_folder farm.level k) ≡ Some p.purge.stamp)). absurd (must-unfinished farm log k a p.number p.purge.inv must s.flushing.each.0.unfinished (asked_folder k good auto h.0)))
          (change.touches (stat_folder farm.level k) (facts.folder k good)))
          (λ (auto : is_auto farm k ≡ false).
          ap (λ (b : Bool). served b (stat_for farm now k) (after k)) auto ∙ served_unasked (stat_for farm now k) (stat_for farm stat k) (after k) ∙ ap (λ (o : Option Page). served false (stat_for farm stat k) o) e ∙ ap (λ (b : Bool). served b (stat_for farm stat k) (page k)) (sym auto) ∙ s.holds.must k a good must)
          (cases_Bool (is_auto farm k))

      -- a clear flight isn't outdated by it
      still_fresh : (f : Flight) (k : PageKey) → IsPageKey k → IsClear farm log f.number k → IsFresh (is_auto farm k) (stat_for farm stat k) f.stamp → IsFresh (is_auto farm k) (stat_for farm now k) f.stamp
      still_fresh f k good clear fresh = ⊎_elim
          (λ (auto : is_auto farm k ≡ true). ⊎_elim
          (λ (was : now (stat_folder farm.level k) ≡ stat (stat_folder farm.level k)). subst (λ (t : Option Stamp). IsFresh (is_auto farm k) t f.stamp) (sym was) fresh)
          (λ (h : Contains (touched_of p.purge.level p.purge.inv) (stat_folder farm.level k) × (now (stat_folder farm.level k) ≡ Some p.purge.stamp)). absurd (clear-unfinished farm log f.number k p.number p.purge.inv clear s.flushing.each.0.unfinished (asked_folder k good auto h.0)))
          (change.touches (stat_folder farm.level k) (facts.folder k good)))
          (λ (auto : is_auto farm k ≡ false). subst (λ (b : Bool). IsFresh b (stat_for farm now k) f.stamp) (sym auto) refl)
          (cases_Bool (is_auto farm k))

  rest_there : (v : ℕ) (i : Invalidation) → p.number ≢ v → HasFlush (p ∷ queue) v i → HasFlush queue v i
  rest_there v i ne (inl h) = absurd (ne h.0)
  rest_there v i ne (inr h) = h

  ended_flying : (outcome : FlushOutcome) → HoldsFlights farm (Ended p.number outcome ∷ log) stat asked (stamp epoch drawn) flights
  ended_flying outcome = record {
    each = flights_to farm log (Ended p.number outcome ∷ log) stat stat asked asked (stamp epoch drawn) (stamp epoch drawn) flights (λ f ok. same_ok farm log (Ended p.number outcome ∷ log) stat asked (stamp epoch drawn) (stamp epoch drawn) f (λ h. h) (λ h. h) (λ k h. h) (λ k h. h) ok) s.flying.each;
    all = s.flying.all;
    rising = s.flying.rising;
  }

  ended_flushing : (outcome : FlushOutcome) → HoldsFlushes farm page stat (Ended p.number outcome ∷ log) begun (stamp epoch drawn) queue
  ended_flushing outcome = record {
    each = tail_queue farm page log outcome begun (stamp epoch drawn) p queue s.flushing.each.1 s.flushing.each.2;
    all = λ v i h. rest_there v i h.0 (s.flushing.all v i h.1);
    head = tail_head page stat p queue s.flushing.head s.flushing.each.1;
  }

  -- it failed, or was cut off
  pub failed : CoreStands farm page stat held flights queue asked begun epoch drawn (Ended p.number Failed ∷ log)
  failed = record {
    holds = record { may = s.holds.may; must = s.holds.must; touched = s.holds.touched };
    before = s.before;
    epochs = record { first = s.epochs.first; last = s.epochs.last; current = s.epochs.current; risen = s.epochs.risen; above = s.epochs.above };
    counts = record { flights = s.counts.flights; flushes = s.counts.flushes; stamps = s.counts.stamps };
    flying = ended_flying Failed;
    flushing = ended_flushing Failed;
    tied = record { pages = s.tied.pages; stats = s.tied.stats; flying = s.tied.flying; flushing = s.tied.flushing.1 };
  }

  -- no page that it covers is served, once none that it deletes is there and each folder that it touches has its stamp
  none_served : AllTouched p.purge stat → AllGone p.purge page → (k : PageKey) (a : Answer) → IsPageKey k → serves_page farm page stat k ≡ Some a → Covers farm p.purge.inv k → ⊥
  none_served all_touched gone k a good is cov =
      let q = served_page (is_auto farm k) (stat_for farm stat k) (page k) a is in
      ⊎_elim
      (λ (del : deletes p.purge.inv k ≡ true). absurd (cc (gone k good del, q.1)))
      (λ (h : (is_auto farm k ≡ true) × Contains (touched_of farm.level p.purge.inv) (stat_folder farm.level k)).
      let st : stat_for farm stat k ≡ Some p.purge.stamp = all_touched (stat_folder farm.level k) (facts.folder k good) (subst (λ (l : ℕ). Contains (touched_of l p.purge.inv) (stat_folder farm.level k)) (sym s.flushing.each.0.level_is) h.1) in
      let fresh : IsFresh true (Some p.purge.stamp) q.0.stamp = subst (λ (b : Bool). IsFresh b (Some p.purge.stamp) q.0.stamp) h.0 (subst (λ (t : Option Stamp). IsFresh (is_auto farm k) t q.0.stamp) st q.3) in
      let newer : Before p.purge.stamp q.0.stamp = fresh_at p.purge.stamp q.0.stamp fresh in
      let older : Before q.0.stamp p.purge.stamp = s.flushing.each.0.older k q.0 good q.1 cov in
      before_not p.purge.stamp (before_trans p.purge.stamp q.0.stamp p.purge.stamp newer older))
      (facts.either p.purge.inv k good cov)

  -- so it covers none that is served
  spares : AllTouched p.purge stat → AllGone p.purge page → (k : PageKey) (a : Answer) → IsPageKey k → serves_page farm page stat k ≡ Some a → SparesPage farm log p.number k
  spares all_touched gone k a good is = λ i unfinished cov. ⊎_elim
      (λ h. none_served all_touched gone k a good is (subst (λ (x : Invalidation). Covers farm x k) (sym h.1) cov))
      (λ h. later_apart p queue i s.flushing.each.1 h)
      (s.flushing.all p.number i unfinished)

  pub done : AllTouched p.purge stat → AllGone p.purge page → CoreStands farm page stat held flights queue asked begun epoch drawn (Ended p.number Done ∷ log)
  done all_touched gone = record {
    holds = record {
      may = λ k a good is. (spares all_touched gone k a good is, s.holds.may k a good is);
      must = s.holds.must;
      touched = λ inv f done good there. ⊎_elim
          (λ unfinished. ⊎_elim
          (λ h. let same : touched_of farm.level inv ≡ touched_of p.purge.level p.purge.inv = (λ i. touched_of (sym s.flushing.each.0.level_is i) (sym h.1 i)) in
          subst (λ (o : Option Stamp). IsSome o) (sym (all_touched f good (subst (λ (l : List Segments). Contains l f) same there))) refl)
          (λ h. absurd (later_apart p queue inv s.flushing.each.1 h))
          (s.flushing.all p.number inv unfinished))
          (λ h. s.holds.touched inv f h good there)
          done;
    };
    before = s.before;
    epochs = record { first = s.epochs.first; last = s.epochs.last; current = s.epochs.current; risen = s.epochs.risen; above = s.epochs.above };
    counts = record { flights = s.counts.flights; flushes = s.counts.flushes; stamps = s.counts.stamps };
    flying = ended_flying Done;
    flushing = ended_flushing Done;
    tied = record {
      pages = λ k r good is fresh low. (
        spares all_touched gone k r.answer good (ap (λ (o : Option Page). served (is_auto farm k) (stat_for farm stat k) o) is ∙ serves_fresh (is_auto farm k) (stat_for farm stat k) r fresh),
        s.tied.pages k r good is fresh low,
      );
      stats = s.tied.stats;
      flying = s.tied.flying;
      flushing = s.tied.flushing.1;
    };
  }
