-- What the parts of a request make of what is stood for.
use Rattle.std.proofs.Common.{◌≡◌, ◌<◌, ◌+◌, ◌++◌, ◌||◌, ℕ, Bool, true, false, not, List, [], ◌∷◌, Option, Some, None, inl, inr, refl, sym, ◌∙◌, ap, subst, arith, ⊎_elim, map}
use Rattle.std.specs.Prelude.{IfSome}
use Rattle.std.proofs.lemmas.Bool.{cases_Bool, or_cases}
use Rattle.sp_base.specs.declared.answer.Answer.{Answer}
use Rattle.sp_outside.specs.Files.{Files}
use Rattle.any_config.specs.declared.farm.Farm.{Farm}
use Rattle.cover_rules.specs.Coverage.{covers}
use Rattle.cover_rules.specs.Pages.{IsPageKey}
use Rattle.cover_rules.specs.declared.page.PageKey.{PageKey}
use Rattle.cover_rules.specs.declared.stamp.Stamp.{Stamp}
use Rattle.cover_rules.specs.declared.invalidation.Invalidation.{Invalidation}
use Rattle.dispatch_rules.specs.Caching.{is_auto}
use Rattle.cache_files.specs.Epochs.{epoch_held}
use Rattle.cache_files.specs.Pages.{head_at, page_at}
use Rattle.stat_files.specs.Stamps.{stamp_at}
use Rattle.flights.specs.declared.flight.Flight.{Flight}
use Rattle.flights.specs.Flights.{AreRising, after_invalidation}
use Rattle.cache_log.specs.Entries.{LogEntry, Asked, Begun, Hit, flushes_begun, is_up}
use Rattle.cache_log.specs.Hits.{Covers, Unfinished}
use Rattle.cache_log.specs.Rules.{AllAllowed, CallConditions, IsOwed}
use Rattle.coherence_core.specs.Asking.{HasBegunFlush, core_asking, is_barred, next_flight}
use Rattle.coherence_core.specs.Cores.{StandsOver, conditions_of_call, drawn_of}
use Rattle.coherence_core.specs.Facts.{CoverageFacts}
use Rattle.coherence_core.specs.Notes.{KnowsFiles}
use Rattle.coherence_core.specs.Served.{serves_page}
use Rattle.coherence_core.specs.Stands.{AreLogFlushes, HasFlush, CoreStands, stamp}
use Rattle.coherence_core.specs.declared.core_state.Core.{Core}
use Rattle.coherence_core.specs.declared.pending.Pending.{Pending}
use Rattle.coherence_core.proofs.NoteLemmas.{apart_kept, apart_push}
use Rattle.coherence_core.proofs.RequestSteps.{begin, hit, launch}
use Rattle.coherence_core.proofs.SliceBounds.{adds_none, names_begin, names_stay}
use Rattle.coherence_core.proofs.StampLemmas.{heads_later}
use Rattle.cache_log.specs.Limits.{most_stamps}

-- ---- what an unfinished flush covers

any_off : (level : ℕ) (auto : Bool) (k : PageKey) (queue : List Pending) → is_barred level auto (Some k) queue ≡ false → (v : ℕ) (inv : Invalidation) → HasFlush queue v inv → covers level auto inv k ≡ true → ⊥
any_off level auto k [] is v inv h cov = h
any_off level auto k (p ∷ ps) is v inv h cov = by_test (covers level auto p.purge.inv k) refl is h (λ t g. any_off level auto k ps t v inv g cov)
  where
    by_test : (b : Bool) → covers level auto p.purge.inv k ≡ b → (b || is_barred level auto (Some k) ps) ≡ false → HasFlush (p ∷ ps) v inv → (is_barred level auto (Some k) ps ≡ false → HasFlush ps v inv → ⊥) → ⊥
    by_test true e t g rest = cc t
    by_test false e t (inl g) rest = let same : p.purge.inv ≡ inv = g.1 in let on : covers level auto p.purge.inv k ≡ true = ap (λ (i : Invalidation). covers level auto i k) same ∙ cov in cc (on, e)
    by_test false e t (inr g) rest = rest t g

any_on : (farm : Farm) (auto : Bool) (k : PageKey) (page : _) (log : List LogEntry) (begun : ℕ) (next : Stamp) (queue : List Pending) → AreLogFlushes farm page log begun next queue → is_barred farm.level auto (Some k) queue ≡ true → (v : ℕ) × (inv : Invalidation) × Unfinished log v inv × (covers farm.level auto inv k ≡ true)
any_on farm auto k page log begun next [] all is = absurd (cc is)
any_on farm auto k page log begun next (p ∷ ps) all is = ⊎_elim
    (λ (on : covers farm.level auto p.purge.inv k ≡ true). (p.number, p.purge.inv, all.0.unfinished, on))
    (λ (rest : is_barred farm.level auto (Some k) ps ≡ true). any_on farm auto k page log begun next ps all.2 rest)
    (or_cases (covers farm.level auto p.purge.inv k) (is_barred farm.level auto (Some k) ps) is)

-- ---- what is known once a flush has begun

pub begun_known : (core next : Core) (flush : ℕ) (inv : Invalidation) → HasBegunFlush core next flush inv → (files : Files) → KnowsFiles files core → KnowsFiles files next
begun_known core next flush inv b files k = record {
  agree = (b.notes files).agree k.agree;
  apart = rw (b.farm, b.queue) (apart_push core.farm.level next.pages core.queue.items b.last
      (apart_kept core.farm.level core.pages next.pages ((b.notes files).apart core.farm.level) core.queue.items k.apart)
      (b.level, rw (b.inv_is) b.forgotten));
}

-- ---- a hit

module _ (found : ℕ) (core : Core) (up : core.down ≡ false) where
  is_up_now : (files : Files) (log : List LogEntry) → StandsOver found files core log → is_up log ≡ true
  is_up_now files log s = go (is_up log) (sym s.down_is ∙ up)
    where
      go : (b : Bool) → not b ≡ false → b ≡ true
      go true e = refl
      go false e = absurd (cc e)

  pub hit_over : (under : CallConditions) (key : PageKey) (answer : Answer) (files : Files) (log : List LogEntry) → IsPageKey key → serves_page core.farm (page_at files) (stamp_at files) key ≡ Some answer → StandsOver found files core log → AllAllowed core.farm under (Hit key ∷ []) log × StandsOver found files core (Hit key ∷ log)
  hit_over under key answer files log page is s = (
    ((is_up_now files log s, (answer, s.stands.holds.may key answer page is)), tt),
    record {
      stands = hit core.farm (page_at files) (stamp_at files) (epoch_held files) core.flights core.queue.items core.asked core.begun core.epoch (drawn_of core) log s.stands key;
      numbered = s.numbered;
      order = s.order;
      formed = s.formed;
      heads = s.heads;
      down_is = s.down_is;
      few = s.few;
      slices = names_stay core.farm found 0 files files core.queue.items log (Hit key ∷ log) (adds_none files) (omega arith) (λ v. refl) refl s.slices;
      knows = s.knows;
    },
  )

  -- ---- a flight

  module _ (facts : CoverageFacts core.farm) (key : Option PageKey) (auto : Bool) (good : IfSome key IsPageKey) (auto_is : (k : PageKey) → key ≡ Some k → auto ≡ is_auto core.farm k)
      (rise : (least most : ℕ) (flight : Flight) (flights : List Flight) → AreRising least flights most → most < flight.number → AreRising least (flights ++ flight ∷ []) flight.number) where
    page_of_key : (k : PageKey) → key ≡ Some k → IsPageKey k
    page_of_key k is = subst (λ (o : Option PageKey). IfSome o IsPageKey) is good

    abbrev flight : Flight
    flight = next_flight core key auto

    free : (files : Files) (log : List LogEntry) → flight.voided ≡ false → (k : PageKey) → key ≡ Some k → (v : ℕ) (inv : Invalidation) → HasFlush core.queue.items v inv → Covers core.farm inv k → ⊥
    free files log off k is v inv h cov = any_off core.farm.level auto k core.queue.items (ap (λ (o : Option PageKey). is_barred core.farm.level auto o core.queue.items) (sym is) ∙ off) v inv h (ap (λ (b : Bool). covers core.farm.level b inv k) (auto_is k is) ∙ cov)

    bar : (files : Files) (log : List LogEntry) → StandsOver found files core log → flight.voided ≡ true → (k : PageKey) → key ≡ Some k → (v : ℕ) × (inv : Invalidation) × Unfinished log v inv × Covers core.farm inv k
    bar files log s on k is =
        let h = any_on core.farm auto k (page_at files) log core.begun (stamp core.epoch (drawn_of core)) core.queue.items s.stands.flushing.each (ap (λ (o : Option PageKey). is_barred core.farm.level auto o core.queue.items) (sym is) ∙ on) in
        (h.0, h.1, h.2, ap (λ (b : Bool). covers core.farm.level b h.1 k) (sym (auto_is k is)) ∙ h.3)

    pub ask_over : (disk_failed : Bool) (files : Files) (log : List LogEntry) → drawn_of core < most_stamps → (IsOwed core.farm log key → disk_failed ≡ true) → StandsOver found files core log → AllAllowed core.farm (conditions_of_call disk_failed false) (Asked (core.asked + 1) key ∷ []) log × StandsOver found files (core_asking core key auto) (Asked (core.asked + 1) key ∷ log)
    ask_over disk_failed files log left owed s = (
      ((is_up_now files log s, ap (λ (n : ℕ). n + 1) s.stands.counts.flights, owed), tt),
      record {
        stands = subst (λ (d : ℕ). CoreStands core.farm (page_at files) (stamp_at files) (epoch_held files) (core.flights ++ flight ∷ []) core.queue.items (core.asked + 1) core.begun core.epoch d (Asked (core.asked + 1) key ∷ log)) (omega arith)
            (launch core.farm (page_at files) (stamp_at files) (epoch_held files) core.flights core.queue.items core.asked core.begun core.epoch (drawn_of core) log s.stands facts flight refl refl
            (rise 0 core.asked flight core.flights s.stands.flying.rising (omega arith)) (λ k is. (page_of_key k is, auto_is k is)) (free files log) (bar files log s));
        numbered = s.numbered;
        order = s.order;
        formed = s.formed;
        heads = heads_later (head_at files) core.epoch (drawn_of core) (core.asked + 1 + core.begun) (omega arith) s.heads;
        down_is = s.down_is;
        few = omega (arith, left);
        slices = names_stay core.farm found 0 files files core.queue.items log (Asked (core.asked + 1) key ∷ log) (adds_none files) (omega arith) (λ v. refl) refl s.slices;
        knows = record { agree = s.knows.agree; apart = s.knows.apart };
      },
    )

  -- ---- a flush

  module _ (next : Core) (flush : ℕ) (inv : Invalidation) (b : HasBegunFlush core next flush inv)
      (rise : (least most level : ℕ) (inv : Invalidation) (flights : List Flight) → AreRising least flights most → AreRising least (map (after_invalidation level inv) flights) most) where
    begin_stands : (files : Files) (log : List LogEntry) → StandsOver found files core log → CoreStands core.farm (page_at files) (stamp_at files) (epoch_held files) (map (after_invalidation core.farm.level inv) core.flights) (core.queue.items ++ b.last ∷ []) core.asked (core.begun + 1) core.epoch (core.asked + (core.begun + 1)) (Begun flush inv ∷ log)
    begin_stands files log s =
        subst (λ (v : ℕ). CoreStands core.farm (page_at files) (stamp_at files) (epoch_held files) (map (after_invalidation core.farm.level inv) core.flights) (core.queue.items ++ b.last ∷ []) core.asked (core.begun + 1) core.epoch (core.asked + (core.begun + 1)) (Begun v inv ∷ log)) (sym b.next)
        (subst (λ (d : ℕ). CoreStands core.farm (page_at files) (stamp_at files) (epoch_held files) (map (after_invalidation core.farm.level inv) core.flights) (core.queue.items ++ b.last ∷ []) core.asked (core.begun + 1) core.epoch d (Begun (core.begun + 1) inv ∷ log)) (omega arith)
        (subst (λ (i : Invalidation). CoreStands core.farm (page_at files) (stamp_at files) (epoch_held files) (map (after_invalidation core.farm.level i) core.flights) (core.queue.items ++ b.last ∷ []) core.asked (core.begun + 1) core.epoch (drawn_of core + 1) (Begun (core.begun + 1) i ∷ log)) b.inv_is
        (begin core.farm (page_at files) (stamp_at files) (epoch_held files) core.flights core.queue.items core.asked core.begun core.epoch (drawn_of core) log s.stands b.last (b.number ∙ b.next) b.stamp b.place b.level (rise 0 core.asked core.farm.level b.last.purge.inv core.flights s.stands.flying.rising))))

    pub begin_over : (files : Files) (log : List LogEntry) → drawn_of core < most_stamps → StandsOver found files core log → AllAllowed core.farm (conditions_of_call false false) (Begun flush inv ∷ []) log × StandsOver found files next (Begun flush inv ∷ log)
    begin_over files log left s =
        let counted : core.begun ≡ flushes_begun log = s.stands.counts.flushes in
        let one : flush ≡ flushes_begun log + 1 = b.next ∙ ap (λ (n : ℕ). n + 1) counted in (
          ((is_up_now files log s, one), tt),
          record {
            stands = rw (b.farm, b.flights, b.queue, b.asked, b.begun, b.epoch) (begin_stands files log s);
            numbered = s.numbered;
            order = s.order;
            formed = s.formed;
            heads = rw (b.asked, b.begun, b.epoch) (heads_later (head_at files) core.epoch (drawn_of core) (core.asked + (core.begun + 1)) (omega arith) s.heads);
            down_is = b.down ∙ s.down_is;
            few = rw (b.asked, b.begun) (omega (arith, left));
            slices = rw (b.farm, b.queue) (names_begin core.farm found files core.queue.items log flush inv b.last b.number (omega (arith, one)) b.level b.place s.slices one);
            knows = begun_known core next flush inv b files s.knows;
          },
        )

-- ---- what isn't served isn't owed

pub not_owed : (found : ℕ) (core : Core) (key : PageKey) (disk_failed : Bool) (files : Files) (log : List LogEntry) → IsPageKey key → (disk_failed ≡ false → serves_page core.farm (page_at files) (stamp_at files) key ≡ None) → StandsOver found files core log → IsOwed core.farm log (Some key) → disk_failed ≡ true
not_owed found core key disk_failed files log page none s owed = ⊎_elim
    (λ (on : disk_failed ≡ true). on)
    (λ (off : disk_failed ≡ false). absurd (cc (s.stands.holds.must key owed.0 page owed.1, none off)))
    (cases_Bool disk_failed)
