-- What a request owes, by what it came to.
use Rattle.std.proofs.Common.{◌≡◌, ◌<◌, ◌+◌, ◌++◌, append-nil, ℕ, Bool, true, false, List, [], ◌∷◌, Option, Some, None, inl, inr, refl, sym, ◌∙◌, ap, subst, arith, map}
use Rattle.std.proofs.lemmas.List.{map_push}
use Rattle.std.specs.Prelude.{IfSome, IsTrue}
use Rattle.sp_base.specs.Requests.{Request}
use Rattle.sp_base.specs.Texts.{Text}
use Rattle.sp_base.specs.declared.answer.Answer.{Answer}
use Rattle.sp_outside.specs.Files.{Files}
use Rattle.cover_rules.specs.Pages.{IsPageKey}
use Rattle.cover_rules.specs.declared.page.PageKey.{PageKey}
use Rattle.cover_rules.specs.declared.invalidation.Invalidation.{Invalidation}
use Rattle.dispatch_rules.specs.Caching.{cache_key, is_auto, is_storable}
use Rattle.cache_files.specs.Pages.{head_at, known_at, page_at}
use Rattle.stat_files.specs.Stamps.{stamp_at}
use Rattle.std.specs.Option.{option_and_then}
use Rattle.flights.specs.declared.flight.Flight.{Flight}
use Rattle.flights.specs.Flights.{AreRising, after_invalidation, numbers_of}
use Rattle.flights.proofs.HistoryLemmas.{numbers-after}
use Rattle.invalidation.specs.Invalidations.{is_invalidation}
use Rattle.cache_ids.specs.Ids.{FlightId, FlushId}
use Rattle.cache_log.specs.Entries.{LogEntry, Asked}
use Rattle.cache_log.specs.Hits.{MayHit}
use Rattle.cache_log.specs.Rules.{IsOwed}
use Rattle.coherence_core.specs.Asking.{AskedAs, FlushedAs, FoundAs, HasBegunFlush, IsSameCore, IsLookedUp, KeyedAs, RequestedAs, core_asking, next_flight}
use Rattle.coherence_core.specs.Notes.{KnowsDisk, KnowsDiskWith, with_notes}
use Rattle.page_index.specs.declared.index.PageIndex.{PageIndex}
use Rattle.coherence_core.specs.Cores.{ExtendsLogs, FlightsRise, KeepsFarm, CoreStandsFor, StandsOver, conditions_of_call, drawn_of, flight_labels, flush_numbers}
use Rattle.coherence_core.specs.Facts.{CoverageFacts}
use Rattle.coherence_core.specs.Requests.{GotAs, IsNotOwed, ReachesCache, got_entries, got_flights, got_flushes, got_labels, is_got_out_of_memory}
use Rattle.coherence_core.specs.Served.{stat_for}
use Rattle.coherence_core.specs.declared.answers.Got.{Got}
use Rattle.coherence_core.specs.declared.answers.Got.TheVariants as got
use Rattle.coherence_core.specs.declared.answers.Requested.{Requested}
use Rattle.coherence_core.specs.declared.core_state.Core.{Core}
use Rattle.coherence_core.specs.declared.pending.Pending.{Pending}
use Rattle.coherence_core.proofs.AskingLemmas.{ask_over, begin_over, begun_known, hit_over, not_owed}
use Rattle.coherence_core.proofs.NoteLemmas.{asking_known, known_same}
use Rattle.coherence_core.proofs.CallLemmas.{adds_nothing, extends, noting_over, same_core}
use Rattle.coherence_core.proofs.LookupLemmas.{served_storable}
use Rattle.cache_log.specs.Limits.{most_stamps}

-- ---- lists

labels_voided : (level : ℕ) (inv : Invalidation) (fs : List Flight) → flight_labels (map (after_invalidation level inv) fs) ≡ flight_labels fs
labels_voided level inv [] = refl
labels_voided level inv (f ∷ fs) = ap (λ l. (f.number, f.key) ∷ l) (labels_voided level inv fs)

flushes_push : (ps : List Pending) (q : Pending) → flush_numbers (ps ++ q ∷ []) ≡ flush_numbers ps ++ q.number ∷ []
flushes_push [] q = refl
flushes_push (p ∷ ps) q = ap (λ l. p.number ∷ l) (flushes_push ps q)

-- ---- what is owed

pub record Owes (told : Option Files) (old new : Core) (req : Request) (peer : Text) (got : Got) (disk_failed : Bool) : Type 0 where
  pub log : (found : ℕ) → ExtendsLogs old.farm (CoreStandsFor found told old) (CoreStandsFor found told new) (conditions_of_call disk_failed (is_got_out_of_memory got)) (got_entries got)
  pub cause : (found : ℕ) (log : List LogEntry) → CoreStandsFor found told old log → GotAs old log req peer disk_failed got
  pub flights : numbers_of new.flights ≡ numbers_of old.flights ++ got_flights got
  pub labels : flight_labels new.flights ≡ flight_labels old.flights ++ got_labels got
  pub flushes : flush_numbers new.queue.items ≡ flush_numbers old.queue.items ++ got_flushes got
  pub rising : FlightsRise old → FlightsRise new
  pub kept : KeepsFarm old new
  pub knows : KnowsDisk told old → KnowsDisk told new

-- what adds nothing
abbrev AddsNone : Got → Type 0
AddsNone got = (got_entries got ≡ []) × (got_flights got ≡ []) × (got_labels got ≡ []) × (got_flushes got ≡ [])

module _ (told : Option Files) (old new : Core) (req : Request) (peer : Text) where
  same_owes : (got : Got) (disk_failed : Bool) → AddsNone got → IsSameCore old new → ((found : ℕ) (log : List LogEntry) → CoreStandsFor found told old log → GotAs old log req peer disk_failed got) → Owes told old new req peer got disk_failed
  same_owes got disk_failed none same cause = record {
    log = λ found. subst (λ (es : List LogEntry). ExtendsLogs old.farm (CoreStandsFor found told old) (CoreStandsFor found told new) (conditions_of_call disk_failed (is_got_out_of_memory got)) es) (sym none.0) (adds_nothing old.farm found told old new (conditions_of_call disk_failed (is_got_out_of_memory got)) same);
    cause = cause;
    flights = ap numbers_of same.flights ∙ sym (append-nil (numbers_of old.flights)) ∙ ap (λ (l : List FlightId). numbers_of old.flights ++ l) (sym none.1);
    labels = ap flight_labels same.flights ∙ sym (append-nil (flight_labels old.flights)) ∙ ap (λ (l : List (FlightId × Option PageKey)). flight_labels old.flights ++ l) (sym none.2);
    flushes = ap flush_numbers same.queue ∙ sym (append-nil (flush_numbers old.queue.items)) ∙ ap (λ (l : List FlushId). flush_numbers old.queue.items ++ l) (sym none.3);
    rising = λ r. rw (same.flights, same.asked) r;
    kept = record { farm = same.farm; down = same.down };
    knows = known_same told old new same.farm same.queue same.pages;
  }

  -- the same where something may have been noted
  noted_owes : (notes : PageIndex) → KnowsDiskWith told old notes → (got : Got) (disk_failed : Bool) → AddsNone got → new ≡ with_notes old notes → ((found : ℕ) (log : List LogEntry) → CoreStandsFor found told old log → GotAs old log req peer disk_failed got) → Owes told old new req peer got disk_failed
  noted_owes notes learns got disk_failed none same cause = record {
    log = λ found. subst (λ (es : List LogEntry). ExtendsLogs old.farm (CoreStandsFor found told old) (CoreStandsFor found told new) (conditions_of_call disk_failed (is_got_out_of_memory got)) es) (sym none.0) (extended found told learns);
    cause = cause;
    flights = ap (λ (c : Core). numbers_of c.flights) same ∙ sym (append-nil (numbers_of old.flights)) ∙ ap (λ (l : List FlightId). numbers_of old.flights ++ l) (sym none.1);
    labels = ap (λ (c : Core). flight_labels c.flights) same ∙ sym (append-nil (flight_labels old.flights)) ∙ ap (λ (l : List (FlightId × Option PageKey)). flight_labels old.flights ++ l) (sym none.2);
    flushes = ap (λ (c : Core). flush_numbers c.queue.items) same ∙ sym (append-nil (flush_numbers old.queue.items)) ∙ ap (λ (l : List FlushId). flush_numbers old.queue.items ++ l) (sym none.3);
    rising = λ r. subst FlightsRise (sym same) r;
    kept = record { farm = ap (λ (c : Core). c.farm) same; down = ap (λ (c : Core). c.down) same };
    knows = λ k. subst (KnowsDisk told) (sym same) (learns k);
  }
    where
      extended : (found : ℕ) (t : Option Files) → KnowsDiskWith t old notes → ExtendsLogs old.farm (CoreStandsFor found t old) (CoreStandsFor found t new) (conditions_of_call disk_failed (is_got_out_of_memory got)) []
      extended found None l = extends (λ log s. absurd s)
      extended found (Some files) l = extends (λ log s. (tt, subst (λ (c : Core). StandsOver found files c log) (sym same) (noting_over found files old notes log s (l s.knows))))

  module _ (facts : CoverageFacts old.farm)
      (rise : (least most : ℕ) (flight : Flight) (flights : List Flight) → AreRising least flights most → most < flight.number → AreRising least (flights ++ flight ∷ []) flight.number)
      (stay : (least most level : ℕ) (inv : Invalidation) (flights : List Flight) → AreRising least flights most → AreRising least (map (after_invalidation level inv) flights) most) where
    -- ---- a flight

    launched : (key : Option PageKey) (auto : Bool) (disk_failed : Bool) (left : drawn_of old < most_stamps) (reach : ReachesCache old req) (good : IfSome key IsPageKey) (auto_is : (k : PageKey) → key ≡ Some k → auto ≡ is_auto old.farm k)
        (owed : (found : ℕ) (log : List LogEntry) → CoreStandsFor found told old log → IsOwed old.farm log key → disk_failed ≡ true) (cause : (found : ℕ) (log : List LogEntry) → CoreStandsFor found told old log → GotAs old log req peer disk_failed (got.Asked (old.asked + 1) key))
        (notes : PageIndex) (learns : KnowsDiskWith told old notes)
        → Owes told old (core_asking (with_notes old notes) key auto) req peer (got.Asked (old.asked + 1) key) disk_failed
    launched key auto disk_failed left reach good auto_is owed cause notes learns = record {
      log = λ found. extended found told owed learns;
      cause = cause;
      flights = map_push (λ (f : Flight). f.number) old.flights (next_flight old key auto);
      labels = map_push (λ (f : Flight). (f.number, f.key)) old.flights (next_flight old key auto);
      flushes = sym (append-nil (flush_numbers old.queue.items));
      rising = λ r. rise 0 old.asked (next_flight old key auto) old.flights r (omega arith);
      kept = record { farm = refl; down = refl };
      knows = λ k. asking_known told (with_notes old notes) key auto (learns k);
    }
      where
        extended : (found : ℕ) (t : Option Files) → ((found : ℕ) (log : List LogEntry) → CoreStandsFor found t old log → IsOwed old.farm log key → disk_failed ≡ true) → KnowsDiskWith t old notes
            → ExtendsLogs old.farm (CoreStandsFor found t old) (CoreStandsFor found t (core_asking (with_notes old notes) key auto)) (conditions_of_call disk_failed false) (Asked (old.asked + 1) key ∷ [])
        extended found None o l = extends (λ log s. absurd s)
        extended found (Some files) o l = extends (λ log s.
            let asked = ask_over found old reach.up facts key auto good auto_is rise disk_failed files log left (o found log s) s in
            (asked.0, noting_over found files (core_asking old key auto) notes (Asked (old.asked + 1) key ∷ log) asked.1 (asking_known (Some files) (with_notes old notes) key auto (l s.knows))))

    asked_owes : (key : Option PageKey) (auto : Bool) (disk_failed : Bool) (reach : ReachesCache old req) (key_is : key ≡ cache_key old.farm req) (good : IfSome key IsPageKey) (auto_is : (k : PageKey) → key ≡ Some k → auto ≡ is_auto old.farm k)
        (owed : (found : ℕ) (log : List LogEntry) → CoreStandsFor found told old log → IsOwed old.farm log key → disk_failed ≡ true) (notes : PageIndex) (learns : KnowsDiskWith told old notes) (got : Got) → AskedAs (with_notes old notes) new key auto got → Owes told old new req peer got disk_failed
    asked_owes key auto disk_failed reach key_is good auto_is owed notes learns got.FullAir a = noted_owes notes learns got.FullAir disk_failed (refl, refl, refl, refl) a.0 (λ found log s. (reach, passed found log s, a.1))
      where
        passed : (found : ℕ) (log : List LogEntry) → CoreStandsFor found told old log → IsNotOwed old log req disk_failed
        passed found log s = subst (λ (k : Option PageKey). IsOwed old.farm log k → disk_failed ≡ true) key_is (owed found log s)
    asked_owes key auto disk_failed reach key_is good auto_is owed notes learns got.Worn a = noted_owes notes learns got.Worn disk_failed (refl, refl, refl, refl) a.0 (λ found log s. (inr (record { cache = reach; passed = passed found log s; room = a.1 }), a.2))
      where
        passed : (found : ℕ) (log : List LogEntry) → CoreStandsFor found told old log → IsNotOwed old log req disk_failed
        passed found log s = subst (λ (k : Option PageKey). IsOwed old.farm log k → disk_failed ≡ true) key_is (owed found log s)
    asked_owes key auto disk_failed reach key_is good auto_is owed notes learns (got.Asked ticket own) a = rw (a.0, a.3, a.4) (launched key auto disk_failed a.2 reach good auto_is owed (λ found log s. (record { cache = reach; passed = passed found log s; room = a.1 }, key_is, a.2)) notes learns)
      where
        passed : (found : ℕ) (log : List LogEntry) → CoreStandsFor found told old log → IsNotOwed old log req disk_failed
        passed found log s = subst (λ (k : Option PageKey). IsOwed old.farm log k → disk_failed ≡ true) key_is (owed found log s)
    asked_owes key auto disk_failed reach key_is good auto_is owed notes learns got.NoMemory a = noted_owes notes learns got.NoMemory disk_failed (refl, refl, refl, refl) a (λ found log s. tt)
    asked_owes key auto disk_failed reach key_is good auto_is owed notes learns got.Down a = absurd a
    asked_owes key auto disk_failed reach key_is good auto_is owed notes learns got.Denied a = absurd a
    asked_owes key auto disk_failed reach key_is good auto_is owed notes learns (got.Hit k answer) a = absurd a
    asked_owes key auto disk_failed reach key_is good auto_is owed notes learns (got.Flush v inv) a = absurd a
    asked_owes key auto disk_failed reach key_is good auto_is owed notes learns (got.FlushRefused fault) a = absurd a
    asked_owes key auto disk_failed reach key_is good auto_is owed notes learns got.FlushForbidden a = absurd a
    asked_owes key auto disk_failed reach key_is good auto_is owed notes learns got.FullPurge a = absurd a

    -- ---- a page that may be kept

    module _ (law : (files : Files) (key : PageKey) → page_at files key ≡ option_and_then (known_at files key) (head_at files key)) (reach : ReachesCache old req) (key : PageKey) (key_is : cache_key old.farm req ≡ Some key) (page : IsPageKey key) where
      hit_owes : (own : PageKey) (answer : Answer) (disk_failed : Bool) (notes : PageIndex) → KnowsDiskWith told old notes → new ≡ with_notes old notes → own ≡ key → (KnowsDisk told old → IsLookedUp told old.farm key (Some answer)) → Owes told old new req peer (got.Hit own answer) disk_failed
      hit_owes own answer disk_failed notes learns same one is = rw (same, one) (record {
        log = λ found. extended found told learns is;
        cause = λ found log s. let c = caused found told log is s in (reach, key_is, c.0, c.1);
        flights = sym (append-nil (numbers_of old.flights));
        labels = sym (append-nil (flight_labels old.flights));
        flushes = sym (append-nil (flush_numbers old.queue.items));
        rising = λ r. r;
        kept = record { farm = refl; down = refl };
        knows = learns;
      })
        where
          extended : (found : ℕ) (t : Option Files) → KnowsDiskWith t old notes → (KnowsDisk t old → IsLookedUp t old.farm key (Some answer)) → ExtendsLogs old.farm (CoreStandsFor found t old) (CoreStandsFor found t (with_notes old notes)) (conditions_of_call disk_failed false) (got_entries (got.Hit key answer))
          extended found None l h = extends (λ log s. absurd s)
          extended found (Some files) l h = extends (λ log s.
              let hit = hit_over found old reach.up (conditions_of_call disk_failed false) key answer files log page (h s.knows) s in
              (hit.0, noting_over found files old notes (got_entries (got.Hit key answer) ++ log) hit.1 (l s.knows)))

          caused : (found : ℕ) (t : Option Files) (log : List LogEntry) → (KnowsDisk t old → IsLookedUp t old.farm key (Some answer)) → CoreStandsFor found t old log → MayHit old.farm log key answer × IsTrue (is_storable answer)
          caused found None log h s = absurd s
          caused found (Some files) log h s = (s.stands.holds.may key answer page (h s.knows), served_storable files key (is_auto old.farm key) (stat_for old.farm (stamp_at files) key) answer (law files key) (h s.knows))

      module _ (disk_failed : Bool) (none : disk_failed ≡ false → KnowsDisk told old → IsLookedUp told old.farm key None) where
        owed_here : (found : ℕ) (t : Option Files) (log : List LogEntry) → (disk_failed ≡ false → KnowsDisk t old → IsLookedUp t old.farm key None) → CoreStandsFor found t old log → IsOwed old.farm log (Some key) → disk_failed ≡ true
        owed_here found None log h s = absurd s
        owed_here found (Some files) log h s = not_owed found old key disk_failed files log page (λ off. h off s.knows) s

        same_auto : (k : PageKey) → Some key ≡ Some k → is_auto old.farm key ≡ is_auto old.farm k
        same_auto k is = let one : key ≡ k = cc is in ap (λ (l : PageKey). is_auto old.farm l) one

        passed_on : (notes : PageIndex) → KnowsDiskWith told old notes → (got : Got) → AskedAs (with_notes old notes) new (Some key) (is_auto old.farm key) got → Owes told old new req peer got disk_failed
        passed_on notes learns got a = asked_owes (Some key) (is_auto old.farm key) disk_failed reach (sym key_is) page same_auto (λ found log s. owed_here found told log none s) notes learns got a

      found_owes : (notes : PageIndex) → KnowsDiskWith told old notes → (got : Got) (disk_failed : Bool) → FoundAs told old notes new key got disk_failed → Owes told old new req peer got disk_failed
      found_owes notes learns (got.Hit own answer) disk_failed k = hit_owes own answer disk_failed notes learns k.0 k.1 k.3
      found_owes notes learns got.NoMemory disk_failed k = noted_owes notes learns got.NoMemory disk_failed (refl, refl, refl, refl) k (λ found log s. tt)
      found_owes notes learns got.FullAir disk_failed k = passed_on disk_failed k.1 notes learns got.FullAir k.0
      found_owes notes learns got.Worn disk_failed k = passed_on disk_failed k.1 notes learns got.Worn k.0
      found_owes notes learns (got.Asked ticket own) disk_failed k = passed_on disk_failed k.1 notes learns (got.Asked ticket own) k.0
      found_owes notes learns got.Down disk_failed k = absurd k.0
      found_owes notes learns got.Denied disk_failed k = absurd k.0
      found_owes notes learns (got.Flush v inv) disk_failed k = absurd k.0
      found_owes notes learns (got.FlushRefused fault) disk_failed k = absurd k.0
      found_owes notes learns got.FlushForbidden disk_failed k = absurd k.0
      found_owes notes learns got.FullPurge disk_failed k = absurd k.0

      keyed_owes : (got : Got) (disk_failed : Bool) → KeyedAs told old new key got disk_failed → Owes told old new req peer got disk_failed
      keyed_owes got disk_failed k = found_owes k.0 k.1.0 got disk_failed k.1.1

    -- ---- a flush

    begun_owes : (flush : FlushId) (inv : Invalidation) → old.down ≡ false → drawn_of old < most_stamps → HasBegunFlush old new flush inv → ((found : ℕ) (log : List LogEntry) → CoreStandsFor found told old log → GotAs old log req peer false (got.Flush flush inv)) → Owes told old new req peer (got.Flush flush inv) false
    begun_owes flush inv up left b cause = record {
      log = λ found. extended found told;
      cause = cause;
      flights = ap numbers_of b.flights ∙ numbers-after old.farm.level inv old.flights ∙ sym (append-nil (numbers_of old.flights));
      labels = ap flight_labels b.flights ∙ labels_voided old.farm.level inv old.flights ∙ sym (append-nil (flight_labels old.flights));
      flushes = ap flush_numbers b.queue ∙ flushes_push old.queue.items b.last ∙ ap (λ (n : FlushId). flush_numbers old.queue.items ++ n ∷ []) b.number;
      rising = λ r. rw (b.flights, b.asked) (stay 0 old.asked old.farm.level inv old.flights r);
      kept = record { farm = b.farm; down = b.down };
      knows = begun_told told;
    }
      where
        extended : (found : ℕ) (t : Option Files) → ExtendsLogs old.farm (CoreStandsFor found t old) (CoreStandsFor found t new) (conditions_of_call false false) (got_entries (got.Flush flush inv))
        extended found None = extends (λ log s. absurd s)
        extended found (Some files) = extends (λ log s. begin_over found old up new flush inv b stay files log left s)

        begun_told : (t : Option Files) → KnowsDisk t old → KnowsDisk t new
        begun_told None k = tt
        begun_told (Some files) k = begun_known old new flush inv b files k

    flush_owes : old.down ≡ false → is_invalidation req ≡ true → (got : Got) → FlushedAs old new req peer got → Owes told old new req peer got false
    flush_owes up asked got.FlushForbidden f = same_owes got.FlushForbidden false (refl, refl, refl, refl) f.0 (λ found log s. (up, asked, f.1))
    flush_owes up asked (got.FlushRefused fault) f = same_owes (got.FlushRefused fault) false (refl, refl, refl, refl) f.0 (λ found log s. (record { up = up; flush = asked; allowed = f.1 }, f.2))
    flush_owes up asked got.FullPurge f = same_owes got.FullPurge false (refl, refl, refl, refl) f.0 (λ found log s. (record { up = up; flush = asked; allowed = f.1 }, f.2, f.3))
    flush_owes up asked got.Worn f = same_owes got.Worn false (refl, refl, refl, refl) f.0 (λ found log s. (inl (record { up = up; flush = asked; allowed = f.1 }, record { named = f.2; room = f.3 }), f.4))
    flush_owes up asked (got.Flush flush inv) f = begun_owes flush inv up f.4 f.0 (λ found log s. (record { up = up; flush = asked; allowed = f.1 }, f.2, record { named = (inv, f.2); room = f.3 }, f.4))
    flush_owes up asked got.NoMemory f = same_owes got.NoMemory false (refl, refl, refl, refl) f (λ found log s. tt)
    flush_owes up asked got.Down f = absurd f
    flush_owes up asked got.Denied f = absurd f
    flush_owes up asked (got.Hit key answer) f = absurd f
    flush_owes up asked (got.Asked ticket key) f = absurd f
    flush_owes up asked got.FullAir f = absurd f

    -- ---- a request

    none_owed : (found : ℕ) (t : Option Files) (log : List LogEntry) → CoreStandsFor found t old log → IsOwed old.farm log None → false ≡ true
    none_owed found t log s owed = absurd owed

    pub request_owes : ((files : Files) (key : PageKey) → page_at files key ≡ option_and_then (known_at files key) (head_at files key)) → (r : Requested) → RequestedAs told old new req peer r → Owes told old new req peer r.got r.disk_failed
    request_owes law r (inl h) = rw (h.1, h.2) (same_owes got.NoMemory false (refl, refl, refl, refl) (same_core old new h.0) (λ found log s. tt))
    request_owes law r (inr (inl h)) = rw (h.2, h.3) (same_owes got.Down false (refl, refl, refl, refl) (same_core old new h.1) (λ found log s. h.0))
    request_owes law r (inr (inr (inl h))) = rw (h.3) (flush_owes h.0 h.1 r.got h.2)
    request_owes law r (inr (inr (inr (inl h)))) = rw (h.4, h.5) (same_owes got.Denied false (refl, refl, refl, refl) (same_core old new h.3) (λ found log s. (h.0, h.1, h.2)))
    request_owes law r (inr (inr (inr (inr (inl h))))) = rw (h.3) (asked_owes None false false h.0 (sym h.1) tt (λ k is. absurd (cc is)) (λ found log s. none_owed found told log s) old.pages (λ k. k) r.got h.2)
    request_owes law r (inr (inr (inr (inr (inr h))))) = keyed_owes law h.0 h.1.0 h.1.1.0 h.1.1.1 r.got r.disk_failed h.1.1.2
