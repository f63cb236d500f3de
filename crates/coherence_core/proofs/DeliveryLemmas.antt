-- What a flight that lands or is lost makes of what is stood for.
use Rattle.std.proofs.Common.{◌≡◌, ◌≢◌, ◌⊎◌, ◌≤◌, ◌+◌, ◌*◌, ◌<◌, ◌^◌, ℕ, true, false, not, List, [], ◌∷◌, Option, Some, None, IsSome, inl, inr, refl, sym, ◌∙◌, ap, subst, arith, ⊎_elim, length}
use Rattle.std.specs.Prelude.{IfSome, IsTrue, ◌==◌}
use Rattle.sp_base.specs.MediaTypes.{is_kind}
use Rattle.std.proofs.lemmas.Bool.{and_parts, eqb-true}
use Rattle.sp_outside.specs.Files.{Files}
use Rattle.sp_base.specs.declared.answer.Answer.{Answer}
use Rattle.sp_base.specs.declared.answer.Mark.{Mark}
use Rattle.sp_base.specs.declared.answer.Mark.TheVariants.{Plain, NoCache, NoStore, MustRevalidate}
use Rattle.any_config.specs.declared.farm.Farm.{Farm}
use Rattle.cover_rules.specs.Pages.{IsPageKey}
use Rattle.cover_rules.specs.declared.page.PageKey.{PageKey}
use Rattle.cover_rules.specs.declared.stamp.Stamp.{Stamp}
use Rattle.dispatch_rules.specs.Caching.{is_auto, is_plain_mark, is_storable}
use Rattle.docroot_format.specs.declared.fault.FileFault.{FileFault}
use Rattle.docroot_format.specs.declared.fault.FileFault.TheVariants.{Disk, NoMemory}
use Rattle.cache_files.specs.declared.head_note.HeadNote.{HeadNote}
use Rattle.cache_files.specs.Epochs.{epoch_held}
use Rattle.cache_files.specs.Changes.{HasPage}
use Rattle.cache_files.specs.HeldStamps.{KeepsOrder}
use Rattle.cache_files.specs.Pages.{IsPagePut, head_at, page_at, plain_page}
use Rattle.stat_files.specs.Stamps.{stamp_at}
use Rattle.docroot_changes.specs.Changes.{BesidePage, MayPut, PageSet, Told}
use Rattle.flights.specs.ClearPages.{ClearPage}
use Rattle.flights.specs.declared.flight.Flight.{Flight}
use Rattle.flights.specs.declared.landing.Landing.{Landing}
use Rattle.flights.specs.declared.landing.Landing.TheVariants.{Clear, Voided, Unkeyed}
use Rattle.flights.specs.Flights.{AreRising, flight_at, without}
use Rattle.flights.specs.Landings.{LandsAs}
use Rattle.cache_log.specs.Entries.{LogEntry, Kept, Landed, Lost, Passed, Unkept, flushes_begun, is_up, landings_stored}
use Rattle.cache_log.specs.Hits.{InAir, IsClear, stored}
use Rattle.cache_log.specs.Rules.{CallConditions, MayStore}
use Rattle.coherence_core.specs.Bounds.{BoundsSlices, most_files}
use Rattle.coherence_core.specs.Cores.{ExtendsLogs, CoreStandsFor, StandsOver, conditions_of_call, drawn_of}
use Rattle.coherence_core.specs.Facts.{CoverageFacts}
use Rattle.coherence_core.specs.Holds.{KeepsStatFiles}
use Rattle.coherence_core.specs.Notes.{KnowsFiles, StaysKnown, StaysTold}
use Rattle.page_index.specs.Agreement.{Agrees, HasNoneCovered}
use Rattle.page_index.specs.Effects.{ForgetsPage, IsFewer}
use Rattle.page_index.specs.Notes.{page_noted}
use Rattle.page_index.specs.declared.index.PageIndex.{PageIndex}
use Rattle.cover_rules.specs.declared.invalidation.Invalidation.{Invalidation}
use Rattle.coherence_core.specs.Landings.{DeliveredAs, ForgetsFor, ForgetsFrom, IsKeptAs, IsKeptFrom, IsStored, fate_of, landed_under}
use Rattle.coherence_core.specs.Served.{Before, IsFresh, stat_for}
use Rattle.coherence_core.specs.StampTies.{IsFlightStamp}
use Rattle.coherence_core.specs.Stands.{AreHeadsBefore, IsLogFlight, CoreStands, stamp}
use Rattle.coherence_core.specs.declared.answers.Landed.{Landed as LandedAs}
use Rattle.coherence_core.specs.declared.answers.Landed.TheVariants as landed
use Rattle.coherence_core.specs.declared.core_state.Core.{Core}
use Rattle.coherence_core.proofs.NoteLemmas.{apart_kept, notes_same}
use Rattle.coherence_core.proofs.StampLemmas.{epoch_below, heads_changed}
use Rattle.coherence_core.proofs.FlightLemmas.{flying_at}
use Rattle.coherence_core.proofs.TieLemmas.{drawn_at}
use Rattle.coherence_core.proofs.LandingSteps.{kept, lost, passed, unkept}
use Rattle.coherence_core.proofs.RestartSteps.{same_files}
use Rattle.coherence_core.proofs.SliceBounds.{adds_none, names_stay}
use Rattle.coherence_core.proofs.CallLemmas.{extends, key_cases, numbered_same, told_map, told_same}
use Rattle.coherence_core.proofs.StatFileLemmas.{kept_formed}

-- ---- answers

plain_is : (m : Mark) → is_plain_mark m ≡ true → m ≡ Plain
plain_is Plain is = refl
plain_is NoCache is = absurd (cc is)
plain_is NoStore is = absurd (cc is)
plain_is MustRevalidate is = absurd (cc is)

pub storable_parts : (a : Answer) → is_storable a ≡ true → (a.status ≡ 200) × (a.mark ≡ Plain)
storable_parts a is = let both = and_parts (a.status == 200) (is_plain_mark a.mark) is in (eqb-true a.status 200 both.0, plain_is a.mark both.1)

stored_is : (st : Stamp) (a : Answer) → is_storable a ≡ true → (plain_page st a.kind a.body).answer ≡ stored a
stored_is st a is = let p = storable_parts a is in (λ i. record { status = sym p.0 i; kind = a.kind; location = []; mark = sym p.1 i; body = a.body })

pub if_flight : (o : Option Flight) (f : Flight) (P : Flight → Type 0) → o ≡ Some f → P f → IfSome o P
if_flight o f P at p = subst (λ (x : Option Flight). IfSome x P) (sym at) p

pub flight_if : (o : Option Flight) (f : Flight) (P : Flight → Type 0) → o ≡ Some f → IfSome o P → P f
flight_if o f P at p = subst (λ (x : Option Flight). IfSome x P) at p

pub some_flight : (o : Option Flight) → IsSome o → (f : Flight) × (o ≡ Some f)
some_flight None there = absurd (cc there)
some_flight (Some f) there = (f, refl)

-- room for two files more
two_more : (farm : Farm) (found : ℕ) (log : List LogEntry) (l : ℕ) → landings_stored log + 1 ≡ l → (b : ℕ) → flushes_begun log ≡ b → most_files farm found log + 2 ≤ found + 2 * l + (farm.level + 1) * b + 1
two_more farm found log l is b same = go landings_stored_log l ((farm.level + 1) * b) is (ap (λ (x : ℕ). found + 2 * landings_stored log + (farm.level + 1) * x + 1 + 2) same)
  where
    landings_stored_log : ℕ
    landings_stored_log = landings_stored log

    go : (x y m : ℕ) → x + 1 ≡ y → most_files farm found log + 2 ≡ found + 2 * x + m + 1 + 2 → most_files farm found log + 2 ≤ found + 2 * y + m + 1
    go x y m e is2 = omega (arith, e, is2)

-- ---- a flight that leaves the air

module _ (found : ℕ) (core : Core) (n : ℕ) (f : Flight) (at : flight_at n core.flights ≡ Some f) (next : List Flight) (is : next ≡ without n core.flights)
    (left : (least number most : ℕ) (flights : List Flight) → AreRising least flights most → AreRising least (without number flights) most) where
  known : (files : Files) (log : List LogEntry) → StandsOver found files core log → IsLogFlight core.farm log (stamp_at files) core.asked (stamp core.epoch (drawn_of core)) f × (f.number ≡ n)
  known files log s = flying_at core.farm log (stamp_at files) core.asked n (stamp core.epoch (drawn_of core)) core.flights f s.stands.flying.each at

  air : (files : Files) (log : List LogEntry) → StandsOver found files core log → InAir log n f.key
  air files log s = let k = known files log s in subst (λ (m : ℕ). InAir log m f.key) k.1 k.0.in_air

  rising : (files : Files) (log : List LogEntry) → StandsOver found files core log → AreRising 0 (without n core.flights) core.asked
  rising files log s = left 0 n core.asked core.flights s.stands.flying.rising

  pub gone_lost : (told : Option Files) (under : CallConditions) → ExtendsLogs core.farm (CoreStandsFor found told core) (CoreStandsFor found told (record core { flights = next })) under (Lost n ∷ [])
  gone_lost None under = extends (λ log s. absurd s)
  gone_lost (Some files) under = extends (λ log s. (
    ((f.key, air files log s), tt),
    subst (λ (l : List Flight). StandsOver found files (record core { flights = l }) (Lost n ∷ log)) (sym is) (record {
      stands = lost core.farm (page_at files) (stamp_at files) (epoch_held files) core.flights core.queue.items core.asked core.begun core.epoch (drawn_of core) log s.stands n (rising files log s);
      numbered = s.numbered;
      order = s.order;
      formed = s.formed;
      heads = s.heads;
      down_is = s.down_is;
      few = s.few;
      slices = names_stay core.farm found 0 files files core.queue.items log (Lost n ∷ log) (adds_none files) (omega arith) (λ v. refl) refl s.slices;
      knows = record { agree = s.knows.agree; apart = s.knows.apart };
    }),
  ))

  -- what is known of the files once it did, with these notes
  known_then : (l : List Flight) (notes : PageIndex) (files after : Files) → StaysKnown files after core.pages notes → KnowsFiles files core → KnowsFiles after (record core { flights = l; pages = notes })
  known_then l notes files after stays k = record {
    agree = stays.agree k.agree;
    apart = apart_kept core.farm.level core.pages notes (stays.apart core.farm.level) core.queue.items k.apart;
  }

  -- a landing that isn't stored, since it may not be
  gone_passed : (notes : PageIndex) (told : Option Files) → StaysTold core.pages notes told told → (under : CallConditions) (a : Answer) → ((files : Files) (log : List LogEntry) → StandsOver found files core log → MayStore core.farm log n f.key a → ⊥)
      → ExtendsLogs core.farm (CoreStandsFor found told core) (CoreStandsFor found told (record core { flights = next; pages = notes })) under (Landed n f.key a Passed ∷ [])
  gone_passed notes None stays under a why = extends (λ log s. absurd s)
  gone_passed notes (Some files) stays under a why = extends (λ log s. (
    ((air files log s, why files log s), tt),
    subst (λ (l : List Flight). StandsOver found files (record core { flights = l; pages = notes }) (Landed n f.key a Passed ∷ log)) (sym is) (record {
      stands = passed core.farm (page_at files) (stamp_at files) (epoch_held files) core.flights core.queue.items core.asked core.begun core.epoch (drawn_of core) log s.stands n (rising files log s) f.key a;
      numbered = s.numbered;
      order = s.order;
      formed = s.formed;
      heads = s.heads;
      down_is = s.down_is;
      few = s.few;
      slices = names_stay core.farm found 0 files files core.queue.items log (Landed n f.key a Passed ∷ log) (adds_none files) (omega arith) (λ v. refl) refl s.slices;
      knows = known_then (without n core.flights) notes files files stays s.knows;
    }),
  ))

  unkeyed : (notes : PageIndex) (told : Option Files) → StaysTold core.pages notes told told → (under : CallConditions) (a : Answer) → f.key ≡ None → ExtendsLogs core.farm (CoreStandsFor found told core) (CoreStandsFor found told (record core { flights = next; pages = notes })) under (Landed n f.key a Passed ∷ [])
  unkeyed notes told stays under a none = gone_passed notes told stays under a (λ files log s may. subst (λ (k : Option PageKey). MayStore core.farm log n k a) none may)

  voided : (notes : PageIndex) (told : Option Files) → StaysTold core.pages notes told told → (under : CallConditions) (a : Answer) (key : PageKey) → (f.voided ≡ true) × (f.key ≡ Some key) → ExtendsLogs core.farm (CoreStandsFor found told core) (CoreStandsFor found told (record core { flights = next; pages = notes })) under (Landed n f.key a Passed ∷ [])
  voided notes told stays under a key h = gone_passed notes told stays under a (λ files log s may.
      let k = known files log s in
      let clear : IsClear core.farm log n key = (subst (λ (x : Option PageKey). MayStore core.farm log n x a) h.1 may).1 in
      (k.0.keyed key h.1).voided h.0 (subst (λ (m : ℕ). IsClear core.farm log m key) (sym k.1) clear))

  -- a landing whose flight is clear
  module _ (facts : CoverageFacts core.farm) (notes : PageIndex) (c : ClearPage) (clear : (f.voided ≡ false) × (f.key ≡ Some c.key) × (c.stamp ≡ f.stamp)) (a : Answer) where
    module _ (files after : Files) (stays : StaysKnown files after core.pages notes) (keeps : KeepsStatFiles files after) (log : List LogEntry) (s : StandsOver found files core log) where
      clear_here : IsClear core.farm log n c.key
      clear_here = let k = known files log s in subst (λ (m : ℕ). IsClear core.farm log m c.key) k.1 ((k.0.keyed c.key clear.1).clear clear.0)

      air_here : InAir log n (Some c.key)
      air_here = subst (λ (x : Option PageKey). InAir log n x) clear.1 (air files log s)

      own_here : Before c.stamp (stamp core.epoch (drawn_of core))
      own_here = subst (λ (x : Stamp). Before x (stamp core.epoch (drawn_of core))) (sym clear.2) (known files log s).0.drawn

      drew_here : IsFlightStamp log n c.stamp
      drew_here = subst (λ (x : Stamp). IsFlightStamp log n x) (sym clear.2) (drawn_at log core.flights n f at s.stands.tied.flying)

      fresh_here : IsFresh (is_auto core.farm c.key) (stat_for core.farm (stamp_at files) c.key) c.stamp
      fresh_here = subst (λ (x : Stamp). IsFresh (is_auto core.farm c.key) (stat_for core.farm (stamp_at files) c.key) x) (sym clear.2) (((known files log s).0.keyed c.key clear.1).fresh clear.0)

      low_here : c.stamp.epoch ≤ epoch_held files
      low_here = let le : c.stamp.epoch ≤ core.epoch = epoch_below c.stamp core.epoch (drawn_of core) own_here in omega (arith, le, s.stands.epochs.current)

      -- what stands over the files by their number and their stamps, stands over those after
      over : (next_log : List LogEntry) → core.down ≡ not (is_up next_log) → BesidePage c.key files after → (c.stamp.epoch ≤ epoch_held files → KeepsOrder files after) → AreHeadsBefore (head_at after) (stamp core.epoch (drawn_of core)) → BoundsSlices core.farm found after core.queue.items next_log
          → CoreStands core.farm (page_at after) (stamp_at files) (epoch_held files) (without n core.flights) core.queue.items core.asked core.begun core.epoch (drawn_of core) next_log → StandsOver found after (record core { flights = next; pages = notes }) next_log
      over next_log down beside order heads slices stands = subst (λ (l : List Flight). StandsOver found after (record core { flights = l; pages = notes }) next_log) (sym is) (record {
        stands = subst (λ (e : ℕ). CoreStands core.farm (page_at after) (stamp_at after) e (without n core.flights) core.queue.items core.asked core.begun core.epoch (drawn_of core) next_log) (sym beside.number.held)
            (same_files core.farm facts (page_at after) (page_at after) (stamp_at files) (stamp_at after) (λ k good. refl) (λ g good. beside.stamps g good.bytes) (epoch_held files) (without n core.flights) core.queue.items core.asked core.begun core.epoch (drawn_of core) next_log stands);
        numbered = numbered_same files after beside.number s.numbered;
        order = order low_here s.order;
        formed = kept_formed files after keeps s.formed;
        heads = heads;
        down_is = down;
        few = s.few;
        slices = slices;
        knows = known_then (without n core.flights) notes files after stays s.knows;
      })

      -- the head of another page is as it was, and that of its own, where it is new, has the stamp of its flight
      other_head : BesidePage c.key files after → (l : PageKey) → IsPageKey l → c.key ≢ l → (head_at after l ≡ head_at files l) ⊎ ((h : HeadNote) → head_at after l ≡ Some h → Before h.stamp (stamp core.epoch (drawn_of core)))
      other_head beside l good ne = inl ((beside.pages l good (λ e. ne (sym e))).head)

      new_head : HasPage after c.key c.stamp a → (l : PageKey) → c.key ≡ l → (h : HeadNote) → head_at after l ≡ Some h → Before h.stamp (stamp core.epoch (drawn_of core))
      new_head page l same h is =
          let one : (record { stamp = c.stamp; kind = a.kind; length = length a.body }) ≡ h = cc (sym page.head ∙ ap (head_at after) same ∙ is) in
          subst (λ (x : HeadNote). Before x.stamp (stamp core.epoch (drawn_of core))) one own_here

      set_heads : PageSet c.key c.stamp a files after → AreHeadsBefore (head_at after) (stamp core.epoch (drawn_of core))
      set_heads set = heads_changed (head_at files) (head_at after) (stamp core.epoch (drawn_of core))
          (λ l good. ⊎_elim (λ (same : c.key ≡ l). inr (new_head set.here l same)) (λ (ne : c.key ≢ l). other_head set.beside l good ne) (key_cases c.key l))
          s.heads

      may_heads : (fault : FileFault) → MayPut c.key c.stamp a fault files after → AreHeadsBefore (head_at after) (stamp core.epoch (drawn_of core))
      may_heads fault put = heads_changed (head_at files) (head_at after) (stamp core.epoch (drawn_of core))
          (λ l good. ⊎_elim
          (λ (same : c.key ≡ l). ⊎_elim
          (λ old. inl (ap (head_at after) (sym same) ∙ old.head ∙ ap (head_at files) same))
          (λ h. inr (⊎_elim (λ none h is. absurd (cc (none.head, same, is))) (λ new. new_head new.1 l same) h))
          put.here)
          (λ (ne : c.key ≢ l). other_head put.beside l good ne)
          (key_cases c.key l))
          s.heads

      put_others : BesidePage c.key files after → (l : PageKey) → IsPageKey l → c.key ≢ l → page_at after l ≡ page_at files l
      put_others beside l good ne = (beside.pages l good (λ e. ne (sym e))).page

      put_set : PageSet c.key c.stamp a files after → (l : PageKey) → IsPageKey l → (page_at after l ≡ page_at files l) ⊎ ((c.key ≡ l) × ((page_at after l ≡ Some (plain_page c.stamp a.kind a.body)) ⊎ (page_at after l ≡ None)))
      put_set set l good = ⊎_elim (λ (same : c.key ≡ l). inr (same, inl (ap (page_at after) (sym same) ∙ set.here.page))) (λ (ne : c.key ≢ l). inl (put_others set.beside l good ne)) (key_cases c.key l)

      put_may : (fault : FileFault) → MayPut c.key c.stamp a fault files after → (l : PageKey) → IsPageKey l → (page_at after l ≡ page_at files l) ⊎ ((c.key ≡ l) × ((page_at after l ≡ Some (plain_page c.stamp a.kind a.body)) ⊎ (page_at after l ≡ None)))
      put_may fault put l good = ⊎_elim
          (λ (same : c.key ≡ l). ⊎_elim
          (λ old. inl (ap (page_at after) (sym same) ∙ old.page ∙ ap (page_at files) same))
          (λ h. inr (same, ⊎_elim (λ none. inr (ap (page_at after) (sym same) ∙ none.page)) (λ new. inl (ap (page_at after) (sym same) ∙ new.1.page)) h))
          put.here)
          (λ (ne : c.key ≢ l). inl (put_others put.beside l good ne))
          (key_cases c.key l)

      whole : is_storable a ≡ true → PageSet c.key c.stamp a files after → StandsOver found after (record core { flights = next; pages = notes }) (Landed n (Some c.key) a Kept ∷ log)
      whole storable t = over (Landed n (Some c.key) a Kept ∷ log) s.down_is t.beside t.order (set_heads t)
          (names_stay core.farm found 2 files after core.queue.items log (Landed n (Some c.key) a Kept ∷ log) t.names (two_more core.farm found log (landings_stored log + 1) refl (flushes_begun log) refl) (λ v. refl) refl s.slices)
          (kept core.farm (page_at files) (stamp_at files) (epoch_held files) core.flights core.queue.items core.asked core.begun core.epoch (drawn_of core) log s.stands n (rising files log s) c.key a (plain_page c.stamp a.kind a.body) (stored_is c.stamp a storable) (page_at after) (put_set t) clear_here own_here drew_here facts key_cases t.here.page fresh_here)

      part : (fault : FileFault) → is_storable a ≡ true → MayPut c.key c.stamp a fault files after → StandsOver found after (record core { flights = next; pages = notes }) (Landed n (Some c.key) a Unkept ∷ log)
      part fault storable t = over (Landed n (Some c.key) a Unkept ∷ log) s.down_is t.beside t.order (may_heads fault t)
          (names_stay core.farm found 2 files after core.queue.items log (Landed n (Some c.key) a Unkept ∷ log) t.names (two_more core.farm found log (landings_stored log + 1) refl (flushes_begun log) refl) (λ v. refl) refl s.slices)
          (unkept core.farm (page_at files) (stamp_at files) (epoch_held files) core.flights core.queue.items core.asked core.begun core.epoch (drawn_of core) log s.stands n (rising files log s) c.key a (plain_page c.stamp a.kind a.body) (stored_is c.stamp a storable) (page_at after) (put_may fault t) clear_here own_here drew_here facts)

    for_key : (told new : Option Files) (out : LandedAs) → StaysTold core.pages notes told new → Told KeepsStatFiles told new → IsStored c.key c.stamp a out told new → ExtendsLogs core.farm (CoreStandsFor found told core) (CoreStandsFor found new (record core { flights = next; pages = notes })) (landed_under out) (Landed n (Some c.key) a (fate_of out) ∷ [])
    for_key None new out stays keeps t = extends (λ log s. absurd s)
    for_key (Some files) None out stays keeps t = absurd stays
    for_key (Some files) (Some after) (landed.Kept k) stays keeps t = extends (λ log s. (((air_here files after stays keeps log s, (t.0, clear_here files after stays keeps log s)), tt), whole files after stays keeps log s t.0 t.1))
    for_key (Some files) (Some after) landed.Passed stays keeps t = subst (λ (told : Option Files). ExtendsLogs core.farm (StandsOver found files core) (CoreStandsFor found told (record core { flights = next; pages = notes })) (landed_under landed.Passed) (Landed n (Some c.key) a Passed ∷ [])) (sym t.1)
        (subst (λ (x : Option PageKey). ExtendsLogs core.farm (StandsOver found files core) (StandsOver found files (record core { flights = next; pages = notes })) (landed_under landed.Passed) (Landed n x a Passed ∷ [])) clear.1
        (gone_passed notes (Some files) (subst (λ (told : Option Files). StaysTold core.pages notes (Some files) told) t.1 stays) (landed_under landed.Passed) a (λ fs log s may. let is_so : is_storable a ≡ true = (subst (λ (x : Option PageKey). MayStore core.farm log n x a) clear.1 may).0 in absurd (cc (is_so, t.0)))))
    for_key (Some files) (Some after) landed.DiskFailed stays keeps t = extends (λ log s. (((air_here files after stays keeps log s, (t.0, clear_here files after stays keeps log s), inl refl), tt), part files after stays keeps log s Disk t.0 t.1))
    for_key (Some files) (Some after) landed.NoMemory stays keeps t = extends (λ log s. (((air_here files after stays keeps log s, (t.0, clear_here files after stays keeps log s), inr refl), tt), part files after stays keeps log s NoMemory t.0 t.1))

    gone_stored : (told new : Option Files) (out : LandedAs) → StaysTold core.pages notes told new → Told KeepsStatFiles told new → IsStored c.key c.stamp a out told new → ExtendsLogs core.farm (CoreStandsFor found told core) (CoreStandsFor found new (record core { flights = next; pages = notes })) (landed_under out) (Landed n f.key a (fate_of out) ∷ [])
    gone_stored told new out stays keeps t = subst (λ (x : Option PageKey). ExtendsLogs core.farm (CoreStandsFor found told core) (CoreStandsFor found new (record core { flights = next; pages = notes })) (landed_under out) (Landed n x a (fate_of out) ∷ [])) (sym clear.1) (for_key told new out stays keeps t)

-- ---- what is known after a landing

-- what is taken of notes: one that isn't there may change; and what was forgotten, and what that leaves
pub record NoteLaws : Type 0 where
  pub changed : (index : PageIndex) (key : PageKey) (old new : Files) → BesidePage key old new → page_noted index key ≡ None → Agrees index old → Agrees index new
  pub forgets : (key : PageKey) (old new : PageIndex) → ForgetsPage key old new → IsFewer old new
  pub agrees : (old new : PageIndex) (files : Files) → IsFewer old new → Agrees old files → Agrees new files
  pub covered : (old new : PageIndex) (level : ℕ) (inv : Invalidation) → IsFewer old new → HasNoneCovered level inv old → HasNoneCovered level inv new

module _ (laws : NoteLaws) where
  page_stays : (key : PageKey) (old new : PageIndex) (files after : Files) → BesidePage key files after → ForgetsPage key old new → StaysKnown files after old new
  page_stays key old new files after beside forgot = record {
    agree = λ a. laws.changed new key files after beside forgot.here (laws.agrees old new files (laws.forgets key old new forgot) a);
    apart = λ level inv none. laws.covered old new level inv (laws.forgets key old new forgot) none;
  }

  same_stays : (told next : Option Files) (old new : PageIndex) → next ≡ told → new ≡ old → StaysTold old new told next
  same_stays told next old new same notes = rw (notes) (told_same (λ files after. StaysKnown files after old old) told next same (notes_same old))

  stored_stays : (key : PageKey) (st : Stamp) (a : Answer) (out : LandedAs) (told next : Option Files) (old new : PageIndex) → IsStored key st a out told next → ForgetsFor key out old new → StaysTold old new told next
  stored_stays key st a (landed.Kept k) told next old new t forgot = told_map (PageSet key st a) (λ files after. StaysKnown files after old new) told next (λ f g set. page_stays key old new f g set.beside forgot) t.1
  stored_stays key st a landed.Passed told next old new t forgot = same_stays told next old new t.1 forgot
  stored_stays key st a landed.DiskFailed told next old new t forgot = told_map (MayPut key st a Disk) (λ files after. StaysKnown files after old new) told next (λ f g set. page_stays key old new f g set.beside forgot) t.1
  stored_stays key st a landed.NoMemory told next old new t forgot = told_map (MayPut key st a NoMemory) (λ files after. StaysKnown files after old new) told next (λ f g set. page_stays key old new f g set.beside forgot) t.1

  pub landing_stays : (landing : Landing) (out : LandedAs) (a : Answer) (told next : Option Files) (old new : PageIndex) → IsKeptFrom landing a out told next → ForgetsFrom landing out old new → StaysTold old new told next
  landing_stays Unkeyed out a told next old new kept forgot = same_stays told next old new kept.1 forgot
  landing_stays (Voided key) out a told next old new kept forgot = same_stays told next old new kept.1 forgot
  landing_stays (Clear c) out a told next old new kept forgot = stored_stays c.key c.stamp a out told next old new kept.0 forgot

-- ---- what a landing came to

module _ (core : Core) (n : ℕ) (f : Flight) (at : flight_at n core.flights ≡ Some f) (next : List Flight) (is : next ≡ without n core.flights)
    (left : (least number most : ℕ) (flights : List Flight) → AreRising least flights most → AreRising least (without number flights) most) (facts : CoverageFacts core.farm) (notes : PageIndex) (a : Answer) (told new : Option Files) (stays : StaysTold core.pages notes told new) (keeps : Told KeepsStatFiles told new) where
  stays_same : new ≡ told → StaysTold core.pages notes told told
  stays_same same = subst (λ (t : Option Files). StaysTold core.pages notes told t) same stays

  passed_on : (found : ℕ) (out : LandedAs) → out ≡ landed.Passed → new ≡ told → ExtendsLogs core.farm (CoreStandsFor found told core) (CoreStandsFor found told (record core { flights = next; pages = notes })) (conditions_of_call false false) (Landed n f.key a Passed ∷ []) → ExtendsLogs core.farm (CoreStandsFor found told core) (CoreStandsFor found new (record core { flights = next; pages = notes })) (landed_under out) (Landed n f.key a (fate_of out) ∷ [])
  passed_on found out out_is same e = rw (out_is, same) e

  pub landing_owes : (landing : Landing) (out : LandedAs) → LandsAs f landing → IsKeptFrom landing a out told new → (found : ℕ) → ExtendsLogs core.farm (CoreStandsFor found told core) (CoreStandsFor found new (record core { flights = next; pages = notes })) (landed_under out) (Landed n f.key a (fate_of out) ∷ [])
  landing_owes Unkeyed out lands kept found = passed_on found out kept.0 kept.1 (unkeyed found core n f at next is left notes told (stays_same kept.1) (conditions_of_call false false) a lands)
  landing_owes (Voided key) out lands kept found = passed_on found out kept.0 kept.1 (voided found core n f at next is left notes told (stays_same kept.1) (conditions_of_call false false) a key lands)
  landing_owes (Clear c) out lands kept found = gone_stored found core n f at next is left facts notes c lands a told new out stays keeps kept.0

-- the same without a log
delivered_clear : (f : Flight) (c : ClearPage) (a : Answer) (told new : Option Files) (out : LandedAs) → (f.voided ≡ false) × (f.key ≡ Some c.key) × (c.stamp ≡ f.stamp) → IsStored c.key c.stamp a out told new → DeliveredAs f a out told new
delivered_clear f c a told new (landed.Kept k) clear t = (clear.0, (c.key, (clear.1, subst (λ (st : Stamp). IsStored c.key st a (landed.Kept k) told new) clear.2 t)))
delivered_clear f c a told new landed.Passed clear t = (inr (inr t.0), t.1)
delivered_clear f c a told new landed.DiskFailed clear t = (clear.0, (c.key, (clear.1, subst (λ (st : Stamp). IsStored c.key st a landed.DiskFailed told new) clear.2 t)))
delivered_clear f c a told new landed.NoMemory clear t = (clear.0, (c.key, (clear.1, subst (λ (st : Stamp). IsStored c.key st a landed.NoMemory told new) clear.2 t)))

pub landing_delivers : (f : Flight) (a : Answer) (told new : Option Files) (landing : Landing) (out : LandedAs) → LandsAs f landing → IsKeptFrom landing a out told new → DeliveredAs f a out told new
landing_delivers f a told new Unkeyed out lands kept = subst (λ (o : LandedAs). DeliveredAs f a o told new) (sym kept.0) (inl lands, kept.1)
landing_delivers f a told new (Voided key) out lands kept = subst (λ (o : LandedAs). DeliveredAs f a o told new) (sym kept.0) (inr (inl lands.0), kept.1)
landing_delivers f a told new (Clear c) out lands kept = delivered_clear f c a told new out lands kept.0

pub landing_keeps : (f : Flight) (a : Answer) (told new : Option Files) (landing : Landing) (out : LandedAs) → LandsAs f landing → IsKeptFrom landing a out told new → IsKeptAs f.key out
landing_keeps f a told new Unkeyed out lands kept = subst (λ (o : LandedAs). IsKeptAs f.key o) (sym kept.0) tt
landing_keeps f a told new (Voided key) out lands kept = subst (λ (o : LandedAs). IsKeptAs f.key o) (sym kept.0) tt
landing_keeps f a told new (Clear c) out lands kept = subst (λ (o : Option PageKey). IsKeptAs o out) (sym lands.1) kept.1

-- ---- what is put

pub is_put : (st : Stamp) (a : Answer) → is_storable a ≡ true → IsTrue (is_kind a.kind) → st.epoch < 2 ^ 64 → st.count < 2 ^ 64 → length a.body < 2 ^ 64 → IsPagePut st a
is_put st a is kind epoch count size = let p = storable_parts a is in record { storable = record { status = p.0; mark = p.1; kind = kind }; epoch = epoch; count = count; size = size }
