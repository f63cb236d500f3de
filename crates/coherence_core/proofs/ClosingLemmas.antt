-- What closes a log.
use Rattle.std.proofs.Common.{◌≡◌, ◌≢◌, ◌⊎◌, ◌<◌, ◌≤◌, ◌↔◌, ◌++◌, append_assoc, ℕ, true, false, List, [], ◌∷◌, Option, Contains, inl, inr, refl, sym, ◌∙◌, ap, subst, arith, ⊎_elim}
use Rattle.std.proofs.lemmas.Bool.{cases_eq, cases_lt}
use Rattle.sp_base.proofs.ListLemmas.{contains_first}
use Rattle.sp_outside.specs.Files.{Files}
use Rattle.any_config.specs.declared.farm.Farm.{Farm}
use Rattle.cover_rules.specs.declared.page.PageKey.{PageKey}
use Rattle.cover_rules.specs.declared.invalidation.Invalidation.{Invalidation}
use Rattle.flights.specs.declared.flight.Flight.{Flight}
use Rattle.flights.specs.Flights.{AreRising, numbers_of}
use Rattle.cache_log.specs.Entries.{LogEntry, Asked, Begun, Ended, Failed, Landed, Lost}
use Rattle.cache_log.specs.Hits.{InAir, Unfinished}
use Rattle.cache_log.specs.Rules.{AllAllowed, CallConditions, IsIdle, IsLegal}
use Rattle.cache_log.proofs.LegalLemmas.{legal-call}
use Rattle.cache_log.proofs.PlaceLemmas.{none-within, rest-within, within}
use Rattle.coherence_core.specs.Closings.{AreInOrder, HasInAir, HasUnfinished, IsClosing}
use Rattle.coherence_core.specs.Cores.{StandsOver, flush_numbers, flushes_of}
use Rattle.coherence_core.specs.Holds.{Holds, HoldsClosed}
use Rattle.coherence_core.specs.Sessions.{closing_entries, failed_entries, lost_entries}
use Rattle.coherence_core.specs.Served.{Pages, Stamps}
use Rattle.coherence_core.specs.Stands.{AreLater, AreLogFlights, AreLogFlushes, HasFlight, HasFlush}
use Rattle.cover_rules.specs.declared.stamp.Stamp.{Stamp}
use Rattle.coherence_core.specs.declared.core_state.Core.{Core}
use Rattle.coherence_core.specs.declared.pending.Pending.{Pending}
use Rattle.coherence_core.proofs.CallLemmas.{allowed_append}

-- ---- numbers in order

below_all : (n m : ℕ) (ms : List ℕ) → n < m → AreInOrder (m ∷ ms) → (x : ℕ) → Contains (m ∷ ms) x → n < x
below_all n m ms lt order x there = ⊎_elim (λ (same : m ≡ x). omega (arith, same, lt)) (λ later. let more : m < x = order.0 x later in omega (arith, more, lt)) (within m ms x there)

with_one : (n : ℕ) (ns : List ℕ) → AreInOrder ns → (ms : List ℕ) × AreInOrder ms × ((x : ℕ) → Contains ms x ↔ ((n ≡ x) ⊎ Contains ns x))
with_one n [] order = (n ∷ [], ((λ x there. absurd (none-within there)), tt), λ x. (within n [] x, λ h. ⊎_elim (λ (same : n ≡ x). subst (λ (y : ℕ). Contains (n ∷ []) y) same (contains_first n [])) (λ there. absurd (none-within there)) h))
with_one n (m ∷ ms) order = ⊎_elim
    (λ (lt : n < m). (n ∷ m ∷ ms, (below_all n m ms lt order, order), λ x. (within n (m ∷ ms) x, λ h. ⊎_elim (λ (same : n ≡ x). subst (λ (y : ℕ). Contains (n ∷ m ∷ ms) y) same (contains_first n (m ∷ ms))) (λ there. rest-within n (m ∷ ms) x there) h)))
    (λ (le : m ≤ n). ⊎_elim
    (λ (same : n ≡ m). (m ∷ ms, order, λ x. ((λ there. inr there), λ h. ⊎_elim (λ (is : n ≡ x). subst (λ (y : ℕ). Contains (m ∷ ms) y) (sym same ∙ is) (contains_first m ms)) (λ there. there) h)))
    (λ (ne : n ≢ m). behind ne le (with_one n ms order.1))
    (cases_eq n m))
    (cases_lt n m)
  where
    behind : n ≢ m → m ≤ n → (ks : List ℕ) × AreInOrder ks × ((x : ℕ) → Contains ks x ↔ ((n ≡ x) ⊎ Contains ms x)) → (ks : List ℕ) × AreInOrder ks × ((x : ℕ) → Contains ks x ↔ ((n ≡ x) ⊎ Contains (m ∷ ms) x))
    behind ne le (ks, in_order, has) = (
      m ∷ ks,
      ((λ x there. ⊎_elim (λ (is : n ≡ x). let lt : m < n = omega (arith, ne, le) in omega (arith, is, lt)) (λ later. order.0 x later) ((has x).0 there)), in_order),
      λ x. (
        (λ there. ⊎_elim (λ (is : m ≡ x). inr (subst (λ (y : ℕ). Contains (m ∷ ms) y) is (contains_first m ms))) (λ later. ⊎_elim (λ (is : n ≡ x). inl is) (λ old. inr (rest-within m ms x old)) ((has x).0 later)) (within m ks x there)),
        λ h. ⊎_elim (λ (is : n ≡ x). rest-within m ks x ((has x).1 (inl is))) (λ there. ⊎_elim (λ (is : m ≡ x). subst (λ (y : ℕ). Contains (m ∷ ks) y) is (contains_first m ks)) (λ old. rest-within m ks x ((has x).1 (inr old))) (within m ms x there)) h,
      ),
    )

without_one : (n : ℕ) (ns : List ℕ) → AreInOrder ns → (ms : List ℕ) × AreInOrder ms × ((x : ℕ) → Contains ms x ↔ ((n ≢ x) × Contains ns x))
without_one n [] order = ([], tt, λ x. ((λ there. absurd (none-within there)), λ h. h.1))
without_one n (m ∷ ms) order = ⊎_elim
    (λ (same : n ≡ m). (
      ms,
      order.1,
      λ x. (
        (λ there. let lt : m < x = order.0 x there in ((λ (is : n ≡ x). omega (arith, is, same, lt)), rest-within m ms x there)),
        λ h. ⊎_elim (λ (is : m ≡ x). absurd (h.0 (same ∙ is))) (λ there. there) (within m ms x h.1),
      ),
    ))
    (λ (ne : n ≢ m). beside ne (without_one n ms order.1))
    (cases_eq n m)
  where
    beside : n ≢ m → (ks : List ℕ) × AreInOrder ks × ((x : ℕ) → Contains ks x ↔ ((n ≢ x) × Contains ms x)) → (ks : List ℕ) × AreInOrder ks × ((x : ℕ) → Contains ks x ↔ ((n ≢ x) × Contains (m ∷ ms) x))
    beside ne (ks, in_order, has) = (
      m ∷ ks,
      ((λ x there. order.0 x ((has x).0 there).1), in_order),
      λ x. (
        (λ there. ⊎_elim (λ (is : m ≡ x). ((λ (e : n ≡ x). ne (e ∙ sym is)), subst (λ (y : ℕ). Contains (m ∷ ms) y) is (contains_first m ms))) (λ later. let old = (has x).0 later in (old.0, rest-within m ms x old.1)) (within m ks x there)),
        λ h. ⊎_elim (λ (is : m ≡ x). subst (λ (y : ℕ). Contains (m ∷ ks) y) is (contains_first m ks)) (λ old. rest-within m ks x ((has x).1 (h.0, old))) (within m ms x h.1),
      ),
    )

-- lists in order with the same numbers are the same
first_same : (n m : ℕ) (ns ms : List ℕ) → AreInOrder (n ∷ ns) → AreInOrder (m ∷ ms) → Contains (m ∷ ms) n → Contains (n ∷ ns) m → n ≡ m
first_same n m ns ms one other to from = ⊎_elim
    (λ (same : m ≡ n). sym same)
    (λ later. let lt : m < n = other.0 n later in ⊎_elim (λ (same : n ≡ m). same) (λ back. let more : n < m = one.0 m back in omega (arith, lt, more)) (within n ns m from))
    (within m ms n to)

rest_in : (n m : ℕ) (ns ms : List ℕ) → n ≡ m → AreInOrder (n ∷ ns) → ((x : ℕ) → Contains (n ∷ ns) x → Contains (m ∷ ms) x) → (x : ℕ) → Contains ns x → Contains ms x
rest_in n m ns ms same order to x there =
    let lt : n < x = order.0 x there in
    ⊎_elim (λ (is : m ≡ x). absurd (omega (arith, is, same, lt))) (λ rest. rest) (within m ms x (to x (rest-within n ns x there)))

same_numbers : (ns ms : List ℕ) → AreInOrder ns → AreInOrder ms → ((x : ℕ) → Contains ns x → Contains ms x) → ((x : ℕ) → Contains ms x → Contains ns x) → ns ≡ ms
same_numbers [] [] one other to from = refl
same_numbers [] (m ∷ ms) one other to from = absurd (none-within (from m (contains_first m ms)))
same_numbers (n ∷ ns) [] one other to from = absurd (none-within (to n (contains_first n ns)))
same_numbers (n ∷ ns) (m ∷ ms) one other to from =
    let first : n ≡ m = first_same n m ns ms one other (to n (contains_first n ns)) (from m (contains_first m ms)) in
    let rest : ns ≡ ms = same_numbers ns ms one.1 other.1 (rest_in n m ns ms first one to) (rest_in m n ms ns (sym first) other from) in
    (λ i. first i ∷ rest i)

-- ---- what there is to close

flights_there : (log : List LogEntry) → (ns : List ℕ) × AreInOrder ns × ((n : ℕ) → Contains ns n ↔ HasInAir log n)
flights_there [] = ([], tt, λ n. ((λ there. absurd (none-within there)), λ h. absurd h.1))
flights_there (Asked m k ∷ log) = more (flights_there log)
  where
    more : (ns : List ℕ) × AreInOrder ns × ((n : ℕ) → Contains ns n ↔ HasInAir log n) → (ns : List ℕ) × AreInOrder ns × ((n : ℕ) → Contains ns n ↔ HasInAir (Asked m k ∷ log) n)
    more (ns, order, has) =
        let w = with_one m ns order in (
          w.0,
          w.1,
          λ n. (
            (λ there. ⊎_elim (λ (same : m ≡ n). (k, inl (same, refl))) (λ (ne : m ≢ n). ⊎_elim (λ (same : m ≡ n). absurd (ne same)) (λ old. let a = (has n).0 old in (a.0, inr (ne, a.1))) ((w.2 n).0 there)) (cases_eq m n)),
            λ a. (w.2 n).1 (⊎_elim (λ h. inl h.0) (λ h. inr ((has n).1 (a.0, h.1))) a.1),
          ),
        )
flights_there (Landed m k given fate ∷ log) = fewer (flights_there log)
  where
    fewer : (ns : List ℕ) × AreInOrder ns × ((n : ℕ) → Contains ns n ↔ HasInAir log n) → (ns : List ℕ) × AreInOrder ns × ((n : ℕ) → Contains ns n ↔ HasInAir (Landed m k given fate ∷ log) n)
    fewer (ns, order, has) =
        let w = without_one m ns order in (
          w.0,
          w.1,
          λ n. ((λ there. let old = (w.2 n).0 there in let a = (has n).0 old.1 in (a.0, (old.0, a.1))), λ a. (w.2 n).1 (a.1.0, (has n).1 (a.0, a.1.1))),
        )
flights_there (Lost m ∷ log) = fewer (flights_there log)
  where
    fewer : (ns : List ℕ) × AreInOrder ns × ((n : ℕ) → Contains ns n ↔ HasInAir log n) → (ns : List ℕ) × AreInOrder ns × ((n : ℕ) → Contains ns n ↔ HasInAir (Lost m ∷ log) n)
    fewer (ns, order, has) =
        let w = without_one m ns order in (
          w.0,
          w.1,
          λ n. ((λ there. let old = (w.2 n).0 there in let a = (has n).0 old.1 in (a.0, (old.0, a.1))), λ a. (w.2 n).1 (a.1.0, (has n).1 (a.0, a.1.1))),
        )
flights_there (e ∷ log) = flights_there log

flushes_there : (log : List LogEntry) → (vs : List ℕ) × AreInOrder vs × ((v : ℕ) → Contains vs v ↔ HasUnfinished log v)
flushes_there [] = ([], tt, λ v. ((λ there. absurd (none-within there)), λ h. absurd h.1))
flushes_there (Begun w inv ∷ log) = more (flushes_there log)
  where
    more : (vs : List ℕ) × AreInOrder vs × ((v : ℕ) → Contains vs v ↔ HasUnfinished log v) → (vs : List ℕ) × AreInOrder vs × ((v : ℕ) → Contains vs v ↔ HasUnfinished (Begun w inv ∷ log) v)
    more (vs, order, has) =
        let o = with_one w vs order in (
          o.0,
          o.1,
          λ v. (
            (λ there. ⊎_elim (λ (same : w ≡ v). (inv, inl (same, refl))) (λ old. let u = (has v).0 old in (u.0, inr u.1)) ((o.2 v).0 there)),
            λ u. (o.2 v).1 (⊎_elim (λ h. inl h.0) (λ h. inr ((has v).1 (u.0, h))) u.1),
          ),
        )
flushes_there (Ended w outcome ∷ log) = fewer (flushes_there log)
  where
    fewer : (vs : List ℕ) × AreInOrder vs × ((v : ℕ) → Contains vs v ↔ HasUnfinished log v) → (vs : List ℕ) × AreInOrder vs × ((v : ℕ) → Contains vs v ↔ HasUnfinished (Ended w outcome ∷ log) v)
    fewer (vs, order, has) =
        let o = without_one w vs order in (
          o.0,
          o.1,
          λ v. ((λ there. let old = (o.2 v).0 there in let u = (has v).0 old.1 in (u.0, (old.0, u.1))), λ u. (o.2 v).1 (u.1.0, (has v).1 (u.0, u.1.1))),
        )
flushes_there (e ∷ log) = flushes_there log

pub closing_there : (log : List LogEntry) → (entries : List LogEntry) × IsClosing log entries
closing_there log =
    let f = flights_there log in
    let v = flushes_there log in
    (failed_entries v.0 ++ lost_entries f.0, record { flights = f.0; flushes = v.0; lost = f.2; cut_off = v.2; flights_in_order = f.1; flushes_in_order = v.1; entries_are = refl })

pub one_closing : (log entries others : List LogEntry) → IsClosing log entries → IsClosing log others → entries ≡ others
one_closing log entries others a b =
    let flights : a.flights ≡ b.flights = same_numbers a.flights b.flights a.flights_in_order b.flights_in_order (λ x there. (b.lost x).1 ((a.lost x).0 there)) (λ x there. (a.lost x).1 ((b.lost x).0 there)) in
    let flushes : a.flushes ≡ b.flushes = same_numbers a.flushes b.flushes a.flushes_in_order b.flushes_in_order (λ x there. (b.cut_off x).1 ((a.cut_off x).0 there)) (λ x there. (a.cut_off x).1 ((b.cut_off x).0 there)) in
    a.entries_are ∙ (λ i. failed_entries (flushes i) ++ lost_entries (flights i)) ∙ sym b.entries_are

-- what is closed stays as it is
pub none_to_close : (log : List LogEntry) → IsIdle log → IsClosing log []
none_to_close log idle = record {
  flights = [];
  flushes = [];
  lost = λ n. ((λ there. absurd (none-within there)), λ h. absurd (idle.0 n h.0 h.1));
  cut_off = λ v. ((λ there. absurd (none-within there)), λ h. absurd (idle.1 v h.0 h.1));
  flights_in_order = tt;
  flushes_in_order = tt;
  entries_are = refl;
}

-- ---- what each of the two parts keeps and leaves

lost_keep : (P : List LogEntry → Type 0) → ((n : ℕ) (log : List LogEntry) → P log → P (Lost n ∷ log)) → (ns : List ℕ) (log : List LogEntry) → P log → P (lost_entries ns ++ log)
lost_keep P one [] log p = p
lost_keep P one (n ∷ ns) log p = subst P (sym (append_assoc (lost_entries ns) (Lost n ∷ []) log)) (lost_keep P one ns (Lost n ∷ log) (one n log p))

failed_keep : (P : List LogEntry → Type 0) → ((v : ℕ) (log : List LogEntry) → P log → P (Ended v Failed ∷ log)) → (vs : List ℕ) (log : List LogEntry) → P log → P (failed_entries vs ++ log)
failed_keep P one [] log p = p
failed_keep P one (v ∷ vs) log p = subst P (sym (append_assoc (failed_entries vs) (Ended v Failed ∷ []) log)) (failed_keep P one vs (Ended v Failed ∷ log) (one v log p))

lost_leaves : (ns : List ℕ) (log : List LogEntry) → ((n : ℕ) → HasInAir log n → Contains ns n) → (m : ℕ) (k : Option PageKey) → InAir (lost_entries ns ++ log) m k → ⊥
lost_leaves [] log all m k a = none-within (all m (k, a))
lost_leaves (n ∷ ns) log all m k a = lost_leaves ns (Lost n ∷ log) (λ x h. ⊎_elim (λ (is : n ≡ x). absurd (h.1.0 is)) (λ there. there) (within n ns x (all x (h.0, h.1.1)))) m k
    (subst (λ (l : List LogEntry). InAir l m k) (append_assoc (lost_entries ns) (Lost n ∷ []) log) a)

failed_leaves : (vs : List ℕ) (log : List LogEntry) → ((v : ℕ) → HasUnfinished log v → Contains vs v) → (w : ℕ) (inv : Invalidation) → Unfinished (failed_entries vs ++ log) w inv → ⊥
failed_leaves [] log all w inv u = none-within (all w (inv, u))
failed_leaves (v ∷ vs) log all w inv u = failed_leaves vs (Ended v Failed ∷ log) (λ x h. ⊎_elim (λ (is : v ≡ x). absurd (h.1.0 is)) (λ there. there) (within v vs x (all x (h.0, h.1.1)))) w inv
    (subst (λ (l : List LogEntry). Unfinished l w inv) (append_assoc (failed_entries vs) (Ended v Failed ∷ []) log) u)

module _ (farm : Farm) (under : CallConditions) where
  lost_allowed : (ns : List ℕ) (log : List LogEntry) → AreInOrder ns → ((n : ℕ) → Contains ns n → HasInAir log n) → AllAllowed farm under (lost_entries ns) log
  lost_allowed [] log order air = tt
  lost_allowed (n ∷ ns) log order air = allowed_append farm under (lost_entries ns) (Lost n ∷ []) log (air n (contains_first n ns), tt)
      (lost_allowed ns (Lost n ∷ log) order.1 (λ m there. let a = air m (rest-within n ns m there) in let lt : n < m = order.0 m there in (a.0, ((λ (is : n ≡ m). omega (arith, is, lt)), a.1))))

  failed_allowed : under.restarts ≡ true → (vs : List ℕ) (log : List LogEntry) → AreInOrder vs → ((v : ℕ) → Contains vs v ↔ HasUnfinished log v) → AllAllowed farm under (failed_entries vs) log
  failed_allowed restarts [] log order has = tt
  failed_allowed restarts (v ∷ vs) log order has = allowed_append farm under (failed_entries vs) (Ended v Failed ∷ []) log
      ((((has v).0 (contains_first v vs), oldest), inr restarts), tt)
      (failed_allowed restarts vs (Ended v Failed ∷ log) order.1 (λ w. (
        (λ there. let u = (has w).0 (rest-within v vs w there) in let lt : v < w = order.0 w there in (u.0, ((λ (is : v ≡ w). omega (arith, is, lt)), u.1))),
        λ u. ⊎_elim (λ (is : v ≡ w). absurd (u.1.0 is)) (λ there. there) (within v vs w ((has w).1 (u.0, u.1.1))),
      )))
    where
      oldest : (other : ℕ) (inv : Invalidation) → Unfinished log other inv → v ≤ other
      oldest other inv u = ⊎_elim (λ (is : v ≡ other). omega (arith, is)) (λ there. let lt : v < other = order.0 other there in omega (arith, lt)) (within v vs other ((has other).1 (inv, u)))

-- ---- the whole

held_lost : (farm : Farm) (files : Files) (n : ℕ) (log : List LogEntry) → Holds farm files log → Holds farm files (Lost n ∷ log)
held_lost farm files n log h = record { pages = record { may = h.pages.may; must = h.pages.must; touched = h.pages.touched }; numbered = h.numbered; above = h.above; order = h.order; formed = h.formed }

held_failed : (farm : Farm) (files : Files) (v : ℕ) (log : List LogEntry) → Holds farm files log → Holds farm files (Ended v Failed ∷ log)
held_failed farm files v log h = record { pages = record { may = h.pages.may; must = h.pages.must; touched = h.pages.touched }; numbered = h.numbered; above = h.above; order = h.order; formed = h.formed }

module _ (farm : Farm) (log entries : List LogEntry) (c : IsClosing log entries) where
  abbrev lost_part : List LogEntry
  lost_part = lost_entries c.flights

  abbrev failed_part : List LogEntry
  failed_part = failed_entries c.flushes

  -- as many are unfinished once the flights are lost
  unfinished_still : (v : ℕ) → Contains c.flushes v ↔ HasUnfinished (lost_part ++ log) v
  unfinished_still = lost_keep (λ (l : List LogEntry). (v : ℕ) → Contains c.flushes v ↔ HasUnfinished l v) (λ n l all. all) c.flights log c.cut_off

  split : entries ++ log ≡ failed_part ++ (lost_part ++ log)
  split = ap (λ (l : List LogEntry). l ++ log) c.entries_are ∙ append_assoc failed_part lost_part log

  pub closing_is_allowed : (under : CallConditions) → under.restarts ≡ true → AllAllowed farm under entries log
  closing_is_allowed under restarts = subst (λ (l : List LogEntry). AllAllowed farm under l log) (sym c.entries_are)
      (allowed_append farm under failed_part lost_part log
      (lost_allowed farm under c.flights log c.flights_in_order (λ n there. (c.lost n).0 there))
      (failed_allowed farm under restarts c.flushes (lost_part ++ log) c.flushes_in_order unfinished_still))

  pub closing_is_legal : IsLegal farm log → IsLegal farm (entries ++ log)
  closing_is_legal legal = legal-call farm (record { disk_failed = false; out_of_memory = false; restarts = true }) entries log (closing_is_allowed (record { disk_failed = false; out_of_memory = false; restarts = true }) refl) legal

  pub closing_closes : (files : Files) → Holds farm files log → HoldsClosed farm files (entries ++ log)
  closing_closes files h = subst (λ (l : List LogEntry). HoldsClosed farm files l) (sym split) (record {
    holds = failed_keep (Holds farm files) (held_failed farm files) c.flushes (lost_part ++ log) (lost_keep (Holds farm files) (held_lost farm files) c.flights log h);
    idle = (
      failed_keep (λ (l : List LogEntry). (m : ℕ) (k : Option PageKey) → InAir l m k → ⊥) (λ v l none. none) c.flushes (lost_part ++ log) (lost_leaves c.flights log (λ n h. (c.lost n).1 h)),
      failed_leaves c.flushes (lost_part ++ log) (λ v u. (unfinished_still v).1 u),
    );
  })

-- ---- what closes the log of a core

flights_in_order : (least : ℕ) (fs : List Flight) (most : ℕ) → AreRising least fs most → AreInOrder (numbers_of fs) × ((x : ℕ) → Contains (numbers_of fs) x → least < x)
flights_in_order least [] most rising = (tt, λ x there. absurd (none-within there))
flights_in_order least (f ∷ fs) most rising =
    let rest = flights_in_order f.number fs most rising.1 in
    let first : least < f.number = rising.0 in
    ((rest.1, rest.0), λ x there. ⊎_elim (λ (is : f.number ≡ x). omega (arith, is, first)) (λ later. let lt : f.number < x = rest.1 x later in omega (arith, lt, first)) (within f.number (numbers_of fs) x there))

flight_number : (fs : List Flight) (n : ℕ) (k : Option PageKey) → HasFlight fs n k → Contains (numbers_of fs) n
flight_number [] n k h = absurd h
flight_number (f ∷ fs) n k (inl h) = subst (λ (x : ℕ). Contains (numbers_of (f ∷ fs)) x) h.0 (contains_first f.number (numbers_of fs))
flight_number (f ∷ fs) n k (inr h) = rest-within f.number (numbers_of fs) n (flight_number fs n k h)

flush_number : (ps : List Pending) (v : ℕ) (inv : Invalidation) → HasFlush ps v inv → Contains (flush_numbers ps) v
flush_number [] v inv h = absurd h
flush_number (p ∷ ps) v inv (inl h) = subst (λ (x : ℕ). Contains (flush_numbers (p ∷ ps)) x) h.0 (contains_first p.number (flush_numbers ps))
flush_number (p ∷ ps) v inv (inr h) = rest-within p.number (flush_numbers ps) v (flush_number ps v inv h)

later_numbers : (p : Pending) (ps : List Pending) → AreLater p ps → (x : ℕ) → Contains (flush_numbers ps) x → p.number < x
later_numbers p [] later x there = absurd (none-within there)
later_numbers p (q ∷ qs) later x there = ⊎_elim (λ (is : q.number ≡ x). let lt : p.number < q.number = later.0 in omega (arith, is, lt)) (λ rest. later_numbers p qs later.3 x rest) (within q.number (flush_numbers qs) x there)

module _ (farm : Farm) (log : List LogEntry) where
  each_in_air : (stat : Stamps) (d : ℕ) (s : Stamp) (fs : List Flight) → AreLogFlights farm log stat d s fs → (n : ℕ) → Contains (numbers_of fs) n → HasInAir log n
  each_in_air stat d s [] all n there = absurd (none-within there)
  each_in_air stat d s (f ∷ fs) all n there = ⊎_elim (λ (is : f.number ≡ n). (f.key, subst (λ (m : ℕ). InAir log m f.key) is all.0.in_air)) (λ rest. each_in_air stat d s fs all.2 n rest) (within f.number (numbers_of fs) n there)

  each_unfinished : (page : Pages) (b : ℕ) (s : Stamp) (ps : List Pending) → AreLogFlushes farm page log b s ps → AreInOrder (flush_numbers ps) × ((v : ℕ) → Contains (flush_numbers ps) v → HasUnfinished log v)
  each_unfinished page b s [] all = (tt, λ v there. absurd (none-within there))
  each_unfinished page b s (p ∷ ps) all =
      let rest = each_unfinished page b s ps all.2 in
      ((later_numbers p ps all.1, rest.0), λ v there. ⊎_elim (λ (is : p.number ≡ v). (p.purge.inv, subst (λ (w : ℕ). Unfinished log w p.purge.inv) is all.0.unfinished)) (λ later. rest.1 v later) (within p.number (flush_numbers ps) v there))

pub core_closing : (found : ℕ) (files : Files) (core : Core) (log : List LogEntry) → StandsOver found files core log → IsClosing log (closing_entries core)
core_closing found files core log s =
    let flushes = each_unfinished core.farm log _ _ _ core.queue.items s.stands.flushing.each in
    record {
      flights = numbers_of core.flights;
      flushes = flushes_of core;
      lost = λ n. (each_in_air core.farm log _ _ _ core.flights s.stands.flying.each n, λ a. flight_number core.flights n a.0 (s.stands.flying.all n a.0 a.1));
      cut_off = λ v. (flushes.1 v, λ u. flush_number core.queue.items v u.0 (s.stands.flushing.all v u.0 u.1));
      flights_in_order = (flights_in_order 0 core.flights core.asked s.stands.flying.rising).0;
      flushes_in_order = flushes.0;
      entries_are = refl;
    }
