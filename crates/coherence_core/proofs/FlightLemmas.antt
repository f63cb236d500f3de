-- Flights in a list: what stays so of each as the log goes on.
use Rattle.std.proofs.Common.{◌≡◌, ◌≢◌, ◌+◌, ◌||◌, ℕ, Bool, true, false, List, [], ◌∷◌, ◌++◌, Option, Some, inl, inr, refl, sym, ◌∙◌, ap, subst, arith, eq-eqb, ne_eqb, ⊎_elim, map}
use Rattle.std.specs.Prelude.{Contains}
use Rattle.std.proofs.lemmas.Bool.{cases_eq}
use Rattle.any_config.specs.declared.farm.Farm.{Farm}
use Rattle.cover_rules.specs.declared.page.PageKey.{PageKey}
use Rattle.cover_rules.specs.declared.stamp.Stamp.{Stamp}
use Rattle.cover_rules.specs.declared.invalidation.Invalidation.{Invalidation}
use Rattle.cover_rules.specs.Coverage.{covers}
use Rattle.dispatch_rules.specs.Caching.{is_auto}
use Rattle.flights.specs.declared.flight.Flight.{Flight}
use Rattle.flights.specs.Flights.{after_invalidation, covers_page, flight_at, without}
use Rattle.cache_log.specs.Entries.{LogEntry, Asked, Begun}
use Rattle.cache_log.specs.Hits.{InAir, IsClear}
use Rattle.cache_log.proofs.PlaceLemmas.{none-within, within}
use Rattle.coherence_core.specs.Served.{Before, Stamps}
use Rattle.coherence_core.specs.Stands.{AreLogFlights, HasFlight, IsAbsent, IsKeyedFlight, IsLogFlight, stamp}
use Rattle.coherence_core.proofs.StampLemmas.{before_next}

absent_push : (n : ℕ) (fs : List Flight) (f : Flight) → IsAbsent n fs → f.number ≢ n → IsAbsent n (fs ++ f ∷ [])
absent_push n [] f absent ne = (ne, tt)
absent_push n (g ∷ gs) f absent ne = (absent.0, absent_push n gs f absent.1 ne)

absent_without : (n m : ℕ) (fs : List Flight) → IsAbsent n fs → IsAbsent n (without m fs)
absent_without n m [] absent = tt
absent_without n m (f ∷ fs) absent = ⊎_elim
    (λ (same : f.number ≡ m). rw (eq-eqb f.number m same) absent.1)
    (λ (ne : f.number ≢ m). rw (ne_eqb f.number m ne) (absent.0, absent_without n m fs absent.1))
    (cases_eq f.number m)

absent_map : (n level : ℕ) (inv : Invalidation) (fs : List Flight) → IsAbsent n fs → IsAbsent n (map (after_invalidation level inv) fs)
absent_map n level inv [] absent = tt
absent_map n level inv (f ∷ fs) absent = (absent.0, absent_map n level inv fs absent.1)

-- ---- which flights are there

pub has_last : (fs : List Flight) (f : Flight) (n : ℕ) (k : Option PageKey) → f.number ≡ n → f.key ≡ k → HasFlight (fs ++ f ∷ []) n k
has_last [] f n k a b = inl (a, b)
has_last (g ∷ gs) f n k a b = inr (has_last gs f n k a b)

pub has_first : (fs : List Flight) (f : Flight) (n : ℕ) (k : Option PageKey) → HasFlight fs n k → HasFlight (fs ++ f ∷ []) n k
has_first [] f n k h = elim h [ ]
has_first (g ∷ gs) f n k (inl h) = inl h
has_first (g ∷ gs) f n k (inr h) = inr (has_first gs f n k h)

pub has_without : (m n : ℕ) (k : Option PageKey) (fs : List Flight) → m ≢ n → HasFlight fs n k → HasFlight (without m fs) n k
has_without m n k [] ne h = elim h [ ]
has_without m n k (f ∷ fs) ne (inl h) = rw (ne_eqb f.number m (λ e. ne (sym e ∙ h.0))) (inl h)
has_without m n k (f ∷ fs) ne (inr h) = ⊎_elim
    (λ (same : f.number ≡ m). rw (eq-eqb f.number m same) h)
    (λ (off : f.number ≢ m). rw (ne_eqb f.number m off) (inr (has_without m n k fs ne h)))
    (cases_eq f.number m)

pub has_map : (level : ℕ) (inv : Invalidation) (n : ℕ) (k : Option PageKey) (fs : List Flight) → HasFlight fs n k → HasFlight (map (after_invalidation level inv) fs) n k
has_map level inv n k [] h = elim h [ ]
has_map level inv n k (f ∷ fs) (inl h) = inl h
has_map level inv n k (f ∷ fs) (inr h) = inr (has_map level inv n k fs h)

-- ---- what is so of each

module _ (farm : Farm) where
  pub flights_to : (log after : List LogEntry) (stat now : Stamps) (d e : ℕ) (s t : Stamp) (fs : List Flight) → ((f : Flight) → IsLogFlight farm log stat d s f → IsLogFlight farm after now e t f) → AreLogFlights farm log stat d s fs → AreLogFlights farm after now e t fs
  flights_to log after stat now d e s t [] to all = tt
  flights_to log after stat now d e s t (f ∷ fs) to all = (to f all.0, all.1, flights_to log after stat now d e s t fs to all.2)

  others_to : (log after : List LogEntry) (stat : Stamps) (d n : ℕ) (s : Stamp) (fs : List Flight) → ((f : Flight) → f.number ≢ n → IsLogFlight farm log stat d s f → IsLogFlight farm after stat d s f) → IsAbsent n fs → AreLogFlights farm log stat d s fs → AreLogFlights farm after stat d s fs
  others_to log after stat d n s [] to absent all = tt
  others_to log after stat d n s (f ∷ fs) to absent all = (to f absent.0 all.0, all.1, others_to log after stat d n s fs to absent.1 all.2)

  -- the others, once a flight has left
  pub without_to : (log after : List LogEntry) (stat : Stamps) (d n : ℕ) (s : Stamp) (fs : List Flight) → ((f : Flight) → f.number ≢ n → IsLogFlight farm log stat d s f → IsLogFlight farm after stat d s f) → AreLogFlights farm log stat d s fs → AreLogFlights farm after stat d s (without n fs)
  without_to log after stat d n s [] to all = tt
  without_to log after stat d n s (f ∷ fs) to all = ⊎_elim
      (λ (same : f.number ≡ n). rw (eq-eqb f.number n same) (others_to log after stat d n s fs to (subst (λ (m : ℕ). IsAbsent m fs) same all.1) all.2))
      (λ (ne : f.number ≢ n). rw (ne_eqb f.number n ne) (to f ne all.0, absent_without f.number n fs all.1, without_to log after stat d n s fs to all.2))
      (cases_eq f.number n)

  pub flying_at : (log : List LogEntry) (stat : Stamps) (d n : ℕ) (s : Stamp) (fs : List Flight) (f : Flight) → AreLogFlights farm log stat d s fs → flight_at n fs ≡ Some f → IsLogFlight farm log stat d s f × (f.number ≡ n)
  flying_at log stat d n s [] f all is = absurd (cc is)
  flying_at log stat d n s (g ∷ gs) f all is = ⊎_elim
      (λ (same : g.number ≡ n). let found : Some g ≡ Some f = rw (eq-eqb g.number n same) at is in let one : g ≡ f = cc found in (subst (λ (x : Flight). IsLogFlight farm log stat d s x) one all.0, ap (λ (x : Flight). x.number) (sym one) ∙ same))
      (λ (ne : g.number ≢ n). flying_at log stat d n s gs f all.2 (rw (ne_eqb g.number n ne) at is))
      (cases_eq g.number n)

  pub flying_in : (log : List LogEntry) (stat : Stamps) (d : ℕ) (s : Stamp) (fs : List Flight) (f : Flight) → AreLogFlights farm log stat d s fs → Contains fs f → IsLogFlight farm log stat d s f
  flying_in log stat d s [] f all there = absurd (none-within there)
  flying_in log stat d s (g ∷ gs) f all there = ⊎_elim (λ (same : g ≡ f). subst (λ (x : Flight). IsLogFlight farm log stat d s x) same all.0) (λ (rest : Contains gs f). flying_in log stat d s gs f all.2 rest) (within g gs f there)

  keyed_to : (log after : List LogEntry) (stat : Stamps) (f : Flight) (key : PageKey) → (IsClear farm log f.number key → IsClear farm after f.number key) → (IsClear farm after f.number key → IsClear farm log f.number key) → IsKeyedFlight farm log stat f key → IsKeyedFlight farm after stat f key
  keyed_to log after stat f key to back ok = record {
    page = ok.page;
    auto_is = ok.auto_is;
    clear = λ o. to (ok.clear o);
    fresh = ok.fresh;
    voided = λ o c. ok.voided o (back c);
  }

  -- an entry that says nothing of flights, and a count that went on
  pub same_ok : (log after : List LogEntry) (stat : Stamps) (d : ℕ) (s t : Stamp) (f : Flight) → (Before f.stamp s → Before f.stamp t) → (InAir log f.number f.key → InAir after f.number f.key) → ((key : PageKey) → IsClear farm log f.number key → IsClear farm after f.number key) → ((key : PageKey) → IsClear farm after f.number key → IsClear farm log f.number key) → IsLogFlight farm log stat d s f → IsLogFlight farm after stat d t f
  same_ok log after stat d s t f more air to back ok = record {
    below = ok.below;
    drawn = more ok.drawn;
    in_air = air ok.in_air;
    keyed = λ key is. keyed_to log after stat f key (to key) (back key) (ok.keyed key is);
  }

  asked_ok : (log : List LogEntry) (stat : Stamps) (d e c : ℕ) (key : Option PageKey) (f : Flight) → IsLogFlight farm log stat d (stamp e c) f → IsLogFlight farm (Asked (d + 1) key ∷ log) stat (d + 1) (stamp e (c + 1)) f
  asked_ok log stat d e c key f ok =
      let ne : d + 1 ≢ f.number = omega (arith, ok.below) in
      record {
        below = omega (arith, ok.below);
        drawn = before_next f.stamp e c ok.drawn;
        in_air = inr (ne, ok.in_air);
        keyed = λ k is. keyed_to log (Asked (d + 1) key ∷ log) stat f k (λ o. inr (ne, o)) (λ o. ⊎_elim (λ y. absurd (ne y.0)) (λ y. y.1) o) (ok.keyed k is);
      }

  -- one flight more
  pub asked_flying : (log : List LogEntry) (stat : Stamps) (d e c : ℕ) (key : Option PageKey) (fs : List Flight) (f : Flight) → f.number ≡ d + 1 → AreLogFlights farm log stat d (stamp e c) fs → IsLogFlight farm (Asked (d + 1) key ∷ log) stat (d + 1) (stamp e (c + 1)) f → AreLogFlights farm (Asked (d + 1) key ∷ log) stat (d + 1) (stamp e (c + 1)) (fs ++ f ∷ [])
  asked_flying log stat d e c key [] f is all new = (new, tt, tt)
  asked_flying log stat d e c key (g ∷ gs) f is all new =
      let ne : f.number ≢ g.number = omega (arith, all.0.below, is) in
      (asked_ok log stat d e c key g all.0, absent_push g.number gs f all.1 ne, asked_flying log stat d e c key gs f is all.2 new)

  begun_ok : (log : List LogEntry) (stat : Stamps) (d e c v : ℕ) (inv : Invalidation) (f : Flight) → IsLogFlight farm log stat d (stamp e c) f → IsLogFlight farm (Begun v inv ∷ log) stat d (stamp e (c + 1)) (after_invalidation farm.level inv f)
  begun_ok log stat d e c v inv f ok = record {
    below = ok.below;
    drawn = before_next f.stamp e c ok.drawn;
    in_air = ok.in_air;
    keyed = λ key is. keyed key is (ok.keyed key is);
  }
    where
      keyed : (key : PageKey) → f.key ≡ Some key → IsKeyedFlight farm log stat f key → IsKeyedFlight farm (Begun v inv ∷ log) stat (after_invalidation farm.level inv f) key
      keyed key is k = go f.voided (covers farm.level (is_auto farm key) inv key) refl refl
        where
          hit_is : covers_page farm.level f.auto inv f.key ≡ covers farm.level (is_auto farm key) inv key
          hit_is = (λ i. covers_page farm.level (k.auto_is i) inv (is i))

          go : (v2 b : Bool) → f.voided ≡ v2 → covers farm.level (is_auto farm key) inv key ≡ b → IsKeyedFlight farm (Begun v inv ∷ log) stat (after_invalidation farm.level inv f) key
          go true b was cov =
              let mark : (after_invalidation farm.level inv f).voided ≡ true = ap (λ (x : Bool). x || covers_page farm.level f.auto inv f.key) was in
              record { page = k.page; auto_is = k.auto_is; clear = λ o. absurd (cc (o, mark)); fresh = λ o. absurd (cc (o, mark)); voided = λ o x. k.voided was x.1 }
          go false true was cov =
              let mark : (after_invalidation farm.level inv f).voided ≡ true = (λ i. (was i) || hit_is i) ∙ cov in
              record { page = k.page; auto_is = k.auto_is; clear = λ o. absurd (cc (o, mark)); fresh = λ o. absurd (cc (o, mark)); voided = λ o x. x.0 cov }
          go false false was cov =
              let mark : (after_invalidation farm.level inv f).voided ≡ false = (λ i. (was i) || hit_is i) ∙ cov in
              record { page = k.page; auto_is = k.auto_is; clear = λ o. ((λ c. absurd (cc (c, cov))), k.clear was); fresh = λ o. k.fresh was; voided = λ o x. absurd (cc (o, mark)) }

  -- one flush more
  pub begun_flying : (log : List LogEntry) (stat : Stamps) (d e c v : ℕ) (inv : Invalidation) (fs : List Flight) → AreLogFlights farm log stat d (stamp e c) fs → AreLogFlights farm (Begun v inv ∷ log) stat d (stamp e (c + 1)) (map (after_invalidation farm.level inv) fs)
  begun_flying log stat d e c v inv [] all = tt
  begun_flying log stat d e c v inv (f ∷ fs) all = (begun_ok log stat d e c v inv f all.0, absent_map f.number farm.level inv fs all.1, begun_flying log stat d e c v inv fs all.2)
