-- What is permitted, entry by entry and by places.
use Rattle.std.proofs.Common.{◌≡◌, ◌≢◌, ◌++◌, ℕ, List, [], ◌∷◌, Option, Some, Contains, inl, inr, refl, sym, ap, subst, ⊎_elim}
use Rattle.sp_base.specs.declared.answer.Answer.{Answer}
use Rattle.sp_base.proofs.ListLemmas.{contains_first}
use Rattle.any_config.specs.declared.farm.Farm.{Farm}
use Rattle.cover_rules.specs.declared.page.PageKey.{PageKey}
use Rattle.cache_log.specs.Entries.{Fate, Kept, Unkept, Done, LogEntry, Asked, Landed, Ended}
use Rattle.cache_log.specs.Hits.{InAir, MayHit, NoneDoneSince, SparesPage, Unfinished, stored}
use Rattle.cache_log.specs.Flown.{IsFlight, IsPermittedBy, IsPermittedHit, NoneDoneIn, since_asking}
use Rattle.cache_log.specs.Rules.{IsLegal}
use Rattle.cache_log.proofs.PlaceLemmas.{flying-placed, none-within, placed-unfinished, rest-within, unfinished-placed, within}

module _ (farm : Farm) (key : PageKey) where
  -- ---- no flush that covers the page ended done

  none-done-nil : (others : List LogEntry) → NoneDoneIn farm [] others key
  none-done-nil others [] earlier v inv is = absurd (cc is)
  none-done-nil others (y ∷ later) earlier v inv is = absurd (cc is)

  none-done-more : (e : LogEntry) (part others : List LogEntry) → ((v : ℕ) → e ≡ Ended v Done → SparesPage farm (part ++ others) v key) → NoneDoneIn farm part others key → NoneDoneIn farm (e ∷ part) others key
  none-done-more e part others here there [] earlier v inv is u =
      let same : e ≡ Ended v Done = cc is in
      let rest : part ≡ earlier = cc is in
      here v same inv (subst (λ (l : List LogEntry). Unfinished (l ++ others) v inv) (sym rest) (placed-unfinished (earlier ++ others) v inv u))
  none-done-more e part others here there (y ∷ later) earlier v inv is u = there later earlier v inv (cc is) u

  none-done-first : (v : ℕ) (part others : List LogEntry) → NoneDoneIn farm (Ended v Done ∷ part) others key → SparesPage farm (part ++ others) v key
  none-done-first v part others h inv u = h [] part v inv refl (unfinished-placed (part ++ others) v inv u)

  none-done-rest : (e : LogEntry) (part others : List LogEntry) → NoneDoneIn farm (e ∷ part) others key → NoneDoneIn farm part others key
  none-done-rest e part others h later earlier v inv is u = h (e ∷ later) earlier v inv (ap (λ (l : List LogEntry). e ∷ l) is) u

  -- since a flight was asked
  done-in : (n : ℕ) (k : Option PageKey) (before since : List LogEntry) → ((j : Option PageKey) → Contains since (Asked n j) → ⊥) → NoneDoneSince farm (since ++ Asked n k ∷ before) n key → NoneDoneIn farm since (Asked n k ∷ before) key
  done-in n k before [] none h = none-done-nil (Asked n k ∷ before)
  done-in n k before (Asked m j ∷ since) none h = none-done-more (Asked m j) since (Asked n k ∷ before) (λ v e. absurd (cc e))
      (done-in n k before since (λ i there. none i (rest-within (Asked m j) since (Asked n i) there)) (h (λ same. none j (subst (λ (x : ℕ). Contains (Asked m j ∷ since) (Asked x j)) same (contains_first (Asked m j) since)))))
  done-in n k before (Ended w Done ∷ since) none h = none-done-more (Ended w Done) since (Asked n k ∷ before) (λ v e. let same : w ≡ v = cc e in subst (λ (x : ℕ). SparesPage farm (since ++ Asked n k ∷ before) x key) same h.0)
      (done-in n k before since (λ i there. none i (rest-within (Ended w Done) since (Asked n i) there)) h.1)
  done-in n k before (e ∷ since) none h = none-done-more e since (Asked n k ∷ before) (λ v is. absurd (cc is)) (done-in n k before since (λ i there. none i (rest-within e since (Asked n i) there)) h)

  done-back : (n : ℕ) (k : Option PageKey) (before since : List LogEntry) → NoneDoneIn farm since (Asked n k ∷ before) key → NoneDoneSince farm (since ++ Asked n k ∷ before) n key
  done-back n k before [] h = λ off. absurd (off refl)
  done-back n k before (Asked m j ∷ since) h = λ off. done-back n k before since (none-done-rest (Asked m j) since (Asked n k ∷ before) h)
  done-back n k before (Ended w Done ∷ since) h = (none-done-first w since (Asked n k ∷ before) h, done-back n k before since (none-done-rest (Ended w Done) since (Asked n k ∷ before) h))
  done-back n k before (e ∷ since) h = done-back n k before since (none-done-rest e since (Asked n k ∷ before) h)

  module _ (a : Answer) where
    -- one entry more, which is no landing of the page that was kept, and no end of a flush that covers it
    more-by : (fate : Fate) (e : LogEntry) (log : List LogEntry) → ((n : ℕ) (b : Answer) → e ≢ Landed n (Some key) b Kept) → ((v : ℕ) → e ≡ Ended v Done → SparesPage farm log v key) → IsPermittedBy farm log key fate a → IsPermittedBy farm (e ∷ log) key fate a
    more-by fate e log not spares h = record {
      landing = record { flight = h.landing.flight; given = h.landing.given; since = e ∷ h.landing.since; in_flight = h.landing.in_flight; before = h.landing.before; place = ap (λ (l : List LogEntry). e ∷ l) h.landing.place; none_asked = h.landing.none_asked; stored_is = h.landing.stored_is };
      none_kept = λ n b there. ⊎_elim (λ (is : e ≡ Landed n (Some key) b Kept). not n b is) (λ below. h.none_kept n b below) (within e h.landing.since (Landed n (Some key) b Kept) there);
      none_done = none-done-more e (since_asking h.landing) (Asked h.landing.flight (Some key) ∷ h.landing.before) (λ v is. subst (λ (l : List LogEntry). SparesPage farm l v key) h.landing.place (spares v is)) h.none_done;
    }

    more : (e : LogEntry) (log : List LogEntry) → ((n : ℕ) (b : Answer) → e ≢ Landed n (Some key) b Kept) → ((v : ℕ) → e ≡ Ended v Done → SparesPage farm log v key) → IsPermittedHit farm log key a → IsPermittedHit farm (e ∷ log) key a
    more e log not spares (inl h) = inl (more-by Kept e log not spares h)
    more e log not spares (inr h) = inr (more-by Unkept e log not spares h)

    -- the landing itself
    landed-here : (fate : Fate) (m : ℕ) (k : Option PageKey) (b : Answer) (log : List LogEntry) → InAir log m k → k ≡ Some key → stored b ≡ a → NoneDoneSince farm log m key → IsPermittedBy farm (Landed m k b fate ∷ log) key fate a
    landed-here fate m k b log air is same none =
        let f : IsFlight log m (Some key) = (flying-placed log m (Some key) (subst (λ (x : Option PageKey). InAir log m x) is air)).asking in
        record {
          landing = record { flight = m; given = b; since = []; in_flight = f.since; before = f.before; place = (λ i. Landed m (is i) b fate ∷ f.place i); none_asked = f.none_asked; stored_is = same };
          none_kept = λ n c there. none-within there;
          none_done = none-done-more (Landed m (Some key) b fate) f.since (Asked m (Some key) ∷ f.before) (λ v e. absurd (cc e)) (done-in m (Some key) f.before f.since f.none_asked (subst (λ (l : List LogEntry). NoneDoneSince farm l m key) f.place none));
        }

    pub permitted-placed : (log : List LogEntry) → IsLegal farm log → MayHit farm log key a → IsPermittedHit farm log key a
    permitted-placed [] legal h = absurd h
    permitted-placed (Landed m k b Kept ∷ log) legal (inl h) = inl (landed-here Kept m k b log legal.0.1.0 h.0 h.1 h.2)
    permitted-placed (Landed m k b Kept ∷ log) legal (inr h) = more (Landed m k b Kept) log (λ n c e. h.0 (cc e)) (λ v e. absurd (cc e)) (permitted-placed log legal.1 h.1)
    permitted-placed (Landed m k b Unkept ∷ log) legal (inl h) = inr (landed-here Unkept m k b log legal.0.1.0 h.0 h.1 h.2)
    permitted-placed (Landed m k b Unkept ∷ log) legal (inr h) = more (Landed m k b Unkept) log (λ n c e. cc e) (λ v e. absurd (cc e)) (permitted-placed log legal.1 h)
    permitted-placed (Ended w Done ∷ log) legal h = more (Ended w Done) log (λ n c e. cc e) (λ v e. let same : w ≡ v = cc e in subst (λ (x : ℕ). SparesPage farm log x key) same h.0) (permitted-placed log legal.1 h.1)
    permitted-placed (e ∷ log) legal h = more e log (λ n c is. cc is) (λ v is. absurd (cc is)) (permitted-placed log legal.1 h)

    -- and the other way round
    module _ (fate : Fate) (n : ℕ) (b : Answer) (in_flight before : List LogEntry) (here : MayHit farm (Landed n (Some key) b fate ∷ in_flight ++ Asked n (Some key) ∷ before) key a) where
      abbrev SinceAsking : List LogEntry → List LogEntry
      SinceAsking since = since ++ Landed n (Some key) b fate ∷ in_flight

      abbrev NoneKept : List LogEntry → Type 0
      NoneKept since = (m : ℕ) (c : Answer) → Contains since (Landed m (Some key) c Kept) → ⊥

      rest-kept : (e : LogEntry) (since : List LogEntry) → NoneKept (e ∷ since) → NoneKept since
      rest-kept e since none m c h = none m c (rest-within e since (Landed m (Some key) c Kept) h)

      fewer-done : (e : LogEntry) (since : List LogEntry) → NoneDoneIn farm (SinceAsking (e ∷ since)) (Asked n (Some key) ∷ before) key → NoneDoneIn farm (SinceAsking since) (Asked n (Some key) ∷ before) key
      fewer-done e since done = none-done-rest e (SinceAsking since) (Asked n (Some key) ∷ before) done

      permitted-since : (since : List LogEntry) → NoneKept since → NoneDoneIn farm (SinceAsking since) (Asked n (Some key) ∷ before) key → MayHit farm (SinceAsking since ++ Asked n (Some key) ∷ before) key a
      permitted-since [] none done = here
      permitted-since (Landed m k c Kept ∷ since) none done = inr ((λ is. none m c (subst (λ (x : Option PageKey). Contains (Landed m k c Kept ∷ since) (Landed m x c Kept)) is (contains_first (Landed m k c Kept) since))), permitted-since since (rest-kept (Landed m k c Kept) since none) (fewer-done (Landed m k c Kept) since done))
      permitted-since (Landed m k c Unkept ∷ since) none done = inr (permitted-since since (rest-kept (Landed m k c Unkept) since none) (fewer-done (Landed m k c Unkept) since done))
      permitted-since (Ended w Done ∷ since) none done = (none-done-first w (SinceAsking since) (Asked n (Some key) ∷ before) done, permitted-since since (rest-kept (Ended w Done) since none) (fewer-done (Ended w Done) since done))
      permitted-since (e ∷ since) none done = permitted-since since (rest-kept e since none) (fewer-done e since done)

    done-in-flight : (fate : Fate) (log : List LogEntry) (h : IsPermittedBy farm log key fate a) → (since : List LogEntry) → NoneDoneIn farm (since ++ Landed h.landing.flight (Some key) h.landing.given fate ∷ h.landing.in_flight) (Asked h.landing.flight (Some key) ∷ h.landing.before) key → NoneDoneIn farm h.landing.in_flight (Asked h.landing.flight (Some key) ∷ h.landing.before) key
    done-in-flight fate log h [] done = none-done-rest (Landed h.landing.flight (Some key) h.landing.given fate) h.landing.in_flight (Asked h.landing.flight (Some key) ∷ h.landing.before) done
    done-in-flight fate log h (e ∷ since) done = done-in-flight fate log h since (none-done-rest e (since ++ Landed h.landing.flight (Some key) h.landing.given fate ∷ h.landing.in_flight) (Asked h.landing.flight (Some key) ∷ h.landing.before) done)

    none-since-asked : (fate : Fate) (log : List LogEntry) (h : IsPermittedBy farm log key fate a) → NoneDoneSince farm (h.landing.in_flight ++ Asked h.landing.flight (Some key) ∷ h.landing.before) h.landing.flight key
    none-since-asked fate log h = done-back h.landing.flight (Some key) h.landing.before h.landing.in_flight (done-in-flight fate log h h.landing.since h.none_done)

    pub placed-permitted : (log : List LogEntry) → IsPermittedHit farm log key a → MayHit farm log key a
    placed-permitted log (inl h) = subst (λ (l : List LogEntry). MayHit farm l key a) (sym h.landing.place) (permitted-since Kept h.landing.flight h.landing.given h.landing.in_flight h.landing.before (inl (refl, h.landing.stored_is, none-since-asked Kept log h)) h.landing.since h.none_kept h.none_done)
    placed-permitted log (inr h) = subst (λ (l : List LogEntry). MayHit farm l key a) (sym h.landing.place) (permitted-since Unkept h.landing.flight h.landing.given h.landing.in_flight h.landing.before (inl (refl, h.landing.stored_is, none-since-asked Unkept log h)) h.landing.since h.none_kept h.none_done)
