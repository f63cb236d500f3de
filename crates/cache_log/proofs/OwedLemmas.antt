-- What is owed, entry by entry and by places.
use Rattle.std.proofs.Common.{◌≡◌, ◌≢◌, ◌++◌, ℕ, List, [], ◌∷◌, Option, Some, Contains, inl, inr, refl, sym, ap, subst, ⊎_elim}
use Rattle.sp_base.specs.declared.answer.Answer.{Answer}
use Rattle.sp_base.proofs.ListLemmas.{contains_first}
use Rattle.any_config.specs.declared.farm.Farm.{Farm}
use Rattle.cover_rules.specs.declared.page.PageKey.{PageKey}
use Rattle.cover_rules.specs.declared.invalidation.Invalidation.{Invalidation}
use Rattle.cache_log.specs.Entries.{Fate, Kept, Unkept, Passed, LogEntry, Asked, Landed, Begun}
use Rattle.cache_log.specs.Hits.{Covers, MustHit, stored}
use Rattle.cache_log.specs.Flown.{IsClearFlight, IsClearSince, IsOwedHit, since_asking}
use Rattle.cache_log.proofs.PlaceLemmas.{none-within, rest-within, within}
use Rattle.cache_log.proofs.ClearLemmas.{clear-placed, clear-since, fewer-since, first-spares, more-since}

module _ (farm : Farm) (key : PageKey) (a : Answer) where
  -- one entry more, which is no landing of the page but one that was passed, and begins no flush that covers it
  more-owed : (e : LogEntry) (log : List LogEntry) → ((n : ℕ) (b : Answer) (fate : Fate) → fate ≢ Passed → e ≢ Landed n (Some key) b fate) → ((v : ℕ) (inv : Invalidation) → e ≡ Begun v inv → Covers farm inv key → ⊥) → IsOwedHit farm log key a → IsOwedHit farm (e ∷ log) key a
  more-owed e log not spares h = record {
    landing = record { flight = h.landing.flight; given = h.landing.given; since = e ∷ h.landing.since; in_flight = h.landing.in_flight; before = h.landing.before; place = ap (λ (l : List LogEntry). e ∷ l) h.landing.place; none_asked = h.landing.none_asked; stored_is = h.landing.stored_is };
    none_stored = λ n b fate off there. ⊎_elim (λ (is : e ≡ Landed n (Some key) b fate). not n b fate off is) (λ below. h.none_stored n b fate off below) (within e h.landing.since (Landed n (Some key) b fate) there);
    clear = more-since farm e (since_asking h.landing) h.landing.before key spares h.clear;
  }

  -- the landing itself
  owed-here : (m : ℕ) (k : Option PageKey) (b : Answer) (log : List LogEntry) → k ≡ Some key → stored b ≡ a → IsClearFlight farm log m key → IsOwedHit farm (Landed m k b Kept ∷ log) key a
  owed-here m k b log is same c = record {
    landing = record { flight = m; given = b; since = []; in_flight = c.asking.since; before = c.asking.before; place = (λ i. Landed m (is i) b Kept ∷ c.asking.place i); none_asked = c.asking.none_asked; stored_is = same };
    none_stored = λ n d fate off there. none-within there;
    clear = more-since farm (Landed m (Some key) b Kept) c.asking.since c.asking.before key (λ v inv is. absurd (cc is)) c.clear;
  }

  pub owed-placed : (log : List LogEntry) → MustHit farm log key a → IsOwedHit farm log key a
  owed-placed [] h = absurd h
  owed-placed (Landed m k b Kept ∷ log) (inl h) = owed-here m k b log h.0 h.1 (clear-placed farm log m key h.2)
  owed-placed (Landed m k b Kept ∷ log) (inr h) = more-owed (Landed m k b Kept) log (λ n c fate off is. h.0 (cc is)) (λ v inv is. absurd (cc is)) (owed-placed log h.1)
  owed-placed (Landed m k b Unkept ∷ log) h = more-owed (Landed m k b Unkept) log (λ n c fate off is. h.0 (cc is)) (λ v inv is. absurd (cc is)) (owed-placed log h.1)
  owed-placed (Landed m k b Passed ∷ log) h = more-owed (Landed m k b Passed) log (λ n c fate off is. off (sym (cc is))) (λ v inv is. absurd (cc is)) (owed-placed log h)
  owed-placed (Begun w i ∷ log) h = more-owed (Begun w i) log (λ n c fate off is. cc is) (λ v inv is cov. let same : i ≡ inv = cc is in h.0 (subst (λ (x : Invalidation). Covers farm x key) (sym same) cov)) (owed-placed log h.1)
  owed-placed (e ∷ log) h = more-owed e log (λ n c fate off is. cc is) (λ v inv is. absurd (cc is)) (owed-placed log h)

  -- what is so of the entries since the last landing that wasn't passed
  abbrev NoneStored : List LogEntry → Type 0
  NoneStored since = (n : ℕ) (b : Answer) (fate : Fate) → fate ≢ Passed → Contains since (Landed n (Some key) b fate) → ⊥

  rest-stored : (e : LogEntry) (since : List LogEntry) → NoneStored (e ∷ since) → NoneStored since
  rest-stored e since none n b fate off h = none n b fate off (rest-within e since (Landed n (Some key) b fate) h)

  other-page : (m : ℕ) (k : Option PageKey) (b : Answer) (fate : Fate) (since : List LogEntry) → fate ≢ Passed → NoneStored (Landed m k b fate ∷ since) → k ≢ Some key
  other-page m k b fate since off none is = none m b fate off (subst (λ (x : Option PageKey). Contains (Landed m k b fate ∷ since) (Landed m x b fate)) is (contains_first (Landed m k b fate) since))

  module _ (n : ℕ) (b : Answer) (in_flight before : List LogEntry) (same : stored b ≡ a) (none_asked : (k : Option PageKey) → Contains in_flight (Asked n k) → ⊥) where
    abbrev SinceAsking : List LogEntry → List LogEntry
    SinceAsking since = since ++ Landed n (Some key) b Kept ∷ in_flight

    owed-since : (since : List LogEntry) → NoneStored since → IsClearSince farm (SinceAsking since) before key → MustHit farm (SinceAsking since ++ Asked n (Some key) ∷ before) key a
    owed-since [] none c = inl (refl, same, clear-since farm n key before in_flight none_asked (fewer-since farm (Landed n (Some key) b Kept) in_flight before key c))
    owed-since (Landed m k d Kept ∷ since) none c = inr (other-page m k d Kept since (λ is. cc is) none, owed-since since (rest-stored (Landed m k d Kept) since none) (fewer-since farm (Landed m k d Kept) (SinceAsking since) before key c))
    owed-since (Landed m k d Unkept ∷ since) none c = (other-page m k d Unkept since (λ is. cc is) none, owed-since since (rest-stored (Landed m k d Unkept) since none) (fewer-since farm (Landed m k d Unkept) (SinceAsking since) before key c))
    owed-since (Begun w i ∷ since) none c = (first-spares farm w i (SinceAsking since) before key c, owed-since since (rest-stored (Begun w i) since none) (fewer-since farm (Begun w i) (SinceAsking since) before key c))
    owed-since (e ∷ since) none c = owed-since since (rest-stored e since none) (fewer-since farm e (SinceAsking since) before key c)

  pub placed-owed : (log : List LogEntry) → IsOwedHit farm log key a → MustHit farm log key a
  placed-owed log h = subst (λ (l : List LogEntry). MustHit farm l key a) (sym h.landing.place) (owed-since h.landing.flight h.landing.given h.landing.in_flight h.landing.before h.landing.stored_is h.landing.none_asked h.landing.since h.none_stored h.clear)
