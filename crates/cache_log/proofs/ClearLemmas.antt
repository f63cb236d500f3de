-- What is clear, entry by entry and by places.
use Rattle.std.proofs.Common.{◌≡◌, ◌≢◌, ◌++◌, ℕ, List, [], ◌∷◌, Option, Some, Contains, inl, inr, refl, sym, subst, ⊎_elim}
use Rattle.sp_base.proofs.ListLemmas.{contains_first}
use Rattle.any_config.specs.declared.farm.Farm.{Farm}
use Rattle.cover_rules.specs.declared.page.PageKey.{PageKey}
use Rattle.cover_rules.specs.declared.invalidation.Invalidation.{Invalidation}
use Rattle.cache_log.specs.Entries.{LogEntry, Asked, Begun}
use Rattle.cache_log.specs.Hits.{Covers, IsClear}
use Rattle.cache_log.specs.Flown.{IsClearFlight, IsClearSince}
use Rattle.cache_log.proofs.PlaceLemmas.{more-flight, none-within, placed-unfinished, rest-within, unfinished-placed, within}

-- one entry more, which begins no flush that covers the page
pub more-since : (farm : Farm) (e : LogEntry) (since before : List LogEntry) (key : PageKey) → ((v : ℕ) (inv : Invalidation) → e ≡ Begun v inv → Covers farm inv key → ⊥) → IsClearSince farm since before key → IsClearSince farm (e ∷ since) before key
more-since farm e since before key spares c = record {
  none_unfinished = c.none_unfinished;
  none_begun = λ v inv h. ⊎_elim (λ (is : e ≡ Begun v inv). spares v inv is) (λ there. c.none_begun v inv there) (within e since (Begun v inv) h);
}

-- one entry fewer
pub fewer-since : (farm : Farm) (e : LogEntry) (since before : List LogEntry) (key : PageKey) → IsClearSince farm (e ∷ since) before key → IsClearSince farm since before key
fewer-since farm e since before key c = record { none_unfinished = c.none_unfinished; none_begun = λ v inv h. c.none_begun v inv (rest-within e since (Begun v inv) h) }

-- the entry begins no flush that covers the page
pub first-spares : (farm : Farm) (v : ℕ) (inv : Invalidation) (since before : List LogEntry) (key : PageKey) → IsClearSince farm (Begun v inv ∷ since) before key → Covers farm inv key → ⊥
first-spares farm v inv since before key c = c.none_begun v inv (contains_first (Begun v inv) since)

more-clear : (farm : Farm) (e : LogEntry) (log : List LogEntry) (n : ℕ) (key : PageKey) → ((k : Option PageKey) → e ≢ Asked n k) → ((v : ℕ) (inv : Invalidation) → e ≡ Begun v inv → Covers farm inv key → ⊥) → IsClearFlight farm log n key → IsClearFlight farm (e ∷ log) n key
more-clear farm e log n key not spares c = record { asking = more-flight e log n (Some key) not c.asking; clear = more-since farm e c.asking.since c.asking.before key spares c.clear }

pub clear-placed : (farm : Farm) (log : List LogEntry) (n : ℕ) (key : PageKey) → IsClear farm log n key → IsClearFlight farm log n key
clear-placed farm [] n key c = absurd c
clear-placed farm (Asked m k ∷ log) n key (inl c) = record {
  asking = record { since = []; before = log; place = (λ i. Asked (c.0 i) (c.1 i) ∷ log); none_asked = λ j h. none-within h };
  clear = record { none_unfinished = (λ v inv u. c.2 v inv (placed-unfinished log v inv u)); none_begun = λ v inv h. absurd (none-within h) };
}
clear-placed farm (Asked m k ∷ log) n key (inr c) = more-clear farm (Asked m k) log n key (λ j is. c.0 (cc is)) (λ v inv is. absurd (cc is)) (clear-placed farm log n key c.1)
clear-placed farm (Begun w b ∷ log) n key c = more-clear farm (Begun w b) log n key (λ j is. cc is) (λ v inv is cov. let same : b ≡ inv = cc is in c.0 (subst (λ (x : Invalidation). Covers farm x key) (sym same) cov)) (clear-placed farm log n key c.1)
clear-placed farm (e ∷ log) n key c = more-clear farm e log n key (λ j is. cc is) (λ v inv is. absurd (cc is)) (clear-placed farm log n key c)

pub clear-since : (farm : Farm) (n : ℕ) (key : PageKey) (before since : List LogEntry) → ((k : Option PageKey) → Contains since (Asked n k) → ⊥) → IsClearSince farm since before key → IsClear farm (since ++ Asked n (Some key) ∷ before) n key
clear-since farm n key before [] none c = inl (refl, refl, (λ v inv u. c.none_unfinished v inv (unfinished-placed before v inv u)))
clear-since farm n key before (Asked m k ∷ since) none c = inr ((λ same. none k (subst (λ (x : ℕ). Contains (Asked m k ∷ since) (Asked x k)) same (contains_first (Asked m k) since))), clear-since farm n key before since (λ j h. none j (rest-within (Asked m k) since (Asked n j) h)) (fewer-since farm (Asked m k) since before key c))
clear-since farm n key before (Begun w b ∷ since) none c = (first-spares farm w b since before key c, clear-since farm n key before since (λ j h. none j (rest-within (Begun w b) since (Asked n j) h)) (fewer-since farm (Begun w b) since before key c))
clear-since farm n key before (e ∷ since) none c = clear-since farm n key before since (λ j h. none j (rest-within e since (Asked n j) h)) (fewer-since farm e since before key c)

pub placed-clear : (farm : Farm) (log : List LogEntry) (n : ℕ) (key : PageKey) → IsClearFlight farm log n key → IsClear farm log n key
placed-clear farm log n key c = subst (λ (l : List LogEntry). IsClear farm l n key) (sym c.asking.place) (clear-since farm n key c.asking.before c.asking.since c.asking.none_asked c.clear)
