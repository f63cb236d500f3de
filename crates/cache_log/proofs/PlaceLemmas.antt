-- What is unfinished or in the air, entry by entry and by places.
use Rattle.std.proofs.Common.{◌≡◌, ◌≢◌, ◌⊎◌, ◌++◌, ℕ, List, [], ◌∷◌, Option, Contains, inl, inr, refl, sym, ap, subst, arith, ⊎_elim}
use Rattle.std.proofs.lemmas.List.Elements.{Contains-append_cases, Contains-append_right, Contains-push_cases}
use Rattle.sp_base.specs.declared.answer.Answer.{Answer}
use Rattle.sp_base.proofs.ListLemmas.{contains_first}
use Rattle.cover_rules.specs.declared.page.PageKey.{PageKey}
use Rattle.cover_rules.specs.declared.invalidation.Invalidation.{Invalidation}
use Rattle.cache_log.specs.Entries.{Fate, FlushOutcome, Done, LogEntry, Asked, Landed, Lost, Begun, Ended}
use Rattle.cache_log.specs.Hits.{HasDone, InAir, Unfinished}
use Rattle.cache_log.specs.Flown.{IsDoneFlush, IsFlight, IsFlying, IsUnfinishedFlush}

-- ---- lists

pub none-within : {A : Type 0} {x : A} → Contains [] x → ⊥
none-within h = omega (arith, h.1)

one-within : {A : Type 0} (y x : A) → Contains (y ∷ []) x → y ≡ x
one-within y x h = ⊎_elim (λ none. absurd (none-within none)) (λ is. is) (Contains-push_cases [] y x h)

-- the first, or one of the others
pub within : {A : Type 0} (y : A) (ys : List A) (x : A) → Contains (y ∷ ys) x → (y ≡ x) ⊎ Contains ys x
within y ys x h = ⊎_elim (λ here. inl (one-within y x here)) (λ there. inr there) (Contains-append_cases (y ∷ []) ys x h)

pub rest-within : {A : Type 0} (y : A) (ys : List A) (x : A) → Contains ys x → Contains (y ∷ ys) x
rest-within y ys x h = Contains-append_right (y ∷ []) ys x h

-- ---- unfinished flushes

more-unfinished : (e : LogEntry) (log : List LogEntry) (v : ℕ) (inv : Invalidation) → ((o : FlushOutcome) → e ≢ Ended v o) → IsUnfinishedFlush log v inv → IsUnfinishedFlush (e ∷ log) v inv
more-unfinished e log v inv not u = record {
  since = e ∷ u.since;
  before = u.before;
  place = ap (λ (l : List LogEntry). e ∷ l) u.place;
  none_ended = λ o h. ⊎_elim (λ (is : e ≡ Ended v o). not o is) (λ there. u.none_ended o there) (within e u.since (Ended v o) h);
}

pub unfinished-placed : (log : List LogEntry) (v : ℕ) (inv : Invalidation) → Unfinished log v inv → IsUnfinishedFlush log v inv
unfinished-placed [] v inv u = absurd u
unfinished-placed (Begun w b ∷ log) v inv (inl is) = record { since = []; before = log; place = (λ i. Begun (is.0 i) (is.1 i) ∷ log); none_ended = λ o h. none-within h }
unfinished-placed (Begun w b ∷ log) v inv (inr u) = more-unfinished (Begun w b) log v inv (λ o is. cc is) (unfinished-placed log v inv u)
unfinished-placed (Ended w p ∷ log) v inv u = more-unfinished (Ended w p) log v inv (λ o is. u.0 (cc is)) (unfinished-placed log v inv u.1)
unfinished-placed (e ∷ log) v inv u = more-unfinished e log v inv (λ o is. cc is) (unfinished-placed log v inv u)

unfinished-since : (v : ℕ) (inv : Invalidation) (before since : List LogEntry) → ((o : FlushOutcome) → Contains since (Ended v o) → ⊥) → Unfinished (since ++ Begun v inv ∷ before) v inv
unfinished-since v inv before [] none = inl (refl, refl)
unfinished-since v inv before (Begun w b ∷ since) none = inr (unfinished-since v inv before since (λ o h. none o (rest-within (Begun w b) since (Ended v o) h)))
unfinished-since v inv before (Ended w p ∷ since) none = ((λ same. none p (subst (λ (x : ℕ). Contains (Ended w p ∷ since) (Ended x p)) same (contains_first (Ended w p) since))), unfinished-since v inv before since (λ o h. none o (rest-within (Ended w p) since (Ended v o) h)))
unfinished-since v inv before (e ∷ since) none = unfinished-since v inv before since (λ o h. none o (rest-within e since (Ended v o) h))

pub placed-unfinished : (log : List LogEntry) (v : ℕ) (inv : Invalidation) → IsUnfinishedFlush log v inv → Unfinished log v inv
placed-unfinished log v inv u = subst (λ (l : List LogEntry). Unfinished l v inv) (sym u.place) (unfinished-since v inv u.before u.since u.none_ended)

-- ---- flushes that ended done

more-done : (e : LogEntry) (log : List LogEntry) (inv : Invalidation) → IsDoneFlush log inv → IsDoneFlush (e ∷ log) inv
more-done e log inv d = record { flush = d.flush; since = e ∷ d.since; before = d.before; place = ap (λ (l : List LogEntry). e ∷ l) d.place; unfinished = d.unfinished }

pub done-placed : (log : List LogEntry) (inv : Invalidation) → HasDone log inv → IsDoneFlush log inv
done-placed [] inv d = absurd d
done-placed (Ended w Done ∷ log) inv (inl u) = record { flush = w; since = []; before = log; place = refl; unfinished = unfinished-placed log w inv u }
done-placed (Ended w Done ∷ log) inv (inr d) = more-done (Ended w Done) log inv (done-placed log inv d)
done-placed (e ∷ log) inv d = more-done e log inv (done-placed log inv d)

done-since : (v : ℕ) (inv : Invalidation) (before since : List LogEntry) → Unfinished before v inv → HasDone (since ++ Ended v Done ∷ before) inv
done-since v inv before [] u = inl u
done-since v inv before (Ended w Done ∷ since) u = inr (done-since v inv before since u)
done-since v inv before (e ∷ since) u = done-since v inv before since u

pub placed-done : (log : List LogEntry) (inv : Invalidation) → IsDoneFlush log inv → HasDone log inv
placed-done log inv d = subst (λ (l : List LogEntry). HasDone l inv) (sym d.place) (done-since d.flush inv d.before d.since (placed-unfinished d.before d.flush inv d.unfinished))

-- ---- flights

abbrev pub more-flight : (e : LogEntry) (log : List LogEntry) (n : ℕ) (key : Option PageKey) → ((k : Option PageKey) → e ≢ Asked n k) → IsFlight log n key → IsFlight (e ∷ log) n key
more-flight e log n key not f = record {
  since = e ∷ f.since;
  before = f.before;
  place = ap (λ (l : List LogEntry). e ∷ l) f.place;
  none_asked = λ k h. ⊎_elim (λ (is : e ≡ Asked n k). not k is) (λ there. f.none_asked k there) (within e f.since (Asked n k) h);
}

more-flying : (e : LogEntry) (log : List LogEntry) (n : ℕ) (key : Option PageKey) → ((k : Option PageKey) → e ≢ Asked n k) → ((k : Option PageKey) (a : Answer) (fate : Fate) → e ≢ Landed n k a fate) → (e ≢ Lost n) → IsFlying log n key → IsFlying (e ∷ log) n key
more-flying e log n key not_asked not_landed not_lost f = record {
  asking = more-flight e log n key not_asked f.asking;
  none_landed = λ k a fate h. ⊎_elim (λ (is : e ≡ Landed n k a fate). not_landed k a fate is) (λ there. f.none_landed k a fate there) (within e f.asking.since (Landed n k a fate) h);
  none_lost = λ h. ⊎_elim (λ (is : e ≡ Lost n). not_lost is) (λ there. f.none_lost there) (within e f.asking.since (Lost n) h);
}

pub flying-placed : (log : List LogEntry) (n : ℕ) (key : Option PageKey) → InAir log n key → IsFlying log n key
flying-placed [] n key air = absurd air
flying-placed (Asked m k ∷ log) n key (inl is) = record {
  asking = record { since = []; before = log; place = (λ i. Asked (is.0 i) (is.1 i) ∷ log); none_asked = λ j h. none-within h };
  none_landed = λ j a fate h. none-within h;
  none_lost = λ h. none-within h;
}
flying-placed (Asked m k ∷ log) n key (inr air) = more-flying (Asked m k) log n key (λ j is. air.0 (cc is)) (λ j a fate is. cc is) (λ is. cc is) (flying-placed log n key air.1)
flying-placed (Landed m k b given ∷ log) n key air = more-flying (Landed m k b given) log n key (λ j is. cc is) (λ j a fate is. air.0 (cc is)) (λ is. cc is) (flying-placed log n key air.1)
flying-placed (Lost m ∷ log) n key air = more-flying (Lost m) log n key (λ j is. cc is) (λ j a fate is. cc is) (λ is. air.0 (cc is)) (flying-placed log n key air.1)
flying-placed (e ∷ log) n key air = more-flying e log n key (λ j is. cc is) (λ j a fate is. cc is) (λ is. cc is) (flying-placed log n key air)

-- what is so of the entries since a flight in the air was asked
abbrev NoneOf : ℕ → List LogEntry → Type 0
NoneOf n since = ((k : Option PageKey) → Contains since (Asked n k) → ⊥) × ((k : Option PageKey) (a : Answer) (fate : Fate) → Contains since (Landed n k a fate) → ⊥) × (Contains since (Lost n) → ⊥)

rest-none : (n : ℕ) (e : LogEntry) (since : List LogEntry) → NoneOf n (e ∷ since) → NoneOf n since
rest-none n e since none = ((λ k h. none.0 k (rest-within e since (Asked n k) h)), (λ k a fate h. none.1 k a fate (rest-within e since (Landed n k a fate) h)), (λ h. none.2 (rest-within e since (Lost n) h)))

flying-since : (n : ℕ) (key : Option PageKey) (before since : List LogEntry) → NoneOf n since → InAir (since ++ Asked n key ∷ before) n key
flying-since n key before [] none = inl (refl, refl)
flying-since n key before (Asked m k ∷ since) none = inr ((λ same. none.0 k (subst (λ (x : ℕ). Contains (Asked m k ∷ since) (Asked x k)) same (contains_first (Asked m k) since))), flying-since n key before since (rest-none n (Asked m k) since none))
flying-since n key before (Landed m k a fate ∷ since) none = ((λ same. none.1 k a fate (subst (λ (x : ℕ). Contains (Landed m k a fate ∷ since) (Landed x k a fate)) same (contains_first (Landed m k a fate) since))), flying-since n key before since (rest-none n (Landed m k a fate) since none))
flying-since n key before (Lost m ∷ since) none = ((λ same. none.2 (subst (λ (x : ℕ). Contains (Lost m ∷ since) (Lost x)) same (contains_first (Lost m) since))), flying-since n key before since (rest-none n (Lost m) since none))
flying-since n key before (e ∷ since) none = flying-since n key before since (rest-none n e since none)

pub placed-flying : (log : List LogEntry) (n : ℕ) (key : Option PageKey) → IsFlying log n key → InAir log n key
placed-flying log n key f = subst (λ (l : List LogEntry). InAir l n key) (sym f.asking.place) (flying-since n key f.asking.before f.asking.since (f.asking.none_asked, f.none_landed, f.none_lost))
