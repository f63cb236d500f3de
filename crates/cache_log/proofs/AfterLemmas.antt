-- What came after what, of two places in a list.
use Rattle.std.proofs.Common.{◌≡◌, ◌⊎◌, ◌++◌, ℕ, List, [], ◌∷◌, Some, inl, inr, sym, ◌∙◌, subst}
use Rattle.sp_base.specs.declared.answer.Answer.{Answer}
use Rattle.any_config.specs.declared.farm.Farm.{Farm}
use Rattle.cover_rules.specs.declared.page.PageKey.{PageKey}
use Rattle.cover_rules.specs.declared.invalidation.Invalidation.{Invalidation}
use Rattle.cache_log.specs.Entries.{Done, Fate, LogEntry, Asked, Ended}
use Rattle.cache_log.specs.Hits.{Covers}
use Rattle.cache_log.specs.Flown.{IsPermittedBy, IsUnfinishedFlush, since_asking}

-- the first place is before the second in the list, or the second before the first, or they are one
abbrev Places : {A : Type 0} → List A → A → List A → List A → A → List A → Type 0
Places {A} xs x rest ys y others = ((more : List A) × (ys ≡ xs ++ x ∷ more)) ⊎ (((more : List A) × ((xs ≡ ys ++ y ∷ more) × (others ≡ more ++ x ∷ rest))) ⊎ (x ≡ y))

next-places : {A : Type 0} (w z : A) (xs : List A) (x : A) (rest ys : List A) (y : A) (others : List A) → w ≡ z → Places xs x rest ys y others → Places (w ∷ xs) x rest (z ∷ ys) y others
next-places w z xs x rest ys y others same (inl h) = inl (h.0, λ i. sym same i ∷ h.1 i)
next-places w z xs x rest ys y others same (inr (inl h)) = inr (inl (h.0, ((λ i. same i ∷ h.1.0 i), h.1.1)))
next-places w z xs x rest ys y others same (inr (inr h)) = inr (inr h)

places : {A : Type 0} (xs : List A) (x : A) (rest ys : List A) (y : A) (others : List A) → xs ++ x ∷ rest ≡ ys ++ y ∷ others → Places xs x rest ys y others
places [] x rest [] y others is = inr (inr (cc is))
places [] x rest (z ∷ ys) y others is = inl (ys, cc is)
places (w ∷ xs) x rest [] y others is = inr (inl (xs, (cc is, cc is)))
places (w ∷ xs) x rest (z ∷ ys) y others is = next-places w z xs x rest ys y others (cc is) (places xs x rest ys y others (cc is))

pub asked-after : (farm : Farm) (log : List LogEntry) (key : PageKey) (fate : Fate) (a : Answer) (hit : IsPermittedBy farm log key fate a) (since : List LogEntry) (v : ℕ) (inv : Invalidation) (before : List LogEntry) → log ≡ since ++ Ended v Done ∷ before → IsUnfinishedFlush before v inv → Covers farm inv key → (more : List LogEntry) × (since ≡ since_asking hit.landing ++ Asked hit.landing.flight (Some key) ∷ more)
asked-after farm log key fate a hit since v inv before is u cov = after (places (since_asking hit.landing) (Asked hit.landing.flight (Some key)) hit.landing.before since (Ended v Done) before (sym hit.landing.place ∙ is)) where
  after : Places (since_asking hit.landing) (Asked hit.landing.flight (Some key)) hit.landing.before since (Ended v Done) before → (more : List LogEntry) × (since ≡ since_asking hit.landing ++ Asked hit.landing.flight (Some key) ∷ more)
  after (inl h) = h
  after (inr (inl h)) = absurd (hit.none_done since h.0 v inv h.1.0 (subst (λ (l : List LogEntry). IsUnfinishedFlush l v inv) h.1.1 u) cov)
  after (inr (inr h)) = absurd (cc h)
