-- Unfinished flushes in their queue: what stays so of each as the log goes on.
use Rattle.std.proofs.Common.{◌≡◌, ◌≢◌, ◌<◌, ◌≤◌, ◌+◌, ℕ, List, [], ◌∷◌, ◌++◌, Option, Some, None, IsSome, inl, inr, sym, subst, arith, ⊎_elim}
use Rattle.std.specs.Prelude.{Contains}
use Rattle.sp_base.specs.Texts.{Segments}
use Rattle.any_config.specs.declared.farm.Farm.{Farm}
use Rattle.cover_rules.specs.declared.stamp.Stamp.{Stamp}
use Rattle.cover_rules.specs.declared.invalidation.Invalidation.{Invalidation}
use Rattle.docroot_changes.specs.Changes.{IsStampFolder}
use Rattle.invalidation.specs.declared.place.WalkPlace.{WalkPlace}
use Rattle.invalidation.specs.declared.purge.Purge.{Purge}
use Rattle.invalidation.specs.Slices.{IsBehindPlace, Progress}
use Rattle.cache_log.specs.Entries.{LogEntry, Begun, Ended, FlushOutcome}
use Rattle.cache_log.specs.Hits.{Unfinished}
use Rattle.cache_log.proofs.PlaceLemmas.{none-within, within}
use Rattle.coherence_core.specs.Served.{Before, Pages, Stamps}
use Rattle.coherence_core.specs.Stands.{AreLater, AreLogFlushes, HasFlush, HasHeadAtWork, IsAtWork, IsLogFlush, stamp}
use Rattle.coherence_core.specs.declared.pending.Pending.{Pending}
use Rattle.coherence_core.proofs.StampLemmas.{before_next, before_trans}

module _ (farm : Farm) where
  pub flushes_to : (page after : Pages) (log next : List LogEntry) (b c : ℕ) (s t : Stamp) (ps : List Pending) → ((p : Pending) → IsLogFlush farm page log b s p → IsLogFlush farm after next c t p) → AreLogFlushes farm page log b s ps → AreLogFlushes farm after next c t ps
  flushes_to page after log next b c s t [] to all = tt
  flushes_to page after log next b c s t (p ∷ ps) to all = (to p all.0, all.1, flushes_to page after log next b c s t ps to all.2)

  -- an entry that says nothing of them
  pub spared : (page : Pages) (log next : List LogEntry) (b : ℕ) (s t : Stamp) (p : Pending) → (Before p.purge.stamp s → Before p.purge.stamp t) → ((v : ℕ) (inv : Invalidation) → Unfinished log v inv → Unfinished next v inv) → IsLogFlush farm page log b s p → IsLogFlush farm page next b t p
  spared page log next b s t p more to ok = record { below = ok.below; level_is = ok.level_is; drawn = more ok.drawn; unfinished = to p.number p.purge.inv ok.unfinished; older = ok.older }

  later_push : (p : Pending) (ps : List Pending) (q : Pending) → AreLater p ps → p.number < q.number → Before p.purge.stamp q.purge.stamp → q.purge.place ≡ None → AreLater p (ps ++ q ∷ [])
  later_push p [] q later lt old not = (lt, old, not, tt)
  later_push p (r ∷ rs) q later lt old not = (later.0, later.1, later.2, later_push p rs q later.3 lt old not)

  -- one more at the end
  pub begun_queue : (page : Pages) (log : List LogEntry) (b e c : ℕ) (inv : Invalidation) (ps : List Pending) (q : Pending) → q.number ≡ b + 1 → q.purge.stamp ≡ stamp e c → q.purge.place ≡ None → AreLogFlushes farm page log b (stamp e c) ps → IsLogFlush farm page (Begun (b + 1) inv ∷ log) (b + 1) (stamp e (c + 1)) q → AreLogFlushes farm page (Begun (b + 1) inv ∷ log) (b + 1) (stamp e (c + 1)) (ps ++ q ∷ [])
  begun_queue page log b e c inv [] q num st not all new = (new, tt, tt)
  begun_queue page log b e c inv (p ∷ ps) q num st not all new =
      let ok = all.0 in
      let lt : p.number < q.number = omega (arith, ok.below, num) in (
        record { below = omega (arith, ok.below); level_is = ok.level_is; drawn = before_next p.purge.stamp e c ok.drawn; unfinished = inr ok.unfinished; older = ok.older },
        later_push p ps q all.1 lt (subst (λ (x : Stamp). Before p.purge.stamp x) (sym st) ok.drawn) not,
        begun_queue page log b e c inv ps q num st not all.2 new,
      )

  -- those that are left once the head has ended
  pub tail_queue : (page : Pages) (log : List LogEntry) (outcome : FlushOutcome) (b : ℕ) (s : Stamp) (p : Pending) (ps : List Pending) → AreLater p ps → AreLogFlushes farm page log b s ps → AreLogFlushes farm page (Ended p.number outcome ∷ log) b s ps
  tail_queue page log outcome b s p [] later all = tt
  tail_queue page log outcome b s p (q ∷ qs) later all =
      let ok = all.0 in
      let ne : p.number ≢ q.number = omega (arith, later.0) in
      (record { below = ok.below; level_is = ok.level_is; drawn = ok.drawn; unfinished = (ne, ok.unfinished); older = ok.older }, all.1, tail_queue page log outcome b s p qs later.3 all.2)

  pub flushing_in : (page : Pages) (log : List LogEntry) (b : ℕ) (s : Stamp) (ps : List Pending) (p : Pending) → AreLogFlushes farm page log b s ps → Contains ps p → IsLogFlush farm page log b s p
  flushing_in page log b s [] p all there = absurd (none-within there)
  flushing_in page log b s (q ∷ qs) p all there = ⊎_elim (λ (same : q ≡ p). subst (λ (x : Pending). IsLogFlush farm page log b s x) same all.0) (λ (rest : Contains qs p). flushing_in page log b s qs p all.2 rest) (within q qs p there)

-- ---- which flushes are there

pub flush_last : (ps : List Pending) (q : Pending) (v : ℕ) (i : Invalidation) → q.number ≡ v → q.purge.inv ≡ i → HasFlush (ps ++ q ∷ []) v i
flush_last [] q v i a b = inl (a, b)
flush_last (p ∷ ps) q v i a b = inr (flush_last ps q v i a b)

pub flush_first : (ps : List Pending) (v : ℕ) (i : Invalidation) (q : Pending) → HasFlush ps v i → HasFlush (ps ++ q ∷ []) v i
flush_first [] v i q h = elim h [ ]
flush_first (p ∷ ps) v i q (inl h) = inl h
flush_first (p ∷ ps) v i q (inr h) = inr (flush_first ps v i q h)

-- the one at the head is not among the others
pub later_apart : (p : Pending) (ps : List Pending) (i : Invalidation) → AreLater p ps → HasFlush ps p.number i → ⊥
later_apart p [] i later h = h
later_apart p (q ∷ qs) i later (inl h) = let lt : p.number < q.number = later.0 in let same : q.number ≡ p.number = h.0 in omega (arith, lt, same)
later_apart p (q ∷ qs) i later (inr h) = later_apart p qs i later.3 h

-- the others are younger
flush_later : (p : Pending) (ps : List Pending) (w : ℕ) (inv : Invalidation) → AreLater p ps → HasFlush ps w inv → p.number ≤ w
flush_later p [] w inv later h = elim h [ ]
flush_later p (q ∷ qs) w inv later (inl h) = let lt : p.number < q.number = later.0 in let same : q.number ≡ w = h.0 in omega (arith, lt, same)
flush_later p (q ∷ qs) w inv later (inr h) = flush_later p qs w inv later.3 h

-- the head is the oldest
pub oldest : (p : Pending) (ps : List Pending) (w : ℕ) (inv : Invalidation) → AreLater p ps → HasFlush (p ∷ ps) w inv → p.number ≤ w
oldest p ps w inv later (inl h) = let same : p.number ≡ w = h.0 in omega (arith, same)
oldest p ps w inv later (inr h) = flush_later p ps w inv later h

-- ---- the head

-- one that has made no slice is as far as it says
untouched : (page : Pages) (stat : Stamps) (p : Purge) → p.place ≡ None → Progress p page stat
untouched page stat p none = record {
  touched = λ begun. absurd (cc (subst (λ (o : Option WalkPlace). IsSome o) none begun));
  gone = λ k good del behind. absurd (subst (λ (o : Option WalkPlace). IsBehindPlace p.inv o k) none behind);
}

-- the next is at work once the head has ended
pub tail_head : (page : Pages) (stat : Stamps) (p : Pending) (ps : List Pending) → IsAtWork page stat p.purge → AreLater p ps → HasHeadAtWork page stat ps
tail_head page stat p [] head later = tt
tail_head page stat p (q ∷ qs) head later = record {
  newest = λ f t good is. inr (⊎_elim (λ (same : t ≡ p.purge.stamp). subst (λ (x : Stamp). Before x q.purge.stamp) (sym same) later.1) (λ (lt : Before t p.purge.stamp). before_trans t p.purge.stamp q.purge.stamp lt later.1) (head.newest f t good is));
  progress = untouched page stat q.purge later.2;
}

pub push_head : (page : Pages) (stat : Stamps) (ps : List Pending) (q : Pending) → HasHeadAtWork page stat ps → q.purge.place ≡ None → ((f : Segments) (t : Stamp) → IsStampFolder f → stat f ≡ Some t → Before t q.purge.stamp) → HasHeadAtWork page stat (ps ++ q ∷ [])
push_head page stat [] q head not old = record { newest = λ f t good is. inr (old f t good is); progress = untouched page stat q.purge not }
push_head page stat (p ∷ ps) q head not old = head
