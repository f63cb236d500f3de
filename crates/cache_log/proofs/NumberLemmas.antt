-- The numbers of flights and flushes.
use Rattle.std.proofs.Common.{◌≡◌, ◌≤◌, ◌+◌, ℕ, List, [], ◌∷◌, Option, inl, inr, sym, ◌∙◌, arith}
use Rattle.any_config.specs.declared.farm.Farm.{Farm}
use Rattle.cover_rules.specs.declared.page.PageKey.{PageKey}
use Rattle.cover_rules.specs.declared.invalidation.Invalidation.{Invalidation}
use Rattle.cache_log.specs.Entries.{LogEntry, Asked, Landed, Lost, Begun, Ended, Session, flights_asked, flushes_begun}
use Rattle.cache_log.specs.Hits.{InAir, Unfinished}
use Rattle.cache_log.specs.Rules.{IsLegal}

pub one-key : (log : List LogEntry) (n : ℕ) (k j : Option PageKey) → InAir log n k → InAir log n j → k ≡ j
one-key [] n k j a b = absurd a
one-key (Asked m i ∷ log) n k j (inl a) (inl b) = sym a.1 ∙ b.1
one-key (Asked m i ∷ log) n k j (inl a) (inr b) = absurd (b.0 a.0)
one-key (Asked m i ∷ log) n k j (inr a) (inl b) = absurd (a.0 b.0)
one-key (Asked m i ∷ log) n k j (inr a) (inr b) = one-key log n k j a.1 b.1
one-key (Landed m i given fate ∷ log) n k j a b = one-key log n k j a.1 b.1
one-key (Lost m ∷ log) n k j a b = one-key log n k j a.1 b.1
one-key (e ∷ log) n k j a b = one-key log n k j a b

pub flight-number : (farm : Farm) (log : List LogEntry) (n : ℕ) (k : Option PageKey) → IsLegal farm log → InAir log n k → (1 ≤ n) × (n ≤ flights_asked log)
flight-number farm [] n k legal a = absurd a
flight-number farm (Asked m i ∷ log) n k legal (inl a) = (omega (arith, a.0, legal.0.1.1), omega (arith, a.0, legal.0.1.1))
flight-number farm (Asked m i ∷ log) n k legal (inr a) =
    let below : (1 ≤ n) × (n ≤ flights_asked log) = flight-number farm log n k legal.1 a.1 in
    (below.0, omega (arith, below.1))
flight-number farm (Landed m i given fate ∷ log) n k legal a = flight-number farm log n k legal.1 a.1
flight-number farm (Lost m ∷ log) n k legal a = flight-number farm log n k legal.1 a.1
flight-number farm (Session e ∷ log) n k legal a = absurd (legal.0.1.0.0 n k a)
flight-number farm (e ∷ log) n k legal a = flight-number farm log n k legal.1 a

pub flush-number : (farm : Farm) (log : List LogEntry) (v : ℕ) (inv : Invalidation) → IsLegal farm log → Unfinished log v inv → (1 ≤ v) × (v ≤ flushes_begun log)
flush-number farm [] v inv legal u = absurd u
flush-number farm (Begun w i ∷ log) v inv legal (inl u) = (omega (arith, u.0, legal.0.1.1), omega (arith, u.0, legal.0.1.1))
flush-number farm (Begun w i ∷ log) v inv legal (inr u) =
    let below : (1 ≤ v) × (v ≤ flushes_begun log) = flush-number farm log v inv legal.1 u in
    (below.0, omega (arith, below.1))
flush-number farm (Ended w outcome ∷ log) v inv legal u = flush-number farm log v inv legal.1 u.1
flush-number farm (Session e ∷ log) v inv legal u = absurd (legal.0.1.0.1 v inv u)
flush-number farm (e ∷ log) v inv legal u = flush-number farm log v inv legal.1 u

-- a flush that begins has a number above each that is unfinished
new-number : (farm : Farm) (w v : ℕ) (inv : Invalidation) (log : List LogEntry) → IsLegal farm log → w ≡ flushes_begun log + 1 → w ≡ v → Unfinished log v inv → ⊥
new-number farm w v inv log legal next same u =
    let below : (1 ≤ v) × (v ≤ flushes_begun log) = flush-number farm log v inv legal u in
    omega (arith, below.1, next, same)

pub one-inv : (farm : Farm) (log : List LogEntry) (v : ℕ) (inv other : Invalidation) → IsLegal farm log → Unfinished log v inv → Unfinished log v other → inv ≡ other
one-inv farm [] v inv other legal a b = absurd a
one-inv farm (Begun w i ∷ log) v inv other legal (inl a) (inl b) = sym a.1 ∙ b.1
one-inv farm (Begun w i ∷ log) v inv other legal (inl a) (inr b) = absurd (new-number farm w v other log legal.1 legal.0.1.1 a.0 b)
one-inv farm (Begun w i ∷ log) v inv other legal (inr a) (inl b) = absurd (new-number farm w v inv log legal.1 legal.0.1.1 b.0 a)
one-inv farm (Begun w i ∷ log) v inv other legal (inr a) (inr b) = one-inv farm log v inv other legal.1 a b
one-inv farm (Ended w outcome ∷ log) v inv other legal a b = one-inv farm log v inv other legal.1 a.1 b.1
one-inv farm (e ∷ log) v inv other legal a b = one-inv farm log v inv other legal.1 a b
