-- What is owed is permitted, and nothing else is then.
use Rattle.std.proofs.Common.{◌≡◌, ℕ, List, [], ◌∷◌, inl, inr, sym, ◌∙◌, subst}
use Rattle.sp_base.specs.declared.answer.Answer.{Answer}
use Rattle.any_config.specs.declared.farm.Farm.{Farm}
use Rattle.cover_rules.specs.declared.page.PageKey.{PageKey}
use Rattle.cover_rules.specs.declared.invalidation.Invalidation.{Invalidation}
use Rattle.cache_log.specs.Entries.{Kept, Unkept, Done, LogEntry, Asked, Landed, Begun, Ended}
use Rattle.cache_log.specs.Hits.{Covers, Unfinished, IsClear, NoneDoneSince, MayHit, MustHit}

-- the page of a clear flight is not covered by an unfinished flush
pub clear-unfinished : (farm : Farm) (log : List LogEntry) (n : ℕ) (key : PageKey) (v : ℕ) (inv : Invalidation) → IsClear farm log n key → Unfinished log v inv → Covers farm inv key → ⊥
clear-unfinished farm [] n key v inv clear unfinished cov = clear
clear-unfinished farm (Asked m k ∷ log) n key v inv (inl c) unfinished cov = c.2 v inv unfinished cov
clear-unfinished farm (Asked m k ∷ log) n key v inv (inr c) unfinished cov = clear-unfinished farm log n key v inv c.1 unfinished cov
clear-unfinished farm (Begun w i ∷ log) n key v inv clear (inl o) cov = clear.0 (subst (λ (x : Invalidation). Covers farm x key) (sym o.1) cov)
clear-unfinished farm (Begun w i ∷ log) n key v inv clear (inr o) cov = clear-unfinished farm log n key v inv clear.1 o cov
clear-unfinished farm (Ended w outcome ∷ log) n key v inv clear unfinished cov = clear-unfinished farm log n key v inv clear unfinished.1 cov
clear-unfinished farm (e ∷ log) n key v inv clear unfinished cov = clear-unfinished farm log n key v inv clear unfinished cov

-- so no flush that covers it has ended done since the flight was asked
pub clear-none-done : (farm : Farm) (log : List LogEntry) (n : ℕ) (key : PageKey) → IsClear farm log n key → NoneDoneSince farm log n key
clear-none-done farm [] n key clear = tt
clear-none-done farm (Asked m k ∷ log) n key (inl c) = λ off. absurd (off c.0)
clear-none-done farm (Asked m k ∷ log) n key (inr c) = λ off. clear-none-done farm log n key c.1
clear-none-done farm (Begun w i ∷ log) n key clear = clear-none-done farm log n key clear.1
clear-none-done farm (Ended w Done ∷ log) n key clear = ((λ inv unfinished cov. clear-unfinished farm log n key w inv clear unfinished cov), clear-none-done farm log n key clear)
clear-none-done farm (e ∷ log) n key clear = clear-none-done farm log n key clear

-- nor is a page that is owed covered by an unfinished flush
pub must-unfinished : (farm : Farm) (log : List LogEntry) (key : PageKey) (a : Answer) (v : ℕ) (inv : Invalidation) → MustHit farm log key a → Unfinished log v inv → Covers farm inv key → ⊥
must-unfinished farm [] key a v inv must unfinished cov = must
must-unfinished farm (Landed m k b Kept ∷ log) key a v inv (inl h) unfinished cov = clear-unfinished farm log m key v inv h.2 unfinished cov
must-unfinished farm (Landed m k b Kept ∷ log) key a v inv (inr h) unfinished cov = must-unfinished farm log key a v inv h.1 unfinished cov
must-unfinished farm (Landed m k b Unkept ∷ log) key a v inv h unfinished cov = must-unfinished farm log key a v inv h.1 unfinished cov
must-unfinished farm (Begun w i ∷ log) key a v inv h (inl o) cov = h.0 (subst (λ (x : Invalidation). Covers farm x key) (sym o.1) cov)
must-unfinished farm (Begun w i ∷ log) key a v inv h (inr o) cov = must-unfinished farm log key a v inv h.1 o cov
must-unfinished farm (Ended w outcome ∷ log) key a v inv h unfinished cov = must-unfinished farm log key a v inv h unfinished.1 cov
must-unfinished farm (e ∷ log) key a v inv h unfinished cov = must-unfinished farm log key a v inv h unfinished cov

-- what is owed is permitted
pub must-may : (farm : Farm) (log : List LogEntry) (key : PageKey) (a : Answer) → MustHit farm log key a → MayHit farm log key a
must-may farm [] key a must = must
must-may farm (Landed m k b Kept ∷ log) key a (inl h) = inl (h.0, h.1, clear-none-done farm log m key h.2)
must-may farm (Landed m k b Kept ∷ log) key a (inr h) = inr (h.0, must-may farm log key a h.1)
must-may farm (Landed m k b Unkept ∷ log) key a h = inr (must-may farm log key a h.1)
must-may farm (Begun w i ∷ log) key a h = must-may farm log key a h.1
must-may farm (Ended w Done ∷ log) key a h = ((λ inv unfinished cov. must-unfinished farm log key a w inv h unfinished cov), must-may farm log key a h)
must-may farm (e ∷ log) key a h = must-may farm log key a h

-- and it is the one answer that is
pub may-must : (farm : Farm) (log : List LogEntry) (key : PageKey) (a other : Answer) → MustHit farm log key a → MayHit farm log key other → other ≡ a
may-must farm [] key a other must may = absurd must
may-must farm (Landed m k b Kept ∷ log) key a other (inl h) (inl s) = sym s.1 ∙ h.1
may-must farm (Landed m k b Kept ∷ log) key a other (inl h) (inr s) = absurd (s.0 h.0)
may-must farm (Landed m k b Kept ∷ log) key a other (inr h) (inl s) = absurd (h.0 s.0)
may-must farm (Landed m k b Kept ∷ log) key a other (inr h) (inr s) = may-must farm log key a other h.1 s.1
may-must farm (Landed m k b Unkept ∷ log) key a other h (inl s) = absurd (h.0 s.0)
may-must farm (Landed m k b Unkept ∷ log) key a other h (inr s) = may-must farm log key a other h.1 s
may-must farm (Begun w i ∷ log) key a other h s = may-must farm log key a other h.1 s
may-must farm (Ended w Done ∷ log) key a other h s = may-must farm log key a other h s.1
may-must farm (e ∷ log) key a other h s = may-must farm log key a other h s
