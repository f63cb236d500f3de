-- Stamps in their order, and which pages are served under them.
use Rattle.std.proofs.Common.{◌≡◌, ◌⊎◌, ◌<◌, ◌≤◌, ◌+◌, ◌&&◌, ℕ, Bool, true, false, not, Option, Some, None, if◌then◌else◌, refl, sym, ◌∙◌, ap, subst, arith, ⊎_elim}
use Rattle.std.proofs.lemmas.Bool.Decides.{nat_tests}
use Rattle.sp_base.specs.declared.answer.Answer.{Answer}
use Rattle.cover_rules.specs.Pages.{IsPageKey}
use Rattle.cover_rules.specs.declared.page.PageKey.{PageKey}
use Rattle.cover_rules.specs.declared.stamp.Stamp.{Stamp}
use Rattle.cache_files.specs.declared.head_note.HeadNote.{HeadNote}
use Rattle.cache_files.specs.declared.page.Page.{Page}
use Rattle.stat_files.specs.Outdated.{outdates_page, is_older}
use Rattle.coherence_core.specs.Served.{served, Before, IsFresh}
use Rattle.coherence_core.specs.Stands.{AreHeadsBefore}

pub before_trans : (a b c : Stamp) → Before a b → Before b c → Before a c
before_trans a b c x y = grind (arith, nat_tests)

pub before_not : (a : Stamp) → Before a a → ⊥
before_not a x = grind (arith, nat_tests)

pub before_next : (a : Stamp) (e d : ℕ) → Before a (record { epoch = e; count = d }) → Before a (record { epoch = e; count = d + 1 })
before_next a e d x = grind (arith, nat_tests)

pub before_later : (a : Stamp) (e d f : ℕ) → d ≤ f → Before a (record { epoch = e; count = d }) → Before a (record { epoch = e; count = f })
before_later a e d f le x = grind (arith, nat_tests)

pub drawn_next : (e d : ℕ) → Before (record { epoch = e; count = d }) (record { epoch = e; count = d + 1 })
drawn_next e d = grind (arith, nat_tests)

pub drawn_later : (e d f : ℕ) → d < f → Before (record { epoch = e; count = d }) (record { epoch = e; count = f })
drawn_later e d f lt = grind (arith, nat_tests)

pub before_epoch : (a : Stamp) (e d f g : ℕ) → Before a (record { epoch = e; count = d }) → e < f → Before a (record { epoch = f; count = g })
before_epoch a e d f g x lt = grind (arith, nat_tests)

pub low_epoch : (a : Stamp) (e d : ℕ) → a.epoch < e → Before a (record { epoch = e; count = d })
low_epoch a e d lt = grind (arith, nat_tests)

pub epoch_below : (a : Stamp) (e d : ℕ) → Before a (record { epoch = e; count = d }) → a.epoch ≤ e
epoch_below a e d x = grind (arith, nat_tests)

-- before the first stamp of an epoch none is of that epoch or of a later one
pub none_drawn : (a : Stamp) (e : ℕ) → Before a (record { epoch = e; count = 0 }) → e ≤ a.epoch → ⊥
none_drawn a e x le = grind (arith, nat_tests)

-- ---- heads

-- as more stamps are drawn
pub heads_later : (head : PageKey → Option HeadNote) (e d f : ℕ) → d ≤ f → AreHeadsBefore head (record { epoch = e; count = d }) → AreHeadsBefore head (record { epoch = e; count = f })
heads_later head e d f le all key h good is = before_later h.stamp e d f le (all key h good is)

-- as each head stays, or is gone, or is one with a stamp that was drawn
pub heads_changed : (head after : PageKey → Option HeadNote) (next : Stamp) → ((key : PageKey) → IsPageKey key → (after key ≡ head key) ⊎ ((h : HeadNote) → after key ≡ Some h → Before h.stamp next)) → AreHeadsBefore head next → AreHeadsBefore after next
heads_changed head after next each all key h good is = ⊎_elim (λ (same : after key ≡ head key). all key h good (sym same ∙ is)) (λ (new : (h : HeadNote) → after key ≡ Some h → Before h.stamp next). new h is) (each key good)

-- ---- what is served

pub fresh_from : (auto : Bool) (o : Option Stamp) (n : Stamp) → ((t : Stamp) → o ≡ Some t → Before t n) → IsFresh auto o n
fresh_from false o n all = refl
fresh_from true None n all = refl
fresh_from true (Some t) n all = ap not (all t refl)

pub fresh_at : (t n : Stamp) → IsFresh true (Some t) n → Before t n
fresh_at t n fresh = go (is_older t n) fresh
  where
    go : (b : Bool) → not b ≡ false → b ≡ true
    go true is = refl
    go false is = absurd (cc is)

-- what a served page is
pub served_page : (auto : Bool) (t : Option Stamp) (o : Option Page) (a : Answer) → served auto t o ≡ Some a → (p : Page) × (o ≡ Some p) × (p.answer ≡ a) × IsFresh auto t p.stamp
served_page auto t None a is = absurd (cc is)
served_page auto t (Some p) a is = go (auto && outdates_page t p.stamp) refl is
  where
    go : (b : Bool) → (auto && outdates_page t p.stamp) ≡ b → (if b then None else Some p.answer) ≡ Some a → (q : Page) × (Some p ≡ Some q) × (q.answer ≡ a) × IsFresh auto t q.stamp
    go true test h = absurd (cc h)
    go false test h = (p, refl, cc h, test)

pub serves_fresh : (auto : Bool) (t : Option Stamp) (p : Page) → IsFresh auto t p.stamp → served auto t (Some p) ≡ Some p.answer
serves_fresh auto t p fresh = (rw fresh)

-- a page that no .stat file outdates is served under any
pub served_unasked : (t u : Option Stamp) (o : Option Page) → served false t o ≡ served false u o
served_unasked t u None = refl
served_unasked t u (Some p) = refl

-- what is served under a stamp was served under an older one
pub served_older : (auto : Bool) (o : Option Page) (t : Option Stamp) (v : Stamp) (a : Answer) → ((u : Stamp) → t ≡ Some u → (u ≡ v) ⊎ Before u v) → served auto (Some v) o ≡ Some a → served auto t o ≡ Some a
served_older false o t v a old is = served_unasked t (Some v) o ∙ is
served_older true o t v a old is =
    let p = served_page true (Some v) o a is in
    let last : Before v p.0.stamp = fresh_at v p.0.stamp p.3 in
    let fresh : IsFresh true t p.0.stamp = fresh_from true t p.0.stamp (λ u e. ⊎_elim (λ (same : u ≡ v). subst (λ (x : Stamp). Before x p.0.stamp) (sym same) last) (λ (lt : Before u v). before_trans u v p.0.stamp lt last) (old u e)) in
    ap (λ (q : Option Page). served true t q) p.1 ∙ serves_fresh true t p.0 fresh ∙ ap (λ (b : Answer). Some b) p.2
