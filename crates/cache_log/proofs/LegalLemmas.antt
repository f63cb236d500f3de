-- Legal logs, at their places and as they grow.
use Rattle.std.proofs.Common.{◌≡◌, ◌<◌, ◌≤◌, ◌++◌, ℕ, List, [], ◌∷◌, Option, IsTrue, false, refl, Some, inl, inr, arith, ⊎_elim}
use Rattle.sp_base.specs.declared.answer.Answer.{Answer}
use Rattle.sp_base.proofs.ListLemmas.{contains_first}
use Rattle.any_config.specs.declared.farm.Farm.{Farm}
use Rattle.cover_rules.specs.declared.page.PageKey.{PageKey}
use Rattle.dispatch_rules.specs.Caching.{is_storable}
use Rattle.cache_log.specs.Entries.{Kept, Unkept, Passed, Done, Failed, LogEntry, Asked, Landed, Lost, Begun, Sliced, Ended, Hit, Up, Down, Session, downs_since, is_up, last_epoch}
use Rattle.cache_log.specs.Hits.{InAir}
use Rattle.cache_log.specs.Flown.{HasEpoch, IsClearFlight, IsPermittedHit}
use Rattle.cache_log.specs.Rules.{AllAllowed, Allowed, CallConditions, IsAboveAll, IsIdle, IsLegal}
use Rattle.cache_log.proofs.PlaceLemmas.{none-within, rest-within, within}
use Rattle.cache_log.proofs.ClearLemmas.{clear-placed}
use Rattle.cache_log.proofs.PermittedLemmas.{permitted-placed}

pub legal-call : (farm : Farm) (under : CallConditions) (entries log : List LogEntry) → AllAllowed farm under entries log → IsLegal farm log → IsLegal farm (entries ++ log)
legal-call farm under [] log all legal = legal
legal-call farm under (e ∷ entries) log all legal = ((under, all.0), legal-call farm under entries log all.1 legal)

pub legal-place : (farm : Farm) (since : List LogEntry) (e : LogEntry) (before : List LogEntry) → IsLegal farm (since ++ e ∷ before) → ((under : CallConditions) × Allowed farm under e before) × IsLegal farm before
legal-place farm [] e before legal = legal
legal-place farm (d ∷ since) e before legal = legal-place farm since e before legal.1

pub legal-hit : (farm : Farm) (since : List LogEntry) (key : PageKey) (before : List LogEntry) → IsLegal farm (since ++ Hit key ∷ before) → (a : Answer) × IsPermittedHit farm before key a
legal-hit farm since key before legal =
    let here : ((under : CallConditions) × Allowed farm under (Hit key) before) × IsLegal farm before = legal-place farm since (Hit key) before legal in
    (here.0.1.1.0, permitted-placed farm key here.0.1.1.0 before here.1 here.0.1.1.1)

pub legal-kept : (farm : Farm) (since : List LogEntry) (n : ℕ) (key : PageKey) (given : Answer) (before : List LogEntry) → IsLegal farm (since ++ Landed n (Some key) given Kept ∷ before) → IsTrue (is_storable given) × IsClearFlight farm before n key
legal-kept farm since n key given before legal =
    let here : ((under : CallConditions) × Allowed farm under (Landed n (Some key) given Kept) before) × IsLegal farm before = legal-place farm since (Landed n (Some key) given Kept) before legal in
    (here.0.1.1.0, clear-placed farm before n key here.0.1.1.1)

pub up-no-downs : (log : List LogEntry) → IsTrue (is_up log) → downs_since log ≡ 0
up-no-downs [] up = refl
up-no-downs (Up e ∷ log) up = refl
up-no-downs (Session e ∷ log) up = refl
up-no-downs (Down ∷ log) up = absurd (cc up)
up-no-downs (e ∷ log) up = up-no-downs log up

-- ---- while the cache isn't up

air-idle : (log : List LogEntry) (n : ℕ) (k : Option PageKey) → IsIdle log → InAir log n k → ⊥
air-idle log n k idle air = idle.0 n k air

pub down-idle : (farm : Farm) (log : List LogEntry) → IsLegal farm log → is_up log ≡ false → IsIdle log
down-idle farm [] legal down = (λ n k air. air, λ v inv u. u)
down-idle farm (Down ∷ log) legal down = legal.0.1.1
down-idle farm (Up e ∷ log) legal down = absurd (cc down)
down-idle farm (Session e ∷ log) legal down = absurd (cc down)
down-idle farm (Asked n k ∷ log) legal down = absurd (cc (down, legal.0.1.0))
down-idle farm (Begun v inv ∷ log) legal down = absurd (cc (down, legal.0.1.0))
down-idle farm (Hit k ∷ log) legal down = down-idle farm log legal.1 down
down-idle farm (Landed n k a Kept ∷ log) legal down = absurd (air-idle log n k (down-idle farm log legal.1 down) legal.0.1.0)
down-idle farm (Landed n k a Unkept ∷ log) legal down = absurd (air-idle log n k (down-idle farm log legal.1 down) legal.0.1.0)
down-idle farm (Landed n k a Passed ∷ log) legal down = absurd (air-idle log n k (down-idle farm log legal.1 down) legal.0.1.0)
down-idle farm (Lost n ∷ log) legal down = absurd (air-idle log n legal.0.1.0 (down-idle farm log legal.1 down) legal.0.1.1)
down-idle farm (Sliced v ∷ log) legal down = down-idle farm log legal.1 down
down-idle farm (Ended v Done ∷ log) legal down = absurd ((down-idle farm log legal.1 down).1 v legal.0.1.0.0 legal.0.1.0.1)
down-idle farm (Ended v Failed ∷ log) legal down = absurd ((down-idle farm log legal.1 down).1 v legal.0.1.0.0.0 legal.0.1.0.0.1)

-- ---- epochs

pub above-has : (epoch : ℕ) (log : List LogEntry) → IsAboveAll epoch log → (other : ℕ) → HasEpoch log other → other < epoch
above-has epoch [] all other (inl has) = absurd (none-within has)
above-has epoch [] all other (inr has) = absurd (none-within has)
above-has epoch (Up e ∷ log) all other (inl has) = ⊎_elim (λ (is : Up e ≡ Up other). let same : e ≡ other = cc is in omega (arith, same, all.0)) (λ there. above-has epoch log all.1 other (inl there)) (within (Up e) log (Up other) has)
above-has epoch (Up e ∷ log) all other (inr has) = ⊎_elim (λ (is : Up e ≡ Session other). absurd (cc is)) (λ there. above-has epoch log all.1 other (inr there)) (within (Up e) log (Session other) has)
above-has epoch (Session e ∷ log) all other (inl has) = ⊎_elim (λ (is : Session e ≡ Up other). absurd (cc is)) (λ there. above-has epoch log all.1 other (inl there)) (within (Session e) log (Up other) has)
above-has epoch (Session e ∷ log) all other (inr has) = ⊎_elim (λ (is : Session e ≡ Session other). let same : e ≡ other = cc is in omega (arith, same, all.0)) (λ there. above-has epoch log all.1 other (inr there)) (within (Session e) log (Session other) has)
above-has epoch (e ∷ log) all other (inl has) = ⊎_elim (λ (is : e ≡ Up other). absurd (cc is)) (λ there. above-has epoch log all other (inl there)) (within e log (Up other) has)
above-has epoch (e ∷ log) all other (inr has) = ⊎_elim (λ (is : e ≡ Session other). absurd (cc is)) (λ there. above-has epoch log all other (inr there)) (within e log (Session other) has)

-- one entry fewer
rest-has : (e : LogEntry) (log : List LogEntry) (other : ℕ) → HasEpoch log other → HasEpoch (e ∷ log) other
rest-has e log other (inl has) = inl (rest-within e log (Up other) has)
rest-has e log other (inr has) = inr (rest-within e log (Session other) has)

pub has-above : (epoch : ℕ) (log : List LogEntry) → ((other : ℕ) → HasEpoch log other → other < epoch) → IsAboveAll epoch log
has-above epoch [] each = tt
has-above epoch (Up e ∷ log) each = (each e (inl (contains_first (Up e) log)), has-above epoch log (λ other has. each other (rest-has (Up e) log other has)))
has-above epoch (Session e ∷ log) each = (each e (inr (contains_first (Session e) log)), has-above epoch log (λ other has. each other (rest-has (Session e) log other has)))
has-above epoch (e ∷ log) each = has-above epoch log (λ other has. each other (rest-has e log other has))

pub above-more : (e f : ℕ) (log : List LogEntry) → e ≤ f → IsAboveAll e log → IsAboveAll f log
above-more e f log le all = has-above f log (λ other has. let below : other < e = above-has e log all other has in omega (arith, below, le))

pub last-most : (farm : Farm) (log : List LogEntry) (other : ℕ) → IsLegal farm log → HasEpoch log other → other ≤ last_epoch log
last-most farm [] other legal (inl has) = absurd (none-within has)
last-most farm [] other legal (inr has) = absurd (none-within has)
last-most farm (Up e ∷ log) other legal (inl has) = ⊎_elim (λ (is : Up e ≡ Up other). let same : e ≡ other = cc is in omega (arith, same)) (λ there. omega (arith, above-has e log legal.0.1.2 other (inl there))) (within (Up e) log (Up other) has)
last-most farm (Up e ∷ log) other legal (inr has) = ⊎_elim (λ (is : Up e ≡ Session other). absurd (cc is)) (λ there. omega (arith, above-has e log legal.0.1.2 other (inr there))) (within (Up e) log (Session other) has)
last-most farm (Session e ∷ log) other legal (inl has) = ⊎_elim (λ (is : Session e ≡ Up other). absurd (cc is)) (λ there. omega (arith, above-has e log legal.0.1.1 other (inl there))) (within (Session e) log (Up other) has)
last-most farm (Session e ∷ log) other legal (inr has) = ⊎_elim (λ (is : Session e ≡ Session other). let same : e ≡ other = cc is in omega (arith, same)) (λ there. omega (arith, above-has e log legal.0.1.1 other (inr there))) (within (Session e) log (Session other) has)
last-most farm (e ∷ log) other legal (inl has) = ⊎_elim (λ (is : e ≡ Up other). absurd (cc is)) (λ there. last-most farm log other legal.1 (inl there)) (within e log (Up other) has)
last-most farm (e ∷ log) other legal (inr has) = ⊎_elim (λ (is : e ≡ Session other). absurd (cc is)) (λ there. last-most farm log other legal.1 (inr there)) (within e log (Session other) has)
