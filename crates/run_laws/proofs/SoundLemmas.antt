-- What is so in every run: its flights and flushes are those of the log of the cache, which is legal.
use Rattle.std.proofs.Common.{◌≡◌, ◌≢◌, ℕ, ◌+◌, ◌++◌, Bool, true, false, List, [], ◌∷◌, Option, Some, None, map, refl, sym, subst, ap, ◌∙◌, arith, inl, inr, ⊎_elim}
use Rattle.std.specs.Prelude.{nat_eq, if◌then◌else◌}
use Rattle.std.proofs.lemmas.Bool.{cases_eq}
use Rattle.sp_base.specs.declared.answer.Answer.{Answer}
use Rattle.any_config.specs.declared.farm.Farm.{Farm}
use Rattle.cover_rules.specs.declared.page.PageKey.{PageKey}
use Rattle.cover_rules.specs.declared.invalidation.Invalidation.{Invalidation}
use Rattle.dispatch_rules.specs.Caching.{cache_key}
use Rattle.cache_log.specs.Entries.{FlushOutcome, LogEntry, Asked, Begun, Sliced, Ended, flights_asked, flushes_begun}
use Rattle.cache_log.specs.Hits.{InAir, Unfinished}
use Rattle.cache_log.specs.Rules.{Allowed, CallConditions, IsIdle, IsLegal, IsOldest}
use Rattle.run_events.specs.declared.flying.Flying.{Flying}
use Rattle.run_events.specs.declared.flying.Flushing.{Flushing}
use Rattle.run_events.specs.Moves.{first_sliced, with_rendered_at}
use Rattle.run_laws.proofs.NumberedLemmas.{Rising, all_but, at-apart, at-bounds, at-here, but-other, but-same, first-least, numbered_at, push-none, push-some, rising-but, rising-push}

abbrev pub flight_number : Flying → ℕ
flight_number f = f.number

abbrev pub flush_number : Flushing → ℕ
flush_number f = f.number

-- the flush whose slice is due is the first
abbrev pub IsSlicing : Option ℕ → List Flushing → Type 0
IsSlicing None flushes = Unit {0}
IsSlicing (Some v) [] = ⊥
IsSlicing (Some v) (flush ∷ flushes) = flush.number ≡ v

pub record Sound (farm : Farm) (flights : List Flying) (flushes : List Flushing) (slicing : Option ℕ) (log : List LogEntry) : Type 0 where
  pub numbered : Rising flight_number 0 flights (flights_asked log)
  pub queued : Rising flush_number 0 flushes (flushes_begun log)
  pub first : IsSlicing slicing flushes
  pub legal : IsLegal farm log
  pub air : (n : ℕ) (key : Option PageKey) → InAir log n key → (f : Flying) × (numbered_at flight_number n flights ≡ Some f)
  pub flown : (n : ℕ) (f : Flying) → numbered_at flight_number n flights ≡ Some f → InAir log n (cache_key farm f.request)
  pub waiting : (v : ℕ) (inv : Invalidation) → Unfinished log v inv → (f : Flushing) × (numbered_at flush_number v flushes ≡ Some f)
  pub unfinished : (v : ℕ) (f : Flushing) → numbered_at flush_number v flushes ≡ Some f → (inv : Invalidation) × Unfinished log v inv

-- ---- flights
pub sound-asked : (farm : Farm) (under : CallConditions) (flights : List Flying) (flushes : List Flushing) (slicing : Option ℕ) (log : List LogEntry) (f : Flying)
    → f.number ≡ flights_asked log + 1 → Allowed farm under (Asked f.number (cache_key farm f.request)) log → Sound farm flights flushes slicing log → Sound farm (flights ++ f ∷ []) flushes slicing (Asked f.number (cache_key farm f.request) ∷ log)
sound-asked farm under flights flushes slicing log f next allowed sound = record {
  numbered = subst (λ most. Rising flight_number 0 (flights ++ f ∷ []) most) next (rising-push flight_number 0 flights (flights_asked log) f sound.numbered (omega (arith, next)));
  queued = sound.queued;
  first = sound.first;
  legal = ((under, allowed), sound.legal);
  air = air;
  flown = λ n g at. flown n g (numbered_at flight_number n flights) refl at;
  waiting = sound.waiting;
  unfinished = sound.unfinished;
}
  where
    key : Option PageKey
    key = cache_key farm f.request

    found : (n : ℕ) (g : Flying) → numbered_at flight_number n flights ≡ Some g → f.number ≢ n
    found n g at same = let under = at-bounds flight_number n 0 flights (flights_asked log) g sound.numbered at in omega (arith, under.1, next, same)

    here : (n : ℕ) → f.number ≡ n → (o : Option Flying) → numbered_at flight_number n flights ≡ o → (g : Flying) × (numbered_at flight_number n (flights ++ f ∷ []) ≡ Some g)
    here n same (Some g) at = (g, push-some flight_number n flights f g at)
    here n same None at = (f, push-none flight_number n flights f at ∙ subst (λ k. numbered_at flight_number k (f ∷ []) ≡ Some f) same (at-here flight_number f []))

    air : (n : ℕ) (k : Option PageKey) → InAir (Asked f.number key ∷ log) n k → (g : Flying) × (numbered_at flight_number n (flights ++ f ∷ []) ≡ Some g)
    air n k (inl is) = here n is.0 (numbered_at flight_number n flights) refl
    air n k (inr more) = let old = sound.air n k more.1 in (old.0, push-some flight_number n flights f old.0 old.1)

    flown : (n : ℕ) (g : Flying) (o : Option Flying) → numbered_at flight_number n flights ≡ o → numbered_at flight_number n (flights ++ f ∷ []) ≡ Some g → InAir (Asked f.number key ∷ log) n (cache_key farm g.request)
    flown n g (Some h) at now =
        let same : Some h ≡ Some g = sym (push-some flight_number n flights f h at) ∙ now in
        let is : h ≡ g = cc same in
        inr (found n h at, subst (λ (x : Flying). InAir log n (cache_key farm x.request)) is (sound.flown n h at))
    flown n g None at now = ⊎_elim
        (λ same.
        let one : Some f ≡ Some g = sym (subst (λ k. numbered_at flight_number k (f ∷ []) ≡ Some f) same (at-here flight_number f [])) ∙ sym (push-none flight_number n flights f at) ∙ now in
        let is : f ≡ g = cc one in
        inl (same, ap (λ (x : Flying). cache_key farm x.request) is))
        (λ apart. absurd (let none : None ≡ Some g = sym (at-apart flight_number n f [] apart) ∙ sym (push-none flight_number n flights f at) ∙ now in let no : ⊥ = cc in no))
        (cases_eq f.number n)

-- a flight is out of the air, by an entry that takes it out
pub sound-over : (farm : Farm) (under : CallConditions) (flights : List Flying) (flushes : List Flushing) (slicing : Option ℕ) (log : List LogEntry) (n : ℕ) (entry : LogEntry)
    → flights_asked (entry ∷ log) ≡ flights_asked log → flushes_begun (entry ∷ log) ≡ flushes_begun log
    → ((m : ℕ) (key : Option PageKey) → InAir (entry ∷ log) m key ≡ ((n ≢ m) × InAir log m key)) → ((v : ℕ) (inv : Invalidation) → Unfinished (entry ∷ log) v inv ≡ Unfinished log v inv)
    → Allowed farm under entry log → Sound farm flights flushes slicing log → Sound farm (all_but flight_number n flights) flushes slicing (entry ∷ log)
sound-over farm under flights flushes slicing log n entry asked begun takes leaves allowed sound = record {
  numbered = rw asked (rising-but flight_number n 0 flights (flights_asked log) sound.numbered);
  queued = rw begun sound.queued;
  first = sound.first;
  legal = ((under, allowed), sound.legal);
  air = air;
  flown = flown;
  waiting = λ v inv u. sound.waiting v inv (subst (λ T. T) (leaves v inv) u);
  unfinished = λ v f at. let old = sound.unfinished v f at in (old.0, subst (λ T. T) (sym (leaves v old.0)) old.1);
}
  where
    air : (m : ℕ) (k : Option PageKey) → InAir (entry ∷ log) m k → (g : Flying) × (numbered_at flight_number m (all_but flight_number n flights) ≡ Some g)
    air m k inair =
        let more : (n ≢ m) × InAir log m k = subst (λ T. T) (takes m k) inair in
        let old = sound.air m k more.1 in
        (old.0, but-other flight_number n m flights more.0 ∙ old.1)

    flown : (m : ℕ) (g : Flying) → numbered_at flight_number m (all_but flight_number n flights) ≡ Some g → InAir (entry ∷ log) m (cache_key farm g.request)
    flown m g at = ⊎_elim
        (λ same. absurd (let none : None ≡ Some g = sym (but-same flight_number n flights) ∙ subst (λ k. numbered_at flight_number k (all_but flight_number n flights) ≡ Some g) (sym same) at in let no : ⊥ = cc in no))
        (λ apart. subst (λ T. T) (sym (takes m (cache_key farm g.request))) (apart, sound.flown m g (sym (but-other flight_number n m flights apart) ∙ at)))
        (cases_eq n m)

-- a flight is rendered
pub rendered-rising : (n : ℕ) (answer : Answer) (least : ℕ) (flights : List Flying) (most : ℕ) → Rising flight_number least flights most → Rising flight_number least (map (with_rendered_at n answer) flights) most
rendered-rising n answer least [] most rising = rising
rendered-rising n answer least (f ∷ flights) most rising = by_test (nat_eq f.number n) (rendered-rising n answer f.number flights most rising.1)
  where
    by_test : (b : Bool) → Rising flight_number f.number (map (with_rendered_at n answer) flights) most → Rising flight_number least ((if b then record f { rendered = Some answer } else f) ∷ map (with_rendered_at n answer) flights) most
    by_test true rest = (rising.0, rest)
    by_test false rest = (rising.0, rest)

-- it is the same flight, as far as its number and its request go
record SameFlight (f g : Flying) : Type 0 where
  number : f.number ≡ g.number
  request : f.request ≡ g.request

one-rendered : (n : ℕ) (answer : Answer) (f : Flying) → SameFlight (with_rendered_at n answer f) f
one-rendered n answer f = by_test (nat_eq f.number n)
  where
    by_test : (b : Bool) → SameFlight (if b then record f { rendered = Some answer } else f) f
    by_test true = record { number = refl; request = refl }
    by_test false = record { number = refl; request = refl }

-- the flight with a number is the same before and after
rendered-at : (n : ℕ) (answer : Answer) (m : ℕ) (flights : List Flying) (f : Flying) → numbered_at flight_number m flights ≡ Some f → numbered_at flight_number m (map (with_rendered_at n answer) flights) ≡ Some (with_rendered_at n answer f)
rendered-at n answer m [] f at = absurd (cc at)
rendered-at n answer m (g ∷ flights) f at = ⊎_elim
    (λ same.
    let here : Some g ≡ Some f = sym (subst (λ k. numbered_at flight_number k (g ∷ flights) ≡ Some g) same (at-here flight_number g flights)) ∙ at in
    let is : g ≡ f = cc here in
    let number : (with_rendered_at n answer g).number ≡ m = (one-rendered n answer g).number ∙ same in
    subst (λ k. numbered_at flight_number k (map (with_rendered_at n answer) (g ∷ flights)) ≡ Some (with_rendered_at n answer g)) number (at-here flight_number (with_rendered_at n answer g) (map (with_rendered_at n answer) flights)) ∙ ap (λ x. Some (with_rendered_at n answer x)) is)
    (λ apart.
    let other : (with_rendered_at n answer g).number ≢ m = λ same. apart (sym (one-rendered n answer g).number ∙ same) in
    at-apart flight_number m (with_rendered_at n answer g) (map (with_rendered_at n answer) flights) other ∙ rendered-at n answer m flights f (sym (at-apart flight_number m g flights apart) ∙ at))
    (cases_eq g.number m)

rendered-back : (n : ℕ) (answer : Answer) (m : ℕ) (flights : List Flying) (g : Flying) → numbered_at flight_number m (map (with_rendered_at n answer) flights) ≡ Some g → (f : Flying) × (numbered_at flight_number m flights ≡ Some f) × (f.request ≡ g.request)
rendered-back n answer m flights g at = by_option (numbered_at flight_number m flights) refl
  where
    none : (xs : List Flying) → numbered_at flight_number m xs ≡ None → numbered_at flight_number m (map (with_rendered_at n answer) xs) ≡ None
    none [] e = refl
    none (x ∷ xs) e = ⊎_elim
        (λ same. absurd (let some : Some x ≡ None = sym (subst (λ k. numbered_at flight_number k (x ∷ xs) ≡ Some x) same (at-here flight_number x xs)) ∙ e in let no : ⊥ = cc in no))
        (λ apart. at-apart flight_number m (with_rendered_at n answer x) (map (with_rendered_at n answer) xs) (λ same. apart (sym (one-rendered n answer x).number ∙ same)) ∙ none xs (sym (at-apart flight_number m x xs apart) ∙ e))
        (cases_eq x.number m)

    by_option : (o : Option Flying) → numbered_at flight_number m flights ≡ o → (f : Flying) × (numbered_at flight_number m flights ≡ Some f) × (f.request ≡ g.request)
    by_option (Some f) is =
        let now : Some (with_rendered_at n answer f) ≡ Some g = sym (rendered-at n answer m flights f is) ∙ at in
        let same : with_rendered_at n answer f ≡ g = cc now in
        (f, is, sym (one-rendered n answer f).request ∙ ap (λ (x : Flying). x.request) same)
    by_option None is = absurd (let no : None ≡ Some g = sym (none flights is) ∙ at in let never : ⊥ = cc in never)

pub sound-rendered : (farm : Farm) (flights : List Flying) (flushes : List Flushing) (slicing : Option ℕ) (log : List LogEntry) (n : ℕ) (answer : Answer) → Sound farm flights flushes slicing log → Sound farm (map (with_rendered_at n answer) flights) flushes slicing log
sound-rendered farm flights flushes slicing log n answer sound = record {
  numbered = rendered-rising n answer 0 flights (flights_asked log) sound.numbered;
  queued = sound.queued;
  first = sound.first;
  legal = sound.legal;
  air = λ m k inair. let old = sound.air m k inair in (with_rendered_at n answer old.0, rendered-at n answer m flights old.0 old.1);
  flown = λ m g at. let old = rendered-back n answer m flights g at in subst (λ r. InAir log m (cache_key farm r)) old.2 (sound.flown m old.0 old.1);
  waiting = sound.waiting;
  unfinished = sound.unfinished;
}

-- ---- flushes
pub sound-begun : (farm : Farm) (under : CallConditions) (flights : List Flying) (flushes : List Flushing) (log : List LogEntry) (f : Flushing) (inv : Invalidation)
    → f.number ≡ flushes_begun log + 1 → Allowed farm under (Begun f.number inv) log → Sound farm flights flushes None log → Sound farm flights (flushes ++ f ∷ []) (first_sliced flushes f.number) (Begun f.number inv ∷ log)
sound-begun farm under flights flushes log f inv next allowed sound = record {
  numbered = sound.numbered;
  queued = subst (λ most. Rising flush_number 0 (flushes ++ f ∷ []) most) next (rising-push flush_number 0 flushes (flushes_begun log) f sound.queued (omega (arith, next)));
  first = first flushes;
  legal = ((under, allowed), sound.legal);
  air = sound.air;
  flown = sound.flown;
  waiting = waiting;
  unfinished = λ v g at. unfinished v g (numbered_at flush_number v flushes) refl at;
}
  where
    first : (flushes : List Flushing) → IsSlicing (first_sliced flushes f.number) (flushes ++ f ∷ [])
    first [] = refl
    first (g ∷ flushes) = tt

    here : (v : ℕ) → f.number ≡ v → (o : Option Flushing) → numbered_at flush_number v flushes ≡ o → (g : Flushing) × (numbered_at flush_number v (flushes ++ f ∷ []) ≡ Some g)
    here v same (Some g) at = (g, push-some flush_number v flushes f g at)
    here v same None at = (f, push-none flush_number v flushes f at ∙ subst (λ k. numbered_at flush_number k (f ∷ []) ≡ Some f) same (at-here flush_number f []))

    waiting : (v : ℕ) (i : Invalidation) → Unfinished (Begun f.number inv ∷ log) v i → (g : Flushing) × (numbered_at flush_number v (flushes ++ f ∷ []) ≡ Some g)
    waiting v i (inl is) = here v is.0 (numbered_at flush_number v flushes) refl
    waiting v i (inr more) = let old = sound.waiting v i more in (old.0, push-some flush_number v flushes f old.0 old.1)

    unfinished : (v : ℕ) (g : Flushing) (o : Option Flushing) → numbered_at flush_number v flushes ≡ o → numbered_at flush_number v (flushes ++ f ∷ []) ≡ Some g → (i : Invalidation) × Unfinished (Begun f.number inv ∷ log) v i
    unfinished v g (Some h) at now = let old = sound.unfinished v h at in (old.0, inr old.1)
    unfinished v g None at now = ⊎_elim
        (λ same. (inv, inl (same, refl)))
        (λ apart. absurd (let none : None ≡ Some g = sym (at-apart flush_number v f [] apart) ∙ sym (push-none flush_number v flushes f at) ∙ now in let no : ⊥ = cc in no))
        (cases_eq f.number v)

-- the first flush is the oldest that is unfinished
pub sound-oldest : (farm : Farm) (flights : List Flying) (flush : Flushing) (flushes : List Flushing) (slicing : Option ℕ) (log : List LogEntry) → Sound farm flights (flush ∷ flushes) slicing log → IsOldest log flush.number
sound-oldest farm flights flush flushes slicing log sound = (sound.unfinished flush.number flush (at-here flush_number flush flushes), λ v inv u. let there = sound.waiting v inv u in first-least flush_number v 0 flush flushes (flushes_begun log) there.0 sound.queued there.1)

pub sound-sliced : (farm : Farm) (under : CallConditions) (flights : List Flying) (flush : Flushing) (flushes : List Flushing) (slicing : Option ℕ) (log : List LogEntry) → Sound farm flights (flush ∷ flushes) slicing log → Sound farm flights (flush ∷ flushes) None (Sliced flush.number ∷ log)
sound-sliced farm under flights flush flushes slicing log sound = record {
  numbered = sound.numbered;
  queued = sound.queued;
  first = tt;
  legal = ((under, sound-oldest farm flights flush flushes slicing log sound), sound.legal);
  air = sound.air;
  flown = sound.flown;
  waiting = sound.waiting;
  unfinished = sound.unfinished;
}

-- a flush has ended
pub sound-ended : (farm : Farm) (under : CallConditions) (flights : List Flying) (flushes : List Flushing) (slicing : Option ℕ) (log : List LogEntry) (v : ℕ) (outcome : FlushOutcome) → Allowed farm under (Ended v outcome) log → Sound farm flights flushes slicing log
    → Sound farm flights (all_but flush_number v flushes) None (Ended v outcome ∷ log)
sound-ended farm under flights flushes slicing log v outcome allowed sound = record {
  numbered = sound.numbered;
  queued = rising-but flush_number v 0 flushes (flushes_begun log) sound.queued;
  first = tt;
  legal = ((under, allowed), sound.legal);
  air = sound.air;
  flown = sound.flown;
  waiting = λ u inv left. let old = sound.waiting u inv left.1 in (old.0, but-other flush_number v u flushes left.0 ∙ old.1);
  unfinished = unfinished;
}
  where
    unfinished : (u : ℕ) (g : Flushing) → numbered_at flush_number u (all_but flush_number v flushes) ≡ Some g → (inv : Invalidation) × Unfinished (Ended v outcome ∷ log) u inv
    unfinished u g at = ⊎_elim
        (λ same. absurd (let none : None ≡ Some g = sym (but-same flush_number v flushes) ∙ subst (λ k. numbered_at flush_number k (all_but flush_number v flushes) ≡ Some g) (sym same) at in let no : ⊥ = cc in no))
        (λ apart. let old = sound.unfinished u g (sym (but-other flush_number v u flushes apart) ∙ at) in (old.0, (apart, old.1)))
        (cases_eq v u)

-- ---- what takes nothing out and brings nothing in
pub sound-entry : (farm : Farm) (under : CallConditions) (flights : List Flying) (flushes : List Flushing) (slicing : Option ℕ) (log : List LogEntry) (entry : LogEntry)
    → flights_asked (entry ∷ log) ≡ flights_asked log → flushes_begun (entry ∷ log) ≡ flushes_begun log
    → ((m : ℕ) (key : Option PageKey) → InAir (entry ∷ log) m key ≡ InAir log m key) → ((v : ℕ) (inv : Invalidation) → Unfinished (entry ∷ log) v inv ≡ Unfinished log v inv)
    → Allowed farm under entry log → Sound farm flights flushes slicing log → Sound farm flights flushes slicing (entry ∷ log)
sound-entry farm under flights flushes slicing log entry asked begun flies leaves allowed sound = record {
  numbered = rw asked sound.numbered;
  queued = rw begun sound.queued;
  first = sound.first;
  legal = ((under, allowed), sound.legal);
  air = λ m k inair. sound.air m k (subst (λ T. T) (flies m k) inair);
  flown = λ m g at. subst (λ T. T) (sym (flies m (cache_key farm g.request))) (sound.flown m g at);
  waiting = λ v inv u. sound.waiting v inv (subst (λ T. T) (leaves v inv) u);
  unfinished = λ v f at. let old = sound.unfinished v f at in (old.0, subst (λ T. T) (sym (leaves v old.0)) old.1);
}

-- ---- what is idle
pub sound-idle : (farm : Farm) (slicing : Option ℕ) (log : List LogEntry) → Sound farm [] [] slicing log → IsIdle log
sound-idle farm slicing log sound = (λ n k inair. cc (sound.air n k inair).1, λ v inv u. cc (sound.waiting v inv u).1)

pub sound-begins : (farm : Farm) (log : List LogEntry) → IsLegal farm log → IsIdle log → Sound farm [] [] None log
sound-begins farm log legal idle = record {
  numbered = omega arith;
  queued = omega arith;
  first = tt;
  legal = legal;
  air = λ n k inair. absurd (idle.0 n k inair);
  flown = λ n f at. absurd (cc at);
  waiting = λ v inv u. absurd (idle.1 v inv u);
  unfinished = λ v f at. absurd (cc at);
}
