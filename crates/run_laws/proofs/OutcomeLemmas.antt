-- Which request a flight in the air is for, and what was rendered for it.
use Rattle.std.proofs.Common.{◌≡◌, ◌≢◌, ℕ, ◌+◌, ◌<◌, ◌≤◌, ◌++◌, Bool, true, false, List, [], ◌∷◌, Some, None, length, map, refl, ap, sym, subst, ◌∙◌, arith, inl, inr, ⊎_elim, append_assoc, length-append}
use Rattle.std.specs.Prelude.{nat_eq, if◌then◌else◌}
use Rattle.std.specs.Option.{option_map}
use Rattle.std.proofs.lemmas.Bool.{cases_eq, ne_eqb}
use Rattle.sp_base.specs.declared.answer.Answer.{Answer}
use Rattle.sp_base.specs.Requests.{Request}
use Rattle.sp_base.proofs.OptionLemmas.{option_map-some}
use Rattle.connections.specs.declared.awaited.Awaited.TheVariants.{Flight, Flush}
use Rattle.connections.specs.Slots.{Awaits, Cached, Fixed, Interim, Response, Says, local_response}
use Rattle.run_events.specs.declared.flying.Flying.{Flying}
use Rattle.run_events.specs.States.{AirRises}
use Rattle.run_events.specs.Moves.{flying_at, new_flight, with_rendered, with_rendered_at, air_without}
use Rattle.run_laws.specs.Owned.{ByFlight, ByFlush, ByHit, ByStatus, FlushEnding, HasFlushEnding, IsOfFlight, IsOfFlush, IsOfRequest, Outcomes, Treating, WasLost, WasRendered}
use Rattle.run_laws.specs.Renders.{Rendering}
use Rattle.run_laws.proofs.NumberedLemmas.{at-number}
use Rattle.run_laws.proofs.SoundLemmas.{flight_number}

-- ---- the flight with a number
at-first : (n : ℕ) (f : Flying) (flights : List Flying) → nat_eq f.number n ≡ true → flying_at n (f ∷ flights) ≡ Some f
at-first n f flights here = rw here refl

at-later : (n : ℕ) (f : Flying) (flights : List Flying) → nat_eq f.number n ≡ false → flying_at n (f ∷ flights) ≡ flying_at n flights
at-later n f flights other = rw other refl

number-rendered : (m : ℕ) (answer : Answer) (f : Flying) → (with_rendered_at m answer f).number ≡ f.number
number-rendered m answer f = by_test (nat_eq f.number m)
  where
    by_test : (b : Bool) → (if b then with_rendered answer f else f).number ≡ f.number
    by_test true = refl
    by_test false = refl

at-push : (n : ℕ) (flights : List Flying) (g : Flying) → nat_eq g.number n ≡ false → flying_at n (flights ++ g ∷ []) ≡ flying_at n flights
at-push n [] g other = rw other refl
at-push n (f ∷ flights) g other = by_test (nat_eq f.number n) refl (at-push n flights g other)
  where
    by_test : (b : Bool) → nat_eq f.number n ≡ b → flying_at n (flights ++ g ∷ []) ≡ flying_at n flights → flying_at n ((f ∷ flights) ++ g ∷ []) ≡ flying_at n (f ∷ flights)
    by_test true e rest = rw e refl
    by_test false e rest = rw e rest

at-new : (n : ℕ) (flights : List Flying) (g : Flying) → flying_at n flights ≡ None → nat_eq g.number n ≡ true → flying_at n (flights ++ g ∷ []) ≡ Some g
at-new n [] g none is = rw is refl
at-new n (f ∷ flights) g none is = by_test (nat_eq f.number n) refl (at-new n flights g)
  where
    by_test : (b : Bool) → nat_eq f.number n ≡ b → (flying_at n flights ≡ None → nat_eq g.number n ≡ true → flying_at n (flights ++ g ∷ []) ≡ Some g) → flying_at n ((f ∷ flights) ++ g ∷ []) ≡ Some g
    by_test true e rest = absurd (let some : Some f ≡ None = rw e at none in let no : ⊥ = cc in no)
    by_test false e rest =
        let left : flying_at n flights ≡ None = rw e at none in
        rw e (rest left is)

rising-most : (least : ℕ) (flights : List Flying) (most : ℕ) → AirRises least flights most → least ≤ most
rising-most least [] most rising = rising
rising-most least (g ∷ flights) most rising = omega (arith, rising.0, rising-most g.number flights most rising.1)

at-none : (n least : ℕ) (flights : List Flying) (most : ℕ) → AirRises least flights most → most < n → flying_at n flights ≡ None
at-none n least [] most rising above = refl
at-none n least (f ∷ flights) most rising above =
    let under : f.number ≤ most = rising-most f.number flights most rising.1 in
    let no : nat_eq f.number n ≡ false = grind (arith, under, above) in
    let rest = at-none n f.number flights most rising.1 above in
    rw no rest

-- as many were asked as its number says, or more
pub at-within : (n least : ℕ) (flights : List Flying) (most : ℕ) (f : Flying) → AirRises least flights most → flying_at n flights ≡ Some f → n ≤ most
at-within n least [] most f rising there = absurd (let no : ⊥ = cc in no)
at-within n least (g ∷ flights) most f rising there = by_test (nat_eq g.number n) refl (at-within n g.number flights most f rising.1)
  where
    by_test : (b : Bool) → nat_eq g.number n ≡ b → (flying_at n flights ≡ Some f → n ≤ most) → n ≤ most
    by_test true e rest =
        let same : g.number ≡ n = grind (arith, e) in
        omega (arith, same, rising-most g.number flights most rising.1)
    by_test false e rest = rest (rw e at there)

at-air_without-other : (n m : ℕ) (flights : List Flying) → n ≢ m → flying_at n (air_without m flights) ≡ flying_at n flights
at-air_without-other n m [] apart = refl
at-air_without-other n m (g ∷ flights) apart = by_test (nat_eq g.number m) (nat_eq g.number n) refl refl (at-air_without-other n m flights apart)
  where
    by_test : (p q : Bool) → nat_eq g.number m ≡ p → nat_eq g.number n ≡ q → flying_at n (air_without m flights) ≡ flying_at n flights → flying_at n (air_without m (g ∷ flights)) ≡ flying_at n (g ∷ flights)
    by_test true true is there rest =
        let one : g.number ≡ m = grind (arith, is) in
        let two : g.number ≡ n = grind (arith, there) in
        absurd (apart (sym two ∙ one))
    by_test true false is there rest = rw (is, there) rest
    by_test false true is there rest = rw (is, there) refl
    by_test false false is there rest = rw (is, there) rest

at-air_without-same : (n : ℕ) (flights : List Flying) → flying_at n (air_without n flights) ≡ None
at-air_without-same n [] = refl
at-air_without-same n (g ∷ flights) = by_test (nat_eq g.number n) refl (at-air_without-same n flights)
  where
    by_test : (b : Bool) → nat_eq g.number n ≡ b → flying_at n (air_without n flights) ≡ None → flying_at n (air_without n (g ∷ flights)) ≡ None
    by_test true e rest =
        let left : air_without n (g ∷ flights) ≡ air_without n flights = rw e refl in
        ap (flying_at n) left ∙ rest
    by_test false e rest =
        let left : air_without n (g ∷ flights) ≡ g ∷ air_without n flights = rw e refl in
        let past : flying_at n (g ∷ air_without n flights) ≡ flying_at n (air_without n flights) = rw e refl in
        ap (flying_at n) left ∙ past ∙ rest

at-air_without : (n m : ℕ) (flights : List Flying) (f : Flying) → flying_at n (air_without m flights) ≡ Some f → flying_at n flights ≡ Some f
at-air_without n m flights f there = ⊎_elim same apart (cases_eq n m)
  where
    same : n ≡ m → flying_at n flights ≡ Some f
    same e =
        let none : flying_at n (air_without m flights) ≡ None = subst (λ k. flying_at n (air_without k flights) ≡ None) e (at-air_without-same n flights) in
        absurd (let no : ⊥ = cc in no)

    apart : n ≢ m → flying_at n flights ≡ Some f
    apart other = sym (at-air_without-other n m flights other) ∙ there

at-rendered : (n m : ℕ) (answer : Answer) (flights : List Flying) → flying_at n (map (with_rendered_at m answer) flights) ≡ option_map (with_rendered_at m answer) (flying_at n flights)
at-rendered n m answer [] = refl
at-rendered n m answer (g ∷ flights) = by_test (nat_eq g.number n) refl (at-rendered n m answer flights)
  where
    h : Flying
    h = with_rendered_at m answer g

    number : nat_eq h.number n ≡ nat_eq g.number n
    number = ap (λ k. nat_eq k n) (number-rendered m answer g)

    by_test : (b : Bool) → nat_eq g.number n ≡ b → flying_at n (map (with_rendered_at m answer) flights) ≡ option_map (with_rendered_at m answer) (flying_at n flights)
        → flying_at n (h ∷ map (with_rendered_at m answer) flights) ≡ option_map (with_rendered_at m answer) (flying_at n (g ∷ flights))
    by_test true e rest =
        let first : flying_at n (h ∷ map (with_rendered_at m answer) flights) ≡ Some h = at-first n h (map (with_rendered_at m answer) flights) (number ∙ e) in
        first ∙ ap (option_map (with_rendered_at m answer)) (sym (at-first n g flights e))
    by_test false e rest =
        let past : flying_at n (h ∷ map (with_rendered_at m answer) flights) ≡ flying_at n (map (with_rendered_at m answer) flights) = at-later n h (map (with_rendered_at m answer) flights) (number ∙ e) in
        past ∙ rest ∙ ap (option_map (with_rendered_at m answer)) (sym (at-later n g flights e))

pub number-at : (n : ℕ) (flights : List Flying) (f : Flying) → flying_at n flights ≡ Some f → f.number ≡ n
number-at n flights f there = at-number flight_number n flights f there

-- ---- the request that a flight is for
-- `most` flights were asked, the one with number `n` among them; and if it is in the air, it is for this request
pub record IsAskedFor (flights : List Flying) (most n : ℕ) (request : Request) : Type 0 where
  pub within : n ≤ most
  pub same : (f : Flying) → flying_at n flights ≡ Some f → f.request ≡ request

-- the flight with this number was asked, and is out of the air
pub record IsOver (flights : List Flying) (most n : ℕ) : Type 0 where
  pub within : n ≤ most
  pub out : flying_at n flights ≡ None

-- each flight in the air that is rendered has what was rendered for it, and each that was lost is out of the air
pub record Agrees (outcomes : Outcomes) (flights : List Flying) (most : ℕ) : Type 0 where
  pub rendered : (n : ℕ) (f : Flying) (answer : Answer) → flying_at n flights ≡ Some f → f.rendered ≡ Some answer → WasRendered outcomes.renders n f.request answer
  pub lost : (n : ℕ) → WasLost outcomes.losses n → IsOver flights most n

-- a flight in the air was not lost
pub flying-unlost : (outcomes : Outcomes) (flights : List Flying) (most n : ℕ) (f : Flying) → Agrees outcomes flights most → flying_at n flights ≡ Some f → WasLost outcomes.losses n → ⊥
flying-unlost outcomes flights most n f are there was =
    let out = (are.lost n was).out in
    let no : ⊥ = cc in
    no

pub later-rendered : (renders more : List Rendering) (n : ℕ) (request : Request) (answer : Answer) → WasRendered renders n request answer → WasRendered (renders ++ more) n request answer
later-rendered renders more n request answer was = record {
  before = was.before;
  later = was.later ++ more;
  out_of_memory = was.out_of_memory;
  is = ap (λ xs. xs ++ more) was.is ∙ append_assoc was.before (record { number = n; request = request; answer = answer; out_of_memory = was.out_of_memory } ∷ was.later) more;
}

pub later-lost : (losses more : List ℕ) (n : ℕ) → WasLost losses n → WasLost (losses ++ more) n
later-lost losses more n was = record { before = was.before; later = was.later ++ more; is = ap (λ xs. xs ++ more) was.is ∙ append_assoc was.before (n ∷ was.later) more }

pub none-lost : (n : ℕ) → WasLost [] n → ⊥
none-lost n was = omega (arith, ap length was.is, length-append was.before (n ∷ was.later))

-- what was lost but for the last
lost-before : (losses : List ℕ) (n k : ℕ) → n ≢ k → WasLost (losses ++ n ∷ []) k → WasLost losses k
lost-before losses n k apart was = by_before losses was.before was.is
  where
    by_before : (losses before : List ℕ) → losses ++ n ∷ [] ≡ before ++ k ∷ was.later → WasLost losses k
    by_before [] [] is = absurd (apart (let same : n ≡ k = cc in same))
    by_before [] (b ∷ before) is = absurd (omega (arith, ap length is, length-append before (k ∷ was.later)))
    by_before (x ∷ losses) [] is =
        let same : x ≡ k = cc in
        record { before = []; later = losses; is = ap (λ y. y ∷ losses) same }
    by_before (x ∷ losses) (b ∷ before) is =
        let tail : losses ++ n ∷ [] ≡ before ++ k ∷ was.later = cc in
        let rest = by_before losses before tail in
        record { before = x ∷ rest.before; later = rest.later; is = ap (λ ys. x ∷ ys) rest.is }

pub later-ended : (endings more : List FlushEnding) (v status : ℕ) → HasFlushEnding endings v status → HasFlushEnding (endings ++ more) v status
later-ended endings more v status was = record { before = was.before; later = was.later ++ more; is = ap (λ xs. xs ++ more) was.is ∙ append_assoc was.before (record { number = v; status = status } ∷ was.later) more }

-- what was rendered, lost or ended stays so
pub record AreMore (outcomes all : Outcomes) : Type 0 where
  pub rendered : (n : ℕ) (request : Request) (answer : Answer) → WasRendered outcomes.renders n request answer → WasRendered all.renders n request answer
  pub lost : (n : ℕ) → WasLost outcomes.losses n → WasLost all.losses n
  pub ended : (v status : ℕ) → HasFlushEnding outcomes.endings v status → HasFlushEnding all.endings v status

pub more-same : (outcomes : Outcomes) → AreMore outcomes outcomes
more-same outcomes = record { rendered = λ n request answer was. was; lost = λ n was. was; ended = λ v status was. was }

abbrev pub with_renders : Outcomes → List Rendering → Outcomes
with_renders outcomes more = record { renders = outcomes.renders ++ more; losses = outcomes.losses; endings = outcomes.endings }

abbrev pub with_losses : Outcomes → List ℕ → Outcomes
with_losses outcomes more = record { renders = outcomes.renders; losses = outcomes.losses ++ more; endings = outcomes.endings }

abbrev pub with_endings : Outcomes → List FlushEnding → Outcomes
with_endings outcomes more = record { renders = outcomes.renders; losses = outcomes.losses; endings = outcomes.endings ++ more }

-- ---- what notes do to flights
-- what was asked for a request is so still, a flight that is out of the air stays so and isn't lost any more, and the outcomes agree
-- with the air
pub record Moved (flights : List Flying) (most : ℕ) (outcomes : Outcomes) (next : List Flying) (now : ℕ) (all : Outcomes) : Type 0 where
  pub asked : (n : ℕ) (request : Request) → IsAskedFor flights most n request → IsAskedFor next now n request
  pub grown : AreMore outcomes all
  pub over : (n : ℕ) → IsOver flights most n → IsOver next now n
  pub unlost : (n : ℕ) → IsOver flights most n → WasLost all.losses n → WasLost outcomes.losses n
  pub air_is : Agrees all next now

pub moved-same : (flights : List Flying) (most : ℕ) (outcomes : Outcomes) → Agrees outcomes flights most → Moved flights most outcomes flights most outcomes
moved-same flights most outcomes are = record { asked = λ n request is. is; grown = more-same outcomes; over = λ n is. is; unlost = λ n is was. was; air_is = are }

pub moved-then : (a b c : List Flying) (i j k : ℕ) (x y z : Outcomes) → Moved a i x b j y → Moved b j y c k z → Moved a i x c k z
moved-then a b c i j k x y z first next = record {
  asked = λ n request is. next.asked n request (first.asked n request is);
  grown = record { rendered = λ n request answer was. next.grown.rendered n request answer (first.grown.rendered n request answer was); lost = λ n was. next.grown.lost n (first.grown.lost n was); ended = λ v status was. next.grown.ended v status (first.grown.ended v status was) };
  over = λ n is. next.over n (first.over n is);
  unlost = λ n is was. first.unlost n is (next.unlost n (first.over n is) was);
  air_is = next.air_is;
}

-- flushes end
pub moved-ended : (flights : List Flying) (most : ℕ) (outcomes : Outcomes) (more : List FlushEnding) → Agrees outcomes flights most → Moved flights most outcomes flights most (with_endings outcomes more)
moved-ended flights most outcomes more are = record {
  asked = λ n request is. is;
  grown = record { rendered = λ n request answer was. was; lost = λ n was. was; ended = later-ended outcomes.endings more };
  over = λ n is. is;
  unlost = λ n is was. was;
  air_is = record { rendered = are.rendered; lost = are.lost };
}

pub moved-asked : (flights : List Flying) (most c : ℕ) (request : Request) (outcomes : Outcomes) → AirRises 0 flights most → Agrees outcomes flights most → Moved flights most outcomes (flights ++ new_flight (most + 1) c request ∷ []) (most + 1) outcomes
moved-asked flights most c request outcomes rising are = record {
  asked = λ n other is. record {
    within = omega (arith, is.within);
    same = λ f there.
        let below = is.within in
        let no : nat_eq (most + 1) n ≡ false = grind (arith, below) in
        is.same f (sym (at-push n flights (new_flight (most + 1) c request) no) ∙ there);
  };
  grown = more-same outcomes;
  over = still;
  unlost = λ n is was. was;
  air_is = record { rendered = λ n f answer there has. ⊎_elim (fresh n f answer there has) (old n f answer there has) (cases_eq (most + 1) n); lost = λ n was. still n (are.lost n was) };
}
  where
    still : (n : ℕ) → IsOver flights most n → IsOver (flights ++ new_flight (most + 1) c request ∷ []) (most + 1) n
    still n is =
        let below = is.within in
        let no : nat_eq (most + 1) n ≡ false = grind (arith, below) in
        record { within = omega (arith, below); out = at-push n flights (new_flight (most + 1) c request) no ∙ is.out }

    old : (n : ℕ) (f : Flying) (answer : Answer) → flying_at n (flights ++ new_flight (most + 1) c request ∷ []) ≡ Some f → f.rendered ≡ Some answer → (most + 1) ≢ n → WasRendered outcomes.renders n f.request answer
    old n f answer there has apart = are.rendered n f answer (sym (at-push n flights (new_flight (most + 1) c request) (ne_eqb (most + 1) n apart)) ∙ there) has

    fresh : (n : ℕ) (f : Flying) (answer : Answer) → flying_at n (flights ++ new_flight (most + 1) c request ∷ []) ≡ Some f → f.rendered ≡ Some answer → (most + 1) ≡ n → WasRendered outcomes.renders n f.request answer
    fresh n f answer there has same =
        let none : flying_at n flights ≡ None = subst (λ k. flying_at k flights ≡ None) same (at-none (most + 1) 0 flights most rising (omega arith)) in
        let is : nat_eq (most + 1) n ≡ true = grind (arith, same) in
        let new : Some (new_flight (most + 1) c request) ≡ Some f = sym (at-new n flights (new_flight (most + 1) c request) none is) ∙ there in
        let eq : new_flight (most + 1) c request ≡ f = cc in
        let waits : None ≡ Some answer = ap (λ (g : Flying). g.rendered) eq ∙ has in
        absurd (let no : ⊥ = cc in no)

-- the flight that was just asked is for its request
pub asked-new : (flights : List Flying) (most c : ℕ) (request : Request) → AirRises 0 flights most → IsAskedFor (flights ++ new_flight (most + 1) c request ∷ []) (most + 1) (most + 1) request
asked-new flights most c request rising = record {
  within = omega arith;
  same = λ f there.
      let is : nat_eq (most + 1) (most + 1) ≡ true = grind arith in
      let new : Some (new_flight (most + 1) c request) ≡ Some f = sym (at-new (most + 1) flights (new_flight (most + 1) c request) (at-none (most + 1) 0 flights most rising (omega arith)) is) ∙ there in
      let eq : new_flight (most + 1) c request ≡ f = cc in
      ap (λ (g : Flying). g.request) (sym eq);
}

over-air_without : (flights : List Flying) (most n k : ℕ) → IsOver flights most k → IsOver (air_without n flights) most k
over-air_without flights most n k is = record { within = is.within; out = ⊎_elim (λ same. subst (λ i. flying_at i (air_without n flights) ≡ None) same (at-air_without-same n flights)) (λ apart. at-air_without-other k n flights (λ e. apart (sym e)) ∙ is.out) (cases_eq n k) }

-- a flight that was asked is out of the air
pub over-now : (flights : List Flying) (most n : ℕ) → n ≤ most → IsOver (air_without n flights) most n
over-now flights most n within = record { within = within; out = at-air_without-same n flights }

-- a flight has landed
pub moved-over : (flights : List Flying) (most n : ℕ) (outcomes : Outcomes) → Agrees outcomes flights most → Moved flights most outcomes (air_without n flights) most outcomes
moved-over flights most n outcomes are = record {
  asked = λ k request is. record { within = is.within; same = λ f there. is.same f (at-air_without k n flights f there) };
  grown = more-same outcomes;
  over = over-air_without flights most n;
  unlost = λ k is was. was;
  air_is = record { rendered = λ k f answer there has. are.rendered k f answer (at-air_without k n flights f there) has; lost = λ k was. over-air_without flights most n k (are.lost k was) };
}

-- a flight is lost
pub moved-lost : (flights : List Flying) (most n : ℕ) (f : Flying) (outcomes : Outcomes) → flying_at n flights ≡ Some f → n ≤ most → Agrees outcomes flights most → Moved flights most outcomes (air_without n flights) most (with_losses outcomes (n ∷ []))
moved-lost flights most n f outcomes here within are = record {
  asked = λ k request is. record { within = is.within; same = λ g there. is.same g (at-air_without k n flights g there) };
  grown = record { rendered = λ k request answer was. was; lost = later-lost outcomes.losses (n ∷ []); ended = λ v status was. was };
  over = over-air_without flights most n;
  unlost = λ k is was. lost-before outcomes.losses n k (λ same. flies k is same) was;
  air_is = record {
    rendered = λ k g answer there has. are.rendered k g answer (at-air_without k n flights g there) has;
    lost = λ k was. ⊎_elim (λ same. subst (IsOver (air_without n flights) most) same (over-now flights most n within)) (λ apart. over-air_without flights most n k (are.lost k (lost-before outcomes.losses n k apart was))) (cases_eq n k);
  };
}
  where
    flies : (k : ℕ) → IsOver flights most k → n ≡ k → ⊥
    flies k is same =
        let there : flying_at k flights ≡ Some f = subst (λ i. flying_at i flights ≡ Some f) same here in
        let out = is.out in
        let never : ⊥ = cc in
        never

-- ---- a flight is rendered
request-rendered : (m : ℕ) (answer : Answer) (f : Flying) → (with_rendered_at m answer f).request ≡ f.request
request-rendered m answer f = by_test (nat_eq f.number m)
  where
    by_test : (b : Bool) → (if b then with_rendered answer f else f).request ≡ f.request
    by_test true = refl
    by_test false = refl

pub moved-rendered : (flights : List Flying) (most : ℕ) (g : Flying) (answer : Answer) (out_of_memory : Bool) (outcomes : Outcomes) → flying_at g.number flights ≡ Some g → Agrees outcomes flights most
    → Moved flights most outcomes (map (with_rendered_at g.number answer) flights) most (with_renders outcomes (record { number = g.number; request = g.request; answer = answer; out_of_memory = out_of_memory } ∷ []))
moved-rendered flights most g answer out_of_memory outcomes here are = record {
  asked = λ n request is. record {
    within = is.within;
    same = λ f there.
        let from = option_map-some (with_rendered_at g.number answer) (flying_at n flights) f (sym (at-rendered n g.number answer flights) ∙ there) in
        ap (λ (h : Flying). h.request) (sym from.2) ∙ request-rendered g.number answer from.0 ∙ is.same from.0 from.1;
  };
  grown = record { rendered = later-rendered outcomes.renders (rendering ∷ []); lost = λ n was. was; ended = λ v status was. was };
  over = still;
  unlost = λ n is was. was;
  air_is = record {
    rendered = λ n f other there has.
        let from = option_map-some (with_rendered_at g.number answer) (flying_at n flights) f (sym (at-rendered n g.number answer flights) ∙ there) in
        by_number n f other from.0 from.1 from.2 has (nat_eq from.0.number g.number) refl;
    lost = λ n was. still n (are.lost n was);
  };
}
  where
    still : (n : ℕ) → IsOver flights most n → IsOver (map (with_rendered_at g.number answer) flights) most n
    still n is = record { within = is.within; out = at-rendered n g.number answer flights ∙ ap (option_map (with_rendered_at g.number answer)) is.out }

    rendering : Rendering
    rendering = record { number = g.number; request = g.request; answer = answer; out_of_memory = out_of_memory }

    by_number : (n : ℕ) (f : Flying) (other : Answer) (h : Flying) → flying_at n flights ≡ Some h → with_rendered_at g.number answer h ≡ f → f.rendered ≡ Some other → (b : Bool) → nat_eq h.number g.number ≡ b → WasRendered (outcomes.renders ++ rendering ∷ []) n f.request other
    by_number n f other h there is has true same =
        let number : n ≡ g.number = sym (number-at n flights h there) ∙ (let e : h.number ≡ g.number = grind (arith, same) in e) in
        let found : flying_at n flights ≡ Some g = subst (λ k. flying_at k flights ≡ Some g) (sym number) here in
        let eq : h ≡ g = let both : Some h ≡ Some g = sym there ∙ found in cc in
        let made : with_rendered answer h ≡ f = rw same at is in
        let gives : Some answer ≡ Some other = ap (λ (x : Flying). x.rendered) made ∙ has in
        let given : answer ≡ other = cc in
        let request : f.request ≡ g.request = ap (λ (x : Flying). x.request) (sym made) ∙ ap (λ (x : Flying). x.request) eq in
        rw (number, request, sym given) (record { before = outcomes.renders; later = []; out_of_memory = out_of_memory; is = refl })
    by_number n f other h there is has false apart =
        let made : h ≡ f = rw apart at is in
        let old : WasRendered outcomes.renders n h.request other = are.rendered n h other there (ap (λ (x : Flying). x.rendered) made ∙ has) in
        later-rendered outcomes.renders (rendering ∷ []) n f.request other (subst (λ (x : Flying). WasRendered outcomes.renders n x.request other) made old)

-- ---- what answers a request, of the flights in the air
abbrev pub IsOfAir : List Flying → ℕ → Outcomes → Treating → Request → Response → Type 0
IsOfAir flights most outcomes (ByStatus status) request response = response ≡ local_response status
IsOfAir flights most outcomes (ByHit farm log key) request response = response ≡ Cached farm log key
IsOfAir flights most outcomes (ByFlush v) request response = IsOfFlush outcomes v response
IsOfAir flights most outcomes (ByFlight n) request (Awaits (Flight m)) = (m ≡ n) × IsAskedFor flights most n request
IsOfAir flights most outcomes (ByFlight n) request (Says answer) = IsOfFlight outcomes n request (Says answer) × IsOver flights most n
IsOfAir flights most outcomes (ByFlight n) request _ = ⊥

pub of-request : (flights : List Flying) (most : ℕ) (outcomes : Outcomes) (treating : Treating) (request : Request) (response : Response) → IsOfAir flights most outcomes treating request response → IsOfRequest outcomes treating request response
of-request flights most outcomes (ByStatus status) request response is = is
of-request flights most outcomes (ByHit farm log key) request response is = is
of-request flights most outcomes (ByFlush v) request response is = is
of-request flights most outcomes (ByFlight n) request Interim is = absurd is
of-request flights most outcomes (ByFlight n) request Fixed is = absurd is
of-request flights most outcomes (ByFlight n) request (Awaits (Flight m)) is = is.0
of-request flights most outcomes (ByFlight n) request (Awaits (Flush v)) is = absurd is
of-request flights most outcomes (ByFlight n) request (Says answer) is = is.0
of-request flights most outcomes (ByFlight n) request (Cached farm log key) is = absurd is

later-said : (outcomes all : Outcomes) (n : ℕ) (request : Request) (answer : Answer) → AreMore outcomes all → (WasLost all.losses n → WasLost outcomes.losses n) → IsOfFlight outcomes n request (Says answer) → IsOfFlight all n request (Says answer)
later-said outcomes all n request answer more unlost (inl was) = inl (more.rendered n request answer was.0, λ lost. was.1 (unlost lost))
later-said outcomes all n request answer more unlost (inr lost) = inr (more.lost n lost.0, lost.1)

later-flushed : (outcomes all : Outcomes) (v : ℕ) (response : Response) → AreMore outcomes all → IsOfFlush outcomes v response → IsOfFlush all v response
later-flushed outcomes all v Interim more is = absurd is
later-flushed outcomes all v Fixed more is = absurd is
later-flushed outcomes all v (Awaits (Flight m)) more is = absurd is
later-flushed outcomes all v (Awaits (Flush u)) more is = is
later-flushed outcomes all v (Says answer) more is = (is.0, more.ended v is.0 is.1, is.2)
later-flushed outcomes all v (Cached farm log key) more is = absurd is

pub flights-moved : (flights : List Flying) (most : ℕ) (outcomes : Outcomes) (next : List Flying) (now : ℕ) (all : Outcomes) → Moved flights most outcomes next now all → (treating : Treating) (request : Request) (response : Response)
    → IsOfAir flights most outcomes treating request response → IsOfAir next now all treating request response
flights-moved flights most outcomes next now all moved (ByStatus status) request response is = is
flights-moved flights most outcomes next now all moved (ByHit farm log key) request response is = is
flights-moved flights most outcomes next now all moved (ByFlush v) request response is = later-flushed outcomes all v response moved.grown is
flights-moved flights most outcomes next now all moved (ByFlight n) request Interim is = absurd is
flights-moved flights most outcomes next now all moved (ByFlight n) request Fixed is = absurd is
flights-moved flights most outcomes next now all moved (ByFlight n) request (Awaits (Flight m)) is = (is.0, moved.asked n request is.1)
flights-moved flights most outcomes next now all moved (ByFlight n) request (Awaits (Flush v)) is = absurd is
flights-moved flights most outcomes next now all moved (ByFlight n) request (Says answer) is = (later-said outcomes all n request answer moved.grown (moved.unlost n is.1) is.0, moved.over n is.1)
flights-moved flights most outcomes next now all moved (ByFlight n) request (Cached farm log key) is = absurd is
