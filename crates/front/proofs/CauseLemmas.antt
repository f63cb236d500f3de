-- What notes show of what they ran under.
use Rattle.std.proofs.Common.{ℕ, ◌+◌, ◌-◌, ◌<◌, ◌≤◌, ◌++◌, ◌||◌, Bool, true, false, List, [], ◌∷◌, refl, sym, subst, ◌∙◌, arith, ◌⊎◌, inl, inr}
use Rattle.std.proofs.lemmas.Bool.{or_left, or_right}
use Rattle.std.specs.Prelude.{IsTrue}
use Rattle.sp_base.specs.Limits.{greatest_u64}
use Rattle.sp_outside.specs.Causes.{Rose, next, IsDiskFailure}
use Rattle.run_events.specs.declared.conditions.Conditions.{Conditions}
use Rattle.run_events.specs.declared.note.Note.{Note}
use Rattle.run_events.specs.Causes.{ShowsOutOfMemory, SomeShowsOutOfMemory, SpoilAtMost, Spoils}
use Rattle.run_events.specs.Moves.{state_after_note, state_after_notes}
use Rattle.run_events.specs.States.{RunState}
use Rattle.front.specs.Boards.{HaveCause}
use Rattle.front.specs.Caches.{Allows, HasNoteCause, under_both, under_nothing}

-- ---- counts of faults
next-rises : (n : ℕ) → n ≤ greatest_u64 → n ≤ next n
next-rises n l = omega (arith, l)

rose-left : (a b c : ℕ) → Rose a b → b ≤ c → Rose a c
rose-left a b c r l = (omega (arith, r.0, l), omega (arith, r.1, l))

rose-right : (a b c : ℕ) → a ≤ b → Rose b c → Rose a c
rose-right a b c l r = (omega (arith, l, r.0), omega (arith, l, r.1))

-- the disk failed in the one call or in the next
pub fails-both : (a b c : ℕ) (x y : Bool) → IsDiskFailure a b x → IsDiskFailure b c y → IsDiskFailure a c (x || y)
fails-both a b c true true f g = rose-left a b c f g.0
fails-both a b c true false f g = subst (λ n. Rose a n) (sym g) f
fails-both a b c false true f g = subst (λ n. Rose n c) f g
fails-both a b c false false f g = g ∙ f

pub count-rises : (a b : ℕ) (x : Bool) → IsDiskFailure a b x → a ≤ b
count-rises a b true f = f.0
count-rises a b false f = omega (arith, f)

pub no-failure : (a : ℕ) → IsDiskFailure a a false
no-failure a = refl

-- ---- what is spoilt
spoil-more : (n m : ℕ) (w : RunState) (notes : List Note) → n ≤ m → SpoilAtMost n w notes → SpoilAtMost m w notes
spoil-more n m w [] l s = tt
spoil-more n m w (note ∷ notes) l (inl s) = inl (s.0, spoil-more n m (state_after_note w note) notes l s.1)
spoil-more n m w (note ∷ notes) l (inr s) = inr (m - 1, omega (arith, l, s.1), spoil-more s.0 (m - 1) (state_after_note w note) notes (omega (arith, l, s.1)) s.2)

spoil-push : (n : ℕ) (w : RunState) (notes : List Note) (note : Note) → SpoilAtMost n w notes → (Spoils (state_after_notes w notes) note → ⊥) → SpoilAtMost n w (notes ++ note ∷ [])
spoil-push n w [] note s never = inl (never, tt)
spoil-push n w (m ∷ notes) note (inl s) never = inl (s.0, spoil-push n (state_after_note w m) notes note s.1 never)
spoil-push n w (m ∷ notes) note (inr s) never = inr (s.0, s.1, spoil-push s.0 (state_after_note w m) notes note s.2 never)

spoil-push-one : (n : ℕ) (w : RunState) (notes : List Note) (note : Note) → SpoilAtMost n w notes → SpoilAtMost (n + 1) w (notes ++ note ∷ [])
spoil-push-one n w [] note s = inr (n, refl, tt)
spoil-push-one n w (m ∷ notes) note (inl s) = inl (s.0, spoil-push-one n (state_after_note w m) notes note s.1)
spoil-push-one n w (m ∷ notes) note (inr s) = inr (n, refl, subst (λ k. SpoilAtMost k (state_after_note w m) (notes ++ note ∷ [])) (sym s.1) (spoil-push-one s.0 (state_after_note w m) notes note s.2))

-- one note more, in whose call the disk failed if it spoils something
pub spoils-push : (a b c : ℕ) (x : Bool) (w : RunState) (notes : List Note) (note : Note) → (b < greatest_u64 → SpoilAtMost (b - a) w notes) → a ≤ b → IsDiskFailure b c x → (Spoils (state_after_notes w notes) note → IsTrue x)
    → c < greatest_u64 → SpoilAtMost (c - a) w (notes ++ note ∷ [])
spoils-push a b c true w notes note s l f only few = spoil-more (b - a + 1) (c - a) w (notes ++ note ∷ []) (omega (arith, l, f.0, f.1, few)) (spoil-push-one (b - a) w notes note (s (omega (arith, f.0, few))))
spoils-push a b c false w notes note s l f only few =
    subst (λ n. SpoilAtMost (n - a) w (notes ++ note ∷ [])) (sym f) (spoil-push (b - a) w notes note (s (omega (arith, f, few))) (λ is. let wrong : IsTrue false = only is in let no : ⊥ = cc in no))

-- a first note, in whose call the disk failed if it spoils something
pub spoils-first : (a b c : ℕ) (x : Bool) (w : RunState) (first : Note) (notes : List Note) → IsDiskFailure a b x → (Spoils w first → IsTrue x) → b ≤ c → (c < greatest_u64 → SpoilAtMost (c - b) (state_after_note w first) notes)
    → c < greatest_u64 → SpoilAtMost (c - a) w (first ∷ notes)
spoils-first a b c true w first notes f only l s few = inr (c - a - 1, omega (arith, f.0, f.1, l, few), spoil-more (c - b) (c - a - 1) (state_after_note w first) notes (omega (arith, f.0, f.1, l, few)) (s few))
spoils-first a b c false w first notes f only l s few = inl (λ is. let wrong : IsTrue false = only is in let no : ⊥ = cc in no, subst (λ n. SpoilAtMost (c - n) (state_after_note w first) notes) f (s few))

-- ---- what shows that memory ran out
pub shows-push : (w : RunState) (notes : List Note) (note : Note) → SomeShowsOutOfMemory w notes ⊎ ShowsOutOfMemory (state_after_notes w notes) note → SomeShowsOutOfMemory w (notes ++ note ∷ [])
shows-push w [] note (inl none) = absurd none
shows-push w [] note (inr here) = inl here
shows-push w (n ∷ notes) note (inl (inl first)) = inl first
shows-push w (n ∷ notes) note (inl (inr later)) = inr (shows-push (state_after_note w n) notes note (inl later))
shows-push w (n ∷ notes) note (inr here) = inr (shows-push (state_after_note w n) notes note (inr here))

or-either : {P Q : Type 0} (a b : Bool) → (IsTrue a → P) → (IsTrue b → Q) → IsTrue (a || b) → P ⊎ Q
or-either true b p q is = inl (p refl)
or-either false b p q is = inr (q is)

-- ---- all of it
pub cause-none : (a : ℕ) (w : RunState) → HaveCause a a under_nothing w []
cause-none a w = record { disk = refl; spoils = λ few. tt; shows = λ is. let no : ⊥ = cc in absurd no }

pub cause-push : (a b c : ℕ) (under later : Conditions) (w : RunState) (notes : List Note) (note : Note) → HaveCause a b under w notes → HasNoteCause b c later (state_after_notes w notes) note → HaveCause a c (under_both under later) w (notes ++ note ∷ [])
cause-push a b c under later w notes note all one = record {
  disk = fails-both a b c under.disk_failed later.disk_failed all.disk one.disk;
  spoils = spoils-push a b c later.disk_failed w notes note all.spoils (count-rises a b under.disk_failed all.disk) one.disk one.spoils;
  shows = λ is. shows-push w notes note (or-either under.out_of_memory later.out_of_memory all.shows one.shows is);
}

pub cause-first : (a b c : ℕ) (first_under under : Conditions) (w : RunState) (first : Note) (notes : List Note) → HasNoteCause a b first_under w first → HaveCause b c under (state_after_note w first) notes → HaveCause a c (under_both first_under under) w (first ∷ notes)
cause-first a b c first_under under w first notes one all = record {
  disk = fails-both a b c first_under.disk_failed under.disk_failed one.disk all.disk;
  spoils = spoils-first a b c first_under.disk_failed w first notes one.disk one.spoils (count-rises b c under.disk_failed all.disk) all.spoils;
  shows = or-either first_under.out_of_memory under.out_of_memory one.shows all.shows;
}

-- one note that was made without a call of the disk
pub cause-one : (a : ℕ) (under : Conditions) (w : RunState) (note : Note) → HasNoteCause a a under w note → HaveCause a a under w (note ∷ [])
cause-one a under w note one = record {
  disk = one.disk;
  spoils = λ few. inl (λ is. never under.disk_failed (one.disk) (one.spoils is) few, tt);
  shows = λ is. inl (one.shows is);
}
  where
    never : (x : Bool) → IsDiskFailure a a x → IsTrue x → a < greatest_u64 → ⊥
    never true f is few = let no : ⊥ = omega (arith, f.1, few) in no
    never false f is few = let no : ⊥ = cc in no

-- ---- conditions
pub allows-left : (a b m : Conditions) → Allows (under_both a b) m → Allows a m
allows-left a b m allows = record { disk_failed = λ is. allows.disk_failed (or_left a.disk_failed b.disk_failed is); out_of_memory = λ is. allows.out_of_memory (or_left a.out_of_memory b.out_of_memory is) }

pub allows-right : (a b m : Conditions) → Allows (under_both a b) m → Allows b m
allows-right a b m allows = record { disk_failed = λ is. allows.disk_failed (or_right a.disk_failed b.disk_failed is); out_of_memory = λ is. allows.out_of_memory (or_right a.out_of_memory b.out_of_memory is) }

pub allows-self : (m : Conditions) → Allows m m
allows-self m = record { disk_failed = λ is. is; out_of_memory = λ is. is }

pub allows-chain : (a b c : Conditions) → Allows a b → Allows b c → Allows a c
allows-chain a b c f g = record { disk_failed = λ is. g.disk_failed (f.disk_failed is); out_of_memory = λ is. g.out_of_memory (f.out_of_memory is) }

pub nothing-allowed : (m : Conditions) → Allows under_nothing m
nothing-allowed m = record { disk_failed = λ is. absurd (let no : ⊥ = cc in no); out_of_memory = λ is. absurd (let no : ⊥ = cc in no) }
