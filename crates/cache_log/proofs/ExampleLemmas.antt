-- A log that is legal, so that what is said of legal logs is said of some.
use Rattle.std.proofs.Common.{◌≡◌, ◌≢◌, ℕ, List, [], ◌∷◌, Option, IsTrue, refl, Some, None, true, false, inl, inr, arith}
use Rattle.sp_base.specs.declared.answer.Answer.{Answer}
use Rattle.any_config.specs.declared.farm.Farm.{Farm}
use Rattle.cover_rules.specs.declared.page.PageKey.{PageKey}
use Rattle.cover_rules.specs.declared.invalidation.Invalidation.{Invalidation}
use Rattle.dispatch_rules.specs.Caching.{is_storable}
use Rattle.cache_log.specs.Entries.{Kept, LogEntry, Asked, Landed, Lost, Begun, Sliced, Ended, Failed, Hit, Up, Session}
use Rattle.cache_log.specs.Hits.{stored, Unfinished, InAir}
use Rattle.cache_log.specs.Rules.{CallConditions, IsLegal}

-- a call in which nothing fails
abbrev calm : CallConditions
calm = record { disk_failed = false; out_of_memory = false; restarts = false }

-- a restart in which nothing fails
abbrev again : CallConditions
again = record { disk_failed = false; out_of_memory = false; restarts = true }

-- up to the beginning of a flush
abbrev start : PageKey → Answer → Invalidation → List LogEntry
start key a inv = Begun 1 inv ∷ Asked 2 None ∷ Hit key ∷ Landed 1 (Some key) a Kept ∷ Asked 1 (Some key) ∷ Session 1 ∷ []

one-flush : (key : PageKey) (a : Answer) (inv : Invalidation) (w : ℕ) (i : Invalidation) → Unfinished (start key a inv) w i → 1 ≡ w
one-flush key a inv w i (inl u) = u.0
one-flush key a inv w i (inr u) = absurd u

landed-one : (key : PageKey) (n : ℕ) (k : Option PageKey) → (1 ≢ n) × InAir (Asked 1 (Some key) ∷ Session 1 ∷ []) n k → ⊥
landed-one key n k (off, inl air) = off air.0
landed-one key n k (off, inr air) = air.1

none-air : (key : PageKey) (a : Answer) (inv : Invalidation) (n : ℕ) (k : Option PageKey) → (2 ≢ n) × InAir (start key a inv) n k → ⊥
none-air key a inv n k (off, inl air) = off air.0
none-air key a inv n k (off, inr air) = landed-one key n k air.1

pub two-sessions : (farm : Farm) (key : PageKey) (a : Answer) (inv : Invalidation) → IsTrue (is_storable a) → IsLegal farm (Session 3 ∷ Up 2 ∷ Ended 1 Failed ∷ Lost 2 ∷ Sliced 1 ∷ start key a inv)
two-sessions farm key a inv storable = (
  (calm, ((λ n k air. none-air key a inv n k air, λ v i u. u.0 (one-flush key a inv v i u.1)), (omega arith, (omega arith, tt)))),
  (
    (again, (refl, (λ n k air. none-air key a inv n k air, λ v i u. u.0 (one-flush key a inv v i u.1)), (omega arith, tt), omega arith, omega arith)),
    (
      (again, (((inv, inl (refl, refl)), λ w i u. omega (arith, one-flush key a inv w i u)), inr refl)),
      (
        (calm, (None, inl (refl, refl))),
        (
          (calm, ((inv, inl (refl, refl)), λ w i u. omega (arith, one-flush key a inv w i u))),
          (
            (calm, (refl, refl)),
            (
              (calm, (refl, refl, λ owed. absurd owed)),
              (
                (calm, (refl, (stored a, inl (refl, refl, λ off. absurd (off refl))))),
                (
                  (calm, (inl (refl, refl), (storable, inl (refl, refl, λ v i u cov. u)))),
                  (
                    (calm, (refl, refl, λ owed. absurd owed.1)),
                    (
                      (calm, ((λ n k air. air, λ v i u. u), tt)),
                      tt,
                    ),
                  ),
                ),
              ),
            ),
          ),
        ),
      ),
    ),
  ),
)
