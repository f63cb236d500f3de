-- The bound on the slices of a flush, as the log goes on.
use Rattle.std.proofs.Common.{◌≡◌, ◌≢◌, ◌<◌, ◌≤◌, ◌+◌, ◌*◌, ◌↔◌, ℕ, Bool, true, false, List, [], ◌∷◌, ◌++◌, Option, Some, None, IsSome, refl, sym, ◌∙◌, subst, arith, eq-eqb, ne_eqb, ⊎_elim, length, if◌then◌else◌}
use Rattle.std.specs.FinMap.{keys}
use Rattle.std.specs.List.{AllByRecursion, filter}
use Rattle.std.proofs.lemmas.Bool.{cases_eq}
use Rattle.sp_base.specs.Texts.{Text}
use Rattle.sp_outside.specs.Files.{Files}
use Rattle.any_config.specs.declared.farm.Farm.{Farm}
use Rattle.cover_rules.specs.declared.invalidation.Invalidation.{Invalidation}
use Rattle.docroot_changes.specs.Changes.{AddsNames}
use Rattle.invalidation.specs.declared.place.WalkPlace.{WalkPlace}
use Rattle.invalidation.specs.declared.purge.Purge.{Purge}
use Rattle.invalidation.specs.Slices.{HasBegun, most_added, names_ahead, stamps_written}
use Rattle.cache_log.specs.Entries.{LogEntry, Begun, Ended, FlushOutcome, Session, Sliced, flushes_begun, landings_stored, slices_made}
use Rattle.coherence_core.specs.Bounds.{BoundsSlices, HasBegunInLog, HasNamesLeft, most_files, names_to_come}
use Rattle.coherence_core.specs.Holds.{files_counted}
use Rattle.coherence_core.specs.Stands.{AreLater}
use Rattle.coherence_core.specs.declared.pending.Pending.{Pending}

-- ---- counts

length_all : {A : Type 0} (xs : List A) → length (filter (λ (x : A). true) xs) ≡ length xs
length_all [] = refl
length_all (x ∷ xs) = let is : length (filter (λ (y : _). true) xs) ≡ length xs = length_all xs in omega (arith, is)

length_some : {A : Type 0} (p : A → Bool) (xs : List A) → length (filter p xs) ≤ length xs
length_some p [] = omega arith
length_some p (x ∷ xs) = by_test (p x) (length_some p xs)
  where
    by_test : (b : Bool) → length (filter p xs) ≤ length xs → length (if b then x ∷ filter p xs else filter p xs) ≤ length (x ∷ xs)
    by_test true le = omega (arith, le)
    by_test false le = omega (arith, le)

ahead_most : (p : Purge) (files : Files) → names_ahead p files ≤ files_counted files
ahead_most p files = length_some _ (keys files)

pub counted_adds : (n : ℕ) (old new : Files) → AddsNames n old new → files_counted new ≤ files_counted old + n
counted_adds n old new adds =
    let le : length (filter (λ (name : Text). true) (keys new)) ≤ length (filter (λ (name : Text). true) (keys old)) + n = adds (λ (name : Text). true) in
    let a : length (filter (λ (name : Text). true) (keys new)) ≡ length (keys new) = length_all (keys new) in
    let b : length (filter (λ (name : Text). true) (keys old)) ≡ length (keys old) = length_all (keys old) in
    omega (arith, le, a, b)

ahead_adds : (n : ℕ) (old new : Files) (p : Purge) → AddsNames n old new → names_ahead p new ≤ names_ahead p old + n
ahead_adds n old new p adds = adds _

-- a flush that has no place, and of which the log has no slice
not_begun : (p : Pending) (log : List LogEntry) → p.purge.place ≡ None → slices_made p.number log ≡ 0 → HasBegunInLog p log
not_begun p log none unmade = (
  λ (begun : HasBegun p.purge). absurd (cc (subst (λ (o : Option WalkPlace). IsSome o) none begun)),
  λ (made : 0 < slices_made p.number log). absurd (omega (arith, unmade, made)),
)

-- ---- entries that begin and end nothing

-- more files, as many as the log has room for
pub names_stay : (farm : Farm) (found n : ℕ) (old new : Files) (queue : List Pending) (log after : List LogEntry) → AddsNames n old new
    → most_files farm found log + n ≤ most_files farm found after → ((v : ℕ) → slices_made v after ≡ slices_made v log) → flushes_begun after ≡ flushes_begun log
    → BoundsSlices farm found old queue log → BoundsSlices farm found new queue after
names_stay farm found n old new queue log after adds room same begun b = record {
  bound = λ v. let le : 64 * slices_made v log ≤ most_files farm found log = b.bound v in let is : slices_made v after ≡ slices_made v log = same v in omega (arith, le, is, room);
  files_left = let le = counted_adds n old new adds in omega (arith, le, b.files_left, room);
  names_left = left queue b.names_left;
  unbegun = λ v lt. same v ∙ b.unbegun v (omega (arith, lt, begun));
}
  where
    none : (ps : List Pending) → AllByRecursion (λ (q : Pending). slices_made q.number log ≡ 0) ps → AllByRecursion (λ (q : Pending). slices_made q.number after ≡ 0) ps
    none [] all = tt
    none (q ∷ qs) all = (same q.number ∙ all.0, none qs all.1)

    left : (ps : List Pending) → HasNamesLeft (most_files farm found log) old ps log → HasNamesLeft (most_files farm found after) new ps after
    left [] h = tt
    left (p ∷ ps) h = (
      let le : names_ahead p.purge new ≤ names_ahead p.purge old + n = ahead_adds n old new p.purge adds in
          let is : slices_made p.number after ≡ slices_made p.number log = same p.number in
          let was : 64 * slices_made p.number log + names_ahead p.purge old + names_to_come (p ∷ ps) ≤ most_files farm found log = h.0 in
          omega (arith, le, is, was, room),
      none ps h.1,
      subst (λ (x : ℕ). HasBegun p.purge ↔ (0 < x)) (sym (same p.number)) h.2,
    )

-- the same files
pub adds_none : (files : Files) → AddsNames 0 files files
adds_none files = λ is_counted. omega arith

-- ---- a flush that begins

come_push : (ps : List Pending) (q : Pending) → names_to_come (ps ++ q ∷ []) ≡ names_to_come ps + most_added q.purge
come_push [] q = omega arith
come_push (p ∷ ps) q = let is : names_to_come (ps ++ q ∷ []) ≡ names_to_come ps + most_added q.purge = come_push ps q in omega (arith, is)

module _ (farm : Farm) (found : ℕ) (files : Files) (queue : List Pending) (log : List LogEntry) (v : ℕ) (inv : Invalidation) (q : Pending) (num : q.number ≡ v) (next : flushes_begun log < v) (level : q.purge.level ≡ farm.level) (place : q.purge.place ≡ None) (b : BoundsSlices farm found files queue log) where
  added : most_added q.purge ≡ farm.level + 1
  added = (λ i. stamps_written (level i) (place i))

  grown : most_files farm found (Begun v inv ∷ log) ≡ most_files farm found log + (farm.level + 1)
  grown = go (flushes_begun log)
    where
      go : (x : ℕ) → found + 2 * landings_stored log + (farm.level + 1) * (x + 1) + 1 ≡ found + 2 * landings_stored log + (farm.level + 1) * x + 1 + (farm.level + 1)
      go x = grind arith

  unsliced : slices_made q.number log ≡ 0
  unsliced = b.unbegun q.number (subst (λ (x : ℕ). flushes_begun log < x) (sym num) next)

  none_push : (ps : List Pending) → AllByRecursion (λ (r : Pending). slices_made r.number log ≡ 0) ps → AllByRecursion (λ (r : Pending). slices_made r.number log ≡ 0) (ps ++ q ∷ [])
  none_push [] all = (unsliced, tt)
  none_push (p ∷ ps) all = (all.0, none_push ps all.1)

  left_push : (ps : List Pending) → files_counted files + names_to_come ps ≤ most_files farm found log → HasNamesLeft (most_files farm found log) files ps log → HasNamesLeft (most_files farm found (Begun v inv ∷ log)) files (ps ++ q ∷ []) (Begun v inv ∷ log)
  left_push [] counted h = (
    let le : names_ahead q.purge files ≤ files_counted files = ahead_most q.purge files in
        let few : files_counted files + 0 ≤ most_files farm found log = counted in
        omega (arith, unsliced, le, few, added, grown),
    tt,
    not_begun q log place unsliced,
  )
  left_push (p ∷ ps) counted h = (
    let was : 64 * slices_made p.number log + names_ahead p.purge files + names_to_come (p ∷ ps) ≤ most_files farm found log = h.0 in
        let is : names_to_come (ps ++ q ∷ []) ≡ names_to_come ps + most_added q.purge = come_push ps q in
        omega (arith, was, is, added, grown),
    none_push ps h.1,
    h.2,
  )

  pub names_begin : v ≡ flushes_begun log + 1 → BoundsSlices farm found files (queue ++ q ∷ []) (Begun v inv ∷ log)
  names_begin one = record {
    bound = λ w. let le : 64 * slices_made w log ≤ most_files farm found log = b.bound w in omega (arith, le, grown);
    files_left = let is : names_to_come (queue ++ q ∷ []) ≡ names_to_come queue + most_added q.purge = come_push queue q in omega (arith, b.files_left, is, added, grown);
    names_left = left_push queue b.files_left b.names_left;
    unbegun = λ w lt. b.unbegun w (let more : flushes_begun log + 1 < w = lt in omega (arith, more));
  }

-- ---- a slice

module _ (farm : Farm) (found : ℕ) (old new : Files) (p : Pending) (queue : List Pending) (log : List LogEntry) (adds : AddsNames (most_added p.purge) old new) (b : BoundsSlices farm found old (p ∷ queue) log) where
  counted : files_counted new + names_to_come queue ≤ most_files farm found log
  counted = let le : files_counted new ≤ files_counted old + most_added p.purge = counted_adds (most_added p.purge) old new adds in omega (arith, le, b.files_left)

  left_tail : (ps : List Pending) → AreLater p ps → files_counted new + names_to_come ps ≤ most_files farm found log → AllByRecursion (λ (q : Pending). slices_made q.number log ≡ 0) ps → HasNamesLeft (most_files farm found log) new ps log
  left_tail [] later few none = tt
  left_tail (q ∷ qs) later few none = (
    let le : names_ahead q.purge new ≤ files_counted new = ahead_most q.purge new in
        omega (arith, le, few, none.0),
    none.1,
    not_begun q log later.2 none.0,
  )

  -- it ended
  pub names_end : AreLater p queue → (outcome : FlushOutcome) → BoundsSlices farm found new queue (Ended p.number outcome ∷ log)
  names_end later outcome = record {
    bound = b.bound;
    files_left = counted;
    names_left = end_left queue (left_tail queue later counted b.names_left.1);
    unbegun = b.unbegun;
  }
    where
      end_left : (ps : List Pending) → HasNamesLeft (most_files farm found log) new ps log → HasNamesLeft (most_files farm found log) new ps (Ended p.number outcome ∷ log)
      end_left [] h = tt
      end_left (q ∷ qs) h = h

  -- it left more to do
  module _ (q : Purge) (begun : HasBegun q) (looked : names_ahead q new + 64 ≤ names_ahead p.purge old + most_added p.purge) (later : AreLater p queue) (known : p.number ≤ flushes_begun log) where
    none_added : most_added q ≡ 0
    none_added = go q.place begun
      where
        go : (o : Option WalkPlace) → IsSome o → stamps_written q.level o ≡ 0
        go None h = absurd (cc h)
        go (Some place) h = refl

    one_more : slices_made p.number (Sliced p.number ∷ log) ≡ slices_made p.number log + 1
    one_more = (rw (eq-eqb p.number p.number refl))

    others : (v : ℕ) → p.number ≢ v → slices_made v (Sliced p.number ∷ log) ≡ slices_made v log
    others v ne = (rw (ne_eqb p.number v ne))

    head_now : 64 * (slices_made p.number log + 1) + names_ahead q new + (most_added q + names_to_come queue) ≤ most_files farm found log
    head_now = let was : 64 * slices_made p.number log + names_ahead p.purge old + (most_added p.purge + names_to_come queue) ≤ most_files farm found log = b.names_left.0 in omega (arith, was, looked, none_added)

    none_later : (ps : List Pending) → AreLater p ps → AllByRecursion (λ (r : Pending). slices_made r.number log ≡ 0) ps → AllByRecursion (λ (r : Pending). slices_made r.number (Sliced p.number ∷ log) ≡ 0) ps
    none_later [] apart all = tt
    none_later (r ∷ rs) apart all = (others r.number (omega (arith, apart.0)) ∙ all.0, none_later rs apart.3 all.1)

    pub names_go_on : BoundsSlices farm found new (record { number = p.number; purge = q } ∷ queue) (Sliced p.number ∷ log)
    names_go_on = record {
      bound = λ v. ⊎_elim
          (λ (same : p.number ≡ v). subst (λ (x : ℕ). 64 * slices_made x (Sliced p.number ∷ log) ≤ most_files farm found log) same (omega (arith, one_more, head_now)))
          (λ (ne : p.number ≢ v). let is : slices_made v (Sliced p.number ∷ log) ≡ slices_made v log = others v ne in let le : 64 * slices_made v log ≤ most_files farm found log = b.bound v in omega (arith, is, le))
          (cases_eq p.number v);
      files_left = omega (arith, counted, none_added);
      names_left = (omega (arith, one_more, head_now), none_later queue later b.names_left.1, (λ (has : HasBegun q). omega (arith, one_more), λ (made : 0 < slices_made p.number (Sliced p.number ∷ log)). begun));
      unbegun = λ v lt. others v (let far : flushes_begun log < v = lt in omega (arith, far, known)) ∙ b.unbegun v lt;
    }

-- ---- a session

pub names_found : (farm : Farm) (old new : Files) (epoch : ℕ) (log : List LogEntry) → AddsNames 1 old new → BoundsSlices farm (files_counted old) new [] (Session epoch ∷ log)
names_found farm old new epoch log adds = record {
  bound = λ v. omega arith;
  files_left = let le : files_counted new ≤ files_counted old + 1 = counted_adds 1 old new adds in omega (arith, le);
  names_left = tt;
  unbegun = λ v lt. refl;
}
