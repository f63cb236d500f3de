-- A text is escaped run by run, and what is written is inert.
use Rattle.std.proofs.Common.{◌≡◌, ℕ, suc, ◌<◌, ◌≤◌, Bool, true, false, cond, List, [], ◌∷◌, ◌++◌, Option, Some, None, is_some, unwrap_or, length, take, drop, slice_index, inl, inr, refl, sym, ap, ap₂, ◌∙◌, arith, append-nil, append_assoc}
use Rattle.std.specs.List.{flat_map, list_all}
use Rattle.std.specs.Str.{IsCharBoundary}
use Rattle.std.proofs.lemmas.Bool.{cases_lt, cases_eq}
use Rattle.std.proofs.lemmas.List.{length-append}
use Rattle.std.proofs.lemmas.List.Folds.{list_all-append}
use Rattle.std.proofs.lemmas.Grind.{common_steps, flat_map-append}
use Rattle.htl_syntax.specs.declared.expression.Context.{Context}
use Rattle.htl_syntax.specs.declared.expression.Context.TheVariants as context
use Rattle.htl_expr.specs.Print.{reference, html_escape, reference_place, first_reference, is_inert, IsInert, in_context}
use Rattle.htl_expr.specs.Writing.{Begins, IsStopped}
use Rattle.htl_expr.specs.declared.room.WriteFault.{WriteFault}
use Rattle.htl_expr.proofs.Writing.{begins_more, begins_later, longer}

escape_plain : (b : ℕ) → reference b ≡ None → html_escape b ≡ b ∷ []
escape_plain b e = rw e refl

-- a run without a reference is written as it is
pub run_step : (t : List ℕ) → flat_map html_escape t ≡ take (reference_place t) t ++ flat_map html_escape (drop (reference_place t) t)
unfolding reference_place
run_step [] = refl
run_step (c ∷ t) = go (reference c) refl (run_step t)
  where
    go : (o : Option (List ℕ)) → reference c ≡ o → flat_map html_escape t ≡ take (reference_place t) t ++ flat_map html_escape (drop (reference_place t) t)
        → flat_map html_escape (c ∷ t) ≡ take (cond (is_some o) 0 (suc (reference_place t))) (c ∷ t) ++ flat_map html_escape (drop (cond (is_some o) 0 (suc (reference_place t))) (c ∷ t))
    go (Some r) e ih = refl
    go None e ih = ap₂ (λ (a b : List ℕ). a ++ b) (escape_plain c e) ih

run_within : (t : List ℕ) → reference_place t ≤ length t
unfolding reference_place
run_within [] = omega arith
run_within (c ∷ t) = go (is_some (reference c)) (run_within t)
  where
    go : (b : Bool) → reference_place t ≤ length t → cond b 0 (suc (reference_place t)) ≤ length (c ∷ t)
    go true ih = omega arith
    go false ih = omega (arith, ih)

-- only bytes below 128 have a reference
reference_high : (b : ℕ) → 128 ≤ b → reference b ≡ None
reference_high b high = grind (arith, common_steps, high)

marked_low : (c : ℕ) (r : List ℕ) → reference c ≡ Some r → c < 128
marked_low c r e = elim (cases_lt c 128) [
  | inl low ↦ low
  | inr high ↦ absurd (let none = reference_high c high in cc)
]

-- a byte with a reference is a character of its own
pub record Marked (t reference : List ℕ) : Type 0 where
  pub written : flat_map html_escape t ≡ reference ++ flat_map html_escape (drop 1 t)
  pub first : slice_index t 0 < 128
  pub less : length (drop 1 t) < length t

pub marked : (t r : List ℕ) → first_reference t ≡ Some r → Marked t r
unfolding first_reference
marked [] r e = absurd cc
marked (c ∷ t) r e = record {
  written = ap (λ (o : Option (List ℕ)). unwrap_or o (c ∷ []) ++ flat_map html_escape t) e;
  first = marked_low c r e;
  less = omega arith;
}

-- a run ends at a byte with a reference, or at the end
run_stops : (t : List ℕ) → first_reference (drop (reference_place t) t) ≡ None → drop (reference_place t) t ≡ []
unfolding reference_place first_reference
run_stops [] e = refl
run_stops (c ∷ t) e = go (reference c) refl (run_stops t) e
  where
    go : (o : Option (List ℕ)) → reference c ≡ o → (first_reference (drop (reference_place t) t) ≡ None → drop (reference_place t) t ≡ [])
        → first_reference (drop (cond (is_some o) 0 (suc (reference_place t))) (c ∷ t)) ≡ None → drop (cond (is_some o) 0 (suc (reference_place t))) (c ∷ t) ≡ []
    go (Some r) x ih none = absurd cc
    go None x ih none = ih none

run_end : (t : List ℕ) → reference_place t < length t → slice_index t (reference_place t) < 128
unfolding reference_place
run_end [] lt = absurd (omega (arith, lt))
run_end (c ∷ t) lt = go (reference c) refl (run_end t) lt
  where
    go : (o : Option (List ℕ)) → reference c ≡ o → (reference_place t < length t → slice_index t (reference_place t) < 128)
        → cond (is_some o) 0 (suc (reference_place t)) < length (c ∷ t) → slice_index (c ∷ t) (cond (is_some o) 0 (suc (reference_place t))) < 128
    go (Some r) e ih less = marked_low c r e
    go None e ih less = ih (omega (arith, less))

pub run_boundary : (t : List ℕ) → IsCharBoundary t (reference_place t)
run_boundary t = (run_within t, λ lt big. let small = run_end t lt in omega (arith, small, big))

-- the last run is written
pub run_ends : (n : ℕ) (old before new rest plain run remainder : List ℕ) → n ≡ reference_place rest → run ≡ take n rest → remainder ≡ drop n rest → first_reference remainder ≡ None → new ≡ before ++ run
    → before ++ flat_map html_escape rest ≡ old ++ flat_map html_escape plain → new ≡ old ++ flat_map html_escape plain
run_ends n old before new rest plain run remainder en er eb none ew inv =
    let done = rw (eb, en) at none in
    let last : flat_map html_escape rest ≡ run = run_step rest ∙ rw (run_stops rest done, er, en) (append-nil (take (reference_place rest) rest)) in
    ew ∙ sym (ap (λ (l : List ℕ). before ++ l) last) ∙ inv

-- a run is written, and a reference after it
pub run_goes_on : (n : ℕ) (old before run_written new rest plain run remainder reference : List ℕ) → n ≡ reference_place rest → run ≡ take n rest → remainder ≡ drop n rest → first_reference remainder ≡ Some reference
    → run_written ≡ before ++ run → new ≡ run_written ++ reference → before ++ flat_map html_escape rest ≡ old ++ flat_map html_escape plain → new ++ flat_map html_escape (drop 1 remainder) ≡ old ++ flat_map html_escape plain
run_goes_on n old before run_written new rest plain run remainder reference en er eb some ew en' inv =
    let later = flat_map html_escape (drop 1 remainder) in
    let rest_is : flat_map html_escape rest ≡ run ++ (reference ++ later) = run_step rest ∙ rw (er, en) (ap (λ (l : List ℕ). take (reference_place rest) rest ++ l) (ap (flat_map html_escape) (sym (rw en at eb)) ∙ (marked remainder reference some).written)) in
    rw (en', ew) (append_assoc (before ++ run) reference later ∙ append_assoc before run (reference ++ later) ∙ sym (ap (λ (l : List ℕ). before ++ l) rest_is)) ∙ inv

reference_inert : (b : ℕ) → list_all is_inert (html_escape b) ≡ true
reference_inert b = elim (cases_eq b 38) [
  | inl e ↦ rw e refl
  | inr amp ↦ elim (cases_eq b 60) [
    | inl e ↦ rw e refl
    | inr less ↦ elim (cases_eq b 62) [
      | inl e ↦ rw e refl
      | inr greater ↦ elim (cases_eq b 34) [
        | inl e ↦ rw e refl
        | inr quote ↦ elim (cases_eq b 39) [
          | inl e ↦ rw e refl
          | inr apostrophe ↦ grind (arith, common_steps, amp, less, greater, quote, apostrophe)
        ]
      ]
    ]
  ]
]

escaped_inert : (text : List ℕ) → list_all is_inert (flat_map html_escape text) ≡ true
escaped_inert [] = refl
escaped_inert (b ∷ text) = rw (list_all-append, reference_inert b, escaped_inert text) refl

pub is_inert_in : (context : Option Context) (text : List ℕ) → IsInert context (in_context context text)
is_inert_in None text = escaped_inert text
is_inert_in (Some context.Text) text = escaped_inert text
is_inert_in (Some context.Unsafe) text = tt

-- texts are written one after another in each context
pub in_context_append : (context : Option Context) (a b : List ℕ) → in_context context (a ++ b) ≡ in_context context a ++ in_context context b
in_context_append None a b = flat_map-append html_escape a b
in_context_append (Some context.Text) a b = flat_map-append html_escape a b
in_context_append (Some context.Unsafe) a b = refl

pub in_context_none : (context : Option Context) → in_context context [] ≡ []
in_context_none None = refl
in_context_none (Some context.Text) = refl
in_context_none (Some context.Unsafe) = refl

escape_long : (b : ℕ) → 1 ≤ length (html_escape b)
escape_long b = elim (cases_eq b 38) [
  | inl e ↦ rw e (omega arith)
  | inr amp ↦ elim (cases_eq b 60) [
    | inl e ↦ rw e (omega arith)
    | inr less ↦ elim (cases_eq b 62) [
      | inl e ↦ rw e (omega arith)
      | inr greater ↦ elim (cases_eq b 34) [
        | inl e ↦ rw e (omega arith)
        | inr quote ↦ elim (cases_eq b 39) [
          | inl e ↦ rw e (omega arith)
          | inr apostrophe ↦ grind (arith, common_steps, amp, less, greater, quote, apostrophe)
        ]
      ]
    ]
  ]
]

-- escapes lengthen a text
pub escaped_longer : (t : List ℕ) → length t ≤ length (flat_map html_escape t)
escaped_longer [] = omega arith
escaped_longer (b ∷ t) = let l = length-append (html_escape b) (flat_map html_escape t) in let one = escape_long b in let more = escaped_longer t in omega (arith, l, one, more)

-- a run doesn't fit
pub run_stops_at : (n most : ℕ) (f : WriteFault) (old before new rest plain run : List ℕ) → n ≡ reference_place rest → run ≡ take n rest → before ++ flat_map html_escape rest ≡ old ++ flat_map html_escape plain → Begins old before
    → IsStopped most f before run new → IsStopped most f old (flat_map html_escape plain) new
run_stops_at n most f old before new rest plain run en er inv b w =
    let rest_is : flat_map html_escape rest ≡ run ++ flat_map html_escape (drop (reference_place rest) rest) = run_step rest ∙ rw (er, en) refl in
    (begins_later old before new b w.0, λ known. let x = w.1 known in (x.0, rw inv at (longer most before run _ (flat_map html_escape rest) rest_is x.1)))

-- a reference doesn't fit
pub reference_stops_at : (n most : ℕ) (f : WriteFault) (old before run_written new rest plain run remainder reference : List ℕ) → n ≡ reference_place rest → run ≡ take n rest → remainder ≡ drop n rest → first_reference remainder ≡ Some reference
    → run_written ≡ before ++ run → before ++ flat_map html_escape rest ≡ old ++ flat_map html_escape plain → Begins old before → IsStopped most f run_written reference new → IsStopped most f old (flat_map html_escape plain) new
reference_stops_at n most f old before run_written new rest plain run remainder reference en er eb some ew inv b w =
    let later = flat_map html_escape (drop 1 remainder) in
    let rest_is : flat_map html_escape rest ≡ run ++ (reference ++ later) = run_step rest ∙ rw (er, en) (ap (λ (l : List ℕ). take (reference_place rest) rest ++ l) (ap (flat_map html_escape) (sym (rw en at eb)) ∙ (marked remainder reference some).written)) in
    let same : run_written ++ (reference ++ later) ≡ old ++ flat_map html_escape plain = ap (λ (l : List ℕ). l ++ (reference ++ later)) ew ∙ append_assoc before run (reference ++ later) ∙ ap (λ (l : List ℕ). before ++ l) (sym rest_is) ∙ inv in
    (begins_later old run_written new (begins_more old before run run_written b ew) w.0, λ known. let x = w.1 known in (x.0, rw same at (longer most run_written reference later (reference ++ later) refl x.1)))
