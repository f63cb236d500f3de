-- The counts of lists of notes add up: they are a homomorphism from lists to counts.
use Rattle.std.proofs.Common.{◌≡◌, ◌+◌, ◌<◌, ◌≤◌, ◌++◌, ◌∙◌, [], ◌∷◌, ap, sym, ℕ, Bool, List, length, length-append, take, get_or, append_assoc, arith, add_assoc}
use Rattle.std.specs.Prelude.{cond, flat_map}
use Rattle.std.specs.List.{count_by}
use Rattle.std.proofs.lemmas.List.Sums.{sum_by-append}
use Rattle.std.proofs.lemmas.Grind.{common_steps}
use Rattle.std.proofs.lemmas.List.{take_more}
use Rattle.std.proofs.Math.Seq.{take-length}
use Rattle.run_events.specs.declared.note.Note.{Note}
use Rattle.run_events.specs.Events.{Event, notes_of}
use Rattle.sling_dispatch.specs.declared.summary.Counts.{Counts}
use Rattle.sling_dispatch.specs.Summaries.{counts, counts_of, plus, is_ask, is_hit, is_kept_note, is_passed_note, is_unkept, is_lost, is_flush_note, is_done, is_failed, is_hurt, is_out_of_memory_note, sent_size}

counted : (p : Note → Bool) (xs ys : List Note) → count_by p (xs ++ ys) ≡ count_by p xs + count_by p ys
counted p xs ys = sum_by-append (λ x. cond (p x) 1 0) xs ys

-- the counts of two lists of notes together
pub counts_add : (m n : ℕ) (xs ys : List Note) → counts (m + n) (xs ++ ys) ≡ plus (counts m xs) (counts n ys)
counts_add m n xs ys = λ i.
    record {
      events = m + n;
      asks = counted is_ask xs ys i;
      hits = counted is_hit xs ys i;
      kept = counted is_kept_note xs ys i;
      passed = counted is_passed_note xs ys i;
      unkept = counted is_unkept xs ys i;
      lost = counted is_lost xs ys i;
      flushes = counted is_flush_note xs ys i;
      done = counted is_done xs ys i;
      failed = counted is_failed xs ys i;
      sent = sum_by-append sent_size xs ys i;
      disk_failed = counted is_hurt xs ys i;
      out_of_memory = counted is_out_of_memory_note xs ys i;
    }

pub plus_assoc : (a b c : Counts) → plus (plus a b) c ≡ plus a (plus b c)
plus_assoc a b c = λ i.
    record {
      events = add_assoc a.events b.events c.events i;
      asks = add_assoc a.asks b.asks c.asks i;
      hits = add_assoc a.hits b.hits c.hits i;
      kept = add_assoc a.kept b.kept c.kept i;
      passed = add_assoc a.passed b.passed c.passed i;
      unkept = add_assoc a.unkept b.unkept c.unkept i;
      lost = add_assoc a.lost b.lost c.lost i;
      flushes = add_assoc a.flushes b.flushes c.flushes i;
      done = add_assoc a.done b.done c.done i;
      failed = add_assoc a.failed b.failed c.failed i;
      sent = add_assoc a.sent b.sent c.sent i;
      disk_failed = add_assoc a.disk_failed b.disk_failed c.disk_failed i;
      out_of_memory = add_assoc a.out_of_memory b.out_of_memory c.out_of_memory i;
    }

nothing : (n : ℕ) → n ≡ n + 0
nothing n = omega arith

-- an event without notes
pub plus_event : (c : Counts) (n : ℕ) → n ≡ c.events + 1 → record c { events = n } ≡ plus c (counts 1 [])
plus_event c n e = λ i.
    record {
      events = e i;
      asks = nothing c.asks i;
      hits = nothing c.hits i;
      kept = nothing c.kept i;
      passed = nothing c.passed i;
      unkept = nothing c.unkept i;
      lost = nothing c.lost i;
      flushes = nothing c.flushes i;
      done = nothing c.done i;
      failed = nothing c.failed i;
      sent = nothing c.sent i;
      disk_failed = nothing c.disk_failed i;
      out_of_memory = nothing c.out_of_memory i;
    }

-- the first notes, and one more
pub counts_more : (c d : Counts) (xs : List Note) (k : ℕ) (note : Note) → k < length xs → note ≡ get_or xs k note → d ≡ plus c (counts 1 (take k xs)) → plus d (counts 0 (note ∷ [])) ≡ plus c (counts 1 (take (k + 1) xs))
counts_more c d xs k note lt is e =
    let first = take k xs in
    ap (λ x. plus x (counts 0 (note ∷ []))) e ∙ plus_assoc c (counts 1 first) (counts 0 (note ∷ [])) ∙ ap (plus c) (sym (counts_add 1 0 first (note ∷ [])))
    ∙ ap (λ n. plus c (counts 1 (first ++ n ∷ []))) is ∙ ap (λ ns. plus c (counts 1 ns)) (sym (take_more xs k note lt))

-- all of them
pub counts_all : (c d : Counts) (xs : List Note) (k : ℕ) → k ≤ length xs → length xs ≤ k → d ≡ plus c (counts 1 (take k xs)) → d ≡ plus c (counts 1 xs)
counts_all c d xs k least most e =
    let all : k ≡ length xs = omega arith in
    e ∙ ap (λ n. plus c (counts 1 (take n xs))) all ∙ ap (λ ns. plus c (counts 1 ns)) (take-length xs)

last : (events : List Event) (event : Event) → flat_map notes_of events ++ notes_of event ≡ flat_map notes_of (events ++ event ∷ [])
last events event = grind (arith, common_steps)

-- events, and one more
pub counts_of_more : (events : List Event) (event : Event) → plus (counts_of events) (counts 1 (notes_of event)) ≡ counts_of (events ++ event ∷ [])
counts_of_more events event =
    let count : length events + 1 ≡ length (events ++ event ∷ []) = sym (length-append events (event ∷ [])) in
    sym (counts_add (length events) 1 (flat_map notes_of events) (notes_of event)) ∙ ap (λ n. counts n (flat_map notes_of events ++ notes_of event)) count
    ∙ ap (counts (length (events ++ event ∷ []))) (last events event)

-- a text that grew, and then grew on
pub grown_on : (x y z a b : List ℕ) → y ≡ x ++ a → z ≡ y ++ b → z ≡ x ++ (a ++ b)
grown_on x y z a b p q = q ∙ ap (λ t. t ++ b) p ∙ append_assoc x a b
