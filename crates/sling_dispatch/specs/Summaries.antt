-- The summary of events: how many there are, and how many notes of each kind.
use Rattle.std.specs.Prelude.{◌+◌, ◌++◌, ℕ, Bool, true, false, List, codes, flat_map, length, ◌≡◌, ◌∷◌, []}
use Rattle.std.specs.Fmt.{decimal}
use Rattle.std.specs.List.{count_by, sum_by}
use Rattle.run_events.specs.Events.{Event, notes_of}
use Rattle.run_events.specs.declared.note.Note.{Note}
use Rattle.run_events.specs.declared.note.Note.TheVariants.{Ask, Hit, Flush, Done, Failed, Kept, Unkept, Passed, Lost, Sent, Hurt, OutOfMemory}
use Rattle.sling_dispatch.specs.declared.summary.Counts.{Counts}

-- ---- kinds of notes

abbrev pub is_ask : Note → Bool
is_ask (Ask number c key) = true
is_ask _ = false

abbrev pub is_hit : Note → Bool
is_hit (Hit c key) = true
is_hit _ = false

abbrev pub is_kept_note : Note → Bool
is_kept_note (Kept number key) = true
is_kept_note _ = false

abbrev pub is_passed_note : Note → Bool
is_passed_note (Passed number) = true
is_passed_note _ = false

abbrev pub is_unkept : Note → Bool
is_unkept (Unkept number) = true
is_unkept _ = false

abbrev pub is_lost : Note → Bool
is_lost (Lost number) = true
is_lost _ = false

abbrev pub is_flush_note : Note → Bool
is_flush_note (Flush number c inv) = true
is_flush_note _ = false

abbrev pub is_done : Note → Bool
is_done (Done number) = true
is_done _ = false

abbrev pub is_failed : Note → Bool
is_failed (Failed number failure) = true
is_failed _ = false

abbrev pub is_hurt : Note → Bool
is_hurt Hurt = true
is_hurt _ = false

abbrev pub is_out_of_memory_note : Note → Bool
is_out_of_memory_note OutOfMemory = true
is_out_of_memory_note _ = false

-- how many bytes a note sends
abbrev pub sent_size : Note → ℕ
sent_size (Sent c bytes) = length bytes
sent_size _ = 0

-- ---- counts

-- the counts of so many events with these notes
abbrev pub counts : ℕ → List Note → Counts
counts events notes =
    record {
      events = events;
      asks = count_by is_ask notes;
      hits = count_by is_hit notes;
      kept = count_by is_kept_note notes;
      passed = count_by is_passed_note notes;
      unkept = count_by is_unkept notes;
      lost = count_by is_lost notes;
      flushes = count_by is_flush_note notes;
      done = count_by is_done notes;
      failed = count_by is_failed notes;
      sent = sum_by sent_size notes;
      disk_failed = count_by is_hurt notes;
      out_of_memory = count_by is_out_of_memory_note notes;
    }

-- the counts of both
abbrev pub plus : Counts → Counts → Counts
plus c d =
    record {
      events = c.events + d.events;
      asks = c.asks + d.asks;
      hits = c.hits + d.hits;
      kept = c.kept + d.kept;
      passed = c.passed + d.passed;
      unkept = c.unkept + d.unkept;
      lost = c.lost + d.lost;
      flushes = c.flushes + d.flushes;
      done = c.done + d.done;
      failed = c.failed + d.failed;
      sent = c.sent + d.sent;
      disk_failed = c.disk_failed + d.disk_failed;
      out_of_memory = c.out_of_memory + d.out_of_memory;
    }

-- the counts of events
abbrev pub counts_of : List Event → Counts
counts_of events = counts (length events) (flat_map notes_of events)

-- ---- their text

-- the line of a count
abbrev pub row : List ℕ → ℕ → List ℕ
row name count = name ++ (codes " " ++ (decimal count ++ codes "\n"))

-- the lines of counts
unfoldable pub counts_text : Counts → List ℕ
counts_text c =
    row (codes "events") c.events
    ++ (row (codes "asks") c.asks
    ++ (row (codes "hits") c.hits
    ++ (row (codes "kept") c.kept
    ++ (row (codes "passed") c.passed
    ++ (row (codes "unkept") c.unkept
    ++ (row (codes "lost") c.lost
    ++ (row (codes "flushes") c.flushes
    ++ (row (codes "done") c.done
    ++ (row (codes "failed") c.failed
    ++ (row (codes "sent") c.sent
    ++ (row (codes "hurt") c.disk_failed ++ row (codes "dry") c.out_of_memory)))))))))))

-- the summary of events
abbrev pub summary_text : List Event → List ℕ
summary_text events = counts_text (counts_of events)

-- where these were the counts of events, and the notes are those of one more, they are the counts of all
abbrev pub CountsEvent : List Note → Counts → Counts → Type 0
CountsEvent notes old new = (events : List Event) (event : Event) → old ≡ counts_of events → notes ≡ notes_of event → new ≡ counts_of (events ++ event ∷ [])
