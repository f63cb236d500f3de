-- How notes are held. A page's note stands at the place that its key's hash names, in the younger of two generations or in the older one; a
-- folder's stamp stands under its path. Beside `specs/Notes.antt` only private functions and proofs need these.
use Rattle.std.specs.Prelude.{◌≤◌, ◌+◌, ◌&&◌, ℕ, Bool, List, Option, Some, None, if◌then◌else◌, length, nat_eq, nat_le, nat_lt, min, option_and_then}
use Rattle.std.specs.Cmp.Lexicographic.{pointwise}
use Rattle.std.specs.Hash as fed
use Rattle.std.specs.Hash.DefaultHasher.{finish, initial, write}
use Rattle.std.specs.List.{fold, sum_by}
use Rattle.std.specs.BTreeMap.{is_at}
use Rattle.std.specs.Map.{lookup, values_of}
use Rattle.std.specs.Ordering.{eq_by_cmp, nat_cmp}
use Rattle.sp_base.specs.PathTexts.{spelling_of}
use Rattle.sp_base.specs.Paths.{by_path}
use Rattle.sp_base.specs.Texts.{Segments, Text}
use Rattle.cover_rules.specs.declared.page.PageKey.{PageKey}
use Rattle.cover_rules.specs.declared.stamp.Stamp.{Stamp}
use Rattle.cache_files.specs.declared.head_note.HeadNote.{HeadNote}
use Rattle.page_index.specs.Limits.{hits_before_keeping, longest_kept, most_young, most_young_bytes}
use Rattle.page_index.specs.declared.page_note.PageNote.{PageNote}

-- ---- the note of a page

-- the keys are the same
abbrev pub same_key : PageKey → PageKey → Bool
same_key key other = eq_by_cmp by_path key.folder other.folder && pointwise nat_eq key.file other.file

-- a note that was just made
abbrev pub fresh_note : PageKey → Option HeadNote → PageNote
fresh_note key head = record { key = key; head = head; hits = 0; body = None }

-- a body that isn't too long to be kept
abbrev pub kept_of : Text → Option Text
kept_of body = if nat_le (length body) longest_kept then Some body else None

-- the body that is kept after one more hit
abbrev pub body_after : ℕ → Option Text → Text → Option Text
body_after hits None body = if nat_le hits_before_keeping hits then kept_of body else None
body_after hits (Some kept) body = Some kept

-- a note after one more hit, which read this body: as many hits are counted as are needed
abbrev pub after_hit : Text → PageNote → PageNote
after_hit body note = record { key = note.key; head = note.head; hits = min hits_before_keeping note.hits + 1; body = body_after note.hits note.body body }

-- how many bytes a body has, where there is one
abbrev pub body_weight : Option Text → ℕ
body_weight None = 0
body_weight (Some body) = length body

-- how many bytes of a note's body are kept
abbrev pub weight_of : PageNote → ℕ
weight_of note = body_weight note.body

-- ---- a generation

-- notes at their places, in order of these, and how many bytes of their bodies may be kept with them
pub record HeldNotes : Type 0 where
  pub notes : List (ℕ × PageNote)
  pub bytes : ℕ

-- the note, where it is of the key
abbrev pub of_key : PageKey → PageNote → Option PageNote
of_key key note = if same_key note.key key then Some note else None

-- the note that stands at a place, where it is of the key
abbrev pub held_note : HeldNotes → ℕ → PageKey → Option PageNote
held_note held place key = option_and_then (of_key key) (lookup (is_at (nat_cmp place)) held.notes)

-- how many bytes of bodies the notes keep
abbrev pub bytes_kept : List (ℕ × PageNote) → ℕ
bytes_kept notes = sum_by weight_of (values_of notes)

-- a generation is no larger than it may be
pub record IsBounded (held : HeldNotes) : Type 0 where
  pub few : length held.notes ≤ most_young
  pub kept : bytes_kept held.notes ≤ held.bytes
  pub small : held.bytes ≤ most_young_bytes

-- one more note has room, with so many bytes of a body
abbrev pub has_room : HeldNotes → ℕ → Bool
has_room held more = nat_lt (length held.notes) most_young && nat_le (held.bytes + more) most_young_bytes

-- the place of a key's note: its hash
unfoldable pub place_of_key : PageKey → ℕ
place_of_key key = finish (fold write (fold write initial (fed.str (spelling_of key.folder))) (fed.str key.file))

-- ---- stamps

-- the folders are the same
abbrev pub same_folder : Segments → Segments → Bool
same_folder folder other = is_at (by_path folder) other

-- the stamps of folders, in two generations
pub record HeldStamps : Type 0 where
  pub young : List (Segments × Option Stamp)
  pub older : List (Segments × Option Stamp)
