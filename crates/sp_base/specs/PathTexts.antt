-- A path's text in memory, and how its order and its ancestors are read off it. `is_unfit`, `fault_after`, `byte_order` and `text_order`
-- are needed by private functions and proofs alone.
use Rattle.std.specs.Prelude.{◌≡◌, ◌==◌, ◌&&◌, ◌||◌, ◌+◌, IsTrue, true, ℕ, Bool, nat_eq, not, if◌then◌else◌, List, [], ◌∷◌, Option, Some, drop, length, flat_map}
use Rattle.std.specs.List.{list_any, list_all, position_from, starts_with}
use Rattle.std.specs.Ordering.{nat_cmp}
use Rattle.std.specs.declared.cmp.Ordering.{Ordering}
use Rattle.std.specs.declared.cmp.Ordering.TheVariants.{Less, Equal, Greater}
use Rattle.sp_base.specs.Texts.{PathText, Segments}
use Rattle.sp_base.specs.declared.path.PathFault.{PathFault}
use Rattle.sp_base.specs.declared.path.PathFault.TheVariants.{EmptySegment, DotSegment}
use Rattle.sp_base.specs.Paths.{is_empty, is_dots, is_long, has_slash, is_path, pieces, size_fault, is_under}

-- a piece that is no segment, whatever stands beside it
abbrev pub is_unfit : List ℕ → Bool
is_unfit piece = is_empty piece || (is_dots piece || is_long piece)

-- why segments of a path and pieces after them are no path
abbrev pub fault_after : ℕ → Segments → Option PathFault
fault_after before parts = if list_any is_empty parts then Some EmptySegment else (if list_any is_dots parts then Some DotSegment else size_fault (position_from is_long before parts) (before + length parts))

-- a slash before each segment: a path's text in memory, empty for the root
abbrev pub spelling_of : Segments → PathText
spelling_of segs = flat_map (λ s. 47 ∷ s) segs

-- segments without a slash, which a text with a slash before each keeps apart
abbrev pub lack_slashes : Segments → Bool
lack_slashes segs = list_all (λ seg. not (has_slash seg)) segs

-- the segments of such a text: the pieces after its first slash
unfoldable pub segs_in : PathText → Segments
segs_in text = drop 1 (pieces text)

-- a text that spells a path
pub record IsPathText (text : PathText) : Type 0 where
  pub valid : IsTrue (is_path (segs_in text))
  pub whole : spelling_of (segs_in text) ≡ text

-- bytes that differ, where a slash is below every other
abbrev pub byte_order : ℕ → ℕ → Ordering
byte_order x y = if x == 47 then Less else (if y == 47 then Greater else nat_cmp x y)

-- texts by the first byte that differs, where the end is below every byte
abbrev pub text_order : List ℕ → List ℕ → Ordering
text_order [] [] = Equal
text_order [] (y ∷ b) = Less
text_order (x ∷ a) [] = Greater
text_order (x ∷ a) (y ∷ b) = if x == y then text_order a b else byte_order x y

-- the end, or a slash
abbrev pub ends_segment : List ℕ → Bool
ends_segment [] = true
ends_segment (b ∷ text) = b == 47

-- the first text begins with the second, and a segment ends there
abbrev pub text_under : List ℕ → List ℕ → Bool
text_under text other = starts_with nat_eq text other && ends_segment (drop (length other) text)

-- whether the first of two such paths is under the second is read off their texts
abbrev pub SpellingsTell : Segments → Segments → Type 0
SpellingsTell path other = text_under (spelling_of path) (spelling_of other) ≡ is_under path other
