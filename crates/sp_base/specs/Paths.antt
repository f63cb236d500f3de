-- What a path is, the text that spells it, and what is made of one.
use Rattle.std.specs.Prelude.{◌==◌, ◌&&◌, ◌||◌, ◌++◌, ◌-◌, ℕ, Bool, not, nat_eq, nat_lt, nat_le, if◌then◌else◌, List, [], ◌∷◌, Option, Some, None, Result, Ok, Err, codes, drop, take, length, flat_map, map, slice_index_or, ◌≡◌, ◌≤◌, true, slice_index}
use Rattle.std.specs.List.{list_any, list_all, position, slice_split, starts_with}
use Rattle.std.specs.Result.{result_ok}
use Rattle.std.specs.Cmp.Lexicographic.{pointwise, slice_cmp}
use Rattle.std.specs.Ordering.{nat_cmp}
use Rattle.std.specs.declared.cmp.Ordering.{Ordering}
use Rattle.sp_base.specs.Texts.{Segments}
use Rattle.sp_base.specs.declared.path.PathFault.{PathFault}
use Rattle.sp_base.specs.declared.path.PathFault.TheVariants.{NotAbsolute, EmptySegment, DotSegment, LongSegment, TooDeep}

-- paths are ordered segment by segment, and segments by their bytes
abbrev pub by_path : Segments → Segments → Ordering
by_path = slice_cmp (slice_cmp nat_cmp)

-- a segment without bytes
abbrev pub is_empty : List ℕ → Bool
is_empty seg = length seg == 0

-- `.` and `..` name no segment
abbrev pub is_dots : List ℕ → Bool
is_dots seg = pointwise nat_eq seg (codes ".") || pointwise nat_eq seg (codes "..")

-- the most bytes of a segment
abbrev pub longest_segment : ℕ
longest_segment = 200

-- the most segments of a path
abbrev pub most_segments : ℕ
most_segments = 64

-- a segment has at most `longest_segment` bytes
abbrev pub is_long : List ℕ → Bool
is_long seg = nat_lt longest_segment (length seg)

-- a segment with a slash in it, which is none of a path
abbrev pub has_slash : List ℕ → Bool
has_slash seg = list_any (λ b. b == 47) seg

-- a name that may be a segment
abbrev pub seg_ok : List ℕ → Bool
seg_ok name = not (is_empty name) && (not (is_dots name) && (not (is_long name) && not (has_slash name)))

-- segments that make a path: at most `most_segments`
abbrev pub is_path : Segments → Bool
is_path segs = list_all seg_ok segs && nat_le (length segs) most_segments

-- the segments as a path, where they make one
abbrev pub path_or_none : Segments → Option Segments
path_or_none segs = if is_path segs then Some segs else None

-- why pieces that are neither empty nor dots are no path: the place of the first long one, else their number where there are too many
abbrev pub size_fault : Option ℕ → ℕ → Option PathFault
size_fault (Some place) n = Some (LongSegment place)
size_fault None n = if nat_lt most_segments n then Some TooDeep else None

-- why segments are no path, where they are none: an empty one, else one of dots, else the first long one, else their number
abbrev pub fault_of : Segments → Option PathFault
fault_of segs = if list_any is_empty segs then Some EmptySegment else (if list_any is_dots segs then Some DotSegment else size_fault (position is_long segs) (length segs))

-- the segments, or the fault where there is one
abbrev pub unless_fault : Option PathFault → Segments → Result Segments PathFault
unless_fault None segs = Ok segs
unless_fault (Some fault) segs = Err fault

-- the path of these pieces
abbrev pub path_or_fault : Segments → Result Segments PathFault
path_or_fault segs = unless_fault (fault_of segs) segs

-- the pieces of a text between its slashes
abbrev pub pieces : List ℕ → Segments
pieces text = slice_split (λ b. b == 47) text

-- the path that a text spells: `/`, or a slash before each segment
abbrev pub path_of : List ℕ → Result Segments PathFault
path_of [] = Err NotAbsolute
path_of (b ∷ text) = if b == 47 then (if is_empty text then Ok [] else path_or_fault (pieces text)) else Err NotAbsolute

-- the path that a text spells, where it spells one
abbrev pub path_in : List ℕ → Option Segments
path_in text = result_ok (path_of text)

-- the path with a name after it
abbrev pub child_of : Segments → List ℕ → Result Segments PathFault
child_of segs name = path_or_fault (segs ++ pieces name)

-- one path after another
abbrev pub join_of : Segments → Segments → Result Segments PathFault
join_of segs rest = path_or_fault (segs ++ rest)

-- the path without its last segment: the root's parent is the root
abbrev pub parent_of : Segments → Segments
parent_of segs = take (length segs - 1) segs

-- the last segment, which names what is at the path; empty for the root
abbrev pub name_of : Segments → List ℕ
name_of segs = slice_index_or segs (length segs - 1) []

-- the text that spells a path
abbrev pub text_of : Segments → List ℕ
text_of [] = codes "/"
text_of (seg ∷ segs) = flat_map (λ s. 47 ∷ s) (seg ∷ segs)

-- the first path begins with all segments of the second
abbrev pub is_under : Segments → Segments → Bool
is_under path other = starts_with (pointwise nat_eq) path other

-- the segment begins with a namespace mark such as `_jcr_`, and goes on
abbrev pub is_mangled : List ℕ → List ℕ → Bool
is_mangled namespace_mark seg = starts_with nat_eq seg namespace_mark && nat_lt (length namespace_mark) (length seg)

-- a prefix in place of the namespace mark at the beginning
abbrev pub unmangled_by : List ℕ → List ℕ → List ℕ → List ℕ
unmangled_by namespace_mark prefix seg = prefix ++ drop (length namespace_mark) seg

-- the segment with its namespace prefix as it stands in the repository: `_jcr_content` is `jcr:content`
-- (Apache Sling, "Mappings for resource resolution", namespace mangling)
abbrev pub unmangled_seg : List ℕ → List ℕ
unmangled_seg seg = if is_mangled (codes "_jcr_") seg then unmangled_by (codes "_jcr_") (codes "jcr:") seg
    else (if is_mangled (codes "_sling_") seg then unmangled_by (codes "_sling_") (codes "sling:") seg
    else (if is_mangled (codes "_nt_") seg then unmangled_by (codes "_nt_") (codes "nt:") seg
    else (if is_mangled (codes "_cq_") seg then unmangled_by (codes "_cq_") (codes "cq:") seg else seg)))

-- each segment with its namespace prefix as it stands in the repository
abbrev pub unmangled_segs : Segments → Segments
unmangled_segs segs = map unmangled_seg segs

-- the segment begins with a namespace prefix such as `jcr:`, and goes on
abbrev pub is_namespaced : List ℕ → List ℕ → Bool
is_namespaced prefix seg = starts_with nat_eq seg prefix && nat_lt (length prefix) (length seg)

-- a namespace mark in place of the prefix at the beginning
abbrev pub mangled_by : List ℕ → List ℕ → List ℕ → List ℕ
mangled_by prefix namespace_mark seg = namespace_mark ++ drop (length prefix) seg

-- the segment with its namespace prefix as it stands in URLs: `jcr:content` is `_jcr_content`
abbrev pub mangled_seg : List ℕ → List ℕ
mangled_seg seg = if is_namespaced (codes "jcr:") seg then mangled_by (codes "jcr:") (codes "_jcr_") seg
    else (if is_namespaced (codes "sling:") seg then mangled_by (codes "sling:") (codes "_sling_") seg
    else (if is_namespaced (codes "nt:") seg then mangled_by (codes "nt:") (codes "_nt_") seg
    else (if is_namespaced (codes "cq:") seg then mangled_by (codes "cq:") (codes "_cq_") seg else seg)))

-- each segment with its namespace prefix as it stands in URLs
abbrev pub mangled_segs : Segments → Segments
mangled_segs segs = map mangled_seg segs

-- the mangled path: a segment of 200 bytes may become too long
abbrev pub mangled_of : Segments → Result Segments PathFault
mangled_of segs = path_or_fault (mangled_segs segs)

-- the first `n` bytes of the path's text read as this path
abbrev pub IsReadUpTo : Segments → ℕ → Segments → Type 0
IsReadUpTo path n read = path_of (take n (text_of path)) ≡ Ok read

-- the path is under the parent of that one
abbrev pub IsUnderParentOf : Segments → Segments → Type 0
IsUnderParentOf path read = is_under path (parent_of read) ≡ true

-- where that has no more segments than so many, they are no more bytes than those of as many first segments
abbrev pub FitsIfShort : Segments → ℕ → Segments → ℕ → Type 0
FitsIfShort path n read most = length read ≤ most → n ≤ length (text_of (take most path))

-- a slash follows the first `n` segments
abbrev pub HasSlashAfter : Segments → ℕ → Type 0
HasSlashAfter path n = slice_index (text_of path) (length (text_of (take n path))) ≡ 47
