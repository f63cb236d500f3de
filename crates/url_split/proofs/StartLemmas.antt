-- Where the walk back over the dots of a text begins: what its prefixes read as, and how many slashes they have.
use Rattle.std.proofs.Common.{◌≡◌, ◌<◌, ◌≤◌, ◌-◌, ◌+◌, ◌==◌, ◌&&◌, ◌⊎◌, ⊎_elim, min, ◌∷◌, ◌++◌, [], List, ℕ, zero, suc, Bool, true, false, cond, Ok, Err, length, length-append, map, take, get_or, nat_le, not, refl, sym, ◌∙◌, ap, arith}
use Rattle.std.specs.Prelude.{Result}
use Rattle.std.specs.List.{count_by, list_all, onto_first}
use Rattle.std.proofs.lemmas.Bool.{cases_lt, cases_eq, and_parts, and_from, false≢true, false_from_ne_true, both_ways}
use Rattle.std.proofs.lemmas.Bool.Decides.{nat_tests}
use Rattle.std.proofs.lemmas.List.{get_or-map, length-map, take_more, take-take, take_all, length-take}
use Rattle.std.proofs.lemmas.List.Concat.{flat_map-append}
use Rattle.std.proofs.lemmas.List.Folds.{list_all-append}
use Rattle.std.proofs.lemmas.List.Splits.{length-slice_split}
use Rattle.std.proofs.lemmas.List.Sums.{count_by-le-length, sum_by-cons}
use Rattle.sp_base.specs.Bytes.{is_slash}
use Rattle.sp_base.specs.Paths.{path_or_fault, is_dots, is_empty, is_path, is_under, parent_of, path_of, has_slash, is_long, pieces, seg_ok, text_of}
use Rattle.sp_base.specs.PathTexts.{spelling_of}
use Rattle.sp_base.specs.declared.path.PathFault.{PathFault}
use Rattle.sp_base.specs.declared.path.PathFault.TheVariants.{NotAbsolute}
use Rattle.sp_base.proofs.PathLemmas.{first_path}
use Rattle.sp_base.proofs.PathPrefixes.{nothing_is_no_path, root_or_path, root_under}
use Rattle.sp_base.proofs.PathTests.{few_segments, under_first}
use Rattle.url_split.specs.Split.{IsCut}
use Rattle.url_split.specs.Walk.{HasParents, IsBeforeSlash, IsFitEnd, IsReached}

-- ---- what a text reads as

after_slash : (b : Bool) (r : Result (List (List ℕ)) PathFault) (path : List (List ℕ)) → cond b r (Err NotAbsolute) ≡ Ok path → (b ≡ true) × (r ≡ Ok path)
after_slash true r path e = (refl, e)
after_slash false r path e = absurd (cc e)

-- a text that reads as a path is a slash and nothing, or a slash and the path's segments
pub record IsReadOf (b : ℕ) (rest : List ℕ) (path : List (List ℕ)) : Type 0 where
  pub slash : is_slash b ≡ true
  pub path_is : ((is_empty rest ≡ true) × (path ≡ [])) ⊎ (path ≡ pieces rest)

pub read_is : (b : ℕ) (rest : List ℕ) (path : List (List ℕ)) → path_of (b ∷ rest) ≡ Ok path → IsReadOf b rest path
read_is b rest path e =
    let parts = after_slash (b == 47) (cond (is_empty rest) (Ok []) (path_or_fault (pieces rest))) path e in
    record { slash = parts.0; path_is = root_or_path (is_empty rest) (pieces rest) path parts.1 }

-- ---- slashes

count_first : (p : ℕ → Bool) (b : ℕ) (text : List ℕ) → count_by p (b ∷ text) ≡ cond (p b) 1 0 + count_by p text
count_first p b text = sum_by-cons (λ c. cond (p c) 1 0) b text

one_more : (p : ℕ → Bool) (b : ℕ) (text : List ℕ) → p b ≡ true → count_by p (b ∷ text) ≡ count_by p text + 1
one_more p b text is =
    let one : cond (p b) 1 0 ≡ 1 = ap {B = ℕ} (λ t. cond t 1 0) is in
    omega (arith, count_first p b text, one)

no_byte : (text : List ℕ) → is_empty text ≡ true → length text ≡ 0
no_byte text e = grind (arith, nat_tests)

none_in : (p : ℕ → Bool) (text : List ℕ) → is_empty text ≡ true → count_by p text ≡ 0
none_in p text e = omega (arith, count_by-le-length p text, no_byte text e)

-- a text that reads as a path has as many slashes as the path has segments, the root one
slashes_read : (text : List ℕ) (path : List (List ℕ)) (most : ℕ) → 1 ≤ most → path_of text ≡ Ok path → length path ≤ most → count_by is_slash text ≤ most
slashes_read [] path most some e few = absurd (cc e)
slashes_read (b ∷ rest) path most some e few =
    let read = read_is b rest path e in
    let more = one_more is_slash b rest read.slash in
    ⊎_elim
    (λ (root : (is_empty rest ≡ true) × (path ≡ [])). omega (arith, some, more, none_in is_slash rest root.0))
    (λ (same : path ≡ pieces rest). omega (arith, few, more, ap length same, length-slice_split is_slash rest))
    read.path_is

count_kept : (p : ℕ → Bool) (b : ℕ) (text more : List ℕ) (n : ℕ) → count_by p text + n ≤ count_by p more → count_by p (b ∷ text) + n ≤ count_by p (b ∷ more)
count_kept p b text more n le = omega (arith, le, count_first p b text, count_first p b more)

-- a longer prefix has the slashes of a shorter one, and the one after it
slashes_after : (text : List ℕ) (s k : ℕ) → s < k → k ≤ length text → is_slash (get_or text s 0) ≡ true → count_by is_slash (take s text) + 1 ≤ count_by is_slash (take k text)
slashes_after [] s k less within is = absurd (omega (arith, less, within))
slashes_after (b ∷ text) s zero less within is = absurd (omega (arith, less))
slashes_after (b ∷ text) zero (suc k) less within is = omega (arith, one_more is_slash b (take k text) is)
slashes_after (b ∷ text) (suc s) (suc k) less within is =
    count_kept is_slash b (take s text) (take k text) 1 (slashes_after text s k (omega (arith, less)) (omega (arith, within)) is)

-- ---- the pieces of a text's beginning

-- some pieces, but for the last, are the first of others
abbrev AreFirst : List (List ℕ) → List (List ℕ) → Type 0
AreFirst [] others = ⊥
AreFirst (piece ∷ few) [] = ⊥
AreFirst (piece ∷ few) (other ∷ others) = take (length few) (piece ∷ few) ≡ take (length few) (other ∷ others)

first_cut : (few others : List (List ℕ)) → AreFirst few others → AreFirst ([] ∷ few) ([] ∷ others)
first_cut [] others h = absurd h
first_cut (piece ∷ few) [] h = absurd h
first_cut (piece ∷ few) (other ∷ others) h = ap (λ ps. [] ∷ ps) h

first_onto : (b : ℕ) (few others : List (List ℕ)) → AreFirst few others → AreFirst (onto_first b few) (onto_first b others)
first_onto b [] others h = absurd h
first_onto b (piece ∷ few) [] h = absurd h
first_onto b (piece ∷ []) (other ∷ others) h = refl
first_onto b (piece ∷ next ∷ few) (other ∷ others) h =
    let same : piece ≡ other = cc (h) in
    let rest : take (length few) (next ∷ few) ≡ take (length few) others = cc (h) in
    ap (λ p. (b ∷ p) ∷ take (length few) (next ∷ few)) same ∙ ap (λ ps. (b ∷ other) ∷ ps) rest

onto_some : (b : ℕ) (parts : List (List ℕ)) (piece : List ℕ) → AreFirst (piece ∷ []) parts → AreFirst (piece ∷ []) (onto_first b parts)
onto_some b [] piece h = absurd h
onto_some b (part ∷ parts) piece h = refl

one_piece : (text : List ℕ) (piece : List ℕ) → AreFirst (piece ∷ []) (pieces text)
one_piece [] piece = refl
one_piece (b ∷ text) piece =
    elim (is_slash b) as (λ t. AreFirst (piece ∷ []) (cond t ([] ∷ pieces text) (onto_first b (pieces text)))) [
      | true ↦ refl
      | false ↦ onto_some b (pieces text) piece (one_piece text piece)
    ]

first_pieces : (text : List ℕ) (n : ℕ) → AreFirst (pieces (take n text)) (pieces text)
first_pieces [] zero = refl
first_pieces [] (suc n) = refl
first_pieces (b ∷ text) zero = one_piece (b ∷ text) []
first_pieces (b ∷ text) (suc n) =
    elim (is_slash b) as (λ t. AreFirst (cond t ([] ∷ pieces (take n text)) (onto_first b (pieces (take n text)))) (cond t ([] ∷ pieces text) (onto_first b (pieces text)))) [
      | true ↦ first_cut (pieces (take n text)) (pieces text) (first_pieces text n)
      | false ↦ first_onto b (pieces (take n text)) (pieces text) (first_pieces text n)
    ]

first_parent : (few others : List (List ℕ)) → AreFirst few others → parent_of few ≡ take (length few - 1) others
first_parent [] others h = absurd h
first_parent (piece ∷ few) [] h = absurd h
first_parent (piece ∷ few) (other ∷ others) h =
    let n : length (piece ∷ few) - 1 ≡ length few = omega arith in
    ap (λ m. take m (piece ∷ few)) n ∙ h ∙ ap (λ m. take m (other ∷ others)) (sym n)

-- ---- the first pieces that make a path

-- as many first pieces as make a path begin with all first pieces that do
first_under : (parts path : List (List ℕ)) (i n : ℕ) → path ≡ take i parts → (length parts ≤ i) ⊎ (is_path (take (i + 1) parts) ≡ false) → is_path (take n parts) ≡ true → is_under path (take n parts) ≡ true
first_under parts path i n is ends valid = ⊎_elim
    (λ (less : n < i + 1). ap (is_under path) (sym (ap (take n) is ∙ take-take n i parts (omega (arith, less)))) ∙ under_first path n)
    (λ (more : i + 1 ≤ n).
    ⊎_elim
    (λ (all : length parts ≤ i). ap (is_under path) (take_all n parts (omega (arith, all, more)) ∙ sym (is ∙ take_all i parts all) ∙ sym (take_all (length path) path (omega arith))) ∙ under_first path (length path))
    (λ (fails : is_path (take (i + 1) parts) ≡ false).
    absurd (false≢true (sym fails ∙ ap is_path (sym (take-take (i + 1) n parts more)) ∙ first_path (take n parts) (i + 1) valid)))
    ends)
    (cases_lt n (i + 1))

-- one more of some pieces, read off a list of references
next_of : {A : Type 0} (f : A → List ℕ) (items : List A) (i : ℕ) (d : A) → i < length items → take (i + 1) (map f items) ≡ take i (map f items) ++ f (get_or items i d) ∷ []
next_of f items i d within =
    take_more (map f items) i [] (omega (arith, within, length-map items f)) ∙ ap (λ q. take i (map f items) ++ q ∷ []) (get_or-map f items i d [] within)

all_next : (segs : List (List ℕ)) (seg : List ℕ) → list_all seg_ok (segs ++ seg ∷ []) ≡ (list_all seg_ok segs && (seg_ok seg && true))
all_next segs seg = list_all-append seg_ok segs (seg ∷ [])

pub fit_next : {A : Type 0} (f : A → List ℕ) (items : List A) (i : ℕ) (d : A) → i < length items → i < 64 → is_path (take i (map f items)) ≡ true → seg_ok (f (get_or items i d)) ≡ true → is_path (take (i + 1) (map f items)) ≡ true
fit_next f items i d within few fit ok =
    let parts = map f items in
    let old = (and_parts (list_all seg_ok (take i parts)) (nat_le (length (take i parts)) 64) fit).0 in
    let new : list_all seg_ok (take (i + 1) parts) ≡ true = ap (list_all seg_ok) (next_of f items i d within) ∙ all_next (take i parts) (f (get_or items i d)) ∙ and_from _ _ old (and_from _ _ ok refl) in
    let size : length (take (i + 1) parts) ≤ 64 = omega (arith, few, length-take (i + 1) parts) in
    and_from (list_all seg_ok (take (i + 1) parts)) (nat_le (length (take (i + 1) parts)) 64) new (grind (arith, nat_tests))

pub bytes_next : {A : Type 0} (f : A → List ℕ) (items : List A) (many i end : ℕ) (d : A) → many ≡ i → i < length items → end ≡ length (spelling_of (take many (map f items))) → end + (1 + length (f (get_or items i d))) ≡ length (spelling_of (take (many + 1) (map f items)))
bytes_next f items many i end d same within is =
    let parts = map f items in
    let q = f (get_or items i d) in
    let old : end ≡ length (spelling_of (take i parts)) = is ∙ ap (λ n. length (spelling_of (take n parts))) same in
    let whole : length (spelling_of (take (i + 1) parts)) ≡ length (spelling_of (take i parts)) + length (spelling_of (q ∷ [])) =
    ap (λ segs. length (spelling_of segs)) (next_of f items i d within) ∙ ap length (flat_map-append (λ s. 47 ∷ s) (take i parts) (q ∷ [])) ∙ length-append (spelling_of (take i parts)) (spelling_of (q ∷ [])) in
    let goal_is : length (spelling_of (take (many + 1) parts)) ≡ length (spelling_of (take (i + 1) parts)) = ap (λ n. length (spelling_of (take (n + 1) parts))) same in
    omega (arith, old, whole, goal_is, length-append q [])

pub too_many : {A : Type 0} (f : A → List ℕ) (items : List A) → 64 < length items → is_path (take (64 + 1) (map f items)) ≡ false
too_many f items more =
    let parts = map f items in
    let size : length (take (64 + 1) parts) ≡ 65 = omega (arith, more, length-map items f, length-take (64 + 1) parts) in
    false_from_ne_true (is_path (take (64 + 1) parts)) (λ path. let few = few_segments (take (64 + 1) parts) path in omega (arith, few, size))

pub unfit_next : {A : Type 0} (f : A → List ℕ) (items : List A) (i : ℕ) (d : A) → i < length items → seg_ok (f (get_or items i d)) ≡ false → is_path (take (i + 1) (map f items)) ≡ false
unfit_next f items i d within bad =
    let parts = map f items in
    let q = f (get_or items i d) in
    false_from_ne_true (is_path (take (i + 1) parts)) (λ path.
    let all = (and_parts (list_all seg_ok (take (i + 1) parts)) (nat_le (length (take (i + 1) parts)) 64) path).0 in
    let last = (and_parts (list_all seg_ok (take i parts)) (seg_ok q && true) (sym (all_next (take i parts) q) ∙ ap (list_all seg_ok) (sym (next_of f items i d within)) ∙ all)).1 in
    both_ways (seg_ok q) bad (and_parts (seg_ok q) true last).0)

pub short_segment : (seg : List ℕ) → seg_ok seg ≡ true → length seg ≤ 200
short_segment seg ok =
    let whole : (not (is_dots seg) && (not (is_long seg) && not (has_slash seg))) ≡ true = (and_parts (not (is_empty seg)) (not (is_dots seg) && (not (is_long seg) && not (has_slash seg))) ok).1 in
    let rest : (not (is_long seg) && not (has_slash seg)) ≡ true = (and_parts (not (is_dots seg)) (not (is_long seg) && not (has_slash seg)) whole).1 in
    let short : not (is_long seg) ≡ true = (and_parts (not (is_long seg)) (not (has_slash seg)) rest).0 in
    grind (arith, nat_tests)

-- what a text reads as is a path
abbrev pub AreValid : Type 0
AreValid = (text : List ℕ) (path : List (List ℕ)) → path_of text ≡ Ok path → is_path path ≡ true

parent_under : (b : ℕ) (rest : List ℕ) (path read : List (List ℕ)) (i n : ℕ) → path ≡ take i (pieces rest) → (length (pieces rest) ≤ i) ⊎ (is_path (take (i + 1) (pieces rest)) ≡ false) → AreValid
    → path_of (b ∷ take n rest) ≡ Ok read → is_under path (parent_of read) ≡ true
parent_under b rest path read i n is ends valid e = ⊎_elim
    (λ (root : (is_empty (take n rest) ≡ true) × (read ≡ [])). root_under path read root.1)
    (λ (same : read ≡ pieces (take n rest)).
    let first : parent_of read ≡ take (length read - 1) (pieces rest) =
    ap parent_of same ∙ first_parent (pieces (take n rest)) (pieces rest) (first_pieces rest n) ∙ ap (λ segs. take (length segs - 1) (pieces rest)) (sym same) in
    let good = first_path read (length read - 1) (valid (b ∷ take n rest) read e) in
    ap (is_under path) first ∙ first_under (pieces rest) path i (length read - 1) is ends (sym (ap is_path first) ∙ good))
    (read_is b (take n rest) read e).path_is

pub parents_of_pieces : (text rest : List ℕ) (path : List (List ℕ)) (end : ℕ) → text ≡ 47 ∷ rest → (fit : IsFitEnd (pieces rest) end) → path ≡ take fit.many (pieces rest) → AreValid → HasParents text path
parents_of_pieces text rest path end is fit path_is valid zero read within e = absurd (nothing_is_no_path read e)
parents_of_pieces text rest path end is fit path_is valid (suc n) read within e =
    parent_under 47 rest path read fit.many n path_is fit.ends valid (ap (λ t. path_of (take (suc n) t)) (sym is) ∙ e)

-- the first pieces are spelled by a prefix of the text
text_spelled : (segs : List (List ℕ)) → 0 < length (spelling_of segs) → text_of segs ≡ spelling_of segs
text_spelled [] some = absurd (omega (arith, some))
text_spelled (seg ∷ segs) some = refl

no_bytes : (segs : List (List ℕ)) → length (spelling_of segs) ≡ 0 → segs ≡ []
no_bytes [] e = refl
no_bytes (seg ∷ segs) e = absurd (omega (arith, e))

some_many : (parts : List (List ℕ)) (n end : ℕ) → end ≡ length (spelling_of (take n parts)) → 0 < end → 0 < n
some_many [] zero end is some = absurd (omega (arith, is, some))
some_many (p ∷ parts) zero end is some = absurd (omega (arith, is, some))
some_many parts (suc n) end is some = omega arith

-- the paths of no pieces
pub none_fit : (parts : List (List ℕ)) (end : ℕ) (fit : IsFitEnd parts end) → end ≡ 0 → [] ≡ take fit.many parts
none_fit parts end fit none = sym (no_bytes (take fit.many parts) (sym fit.bytes ∙ none))

pub one_path : (path read : List (List ℕ)) (r : Result (List (List ℕ)) PathFault) → r ≡ Ok path → r ≡ Ok read → path ≡ read
one_path path read r a b = cc

abbrev pub AreFirstTexts : Type 0
AreFirstTexts = (path : List (List ℕ)) (n : ℕ) → 0 < n → text_of (take n path) ≡ take (length (text_of (take n path))) (text_of path)

abbrev pub AreSlashed : Type 0
AreSlashed = (path : List (List ℕ)) (n : ℕ) → 0 < n → length (text_of (take n path)) < length (text_of path) → get_or (text_of path) (length (text_of (take n path))) 0 ≡ 47

whole_text : (text rest : List ℕ) → text ≡ 47 ∷ rest → spelling_of (pieces rest) ≡ 47 ∷ rest → text_of (pieces rest) ≡ text
whole_text text rest is spells = text_spelled (pieces rest) (omega (arith, ap length spells)) ∙ spells ∙ sym is

pub prefix_is : (text rest : List ℕ) (end : ℕ) → text ≡ 47 ∷ rest → spelling_of (pieces rest) ≡ 47 ∷ rest → AreFirstTexts → (fit : IsFitEnd (pieces rest) end) → 0 < end → take end text ≡ text_of (take fit.many (pieces rest))
prefix_is text rest end is spells first fit some =
    let leading = take fit.many (pieces rest) in
    let size : length (text_of leading) ≡ end = ap length (text_spelled leading (omega (arith, fit.bytes, some))) ∙ sym fit.bytes in
    ap (λ t. take end t) (sym (whole_text text rest is spells)) ∙ ap (λ n. take n (text_of (pieces rest))) (sym size) ∙ sym (first (pieces rest) fit.many (some_many (pieces rest) fit.many end fit.bytes some))

-- a slash follows it, unless it is the whole text
pub prefix_slash : (text rest : List ℕ) (end : ℕ) → text ≡ 47 ∷ rest → spelling_of (pieces rest) ≡ 47 ∷ rest → AreSlashed → (fit : IsFitEnd (pieces rest) end) → 0 < end → end < length text → get_or text end 0 ≡ 47
prefix_slash text rest end is spells slash fit some less =
    let leading = take fit.many (pieces rest) in
    let size : length (text_of leading) ≡ end = ap length (text_spelled leading (omega (arith, fit.bytes, some))) ∙ sym fit.bytes in
    let whole = whole_text text rest is spells in
    ap (λ t. get_or t end 0) (sym whole) ∙ ap (λ n. get_or (text_of (pieces rest)) n 0) (sym size)
    ∙ slash (pieces rest) fit.many (some_many (pieces rest) fit.many end fit.bytes some) (omega (arith, size, less, ap length whole))

pub prefix_within : (text rest : List ℕ) (end : ℕ) → text ≡ 47 ∷ rest → spelling_of (pieces rest) ≡ 47 ∷ rest → AreFirstTexts → (fit : IsFitEnd (pieces rest) end) → 0 < end → end ≤ length text
prefix_within text rest end is spells first fit some =
    let leading = take fit.many (pieces rest) in
    let size : length (text_of leading) ≡ end = ap length (text_spelled leading (omega (arith, fit.bytes, some))) ∙ sym fit.bytes in
    omega (arith, size, ap length (prefix_is text rest end is spells first fit some), length-take end text)

slash_is : (b : ℕ) → is_slash b ≡ true → b ≡ 47
slash_is b e = grind (arith, nat_tests)

-- no prefix of another text reads as a path
pub parents_of_none : (text : List ℕ) (path : List (List ℕ)) → ((rest : List ℕ) → text ≡ 47 ∷ rest → ⊥) → HasParents text path
parents_of_none [] path none zero read within e = absurd (nothing_is_no_path read e)
parents_of_none [] path none (suc n) read within e = absurd (nothing_is_no_path read e)
parents_of_none (b ∷ rest) path none zero read within e = absurd (nothing_is_no_path read e)
parents_of_none (b ∷ rest) path none (suc n) read within e =
    let slash : b ≡ 47 = slash_is b (read_is b (take n rest) read e).slash in absurd (none rest (ap (λ c. c ∷ rest) slash))

-- ---- from where a text is walked back

not_cut : (text : List ℕ) (k : ℕ) → k < length text → get_or text k 0 ≡ 47 → IsCut text k → ⊥
not_cut text k within slash cut = ⊎_elim (λ end. omega (arith, end, within)) (λ dot. omega (arith, slash, dot.1)) cut

-- the pieces of a text, one more than known paths may reach above their last
pub reached_is : (known : List (List ℕ) → Bool) (text start : List ℕ) (path : List (List ℕ)) (n most : ℕ) → most ≡ min n 64 + 1 → HasParents text path
    → ((other : List (List ℕ)) → known other ≡ true → is_under path (parent_of other) ≡ true → length other ≤ n + 1) → AreValid → IsBeforeSlash most text start → IsReached known text start
reached_is known text start path n most is parents reach valid before = record {
  begins = before.begins;
  all = λ k read lo hi leads.
      ⊎_elim
      (λ (whole : length start ≡ length text). omega (arith, whole, lo, hi))
      (λ (there : (length start < length text) × (get_or text (length start) 0 ≡ 47) × (count_by is_slash (take (length start) text) ≡ most)).
      let deep = reach read leads.there (parents k read (omega (arith, hi)) leads.reads) in
      let few = few_segments read (valid (take k text) read leads.reads) in
      let slashes = slashes_read (take k text) read most (omega (arith, is)) leads.reads (omega (arith, is, deep, few)) in
      ⊎_elim
      (λ (same : k ≡ length start). not_cut text k hi (ap (λ i. get_or text i 0) same ∙ there.1) leads.cut)
      (λ other.
      omega (arith, slashes, there.2, slashes_after text (length start) k (omega (arith, lo, other)) (omega (arith, hi)) (ap is_slash there.1)))
      (cases_eq k (length start)))
      before.ends;
}
