-- How many resources are shown, one level and one kid at a time, and the greatest depth that fits.
use Rattle.std.proofs.Common.{◌≡◌, ◌+◌, ◌-◌, ◌<◌, ◌≤◌, ◌++◌, ℕ, zero, suc, List, [], ◌∷◌, length, take, get_or, Option, Some, None, Bool, true, false, cond, refl, sym, ◌∙◌, ap, subst, ⊎_elim, arith}
use Rattle.std.specs.Prelude.{flat_map, sum_by, nat_le}
use Rattle.std.proofs.lemmas.Bool.{cases_lt, le-leb, lt-leb}
use Rattle.std.proofs.lemmas.List.{take_more, append-nil, nil_from_length}
use Rattle.std.proofs.lemmas.List.Concat.{flat_map-append, length-flat_map}
use Rattle.std.proofs.lemmas.List.Sums.{sum_by-cons, sum_by-append, sum_by-le-sum_by, sum_by-take-le}
use Rattle.resource_tree.specs.Seen.{Resource, Seen}
use Rattle.get_servlet.specs.declared.kids.Kid.{Kid}
use Rattle.get_servlet.specs.Rendering.{shown_kid, kid_count, shown_at, shown_count, greatest_fitting}
use Rattle.get_servlet.specs.Steps.{kid_list, kids_under, shown_kids, next_level, shown_among}
use Rattle.get_servlet.specs.Answers.{IsOver}

-- ---- how many resources are shown

-- how many resources the kids of these names show
unfoldable shown_below : Seen → ℕ → List (List ℕ) → Resource → List (List ℕ) → ℕ
shown_below seen depth path res names = sum_by (λ name. kid_count (shown_at seen depth) (shown_kid seen path res name)) names

shown_at-positive : (seen : Seen) (depth : ℕ) (path : List (List ℕ)) (res : Resource) → 1 ≤ shown_at seen depth path res
unfolding shown_at
shown_at-positive seen zero path res = omega arith
shown_at-positive seen (suc depth) path res = omega arith

shown_at-top : (seen : Seen) (depth : ℕ) (path : List (List ℕ)) (res : Resource) → depth ≡ 0 → shown_at seen depth path res ≡ 1
unfolding shown_at
shown_at-top seen depth path res e = ap (λ d. shown_at seen d path res) e

shown_at-deep : (seen : Seen) (depth below : ℕ) (path : List (List ℕ)) (res : Resource) → depth ≡ suc below
    → shown_at seen depth path res ≡ 1 + shown_below seen below path res res.kids
unfolding shown_at shown_below
shown_at-deep seen depth below path res e = ap (λ d. shown_at seen d path res) e

-- ---- more levels show no fewer

kid_count-grows : (f g : List (List ℕ) → Resource → ℕ) → ((path : List (List ℕ)) (res : Resource) → f path res ≤ g path res) → (kid : Option Kid) → kid_count f kid ≤ kid_count g kid
kid_count-grows f g le None = omega arith
kid_count-grows f g le (Some kid) = le kid.path kid.res

shown_below-grows : (seen : Seen) (depth : ℕ) → ((path : List (List ℕ)) (res : Resource) → shown_at seen depth path res ≤ shown_at seen (suc depth) path res)
    → (path : List (List ℕ)) (res : Resource) (names : List (List ℕ)) → shown_below seen depth path res names ≤ shown_below seen (suc depth) path res names
unfolding shown_below
shown_below-grows seen depth le path res names =
    sum_by-le-sum_by (λ n. kid_count (shown_at seen depth) (shown_kid seen path res n)) (λ n. kid_count (shown_at seen (suc depth)) (shown_kid seen path res n)) names
    (λ n. kid_count-grows (shown_at seen depth) (shown_at seen (suc depth)) le (shown_kid seen path res n))

shown_at-grows : (seen : Seen) (depth : ℕ) (path : List (List ℕ)) (res : Resource) → shown_at seen depth path res ≤ shown_at seen (suc depth) path res
shown_at-grows seen zero path res = omega (arith, shown_at-top seen zero path res refl, shown_at-positive seen (suc zero) path res)
shown_at-grows seen (suc depth) path res =
    omega (arith, shown_at-deep seen (suc depth) depth path res refl, shown_at-deep seen (suc (suc depth)) (suc depth) path res refl, shown_below-grows seen depth (shown_at-grows seen depth) path res res.kids)

pub shown-grows : (seen : Seen) (res : Resource) (low high : ℕ) → low ≤ high → shown_count seen res low ≤ shown_count seen res high
shown-grows seen res low zero le = let e : low ≡ 0 = omega arith in omega (arith, ap (shown_count seen res) e)
shown-grows seen res low (suc high) le =
    ⊎_elim (λ lt. omega (arith, shown-grows seen res low high (omega (arith, lt)), shown_at-grows seen high res.path res))
    (λ ge. let e : low ≡ suc high = omega (arith, ge) in omega (arith, ap (shown_count seen res) e)) (cases_lt low (suc high))

one_either : (b : Bool) (n : ℕ) → n ≡ cond b n n
one_either true n = refl
one_either false n = refl

greatest_here : (count : ℕ → ℕ) (most depth : ℕ) → most ≡ suc depth → (1 < most → count most ≤ 1000) → most ≡ greatest_fitting count (suc depth)
unfolding greatest_fitting
greatest_here count most zero e fits = e ∙ one_either (nat_le (count 1) 1000) 1
greatest_here count most (suc depth) e fits = let le : count (suc (suc depth)) ≤ 1000 = subst (λ n. count n ≤ 1000) e (fits (omega arith)) in rw (le-leb (count (suc (suc depth))) 1000 le) e

greatest_is : (count : ℕ → ℕ) (most depth : ℕ) → 1 ≤ most → most ≤ depth → (1 < most → count most ≤ 1000) → ((k : ℕ) → most < k → 1000 < count k)
    → most ≡ greatest_fitting count depth
unfolding greatest_fitting
greatest_is count most zero least le fits deeper = absurd (omega arith)
greatest_is count most (suc depth) least le fits deeper =
    ⊎_elim (λ lt. rw (lt-leb (count (suc depth)) 1000 (deeper (suc depth) lt)) (greatest_is count most depth least (omega (arith, lt)) fits deeper))
    (λ ge. greatest_here count most depth (omega (arith, ge)) fits)
    (cases_lt most (suc depth))

pub greatest_from_over : (seen : Seen) (res : Resource) (depth most : ℕ) → IsOver seen res depth most → most ≡ greatest_fitting (shown_count seen res) depth
greatest_from_over seen res depth most over = greatest_is (shown_count seen res) most depth over.least (omega (arith, over.below)) over.fits over.deeper

-- all levels fit
pub all_fit : (count : ℕ → ℕ) (depth : ℕ) → 1 ≤ depth → count depth ≤ 1000 → depth ≡ greatest_fitting count depth
all_fit count zero some le = absurd (omega (arith, some))
all_fit count (suc depth) some le = greatest_here count (suc depth) depth refl (λ _. le)

-- the next level does not
pub stops : (seen : Seen) (res : Resource) (depth most : ℕ) → 1 ≤ most → most < depth → (1 < most → shown_count seen res most ≤ 1000) → 1000 < shown_count seen res (most + 1)
    → most ≡ greatest_fitting (shown_count seen res) depth
stops seen res depth most least below fits next =
    greatest_is (shown_count seen res) most depth least (omega (arith, below)) fits (λ k lt. omega (arith, next, shown-grows seen res (most + 1) k (omega (arith, lt))))

-- ---- a level at a time

listed : (count : List (List ℕ) → Resource → ℕ) (kid : Option Kid) → sum_by (λ k. count k.path k.res) (kid_list kid) ≡ kid_count count kid
listed count None = refl
listed count (Some kid) = omega (arith, sum_by-cons (λ (k : Kid). count k.path k.res) kid [])

under : (count : List (List ℕ) → Resource → ℕ) (kid : List ℕ → Option Kid) (names : List (List ℕ))
    → sum_by (λ k. count k.path k.res) (flat_map (λ name. kid_list (kid name)) names) ≡ sum_by (λ name. kid_count count (kid name)) names
under count kid [] = refl
under count kid (name ∷ names) =
    omega (
      arith,
      sum_by-append (λ (k : Kid). count k.path k.res) (kid_list (kid name)) (flat_map (λ n. kid_list (kid n)) names),
      listed count (kid name),
      under count kid names,
      sum_by-cons (λ n. kid_count count (kid n)) name names,
    )

pub shown_at-kids : (seen : Seen) (depth : ℕ) (path : List (List ℕ)) (res : Resource) → shown_at seen (suc depth) path res ≡ 1 + shown_among seen depth (shown_kids seen path res)
unfolding shown_at shown_among kids_under
shown_at-kids seen depth path res = omega (arith, under (shown_at seen depth) (shown_kid seen path res) res.kids)

pub among_top : (seen : Seen) (level : List Kid) → shown_among seen 0 level ≡ length level
unfolding shown_among shown_at
among_top seen [] = refl
among_top seen (kid ∷ level) = omega (arith, sum_by-cons (λ (k : Kid). shown_at seen 0 k.path k.res) kid level, among_top seen level)

pub among_deep : (seen : Seen) (depth : ℕ) (level : List Kid) → shown_among seen (suc depth) level ≡ length level + shown_among seen depth (next_level seen level)
unfolding shown_among next_level
among_deep seen depth [] = refl
among_deep seen depth (kid ∷ level) =
    let count = λ (d : ℕ) (k : Kid). shown_at seen d k.path k.res in
    omega (
      arith,
      sum_by-cons (count (suc depth)) kid level,
      sum_by-append (count depth) (shown_kids seen kid.path kid.res) (flat_map (λ k. shown_kids seen k.path k.res) level),
      kid_deep seen depth kid,
      among_deep seen depth level,
    )
  where
    kid_deep : (seen : Seen) (depth : ℕ) (kid : Kid) → shown_at seen (suc depth) kid.path kid.res ≡ 1 + shown_among seen depth (shown_kids seen kid.path kid.res)
    kid_deep seen depth kid = shown_at-kids seen depth kid.path kid.res

among_none : (seen : Seen) (depth : ℕ) → shown_among seen depth [] ≡ 0
unfolding shown_among
among_none seen depth = refl

-- the kids at this depth, and the room beside the resources above them
pub record IsLevel (seen : Seen) (res : Resource) (reached room : ℕ) (level : List Kid) : Type 0 where
  pub counts : (more : ℕ) → shown_count seen res (reached + more) + room ≡ 1000 + shown_among seen more level
  pub fits : length level ≤ room

pub first_level : (seen : Seen) (res : Resource) (path : List (List ℕ)) (level : List Kid) → path ≡ res.path → level ≡ shown_kids seen path res → length level ≤ 999 → IsLevel seen res 1 999 level
first_level seen res path level at is le = record {
  counts = λ more.
      let same : suc more ≡ 1 + more = omega arith in
      omega (arith, shown_at-kids seen more res.path res, ap (shown_count seen res) same, ap (shown_among seen more) (is ∙ ap (λ p. shown_kids seen p res) at));
  fits = le;
}

pub first_over : (seen : Seen) (res : Resource) (path : List (List ℕ)) (depth : ℕ) → path ≡ res.path → 1 < depth → 999 < length (shown_kids seen path res)
    → 1 ≡ greatest_fitting (shown_count seen res) depth
first_over seen res path depth at deep over =
    greatest_is (shown_count seen res) 1 depth (omega arith) (omega (arith, deep)) (λ lt. absurd (omega (arith, lt)))
    (λ k lt. omega (arith, over, shown_at-kids seen 0 res.path res, among_top seen (shown_kids seen res.path res), ap (λ p. length (shown_kids seen p res)) at, shown-grows seen res 1 k (omega (arith, lt))))

pub level_more : (seen : Seen) (res : Resource) (reached room left : ℕ) (level next : List Kid) → IsLevel seen res reached room level → left + length level ≡ room
    → next ≡ next_level seen level → length next ≤ left → IsLevel seen res (reached + 1) left next
level_more seen res reached room left level next is less more le = record {
  counts = λ n.
      let same : reached + 1 + n ≡ reached + suc n = omega arith in
      omega (arith, less, ap (shown_count seen res) same, is.counts (suc n), among_deep seen n level, ap (shown_among seen n) more);
  fits = le;
}

pub level_fits : (seen : Seen) (res : Resource) (reached room : ℕ) (level : List Kid) → IsLevel seen res reached room level → shown_count seen res reached ≤ 1000
level_fits seen res reached room level is =
    let same : reached + 0 ≡ reached = omega arith in
    omega (arith, is.counts 0, is.fits, among_top seen level, ap (shown_count seen res) same)

pub level_over : (seen : Seen) (res : Resource) (depth reached room left : ℕ) (level : List Kid) → IsLevel seen res reached room level → 1 ≤ reached → reached < depth
    → left + length level ≡ room → left < length (next_level seen level) → reached ≡ greatest_fitting (shown_count seen res) depth
level_over seen res depth reached room left level is least below less over =
    stops seen res depth reached least below (λ _. level_fits seen res reached room level is)
    (omega (arith, less, over, is.counts 1, among_deep seen 0 level, among_top seen (next_level seen level)))

pub none_deeper : (seen : Seen) (res : Resource) (depth reached room : ℕ) (level : List Kid) → IsLevel seen res reached room level → length level ≡ 0 → 1 ≤ reached → reached ≤ depth
    → depth ≡ greatest_fitting (shown_count seen res) depth
none_deeper seen res depth reached room level is none least le =
    let same : reached + (depth - reached) ≡ depth = omega (arith, le) in
    all_fit (shown_count seen res) depth (omega (arith, least, le))
    (omega (arith, is.counts (depth - reached), ap (shown_among seen (depth - reached)) (nil_from_length level none), among_none seen (depth - reached), ap (shown_count seen res) same))

-- ---- the names of a resource's kids

pub kids_under-nil : (seen : Seen) (path : List (List ℕ)) (res : Resource) → kids_under seen path res [] ≡ []
unfolding kids_under
kids_under-nil seen path res = refl

pub kids_under-more : (seen : Seen) (path : List (List ℕ)) (res : Resource) (first names : List (List ℕ)) (name text : List ℕ) → names ≡ first ++ name ∷ [] → text ≡ name
    → kids_under seen path res names ≡ kids_under seen path res first ++ kid_list (shown_kid seen path res text)
unfolding kids_under
kids_under-more seen path res first names name text more same =
    let f = λ (n : List ℕ). kid_list (shown_kid seen path res n) in
    ap (flat_map f) more ∙ flat_map-append f first (name ∷ []) ∙ ap (λ ks. flat_map f first ++ ks) (append-nil (f name)) ∙ ap (λ n. flat_map f first ++ f n) (sym same)

taken : {A B : Type 0} (f : A → List B) (xs : List A) (i : ℕ) → length (flat_map f (take i xs)) ≤ length (flat_map f xs)
taken f xs i = omega (arith, length-flat_map f (take i xs), length-flat_map f xs, sum_by-take-le (λ x. length (f x)) xs i)

pub kids_under-taken : (seen : Seen) (path : List (List ℕ)) (res : Resource) (i : ℕ) → length (kids_under seen path res (take i res.kids)) ≤ length (shown_kids seen path res)
unfolding kids_under
kids_under-taken seen path res i = taken (λ n. kid_list (shown_kid seen path res n)) res.kids i

pub next_level-nil : (seen : Seen) → next_level seen [] ≡ []
unfolding next_level
next_level-nil seen = refl

pub next_level-more : (seen : Seen) (level : List Kid) (i : ℕ) (kid : Kid) → i < length level → kid ≡ get_or level i kid
    → next_level seen (take (i + 1) level) ≡ next_level seen (take i level) ++ shown_kids seen kid.path kid.res
unfolding next_level
next_level-more seen level i kid lt is =
    let f = λ (k : Kid). shown_kids seen k.path k.res in
    ap (flat_map f) (take_more level i kid lt ∙ ap (λ k. take i level ++ k ∷ []) (sym is)) ∙ flat_map-append f (take i level) (kid ∷ [])
    ∙ ap (λ ks. flat_map f (take i level) ++ ks) (append-nil (f kid))

pub next_level-taken : (seen : Seen) (level : List Kid) (i : ℕ) → length (next_level seen (take i level)) ≤ length (next_level seen level)
unfolding next_level
next_level-taken seen level i = taken (λ (k : Kid). shown_kids seen k.path k.res) level i
