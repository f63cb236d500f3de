-- The names that stand in a list after one more fell away, and after one more came.
use Rattle.std.proofs.Common.{◌≡◌, ◌≤◌, ◌<◌, ◌+◌, ℕ, Bool, true, false, cond, List, [], ◌∷◌, ◌++◌, Some, Option, length, map, drop, get_or, refl, sym, ◌∙◌, ap, arith, ⊎_elim}
use Rattle.std.specs.Prelude.{nat_le}
use Rattle.std.specs.Map.{lookup}
use Rattle.std.specs.Option.{option_map_or}
use Rattle.std.specs.Str.{bytes_eq}
use Rattle.std.proofs.Math.Seq.{drop-length}
use Rattle.std.proofs.lemmas.Bool.{cases_Bool, false_from_ne_true, leb-true, le-leb}
use Rattle.std.proofs.lemmas.List.{append-nil, append_assoc, drop_more}
use Rattle.resource_tree.specs.Kids.{other_kids}
use Rattle.tree_draft.specs.Falls.{NameFalls, FellWithin, fall_of, standing_names, stands}

-- ---- look-ups

lookup_shown : {K X : Type 0} (f : K → List ℕ) (test : List ℕ → Bool) (es : List (K × X)) → lookup test (map (λ (e : K × X). (f e.0, e.1)) es) ≡ lookup (λ k. test (f k)) es
lookup_shown f test [] = refl
lookup_shown f test ((k, v) ∷ es) = ap (λ r. cond (test (f k)) (Some v) r) (lookup_shown f test es)

-- a name's fall in a table, by its look-ups
pub fall_shown : {K : Type 0} (f : K → List ℕ) (entries : List (K × ℕ)) (name : List ℕ) → fall_of (map (λ (e : K × ℕ). (f e.0, e.1)) entries) name ≡ option_map_or (λ n. n) (lookup (λ k. bytes_eq name (f k)) entries) 0
fall_shown f entries name = ap (λ o. option_map_or (λ n. n) o 0) (lookup_shown f (bytes_eq name) entries)

or_set : (b : Bool) (n : ℕ) (o : Option ℕ) → option_map_or (λ n. n) (cond b (Some n) o) 0 ≡ cond b n (option_map_or (λ n. n) o 0)
or_set true n o = refl
or_set false n o = refl

-- after a fall is noted
pub noted : {K : Type 0} (f : K → List ℕ) (old new : List (K × ℕ)) (name : List ℕ) (n : ℕ) → ((t : List ℕ) → lookup (λ k. bytes_eq t (f k)) new ≡ cond (bytes_eq name t) (Some n) (lookup (λ k. bytes_eq t (f k)) old))
    → (t : List ℕ) → fall_of (map (λ (e : K × ℕ). (f e.0, e.1)) new) t ≡ cond (bytes_eq name t) n (fall_of (map (λ (e : K × ℕ). (f e.0, e.1)) old) t)
noted f old new name n is t =
    fall_shown f new t ∙ ap (λ o. option_map_or (λ n. n) o 0) (is t) ∙ or_set (bytes_eq name t) n (lookup (λ k. bytes_eq t (f k)) old) ∙ ap (cond (bytes_eq name t) n) (sym (fall_shown f old t))

-- ---- the names that stand

kept : (b : Bool) (name : List ℕ) (k : List ℕ) (xs ys : List (List ℕ)) → bytes_eq name k ≡ false → ys ≡ other_kids name xs → cond b (k ∷ ys) ys ≡ other_kids name (cond b (k ∷ xs) xs)
kept true name k xs ys apart is = rw (apart, is) refl
kept false name k xs ys apart is = is

gone : (b : Bool) (name : List ℕ) (k : List ℕ) (xs : List (List ℕ)) → bytes_eq name k ≡ true → other_kids name (cond b (k ∷ xs) xs) ≡ other_kids name xs
gone true name k xs same = rw same refl
gone false name k xs same = refl

-- a name that falls away when the list was no longer than this
pub standing_names-fallen : (old new : NameFalls) (name : List ℕ) (count place : ℕ) (names : List (List ℕ)) → ((t : List ℕ) → fall_of new t ≡ cond (bytes_eq name t) count (fall_of old t)) → place + length names ≤ count
    → standing_names new place names ≡ other_kids name (standing_names old place names)
unfolding standing_names
standing_names-fallen old new name count place [] is within = refl
standing_names-fallen old new name count place (k ∷ names) is within =
    let rest : standing_names new (place + 1) names ≡ other_kids name (standing_names old (place + 1) names) = standing_names-fallen old new name count (place + 1) names is (omega (arith, within)) in
    ⊎_elim
    (λ (same : bytes_eq name k ≡ true).
    let fall : fall_of new k ≡ count = is k ∙ ap (λ b. cond b count (fall_of old k)) same in
    let falls : stands new place k ≡ false = false_from_ne_true _ (λ e. let low : fall_of new k ≤ place = leb-true (fall_of new k) place e in absurd (omega (arith, low, fall, within))) in
    ap (λ b. cond b (k ∷ standing_names new (place + 1) names) (standing_names new (place + 1) names)) falls ∙ rest ∙ sym (gone (stands old place k) name k (standing_names old (place + 1) names) same))
    (λ (apart : bytes_eq name k ≡ false).
    let fall : fall_of new k ≡ fall_of old k = is k ∙ ap (λ b. cond b count (fall_of old k)) apart in
    ap (λ n. cond (nat_le n place) (k ∷ standing_names new (place + 1) names) (standing_names new (place + 1) names)) fall
    ∙ kept (stands old place k) name k (standing_names old (place + 1) names) (standing_names new (place + 1) names) apart rest)
    (cases_Bool (bytes_eq name k))

-- a name that comes at the end
pub standing_names-more : (falls : NameFalls) (place : ℕ) (names : List (List ℕ)) (name : List ℕ) → fall_of falls name ≤ place + length names → standing_names falls place (names ++ name ∷ []) ≡ standing_names falls place names ++ name ∷ []
unfolding standing_names
standing_names-more falls place [] name within =
    let here : stands falls place name ≡ true = le-leb (fall_of falls name) place (omega (arith, within)) in
    rw here refl
standing_names-more falls place (k ∷ names) name within =
    let rest : standing_names falls (place + 1) (names ++ name ∷ []) ≡ standing_names falls (place + 1) names ++ name ∷ [] = standing_names-more falls (place + 1) names name (omega (arith, within)) in
    ap (λ l. cond (stands falls place k) (k ∷ l) l) rest ∙ over_cond (stands falls place k) k (standing_names falls (place + 1) names) (name ∷ [])
  where
    over_cond : (b : Bool) (k : List ℕ) (xs ys : List (List ℕ)) → cond b (k ∷ (xs ++ ys)) (xs ++ ys) ≡ cond b (k ∷ xs) xs ++ ys
    over_cond true k xs ys = refl
    over_cond false k xs ys = refl

standing_names-nil : (place : ℕ) (names : List (List ℕ)) → standing_names [] place names ≡ names
unfolding standing_names
standing_names-nil place [] = refl
standing_names-nil place (k ∷ names) =
    let here : stands [] place k ≡ true = le-leb 0 place (omega arith) in
    ap (λ b. cond b (k ∷ standing_names [] (place + 1) names) (standing_names [] (place + 1) names)) here ∙ ap (λ l. k ∷ l) (standing_names-nil (place + 1) names)

-- without a fall each name stands
pub standing_names-none : (falls : NameFalls) (place : ℕ) (names : List (List ℕ)) → falls ≡ [] → standing_names falls place names ≡ names
standing_names-none falls place names none = ap (λ (f : NameFalls). standing_names f place names) none ∙ standing_names-nil place names

-- one more fall within a list
pub within-fallen : (old new : NameFalls) (name : List ℕ) (n count : ℕ) → FellWithin count old → n ≡ count → ((t : List ℕ) → fall_of new t ≡ cond (bytes_eq name t) n (fall_of old t)) → FellWithin count new
within-fallen old new name n count within all is t = ⊎_elim
    (λ (same : bytes_eq name t ≡ true). let fall : fall_of new t ≡ n = is t ∙ ap (λ b. cond b n (fall_of old t)) same in omega (arith, fall, all))
    (λ (apart : bytes_eq name t ≡ false). let fall : fall_of new t ≡ fall_of old t = is t ∙ ap (λ b. cond b n (fall_of old t)) apart in let low = within t in omega (arith, fall, low))
    (cases_Bool (bytes_eq name t))

-- a longer list
pub within-more : (falls : NameFalls) (count more : ℕ) → FellWithin count falls → count ≤ more → FellWithin more falls
within-more falls count more within grown t = let low = within t in omega (arith, low, grown)

-- no fall
pub within-none : (falls : NameFalls) (count : ℕ) → falls ≡ [] → FellWithin count falls
within-none falls count none t = let fall : fall_of falls t ≡ 0 = ap (λ (f : NameFalls). fall_of f t) none in omega (arith, fall)

-- ---- a walk over a list that gathers the names that stand

-- after one that stands
stood : (falls : NameFalls) (names : List (List ℕ)) (place : ℕ) (name : List ℕ) (so_far : List (List ℕ)) → place < length names → name ≡ get_or names place name → stands falls place name ≡ true
    → so_far ++ standing_names falls place (drop place names) ≡ standing_names falls 0 names → (so_far ++ name ∷ []) ++ standing_names falls (place + 1) (drop (place + 1) names) ≡ standing_names falls 0 names
unfolding standing_names
stood falls names place name so_far within item is all =
    let left : drop place names ≡ name ∷ drop (place + 1) names = drop_more names place name within ∙ ap (λ n. n ∷ drop (place + 1) names) (sym item) in
    append_assoc so_far (name ∷ []) (standing_names falls (place + 1) (drop (place + 1) names))
    ∙ ap (λ b. so_far ++ cond b (name ∷ standing_names falls (place + 1) (drop (place + 1) names)) (standing_names falls (place + 1) (drop (place + 1) names))) (sym is)
    ∙ ap (λ l. so_far ++ standing_names falls place l) (sym left)
    ∙ all

-- after one that fell away
passed : (falls : NameFalls) (names : List (List ℕ)) (place : ℕ) (name : List ℕ) (so_far : List (List ℕ)) → place < length names → name ≡ get_or names place name → stands falls place name ≡ false
    → so_far ++ standing_names falls place (drop place names) ≡ standing_names falls 0 names → so_far ++ standing_names falls (place + 1) (drop (place + 1) names) ≡ standing_names falls 0 names
unfolding standing_names
passed falls names place name so_far within item is all =
    let left : drop place names ≡ name ∷ drop (place + 1) names = drop_more names place name within ∙ ap (λ n. n ∷ drop (place + 1) names) (sym item) in
    ap (λ b. so_far ++ cond b (name ∷ standing_names falls (place + 1) (drop (place + 1) names)) (standing_names falls (place + 1) (drop (place + 1) names))) (sym is)
    ∙ ap (λ l. so_far ++ standing_names falls place l) (sym left)
    ∙ all

-- after one more
pub walked : (falls : NameFalls) (names : List (List ℕ)) (place : ℕ) (name : List ℕ) (so_far more : List (List ℕ)) → place < length names → name ≡ get_or names place name
    → more ≡ cond (stands falls place name) (so_far ++ name ∷ []) so_far → so_far ++ standing_names falls place (drop place names) ≡ standing_names falls 0 names → more ++ standing_names falls (place + 1) (drop (place + 1) names) ≡ standing_names falls 0 names
walked falls names place name so_far more within item is all = ⊎_elim
    (λ (yes : stands falls place name ≡ true). ap (λ l. l ++ standing_names falls (place + 1) (drop (place + 1) names)) (is ∙ ap (λ b. cond b (so_far ++ name ∷ []) so_far) yes) ∙ stood falls names place name so_far within item yes all)
    (λ (no : stands falls place name ≡ false). ap (λ l. l ++ standing_names falls (place + 1) (drop (place + 1) names)) (is ∙ ap (λ b. cond b (so_far ++ name ∷ []) so_far) no) ∙ passed falls names place name so_far within item no all)
    (cases_Bool (stands falls place name))

-- at the end
pub all_stand : (falls : NameFalls) (names : List (List ℕ)) (place : ℕ) (so_far : List (List ℕ)) → place ≡ length names → so_far ++ standing_names falls place (drop place names) ≡ standing_names falls 0 names → so_far ≡ standing_names falls 0 names
unfolding standing_names
all_stand falls names place so_far at_end all =
    let none : drop place names ≡ [] = ap (λ n. drop n names) at_end ∙ drop-length names in
    sym (append-nil so_far) ∙ ap (λ l. so_far ++ standing_names falls place l) (sym none) ∙ all
