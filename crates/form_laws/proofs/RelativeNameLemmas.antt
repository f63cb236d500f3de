-- Which relative names lead anywhere, and to what.
use Rattle.std.proofs.Common.{◌≡◌, ◌≤◌, ◌+◌, ◌-◌, ℕ, zero, suc, Bool, true, false, cond, ◌&&◌, ◌||◌, eqb, List, [], ◌∷◌, ◌++◌, Option, Some, None, take, length, filter, codes, refl, ap, sym, ◌∙◌, subst, arith, length-append}
use Rattle.std.specs.Prelude.{nat_le, option_and_then}
use Rattle.std.specs.Cmp.Lexicographic.{same_text}
use Rattle.std.specs.List.{list_all}
use Rattle.std.specs.Str.{bytes_eq}
use Rattle.std.proofs.lemmas.Bool.{and_parts, and_from, eqb-true, eq-eqb, leb-true, le-leb}
use Rattle.std.proofs.lemmas.List.{append_cancel_left, length-take, take_all}
use Rattle.std.proofs.lemmas.List.Folds.{list_all-append}
use Rattle.sp_base.specs.Texts.{Segments}
use Rattle.sp_base.specs.Paths.{is_path, path_in, path_or_none, pieces, seg_ok}
use Rattle.sp_base.specs.PathTexts.{spelling_of}
use Rattle.sp_base.proofs.PathTests.{segment_has_no_slash}
use Rattle.resource_tree.specs.MergeRoots.{is_merged_path}
use Rattle.post_plan.specs.RelativePaths.{RelativePath, relative_parent, relative_path_from, relative_path_of}
use Rattle.post_plan.specs.declared.spot.Spot.{Spot}
use Rattle.post_plan.specs.Spots.{any_spot, ends_in_name, full_path, if_changeable, is_absolute, led_to, relative_spot, spot_below, spot_of, spot_there}
use Rattle.form_laws.specs.RelativeNames.{is_climb, is_step, IsSpotOf, NamesPath, StaysWithin}
use Rattle.form_laws.proofs.DotLemmas.{first_slashed, led, path_ok, placed, some_is, step_by, up_grows}
use Rattle.form_laws.proofs.DotsAlone.{one_outcome, same_parts}

-- ---- how far a name climbs

-- how many of the first pieces have it
abbrev up_to : (List ℕ → Bool) → ℕ → Segments → ℕ
up_to p k qs = length (filter p (take k qs))

dot_or : (q : List ℕ) → bytes_eq q (codes ".") ≡ true → (is_climb q ≡ false) × (seg_ok q ≡ false)
dot_or q e = let same = same_text q (codes ".") (sym e) in (ap is_climb same, ap seg_ok same)

dots_or : (q : List ℕ) → bytes_eq q (codes "..") ≡ true → seg_ok q ≡ false
dots_or q e = ap seg_ok (same_text q (codes "..") (sym e))

some_below : (n : ℕ) → eqb n 0 ≡ false → 1 ≤ n
some_below zero e = absurd cc
some_below (suc n) e = omega arith

-- `..` after a segment takes it back, and else it leads up
parent_even : (r : RelativePath) → (relative_parent r).up + length r.down ≡ r.up + 1 + length (relative_parent r).down
parent_even r = go (eqb (length r.down) 0) refl
  where
    go : (x : Bool) → eqb (length r.down) 0 ≡ x
        → (cond x (let w : RelativePath = record { up = r.up + 1; down = [] } in w) (record { up = r.up; down = take (length r.down - 1) r.down })).up + length r.down
        ≡ r.up + 1 + length (cond x (let w : RelativePath = record { up = r.up + 1; down = [] } in w) (record { up = r.up; down = take (length r.down - 1) r.down })).down
    go true is = let none = eqb-true (length r.down) 0 is in omega (arith, none)
    go false is = let some = some_below (length r.down) is in let long = length-take (length r.down - 1) r.down in omega (arith, some, long)

parent_low : (r : RelativePath) (n : ℕ) → r.up ≤ n → r.up + 1 ≤ n + length r.down → (relative_parent r).up ≤ n
parent_low r n low more = go (eqb (length r.down) 0) refl
  where
    go : (x : Bool) → eqb (length r.down) 0 ≡ x → (cond x (let w : RelativePath = record { up = r.up + 1; down = [] } in w) (record { up = r.up; down = take (length r.down - 1) r.down })).up ≤ n
    go true is = let none = eqb-true (length r.down) 0 is in omega (arith, none, more)
    go false is = low

down_more : (r : RelativePath) (q : List ℕ) → length (r.down ++ q ∷ []) ≡ length r.down + 1
down_more r q = length-append r.down (q ∷ [])

within_to : (qs : Segments) (r final : RelativePath) (n k : ℕ) → relative_path_from r qs ≡ Some final → final.up ≤ n → r.up + up_to is_climb k qs ≤ n + length r.down + up_to seg_ok k qs
unfolding relative_path_from
within_to qs r final n zero e low = let more = up_grows qs r final e in omega (arith, more, low)
within_to [] r final n (suc k) e low = let same = ap (λ (w : RelativePath). w.up) (some_is r final e) in omega (arith, same, low)
within_to (q ∷ qs) r final n (suc k) e low = go (bytes_eq q (codes ".")) (bytes_eq q (codes "..")) (seg_ok q) refl refl refl (λ next f. within_to qs next final n k f low) e
  where
    counted : (c d : Bool) → is_climb q ≡ c → seg_ok q ≡ d → r.up + length (cond c (q ∷ filter is_climb (take k qs)) (filter is_climb (take k qs))) ≤ n + length r.down + length (cond d (q ∷ filter seg_ok (take k qs)) (filter seg_ok (take k qs)))
        → r.up + length (cond (is_climb q) (q ∷ filter is_climb (take k qs)) (filter is_climb (take k qs))) ≤ n + length r.down + length (cond (seg_ok q) (q ∷ filter seg_ok (take k qs)) (filter seg_ok (take k qs)))
    counted c d ec ed h =
        subst (λ (b : Bool). r.up + length (cond b (q ∷ filter is_climb (take k qs)) (filter is_climb (take k qs))) ≤ n + length r.down + length (cond (seg_ok q) (q ∷ filter seg_ok (take k qs)) (filter seg_ok (take k qs)))) (sym ec)
        (subst (λ (b : Bool). r.up + length (cond c (q ∷ filter is_climb (take k qs)) (filter is_climb (take k qs))) ≤ n + length r.down + length (cond b (q ∷ filter seg_ok (take k qs)) (filter seg_ok (take k qs)))) (sym ed) h)

    go : (p x s : Bool) → bytes_eq q (codes ".") ≡ p → bytes_eq q (codes "..") ≡ x → seg_ok q ≡ s
        → ((next : RelativePath) → relative_path_from next qs ≡ Some final → next.up + up_to is_climb k qs ≤ n + length next.down + up_to seg_ok k qs)
        → option_and_then (λ next. relative_path_from next qs) (step_by p x s r q) ≡ Some final
        → r.up + length (cond (is_climb q) (q ∷ filter is_climb (take k qs)) (filter is_climb (take k qs))) ≤ n + length r.down + length (cond (seg_ok q) (q ∷ filter seg_ok (take k qs)) (filter seg_ok (take k qs)))
    go true x s ep ex es ih f = let d = dot_or q ep in counted false false d.0 d.1 (ih r f)
    go false true s ep ex es ih f =
        let next = ih (relative_parent r) f in
        let even = parent_even r in
        counted true false ex (dots_or q ex) (omega (arith, next, even))
    go false false true ep ex es ih f =
        let next = ih (record { up = r.up; down = r.down ++ q ∷ [] }) f in
        let long = down_more r q in
        counted false true ex es (omega (arith, next, long))
    go false false false ep ex es ih f = absurd cc

within_from : (qs : Segments) (r final : RelativePath) (n : ℕ) → relative_path_from r qs ≡ Some final → r.up ≤ n → ((k : ℕ) → r.up + up_to is_climb k qs ≤ n + length r.down + up_to seg_ok k qs) → final.up ≤ n
unfolding relative_path_from
within_from [] r final n e low all = let same = ap (λ (w : RelativePath). w.up) (some_is r final e) in omega (arith, same, low)
within_from (q ∷ qs) r final n e low all = go (bytes_eq q (codes ".")) (bytes_eq q (codes "..")) (seg_ok q) refl refl refl (λ next f l a. within_from qs next final n f l a) (λ k. all (suc k)) e
  where
    go : (p x s : Bool) → bytes_eq q (codes ".") ≡ p → bytes_eq q (codes "..") ≡ x → seg_ok q ≡ s
        → ((next : RelativePath) → relative_path_from next qs ≡ Some final → next.up ≤ n → ((k : ℕ) → next.up + up_to is_climb k qs ≤ n + length next.down + up_to seg_ok k qs) → final.up ≤ n)
        → ((k : ℕ) → r.up + length (cond (is_climb q) (q ∷ filter is_climb (take k qs)) (filter is_climb (take k qs))) ≤ n + length r.down + length (cond (seg_ok q) (q ∷ filter seg_ok (take k qs)) (filter seg_ok (take k qs))))
        → option_and_then (λ next. relative_path_from next qs) (step_by p x s r q) ≡ Some final → final.up ≤ n
    go true x s ep ex es ih each f =
        let d = dot_or q ep in
        ih r f low (λ k. let at = subst (λ (b : Bool). r.up + length (cond b (q ∷ filter is_climb (take k qs)) (filter is_climb (take k qs))) ≤ n + length r.down + length (cond (seg_ok q) (q ∷ filter seg_ok (take k qs)) (filter seg_ok (take k qs)))) d.0 (each k) in
        subst (λ (b : Bool). r.up + up_to is_climb k qs ≤ n + length r.down + length (cond b (q ∷ filter seg_ok (take k qs)) (filter seg_ok (take k qs)))) d.1 at)
    go false true s ep ex es ih each f =
        let d = dots_or q ex in
        let even = parent_even r in
        let moved = λ (k : ℕ). (let at = subst (λ (b : Bool). r.up + length (cond b (q ∷ filter is_climb (take k qs)) (filter is_climb (take k qs))) ≤ n + length r.down + length (cond (seg_ok q) (q ∷ filter seg_ok (take k qs)) (filter seg_ok (take k qs)))) ex (each k) in
        subst (λ (b : Bool). r.up + suc (up_to is_climb k qs) ≤ n + length r.down + length (cond b (q ∷ filter seg_ok (take k qs)) (filter seg_ok (take k qs)))) d at) in
        let first : r.up + 1 ≤ n + length r.down = (let at = moved 0 in omega (arith, at)) in
        ih (relative_parent r) f (parent_low r n low first) (λ k. let at = moved k in omega (arith, at, even))
    go false false true ep ex es ih each f =
        let long = down_more r q in
        ih (record { up = r.up; down = r.down ++ q ∷ [] }) f low (λ k. let at = subst (λ (b : Bool). r.up + length (cond b (q ∷ filter is_climb (take k qs)) (filter is_climb (take k qs))) ≤ n + length r.down + length (cond (seg_ok q) (q ∷ filter seg_ok (take k qs)) (filter seg_ok (take k qs)))) ex (each k) in
        let last = subst (λ (b : Bool). r.up + up_to is_climb k qs ≤ n + length r.down + length (cond b (q ∷ filter seg_ok (take k qs)) (filter seg_ok (take k qs)))) es at in
        omega (arith, last, long))
    go false false false ep ex es ih each f = absurd cc

abbrev start : RelativePath
start = record { up = 0; down = [] }

stays_to : (text : List ℕ) (r : RelativePath) (n : ℕ) → relative_path_of text ≡ Some r → r.up ≤ n → StaysWithin n text
stays_to text r n e low k = let at = within_to (pieces text) start r n k e low in omega (arith, at)

stays_from : (text : List ℕ) (r : RelativePath) (n : ℕ) → relative_path_of text ≡ Some r → StaysWithin n text → r.up ≤ n
stays_from text r n e stays = within_from (pieces text) start r n e (omega arith) (λ k. let at = stays k in omega (arith, at))

-- ---- which names are read

abbrev Read : RelativePath → Segments → Type 0
Read r qs = (final : RelativePath) × (relative_path_from r qs ≡ Some final)

read_from : (qs : Segments) (r : RelativePath) → list_all is_step qs ≡ true → Read r qs
unfolding relative_path_from
read_from [] r e = (r, refl)
read_from (q ∷ qs) r e =
    let both = and_parts (is_step q) (list_all is_step qs) e in
    go (bytes_eq q (codes ".")) (bytes_eq q (codes "..")) (seg_ok q) both.0 (λ next. read_from qs next both.1)
  where
    go : (p x s : Bool) → ((p || x) || s) ≡ true → ((next : RelativePath) → Read next qs) → (final : RelativePath) × (option_and_then (λ next. relative_path_from next qs) (step_by p x s r q) ≡ Some final)
    go true x s f ih = ih r
    go false true s f ih = ih (relative_parent r)
    go false false true f ih = ih (record { up = r.up; down = r.down ++ q ∷ [] })
    go false false false f ih = absurd cc

read_to : (qs : Segments) (r final : RelativePath) → relative_path_from r qs ≡ Some final → list_all is_step qs ≡ true
unfolding relative_path_from
read_to [] r final e = refl
read_to (q ∷ qs) r final e = go (bytes_eq q (codes ".")) (bytes_eq q (codes "..")) (seg_ok q) (λ next f. read_to qs next final f) e
  where
    go : (p x s : Bool) → ((next : RelativePath) → relative_path_from next qs ≡ Some final → list_all is_step qs ≡ true) → option_and_then (λ next. relative_path_from next qs) (step_by p x s r q) ≡ Some final → (((p || x) || s) && list_all is_step qs) ≡ true
    go true x s ih f = ih r f
    go false true s ih f = ih (relative_parent r) f
    go false false true ih f = ih (record { up = r.up; down = r.down ++ q ∷ [] }) f
    go false false false ih f = absurd cc

pub ok_take : (k : ℕ) (segs : Segments) → list_all seg_ok segs ≡ true → list_all seg_ok (take k segs) ≡ true
ok_take zero segs e = refl
ok_take (suc k) [] e = refl
ok_take (suc k) (seg ∷ segs) e =
    let both = and_parts (seg_ok seg) (list_all seg_ok segs) e in
    and_from (seg_ok seg) (list_all seg_ok (take k segs)) both.0 (ok_take k segs both.1)

pub ok_both : (segs more : Segments) → list_all seg_ok segs ≡ true → list_all seg_ok more ≡ true → list_all seg_ok (segs ++ more) ≡ true
ok_both segs more e f = list_all-append seg_ok segs more ∙ and_from (list_all seg_ok segs) (list_all seg_ok more) e f

down_ok : (qs : Segments) (r final : RelativePath) → relative_path_from r qs ≡ Some final → list_all seg_ok r.down ≡ true → list_all seg_ok final.down ≡ true
unfolding relative_path_from
down_ok [] r final e ok = subst (λ (w : RelativePath). list_all seg_ok w.down ≡ true) (some_is r final e) ok
down_ok (q ∷ qs) r final e ok = go (bytes_eq q (codes ".")) (bytes_eq q (codes "..")) (seg_ok q) refl (λ next f fit. down_ok qs next final f fit) e
  where
    parent_ok : (x : Bool) → list_all seg_ok (cond x (let w : RelativePath = record { up = r.up + 1; down = [] } in w) (record { up = r.up; down = take (length r.down - 1) r.down })).down ≡ true
    parent_ok true = refl
    parent_ok false = ok_take (length r.down - 1) r.down ok

    go : (p x s : Bool) → seg_ok q ≡ s → ((next : RelativePath) → relative_path_from next qs ≡ Some final → list_all seg_ok next.down ≡ true → list_all seg_ok final.down ≡ true)
        → option_and_then (λ next. relative_path_from next qs) (step_by p x s r q) ≡ Some final → list_all seg_ok final.down ≡ true
    go true x s es ih f = ih r f ok
    go false true s es ih f = ih (relative_parent r) f (parent_ok (eqb (length r.down) 0))
    go false false true es ih f = ih (record { up = r.up; down = r.down ++ q ∷ [] }) f (ok_both r.down (q ∷ []) ok (and_from (seg_ok q) true es refl))
    go false false false es ih f = absurd cc

-- ---- segments that one text spells

slashed_same : (one other : Segments) → list_all seg_ok one ≡ true → list_all seg_ok other ≡ true → spelling_of one ≡ spelling_of other → one ≡ other
slashed_same [] [] w v e = refl
slashed_same [] (q ∷ qs) w v e = absurd cc
slashed_same (p ∷ ps) [] w v e = absurd cc
slashed_same (p ∷ ps) (q ∷ qs) w v e =
    let one = and_parts (seg_ok p) (list_all seg_ok ps) w in
    let other = and_parts (seg_ok q) (list_all seg_ok qs) v in
    let first = first_slashed p ps (segment_has_no_slash p one.0) in
    let second = first_slashed q qs (segment_has_no_slash q other.0) in
    let same = same_parts p q (spelling_of ps) (spelling_of qs) first.whole second.whole first.ends second.ends (tails e) in
    ap (λ (s : List ℕ). s ∷ ps) same.0 ∙ ap (λ (ss : Segments). q ∷ ss) (slashed_same ps qs one.1 other.1 same.1)
  where
    tails : spelling_of (p ∷ ps) ≡ spelling_of (q ∷ qs) → p ++ spelling_of ps ≡ q ++ spelling_of qs
    tails f = cc

-- ---- what a name names

led_ok : (node : Segments) (text : List ℕ) (r : RelativePath) → is_path node ≡ true → relative_path_of text ≡ Some r → list_all seg_ok (led node r) ≡ true
led_ok node text r ok e = ok_both (take (length node - r.up) node) r.down (ok_take (length node - r.up) node (path_ok node ok)) (down_ok (pieces text) start r e refl)

pub names_to : (node : Segments) (text : List ℕ) (r : RelativePath) → is_path node ≡ true → ends_in_name text ≡ true → relative_path_of text ≡ Some r → r.up ≤ length node → NamesPath node text (led node r)
names_to node text r ok name e low = record {
  steps = read_to (pieces text) start r e;
  last = name;
  within = stays_to text r (length node) e low;
  leads = placed node text r ok name e low;
}

-- how a name that names a path goes
pub record Goes (node : Segments) (text : List ℕ) (path : Segments) : Type 0 where
  pub by : RelativePath
  pub reads : relative_path_of text ≡ Some by
  pub low : by.up ≤ length node
  pub place : path ≡ led node by

pub names_from : (node : Segments) (text : List ℕ) (path : Segments) → is_path node ≡ true → list_all seg_ok path ≡ true → NamesPath node text path → Goes node text path
names_from node text path ok fit n =
    let r = read_from (pieces text) start n.steps in
    let low = stays_from text r.0 (length node) r.1 n.within in
    let same = one_outcome (spelling_of node ++ 47 ∷ text) [] (spelling_of path) (spelling_of (led node r.0)) n.leads (placed node text r.0 ok n.last r.1 low) in
    record { by = r.0; reads = r.1; low = low; place = slashed_same path (led node r.0) fit (led_ok node text r.0 ok r.1) same }

-- ---- spots

-- the path that is kept of where a relative path leads
abbrev kept_path : Segments → RelativePath → Segments
kept_path node r = cond (eqb r.up 0) r.down (led node r)

abbrev spot_at : Segments → RelativePath → Spot
spot_at node r = record { at_target = eqb r.up 0; path = kept_path node r }

all_of : (node : Segments) (r : RelativePath) → r.up ≡ 0 → take (length node - r.up) node ≡ node
all_of node r e = let none : length node - r.up ≡ length node = omega (arith, e) in ap (λ (k : ℕ). take k node) none ∙ take_all (length node) node (omega arith)

full_is : (node : Segments) (r : RelativePath) → full_path node (spot_at node r) ≡ led node r
full_is node r = go (eqb r.up 0) refl
  where
    go : (x : Bool) → eqb r.up 0 ≡ x → cond x (node ++ cond x r.down (led node r)) (cond x r.down (led node r)) ≡ led node r
    go true is = ap (λ (segs : Segments). segs ++ r.down) (sym (all_of node r (eqb-true r.up 0 is)))
    go false is = refl

spot_found : (node : Segments) (r : RelativePath) → r.up ≤ length node → is_path (kept_path node r) ≡ true → relative_spot node r ≡ Some (spot_at node r)
spot_found node r low fits = go (eqb r.up 0) fits
  where
    go : (x : Bool) → is_path (cond x r.down (led node r)) ≡ true → cond x (spot_below (path_or_none r.down)) (spot_there (led_to node r)) ≡ Some (record { at_target = x; path = cond x r.down (led node r) })
    go true f = ap (λ (b : Bool). spot_below (cond b (Some r.down) None)) f
    go false f = ap (λ (b : Bool). spot_there (cond b (path_or_none (led node r)) None)) (le-leb r.up (length node) low) ∙ ap (λ (b : Bool). spot_there (cond b (Some (led node r)) None)) f

-- where a relative path leads to a spot
record IsFound (node : Segments) (r : RelativePath) (spot : Spot) : Type 0 where
  pub low : r.up ≤ length node
  pub is : spot_at node r ≡ spot
  pub fits : is_path (kept_path node r) ≡ true

some_spot : (one other : Spot) → ◌≡◌ {A = Option Spot} (Some one) (Some other) → one ≡ other
some_spot one other e = cc

spot_finds : (node : Segments) (r : RelativePath) (spot : Spot) → relative_spot node r ≡ Some spot → IsFound node r spot
spot_finds node r spot e = go (eqb r.up 0) refl e
  where
    found : (x : Bool) → eqb r.up 0 ≡ x → r.up ≤ length node → (y : Bool) → is_path (cond x r.down (led node r)) ≡ y
        → (let one : Spot = record { at_target = x; path = cond x r.down (led node r) } in one) ≡ spot → y ≡ true → IsFound node r spot
    found x is low y fits same whole = record {
      low = low;
      is = ap (λ (b : Bool). (let one : Spot = record { at_target = b; path = cond b r.down (led node r) } in one)) is ∙ same;
      fits = ap (λ (b : Bool). is_path (cond b r.down (led node r))) is ∙ fits ∙ whole;
    }

    below : (y : Bool) → is_path r.down ≡ y → eqb r.up 0 ≡ true → spot_below (cond y (Some r.down) None) ≡ Some spot → IsFound node r spot
    below true fits is f = let none = eqb-true r.up 0 is in found true is (omega (arith, none)) true fits (some_spot (record { at_target = true; path = r.down }) spot f) refl
    below false fits is f = absurd cc

    there : (x y : Bool) → nat_le r.up (length node) ≡ x → is_path (led node r) ≡ y → eqb r.up 0 ≡ false → spot_there (cond x (cond y (Some (led node r)) None) None) ≡ Some spot → IsFound node r spot
    there true true low fits is f = found false is (leb-true r.up (length node) low) true fits (some_spot (record { at_target = false; path = led node r }) spot f) refl
    there true false low fits is f = absurd cc
    there false y low fits is f = absurd cc

    go : (x : Bool) → eqb r.up 0 ≡ x → cond x (spot_below (path_or_none r.down)) (spot_there (led_to node r)) ≡ Some spot → IsFound node r spot
    go true is f = below (is_path r.down) refl is f
    go false is f = there (nat_le r.up (length node)) (is_path (led node r)) refl refl is f

changeable : (b : Bool) (one other : Spot) → cond {A = Option Spot} b None (Some one) ≡ Some other → (b ≡ false) × (one ≡ other)
changeable true one other e = absurd cc
changeable false one other e = (refl, cc)

up_none : (n : ℕ) → n ≤ 0 → eqb n 0 ≡ true
up_none n low = eq-eqb n 0 (omega (arith, low))

spot_is : (node : Segments) (text : List ℕ) (spot : Spot) (r : RelativePath) → is_path node ≡ true → ends_in_name text ≡ true → relative_path_of text ≡ Some r → IsFound node r spot → is_merged_path (full_path node spot) ≡ false → IsSpotOf node text spot
spot_is node text spot r ok name reads found free =
    let place : led node r ≡ full_path node spot = sym (full_is node r) ∙ ap (full_path node) found.is in
    record {
      names = subst (λ (path : Segments). NamesPath node text path) place (names_to node text r ok name reads found.low);
      below = λ within. sym (ap (λ (s : Spot). s.at_target) found.is) ∙ up_none r.up (stays_from text r 0 reads within);
      stays = λ at. let none = eqb-true r.up 0 (ap (λ (s : Spot). s.at_target) found.is ∙ at) in stays_to text r 0 reads (omega (arith, none));
      fits = ap (λ (s : Spot). is_path s.path) (sym found.is) ∙ found.fits;
      changeable = free;
    }

pub spot_to : (node : Segments) (text : List ℕ) (spot : Spot) → is_path node ≡ true → is_absolute text ≡ false → spot_of node text ≡ Some spot → IsSpotOf node text spot
spot_to node text spot ok rel e = named (ends_in_name text) refl e
  where
    seen : (r : RelativePath) (s : Option Spot) → relative_path_of text ≡ Some r → ends_in_name text ≡ true → relative_spot node r ≡ s → option_and_then (if_changeable node) s ≡ Some spot → IsSpotOf node text spot
    seen r None is name at f = absurd cc
    seen r (Some one) is name at f =
        let c = changeable (is_merged_path (full_path node one)) one spot f in
        spot_is node text spot r ok name is (spot_finds node r spot (at ∙ ap Some c.1)) (sym (ap (λ (s : Spot). is_merged_path (full_path node s)) c.1) ∙ c.0)

    found : (o : Option RelativePath) → relative_path_of text ≡ o → ends_in_name text ≡ true → option_and_then (if_changeable node) (option_and_then (relative_spot node) o) ≡ Some spot → IsSpotOf node text spot
    found None is name f = absurd cc
    found (Some r) is name f = seen r (relative_spot node r) is name refl f

    relative : (x : Bool) → is_absolute text ≡ x → ends_in_name text ≡ true → option_and_then (if_changeable node) (any_spot node text) ≡ Some spot → IsSpotOf node text spot
    relative true is name f = absurd (let g : true ≡ false = sym is ∙ rel in cc)
    relative false is name f = found (relative_path_of text) refl name (rw is at f)

    named : (x : Bool) → ends_in_name text ≡ x → cond x (option_and_then (if_changeable node) (any_spot node text)) None ≡ Some spot → IsSpotOf node text spot
    named true is f = relative (is_absolute text) refl is f
    named false is f = absurd cc

same_spot : (at : Bool) (path : Segments) (node : Segments) (r : RelativePath) → eqb r.up 0 ≡ at → cond at (node ++ path) path ≡ led node r → (let spot : Spot = record { at_target = at; path = path } in spot) ≡ spot_at node r
same_spot true path node r is place =
    let kept : node ++ path ≡ node ++ r.down = place ∙ ap (λ (segs : Segments). segs ++ r.down) (all_of node r (eqb-true r.up 0 is)) in
    ap (λ (segs : Segments). (let spot : Spot = record { at_target = true; path = segs } in spot)) (append_cancel_left node path r.down kept)
    ∙ ap (λ (b : Bool). (let spot : Spot = record { at_target = b; path = cond b r.down (led node r) } in spot)) (sym is)
same_spot false path node r is place =
    ap (λ (segs : Segments). (let spot : Spot = record { at_target = false; path = segs } in spot)) place
    ∙ ap (λ (b : Bool). (let spot : Spot = record { at_target = b; path = cond b r.down (led node r) } in spot)) (sym is)

full_ok : (node : Segments) (at : Bool) (path : Segments) → is_path node ≡ true → is_path path ≡ true → list_all seg_ok (cond at (node ++ path) path) ≡ true
full_ok node true path ok fits = ok_both node path (path_ok node ok) (path_ok path fits)
full_ok node false path ok fits = path_ok path fits

at_is : (at : Bool) (text : List ℕ) (r : RelativePath) → relative_path_of text ≡ Some r → (StaysWithin 0 text → at ≡ true) → (at ≡ true → StaysWithin 0 text) → eqb r.up 0 ≡ at
at_is true text r reads below stays = up_none r.up (stays_from text r 0 reads (stays refl))
at_is false text r reads below stays = go (eqb r.up 0) refl
  where
    go : (x : Bool) → eqb r.up 0 ≡ x → x ≡ false
    go true is = let none = eqb-true r.up 0 is in sym (below (stays_to text r 0 reads (omega (arith, none))))
    go false is = refl

pub spot_from : (node : Segments) (text : List ℕ) (spot : Spot) → is_path node ≡ true → is_absolute text ≡ false → IsSpotOf node text spot → spot_of node text ≡ Some spot
spot_from node text spot ok rel s =
    let g = names_from node text (full_path node spot) ok (full_ok node spot.at_target spot.path ok s.fits) s.names in
    let is = same_spot spot.at_target spot.path node g.by (at_is spot.at_target text g.by g.reads s.below s.stays) g.place in
    let found = spot_found node g.by g.low (ap (λ (one : Spot). is_path one.path) (sym is) ∙ s.fits) in
    ap (λ (b : Bool). cond b (option_and_then (if_changeable node) (any_spot node text)) None) s.names.last
    ∙ ap (λ (b : Bool). option_and_then (if_changeable node) (cond b (spot_there (path_in text)) (option_and_then (relative_spot node) (relative_path_of text)))) rel
    ∙ ap (λ (o : Option RelativePath). option_and_then (if_changeable node) (option_and_then (relative_spot node) o)) g.reads
    ∙ ap (option_and_then (if_changeable node)) found
    ∙ ap (if_changeable node) (sym is)
    ∙ ap (λ (b : Bool). cond b None (Some spot)) s.changeable
