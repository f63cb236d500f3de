-- Where a relative name leads is what is left of its text, put after the node's, once the dot segments are removed.
use Rattle.std.proofs.Common.{◌≡◌, ◌≤◌, ◌+◌, ◌-◌, inl, ℕ, zero, suc, Bool, true, false, cond, not, ◌&&◌, eqb, List, [], ◌∷◌, ◌++◌, Option, Some, None, take, length, get_or, codes, refl, ap, sym, ◌∙◌, subst, arith, append_assoc}
use Rattle.std.specs.Prelude.{nat_le, option_and_then}
use Rattle.std.specs.Cmp.Lexicographic.{same_text}
use Rattle.std.specs.List.{list_all, onto_first}
use Rattle.std.specs.Str.{bytes_eq}
use Rattle.std.proofs.lemmas.Bool.{and_parts, and_from, not-true, eqb-true}
use Rattle.std.proofs.lemmas.Bool.Decides.{nat_tests}
use Rattle.std.proofs.lemmas.List.{append-nil, nil_from_length, take_all, take_more}
use Rattle.sp_base.specs.Texts.{Segments}
use Rattle.sp_base.specs.Paths.{has_slash, is_dots, is_empty, is_long, seg_ok, is_path, pieces}
use Rattle.sp_base.specs.PathTexts.{ends_segment, spelling_of}
use Rattle.sp_base.proofs.PathTests.{segment_has_no_slash}
use Rattle.sp_base.proofs.PathText.{spelled-pieces}
use Rattle.post_plan.specs.RelativePaths.{RelativePath, relative_parent, relative_path_from, relative_path_of}
use Rattle.post_plan.specs.Spots.{ends_in_name}
use Rattle.form_laws.specs.DotSegments.{HasFirstSegment, or_slash, RemovesDots}

-- ---- segments and their text

abbrev pub is_whole : List ℕ → Bool
is_whole seg = not (has_slash seg)

ok_no_dots : (seg : List ℕ) → seg_ok seg ≡ true → is_dots seg ≡ false
ok_no_dots seg e = not-true (is_dots seg) (and_parts (not (is_dots seg)) (not (is_long seg) && not (has_slash seg)) (and_parts (not (is_empty seg)) (not (is_dots seg) && (not (is_long seg) && not (has_slash seg))) e).1).0

pub all_whole : (segs : Segments) → list_all seg_ok segs ≡ true → list_all is_whole segs ≡ true
all_whole [] e = refl
all_whole (seg ∷ segs) e =
    let both = and_parts (seg_ok seg) (list_all seg_ok segs) e in
    rw (segment_has_no_slash seg both.0, all_whole segs both.1) refl

pub slashed_append : (segs more : Segments) → spelling_of (segs ++ more) ≡ spelling_of segs ++ spelling_of more
slashed_append [] more = refl
slashed_append (seg ∷ segs) more = ap (λ (s : List ℕ). 47 ∷ (seg ++ s)) (slashed_append segs more) ∙ ap (λ (s : List ℕ). 47 ∷ s) (sym (append_assoc seg (spelling_of segs) (spelling_of more)))

slashed_more : (segs : Segments) (seg : List ℕ) → spelling_of (segs ++ seg ∷ []) ≡ spelling_of segs ++ 47 ∷ seg
slashed_more segs seg = slashed_append segs (seg ∷ []) ∙ ap (λ (s : List ℕ). spelling_of segs ++ 47 ∷ s) (append-nil seg)

ends_slashed : (segs : Segments) → ends_segment (spelling_of segs) ≡ true
ends_slashed [] = refl
ends_slashed (seg ∷ segs) = refl

pub first_slashed : (seg : List ℕ) (segs : Segments) → has_slash seg ≡ false → HasFirstSegment (spelling_of (seg ∷ segs)) seg (spelling_of segs)
first_slashed seg segs whole = record { spells = refl; whole = whole; ends = ends_slashed segs }

some_split : (text : List ℕ) → (first : List ℕ) × (more : Segments) × (pieces text ≡ first ∷ more)
some_split [] = ([], [], refl)
some_split (b ∷ text) = let s = some_split text in go (eqb b 47) s.0 s.1 s.2
  where
    go : (x : Bool) (first : List ℕ) (more : Segments) → pieces text ≡ first ∷ more → (one : List ℕ) × (rest : Segments) × (cond x ([] ∷ pieces text) (onto_first b (pieces text)) ≡ one ∷ rest)
    go true first more e = ([], pieces text, refl)
    go false first more e = (b ∷ first, more, ap (onto_first b) e)

-- ---- steps

moves : (done : Segments) (seg : List ℕ) (segs : Segments) (result : List ℕ) → seg_ok seg ≡ true → RemovesDots (spelling_of segs) (spelling_of (done ++ seg ∷ [])) result → RemovesDots (spelling_of (seg ∷ segs)) (spelling_of done) result
moves done seg segs result ok d = RemovesDots.Moves seg (spelling_of segs) (first_slashed seg segs (segment_has_no_slash seg ok)) (ok_no_dots seg ok) (subst (λ (o : List ℕ). RemovesDots (spelling_of segs) o result) (slashed_more done seg) d)

moves_all : (done node segs : Segments) (result : List ℕ) → list_all seg_ok node ≡ true → RemovesDots (spelling_of segs) (spelling_of (done ++ node)) result → RemovesDots (spelling_of (node ++ segs)) (spelling_of done) result
moves_all done [] segs result ok d = subst (λ (o : Segments). RemovesDots (spelling_of segs) (spelling_of o) result) (append-nil done) d
moves_all done (seg ∷ node) segs result ok d =
    let both = and_parts (seg_ok seg) (list_all seg_ok node) ok in
    moves done seg (node ++ segs) result both.0
    (moves_all (done ++ seg ∷ []) node segs result both.1 (subst (λ (o : Segments). RemovesDots (spelling_of segs) (spelling_of o) result) (sym (append_assoc done (seg ∷ []) node)) d))

-- where a relative path has led so far
abbrev pub led : Segments → RelativePath → Segments
led node r = take (length node - r.up) node ++ r.down

last_of : (segs : Segments) → 1 ≤ length segs → segs ≡ take (length segs - 1) segs ++ get_or segs (length segs - 1) [] ∷ []
last_of segs some =
    let n : length segs - 1 + 1 ≡ length segs = omega (arith, some) in
    sym (take_all (length segs) segs (omega arith)) ∙ ap (λ (k : ℕ). take k segs) (sym n) ∙ take_more segs (length segs - 1) [] (omega (arith, some))

whole_at : (segs : Segments) (k : ℕ) → list_all is_whole segs ≡ true → has_slash (get_or segs k []) ≡ false
whole_at [] k e = refl
whole_at (seg ∷ segs) zero e = not-true (has_slash seg) (and_parts (is_whole seg) (list_all is_whole segs) e).0
whole_at (seg ∷ segs) (suc k) e = whole_at segs k (and_parts (is_whole seg) (list_all is_whole segs) e).1

whole_take : (k : ℕ) (segs : Segments) → list_all is_whole segs ≡ true → list_all is_whole (take k segs) ≡ true
whole_take zero segs e = refl
whole_take (suc k) [] e = refl
whole_take (suc k) (seg ∷ segs) e =
    let both = and_parts (is_whole seg) (list_all is_whole segs) e in
    and_from (is_whole seg) (list_all is_whole (take k segs)) both.0 (whole_take k segs both.1)

whole_more : (segs : Segments) (seg : List ℕ) → list_all is_whole segs ≡ true → has_slash seg ≡ false → list_all is_whole (segs ++ seg ∷ []) ≡ true
whole_more [] seg e f = rw f refl
whole_more (s ∷ segs) seg e f =
    let both = and_parts (is_whole s) (list_all is_whole segs) e in
    and_from (is_whole s) (list_all is_whole (segs ++ seg ∷ [])) both.0 (whole_more segs seg both.1 f)

-- up from where it has led
pub record Climbed (node : Segments) (r parent : RelativePath) : Type 0 where
  pub last : List ℕ
  pub is : take (length node - r.up) node ++ r.down ≡ (take (length node - parent.up) node ++ parent.down) ++ last ∷ []
  pub whole : has_slash last ≡ false
  pub kept : list_all (λ seg. not (has_slash seg)) parent.down ≡ true

some_of : (n : ℕ) → eqb n 0 ≡ false → 1 ≤ n
some_of n e = grind (arith, nat_tests)

climbed_up : (node : Segments) (up : ℕ) → list_all is_whole node ≡ true → up + 1 ≤ length node → Climbed node (record { up = up; down = [] }) (record { up = up + 1; down = [] })
climbed_up node up n low =
    let k : length node - up ≡ (length node - (up + 1)) + 1 = omega (arith, low) in
    record {
      last = get_or node (length node - (up + 1)) [];
      is = append-nil (take (length node - up) node) ∙ ap (λ (m : ℕ). take m node) k ∙ take_more node (length node - (up + 1)) [] (omega (arith, low)) ∙ ap (λ (segs : Segments). segs ++ get_or node (length node - (up + 1)) [] ∷ []) (sym (append-nil (take (length node - (up + 1)) node)));
      whole = whole_at node (length node - (up + 1)) n;
      kept = refl;
    }

climbed_back : (node : Segments) (up : ℕ) (down : Segments) → list_all is_whole down ≡ true → 1 ≤ length down → Climbed node (record { up = up; down = down }) (record { up = up; down = take (length down - 1) down })
climbed_back node up down d some = record {
  last = get_or down (length down - 1) [];
  is = ap (λ (segs : Segments). take (length node - up) node ++ segs) (last_of down some) ∙ sym (append_assoc (take (length node - up) node) (take (length down - 1) down) (get_or down (length down - 1) [] ∷ []));
  whole = whole_at down (length down - 1) d;
  kept = whole_take (length down - 1) down d;
}

abbrev parent_by : Bool → ℕ → Segments → RelativePath
parent_by x up down = cond x (record { up = up + 1; down = [] }) (record { up = up; down = take (length down - 1) down })

climbed_by : (node : Segments) (up : ℕ) (down : Segments) (x : Bool) → eqb (length down) 0 ≡ x → list_all is_whole node ≡ true → list_all is_whole down ≡ true → (parent_by x up down).up ≤ length node → Climbed node (record { up = up; down = down }) (parent_by x up down)
climbed_by node up down true e n d low =
    subst (λ (segs : Segments). Climbed node (record { up = up; down = segs }) (record { up = up + 1; down = [] })) (sym (nil_from_length down (eqb-true (length down) 0 e))) (climbed_up node up n low)
climbed_by node up down false e n d low = climbed_back node up down d (some_of (length down) e)

climbed : (node : Segments) (r : RelativePath) → list_all is_whole node ≡ true → list_all is_whole r.down ≡ true → (relative_parent r).up ≤ length node → Climbed node r (relative_parent r)
climbed node r n d low = climbed_by node r.up r.down (eqb (length r.down) 0) refl n d low

-- ---- a whole name

-- the last piece is a name
abbrev good_end : Segments → Bool
good_end [] = true
good_end (q ∷ []) = seg_ok q
good_end (q ∷ p ∷ qs) = good_end (p ∷ qs)

later_end : (q : List ℕ) (qs : Segments) → good_end (q ∷ qs) ≡ true → good_end qs ≡ true
later_end q [] e = refl
later_end q (p ∷ qs) e = e

no_end : (q : List ℕ) (qs : Segments) → good_end (q ∷ qs) ≡ true → seg_ok q ≡ false → or_slash (spelling_of qs) ≡ spelling_of qs
no_end q [] e f = absurd (let g : true ≡ false = sym e ∙ f in cc)
no_end q (p ∷ qs) e f = refl

good_last : (qs : Segments) → seg_ok (get_or qs (length qs - 1) []) ≡ true → good_end qs ≡ true
good_last [] e = refl
good_last (q ∷ []) e = e
good_last (q ∷ p ∷ qs) e =
    let n : length (q ∷ p ∷ qs) - 1 ≡ suc (length qs) = omega arith in
    let m : length (p ∷ qs) - 1 ≡ length qs = omega arith in
    good_last (p ∷ qs) (ap (λ (k : ℕ). seg_ok (get_or (p ∷ qs) k [])) m ∙ sym (ap (λ (k : ℕ). seg_ok (get_or (q ∷ p ∷ qs) k [])) n) ∙ e)

pub some_is : (one other : RelativePath) → ◌≡◌ {A = Option RelativePath} (Some one) (Some other) → one ≡ other
some_is one other e = cc

abbrev pub step_by : Bool → Bool → Bool → RelativePath → List ℕ → Option RelativePath
step_by p d s r q = cond p (Some r) (cond d (Some (relative_parent r)) (cond s (Some (record { up = r.up; down = r.down ++ q ∷ [] })) None))

parent_grows : (r : RelativePath) → r.up ≤ (relative_parent r).up
parent_grows r = go (eqb (length r.down) 0)
  where
    go : (x : Bool) → r.up ≤ (parent_by x r.up r.down).up
    go true = omega arith
    go false = omega arith

pub up_grows : (qs : Segments) (r final : RelativePath) → relative_path_from r qs ≡ Some final → r.up ≤ final.up
unfolding relative_path_from
up_grows [] r final e = let same = ap (λ (w : RelativePath). w.up) (some_is r final e) in omega (arith, same)
up_grows (q ∷ qs) r final e = go (bytes_eq q (codes ".")) (bytes_eq q (codes "..")) (seg_ok q) (λ next f. up_grows qs next final f) e
  where
    go : (p d s : Bool) → ((next : RelativePath) → relative_path_from next qs ≡ Some final → next.up ≤ final.up) → option_and_then (λ next. relative_path_from next qs) (step_by p d s r q) ≡ Some final → r.up ≤ final.up
    go true d s ih f = ih r f
    go false true s ih f = let low = ih (relative_parent r) f in let more = parent_grows r in omega (arith, low, more)
    go false false true ih f = ih (record { up = r.up; down = r.down ++ q ∷ [] }) f
    go false false false ih f = absurd cc

removes : (node qs : Segments) (r final : RelativePath) → list_all is_whole node ≡ true → list_all is_whole r.down ≡ true → good_end qs ≡ true → relative_path_from r qs ≡ Some final → final.up ≤ length node
    → RemovesDots (spelling_of qs) (spelling_of (led node r)) (spelling_of (led node final))
unfolding relative_path_from
removes node [] r final n d good e low = RemovesDots.Ends refl (ap (λ (w : RelativePath). spelling_of (led node w)) (sym (some_is r final e)))
removes node (q ∷ qs) r final n d good e low =
    go (bytes_eq q (codes ".")) (bytes_eq q (codes "..")) (seg_ok q) refl refl refl
    (λ next whole f. removes node qs next final n whole (later_end q qs good) f low) e
  where
    to_rest : (kept : List ℕ) → seg_ok q ≡ false → RemovesDots (spelling_of qs) kept (spelling_of (led node final)) → RemovesDots (or_slash (spelling_of qs)) kept (spelling_of (led node final))
    to_rest kept unfit = subst (λ (rest : List ℕ). RemovesDots rest kept (spelling_of (led node final))) (sym (no_end q qs good unfit))

    stays : q ≡ codes "." → RemovesDots (spelling_of qs) (spelling_of (led node r)) (spelling_of (led node final)) → RemovesDots (spelling_of (q ∷ qs)) (spelling_of (led node r)) (spelling_of (led node final))
    stays same next =
        let whole : has_slash q ≡ false = rw same refl in
        let unfit : seg_ok q ≡ false = rw same refl in
        RemovesDots.Stays (spelling_of qs) (subst (λ (s : List ℕ). HasFirstSegment (spelling_of (q ∷ qs)) s (spelling_of qs)) same (first_slashed q qs whole)) (to_rest (spelling_of (led node r)) unfit next)

    climbs : q ≡ codes ".." → Climbed node r (relative_parent r) → RemovesDots (spelling_of qs) (spelling_of (led node (relative_parent r))) (spelling_of (led node final)) → RemovesDots (spelling_of (q ∷ qs)) (spelling_of (led node r)) (spelling_of (led node final))
    climbs same c next =
        let whole : has_slash q ≡ false = rw same refl in
        let unfit : seg_ok q ≡ false = rw same refl in
        RemovesDots.Climbs (spelling_of qs) (spelling_of (led node (relative_parent r))) (subst (λ (s : List ℕ). HasFirstSegment (spelling_of (q ∷ qs)) s (spelling_of qs)) same (first_slashed q qs whole))
        (inl (record { last = c.last; spells = ap spelling_of c.is ∙ slashed_more (led node (relative_parent r)) c.last; whole = c.whole })) (to_rest (spelling_of (led node (relative_parent r))) unfit next)

    go : (p x s : Bool) → bytes_eq q (codes ".") ≡ p → bytes_eq q (codes "..") ≡ x → seg_ok q ≡ s
        → ((next : RelativePath) → list_all is_whole next.down ≡ true → relative_path_from next qs ≡ Some final → RemovesDots (spelling_of qs) (spelling_of (led node next)) (spelling_of (led node final)))
        → option_and_then (λ next. relative_path_from next qs) (step_by p x s r q) ≡ Some final → RemovesDots (spelling_of (q ∷ qs)) (spelling_of (led node r)) (spelling_of (led node final))
    go true x s ep ex es ih f = stays (same_text q (codes ".") (sym ep)) (ih r d f)
    go false true s ep ex es ih f =
        let more = up_grows qs (relative_parent r) final f in
        let c = climbed node r n d (omega (arith, more, low)) in
        climbs (same_text q (codes "..") (sym ex)) c (ih (relative_parent r) c.kept f)
    go false false true ep ex es ih f =
        moves (led node r) q qs (spelling_of (led node final)) es
        (subst (λ (segs : Segments). RemovesDots (spelling_of qs) (spelling_of segs) (spelling_of (led node final))) (sym (append_assoc (take (length node - r.up) node) r.down (q ∷ []))) (ih (record { up = r.up; down = r.down ++ q ∷ [] }) (whole_more r.down q d (segment_has_no_slash q es)) f))
    go false false false ep ex es ih f = absurd cc

pub path_ok : (node : Segments) → is_path node ≡ true → list_all seg_ok node ≡ true
path_ok node e = (and_parts (list_all seg_ok node) (nat_le (length node) 64) e).0

pub placed : (node : Segments) (text : List ℕ) (final : RelativePath) → is_path node ≡ true → ends_in_name text ≡ true → relative_path_of text ≡ Some final → final.up ≤ length node
    → RemovesDots (spelling_of node ++ 47 ∷ text) [] (spelling_of (led node final))
placed node text final path name e low =
    let ok = path_ok node path in
    let none : length node - 0 ≡ length node = omega arith in
    let start : take (length node - 0) node ++ [] ≡ node = append-nil (take (length node - 0) node) ∙ take_all (length node - 0) node (omega arith) in
    let all : RemovesDots (spelling_of (pieces text)) (spelling_of node) (spelling_of (led node final)) = subst (λ (segs : Segments). RemovesDots (spelling_of (pieces text)) (spelling_of segs) (spelling_of (led node final))) start (removes node (pieces text) (record { up = 0; down = [] }) final (all_whole node ok) refl (good_last (pieces text) name) e low) in
    subst (λ (input : List ℕ). RemovesDots input [] (spelling_of (led node final))) (slashed_append node (pieces text) ∙ ap (λ (s : List ℕ). spelling_of node ++ s) (spelled-pieces text)) (moves_all [] node (pieces text) (spelling_of (led node final)) ok all)
