-- Steps of a relative path.
use Rattle.std.proofs.Common.{◌≡◌, ◌<◌, ◌≤◌, ◌-◌, ◌+◌, ◌==◌, ℕ, Bool, true, false, cond, List, [], ◌∷◌, ◌++◌, Option, Some, None, take, length, map, Bor, codes, refl, ap, sym, ◌∙◌, arith}
use Rattle.std.specs.Prelude.{option_and_then}
use Rattle.std.specs.Str.{bytes_eq}
use Rattle.std.proofs.lemmas.List.{length-map, take-map}
use Rattle.sp_base.specs.Paths.{seg_ok, pieces}
use Rattle.sp_base.proofs.BoolLemmas.{and_second}
use Rattle.post_plan.specs.RelativePaths.{RelativePath, relative_parent, relative_path_step, relative_path_from}

pub dots_length : (piece : List ℕ) → bytes_eq piece (codes "..") ≡ true → length piece ≡ 2
dots_length [] e = absurd cc
dots_length (a ∷ []) e = absurd (let f : false ≡ true = and_second _ _ e in cc)
dots_length (a ∷ b ∷ []) e = refl
dots_length (a ∷ b ∷ c ∷ t) e = absurd (let f : false ≡ true = and_second _ _ (and_second _ _ e) in cc)

abbrev some : RelativePath → Option RelativePath
some relative = Some relative

some_is : (one other : RelativePath) → some one ≡ some other → one ≡ other
some_is one other e = cc

abbrev lent : List (Bor (List ℕ)) → List (List ℕ)
lent names = map (λ (n : Bor (List ℕ)). n.now) names

-- `..` after a segment takes it back
pub climbs_back : (up : ℕ) (names rest : List (Bor (List ℕ))) → (length names == 0) ≡ false → rest ≡ take (length names - 1) names
    → record { up = up; down = map (λ (n : Bor (List ℕ)). n.now) rest } ≡ relative_parent (record { up = up; down = map (λ (n : Bor (List ℕ)). n.now) names })
climbs_back up names rest some is =
    let len : length (lent names) ≡ length names = length-map names (λ (n : Bor (List ℕ)). n.now) in
    let less : lent rest ≡ take (length names - 1) (lent names) = ap lent is ∙ sym (take-map (λ (n : Bor (List ℕ)). n.now) (length names - 1) names) in
    let back : (let r : RelativePath = record { up = up; down = lent rest } in r) ≡ record { up = up; down = take (length (lent names) - 1) (lent names) } =
    ap (λ (d : List (List ℕ)). (let r : RelativePath = record { up = up; down = d } in r)) (less ∙ ap (λ (n : ℕ). take (n - 1) (lent names)) (sym len)) in
    back ∙ sym (ap (λ (b : Bool). cond {A = RelativePath} b (record { up = up + 1; down = [] }) (record { up = up; down = take (length (lent names) - 1) (lent names) })) (ap (λ (n : ℕ). n == 0) len ∙ some))

climbs : (relative : RelativePath) → (relative_parent relative).up ≤ relative.up + 1
climbs relative = go (length relative.down == 0)
  where
    go : (b : Bool) → (cond {A = RelativePath} b (record { up = relative.up + 1; down = [] }) (record { up = relative.up; down = take (length relative.down - 1) relative.down })).up ≤ relative.up + 1
    go true = omega arith
    go false = omega arith

-- a piece leads up by at most one
up_step : (relative next : RelativePath) (piece : List ℕ) → relative_path_step relative piece ≡ Some next → next.up ≤ relative.up + length piece
up_step relative next piece e = go (bytes_eq piece (codes ".")) (bytes_eq piece (codes "..")) (seg_ok piece) refl e
  where
    go : (p q r : Bool) → bytes_eq piece (codes "..") ≡ q → cond {A = Option RelativePath} p (Some relative) (cond {A = Option RelativePath} q (Some (relative_parent relative)) (cond {A = Option RelativePath} r (Some (record { up = relative.up; down = relative.down ++ piece ∷ [] })) None)) ≡ Some next → next.up ≤ relative.up + length piece
    go true q r eq f = let same = ap (λ (w : RelativePath). w.up) (some_is relative next f) in omega (arith, same)
    go false true r eq f = let same = ap (λ (w : RelativePath). w.up) (some_is (relative_parent relative) next f) in omega (arith, same, climbs relative, dots_length piece eq)
    go false false true eq f = let same = ap (λ (w : RelativePath). w.up) (some_is (record { up = relative.up; down = relative.down ++ piece ∷ [] }) next f) in omega (arith, same)
    go false false false eq f = absurd cc

pub goes_on : (relative next : RelativePath) (rest piece later text : List ℕ) (all : Option RelativePath) → pieces rest ≡ piece ∷ pieces later → relative_path_step relative piece ≡ Some next → relative_path_from relative (pieces rest) ≡ all → length piece + length later < length rest
    → relative.up + length rest ≤ length text → (relative_path_from next (pieces later) ≡ all) × (next.up + length later ≤ length text)
unfolding relative_path_from
goes_on relative next rest piece later text all parts step same shorter within = (
  sym (ap (relative_path_from relative) parts ∙ ap (option_and_then (λ w. relative_path_from w (pieces later))) step) ∙ same,
  omega (arith, up_step relative next piece step, shorter, within),
)

pub ends : (relative next : RelativePath) (rest piece : List ℕ) (all : Option RelativePath) → pieces rest ≡ piece ∷ [] → relative_path_step relative piece ≡ Some next → relative_path_from relative (pieces rest) ≡ all → Some next ≡ all
unfolding relative_path_from
ends relative next rest piece all parts step same = sym (ap (relative_path_from relative) parts ∙ ap (option_and_then (λ w. relative_path_from w [])) step) ∙ same

pub stops : (relative : RelativePath) (rest piece : List ℕ) (later : List (List ℕ)) (all : Option RelativePath) → pieces rest ≡ piece ∷ later → relative_path_step relative piece ≡ None → relative_path_from relative (pieces rest) ≡ all → None ≡ all
unfolding relative_path_from
stops relative rest piece later all parts step same = sym (ap (relative_path_from relative) parts ∙ ap (option_and_then (λ w. relative_path_from w later)) step) ∙ same
