-- The pieces of a text, and paths of segments.
use Rattle.std.proofs.Common.{◌≡◌, ◌≢◌, ◌<◌, ◌≤◌, ◌-◌, ◌+◌, ◌==◌, ◌&&◌, ℕ, zero, suc, Bool, true, false, cond, List, [], ◌∷◌, ◌++◌, Option, Some, None, Result, Ok, Err, IfOk, drop, length, map, Bor, get_or, slice_get, refl, ap, sym, ◌∙◌, arith}
use Rattle.std.specs.Prelude.{IsTrue, nat_le, slice_index_or}
use Rattle.std.specs.List.{list_all}
use Rattle.std.specs.Result.{result_ok}
use Rattle.std.proofs.lemmas.List.Folds.{list_all-map}
use Rattle.std.proofs.lemmas.List.Splits.{slice_split_at, slice_split_none}
use Rattle.std.proofs.lemmas.List.Elements.{All-from_get_or}
use Rattle.std.proofs.lemmas.List.{append-nil, length-map}
use Rattle.std.proofs.lemmas.Option.{slice_get_within}
use Rattle.sp_base.specs.PathTexts.{spelling_of}
use Rattle.sp_base.specs.Paths.{is_path, most_segments, path_in, path_of, path_or_none, pieces, seg_ok, text_of}
use Rattle.sp_base.proofs.TextLemmas.{not_slash}
use Rattle.post_plan.specs.Spots.{own_name}

pub first_of : (text inside after : List ℕ) → text ≡ inside ++ (47 ∷ after) → ((i : ℕ) → i < length inside → get_or inside i 0 ≢ 47) → pieces text ≡ inside ∷ pieces after
first_of text inside after parts none =
    ap pieces parts ∙ slice_split_at (λ b. b == 47) inside 47 after (All-from_get_or (λ b. (b == 47) ≡ false) inside 0 (λ i lt. not_slash (get_or inside i 0) (none i lt))) refl

pub only_of : (text : List ℕ) → ((i : ℕ) → i < length text → get_or text i 0 ≢ 47) → pieces text ≡ text ∷ []
only_of text none = slice_split_none (λ b. b == 47) text (All-from_get_or (λ b. (b == 47) ≡ false) text 0 (λ i lt. not_slash (get_or text i 0) (none i lt)))

-- the last piece
pub last_there : (ps : List (List ℕ)) (n : ℕ) (p : List ℕ) → slice_get ps n ≡ Some p → slice_index_or ps n [] ≡ p
last_there [] n p e = absurd cc
last_there (q ∷ ps) zero p e = cc
last_there (q ∷ ps) (suc n) p e = last_there ps n p e

pub last_absent : (ps : List (List ℕ)) (n : ℕ) → slice_get ps n ≡ None → slice_index_or ps n [] ≡ []
last_absent [] n e = refl
last_absent (q ∷ ps) zero e = absurd cc
last_absent (q ∷ ps) (suc n) e = last_absent ps n e

-- ---- paths of segments

-- segments whose text reads as their path
path_spelled : (name : List ℕ) (names : List (List ℕ)) (text : List ℕ) (o : Option (List (List ℕ))) → ((path : List (List ℕ)) → IsTrue (is_path path) → path_of (text_of path) ≡ Ok path) → is_path (name ∷ names) ≡ true → text ≡ spelling_of (name ∷ names)
    → o ≡ path_in text → o ≡ path_or_none (name ∷ names)
path_spelled name names text o read valid spelled is =
    is ∙ ap path_in spelled ∙ ap result_ok (read (name ∷ names) valid) ∙ sym (ap (λ (b : Bool). cond b (Some (name ∷ names)) None) valid)

pub path_read : {E : Type 0} (r : Result (Option (List (List ℕ))) E) (names : List (Bor (List ℕ))) (text : List ℕ) → ((path : List (List ℕ)) → IsTrue (is_path path) → path_of (text_of path) ≡ Ok path) → (length names == 0) ≡ false
    → is_path (map (λ (n : Bor (List ℕ)). n.now) names) ≡ true → text ≡ spelling_of (map (λ (n : Bor (List ℕ)). n.now) names) → IfOk r (λ o. o ≡ path_in text) → IfOk r (λ o. o ≡ path_or_none (map (λ (n : Bor (List ℕ)). n.now) names))
path_read (Err e) names text read some valid spelled is = tt
path_read (Ok o) [] text read some valid spelled is = absurd cc
path_read (Ok o) (name ∷ names) text read some valid spelled is = path_spelled name.now (map (λ (n : Bor (List ℕ)). n.now) names) text o read valid spelled is

-- names that are lent make a path
pub lent_path : (names : List (Bor (List ℕ))) → is_path (map (λ (n : Bor (List ℕ)). n.now) names) ≡ list_all (λ (n : Bor (List ℕ)). seg_ok n.now) names && nat_le (length names) most_segments
lent_path names =
    ap (λ (b : Bool). b && nat_le (length (map (λ (n : Bor (List ℕ)). n.now) names)) most_segments) (list_all-map seg_ok (λ (n : Bor (List ℕ)). n.now) names)
    ∙ ap (λ (k : ℕ). list_all (λ (n : Bor (List ℕ)). seg_ok n.now) names && nat_le k most_segments) (length-map names (λ (n : Bor (List ℕ)). n.now))

pub whole : (path : List (List ℕ)) (all : Option (List (List ℕ))) → is_path path ≡ true → path_or_none (path ++ []) ≡ all → Some path ≡ all
whole path all valid same = sym (ap (λ (b : Bool). cond b (Some path) None) valid) ∙ ap path_or_none (sym (append-nil path)) ∙ same

-- ---- the last segment of a path

last_at : (t : List (List ℕ)) (n : ℕ) (name : List ℕ) → slice_get t n ≡ Some name → n + 1 ≡ length t → drop n t ≡ name ∷ []
last_at [] n name e len = absurd cc
last_at (a ∷ []) zero name e len = cc
last_at (a ∷ b ∷ t) zero name e len = absurd (omega (arith, len))
last_at (a ∷ t) (suc n) name e len = last_at t n name e (omega (arith, len))

none_at : (t : List (List ℕ)) (n : ℕ) → slice_get t n ≡ None → length t ≤ n
none_at [] n e = omega arith
none_at (a ∷ t) zero e = absurd cc
none_at (a ∷ t) (suc n) e = let ih = none_at t n e in omega arith

pub own_one : (base target : List (List ℕ)) (name : List ℕ) → Some name ≡ slice_get target (length target - 1) → path_or_none (base ++ name ∷ []) ≡ path_or_none (base ++ own_name target)
own_one base target name e =
    let lt = slice_get_within target (length target - 1) name (sym e) in
    ap (λ (l : List (List ℕ)). path_or_none (base ++ l)) (sym (last_at target (length target - 1) name (sym e) (omega (arith, lt))))

pub own_none : (base target : List (List ℕ)) → None ≡ slice_get target (length target - 1) → is_path base ≡ true → Some base ≡ path_or_none (base ++ own_name target)
own_none base [] e valid = whole base (path_or_none (base ++ own_name [])) valid (ap (λ (l : List (List ℕ)). path_or_none (base ++ l)) refl)
own_none base (a ∷ t) e valid = absurd (let le = none_at (a ∷ t) (length (a ∷ t) - 1) (sym e) in omega (arith, le))
