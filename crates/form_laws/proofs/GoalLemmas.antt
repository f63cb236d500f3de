-- Which words name goals, and which.
use Rattle.std.proofs.Common.{◌≡◌, ◌-◌, ◌⊎◌, inl, inr, ℕ, Bool, true, false, cond, ◌&&◌, List, [], ◌∷◌, ◌++◌, Option, Some, None, take, drop, length, codes, nat_eq, refl, ap, sym, ◌∙◌, subst, arith, length-append}
use Rattle.std.specs.Prelude.{nat_le, nat_lt, option_and_then}
use Rattle.std.specs.Cmp.Lexicographic.{pointwise, same_text}
use Rattle.std.specs.List.{list_all}
use Rattle.std.proofs.lemmas.Bool.{and_parts, and_from, leb-true, le-leb, lt-ltb}
use Rattle.std.proofs.lemmas.List.{append_cancel_right, length-take, take-append-drop}
use Rattle.std.proofs.Math.Seq.{take-append_seam, drop-append_seam}
use Rattle.sp_base.specs.Texts.{Segments}
use Rattle.sp_base.specs.Paths.{is_path, parent_of, path_in, path_or_none, seg_ok}
use Rattle.sp_base.proofs.BoolLemmas.{and_false}
use Rattle.sp_base.proofs.PathTests.{path_before}
use Rattle.resource_tree.specs.MergeRoots.{is_merged_path}
use Rattle.post_plan.specs.RelativePaths.{RelativePath, relative_path_of}
use Rattle.post_plan.specs.Spots.{ends_in_name, goal_at, goal_base, goal_of, goes_under, is_absolute, led_to, own_name, unless_merged, word_without_slash}
use Rattle.form_laws.specs.RelativeNames.{IsGoalOf, IsUnderSlash, IsWithoutSlash, NamesPath}
use Rattle.form_laws.proofs.DotLemmas.{led, path_ok}
use Rattle.form_laws.proofs.RelativeNameLemmas.{names_from, names_to, ok_take}

-- ---- the path that a relative text names

-- it is named, and it is one
pub record IsBase (parent : Segments) (text : List ℕ) (base : Segments) : Type 0 where
  pub names : NamesPath parent text base
  pub fits : is_path base ≡ true

led_base : (parent : Segments) (text : List ℕ) (r : RelativePath) (base : Segments) → is_path parent ≡ true → ends_in_name text ≡ true → relative_path_of text ≡ Some r → led_to parent r ≡ Some base → IsBase parent text base
led_base parent text r base ok name reads e = go (nat_le r.up (length parent)) (is_path (led parent r)) refl refl e
  where
    some_path : (one other : Segments) → ◌≡◌ {A = Option Segments} (Some one) (Some other) → one ≡ other
    some_path one other f = cc

    go : (x y : Bool) → nat_le r.up (length parent) ≡ x → is_path (led parent r) ≡ y → cond {A = Option Segments} x (cond {A = Option Segments} y (Some (led parent r)) None) None ≡ Some base → IsBase parent text base
    go true true low fits f =
        let same = some_path (led parent r) base f in
        record {
          names = subst (λ (path : Segments). NamesPath parent text path) same (names_to parent text r ok name reads (leb-true r.up (length parent) low));
          fits = subst (λ (path : Segments). is_path path ≡ true) same fits;
        }
    go true false low fits f = absurd cc
    go false y low fits f = absurd cc

base_to : (parent : Segments) (text : List ℕ) (base : Segments) → is_path parent ≡ true → is_absolute text ≡ false → goal_base parent text ≡ Some base → IsBase parent text base
base_to parent text base ok rel e = named (ends_in_name text) refl (sym (ap (λ (b : Bool). cond b (path_in text) (cond (ends_in_name text) (option_and_then (led_to parent) (relative_path_of text)) None)) rel) ∙ e)
  where
    found : (o : Option RelativePath) → relative_path_of text ≡ o → ends_in_name text ≡ true → option_and_then (led_to parent) o ≡ Some base → IsBase parent text base
    found None is name f = absurd cc
    found (Some r) is name f = led_base parent text r base ok name is f

    named : (x : Bool) → ends_in_name text ≡ x → cond {A = Option Segments} x (option_and_then (led_to parent) (relative_path_of text)) None ≡ Some base → IsBase parent text base
    named true is f = found (relative_path_of text) refl is f
    named false is f = absurd cc

base_from : (parent : Segments) (text : List ℕ) (base : Segments) → is_path parent ≡ true → is_absolute text ≡ false → IsBase parent text base → goal_base parent text ≡ Some base
base_from parent text base ok rel b =
    let g = names_from parent text base ok (path_ok base b.fits) b.names in
    ap (λ (x : Bool). cond x (path_in text) (cond (ends_in_name text) (option_and_then (led_to parent) (relative_path_of text)) None)) rel
    ∙ ap (λ (x : Bool). cond {A = Option Segments} x (option_and_then (led_to parent) (relative_path_of text)) None) b.names.last
    ∙ ap (option_and_then (led_to parent)) g.reads
    ∙ ap (λ (x : Bool). cond {A = Option Segments} x (path_or_none (led parent g.by)) None) (le-leb g.by.up (length parent) g.low)
    ∙ ap path_or_none (sym g.place)
    ∙ ap (λ (x : Bool). cond {A = Option Segments} x (Some base) None) b.fits

-- ---- the slash at the end

slash_is : (word : List ℕ) → goes_under word ≡ true → word ≡ take (length word - 1) word ++ 47 ∷ []
slash_is word e = sym (take-append-drop (length word - 1) word) ∙ ap (λ (end : List ℕ). take (length word - 1) word ++ end) (sym (same_text (47 ∷ []) (drop (length word - 1) word) (sym e)))

long_but_one : (text : List ℕ) → length (text ++ 47 ∷ []) - 1 ≡ length text
long_but_one text = let long = length-append text (47 ∷ []) in omega (arith, long)

slash_ends : (text : List ℕ) → goes_under (text ++ 47 ∷ []) ≡ true
slash_ends text = ap (λ (n : ℕ). pw (drop n (text ++ 47 ∷ []))) (long_but_one text) ∙ ap pw (drop-append_seam text (47 ∷ []))
  where
    pw : List ℕ → Bool
    pw end = pointwise nat_eq (codes "/") end

-- ---- goals

parent_ok : (path : Segments) → is_path path ≡ true → is_path (parent_of path) ≡ true
parent_ok path e =
    let both = and_parts (list_all seg_ok path) (nat_le (length path) 64) e in
    let short = leb-true (length path) 64 both.1 in
    let long = length-take (length path - 1) path in
    and_from (list_all seg_ok (parent_of path)) (nat_le (length (parent_of path)) 64) (ok_take (length path - 1) path both.0) (le-leb (length (parent_of path)) 64 (omega (arith, short, long)))

-- the text before the slash at the end of a relative word
record IsBeforeSlash (word : List ℕ) : Type 0 where
  pub text : List ℕ
  pub spells : word ≡ text ++ 47 ∷ []
  pub relative : is_absolute text ≡ false
  pub is : word_without_slash word ≡ text

before_slash : (word text : List ℕ) → word ≡ text ++ 47 ∷ [] → is_absolute word ≡ false → IsBeforeSlash word
before_slash word [] e rel = absurd (let f : true ≡ false = sym (ap is_absolute e) ∙ rel in cc)
before_slash word (b ∷ text) e rel =
    let long = length-append (b ∷ text) (47 ∷ []) in
    record {
      text = b ∷ text;
      spells = e;
      relative = sym (ap is_absolute e) ∙ rel;
      is =
          ap word_without_slash e
          ∙ ap (λ (x : Bool). cond (x && goes_under ((b ∷ text) ++ 47 ∷ [])) (take (length ((b ∷ text) ++ 47 ∷ []) - 1) ((b ∷ text) ++ 47 ∷ [])) ((b ∷ text) ++ 47 ∷ [])) (lt-ltb 1 (length ((b ∷ text) ++ 47 ∷ [])) (omega (arith, long)))
          ∙ ap (λ (x : Bool). cond x (take (length ((b ∷ text) ++ 47 ∷ []) - 1) ((b ∷ text) ++ 47 ∷ [])) ((b ∷ text) ++ 47 ∷ [])) (slash_ends (b ∷ text))
          ∙ ap (λ (n : ℕ). take n ((b ∷ text) ++ 47 ∷ [])) (long_but_one (b ∷ text)) ∙ take-append_seam (b ∷ text) (47 ∷ []);
    }

no_slash : (word : List ℕ) → goes_under word ≡ false → word_without_slash word ≡ word
no_slash word e =
    ap (λ (x : Bool). cond (nat_lt 1 (length word) && x) (take (length word - 1) word) word) e ∙ ap (λ (x : Bool). cond x (take (length word - 1) word) word) (and_false (nat_lt 1 (length word)))

some_goal : (one other : Segments) → ◌≡◌ {A = Option Segments} (Some one) (Some other) → one ≡ other
some_goal one other e = cc

free : (b : Bool) (one other : Segments) → cond {A = Option Segments} b None (Some one) ≡ Some other → (b ≡ false) × (one ≡ other)
free true one other e = absurd cc
free false one other e = (refl, some_goal one other e)

whole : (segs goal : Segments) → unless_merged (path_or_none segs) ≡ Some goal → (is_path segs ≡ true) × (is_merged_path segs ≡ false) × (segs ≡ goal)
whole segs goal e = go (is_path segs) refl e
  where
    go : (x : Bool) → is_path segs ≡ x → unless_merged (cond x (Some segs) None) ≡ Some goal → (is_path segs ≡ true) × (is_merged_path segs ≡ false) × (segs ≡ goal)
    go true is f = let two = free (is_merged_path segs) segs goal f in (is, two.0, two.1)
    go false is f = absurd cc

under_to : (target : Segments) (word : List ℕ) (goal : Segments) → is_path target ≡ true → goes_under word ≡ true → IsBeforeSlash word → goal_of target word ≡ Some goal → IsGoalOf target word goal
under_to target word goal ok under b e = go (goal_base (parent_of target) b.text) refl (sym (ap (λ (text : List ℕ). option_and_then (goal_at target word) (goal_base (parent_of target) text)) b.is) ∙ e)
  where
    go : (o : Option Segments) → goal_base (parent_of target) b.text ≡ o → option_and_then (goal_at target word) o ≡ Some goal → IsGoalOf target word goal
    go None is f = absurd cc
    go (Some base) is f =
        let named = base_to (parent_of target) b.text base (parent_ok target ok) b.relative is in
        let three = whole (base ++ own_name target) goal (sym (ap (λ (x : Bool). unless_merged (cond x (path_or_none (base ++ own_name target)) (Some base))) under) ∙ f) in
        record {
          is = inl (record { text = b.text; base = base; slash = b.spells; names = named.names; is = sym three.2 });
          fits = ap is_path (sym three.2) ∙ three.0;
          changeable = ap is_merged_path (sym three.2) ∙ three.1;
        }

itself_to : (target : Segments) (word : List ℕ) (goal : Segments) → is_path target ≡ true → is_absolute word ≡ false → goes_under word ≡ false → goal_of target word ≡ Some goal → IsGoalOf target word goal
itself_to target word goal ok rel under e = go (goal_base (parent_of target) word) refl (sym (ap (λ (text : List ℕ). option_and_then (goal_at target word) (goal_base (parent_of target) text)) (no_slash word under)) ∙ e)
  where
    go : (o : Option Segments) → goal_base (parent_of target) word ≡ o → option_and_then (goal_at target word) o ≡ Some goal → IsGoalOf target word goal
    go None is f = absurd cc
    go (Some base) is f =
        let named = base_to (parent_of target) word base (parent_ok target ok) rel is in
        let two = free (is_merged_path base) base goal (sym (ap (λ (x : Bool). unless_merged (cond x (path_or_none (base ++ own_name target)) (Some base))) under) ∙ f) in
        record {
          is = inr (record { no_slash = under; names = subst (λ (path : Segments). NamesPath (parent_of target) word path) two.1 named.names });
          fits = ap is_path (sym two.1) ∙ named.fits;
          changeable = ap is_merged_path (sym two.1) ∙ two.0;
        }

pub goal_to : (target : Segments) (word : List ℕ) (goal : Segments) → is_path target ≡ true → is_absolute word ≡ false → goal_of target word ≡ Some goal → IsGoalOf target word goal
goal_to target word goal ok rel e = go (goes_under word) refl
  where
    go : (x : Bool) → goes_under word ≡ x → IsGoalOf target word goal
    go true under = under_to target word goal ok under (before_slash word (take (length word - 1) word) (slash_is word under) rel) e
    go false under = itself_to target word goal ok rel under e

under_from : (target : Segments) (word : List ℕ) (goal : Segments) → is_path target ≡ true → IsBeforeSlash word → (u : IsUnderSlash target word goal) → is_path goal ≡ true → is_merged_path goal ≡ false → goal_of target word ≡ Some goal
under_from target word goal ok b u fits unmerged =
    let same : b.text ≡ u.text = append_cancel_right b.text u.text (47 ∷ []) (sym b.spells ∙ u.slash) in
    let under : goes_under word ≡ true = ap goes_under b.spells ∙ slash_ends b.text in
    let based : IsBase (parent_of target) u.text u.base = record { names = u.names; fits = path_before u.base (own_name target) (ap is_path (sym u.is) ∙ fits) } in
    ap (λ (text : List ℕ). option_and_then (goal_at target word) (goal_base (parent_of target) text)) (b.is ∙ same)
    ∙ ap (option_and_then (goal_at target word)) (base_from (parent_of target) u.text u.base (parent_ok target ok) (ap is_absolute (sym same) ∙ b.relative) based)
    ∙ ap (λ (x : Bool). unless_merged (cond x (path_or_none (u.base ++ own_name target)) (Some u.base))) under
    ∙ ap (λ (segs : Segments). unless_merged (path_or_none segs)) (sym u.is)
    ∙ ap (λ (x : Bool). unless_merged (cond x (Some goal) None)) fits
    ∙ ap (λ (x : Bool). cond {A = Option Segments} x None (Some goal)) unmerged

pub goal_from : (target : Segments) (word : List ℕ) (goal : Segments) → is_path target ≡ true → is_absolute word ≡ false → IsGoalOf target word goal → goal_of target word ≡ Some goal
goal_from target word goal ok rel g = go g.is
  where
    go : IsUnderSlash target word goal ⊎ IsWithoutSlash target word goal → goal_of target word ≡ Some goal
    go (inl u) = under_from target word goal ok (before_slash word u.text u.slash rel) u g.fits g.changeable
    go (inr w) =
        ap (λ (text : List ℕ). option_and_then (goal_at target word) (goal_base (parent_of target) text)) (no_slash word w.no_slash)
        ∙ ap (option_and_then (goal_at target word)) (base_from (parent_of target) word goal (parent_ok target ok) rel (record { names = w.names; fits = g.fits }))
        ∙ ap (λ (x : Bool). unless_merged (cond x (path_or_none (goal ++ own_name target)) (Some goal))) w.no_slash
        ∙ ap (λ (x : Bool). cond {A = Option Segments} x None (Some goal)) g.changeable
