-- What a form asks for names paths alone.
use Rattle.std.proofs.Common.{◌≡◌, ◌∙◌, ap, sym, refl, ℕ, List, [], ◌∷◌, ◌++◌, Option, Some, None, length, map, Bool, true, false, cond}
use Rattle.std.specs.Prelude.{◌==◌, ◌-◌, IfSome, Result, Ok, Err, filter, nat_le, not, option_and_then, take, unwrap_or}
use Rattle.std.specs.List.{cons_option, filter_map, list_all}
use Rattle.std.specs.Result.{result_ok}
use Rattle.std.proofs.lemmas.Bool.{and_from, and_parts}
use Rattle.sp_base.specs.Paths.{is_path, parent_of, path_in, path_of, path_or_none}
use Rattle.sp_base.specs.declared.path.PathFault.{PathFault}
use Rattle.sp_base.specs.declared.hint.Hint.{Hint}
use Rattle.sp_base.proofs.ListLemmas.{list_all_filter}
use Rattle.resource_tree.specs.MergeRoots.{is_merged_path}
use Rattle.post_plan.specs.declared.fault.PlanFault.{PlanFault}
use Rattle.post_plan.specs.declared.suffix.Suffix.{Suffix}
use Rattle.post_plan.specs.declared.suffix.Suffix.TheVariants.{Delete as DeleteSuffix, MoveFrom, CopyFrom}
use Rattle.post_plan.specs.declared.spot.Spot.{Spot}
use Rattle.post_plan.specs.declared.spot.Carry.{Carry}
use Rattle.post_plan.specs.declared.operation.PropSet.{PropSet}
use Rattle.post_plan.specs.declared.operation.Op.{Op}
use Rattle.post_plan.specs.declared.verb.Verb.{Verb}
use Rattle.post_plan.specs.declared.verb.Verb.TheVariants.{Modify, Delete, Copy, Move, Nop}
use Rattle.post_plan.specs.Parameters.{any_marked, content_where, path_text, parameter_suffix}
use Rattle.post_plan.specs.RelativePaths.{RelativePath, relative_path_of}
use Rattle.post_plan.specs.Spots.{any_spot, full_path, goal_at, goal_base, goal_of, goes_under, ends_in_name, if_changeable, is_absolute, led_to, own_name, relative_spot, spot_below, spot_of, spot_there, unless_merged, word_without_slash}
use Rattle.post_plan.specs.Entries.{Entry, carries, carry_by, carry_of as entry_carry, deleted_spots, distinct, entries, entry_by, parameter_entry, hint_at, same_spot, same_suffix, set_by, set_of, set_words, sets, with_suffix}
use Rattle.post_plan.specs.Plan.{carry_operation, dest_word, faults, first_plan_fault, relative_node, operation_by, operation_unless_fault, verb_of}
use Rattle.post_plan.specs.OperationPaths.{AsksForPaths, carry_has_paths, ends_are_paths, names_paths, set_has_path, spot_has_path}

-- ---- lists of which all pass

all_true : {X : Type 0} (xs : List X) → list_all (λ _. true) xs ≡ true
all_true [] = refl
all_true (x ∷ xs) = all_true xs

picked_one : {X Y : Type 0} (fits : Y → Bool) (f : X → Option Y) (o : Option Y) (xs : List X) → IfSome o (λ (y : Y). fits y ≡ true) → list_all fits (filter_map f xs) ≡ true → list_all fits (cons_option o (filter_map f xs)) ≡ true
picked_one fits f None xs is all = all
picked_one fits f (Some y) xs is all = and_from (fits y) (list_all fits (filter_map f xs)) is all

all_picked : {X Y : Type 0} (was : X → Bool) (fits : Y → Bool) (f : X → Option Y) → ((x : X) → was x ≡ true → IfSome (f x) (λ (y : Y). fits y ≡ true)) → (xs : List X) → list_all was xs ≡ true → list_all fits (filter_map f xs) ≡ true
all_picked was fits f keeps [] all = refl
all_picked was fits f keeps (x ∷ xs) all =
    let parts = and_parts (was x) (list_all was xs) all in
    picked_one fits f (f x) xs (keeps x parts.0) (all_picked was fits f keeps xs parts.1)

kept_one : {X : Type 0} (fits test : X → Bool) (x : X) (xs : List X) (b : Bool) → fits x ≡ true → list_all fits (filter test xs) ≡ true → list_all fits (cond b (x ∷ filter test xs) (filter test xs)) ≡ true
kept_one fits test x xs true is all = and_from (fits x) (list_all fits (filter test xs)) is all
kept_one fits test x xs false is all = all

all_mapped : {X Y : Type 0} (f : X → Y) (fits : Y → Bool) (xs : List X) → list_all (λ (x : X). fits (f x)) xs ≡ true → list_all fits (map f xs) ≡ true
all_mapped f fits [] all = refl
all_mapped {X} f fits (x ∷ xs) all =
    let parts = and_parts (fits (f x)) (list_all (λ (x : X). fits (f x)) xs) all in
    and_from (fits (f x)) (list_all fits (map f xs)) parts.0 (all_mapped f fits xs parts.1)

-- ---- what may be there

abbrev IsPathIf : Option (List (List ℕ)) → Type 0
IsPathIf o = IfSome o (λ (p : List (List ℕ)). is_path p ≡ true)

abbrev HasPathIf : Option Spot → Type 0
HasPathIf o = IfSome o (λ (s : Spot). spot_has_path s ≡ true)

then_some : {A B : Type 0} (P : A → Type 0) (Q : B → Type 0) (f : A → Option B) (o : Option A) → IfSome o P → ((x : A) → P x → IfSome (f x) Q) → IfSome (option_and_then f o) Q
then_some P Q f None was next = tt
then_some P Q f (Some x) was next = next x was

by_test : {A : Type 0} (P : A → Type 0) (b : Bool) (one other : Option A) → IfSome one P → IfSome other P → IfSome (cond b one other) P
by_test P true one other this that = this
by_test P false one other this that = that

any_is : {A : Type 0} (o : Option A) → IfSome o (λ (x : A). x ≡ x)
any_is None = tt
any_is (Some x) = refl

checked_path : (path : List (List ℕ)) → IsPathIf (path_or_none path)
checked_path path = go (is_path path) refl
  where
    go : (b : Bool) → is_path path ≡ b → IsPathIf (cond b (Some path) None)
    go true valid = valid
    go false none = tt

there_has : (o : Option (List (List ℕ))) → IsPathIf o → HasPathIf (spot_there o)
there_has None is = tt
there_has (Some path) is = is

below_has : (o : Option (List (List ℕ))) → IsPathIf o → HasPathIf (spot_below o)
below_has None is = tt
below_has (Some path) is = is

led_is : (node : List (List ℕ)) (relative : RelativePath) → IsPathIf (led_to node relative)
led_is node relative =
    by_test (λ (p : List (List ℕ)). is_path p ≡ true) (nat_le relative.up (length node)) (path_or_none (take (length node - relative.up) node ++ relative.down)) None (checked_path (take (length node - relative.up) node ++ relative.down)) tt

relative_has : (node : List (List ℕ)) (relative : RelativePath) → HasPathIf (relative_spot node relative)
relative_has node relative =
    by_test (λ (s : Spot). spot_has_path s ≡ true) (relative.up == 0) (spot_below (path_or_none relative.down)) (spot_there (led_to node relative)) (below_has (path_or_none relative.down) (checked_path relative.down)) (there_has (led_to node relative) (led_is node relative))

kept_has : (node : List (List ℕ)) (spot : Spot) → spot_has_path spot ≡ true → HasPathIf (if_changeable node spot)
kept_has node spot is = by_test (λ (s : Spot). spot_has_path s ≡ true) (is_merged_path (full_path node spot)) None (Some spot) tt is

kept_is : (o : Option (List (List ℕ))) → IsPathIf o → IsPathIf (unless_merged o)
kept_is None is = tt
kept_is (Some path) is = by_test (λ (p : List (List ℕ)). is_path p ≡ true) (is_merged_path path) None (Some path) tt is

module _ (valid : (text : List ℕ) (path : List (List ℕ)) → path_of text ≡ Ok path → is_path path ≡ true) where
  read_is : (text : List ℕ) → IsPathIf (path_in text)
  read_is text = go (path_of text) refl
    where
      go : (r : Result (List (List ℕ)) PathFault) → path_of text ≡ r → IsPathIf (result_ok r)
      go (Ok path) is = valid text path is
      go (Err fault) is = tt

  any_has : (node : List (List ℕ)) (text : List ℕ) → HasPathIf (any_spot node text)
  any_has node text =
      by_test (λ (s : Spot). spot_has_path s ≡ true) (is_absolute text) (spot_there (path_in text)) (option_and_then (relative_spot node) (relative_path_of text)) (there_has (path_in text) (read_is text))
      (then_some (λ (w : RelativePath). w ≡ w) (λ (s : Spot). spot_has_path s ≡ true) (relative_spot node) (relative_path_of text) (any_is (relative_path_of text)) (λ relative _. relative_has node relative))

  spot_has : (node : List (List ℕ)) (text : List ℕ) → HasPathIf (spot_of node text)
  spot_has node text =
      by_test (λ (s : Spot). spot_has_path s ≡ true) (ends_in_name text) (option_and_then (if_changeable node) (any_spot node text)) None
      (then_some (λ (s : Spot). spot_has_path s ≡ true) (λ (s : Spot). spot_has_path s ≡ true) (if_changeable node) (any_spot node text) (any_has node text) (kept_has node))
      tt

  base_is : (parent : List (List ℕ)) (text : List ℕ) → IsPathIf (goal_base parent text)
  base_is parent text =
      by_test (λ (p : List (List ℕ)). is_path p ≡ true) (is_absolute text) (path_in text) (cond (ends_in_name text) (option_and_then (led_to parent) (relative_path_of text)) None) (read_is text)
      (by_test (λ (p : List (List ℕ)). is_path p ≡ true) (ends_in_name text) (option_and_then (led_to parent) (relative_path_of text)) None
      (then_some (λ (w : RelativePath). w ≡ w) (λ (p : List (List ℕ)). is_path p ≡ true) (led_to parent) (relative_path_of text) (any_is (relative_path_of text)) (λ relative _. led_is parent relative))
      tt)

  goal_is : (target : List (List ℕ)) (word : List ℕ) → IsPathIf (goal_of target word)
  goal_is target word =
      then_some (λ (p : List (List ℕ)). is_path p ≡ true) (λ (p : List (List ℕ)). is_path p ≡ true) (goal_at target word) (goal_base (parent_of target) (word_without_slash word)) (base_is (parent_of target) (word_without_slash word)) (λ base is.
      kept_is (cond (goes_under word) (path_or_none (base ++ own_name target)) (Some base))
      (by_test (λ (p : List (List ℕ)). is_path p ≡ true) (goes_under word) (path_or_none (base ++ own_name target)) (Some base) (checked_path (base ++ own_name target)) is))

  -- ---- what content parameters ask for

  abbrev entry_has_path : Entry → Bool
  entry_has_path e = spot_has_path e.spot

  entry_has : (node : List (List ℕ)) (p : List ℕ × List ℕ) → IfSome (parameter_entry node p) (λ (e : Entry). entry_has_path e ≡ true)
  entry_has node p = go (spot_of node (path_text p.0)) (spot_has node (path_text p.0)) (parameter_suffix p.0)
    where
      go : (o : Option Spot) → HasPathIf o → (s : Option Suffix) → IfSome (entry_by o s p.1) (λ (e : Entry). entry_has_path e ≡ true)
      go None is s = tt
      go (Some spot) is None = tt
      go (Some spot) is (Some suffix) = is

  entries_have : (node : List (List ℕ)) (pairs : List (List ℕ × List ℕ)) → list_all entry_has_path (entries node pairs) ≡ true
  entries_have node pairs =
      all_picked (λ _. true) entry_has_path (parameter_entry node) (λ p _. entry_has node p) (content_where (any_marked pairs) pairs) (all_true (content_where (any_marked pairs) pairs))

  deletes_have : (es : List Entry) → list_all entry_has_path es ≡ true → list_all spot_has_path (deleted_spots es) ≡ true
  deletes_have es all = all_mapped (λ (e : Entry). e.spot) spot_has_path (with_suffix DeleteSuffix es) (list_all_filter entry_has_path (λ e. same_suffix DeleteSuffix e.suffix) es all)

  carry_has : (node : List (List ℕ)) (e : Entry) → entry_has_path e ≡ true → IfSome (entry_carry node e) (λ (c : Carry). carry_has_paths c ≡ true)
  carry_has node e is = go (spot_of node e.word) (spot_has node e.word)
    where
      go : (o : Option Spot) → HasPathIf o → IfSome (carry_by o e.spot) (λ (c : Carry). carry_has_paths c ≡ true)
      go None from = tt
      go (Some spot) from = and_from (spot_has_path spot) (spot_has_path e.spot) from is

  carries_have : (node : List (List ℕ)) (suffix : Suffix) (es : List Entry) → list_all entry_has_path es ≡ true → list_all carry_has_paths (carries node suffix es) ≡ true
  carries_have node suffix es all =
      all_picked entry_has_path carry_has_paths (entry_carry node) (carry_has node) (with_suffix suffix es) (list_all_filter entry_has_path (λ e. same_suffix suffix e.suffix) es all)

  set_has : (pairs : List (List ℕ × List ℕ)) (es : List Entry) (spot : Spot) → spot_has_path spot ≡ true → IfSome (set_of pairs es spot) (λ (s : PropSet). set_has_path s ≡ true)
  set_has pairs es spot is = go (hint_at es spot) (set_words pairs es spot)
    where
      go : (hint : Option Hint) (words : List (List ℕ)) → IfSome (set_by spot hint words) (λ (s : PropSet). set_has_path s ≡ true)
      go hint [] = tt
      go hint (word ∷ more) = is

  distinct_have : (spots : List Spot) → list_all spot_has_path spots ≡ true → list_all spot_has_path (distinct spots) ≡ true
  unfolding distinct
  distinct_have [] all = refl
  distinct_have (s ∷ more) all =
      let parts = and_parts (spot_has_path s) (list_all spot_has_path more) all in
      and_from (spot_has_path s) _ parts.0 (list_all_filter spot_has_path (λ t. not (same_spot s t)) (distinct more) (distinct_have more parts.1))

  sets_have : (pairs : List (List ℕ × List ℕ)) (es : List Entry) → list_all entry_has_path es ≡ true → list_all set_has_path (sets pairs es) ≡ true
  sets_have pairs es all =
      all_picked spot_has_path set_has_path (set_of pairs es) (set_has pairs es) (distinct (map (λ (e : Entry). e.spot) es)) (distinct_have (map (λ (e : Entry). e.spot) es) (all_mapped (λ (e : Entry). e.spot) spot_has_path es all))

  -- ---- the operations

  dest_is : (o : Option (List (List ℕ))) → IsPathIf o → is_path (unwrap_or o []) ≡ true
  dest_is None is = refl
  dest_is (Some path) is = is

  ends_are : (target : List (List ℕ)) (pairs : List (List ℕ × List ℕ)) → is_path target ≡ true → ends_are_paths (carry_operation target pairs) ≡ true
  ends_are target pairs is = and_from (is_path target) _ is (dest_is (goal_of target (dest_word pairs)) (goal_is target (dest_word pairs)))

  operation_has : (verb : Option Verb) (target : List (List ℕ)) (star : Bool) (pairs : List (List ℕ × List ℕ)) → is_path target ≡ true → names_paths (operation_by verb target star pairs) ≡ true
  operation_has None target star pairs is = is
  operation_has (Some Delete) target star pairs is = is
  operation_has (Some Nop) target star pairs is = is
  operation_has (Some Copy) target star pairs is = ends_are target pairs is
  operation_has (Some Move) target star pairs is = ends_are target pairs is
  operation_has (Some Modify) target star pairs is =
      let node = relative_node target star pairs in
      let es = entries node pairs in
      let all = entries_have node pairs in
      and_from (is_path target) _ is
      (and_from (list_all spot_has_path (deleted_spots es)) _ (deletes_have es all)
      (and_from (list_all carry_has_paths (carries node MoveFrom es)) _ (carries_have node MoveFrom es all)
      (and_from (list_all carry_has_paths (carries node CopyFrom es)) (list_all set_has_path (sets pairs es)) (carries_have node CopyFrom es all) (sets_have pairs es all))))

  planned_is : (fault : Option PlanFault) (asked op : Op) → operation_unless_fault fault asked ≡ Ok op → asked ≡ op
  planned_is None asked op e = cc
  planned_is (Some fault) asked op e = absurd cc

  pub asks_for_paths : AsksForPaths
  asks_for_paths target star pairs op is e =
      sym (ap names_paths (planned_is (first_plan_fault (faults target star pairs)) (operation_by (verb_of pairs) target star pairs) op e)) ∙ operation_has (verb_of pairs) target star pairs is
