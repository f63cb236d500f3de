-- What is told of scripts while the nodes of a content are walked over.
use Rattle.std.proofs.Common.{◌≡◌, ◌<◌, ◌≤◌, ◌+◌, ℕ, Bool, true, false, List, Option, Some, None, map, take, length, get_or, refl, sym, ◌∙◌, ap}
use Rattle.std.specs.Prelude.{◌||◌, ◌&&◌, is_some, option_and_then, if◌then◌else◌}
use Rattle.std.specs.List.{list_any}
use Rattle.std.specs.Map.{lookup}
use Rattle.std.proofs.lemmas.List.{take_all}
use Rattle.std.proofs.lemmas.List.Folds.{list_any_more}
use Rattle.resource_tree.specs.declared.nodes.Node.{Node}
use Rattle.resource_tree.specs.Content.{Content, name_of, node_at, same_path}
use Rattle.resource_tree.specs.Rows.{AreRowsOf}
use Rattle.resource_tree.proofs.PathLemmas.{path_from_same}
use Rattle.resource_tree.proofs.SamePaths.{same_path_swapped}
use Rattle.url_maps.proofs.ClaimLemmas.{any_of_keys}
use Rattle.script_rank.specs.Ranking.{is_script_name, script_text}
use Rattle.site_faults.specs.declared.script_fault.ScriptFault.{ScriptFault}
use Rattle.site_faults.specs.Scripts.{fault_of_text, is_script_path, script_fault_at}
use Rattle.site_faults.specs.Telling.{Tells}

-- what is told of these rows, by their paths
abbrev pub TellsRows : {R : Type 0} → (R → List (List ℕ)) → Content → List R → List (List (List ℕ) × ScriptFault) → Type 0
TellsRows key tree done told = (q : List (List ℕ)) → lookup (same_path q) told ≡ (if list_any (λ r. same_path q (key r)) done then script_fault_at tree q else None)

gather : {X : Type 0} (any same : Bool) (here there : Option X) → (same ≡ true → there ≡ here) → (if same && is_some there then there else (if any then here else None)) ≡ (if any || same then here else None)
gather true true here (Some x) is = is refl
gather true true here None is = refl
gather false true here (Some x) is = is refl
gather false true here None is = is refl
gather true false here there is = refl
gather false false here there is = refl

-- one row more
pub tells_more : {R : Type 0} (key : R → List (List ℕ)) (tree : Content) (all : List R) (i : ℕ) (row : R) (old new : List (List (List ℕ) × ScriptFault)) → i < length all → row ≡ get_or all i row
    → TellsRows key tree (take i all) old → Tells tree (key row) old new → TellsRows key tree (take (i + 1) all) new
tells_more key tree all i row old new within item so_far is q =
    let path = key row in
    let fault = script_fault_at tree path in
    is q
    ∙ ap (λ z. if same_path path q && is_some fault then fault else z) (so_far q)
    ∙ ap (λ b. if b && is_some fault then fault else (if list_any (λ r. same_path q (key r)) (take i all) then script_fault_at tree q else None)) (same_path_swapped path q)
    ∙ gather (list_any (λ r. same_path q (key r)) (take i all)) (same_path q path) (script_fault_at tree q) fault (λ one. ap (script_fault_at tree) (sym (path_from_same q path one)))
    ∙ ap (λ z. if z then script_fault_at tree q else None)
    (ap (λ r. list_any (λ o. same_path q (key o)) (take i all) || same_path q (key r)) item ∙ sym (list_any_more (λ r. same_path q (key r)) all i row within))

there_alone : {X : Type 0} (node script named text : Bool) (fault : Option X)
    → (if node then (if script && (named && (node && text)) then fault else None) else None) ≡ (if script && (named && (node && text)) then fault else None)
there_alone true script named text fault = refl
there_alone false true true text fault = refl
there_alone false true false text fault = refl
there_alone false false named text fault = refl

-- all rows of a content
pub tells_all : {R : Type 0} (f : R → List (List ℕ) × Node) (tree : Content) (all : List R) (i : ℕ) (told : List (List (List ℕ) × ScriptFault)) → AreRowsOf tree (map f all) → length all ≤ i
    → TellsRows (λ r. (f r).0) tree (take i all) told → (q : List (List ℕ)) → lookup (same_path q) told ≡ script_fault_at tree q
tells_all f tree all i told are end is q =
    is q ∙ ap (λ rs. if list_any (λ r. same_path q (f r).0) rs then script_fault_at tree q else None) (take_all i all end)
    ∙ ap (λ z. if z then script_fault_at tree q else None) (sym (any_of_keys f q all) ∙ are.paths q)
    ∙ there_alone (is_some (node_at tree q)) (is_script_path q) (is_script_name (name_of q)) (is_some (script_text tree q)) (option_and_then fault_of_text (script_text tree q))
