-- Names that are free, and those that are taken.
use Rattle.std.proofs.Common.{◌≡◌, ◌∙◌, ◌<◌, ◌+◌, ◌-◌, ap, sym, refl, arith, ℕ, suc, List, Option, Some, None, true, false, Bool}
use Rattle.std.specs.Prelude.{is_some, cond, slice_index_or}
use Rattle.std.proofs.lemmas.Bool.{true≢false}
use Rattle.sp_base.specs.Paths.{is_path, path_or_none}
use Rattle.resource_tree.specs.declared.nodes.Node.{Node}
use Rattle.resource_tree.specs.Content.{Content, node_at}
use Rattle.tree_draft.specs.Drafts.{DraftedContent, IsSound}
use Rattle.post_apply.specs.Marks.{MarksTaken}
use Rattle.post_apply.specs.Names.{free_number, is_taken, numbered_name}

-- no node is where no path leads
pub no_path : (draft : DraftedContent) (path : List (List ℕ)) → IsSound draft → None ≡ path_or_none path → is_some (node_at draft.content path) ≡ false
no_path draft path sound none = by_node (node_at draft.content path) refl
  where
    no : (b : Bool) → None ≡ cond b (Some path) None → b ≡ false
    no true e = absurd (cc)
    no false e = refl

    by_node : (o : Option Node) → node_at draft.content path ≡ o → is_some o ≡ false
    by_node None is = refl
    by_node (Some node) is = absurd (true≢false (sym (sound.good.shape.nodes path node is).is_a_path ∙ no (is_path path) none))

less : (n most : ℕ) → n < most → most - n ≡ suc (most - (n + 1))
less n most below = omega (arith, below)

-- a number that is taken is passed over
pub passed : (tree : Content) (parent : List (List ℕ)) (name : List ℕ) (n most : ℕ) → n < most → is_taken tree parent (numbered_name name n) ≡ true
    → free_number tree parent name n (most - n) ≡ free_number tree parent name (n + 1) (most - (n + 1))
unfolding free_number
passed tree parent name n most below taken =
    ap (free_number tree parent name n) (less n most below) ∙ ap (λ b. cond b (free_number tree parent name (n + 1) (most - (n + 1))) n) taken

-- and so is one that is marked as taken
pub passed_marked : (tree : Content) (parent : List (List ℕ)) (name : List ℕ) (n most : ℕ) (marks : List Bool) → n < most → MarksTaken tree parent name marks → slice_index_or marks n false ≡ true
    → free_number tree parent name n (most - n) ≡ free_number tree parent name (n + 1) (most - (n + 1))
passed_marked tree parent name n most marks below taken marked = passed tree parent name n most below (taken n marked)

-- the first that isn't taken
pub found : (tree : Content) (parent : List (List ℕ)) (name : List ℕ) (n most : ℕ) → n < most → is_taken tree parent (numbered_name name n) ≡ false
    → free_number tree parent name n (most - n) ≡ n
unfolding free_number
found tree parent name n most below free =
    ap (free_number tree parent name n) (less n most below) ∙ ap (λ b. cond b (free_number tree parent name (n + 1) (most - (n + 1))) n) free

-- after as many as there are names
pub last : (tree : Content) (parent : List (List ℕ)) (name : List ℕ) (n most : ℕ) → n ≡ most → free_number tree parent name n (most - n) ≡ n
unfolding free_number
last tree parent name n most all =
    let none : most - n ≡ 0 = omega (arith, all) in
    ap (free_number tree parent name n) none
