-- The name that a new node gets (Apache Sling, "SlingPostServlet", "Algorithm for node name creation").
use Rattle.std.specs.Prelude.{◌+◌, ◌++◌, ◌∷◌, ◌||◌, ℕ, zero, suc, Bool, List, is_some, length, decimal, if◌then◌else◌}
use Rattle.std.specs.Option.{option_map_or}
use Rattle.sp_base.specs.Texts.{Segments}
use Rattle.resource_tree.specs.Content.{Content, kid, node_at}
use Rattle.resource_tree.specs.Changes.{has_prop_at}
use Rattle.post_plan.specs.declared.operation.NameWish.{NameWish}
use Rattle.post_plan.specs.declared.operation.NameWish.TheVariants.{Exact, Hint}

-- whether a kid or a property of the parent has the name
abbrev pub is_taken : Content → Segments → List ℕ → Bool
is_taken tree parent name = has_prop_at tree parent name || is_some (node_at tree (kid parent name))

-- a name, `_` and a number
abbrev pub numbered_name : List ℕ → ℕ → List ℕ
numbered_name name n = name ++ 95 ∷ decimal n

-- the first of this many numbers from `n` on with which the name isn't taken, or the one after them where it is taken with each
unfoldable pub free_number : Content → Segments → List ℕ → ℕ → ℕ → ℕ
free_number tree parent name n zero = n
free_number tree parent name n (suc more) = if is_taken tree parent (numbered_name name n) then free_number tree parent name (n + 1) more else n

-- as many as the parent has kids and properties. Among one number more than that, one is free (`MadeNamesAreLeast` of Laws.antt)
abbrev pub most_taken : Content → Segments → ℕ
most_taken tree parent = option_map_or (λ node. length node.kids + length node.props) (node_at tree parent) 0

-- a name with the least number with which it isn't taken
abbrev pub free_numbered : Content → Segments → List ℕ → List ℕ
free_numbered tree parent name = numbered_name name (free_number tree parent name 0 (most_taken tree parent))

-- a made name, with the least number where it is taken
abbrev pub free_name : Content → Segments → List ℕ → List ℕ
free_name tree parent name = if is_taken tree parent name then free_numbered tree parent name else name

-- the name of a new node below a parent
abbrev pub name_given : Content → Segments → NameWish → List ℕ
name_given tree parent (Exact name) = name
name_given tree parent (Hint name) = free_name tree parent name
