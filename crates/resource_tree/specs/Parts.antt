-- The paths of a node and all below it, a level after the other by the kids' names. Only private functions and proofs cite this.
use Rattle.std.specs.Prelude.{◌++◌, ◌∷◌, [], ℕ, List, zero, suc, map}
use Rattle.sp_base.specs.Texts.{Segments}
use Rattle.resource_tree.specs.Content.{Content, kid}
use Rattle.resource_tree.specs.Changes.{kids_at}

-- the paths of the kids of the nodes at some paths
abbrev pub kids_below : Content → List Segments → List Segments
kids_below tree [] = []
kids_below tree (path ∷ level) = map (kid path) (kids_at tree path) ++ kids_below tree level

-- some paths, and the next levels below them
unfoldable pub levels : Content → ℕ → List Segments → List Segments
levels tree zero level = []
levels tree (suc n) level = level ++ levels tree n (kids_below tree level)
