use Rattle.std.proofs.Common.{◌≡◌, List, refl, subst, sym}
use Rattle.resource_tree.specs.Content.{Content, node_at}
use Rattle.url_maps.specs.Claims.{AreClaims, AreLed, ClaimRows, IsIndexOf, NamesFirst, Table, claims_vanity_path}
use Rattle.url_maps.specs.declared.patterns.PatternNode.{PatternNode}
use Rattle.url_maps.proofs.index.MapIndex.change_of.Goals as goal

-- an index with room for more
with_room : (tree : Content) (a b u v : Table) (patterns : List PatternNode) → b.rows ≡ a.rows → v.rows ≡ u.rows → IsIndexOf tree (record { aliases = a; vanity_paths = u; patterns = patterns })
    → IsIndexOf tree (record { aliases = b; vanity_paths = v; patterns = patterns })
with_room tree a b u v patterns one two is = record {
  aliases = subst (λ (rows : ClaimRows). NamesFirst (node_at tree) rows) (sym one) is.aliases;
  vanity_paths = subst (λ (rows : ClaimRows). AreClaims (claims_vanity_path tree) rows) (sym two) is.vanity_paths;
  leaders = subst (λ (rows : ClaimRows). AreLed (node_at tree) rows) (sym two) is.leaders;
  patterns = is.patterns;
}

pub returns-in_err-make_room-clause-index : goal.returns-in_err-make_room-clause-index
returns-in_err-make_room-clause-index c =
    with_room c.args.tree.now c.self.inside.aliases c.make_room.new.self c.self.inside.vanity_paths c.self.inside.vanity_paths c.self.inside.patterns c.make_room.ensures.rows refl (subst (IsIndexOf c.args.tree.now) (sym c.self.view_is) c.requires)

pub returns-in_err-make_room-2-clause-index : goal.returns-in_err-make_room-2-clause-index
returns-in_err-make_room-2-clause-index c =
    with_room c.args.tree.now c.self.inside.aliases c.make_room.new.self c.self.inside.vanity_paths c.make_room-2.new.self c.self.inside.patterns c.make_room.ensures.rows c.make_room-2.ensures.rows (subst (IsIndexOf c.args.tree.now) (sym c.self.view_is) c.requires)

pub returns-clause-index : goal.returns-clause-index
returns-clause-index c =
    with_room c.args.tree.now c.self.inside.aliases c.make_room.new.self c.self.inside.vanity_paths c.make_room-2.new.self c.self.inside.patterns c.make_room.ensures.rows c.make_room-2.ensures.rows (subst (IsIndexOf c.args.tree.now) (sym c.self.view_is) c.requires)
