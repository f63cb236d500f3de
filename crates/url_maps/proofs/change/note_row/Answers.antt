use Rattle.std.proofs.Common.{false, ◌∙◌, ap, sym, subst}
use Rattle.std.specs.Prelude.{option_copied}
use Rattle.std.specs.List.{list_any}
use Rattle.std.specs.Option.{option_map_or}
use Rattle.std.specs.Str.{bytes_eq}
use Rattle.url_maps.specs.Claims.{Index, claims_vanity_path, node_claims_vanity_path}
use Rattle.url_maps.specs.Noting.{NotesEntry, left_vanity_path}
use Rattle.url_maps.proofs.ClaimLemmas.{claims_vanity_path_is}
use Rattle.url_maps.proofs.ChangeLemmas.{notes_row_alike}
use Rattle.url_maps.proofs.change.note_row.Goals as goal

pub returns : goal.returns
returns c =
    let path = c.args.patched.now.path.now in
    subst (λ (i : Index). NotesEntry i.vanity_paths.rows c.args.patch.now path (claims_vanity_path c.args.tree.now path) (left_vanity_path path c.args.patched.now.row.now) c.args.change.now c.note_node.new.self) c.index.view_is
    (notes_row_alike c.index.inside.vanity_paths.rows c.args.patch.now path (λ t. list_any (bytes_eq t) c.in_ok-before.before) (claims_vanity_path c.args.tree.now path) (λ t. list_any (bytes_eq t) c.in_ok-after.after) (left_vanity_path path c.args.patched.now.row.now)
    c.args.change.now c.note_node.new.self
    (λ t. c.in_ok-before.ensures t ∙ sym (claims_vanity_path_is c.args.tree.now path (option_copied c.node-old.result) c.node-old.ensures t))
    (λ t. c.in_ok-after.ensures t ∙ ap (λ o. option_map_or (λ n. node_claims_vanity_path n t) o false) c.left_by-new.ensures)
    c.in_ok-note_node.ensures)
