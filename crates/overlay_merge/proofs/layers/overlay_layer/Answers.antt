use Rattle.std.proofs.Common.{◌≡◌, ◌∷◌, ◌++◌, [], None, drop, sym, ◌∙◌, ap}
use Rattle.sp_base.specs.Paths.{path_or_none}
use Rattle.overlay_merge.proofs.PathLemmas.{is_path-below, no_path_at}
use Rattle.overlay_merge.proofs.layers.overlay_layer.Goals as goal

pub unreachable-requires : goal.unreachable-requires
unreachable-requires c =
    let path = c.args.path.now in
    let top = c.args.top.now in
    let place : c.in-Ok.place ≡ top ∷ [] = c.in-Ok.ensures.whole c.requires ∙ ap (λ l. l ++ top ∷ []) c.root.ensures in
    let none : None ≡ path_or_none (top ∷ drop 2 path) = sym c.in_default.is ∙ c.in_ok-path.ensures ∙ ap (λ l. path_or_none (l ++ drop 2 path)) place in
    no_path_at (top ∷ drop 2 path) (is_path-below path top c.requires c.depth-below.ensures.valid) none
