use Rattle.std.proofs.Common.{◌∙◌, nat_eq, sym, ap, subst}
use Rattle.std.specs.List.{IsDistinct}
use Rattle.std.specs.Cmp.Lexicographic.{pointwise}
use Rattle.overlay_merge.specs.Kids.{kids_there}
use Rattle.overlay_merge.proofs.OrderLemmas.{distinct_there}
use Rattle.overlay_merge.proofs.kids.kids_of.Goals as goal

pub ordered-requires : goal.ordered-requires
ordered-requires c =
    subst (λ l. IsDistinct (pointwise nat_eq) l) (sym (c.as_slice.ensures.value ∙ c.in_ok-kids.ensures ∙ ap (kids_there c.args.tree.now c.args.path.now) c.in_ok-names.ensures))
    (distinct_there c.args.tree.now c.args.path.now c.args.layers.now c.len.ensures.good.shape c.requires)
