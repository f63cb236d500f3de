use Rattle.std.proofs.Common.{◌∙◌, ap, refl, sym, subst}
use Rattle.std.specs.List.Sorted.{IsStrictlySortedBy}
use Rattle.std.proofs.lemmas.List.Filters.{dedup_is}
use Rattle.std.proofs.lemmas.List.Kept.{IsStrictlySortedBy-dedup}
use Rattle.std.proofs.lemmas.List.Sorted.{list_any-IsPermutation}
use Rattle.sp_base.specs.Paths.{by_path}
use Rattle.sp_base.proofs.OrderingLemmas.{by_path_total}
use Rattle.resource_tree.specs.Content.{same_path}
use Rattle.script_rank.specs.Index.{has_path}
use Rattle.script_rank.proofs.ListedLemmas.{each_once}
use Rattle.script_rank.proofs.listed.sort_once.Goals as goal

pub returns : goal.returns
returns c =
    let sorted = c.sort_unstable.new.self.items in
    let once = dedup_is same_path sorted c.dedup.new.self.items c.dedup.ensures.filtered in
    record {
      order = subst (IsStrictlySortedBy by_path) (sym once) (IsStrictlySortedBy-dedup by_path_total (λ x y. refl) sorted c.sort_unstable.ensures.sorted);
      paths = λ q. ap (λ xs. has_path xs q) once ∙ each_once sorted q ∙ sym (list_any-IsPermutation (same_path q) c.args.paths.now.items sorted c.sort_unstable.ensures.permutation);
    }
