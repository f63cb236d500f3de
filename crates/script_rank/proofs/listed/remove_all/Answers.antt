use Rattle.std.proofs.Common.{◌∙◌, ap, rules, sym, subst}
use Rattle.std.specs.Prelude.{not}
use Rattle.std.specs.List.Sorted.{IsStrictlySortedBy}
use Rattle.std.proofs.lemmas.Fn.{filter_same}
use Rattle.std.proofs.lemmas.List.Kept.{IsStrictlySortedBy-filter}
use Rattle.sp_base.specs.Texts.{Segments}
use Rattle.sp_base.specs.Paths.{by_path}
use Rattle.script_rank.specs.Index.{has_path}
use Rattle.script_rank.proofs.ListedLemmas.{passing}
use Rattle.script_rank.proofs.listed.remove_all.Goals as goal

pub returns : goal.returns
returns c =
    let test = λ (p : Segments). not (has_path c.args.gone.now p) in
    let gone = c.requires.gone in
    let kept = filter_same _ test _ (λ x b f' k. search (rules, gone)) _ _ c.retain.ensures.filtered in
    record {
      order = subst (IsStrictlySortedBy by_path) (sym kept) (IsStrictlySortedBy-filter by_path test c.args.paths.now.items c.requires.order);
      paths = λ q. ap (λ xs. has_path xs q) kept ∙ passing test c.args.paths.now.items q;
      room = c.retain.ensures.capacity;
      fewer = c.retain.ensures.bound;
    }
