use Rattle.std.proofs.Common.{◌∙◌, lit<, rules, tests, sym, ap, take, List, ℕ}
use Rattle.std.proofs.lemmas.Iterator.{YieldsList-from_take}
use Rattle.std.proofs.lemmas.Iterator.Consumers.{YieldsList-at, count_from_yields_List}
use Rattle.std.proofs.lemmas.Iterator.Search.{YieldsList-from_take_while}
use Rattle.std.proofs.lemmas.Iterator.Splits.{YieldsList-from_str_split}
use Rattle.std.proofs.lemmas.List.{take-map}
use Rattle.std.proofs.lemmas.List.Folds.{length-prefix_len}
use Rattle.std.specs.List.{prefix_len}
use Rattle.sp_base.specs.Paths.{mangled_segs, mangled_seg, pieces}
use Rattle.cover_rules.specs.Pages.{is_folder_segment}
use Rattle.cover_rules.proofs.TouchLemmas.{prefix_mangled}
use Rattle.cover_rules.proofs.touch.folder_depth.Goals as goal

pub returns-in-Some : goal.returns-in-Some
returns-in-Some c =
    let segs = pieces c.in-Some.rest.now in
    count_from_yields_List c.take_while.result _ c.count.ensures.ran
    (YieldsList-from_take_while _ (λ seg. is_folder_segment (mangled_seg seg))
    (YieldsList-at c.take_while.ensures.source
    (YieldsList-from_take c.args.most
    (YieldsList-at c.take.ensures.source (YieldsList-from_str_split 47 c.in-Some.rest.now (lit< tt) c.split.ensures.text c.split.ensures.has_more c.split.ensures.pattern)) c.take.ensures.count))
    c.take_while.ensures.closure c.take_while.ensures.done (λ x b q k. search (rules, tests)))
    ∙ length-prefix_len (λ (seg : List ℕ). is_folder_segment (mangled_seg seg)) (take c.args.most segs) ∙ prefix_mangled (take c.args.most segs)
    ∙ ap (prefix_len is_folder_segment) (sym (take-map mangled_seg c.args.most segs)) ∙ ap (λ (path : List (List ℕ)). prefix_len is_folder_segment (take c.args.most (mangled_segs path))) c.in-Some.ensures.some
