use Rattle.std.proofs.Common.{lit<, rules, tests, ◌∙◌, ap}
use Rattle.std.specs.List.{list_all}
use Rattle.std.proofs.lemmas.Iterator.Splits.{YieldsList-from_str_split}
use Rattle.std.proofs.lemmas.Iterator.Search.{all_from_yields_List}
use Rattle.cover_rules.specs.Names.{has_file_name}
use Rattle.cover_rules.proofs.page.have_names.Goals as goal

pub returns-in-Some : goal.returns-in-Some
returns-in-Some c =
    all_from_yields_List has_file_name _ _ _ c.all.ensures.ran
    (YieldsList-from_str_split 47 c.in-Some.rest.now (lit< tt) c.split.ensures.text c.split.ensures.has_more c.split.ensures.pattern) (λ x b q k. search (rules, tests))
    ∙ ap (list_all has_file_name) c.in-Some.ensures.some
