use Rattle.std.proofs.Common.{codes}
use Rattle.std.proofs.lemmas.Result.{on_ok_weaker}
use Rattle.soak_scenarios.specs.Sites.{page_members, pages_order}
use Rattle.soak_scenarios.proofs.Texts.{six_texts}
use Rattle.soak_scenarios.proofs.site.push_folder.Goals as goal

pub returns : goal.returns
unfolding page_members pages_order
returns c =
    on_ok_weaker _ (six_texts (codes ",\"a") _ (codes "\":{") pages_order page_members (codes "}") _ _ _ _ _ _ _
    c.in_ok-push.ensures c.in_ok-push_number.ensures c.in_ok-push-2.ensures c.in_ok-push-3.ensures c.in_ok-push_pages.ensures) c.push-4.ensures
