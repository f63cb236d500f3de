use Rattle.std.proofs.Common.{codes}
use Rattle.std.proofs.lemmas.Result.{on_ok_weaker}
use Rattle.soak_scenarios.specs.Sites.{apps_member, content_line, folder_members}
use Rattle.soak_scenarios.proofs.Texts.{four_texts}
use Rattle.soak_scenarios.proofs.site.push_content.Goals as goal

pub returns : goal.returns
unfolding apps_member content_line folder_members
returns c =
    on_ok_weaker _ (four_texts _ (codes ",\"content\":{\":order\":[\"site\"],\"site\":{\":order\":[\"a0\",\"a1\",\"a2\",\"a3\"]") folder_members (codes "}}}\n") _ _ _ _ _
    c.in_ok-push.ensures c.in_ok-push-2.ensures c.in_ok-push_folders.ensures) c.push-3.ensures
