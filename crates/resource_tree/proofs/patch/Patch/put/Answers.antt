use Rattle.std.proofs.Common.{◌∙◌, ap}
use Rattle.resource_tree.specs.Patches.{PatchEntries, with_entry}
use Rattle.resource_tree.proofs.Patching.{with_entry-is}
use Rattle.resource_tree.proofs.patch.Patch.put.Goals as goal

pub returns-clause-ok : goal.returns-clause-ok
returns-clause-ok c = c.in_ok-insert.ensures.entries ∙ with_entry-is c.self.inside.entries.entries c.args.path c.args.node ∙ ap (λ (entries : PatchEntries). with_entry entries c.args.path c.args.node) c.self.view_is
