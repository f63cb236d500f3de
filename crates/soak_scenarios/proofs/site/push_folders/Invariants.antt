use Rattle.std.proofs.Common.{◌≡◌, ◌++◌, take}
use Rattle.std.specs.Prelude.{flat_map}
use Rattle.soak_scenarios.specs.Sites.{folder_member}
use Rattle.soak_scenarios.proofs.site.push_folders.Given as goal

abbrev pub invariant-loop-folder : goal.invariant-loop-folder
invariant-loop-folder l = (l.draft.text ≡ l.initial.draft.text ++ flat_map folder_member (take l.folder-index l.numbers)) × (l.draft.seed ≡ l.initial.draft.seed)
