use Rattle.std.proofs.Common.{◌≡◌, ◌++◌, take}
use Rattle.std.specs.Prelude.{flat_map}
use Rattle.soak_scenarios.specs.Sites.{page_member}
use Rattle.soak_scenarios.proofs.site.push_pages.Given as goal

abbrev pub invariant-loop-page : goal.invariant-loop-page
invariant-loop-page l = (l.draft.text ≡ l.initial.draft.text ++ flat_map page_member (take l.page-index l.numbers)) × (l.draft.seed ≡ l.initial.draft.seed)
