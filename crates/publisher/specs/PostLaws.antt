-- What holds of every request and every POST.
use Rattle.std.specs.Prelude.{◌≢◌, ℕ, List, Err}
use Rattle.sp_base.specs.declared.answer.Ask.{Ask}
use Rattle.resource_tree.specs.Content.{Content, IsGood}
use Rattle.publisher.specs.declared.refusal.Refusal.TheVariants.{NoMemory}
use Rattle.publisher.specs.Posting.{posting}
use Rattle.publisher.specs.Rendering.{content_after_request}

-- whatever the request, the content after it is good
abbrev pub RequestsKeepContentGood : Type 0
RequestsKeepContentGood = (tree : Content) (ask : Ask) → IsGood tree → IsGood (content_after_request tree ask)

-- by definition no POST is refused because memory ran out: each refusal has a cause in the request or the content
abbrev pub PostsAreRefusedForCauses : Type 0
PostsAreRefusedForCauses = (tree : Content) (ask : Ask) (text : List ℕ) → posting tree ask text ≢ Err NoMemory
