use Rattle.std.proofs.Common.{Some, None, lit<, ◌∙◌}
use Rattle.std.proofs.lemmas.Str.Pattern.{rfind_char}
use Rattle.post_plan.proofs.AtLemmas.{path_at, path_whole}
use Rattle.post_plan.proofs.parameters.path_text.Goals as goal

pub returns-in-Some : goal.returns-in-Some
returns-in-Some c =
    let found = rfind_char 64 c.args.name.now (Some c.in-Some.at) c.in-Some.ensures.cases (lit< tt) in
    c.range.ensures.value ∙ path_at c.args.name.now c.in-Some.at found.0 found.1 found.2

pub returns-in-None : goal.returns-in-None
returns-in-None c = path_whole c.args.name.now (rfind_char 64 c.args.name.now None c.in-None.ensures.cases (lit< tt))
