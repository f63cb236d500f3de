use Rattle.std.proofs.Common.{Some, None, lit<, ◌∙◌, ap}
use Rattle.std.proofs.lemmas.Str.Pattern.{rfind_char}
use Rattle.post_plan.specs.Parameters.{suffix_named}
use Rattle.post_plan.proofs.AtLemmas.{suffix_at, suffix_none}
use Rattle.post_plan.proofs.parameters.suffix_of.Goals as goal

pub returns-in-Some : goal.returns-in-Some
returns-in-Some c =
    let found = rfind_char 64 c.args.name.now (Some c.in-Some.at) c.in-Some.ensures.cases (lit< tt) in
    c.suffix_named.ensures ∙ ap suffix_named c.range_from.ensures.value ∙ suffix_at c.args.name.now c.in-Some.at found.0 found.1 found.2

pub returns-in-None : goal.returns-in-None
returns-in-None c = suffix_none c.args.name.now (rfind_char 64 c.args.name.now None c.in-None.ensures.cases (lit< tt))
