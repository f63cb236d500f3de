use Rattle.std.proofs.Common.{◌≡◌, IfOk, List, subst, rules}
use Rattle.regex_rules.specs.declared.place.PatternPlace.{PatternPlace}
use Rattle.regex_rules.specs.Trees.{tree_of}
use Rattle.regex_rules.specs.Fronts.{IsLastFront}
use Rattle.regex_rules.proofs.pattern.Pattern.longest_front.Goals as goal

pub returns : goal.returns
returns c =
    let same : c.as_slice.result.now ≡ c.args.self.now = search rules in
    subst (λ (ps : List PatternPlace). IfOk c.last_front.result (IsLastFront (tree_of ps) c.args.text.now c.args.from)) same c.last_front.ensures
