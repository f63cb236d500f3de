use Rattle.std.proofs.Common.{◌≡◌, ◌↔◌, IsTrue, IfOk, List, subst, rules}
use Rattle.std.specs.Str.{chars}
use Rattle.regex_rules.specs.declared.place.PatternPlace.{PatternPlace}
use Rattle.regex_rules.specs.Trees.{tree_of}
use Rattle.regex_rules.specs.Languages.{InLanguage}
use Rattle.regex_rules.proofs.CuttingLemmas.{told}
use Rattle.regex_rules.proofs.pattern.Pattern.matches.Goals as goal

pub returns-clause-relation : goal.returns-clause-relation
returns-clause-relation c =
    let same : c.as_slice.result.now ≡ c.args.self.now = search rules in
    subst (λ (ps : List PatternPlace). IfOk c.is_matched.result (λ answer. IsTrue answer ↔ InLanguage (tree_of ps) (chars c.args.text.now))) same c.is_matched.ensures

pub returns-clause-value : goal.returns-clause-value
returns-clause-value c = told (tree_of c.args.self.now) (chars c.args.text.now) c.is_matched.result (returns-clause-relation c)
