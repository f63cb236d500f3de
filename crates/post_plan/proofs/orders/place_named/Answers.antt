use Rattle.std.proofs.Common.{rules, ◌≡◌, false, codes}
use Rattle.std.specs.Str.{bytes_eq}
use Rattle.std.proofs.lemmas.Str.Pattern.{starts_text}
use Rattle.post_plan.proofs.NumberLemmas.{place_rest}
use Rattle.post_plan.proofs.orders.place_named.Goals as goal

pub returns : goal.returns
returns c =
    let first : bytes_eq c.args.word.now (codes "first") ≡ false = search rules in
    let last : bytes_eq c.args.word.now (codes "last") ≡ false = search rules in
    let place = place_rest c.args.word.now first last (starts_text false (codes "before ") c.args.word.now c.in_default.ensures.cases) (starts_text false (codes "after ") c.args.word.now c.in_default-strip_prefix.ensures.cases) in
    search rules
