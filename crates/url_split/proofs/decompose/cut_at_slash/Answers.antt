use Rattle.std.proofs.Common.{◌≡◌, ◌-◌, lit<, ◌∙◌, ap, arith, take, Some, None}
use Rattle.std.proofs.lemmas.Str.Pattern.{find_char}
use Rattle.url_split.proofs.SplitLemmas.{cut_prefix, cut_whole}
use Rattle.url_split.proofs.decompose.cut_at_slash.Goals as goal

pub returns-in-Some-clause-prefix : goal.returns-in-Some-clause-prefix
returns-in-Some-clause-prefix c =
    let h = find_char 47 c.args.text.now (Some c.in-Some.at) c.in-Some.ensures.cases (lit< tt) in
    let same : c.in-Some.at - 0 ≡ c.in-Some.at = omega arith in
    c.range.ensures.value ∙ ap (λ n. take n c.args.text.now) same ∙ cut_prefix c.args.text.now c.in-Some.at h.0 h.1 h.2

pub returns-in-None-clause-prefix : goal.returns-in-None-clause-prefix
returns-in-None-clause-prefix c =
    cut_whole c.args.text.now (find_char 47 c.args.text.now None c.in-None.ensures.cases (lit< tt))
