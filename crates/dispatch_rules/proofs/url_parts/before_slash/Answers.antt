use Rattle.std.proofs.Common.{◌≡◌, ◌-◌, lit<, ◌∙◌, ap, arith, take, Some, None}
use Rattle.std.proofs.lemmas.Str.Pattern.{find_char}
use Rattle.dispatch_rules.proofs.CutLemmas.{cut_at, uncut, prefix_of, whole_prefix}
use Rattle.dispatch_rules.proofs.url_parts.before_slash.Goals as goal

pub returns-in-Some : goal.returns-in-Some
returns-in-Some c =
    let h = find_char 47 c.args.text.now (Some c.in-Some.at) c.in-Some.ensures.cases (lit< tt) in
    let same : c.in-Some.at - 0 ≡ c.in-Some.at = omega arith in
    c.range.ensures.value ∙ ap (λ n. take n c.args.text.now) same ∙ prefix_of 47 c.args.text.now c.in-Some.at (cut_at 47 c.args.text.now c.in-Some.at h.0 h.1 h.2)

pub returns-in-None : goal.returns-in-None
returns-in-None c = whole_prefix 47 c.args.text.now (uncut 47 c.args.text.now (find_char 47 c.args.text.now None c.in-None.ensures.cases (lit< tt)))
