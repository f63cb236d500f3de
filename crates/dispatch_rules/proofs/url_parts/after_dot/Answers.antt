use Rattle.std.proofs.Common.{◌≡◌, ◌+◌, lit<, ◌∙◌, sym, ap, arith, drop, length, Some, None}
use Rattle.std.proofs.lemmas.Str.Pattern.{find_char}
use Rattle.sp_base.proofs.ListLemmas.{drop_past}
use Rattle.dispatch_rules.specs.UrlParts.{stem}
use Rattle.dispatch_rules.proofs.CutLemmas.{cut_at, uncut, prefix_length}
use Rattle.dispatch_rules.proofs.url_parts.after_dot.Goals as goal

pub returns-in-Some : goal.returns-in-Some
returns-in-Some c =
    let h = find_char 46 c.args.text.now (Some c.in-Some.at) c.in-Some.ensures.cases (lit< tt) in
    let size : length (stem c.args.text.now) ≡ c.in-Some.at = prefix_length 46 c.args.text.now c.in-Some.at (omega (arith, h.0)) (cut_at 46 c.args.text.now c.in-Some.at h.0 h.1 h.2) in
    c.range_from.ensures.value ∙ ap (λ n. drop (n + 1) c.args.text.now) (sym size)

pub returns-in-None : goal.returns-in-None
returns-in-None c =
    let none = uncut 46 c.args.text.now (find_char 46 c.args.text.now None c.in-None.ensures.cases (lit< tt)) in
    let size : length (stem c.args.text.now) ≡ length c.args.text.now = prefix_length 46 c.args.text.now (length c.args.text.now) (omega arith) none in
    sym (drop_past c.args.text.now (length (stem c.args.text.now) + 1) (omega (arith, size)))
