use Rattle.std.proofs.Common.{Some, None, lit<, ◌∙◌, ap}
use Rattle.std.proofs.lemmas.Str.Pattern.{rfind_char}
use Rattle.sp_base.proofs.PathParts.{last_found, last_lacking}
use Rattle.sp_base.proofs.segments.last_segment.Goals as goal

pub returns-in-Some : goal.returns-in-Some
returns-in-Some c =
    let h = rfind_char 47 c.args.text.now (Some c.in-Some.at) c.in-Some.ensures.cases (lit< tt) in
    ap Some c.range_from.ensures.value ∙ last_found c.args.text.now c.in-Some.at h.0 h.1 h.2

pub returns-in-None : goal.returns-in-None
returns-in-None c = last_lacking c.args.text.now (rfind_char 47 c.args.text.now None c.in-None.ensures.cases (lit< tt))
