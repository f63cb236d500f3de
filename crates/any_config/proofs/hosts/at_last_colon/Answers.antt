use Rattle.std.proofs.Common.{◌≡◌, ◌∙◌, lit<, take, drop, Some, suc, None}
use Rattle.std.proofs.lemmas.Str.Pattern.{rfind_char}
use Rattle.any_config.proofs.HostLemmas.{no_colon, last_colon, prefix_is, back_is}
use Rattle.any_config.proofs.hosts.at_last_colon.Goals as goal

pub returns-in-None : goal.returns-in-None
returns-in-None c = no_colon c.args.text.now (rfind_char 58 c.args.text.now None c.in-None.ensures.cases (lit< tt))

pub returns-in-Some : goal.returns-in-Some
returns-in-Some c =
    let found = rfind_char 58 c.args.text.now (Some c.in-Some.at) c.in-Some.ensures.cases (lit< tt) in
    let prefix : c.range.result.now ≡ take c.in-Some.at c.args.text.now = c.range.ensures.value ∙ prefix_is c.in-Some.at c.args.text.now in
    let back : c.range_from.result.now ≡ drop (suc c.in-Some.at) c.args.text.now = c.range_from.ensures.value ∙ back_is c.in-Some.at c.args.text.now in
    rw (prefix, back) (last_colon c.args.text.now c.in-Some.at found.0 found.1 found.2)
