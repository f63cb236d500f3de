use Rattle.std.proofs.Common.{◌∙◌, Some, ap, sym}
use Rattle.std.specs.Prelude.{option_and_then}
use Rattle.std.specs.Option.{option_map}
use Rattle.percent_encoding.specs.Percent.{percent_decode}
use Rattle.http_front.specs.PathReading.{path_and_slash}
use Rattle.http_front.specs.Targets.{utf8_text, query_of}
use Rattle.http_front.proofs.LiteralPaths.{with_query, target_told}
use Rattle.http_front.proofs.target.lent_target.Goals as goal

pub returns-in-None : goal.returns-in-None
returns-in-None c =
    let read = sym c.in-None.is ∙ c.in_ok-read.ensures ∙ ap (λ bytes. option_and_then path_and_slash (utf8_text (percent_decode bytes))) c.cut.ensures.path in
    ap (option_map (with_query (query_of c.args.target.now))) read
    ∙ target_told c.args.target.now (sym c.begins_with_slash.ensures ∙ c.if-not-begins_with_slash.false)

pub returns-in-Some : goal.returns-in-Some
returns-in-Some c =
    let read = sym c.in-Some.is ∙ c.in_ok-read.ensures ∙ ap (λ bytes. option_and_then path_and_slash (utf8_text (percent_decode bytes))) c.cut.ensures.path in
    ap (λ q. Some (with_query q (c.in-Some.path, c.in-Some.slash))) c.cut.ensures.query ∙ ap (option_map (with_query (query_of c.args.target.now))) read
    ∙ target_told c.args.target.now (sym c.begins_with_slash.ensures ∙ c.if-not-begins_with_slash.false)
