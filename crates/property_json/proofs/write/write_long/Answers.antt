use Rattle.std.proofs.Common.{ap, ◌∙◌, to_z-of_z, ◌++◌, ◌∷◌, []}
use Rattle.std.specs.Fmt.{signed_decimal}
use Rattle.json.specs.Token.{Token}
use Rattle.std.proofs.lemmas.Result.{on_ok_weaker}
use Rattle.property_json.proofs.ArrayLemmas.{long_is}
use Rattle.property_json.proofs.write.write_long.Goals as goal

pub returns-clause-long : goal.returns-clause-long
returns-clause-long c = long_is c.args.number c.ranges.number

pub returns-clause-tokens : goal.returns-clause-tokens
returns-clause-tokens c =
    on_ok_weaker c.i64.result
    (λ e. record { tokens = e ∙ ap (λ n. c.args.writer.now.tokens ++ Token.number (signed_decimal n) ∷ []) (to_z-of_z c.ranges.number); before = c.i64.ensures.room.0 })
    c.i64.ensures.ok
