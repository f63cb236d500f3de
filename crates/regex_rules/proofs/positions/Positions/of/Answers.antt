use Rattle.std.proofs.Common.{arith}
use Rattle.regex_rules.proofs.KeptLemmas.{made}
use Rattle.regex_rules.proofs.positions.Positions.of.Goals as goal

pub returns : goal.returns
returns c =
    made c.args.places.now c.count-number.result c.in_ok-linking.linking c.go.new.self (record { whole = c.whole.result; follow = c.into_follow.result; listed = c.in_ok-listed.listed }) c.count-number.ensures (omega arith) c.in_ok-linking.ensures c.in_ok-go.ensures c.whole.ensures
    c.into_follow.ensures c.in_ok-listed.ensures
