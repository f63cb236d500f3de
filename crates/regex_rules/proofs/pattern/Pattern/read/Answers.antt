use Rattle.std.specs.Str.{chars}
use Rattle.regex_rules.proofs.DecidingLemmas.{none_spelled}
use Rattle.regex_rules.proofs.TreeLemmas.{spelled_is}
use Rattle.regex_rules.proofs.pattern.Pattern.read.Goals as goal

pub returns-in_ok-positions-in-Ok-clause-spelled : goal.returns-in_ok-positions-in-Ok-clause-spelled
returns-in_ok-positions-in-Ok-clause-spelled c = spelled_is (chars c.args.text.now) c.in-Ok.places.items c.in-Ok.ensures.ok

pub returns-in-Err-clause-none : goal.returns-in-Err-clause-none
returns-in-Err-clause-none c = none_spelled (chars c.args.text.now) c.in-Err.fault c.in-Err.ensures.err
