use Rattle.std.proofs.Common.{[]}
use Rattle.http_front.proofs.HeadLemmas.{known_close}
use Rattle.http_front.proofs.fields.lists_close.Goals as goal

pub returns : goal.returns
returns c = known_close c.args.value.now c.add.new.self (c.add.ensures [] c.new-known.ensures)
