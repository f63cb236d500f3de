use Rattle.http_front.proofs.ParserLemmas.{texts, version, asking}
use Rattle.http_front.proofs.window.whole.Goals as goal

pub read_head-requires-clause-texts : goal.read_head-requires-clause-texts
read_head-requires-clause-texts c = texts _ _ _ c.requires.small c.requires.holds

pub read_head-requires-clause-version : goal.read_head-requires-clause-version
read_head-requires-clause-version c = version _ _ _ c.requires.holds

pub returns-in-Ok : goal.returns-in-Ok
returns-in-Ok c = λ room. asking _ _ _ _ c.requires.small c.requires.holds c.in-Ok.ensures.ok
