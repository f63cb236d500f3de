use Rattle.http_front.proofs.SentLemmas.{begins_otherwise, rest_is}
use Rattle.http_front.proofs.sent_bytes.SentBytes.is.Goals as goal

pub returns-in-Some : goal.returns-in-Some
returns-in-Some c =
    cc (rest_is c.bytes.result.now c.self.inside.body c.args.bytes.now c.in-Some.rest.now c.in-Some.ensures.cases.0 c.in-Some.ensures.cases.1, c.eq.ensures, c.bytes.ensures, c.bytes-in-Some.ensures, c.self.view_is)

pub returns-in-None : goal.returns-in-None
returns-in-None c = cc (begins_otherwise c.bytes.result.now c.self.inside.body c.args.bytes.now c.in-None.ensures.cases, c.bytes.ensures, c.self.view_is)
