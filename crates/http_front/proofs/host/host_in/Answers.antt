use Rattle.std.proofs.Common.{◌∙◌, sym}
use Rattle.http_front.proofs.HostLemmas.{name_text}
use Rattle.http_front.proofs.host.host_in.Goals as goal

pub returns-in-Some-clause-text : goal.returns-in-Some-clause-text
returns-in-Some-clause-text c = name_text _ (sym c.is_name.ensures ∙ c.if-not-is_name.false)
