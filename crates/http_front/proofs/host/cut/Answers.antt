use Rattle.std.proofs.Common.{◌+◌, ◌∙◌}
use Rattle.std.proofs.lemmas.List.{take_rest}
use Rattle.sp_base.specs.Bytes.{is_colon}
use Rattle.http_front.proofs.TargetLemmas.{before_place, before_none}
use Rattle.http_front.proofs.HostLemmas.{after_place, after_none}
use Rattle.http_front.proofs.host.cut.Goals as goal

pub returns-in-Some-clause-name : goal.returns-in-Some-clause-name
returns-in-Some-clause-name c = before_place is_colon c.args.value.now c.in-Some.at c.in-Some.ensures

pub returns-in-Some-clause-port : goal.returns-in-Some-clause-port
returns-in-Some-clause-port c = take_rest c.args.value.now (c.in-Some.at + 1) ∙ after_place is_colon c.args.value.now c.in-Some.at c.in-Some.ensures

pub returns-in-None-clause-name : goal.returns-in-None-clause-name
returns-in-None-clause-name c = before_none is_colon c.args.value.now c.in-None.ensures

pub returns-in-None-clause-port : goal.returns-in-None-clause-port
returns-in-None-clause-port c = after_none is_colon c.args.value.now c.in-None.ensures
