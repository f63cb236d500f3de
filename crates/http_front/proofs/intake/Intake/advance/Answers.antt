use Rattle.std.proofs.Common.{subst}
use Rattle.http_front.specs.StreamBeginnings.{IsStart}
use Rattle.http_front.specs.Intakes.{rest_of}
use Rattle.http_front.proofs.StartLemmas.{awaited}
use Rattle.http_front.proofs.IntakeLemmas.{leads_failed, stands_failed, stands_waiting}
use Rattle.http_front.proofs.intake.Intake.advance.Goals as goal

pub returns-in-Refused-clause-breaks : goal.returns-in-Refused-clause-breaks
returns-in-Refused-clause-breaks c =
    let start = subst (λ s. IsStart s c.in_ok-head.field-0) c.left-rest.ensures c.in_ok-head.ensures in
    λ _. stands_failed c.args.self.now c.in-Refused.fault c.in-Heading.is (subst (IsStart (rest_of c.args.self.now)) c.in-Refused.is start)

pub returns-in-Refused-clause-kept : goal.returns-in-Refused-clause-kept
returns-in-Refused-clause-kept c =
    let start = subst (λ s. IsStart s c.in_ok-head.field-0) c.left-rest.ensures c.in_ok-head.ensures in
    leads_failed c.args.self.now (rest_of c.args.self.now) c.in-Refused.fault c.in-Heading.is (subst (IsStart (rest_of c.args.self.now)) c.in-Refused.is start)

pub returns-in-Partial-clause-ok : goal.returns-in-Partial-clause-ok
returns-in-Partial-clause-ok c =
    let start = subst (λ s. IsStart s c.in_ok-head.field-0) c.left-rest.ensures c.in_ok-head.ensures in
    let found = awaited (rest_of c.args.self.now) c.in_ok-head.field-0 start c.in-Partial.is in
    (λ more turns end l. l, stands_waiting c.args.self.now c.in-Heading.is found.0 found.1)
