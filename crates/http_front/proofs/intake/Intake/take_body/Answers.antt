use Rattle.std.proofs.Common.{◌≡◌, ◌≤◌, ◌+◌, ◌∙◌, sym, ap, arith, length, take, drop}
use Rattle.std.proofs.lemmas.List.{drop-drop}
use Rattle.http_front.specs.Turns.{with_request_body}
use Rattle.http_front.specs.Intakes.{rest_of}
use Rattle.http_front.proofs.IntakeLemmas.{leads_body}
use Rattle.http_front.proofs.intake.Intake.take_body.Goals as goal

pub returns-in-Body-replace-clause-turn : goal.returns-in-Body-replace-clause-turn
returns-in-Body-replace-clause-turn c =
    let n = c.in-Body.head.body_length in
    let fits : c.in-Body.head.body_length ≤ length (rest_of c.args.self.now) = omega (arith, c.if-rest-length.false, ap length c.left-rest.ensures) in
    let same : c.in-Body-replace.head ≡ c.in-Body.head = cc (c.in-Body.is, c.in-Body-replace.is, c.replace.ensures.value) in
    leads_body c.args.self.now c.replace.new.dest (drop (c.args.self.now.start + c.in-Body.head.body_length) c.args.self.now.buffer.items) c.in-Body.head c.with_body.result c.in-Body.is
    c.replace.ensures.after (sym (drop-drop c.in-Body.head.body_length c.args.self.now.start c.args.self.now.buffer.items)) fits
    (c.with_body.ensures ∙ λ i. with_request_body (same i) ((c.in_ok-body.ensures ∙ ap (take c.in-Body.head.body_length) c.left-rest.ensures) i))
