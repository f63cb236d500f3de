use Rattle.std.proofs.Common.{◌++◌, ◌∷◌, [], ◌∙◌, ap, codes}
use Rattle.replay_text.specs.Transcript.{action_text}
use Rattle.sling_dispatch.specs.Runs.{head_line, host_line, scope_line}
use Rattle.sling_dispatch.proofs.RequestLemmas.{seven_parts}
use Rattle.sling_dispatch.proofs.steps.flush_bytes.Goals as goal

pub returns : goal.returns
returns c =
    let request = head_line (codes "POST /dispatcher/invalidate.cache HTTP/1.1") in
    let host = host_line c.args.host.now in
    let action = head_line (codes "CQ-Action: " ++ action_text c.args.action) in
    let handle = head_line (codes "CQ-Handle: " ++ c.args.handle.now) in
    let scope = scope_line c.args.only in
    let size = head_line (codes "Content-Length: 0") in
    let end = 13 ∷ 10 ∷ [] in
    let first = c.in_ok-push_request_line.ensures ∙ ap (λ x. x ++ request) c.new-bytes.ensures.items in
    let second = c.in_ok-push_head_line.ensures ∙ ap (λ x. x ++ host) first in
    let third = c.in_ok-push_head_line-2.ensures ∙ ap (λ x. x ++ head_line (codes "CQ-Action: " ++ c.action_name.result.now)) second ∙ ap (λ t. ((request ++ host) ++ head_line (codes "CQ-Action: " ++ t))) c.action_name.ensures in
    let fourth = c.in_ok-push_head_line-3.ensures ∙ ap (λ x. x ++ head_line (codes "CQ-Handle: " ++ c.as_bytes.result.now)) third ∙ ap (λ t. (((request ++ host) ++ action) ++ head_line (codes "CQ-Handle: " ++ t))) c.as_bytes.ensures.value in
    let fifth = c.in_ok-push_scope.ensures ∙ ap (λ x. x ++ scope) fourth in
    let sixth = c.in_ok-push_head_line-4.ensures ∙ ap (λ x. x ++ size) fifth in
    c.from.ensures ∙ c.in_ok-extend_from_slice.ensures.items ∙ ap (λ x. x ++ end) sixth ∙ seven_parts request host action handle scope size end
