use Rattle.std.proofs.Common.{◌++◌, ◌∷◌, [], ◌∙◌, ap, codes, length}
use Rattle.std.specs.Fmt.{decimal}
use Rattle.sling_dispatch.specs.Runs.{head_line, host_line}
use Rattle.sling_dispatch.proofs.RequestLemmas.{six_parts}
use Rattle.sling_dispatch.proofs.steps.post_bytes.Goals as goal

pub returns : goal.returns
returns c =
    let request = head_line (codes "POST " ++ (c.args.target.now ++ codes " HTTP/1.1")) in
    let host = host_line c.args.host.now in
    let kind = head_line (codes "Content-Type: application/x-www-form-urlencoded") in
    let size = head_line (codes "Content-Length: " ++ decimal (length c.args.form.now)) in
    let form = c.args.form.now in
    let first = c.in_ok-push_request_line.ensures ∙ ap (λ x. x ++ request) c.new-bytes.ensures.items in
    let second = c.in_ok-push_head_line.ensures ∙ ap (λ x. x ++ host) first in
    let third = c.in_ok-extend_from_slice.ensures.items ∙ ap (λ x. x ++ kind) second in
    let fourth = rw (c.as_bytes.ensures.value, c.in_ok-length.ensures.ok) at (c.in_ok-push_head_line-2.ensures ∙ ap (λ x. x ++ head_line (codes "Content-Length: " ++ c.as_bytes.result.now)) third) in
    let fifth = c.in_ok-extend_from_slice-2.ensures.items ∙ ap (λ x. x ++ 13 ∷ 10 ∷ []) fourth in
    c.from.ensures ∙ c.in_ok-extend_from_slice-3.ensures.items ∙ ap (λ x. x ++ form) fifth ∙ six_parts request host kind size (13 ∷ 10 ∷ []) form
