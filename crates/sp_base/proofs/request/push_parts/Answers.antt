use Rattle.std.proofs.Common.{◌∙◌, ap, refl, subst, arith, List, ℕ}
use Rattle.std.specs.Prelude.{◌++◌, IsUtf8}
use Rattle.sp_base.proofs.RequestBlockLemmas.{pushed}
use Rattle.sp_base.proofs.request.push_parts.Goals as goal

pub returns : goal.returns
returns c =
    let head = c.args.head.now in
    let first = c.in_ok-push.ensures ∙ ap (λ (l : List ℕ). l ++ c.as_bytes.result.now) c.requires.empty ∙ c.as_bytes.ensures.value in
    let third = c.in_ok-push-3.ensures ∙ ap (λ (l : List ℕ). c.push-2.new.block.items ++ l) c.as_bytes-2.ensures.value in
    let line = c.in_ok-push-4.ensures ∙ ap (λ (l : List ℕ). c.push-3.new.block.items ++ l) c.as_bytes-3.ensures.value in
    let hosted = c.in_ok-push-5.ensures ∙ ap (λ (l : List ℕ). c.push-4.new.block.items ++ l) c.as_bytes-4.ensures.value in
    pushed head c.push.new.block.items c.push-2.new.block.items c.push-3.new.block.items c.push-4.new.block.items c.push-5.new.block.items c.push-6.new.block.items c.query_bytes.result.now c.version_of.result.now _
    first c.in_ok-push-2.ensures third line c.version_of.ensures hosted c.in_ok-push-6.ensures refl (omega (arith, c.len-line.ensures, c.push-4.new.block.ok)) (omega (arith, c.len-host.ensures, c.push-5.new.block.ok))
    (omega (arith, c.len.ensures, c.push-6.new.block.ok))
    (subst IsUtf8 c.as_bytes.ensures.value c.as_bytes.ensures.utf8) (subst IsUtf8 c.as_bytes-2.ensures.value c.as_bytes-2.ensures.utf8) (subst IsUtf8 c.as_bytes-3.ensures.value c.as_bytes-3.ensures.utf8)
    (subst IsUtf8 c.as_bytes-4.ensures.value c.as_bytes-4.ensures.utf8) c.is_some.ensures c.query_bytes.ensures
