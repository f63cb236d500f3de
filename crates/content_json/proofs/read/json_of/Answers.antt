use Rattle.std.proofs.Common.{◌≡◌, true, false, None, if◌then◌else◌, refl, sym, ◌∙◌}
use Rattle.std.proofs.lemmas.Bool.{true≢false}
use Rattle.std.proofs.lemmas.Str.{is_utf8-from_IsUtf8, IsUtf8-from_is_utf8}
use Rattle.std.specs.Str.{is_utf8}
use Rattle.serde_json.specs.Read.{read}
use Rattle.content_json.proofs.read.json_of.Goals as goal

pub returns-in-Ok-clause-ok : goal.returns-in-Ok-clause-ok
returns-in-Ok-clause-ok c = rw (is_utf8-from_IsUtf8 c.args.bytes.now c.in-Ok.ensures.ok.0) c.in-Ok.ensures.ok.1

pub returns-else-is_memory-clause-err : goal.returns-else-is_memory-clause-err
returns-else-is_memory-clause-err c _ =
    let bytes = c.args.bytes.now in
    let refused = c.in-Err.ensures.err (λ memory. true≢false (sym (c.is_memory.ensures.1 memory) ∙ c.if-is_memory.false)) in
    (refl, elim (is_utf8 bytes) as (λ t. is_utf8 bytes ≡ t → (if t then read bytes else None) ≡ None) [ true ↦ λ e. refused (IsUtf8-from_is_utf8 bytes e) | false ↦ λ e. refl ] refl)
