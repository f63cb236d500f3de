use Rattle.std.proofs.Common.{◌∙◌, sym, ap, rules, string_bytes, List, ℕ, ◌++◌}
use Rattle.htl_syntax.proofs.Scan.{prefix_ascii}
use Rattle.htl_syntax.proofs.Strings.{plain_boundary, closes_is, stops_is, escape_fails, escape_is, escape_less}
use Rattle.htl_syntax.proofs.tokens.string_from.Goals as goal

pub split_at-requires : goal.split_at-requires
split_at-requires c = rw (c.plain_len.ensures, c.as_bytes.ensures.value) (plain_boundary c.args.mark c.loop-found.rest.now c.requires)

pub returns-then-begins_with_byte : goal.returns-then-begins_with_byte
returns-then-begins_with_byte c =
    rw (c.from.ensures, c.remainder.ensures)
    (closes_is c.args.mark c.plain_len.result _ _ c.loop-found.rest.now _ _ _ (rw c.as_bytes.ensures.value at c.plain_len.ensures) c.split_at.ensures.front c.split_at.ensures.back c.in_ok-push_str.ensures.bytes c.loop-found.invariant.1 (sym c.if-begins_with_byte.ensures))

pub returns-then-not-begins_with_byte : goal.returns-then-not-begins_with_byte
returns-then-not-begins_with_byte c =
    stops_is c.args.mark c.plain_len.result _ _ c.loop-found.rest.now _ _ _ (rw c.as_bytes.ensures.value at c.plain_len.ensures) c.split_at.ensures.front c.split_at.ensures.back c.in_ok-push_str.ensures.bytes c.loop-found.invariant.1 (sym c.if-begins_with_byte.ensures) (sym c.if-not-begins_with_byte.ensures)

pub tail-requires : goal.tail-requires
tail-requires c = prefix_ascii 92 c.split_at.result.1.now (search rules) (sym c.if-not-begins_with_byte.ensures)

pub returns-in_err-c : goal.returns-in_err-c
returns-in_err-c c =
    let fails =
    escape_fails c.args.mark c.plain_len.result _ _ c.loop-found.rest.now _ _ _ (rw c.as_bytes.ensures.value at c.plain_len.ensures) c.split_at.ensures.front c.split_at.ensures.back c.in_ok-push_str.ensures.bytes c.loop-found.invariant.1 c.in_err-c.field-0.0 (sym c.if-begins_with_byte.ensures) (sym c.if-not-begins_with_byte.ensures) (rw c.tail.ensures at c.in_err-c.ensures.value) in
    search rules

pub loop-found-smaller : goal.loop-found-smaller
loop-found-smaller c =
    escape_less c.args.mark c.plain_len.result _ _ c.loop-found.rest.now _ _ _ (rw c.as_bytes.ensures.value at c.plain_len.ensures) c.split_at.ensures.front c.split_at.ensures.back c.in_ok-push_str.ensures.bytes c.loop-found.invariant.1 _ _ (sym c.if-not-begins_with_byte.ensures) (rw c.tail.ensures at c.in_ok-c.ensures.value)

pub loop-found-preserved : goal.loop-found-preserved
loop-found-preserved c =
    let same =
    escape_is c.args.mark c.plain_len.result _ _ c.loop-found.rest.now _ _ _ (rw c.as_bytes.ensures.value at c.plain_len.ensures) c.split_at.ensures.front c.split_at.ensures.back c.in_ok-push_str.ensures.bytes c.loop-found.invariant.1 _ _ (sym c.if-begins_with_byte.ensures) (sym c.if-not-begins_with_byte.ensures) (rw c.tail.ensures at c.in_ok-c.ensures.value) in
    let bytes = c.in_ok-push.ensures.bytes ∙ ap (λ (l : List ℕ). string_bytes c.push_str.new.self ++ l) (c.in_ok-push.ensures.ascii c.in_ok-c.ensures.ascii) in
    (search rules, rw bytes same)
