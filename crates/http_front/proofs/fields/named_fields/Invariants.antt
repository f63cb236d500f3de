use Rattle.std.proofs.Common.{◌≡◌, All, length, map, take}
use Rattle.httparse.specs.Spans.{header_bytes}
use Rattle.sp_base.specs.Fields.{IsFieldWithin, field_at}
use Rattle.http_front.specs.Heads.{lower_case_field}
use Rattle.http_front.proofs.fields.named_fields.Given as goal

abbrev pub invariant-loop-span : goal.invariant-loop-span
invariant-loop-span l =
    (map (field_at l.bytes) l.fields.items ≡ map lower_case_field (map (header_bytes l.bytes) (take l.span-index l.spans))) × All (IsFieldWithin (length l.bytes)) l.fields.items
