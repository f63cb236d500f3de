use Rattle.std.proofs.Common.{◌≡◌, map, take}
use Rattle.std.specs.List.{list_any}
use Rattle.sp_base.specs.Fields.{field_at}
use Rattle.http_front.specs.LentHeads.{is_closing_field}
use Rattle.http_front.proofs.fields.asks_to_close.Given as goal

abbrev pub invariant-loop-field : goal.invariant-loop-field
invariant-loop-field l = l.asks ≡ list_any is_closing_field (map (field_at l.bytes) (take l.field-index l.fields))
