use Rattle.std.proofs.Common.{◌≡◌, take}
use Rattle.std.specs.List.{flat_map}
use Rattle.htl_blocks.specs.Settings.{seen_at}
use Rattle.htl_blocks.specs.Sheets.{with_parts}
use Rattle.htl_blocks.specs.Written.{blocks_parts, body_parts, round_parts}
use Rattle.htl_blocks.proofs.written.+written.Given as goal

abbrev pub invariant-blocks-loop-one : goal.invariant-blocks-loop-one
invariant-blocks-loop-one l = l.sheet ≡ with_parts l.fn.sheet (blocks_parts (seen_at l.fn.sheet.scope l.fn.setting) (take l.one-index l.all))

abbrev pub invariant-rounds-loop-index : goal.invariant-rounds-loop-index
invariant-rounds-loop-index l =
    l.sheet ≡ with_parts l.fn.sheet (flat_map (round_parts l.fn.repetition.name.now (body_parts l.fn.repetition.body.now (λ scope. blocks_parts scope l.fn.content)) (seen_at l.fn.sheet.scope l.fn.setting)) (take l.index l.fn.repetition.items))
