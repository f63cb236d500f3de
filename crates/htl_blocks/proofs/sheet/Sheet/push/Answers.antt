use Rattle.std.proofs.Common.{string_bytes}
use Rattle.htl_blocks.specs.Pieces.{pieces_parts}
use Rattle.htl_blocks.proofs.SheetSteps.{room_beside, text_result}
use Rattle.htl_blocks.proofs.sheet.Sheet.push.Goals as goal

pub returns : goal.returns
returns c =
    text_result c.push_within.result c.args.self.now c.self.inside.of c.self.inside.keeping (pieces_parts c.self.inside.of c.self.inside.pieces) (string_bytes c.self.inside.tail) c.args.text.now (string_bytes c.push_within.new.text) c.self.inside.rounds c.room-room.result
    c.self.view_is c.self.invariant.0 (room_beside c.self.inside.of c.self.inside.pieces c.room-room.result c.room-room.ensures) c.push_within.ensures.ok c.push_within.ensures.err
