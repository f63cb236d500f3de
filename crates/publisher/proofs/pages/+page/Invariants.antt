use Rattle.std.proofs.Common.{◌+◌, ◌*◌, take}
use Rattle.htl_blocks.specs.Pieces.{pieces_parts}
use Rattle.publisher.specs.Gathering.{inclusion_in}
use Rattle.publisher.specs.Kept.{AreReadings}
use Rattle.publisher.proofs.PageSteps.{IsSoFar}
use Rattle.publisher.proofs.pages.+page.Given as goal

abbrev pub decreases-write_piece : goal.decreases-write_piece
decreases-write_piece l = 5 * l.setting.now.levels + 1

abbrev pub decreases-write_pieces : goal.decreases-write_pieces
decreases-write_pieces l = 5 * l.setting.now.levels + 2

abbrev pub decreases-write_blocks : goal.decreases-write_blocks
decreases-write_blocks l = 5 * l.setting.now.levels + 3

abbrev pub decreases-write_script : goal.decreases-write_script
decreases-write_script l = 5 * l.setting.now.levels + 4

abbrev pub decreases-include_script : goal.decreases-include_script
decreases-include_script l = 5 * l.setting.now.levels

abbrev pub decreases-include_resource : goal.decreases-include_resource
decreases-include_resource l = 5 * l.setting.now.levels

abbrev pub invariant-write_pieces-loop-piece : goal.invariant-write_pieces-loop-piece
invariant-write_pieces-loop-piece l =
    IsSoFar (inclusion_in l.fn.setting) l.fn.page l.page l.left (pieces_parts l.fn.list.scope (take l.piece-index l.piece-items)) (pieces_parts l.fn.list.scope l.piece-items) × AreReadings l.fn.setting.content.now l.templates
