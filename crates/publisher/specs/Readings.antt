-- What a script's text reads as.
use Rattle.std.specs.Prelude.{List, Option, Some, None, Result, Ok, Err}
use Rattle.sp_base.specs.Texts.{Text}
use Rattle.htl_blocks.specs.declared.block.Block.{Block}
use Rattle.htl_blocks.specs.declared.fault.BlockFault.{BlockFault}
use Rattle.htl_blocks.specs.Reading.{blocks_of}
use Rattle.publisher.specs.declared.templates.Reading.{Reading}
use Rattle.publisher.specs.declared.templates.Reading.TheVariants.{Parsed, Refused}

-- a script's text as it reads: blocks, or none
abbrev pub reading_in : Result (List Block) BlockFault → Reading
reading_in (Ok blocks) = Parsed blocks
reading_in (Err fault) = Refused

-- the reading of a script's text
abbrev pub reading_of : Text → Reading
reading_of text = reading_in (blocks_of text)

-- the blocks of a reading that is there and is none refused
abbrev pub blocks_in : Option Reading → Option (List Block)
blocks_in None = None
blocks_in (Some (Parsed blocks)) = Some blocks
blocks_in (Some Refused) = None
