use Rattle.std.proofs.Common.{◌≡◌, ◌-◌, ◌+◌, ◌*◌, [], length}
use denote.Text.{Utf8}
use denote.Shadow.{shadow}
use Rattle.htl_blocks.specs.Reading.{blocks_read, element, content_within}
use Rattle.htl_blocks.proofs.reader.+reader.Given as goal

abbrev pub decreases-blocks : goal.decreases-blocks
decreases-blocks l = 2 * l.levels + 1

abbrev pub decreases-element : goal.decreases-element
decreases-element l = 2 * l.levels

abbrev pub invariant-blocks-loop-turn : goal.invariant-blocks-loop-turn
invariant-blocks-loop-turn l = shadow (Utf8 l.rest) × (blocks_read (element l.levels (content_within l.levels) l.end) l.end (length l.text - l._turn) l.found l.rest ≡ blocks_read (element l.levels (content_within l.levels) l.end) l.end (length l.text) [] l.text)
