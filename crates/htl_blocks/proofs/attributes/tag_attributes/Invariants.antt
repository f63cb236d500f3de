use Rattle.std.proofs.Common.{◌≡◌, ◌-◌, [], length, string_bytes}
use denote.Text.{Utf8}
use denote.Shadow.{shadow}
use Rattle.htl_blocks.specs.Attributes.{attributes_read, no_attributes}
use Rattle.htl_blocks.proofs.attributes.tag_attributes.Given as goal

abbrev pub invariant-loop-turn : goal.invariant-loop-turn
invariant-loop-turn l = shadow (Utf8 l.rest) × (attributes_read (length l.tag - l._turn) l.found (string_bytes l.kept) l.rest ≡ attributes_read (length l.tag) no_attributes [] l.tag)
