use Rattle.std.proofs.Common.{◌≡◌, ◌≤◌, ℕ, length, string_bytes}
use denote.Text.{Utf8}
use denote.Shadow.{shadow}
use Rattle.htl_text.specs.Template.{with_plain, template_pieces}
use Rattle.htl_text.proofs.scan.plain.Given as goal

abbrev pub invariant-loop-plain : goal.invariant-loop-plain
invariant-loop-plain l = shadow (Utf8 l.rest) × (length l.rest ≤ length l.text) × ((all : ℕ) → with_plain (string_bytes l.plain) (template_pieces all 0 l.rest) ≡ template_pieces all 0 l.text)

abbrev pub decreases-loop-plain : goal.decreases-loop-plain
decreases-loop-plain l = length l.rest
