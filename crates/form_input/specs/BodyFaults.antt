-- Why a multipart body is refused, as a whole (RFC 7578; RFC 2046, section 5.1.1): the relation of which a fault of `multipart_of` is the answer.
use Rattle.std.specs.Prelude.{◌≡◌, ◌≤◌, ◌+◌, ◌⊎◌, ℕ, Bool, true, not, List, [], ◌∷◌, ◌++◌, Some, None, map, length}
use Rattle.std.specs.List.{list_all}
use Rattle.sp_base.specs.Texts.{Text, Pairs}
use Rattle.form_input.specs.declared.fault.FormFault.{FormFault}
use Rattle.form_input.specs.declared.fault.FormFault.TheVariants.{BadPart, TooMany}
use Rattle.form_input.specs.Lines.{lines}
use Rattle.form_input.specs.Multipart.{dash_boundary, line_form, is_plain_line, pair_of, most_pairs}
use Rattle.form_input.specs.Bodies.{BodyPart, part_lines, are_plain, is_body_part}

-- the bytes of lines, each with its line end
unfoldable pub bytes_of_lines : List Text → ℕ
bytes_of_lines [] = 0
bytes_of_lines (line ∷ more) = length line + 2 + bytes_of_lines more

-- a boundary line, be it the closing one or not
abbrev pub is_boundary_line : List ℕ → List ℕ → Bool
is_boundary_line dash line = not (is_plain_line (line_form dash line))

-- lines begin with a preamble and with parts that each have a pair; the others are left
pub record BeginsWithPairs (boundary : List ℕ) (ls : List Text) (pairs : Pairs) (left : List Text) : Type 0 where
  pub preamble : List Text
  pub parts : List BodyPart
  pub spells : ls ≡ preamble ++ (part_lines parts ++ left)
  pub before : are_plain (dash_boundary boundary) preamble ≡ true
  pub opened : list_all (is_body_part (dash_boundary boundary)) parts ≡ true
  pub each : map (λ p. pair_of p.content) parts ≡ map Some pairs

-- no line is a boundary line
abbrev pub HasNoPart : List ℕ → List ℕ → Type 0
HasNoPart boundary body = are_plain (dash_boundary boundary) (lines body) ≡ true

-- after at most 1,000 parts with pairs stands a part that no boundary line ends
pub record LacksEnd (boundary body : List ℕ) : Type 0 where
  pub pairs : Pairs
  pub last : BodyPart
  pub begins : BeginsWithPairs boundary (lines body) pairs (last.line ∷ last.content)
  pub few : length pairs ≤ most_pairs
  pub opened : is_body_part (dash_boundary boundary) last ≡ true

-- after at most 1,000 parts with pairs stands a part without a pair, whose boundary line is at this place of the body
pub record HasBadPart (boundary body : List ℕ) (place : ℕ) : Type 0 where
  pub pairs : Pairs
  pub bad : BodyPart
  pub next : List ℕ
  pub more : List Text
  pub begins : BeginsWithPairs boundary (lines body) pairs (bad.line ∷ (bad.content ++ next ∷ more))
  pub few : length pairs ≤ most_pairs
  pub opened : is_body_part (dash_boundary boundary) bad ≡ true
  pub ended : is_boundary_line (dash_boundary boundary) next ≡ true
  pub nameless : pair_of bad.content ≡ None
  pub at : place ≡ bytes_of_lines (begins.preamble ++ part_lines begins.parts)

-- 1,001 parts have pairs, and a boundary line ends the last of them
pub record HasTooMany (boundary body : List ℕ) : Type 0 where
  pub pairs : Pairs
  pub next : List ℕ
  pub more : List Text
  pub begins : BeginsWithPairs boundary (lines body) pairs (next ∷ more)
  pub ended : is_boundary_line (dash_boundary boundary) next ≡ true
  pub many : length pairs ≡ most_pairs + 1

-- what a body is refused for: it has no end, told at the end of the body, or a part has no pair, told at its boundary line; or there are too many
abbrev pub IsBodyFault : List ℕ → List ℕ → FormFault → Type 0
IsBodyFault boundary body (BadPart place) = ((place ≡ length body) × (HasNoPart boundary body ⊎ LacksEnd boundary body)) ⊎ HasBadPart boundary body place
IsBodyFault boundary body TooMany = HasTooMany boundary body
IsBodyFault boundary body _ = ⊥
