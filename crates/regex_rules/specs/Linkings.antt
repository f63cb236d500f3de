-- What the functions promise one another that go over the places of a pattern to find which of its characters may come after which, and which take a character of a text.
-- A reader of what a pattern matches needs none of it.
use Rattle.std.specs.Prelude.{◌≡◌, ℕ, ◌+◌, ◌*◌, ◌/◌, ◌%◌, ◌^◌, ◌<◌, ◌≤◌, ◌==◌, Bool, false, List, [], ◌∷◌, if◌then◌else◌, bit_or, length, slice_index, replicate}
use Rattle.regex_rules.specs.declared.linking.Piece.{Piece}
use Rattle.regex_rules.specs.declared.linking.Rows.{Rows}
use Rattle.regex_rules.specs.declared.linking.Linking.{Linking}
use Rattle.regex_rules.specs.declared.takers.Takers.{Takers}
use Rattle.regex_rules.specs.declared.positions.Positions.{Positions}
use Rattle.regex_rules.specs.declared.repeat.Repeat.{Repeat}
use Rattle.regex_rules.specs.declared.place.PatternPlace.{PatternPlace}
use Rattle.regex_rules.specs.declared.place.PatternPlace.TheVariants.{One, Open, Bar, Close}
use Rattle.regex_rules.specs.Languages.{is_one, may_go_on}
use Rattle.regex_rules.specs.Positions.{piece_of, empty_row, no_rows, either, followed, so_often}

-- the bit after this one, in 64 bits
abbrev pub next_bit : ℕ → ℕ
next_bit bit = bit * 2 % 2 ^ 64

-- a list of what may come after each character: these may come after those
abbrev pub link : ℕ → ℕ → List ℕ → List ℕ
link after next [] = []
link after next (set ∷ sets) = (if after % 2 == 1 then bit_or set next else set) ∷ link (after / 2) next sets

-- what follows after a piece goes on a row
abbrev pub join : Repeat → Piece → Piece → List ℕ → List ℕ
join repeat row next sets = link row.last next.first (if may_go_on repeat then link next.last next.first sets else sets)

-- ---- over the places

-- rows at their beginning
abbrev pub begun_rows : Rows
begun_rows = record { earlier = no_rows; row = empty_row }

-- what may come after each character so far, the innermost open rows and those around them, and the bit of the next character
abbrev pub linking_at : List ℕ → Rows → List Rows → ℕ → Linking
linking_at follow rows around bit = record { follow = follow; rows = rows; around = around; bit = bit }

-- the last row goes on with a piece
abbrev pub piece_added : Piece → Repeat → List ℕ → Rows → List Rows → ℕ → Linking
piece_added one repeat follow rows around bit = linking_at (join repeat rows.row one follow) (record { earlier = rows.earlier; row = followed rows.row (so_often repeat one) }) around bit

abbrev pub closed : Repeat → Linking → List Rows → Linking
closed repeat self [] = self
closed repeat self (outer ∷ around) = piece_added (either self.rows.earlier self.rows.row) repeat self.follow outer around self.bit

-- past one character
abbrev pub linked_past_one : Repeat → Linking → Linking
linked_past_one repeat self = piece_added (piece_of self.bit self.bit false) repeat self.follow self.rows self.around (next_bit self.bit)

-- past a bar: the innermost open rows begin another one
abbrev pub linked_past_bar : Linking → Linking
linked_past_bar self = linking_at self.follow (record { earlier = either self.rows.earlier self.rows.row; row = empty_row }) self.around self.bit

-- past one place
abbrev pub past : PatternPlace → Linking → Linking
past (One one repeat) self = linked_past_one repeat self
past Open self = linking_at self.follow begun_rows (self.rows ∷ self.around) self.bit
past Bar self = linked_past_bar self
past (Close repeat) self = closed repeat self self.around

-- past all these places
unfoldable pub linked : List PatternPlace → Linking → Linking
linked [] self = self
linked (place ∷ places) self = linked places (past place self)

-- ---- which characters take one of a text

abbrev pub one_stand : Bool → Takers → Takers
one_stand fits self = record { set = if fits then bit_or self.set self.bit else self.set; bit = next_bit self.bit }

abbrev pub stand : ℕ → PatternPlace → Takers → Takers
stand c (One one repeat) self = one_stand (is_one one c) self
stand c _ self = self

unfoldable pub stood : ℕ → List PatternPlace → Takers → Takers
stood c [] self = self
stood c (place ∷ places) self = stood c places (stand c place self)

abbrev pub nothing_taken : Takers
nothing_taken = record { set = 0; bit = 1 }

-- the characters of the pattern with these places that take this one
abbrev pub takers_of : ℕ → List PatternPlace → ℕ
takers_of c places = (stood c places nothing_taken).set

-- ---- of a whole pattern

-- how many characters places have
abbrev pub ones : List PatternPlace → ℕ
ones [] = 0
ones (One one repeat ∷ places) = 1 + ones places
ones (_ ∷ places) = ones places

-- before the first of this number of characters
abbrev pub unlinked : ℕ → Linking
unlinked number = linking_at (replicate number 0) begun_rows [] 1

-- The table of a pattern with these places, which has at most 64 characters.
pub record IsTable (places : List PatternPlace) (table : Positions) : Type 0 where
  pub few : ones places ≤ 64
  pub whole : table.whole ≡ either (linked places (unlinked (ones places))).rows.earlier (linked places (unlinked (ones places))).rows.row
  pub follow : table.follow ≡ (linked places (unlinked (ones places))).follow
  pub listed : (c : ℕ) → c < length table.listed.items → slice_index table.listed.items c ≡ takers_of c places
