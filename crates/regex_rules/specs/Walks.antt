-- What the functions that match promise one another: one step of a match goes over the places of a pattern once, with one more character of the text.
-- A reader of what a pattern matches needs none of it.
use Rattle.std.specs.Prelude.{ℕ, Bool, true, false, ◌&&◌, ◌||◌, List, [], ◌∷◌, ◌++◌, length, set}
use Rattle.regex_rules.specs.declared.repeat.Repeat.{Repeat}
use Rattle.regex_rules.specs.declared.place.PatternPlace.{PatternPlace}
use Rattle.regex_rules.specs.declared.place.PatternPlace.TheVariants.{One, Open, Bar, Close}
use Rattle.regex_rules.specs.declared.level.Level.{Level}
use Rattle.regex_rules.specs.declared.level.Frame.{Frame}
use Rattle.regex_rules.specs.declared.walk.Walk.{Walk}
use Rattle.regex_rules.specs.Languages.{is_one, may_lack, may_go_on}

-- rows at their beginning, which the text reaches or doesn't
abbrev pub begun : Bool → Level
begun enters = record { enters = enters; here = enters; arrives = false; lacks = true; earlier_arrives = false; earlier_lacks = false }

-- a level past one more piece: whether it may be left out, whether the text before the character reaches its end, and whether the text with it arrives there
abbrev pub past_piece : Level → Bool → Bool → Bool → Level
past_piece level lacks old arrives = record {
  enters = level.enters;
  here = (level.here && lacks) || old;
  arrives = (level.arrives && lacks) || arrives;
  lacks = level.lacks && lacks;
  earlier_arrives = level.earlier_arrives;
  earlier_lacks = level.earlier_lacks;
}

-- a level at its next row
abbrev pub next_row : Level → Level
next_row level = record {
  enters = level.enters;
  here = level.enters;
  arrives = false;
  lacks = true;
  earlier_arrives = level.earlier_arrives || level.arrives;
  earlier_lacks = level.earlier_lacks || level.lacks;
}

-- a walk that knows this of the rows it is in
abbrev pub at : Level → List Frame → List Bool → Walk
at level around marks = record { level = level; around = around; marks = marks }

-- past a character: the mark of its place says whether the text reaches its end by taking the character
abbrev pub past_one : Bool → Repeat → Bool → Walk → Walk
past_one fits repeat old walk =
    let arrives = (walk.level.here || (may_go_on repeat && old)) && fits in
    record { level = past_piece walk.level (may_lack repeat) old arrives; around = walk.around; marks = walk.marks ++ arrives ∷ [] }

-- into a bracket: the mark of its place says whether the rows may begin again
abbrev pub past_open : Bool → Walk → Walk
past_open old walk = record {
  level = begun (walk.level.here || old);
  around = record { level = walk.level; slot = length walk.marks } ∷ walk.around;
  marks = walk.marks ++ false ∷ [];
}

abbrev pub past_bar : Walk → Walk
past_bar walk = record { level = next_row walk.level; around = walk.around; marks = walk.marks ++ false ∷ [] }

abbrev pub past_close_to : List Frame → Repeat → Bool → Walk → Walk
past_close_to [] repeat old walk = walk
past_close_to (frame ∷ around) repeat old walk =
    let arrives = walk.level.earlier_arrives || walk.level.arrives in
    record {
      level = past_piece frame.level (may_lack repeat || (walk.level.earlier_lacks || walk.level.lacks)) old arrives;
      around = around;
      marks = set walk.marks frame.slot (may_go_on repeat && arrives) ++ arrives ∷ [];
    }

-- out of a bracket
abbrev pub past_close : Repeat → Bool → Walk → Walk
past_close repeat old walk = past_close_to walk.around repeat old walk

-- one place further, by its old mark
abbrev pub past_place : ℕ → PatternPlace → Bool → Walk → Walk
past_place c (One one repeat) old walk = past_one (is_one one c) repeat old walk
past_place c Open old walk = past_open old walk
past_place c Bar old walk = past_bar walk
past_place c (Close repeat) old walk = past_close repeat old walk

-- past all these places, by their old marks
unfoldable pub walked : ℕ → List PatternPlace → List Bool → Walk → Walk
walked c [] olds walk = walk
walked c (place ∷ places) [] walk = walk
walked c (place ∷ places) (old ∷ olds) walk = walked c places olds (past_place c place old walk)

-- whether the walk ends at the end of a row
abbrev pub walk_answer : Walk → Bool
walk_answer walk = walk.level.earlier_arrives || walk.level.arrives

-- whether a row may take nothing
abbrev pub takes_nothing : Walk → Bool
takes_nothing walk = walk.level.earlier_lacks || walk.level.lacks
