-- What values that lend stand for. Proofs and private functions alone need this.
use Rattle.htl_blocks.specs.declared.value.LentValue.{LentValue}
use Rattle.htl_blocks.specs.declared.value.LentValue.TheVariants.{Missing, Unquoted, Quoted}
use Rattle.htl_blocks.specs.declared.cut.Cut.{Cut}
use Rattle.htl_blocks.specs.ElementText.{ElementText}
use Rattle.htl_blocks.specs.Attributes.{ValueText, none, unquoted, quoted}

-- the text of a value
abbrev pub value_shown : LentValue → ValueText
value_shown Missing = none
value_shown Unquoted = unquoted
value_shown (Quoted v) = quoted v.now

-- the parts of an element as texts
abbrev pub cut_shown : Cut → ElementText
cut_shown cut = record { tag = cut.tag.now; inside = cut.inside.now; end_tag = cut.end_tag.now; rest = cut.rest.now }
