-- What the parts of a text are: tags, end tags, and bytes at which neither begins (HTML Living Standard, 13.1.2 "Elements").
use Rattle.std.specs.Prelude.{◌≡◌, ℕ, Bool, true, false, List, [], ◌∷◌, ◌++◌}
use Rattle.std.specs.List.{list_all}
use Rattle.sp_base.specs.Texts.{Text}
use Rattle.htl_syntax.specs.Tokens.{begins, is_letter}
use Rattle.htl_blocks.specs.declared.quoting.Quoting.{Quoting}
use Rattle.htl_blocks.specs.declared.quoting.Quoting.TheVariants.{Outside}
use Rattle.htl_blocks.specs.Markup.{begins_tag, ends_tag, is_name_byte, markup_quoting_step}
use Rattle.htl_blocks.specs.Spelling.{whole_text}

-- where the byte after these stands, outside quotes or within
abbrev pub quoting_after : Quoting → Text → Quoting
quoting_after quoting [] = quoting
quoting_after quoting (c ∷ t) = quoting_after (markup_quoting_step quoting c) t

-- of none of these bytes something holds that looks at where a byte stands, at the byte, and at what follows it
abbrev pub HoldsOfNone : (Quoting → ℕ → Text → Bool) → Quoting → Text → Text → Type 0
HoldsOfNone test quoting [] later = Unit {0}
HoldsOfNone test quoting (c ∷ t) later = (test quoting c (t ++ later) ≡ false) × HoldsOfNone test (markup_quoting_step quoting c) t later

-- a ">" outside quotes, whatever follows it
abbrev pub ends_tag_before : Quoting → ℕ → Text → Bool
ends_tag_before quoting c later = ends_tag quoting c

-- a letter, and letters, digits and "-" after it
abbrev pub IsTagName : Text → Type 0
IsTagName name = (begins is_letter name ≡ true) × (list_all is_name_byte name ≡ true)

-- "</", a name, and ">" right after it
abbrev pub end_tag_of : Text → Text
end_tag_of name = 60 ∷ 47 ∷ (name ++ 62 ∷ [])

-- no end tag stands at the beginning
abbrev pub BeginsNoEndTag : Text → Type 0
BeginsNoEndTag t = (name later : Text) → IsTagName name → t ≡ end_tag_of name ++ later → ⊥

-- What a part is, by what follows it: a tag up to the first ">" outside quotes, or the whole text where none is there; an end tag; or one byte, at
-- which neither begins.
pub data IsPart (part later : Text) : Type 0 where
  Tag : (inside : Text) → part ≡ inside ++ 62 ∷ [] → begins_tag (part ++ later) ≡ true → HoldsOfNone ends_tag_before Outside inside (62 ∷ later) → quoting_after Outside inside ≡ Outside → IsPart part later
  TagWithoutEnd : later ≡ [] → begins_tag part ≡ true → HoldsOfNone ends_tag_before Outside part [] → IsPart part later
  EndTag : (name : Text) → IsTagName name → part ≡ end_tag_of name → IsPart part later
  Byte : (c : ℕ) → part ≡ c ∷ [] → begins_tag (c ∷ later) ≡ false → BeginsNoEndTag (c ∷ later) → IsPart part later

-- each of these texts is a part, by those that follow it
abbrev pub AreParts : List Text → Type 0
AreParts [] = Unit {0}
AreParts (part ∷ more) = IsPart part (whole_text more) × AreParts more
