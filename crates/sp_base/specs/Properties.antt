-- What a property list says of one name, and the texts of a value.
use Rattle.std.specs.Prelude.{ℕ, List, [], ◌∷◌, Option, Some, None, option_and_then}
use Rattle.std.specs.FinMap.Entries.{find}
use Rattle.sp_base.specs.declared.value.Value.{Value}
use Rattle.sp_base.specs.declared.value.Value.TheVariants.{Text, Texts}
use Rattle.sp_base.specs.Texts as texts
use Rattle.sp_base.specs.Texts.{Properties}
pub use Rattle.sp_base.specs.Names.{by_name}

-- a value that is one text
abbrev pub as_text : Value → Option (List ℕ)
as_text (Text t) = Some t
as_text _ = None

-- the texts of a value, which is one text or a list of them
abbrev pub value_texts : Option Value → List texts.Text
value_texts (Some (Text t)) = t ∷ []
value_texts (Some (Texts ts)) = ts
value_texts _ = []

-- the text under a name, where the value there is one
unfoldable pub text_in : Properties → List ℕ → Option (List ℕ)
text_in props name = option_and_then as_text (find by_name name props)
