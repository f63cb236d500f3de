-- What may be asked for instead of too many levels (RFC 9110, section 15.4.1).
use Rattle.std.specs.Prelude.{◌+◌, ◌++◌, ℕ, List, codes, decimal, map, reverse}
use Rattle.std.specs.List.{range_with_len}
use Rattle.sp_base.specs.Texts.{Segments, Text}
use Rattle.json.specs.Tree.{json_tokens}
use Rattle.json.specs.Print.{print}
use Rattle.sp_base.specs.Paths.{text_of}
use Rattle.sp_base.specs.declared.value.Value.TheVariants.{Texts}
use Rattle.property_json.specs.PropertyJson.{json_of_value}

-- the reference of JSON at a depth, after the text of a resource's path
abbrev pub choice : List ℕ → ℕ → List ℕ
choice path depth = path ++ codes "." ++ decimal depth ++ codes ".json"

-- the references of the depths from this one down to 0
abbrev pub choices : List ℕ → ℕ → List Text
choices path most = reverse (map (choice path) (range_with_len 0 (most + 1)))

-- these as a JSON array
unfoldable pub choices_text : Segments → ℕ → List ℕ
choices_text path most = print (json_tokens (json_of_value (Texts (choices (text_of path) most))))
