-- The parts of a path text that a filter asks about, beside those of its decomposition.
use Rattle.std.specs.Prelude.{◌≡◌, ℕ, List, drop}
use Rattle.sp_base.specs.Bytes.{dotted_text}
use Rattle.url_split.specs.declared.decompose.Parts.{Parts}
use Rattle.dispatch_rules.specs.UrlParts.{selectors, extension, suffix}

-- a filter sees these parts of a text: the selectors with a dot between them, the extension and the suffix
pub record SeesParts (text : List ℕ) (parts : Parts) : Type 0 where
  pub selectors_are : selectors text ≡ drop 1 (dotted_text parts.selectors)
  pub extension_is : extension text ≡ parts.extension
  pub suffix_is : suffix text ≡ parts.suffix
