-- What the parts of a decomposition spell.
use Rattle.std.specs.Prelude.{◌≡◌, ◌&&◌, ◌⊎◌, ◌++◌, ◌∷◌, [], ℕ, Bool, List, not, filter, IsTrue}
use Rattle.std.specs.List.{list_any, list_all}
use Rattle.sp_base.specs.Texts.{Text}
use Rattle.sp_base.specs.Bytes.{is_dot, is_slash, is_full, dotted_text}
use Rattle.sp_base.specs.Paths.{text_of}
use Rattle.url_split.specs.declared.decompose.Parts.{Parts}

-- a text without a dot or a slash
abbrev pub is_word : List ℕ → Bool
is_word piece = not (list_any is_dot piece) && not (list_any is_slash piece)

-- The parts spell a text: nothing, of no parts, or a dot and a selector as often as there are selectors, a dot and the extension, and
-- the suffix. Between them may stand further dots, as of selectors that are empty.
abbrev pub SpellsParts : List ℕ → Parts → Type 0
SpellsParts text parts = ((text ≡ []) × (parts.selectors ≡ []) × (parts.extension ≡ []) × (parts.suffix ≡ []))
    ⊎ ((pieces : List Text) × (text ≡ dotted_text (pieces ++ parts.extension ∷ []) ++ parts.suffix) × (parts.selectors ≡ filter is_full pieces))

-- the parts give the text back: that of the resource path, and what comes after it
abbrev pub GivesBack : List ℕ → Parts → Type 0
GivesBack text parts = (rest : List ℕ) × (text ≡ text_of parts.path ++ rest) × SpellsParts rest parts

-- none is empty, and none has a dot or a slash
abbrev pub AreSelectors : List Text → Type 0
AreSelectors selectors = IsTrue (list_all (λ piece. is_full piece && is_word piece) selectors)

-- it is empty, or begins with a slash
abbrev pub IsSuffix : List ℕ → Type 0
IsSuffix suffix = (suffix ≡ []) ⊎ ((more : List ℕ) × (suffix ≡ 47 ∷ more))
