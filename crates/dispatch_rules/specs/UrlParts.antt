-- The parts of a path text that a filter entry may ask about (Adobe Dispatcher manual, "Configuring Access to Content"): the text is cut at its first dot.
-- `IsDotted` is needed by private functions and proofs alone.
use Rattle.std.specs.Prelude.{◌≡◌, ◌+◌, ◌-◌, ℕ, List, [], drop, take, length, filter, slice_get, unwrap_or}
use Rattle.std.specs.List.{slice_split, before_first}
use Rattle.sp_base.specs.Bytes.{is_dot, is_slash, is_full, dotted_text}
use Rattle.sp_base.specs.Texts.{Text}

-- the text before its first dot
abbrev pub stem : List ℕ → List ℕ
stem text = before_first is_dot text

-- the text after its first dot, empty where it has none
abbrev pub after_dot : List ℕ → List ℕ
after_dot text = drop (length (stem text) + 1) text

-- what of it stands before the next slash
abbrev pub url_ending : List ℕ → List ℕ
url_ending text = before_first is_slash (after_dot text)

-- its pieces between dots
abbrev pub url_pieces : List ℕ → List Text
url_pieces text = slice_split is_dot (url_ending text)

-- the last piece is the extension
abbrev pub extension : List ℕ → List ℕ
extension text = unwrap_or (slice_get (url_pieces text) (length (url_pieces text) - 1)) []

-- a text of pieces with a dot before each; only private functions need this
abbrev pub IsDotted : List ℕ → Type 0
IsDotted text = (url_pieces : List Text) × (text ≡ dotted_text url_pieces)

-- the pieces before it that aren't empty are the selectors: a dot before each, but for the first
abbrev pub selectors : List ℕ → List ℕ
selectors text = drop 1 (dotted_text (filter is_full (take (length (url_pieces text) - 1) (url_pieces text))))

-- what begins with the slash is the suffix
abbrev pub suffix : List ℕ → List ℕ
suffix text = drop (length (url_ending text)) (after_dot text)
