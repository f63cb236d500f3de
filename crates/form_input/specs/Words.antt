-- How far a word has been read; a reader of the definition of a form needs none of it.
use Rattle.std.specs.Prelude.{ℕ, List, ◌++◌, Option, Some, None}

-- bytes before a word
abbrev pub before_word : List ℕ → Option (List ℕ) → Option (List ℕ)
before_word bytes None = None
before_word bytes (Some word) = Some (bytes ++ word)
