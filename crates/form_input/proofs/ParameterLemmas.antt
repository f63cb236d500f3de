-- Blanks, pieces and words of a header field.
use Rattle.std.proofs.Common.{◌≡◌, ◌<◌, ◌≤◌, ◌+◌, ◌-◌, ℕ, Bool, true, false, cond, ◌&&◌, List, [], ◌∷◌, ◌++◌, Option, Some, None, take, drop, length, get_or, refl, ap, sym, ◌∙◌, append_assoc}
use Rattle.std.specs.List.{onto_first}
use Rattle.std.proofs.lemmas.List.{append-nil, drop_all, take_all, take_more, drop_more}
use Rattle.sp_base.proofs.ListLemmas.{last_apart, push_is_some}
use Rattle.form_input.specs.declared.parameters.Quoting.{Quoting}
use Rattle.form_input.specs.declared.parameters.Quoting.TheVariants.{Outside}
use Rattle.form_input.specs.Parameters.{is_space_or_tab, before_blanks, quoting_step, separates, parameter_pieces_from, parameter_pieces, with_byte}
use Rattle.form_input.specs.Words.{before_word}

-- a blank at the end is cut off
pub before_last_blank : (t : List ℕ) (b : ℕ) → is_space_or_tab b ≡ true → before_blanks (t ++ b ∷ []) ≡ before_blanks t
unfolding before_blanks
before_last_blank [] b e = rw e refl
before_last_blank (c ∷ t) b e = rw (before_last_blank t b e) refl

pub before_last_word : (t : List ℕ) (b : ℕ) → is_space_or_tab b ≡ false → before_blanks (t ++ b ∷ []) ≡ t ++ b ∷ []
unfolding before_blanks
before_last_word [] b e = rw e refl
before_last_word (c ∷ t) b e = rw (before_last_word t b e, push_is_some t b) (go (is_space_or_tab c))
  where
    go : (x : Bool) → cond (x && false) [] (c ∷ (t ++ b ∷ [])) ≡ c ∷ (t ++ b ∷ [])
    go true = refl
    go false = refl

-- bytes before the first piece
abbrev pub with_prefix : List ℕ → List (List ℕ) → List (List ℕ)
with_prefix prefix [] = prefix ∷ []
with_prefix prefix (piece ∷ more) = (prefix ++ piece) ∷ more

with_prefix_onto : (prefix : List ℕ) (b : ℕ) (ps : List (List ℕ)) → with_prefix prefix (onto_first b ps) ≡ with_prefix (prefix ++ b ∷ []) ps
with_prefix_onto prefix b [] = refl
with_prefix_onto prefix b (p ∷ ps) = ap (λ (s : List ℕ). s ∷ ps) (sym (append_assoc prefix (b ∷ []) p))

pub with_prefix_none : (quoting : Quoting) (t : List ℕ) → with_prefix [] (parameter_pieces_from quoting t) ≡ parameter_pieces_from quoting t
unfolding parameter_pieces_from
with_prefix_none quoting [] = refl
with_prefix_none quoting (b ∷ t) = go (separates quoting b) (parameter_pieces_from (quoting_step quoting b) t)
  where
    go : (x : Bool) (ps : List (List ℕ)) → with_prefix [] (cond x ([] ∷ parameter_pieces_from Outside t) (onto_first b ps)) ≡ cond x ([] ∷ parameter_pieces_from Outside t) (onto_first b ps)
    go true ps = refl
    go false [] = refl
    go false (p ∷ ps) = refl

pub piece_goes_on : (quoting : Quoting) (prefix : List ℕ) (b : ℕ) (t : List ℕ) → separates quoting b ≡ false → with_prefix prefix (parameter_pieces_from quoting (b ∷ t)) ≡ with_prefix (prefix ++ b ∷ []) (parameter_pieces_from (quoting_step quoting b) t)
unfolding parameter_pieces_from
piece_goes_on quoting prefix b t e = rw e (with_prefix_onto prefix b (parameter_pieces_from (quoting_step quoting b) t))

pub piece_ends : (quoting : Quoting) (prefix : List ℕ) (b : ℕ) (t : List ℕ) → separates quoting b ≡ true → with_prefix prefix (parameter_pieces_from quoting (b ∷ t)) ≡ prefix ∷ parameter_pieces t
unfolding parameter_pieces_from
piece_ends quoting prefix b t e = rw e (ap (λ (s : List ℕ). s ∷ parameter_pieces_from Outside t) (append-nil prefix))

pub piece_last : (quoting : Quoting) (prefix : List ℕ) → with_prefix prefix (parameter_pieces_from quoting []) ≡ prefix ∷ []
unfolding parameter_pieces_from
piece_last quoting prefix = ap (λ (s : List ℕ). s ∷ []) (append-nil prefix)

pub before_word_more : (word : List ℕ) (b : ℕ) (o : Option (List ℕ)) → before_word word (with_byte b o) ≡ before_word (word ++ b ∷ []) o
before_word_more word b None = refl
before_word_more word b (Some more) = ap Some (sym (append_assoc word (b ∷ []) more))

pub before_word_none : (o : Option (List ℕ)) → before_word [] o ≡ o
before_word_none None = refl
before_word_none (Some word) = refl

-- the last byte is no blank
pub ends_in_word : (rest text : List ℕ) → 1 ≤ length rest → is_space_or_tab (get_or rest (length rest - 1) 0) ≡ false → before_blanks rest ≡ before_blanks text → rest ≡ before_blanks text
ends_in_word rest text some word inv =
    let e = last_apart rest some in
    sym e ∙ sym (before_last_word (take (length rest - 1) rest) (get_or rest (length rest - 1) 0) word) ∙ ap before_blanks e ∙ inv

-- the last byte is a blank
pub ends_in_blank : (rest text : List ℕ) → 1 ≤ length rest → is_space_or_tab (get_or rest (length rest - 1) 0) ≡ true → before_blanks rest ≡ before_blanks text → before_blanks (take (length rest - 1) rest) ≡ before_blanks text
ends_in_blank rest text some blank inv =
    sym (before_last_blank (take (length rest - 1) rest) (get_or rest (length rest - 1) 0) blank) ∙ ap before_blanks (last_apart rest some) ∙ inv

-- how far the first piece goes: the bytes before a place, and the pieces from there on
abbrev pub ReadTo : Quoting → ℕ → List ℕ → Type 0
ReadTo quoting at text = with_prefix (take at text) (parameter_pieces_from quoting (drop at text)) ≡ parameter_pieces text

pub read_separator : (quoting : Quoting) (at : ℕ) (text : List ℕ) → at < length text → separates quoting (get_or text at 0) ≡ true → ReadTo quoting at text → parameter_pieces text ≡ take at text ∷ parameter_pieces (drop (at + 1) text)
read_separator quoting at text low e inv =
    let split = drop_more text at 0 low in
    sym inv ∙ rw split (piece_ends quoting (take at text) (get_or text at 0) (drop (at + 1) text) e)

pub read_byte : (quoting : Quoting) (at : ℕ) (text : List ℕ) → at < length text → separates quoting (get_or text at 0) ≡ false → ReadTo quoting at text → ReadTo (quoting_step quoting (get_or text at 0)) (at + 1) text
read_byte quoting at text low e inv =
    let split = drop_more text at 0 low in
    let prefix = take_more text at 0 low in
    rw prefix (sym (piece_goes_on quoting (take at text) (get_or text at 0) (drop (at + 1) text) e) ∙ rw (← split) inv)

pub read_all : (quoting : Quoting) (at : ℕ) (text : List ℕ) → length text ≤ at → ReadTo quoting at text → parameter_pieces text ≡ text ∷ []
read_all quoting at text low inv =
    let none = drop_all at text low in
    let all = take_all at text low in
    sym inv ∙ rw (none, all) (piece_last quoting text)
