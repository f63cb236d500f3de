-- A part's head and body, line by line.
use Rattle.std.proofs.Common.{◌≡◌, ℕ, Bool, true, false, cond, eqb, List, [], ◌∷◌, Option, Some, None, length, refl, ap, sym, ◌∙◌}
use Rattle.std.specs.Str.{IsUtf8, is_utf8}
use Rattle.std.proofs.lemmas.Str.{IsUtf8-from_is_utf8, is_utf8-from_IsUtf8}
use Rattle.form_input.specs.Lines.{lines, lines_text, lines_left}
use Rattle.form_input.specs.Multipart.{first_some, disposition_in, value_in, text_of_some, if_utf8}
use Rattle.form_input.specs.Parameters.{after_name}
use Rattle.std.specs.Prelude.{codes}
use Rattle.form_input.proofs.LineLemmas.{has_first, joined_lines}

text_of_first : (t first : List ℕ) (more : List (List ℕ)) → lines t ≡ first ∷ more → text_of_some (lines t) ≡ Some (lines_text (lines t))
text_of_first t first more e = rw e refl

-- the text that is left, from its lines
pub text_left : (o : Option (List ℕ)) → text_of_some (lines_left o) ≡ o
text_left None = refl
text_left (Some t) = let h = has_first t in text_of_first t h.first h.more h.is ∙ ap Some (joined_lines t)

pub value_empty : (line : List ℕ) (after : Option (List ℕ)) → eqb (length line) 0 ≡ true → value_in (line ∷ lines_left after) ≡ after
unfolding value_in
value_empty line after e = rw e (text_left after)

pub value_more : (line : List ℕ) (more : List (List ℕ)) → eqb (length line) 0 ≡ false → value_in (line ∷ more) ≡ value_in more
unfolding value_in
value_more line more e = rw e refl

pub value_none : value_in [] ≡ None
unfolding value_in
value_none = refl

pub disposition_none : disposition_in [] ≡ None
unfolding disposition_in
disposition_none = refl

pub disposition_empty : (line : List ℕ) (more : List (List ℕ)) → eqb (length line) 0 ≡ true → disposition_in (line ∷ more) ≡ None
unfolding disposition_in
disposition_empty line more e = rw e refl

pub disposition_here : (line : List ℕ) (more : List (List ℕ)) (o : Option (List ℕ)) → eqb (length line) 0 ≡ false → after_name 58 (codes "content-disposition") line ≡ o → disposition_in (line ∷ more) ≡ first_some o (disposition_in more)
unfolding disposition_in
disposition_here line more o e named = rw (e, named) refl

pub utf8_some : (bytes t : List ℕ) → IsUtf8 bytes → t ≡ bytes → Some t ≡ if_utf8 (Some bytes)
utf8_some bytes t u e = rw (is_utf8-from_IsUtf8 bytes u, e) refl

pub utf8_none : (bytes : List ℕ) → ¬ IsUtf8 bytes → None ≡ if_utf8 (Some bytes)
utf8_none bytes u = go (is_utf8 bytes) refl
  where
    go : (x : Bool) → is_utf8 bytes ≡ x → None ≡ cond x (Some bytes) None
    go true e = absurd (u (IsUtf8-from_is_utf8 bytes e))
    go false e = refl

-- a head line that is no Content-Disposition
pub disposition_step : (part rest line : List ℕ) (after : Option (List ℕ)) → disposition_in (lines rest) ≡ disposition_in (lines part) → lines rest ≡ line ∷ lines_left after
    → eqb (length line) 0 ≡ false → after_name 58 (codes "content-disposition") line ≡ None → disposition_in (lines_left after) ≡ disposition_in (lines part)
disposition_step part rest line after inv first some named = sym (disposition_here line (lines_left after) None some named) ∙ ap disposition_in (sym first) ∙ inv

pub disposition_found : (part rest line value : List ℕ) (after : Option (List ℕ)) → disposition_in (lines rest) ≡ disposition_in (lines part) → lines rest ≡ line ∷ lines_left after
    → eqb (length line) 0 ≡ false → after_name 58 (codes "content-disposition") line ≡ Some value → Some value ≡ disposition_in (lines part)
disposition_found part rest line value after inv first some named = sym (disposition_here line (lines_left after) (Some value) some named) ∙ ap disposition_in (sym first) ∙ inv

pub disposition_ends : (part rest line : List ℕ) (after : Option (List ℕ)) → disposition_in (lines rest) ≡ disposition_in (lines part) → lines rest ≡ line ∷ lines_left after
    → eqb (length line) 0 ≡ true → None ≡ disposition_in (lines part)
disposition_ends part rest line after inv first none = sym (disposition_empty line (lines_left after) none) ∙ ap disposition_in (sym first) ∙ inv

pub value_step : (part rest line : List ℕ) (after : Option (List ℕ)) → value_in (lines rest) ≡ value_in (lines part) → lines rest ≡ line ∷ lines_left after
    → eqb (length line) 0 ≡ false → value_in (lines_left after) ≡ value_in (lines part)
value_step part rest line after inv first some = sym (value_more line (lines_left after) some) ∙ ap value_in (sym first) ∙ inv

pub value_found : (part rest line : List ℕ) (after : Option (List ℕ)) → value_in (lines rest) ≡ value_in (lines part) → lines rest ≡ line ∷ lines_left after
    → eqb (length line) 0 ≡ true → after ≡ value_in (lines part)
value_found part rest line after inv first none = sym (value_empty line after none) ∙ ap value_in (sym first) ∙ inv
