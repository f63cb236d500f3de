-- The pairs of an urlencoded form, one after another.
use Rattle.std.proofs.Common.{◌≡◌, ◌≤◌, ◌+◌, ℕ, List, ◌++◌, map, length}
use Rattle.form_urlencoded.specs.Form.{raw_pairs}
use Rattle.form_input.specs.Forms.{decoded_pair}

-- a form has the first pairs of a body, and these are left
pub record IsUrlRead (body : List ℕ) (form left : List (List ℕ × List ℕ)) : Type 0 where
  pub same : map decoded_pair (raw_pairs body) ≡ form ++ map decoded_pair left
  pub size : length (raw_pairs body) ≡ length form + length left
  pub few : length form ≤ 1000
