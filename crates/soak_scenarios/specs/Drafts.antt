-- Drafts: a text that is written, and the seed of its draws.
use Rattle.std.specs.Prelude.{◌+◌, ◌*◌, ◌^◌, ◌/◌, ◌%◌, ◌++◌, ℕ, List, [], ◌∷◌}
use Rattle.std.specs.Fmt.{decimal}

-- the text so far, and the seed after its draws
pub record ScenarioDraft : Type 0 where
  pub text : List ℕ
  pub seed : ℕ

-- nothing is written or drawn yet, and a number is the seed
abbrev pub begun_draft : ℕ → ScenarioDraft
begun_draft number = record { text = []; seed = number }

-- the seed after a draw (a linear congruential generator: Knuth, The Art of Computer Programming, volume 2, section 3.2.1)
unfoldable pub seed_after : ℕ → ℕ
seed_after seed = (seed * 6364136223846793005 + 1442695040888963407) % 2 ^ 64

-- a draw is made
abbrev pub drawn : ScenarioDraft → ScenarioDraft
drawn draft = record draft { seed = seed_after draft.seed }

-- what the last draw gives below a number, from the upper bits of the seed
unfoldable pub given : ScenarioDraft → ℕ → ℕ
given draft below = draft.seed / 2 ^ 33 % below

-- a text is written
abbrev pub with_text : List ℕ → ScenarioDraft → ScenarioDraft
with_text text draft = record draft { text = draft.text ++ text }

-- a number is drawn and written
abbrev pub with_draw : ℕ → ScenarioDraft → ScenarioDraft
with_draw below draft = with_text (decimal (given (drawn draft) below)) (drawn draft)

-- what is written: a text, or the number of a draw
pub data ScenarioPiece : Type 0 where
  Words : List ℕ → ScenarioPiece
  Draw : ℕ → ScenarioPiece

-- the pieces are written, one after the other
abbrev pub written : List ScenarioPiece → ScenarioDraft → ScenarioDraft
written [] draft = draft
written (Words text ∷ pieces) draft = written pieces (with_text text draft)
written (Draw below ∷ pieces) draft = written pieces (with_draw below draft)
