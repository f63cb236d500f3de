-- What the reading of blocks says of whole texts.
use Rattle.std.specs.Prelude.{◌≡◌, ℕ, ◌+◌, true, false, List, [], ◌∷◌, ◌++◌, length}
use Rattle.sp_base.specs.Texts.{Text}
use Rattle.htl_blocks.specs.Markup.{opens, closes}
use Rattle.htl_blocks.specs.Attributes.{is_block_tag}

-- none of these parts is a tag with a block statement
pub data HasNoBlock : List Text → Type 0 where
  none : HasNoBlock []
  part : {p : List ℕ} {more : List Text} → is_block_tag p ≡ false → HasNoBlock more → HasNoBlock (p ∷ more)

-- parts in which each tag of this name that isn't self-closed has its end tag, and each end tag its tag
pub data Balanced (name : List ℕ) : List Text → Type 0 where
  nothing : Balanced name []
  other : {p : List ℕ} {more : List Text} → opens name p ≡ false → closes name p ≡ false → Balanced name more → Balanced name (p ∷ more)
  element : (p end : List ℕ) (inner more : List Text) → opens name p ≡ true → Balanced name inner → closes name end ≡ true → Balanced name more → Balanced name (p ∷ (inner ++ end ∷ more))

-- how many bytes parts have together
abbrev pub bytes_of : List Text → ℕ
bytes_of [] = 0
bytes_of (p ∷ more) = length p + bytes_of more

-- the end tag that closes an element of this name stands after so many bytes: what stands before it is balanced
pub record Closes (name : List ℕ) (ps : List Text) (n : ℕ) : Type 0 where
  pub inner : List Text
  pub end_tag : List ℕ
  pub more : List Text
  pub split : ps ≡ inner ++ end_tag ∷ more
  pub balanced : Balanced name inner
  pub closed : closes name end_tag ≡ true
  pub place : bytes_of inner ≡ n
