-- The grammar of a file dispatcher.any (Adobe Dispatcher manual, "Configuring Dispatcher"), by the text that is left after each part. Blanks and comments after a part belong to it.
use Rattle.std.specs.Prelude.{◌≡◌, ℕ, suc, true, false, List, [], ◌∷◌, Ok, drop}
use Rattle.sp_base.specs.Bytes.{begins_with_byte}
use Rattle.any_config.specs.declared.node.AnyNode.{AnyNode}
use Rattle.any_config.specs.declared.node.AnyNode.TheVariants as node
use Rattle.any_config.specs.Tokens.{comments_skipped, member_name, ungrouped_value}
use Rattle.any_config.specs.Read.{Members, deepest_group, ends_members}

-- The number is how many more groups may open within one another.
mutual
  -- a word or a text in quotes, or members between braces
  pub data IsValue : ℕ → List ℕ → AnyNode → List ℕ → Type 0 where
    single : {depth : ℕ} {t r : List ℕ} {n : AnyNode} (at : ℕ) → begins_with_byte 123 t ≡ false → ungrouped_value at t ≡ Ok (n, r) → IsValue depth t n r
    braces : {depth : ℕ} {t r : List ℕ} {n : AnyNode} (ms : Members) (inside : List ℕ) → begins_with_byte 123 t ≡ true → AreMembers depth (comments_skipped (drop 1 t)) ms inside → begins_with_byte 125 inside ≡ true
        → n ≡ node.Group ms → r ≡ drop 1 inside → IsValue (suc depth) t n r

  -- names and their values up to a brace that closes, or to the text's end
  pub data AreMembers : ℕ → List ℕ → Members → List ℕ → Type 0 where
    none : {depth : ℕ} {t : List ℕ} → ends_members t ≡ true → AreMembers depth t [] t
    more : {depth : ℕ} {t r : List ℕ} {m : List ℕ × AnyNode} {ms : Members} (x : List ℕ × List ℕ) (n : AnyNode) (inside : List ℕ) → ends_members t ≡ false → member_name t ≡ Ok x
        → IsValue depth x.1 n inside → m ≡ (x.0, n) → AreMembers depth (comments_skipped inside) ms r → AreMembers depth t (m ∷ ms) r

-- the whole file is a group without braces
pub record IsFile (text : List ℕ) (top : AnyNode) : Type 0 where
  pub members : Members
  pub group : top ≡ node.Group members
  pub spelled : AreMembers deepest_group (comments_skipped text) members []
