-- The characters of a text.
use Rattle.std.proofs.Common.{◌≡◌, ◌≤◌, ℕ, suc, false, List, [], ◌∷◌, length, ◌==◌, IsUtf8, refl, ap, sym, ◌∙◌, arith, subst}
use Rattle.std.specs.Prelude.{encode_utf8_all}
use Rattle.std.specs.Str.{chars}
use Rattle.std.proofs.lemmas.Str.{chars-encodes, length-le-encodes}
use Rattle.std.proofs.lemmas.Bool.Decides.{nat_tests}
use Rattle.glob_rules.specs.Globs.{is_empty_text}

positive : (n m : ℕ) → suc m ≤ n → (n == 0) ≡ false
positive n m h = grind (arith, nat_tests)

encoded : (cs : List ℕ) → (length (encode_utf8_all cs) == 0) ≡ is_empty_text cs
encoded [] = refl
encoded (c ∷ cs) = positive _ (length cs) (length-le-encodes (c ∷ cs))

-- a text has no character where it has no byte
pub empty_chars : (bs : List ℕ) → IsUtf8 bs → (length bs == 0) ≡ is_empty_text (chars bs)
empty_chars bs u = subst (λ (l : List ℕ). (length l == 0) ≡ is_empty_text (chars l)) u.1.1 (encoded u.0 ∙ ap is_empty_text (sym (chars-encodes u.0 u.1.0)))
