-- A text's bytes are below 256.
use Rattle.std.proofs.Common.{◌≡◌, ◌<◌, ◌/◌, ◌%◌, ◌+◌, ◌++◌, ℕ, Bool, true, false, cond, List, [], ◌∷◌, IsUtf8, nat_lt, refl, subst, ⊎_elim, arith, ltb-true}
use Rattle.std.proofs.lemmas.Bool.{and_parts}
use lib.Utf8.{scalar, scalars, scalar_cases, encode, encodes}
use Rattle.sp_base.specs.Bytes.{AreBytes}

pub both_are_bytes : (a b : List ℕ) → AreBytes a → AreBytes b → AreBytes (a ++ b)
both_are_bytes [] b p q = q
both_are_bytes (x ∷ a) b p q = (p.0, both_are_bytes a b p.1 q)

below : (c : ℕ) → scalar c ≡ true → c < 1114112
below c e = ⊎_elim (λ h. omega (arith, h)) (λ h. h.1) (scalar_cases c e)

encoded : (c : ℕ) (one two three : Bool) → nat_lt c 128 ≡ one → nat_lt c 2048 ≡ two → nat_lt c 65536 ≡ three → c < 1114112
    → AreBytes (cond one (c ∷ []) (cond two ((192 + c / 64) ∷ (128 + c % 64) ∷ []) (cond three ((224 + c / 4096) ∷ (128 + c / 64 % 64) ∷ (128 + c % 64) ∷ []) ((240 + c / 262144) ∷ (128 + c / 4096 % 64) ∷ (128 + c / 64 % 64) ∷ (128 + c % 64) ∷ []))))
encoded c true two three e1 e2 e3 h = (omega (arith, ltb-true _ _ e1), tt)
encoded c false true three e1 e2 e3 h = let l = ltb-true _ _ e2 in (omega (arith, l), (omega arith, tt))
encoded c false false true e1 e2 e3 h = let l = ltb-true _ _ e3 in (omega (arith, l), (omega arith, (omega arith, tt)))
encoded c false false false e1 e2 e3 h = (omega (arith, h), (omega arith, (omega arith, (omega arith, tt))))

char_bytes : (c : ℕ) → scalar c ≡ true → AreBytes (encode c)
unfolding encode
char_bytes c e = encoded c (nat_lt c 128) (nat_lt c 2048) (nat_lt c 65536) refl refl refl (below c e)

chars_bytes : (cs : List ℕ) → scalars cs ≡ true → AreBytes (encodes cs)
chars_bytes [] e = tt
chars_bytes (c ∷ cs) e = let p = and_parts _ _ e in both_are_bytes (encode c) (encodes cs) (char_bytes c p.0) (chars_bytes cs p.1)

pub text_bytes : (text : List ℕ) → IsUtf8 text → AreBytes text
text_bytes text u = subst AreBytes u.1.1 (chars_bytes u.0 u.1.0)
