-- Runs of bytes.
use Rattle.std.proofs.Common.{◌≡◌, ◌<◌, ◌≤◌, ℕ, zero, suc, ◌+◌, Bool, true, false, cond, not, List, [], ◌∷◌, take, drop, length, get_or, refl, subst, arith, IsUtf8, Ok, Err}
use Rattle.std.specs.List.{position_or_len}
use Rattle.std.specs.Str.{is_utf8}
use Rattle.std.proofs.lemmas.Str.{IsUtf8-from_ascii, IsUtf8-from_is_utf8, is_utf8-from_IsUtf8}
use Rattle.std.proofs.lemmas.Bool.Decides.{nat_tests}
use Rattle.sp_base.specs.Bytes.{begins_with_byte}
use Rattle.any_config.specs.declared.tokens.ByteRun.{ByteRun}
use Rattle.any_config.specs.declared.tokens.ByteRun.TheVariants.{Name, Plain, Quoted}
use Rattle.any_config.specs.Tokens.{ends, run_len, is_config_name_byte, is_plain_byte, quoted_value, quoted_node}
use Rattle.any_config.specs.declared.stop.AnyStop.TheVariants.{BadQuote}

pub run_within : (run : ByteRun) (t : List ℕ) → position_or_len (ends run) t ≤ length t
run_within run [] = omega arith
run_within run (c ∷ t) = go (ends run c) (run_within run t)
  where
    go : (b : Bool) → position_or_len (ends run) t ≤ length t → cond (not b) (1 + position_or_len (ends run) t) 0 ≤ length (c ∷ t)
    go true ih = omega arith
    go false ih = omega arith

-- the bytes of a name are ASCII
name_ascii : (c : ℕ) → not (is_config_name_byte c) ≡ false → c < 128
name_ascii c h = grind (arith, nat_tests)

plain_ascii : (c : ℕ) → not (is_plain_byte c) ≡ false → c < 128
plain_ascii c h = grind (arith, nat_tests)

run_ascii : (run : ByteRun) → ((c : ℕ) → ends run c ≡ false → c < 128) → (t : List ℕ) (i : ℕ) → get_or (take (position_or_len (ends run) t) t) i 0 < 128
run_ascii run small [] i = omega arith
run_ascii run small (c ∷ t) i = go (ends run c) refl (run_ascii run small t) i
  where
    go : (b : Bool) → ends run c ≡ b → ((k : ℕ) → get_or (take (position_or_len (ends run) t) t) k 0 < 128) → (k : ℕ) → get_or (take (cond (not b) (1 + position_or_len (ends run) t) 0) (c ∷ t)) k 0 < 128
    go true e ih k = omega arith
    go false e ih k =
        let one : suc (position_or_len (ends run) t) ≡ 1 + position_or_len (ends run) t = omega arith in
        subst (λ (m : ℕ). get_or (take m (c ∷ t)) k 0 < 128) one (at k)
      where
        at : (k : ℕ) → get_or (c ∷ take (position_or_len (ends run) t) t) k 0 < 128
        at zero = small c e
        at (suc k) = ih k

pub name_utf8 : (t : List ℕ) → IsUtf8 (take (run_len Name t) t)
unfolding run_len
name_utf8 t = IsUtf8-from_ascii _ (run_ascii Name name_ascii t)

pub plain_utf8 : (t : List ℕ) → IsUtf8 (take (run_len Plain t) t)
unfolding run_len
plain_utf8 t = IsUtf8-from_ascii _ (run_ascii Plain plain_ascii t)

not_utf8 : (bs : List ℕ) → ¬ (IsUtf8 bs) → is_utf8 bs ≡ false
not_utf8 bs no_text = go (is_utf8 bs) refl
  where
    go : (b : Bool) → is_utf8 bs ≡ b → b ≡ false
    go true e = absurd (no_text (IsUtf8-from_is_utf8 bs e))
    go false e = refl

-- what stands in quotes
pub quoted_ok : (mark n : ℕ) (t inside bytes rest text out : List ℕ) → inside ≡ drop 1 t → n ≡ run_len (Quoted mark) inside → bytes ≡ take n inside → rest ≡ drop n inside → begins_with_byte mark rest ≡ true → IsUtf8 bytes
    → text ≡ bytes → out ≡ drop 1 rest → quoted_value mark t ≡ Ok (quoted_node mark text, out)
unfolding quoted_value
quoted_ok mark n t inside bytes rest text out ei en eb er at u et eo =
    let a = rw (er, en, ei) at at in
    let v = rw (eb, en, ei) at (is_utf8-from_IsUtf8 bytes u) in
    rw (eo, et, eb, er, en, ei, a, v) refl

pub quoted_bad : (mark n : ℕ) (t inside bytes rest : List ℕ) → inside ≡ drop 1 t → n ≡ run_len (Quoted mark) inside → bytes ≡ take n inside → rest ≡ drop n inside → begins_with_byte mark rest ≡ true → ¬ (IsUtf8 bytes)
    → quoted_value mark t ≡ Err (BadQuote (length t))
unfolding quoted_value
quoted_bad mark n t inside bytes rest ei en eb er at no_text =
    let a = rw (er, en, ei) at at in
    let v = rw (eb, en, ei) at (not_utf8 bytes no_text) in
    rw (a, v) refl
