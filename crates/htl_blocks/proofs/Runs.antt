-- Runs of bytes at the beginning of a text.
use Rattle.std.proofs.Common.{◌≡◌, ◌<◌, ◌≤◌, ◌+◌, ℕ, zero, suc, Bool, true, false, not, nat_lt, List, [], ◌∷◌, drop, length, slice_index, refl, subst, arith}
use Rattle.std.specs.Str.{IsCharBoundary, IsUtf8}
use Rattle.std.specs.List.{position_or_len}
use Rattle.std.proofs.lemmas.List.Sums.{prefix_len-le-length, passes_at_first, fails_before_first}
use Rattle.std.proofs.lemmas.Str.{IsCharBoundary-start, IsCharBoundary-after_ascii}
use Rattle.std.proofs.lemmas.Bool.{eqb-true}
use Rattle.std.proofs.lemmas.Bool.Decides.{nat_tests}
use Rattle.sp_base.proofs.ListLemmas.{index_drop}
use Rattle.htl_syntax.specs.Tokens.{is_blank, is_quote}
use Rattle.htl_syntax.proofs.Strings.{quote_ascii}
use Rattle.htl_blocks.specs.declared.byte_run.ByteRun.{ByteRun}
use Rattle.htl_blocks.specs.declared.byte_run.ByteRun.TheVariants.{Key, Quoted, Blanks}
use Rattle.htl_blocks.specs.Markup.{ends_run, ends_key, run_bytes}

pub run_within : (run : ByteRun) (t : List ℕ) → run_bytes run t ≤ length t
unfolding run_bytes
run_within run t = prefix_len-le-length _ t

key_ascii : (c : ℕ) → ends_key c ≡ true → c < 128
key_ascii c h = grind (arith, nat_tests)

pub key_boundary : (t : List ℕ) → IsCharBoundary t (run_bytes Key t)
unfolding run_bytes
key_boundary t = (run_within Key t, λ lt big. let x = key_ascii (slice_index t (position_or_len (ends_run Key) t)) (passes_at_first (ends_run Key) t 0 lt) in omega (arith, x, big))

pub quoted_boundary : (mark : ℕ) (t : List ℕ) → is_quote mark ≡ true → IsCharBoundary t (run_bytes (Quoted mark) t)
unfolding run_bytes
quoted_boundary mark t h = (run_within (Quoted mark) t, λ lt big. let x = eqb-true (slice_index t (position_or_len (ends_run (Quoted mark)) t)) mark (passes_at_first (ends_run (Quoted mark)) t 0 lt) in let y = quote_ascii mark h in omega (arith, x, y, big))

blank_byte : (c : ℕ) → not (is_blank c) ≡ false → c < 128
blank_byte c h = grind (arith, nat_tests)

pub blanks_boundary : (t : List ℕ) → IsUtf8 t → IsCharBoundary t (run_bytes Blanks t)
unfolding run_bytes
blanks_boundary t utf8 = go (position_or_len (ends_run Blanks) t) refl
  where
    go : (n : ℕ) → position_or_len (ends_run Blanks) t ≡ n → IsCharBoundary t n
    go zero e = IsCharBoundary-start t utf8
    go (suc n) e =
        let within : position_or_len (ends_run Blanks) t ≤ length t = prefix_len-le-length _ t in
        let blank = blank_byte (slice_index t n) (fails_before_first (ends_run Blanks) t n 0 (omega (arith, e))) in
        let more : n + 1 ≡ suc n = omega arith in
        subst (IsCharBoundary t) more (IsCharBoundary-after_ascii t n utf8 (omega (arith, e, within)) blank)

pub drop_one_more : (n : ℕ) (t : List ℕ) → drop 1 (drop n t) ≡ drop (n + 1) t
drop_one_more zero t = refl
drop_one_more (suc n) [] = let more : suc n + 1 ≡ suc (n + 1) = omega arith in rw more refl
drop_one_more (suc n) (c ∷ t) = let more : suc n + 1 ≡ suc (n + 1) = omega arith in rw more (drop_one_more n t)

past_end : (n : ℕ) (t : List ℕ) → length t ≤ n → slice_index t n ≡ 0
past_end n [] h = refl
past_end zero (c ∷ t) h = absurd (omega (arith, h))
past_end (suc n) (c ∷ t) h = past_end n t (omega (arith, h))

-- what stands after quotes begins with their mark, or is empty
pub quoted_rest : (mark : ℕ) (t : List ℕ) → is_quote mark ≡ true → slice_index (drop (run_bytes (Quoted mark) t) t) 0 < 128
unfolding run_bytes
quoted_rest mark t h = rw (index_drop (position_or_len (ends_run (Quoted mark)) t) t) (go (nat_lt (position_or_len (ends_run (Quoted mark)) t) (length t)) refl)
  where
    go : (b : Bool) → nat_lt (position_or_len (ends_run (Quoted mark)) t) (length t) ≡ b → slice_index t (position_or_len (ends_run (Quoted mark)) t) < 128
    go true e =
        let lt : position_or_len (ends_run (Quoted mark)) t < length t = grind (arith, nat_tests) in
        let x = eqb-true (slice_index t (position_or_len (ends_run (Quoted mark)) t)) mark (passes_at_first (ends_run (Quoted mark)) t 0 lt) in
        let y = quote_ascii mark h in
        omega (arith, x, y)
    go false e =
        let none = past_end (position_or_len (ends_run (Quoted mark)) t) t (grind (arith, nat_tests)) in
        omega (arith, none)
