-- What bytes read as: a page's head, a folder's stamp, an epoch. A number is decimal digits without a leading zero, below 2^64.
-- `next_of` is needed by private functions and proofs alone.
use Rattle.std.specs.Prelude.{◌==◌, ◌&&◌, ◌+◌, ◌*◌, ◌-◌, ℕ, Bool, false, not, nat_eq, nat_le, nat_lt, if◌then◌else◌, List, [], ◌∷◌, Option, Some, None, option_and_then, option_map, codes, drop, take, length, slice_index, IsTrue, ◌≡◌}
use Rattle.std.specs.List.{starts_with}
use Rattle.std.specs.Cmp.Lexicographic.{pointwise}
use Rattle.sp_base.specs.Bytes.{is_digit}
use Rattle.sp_base.specs.Limits.{greatest_u64}
use Rattle.sp_base.specs.MediaTypes.{is_kind}
use Rattle.sp_base.specs.Texts.{Text}
use Rattle.cover_rules.specs.declared.stamp.Stamp.{Stamp}
use Rattle.docroot_format.specs.Texts.{head_text}

-- the text begins with a digit that fits after a number
unfoldable pub digit_fits : ℕ → List ℕ → Bool
digit_fits n [] = false
digit_fits n (b ∷ text) = is_digit b && nat_le (n * 10 + (b - 48)) greatest_u64

-- the longest number at the beginning that fits, after one that was read, and what is left
unfoldable pub digits_from : ℕ → List ℕ → ℕ × List ℕ
digits_from n [] = (n, [])
digits_from n (b ∷ text) = if digit_fits n (b ∷ text) then digits_from (n * 10 + (b - 48)) text else (n, b ∷ text)

-- the number with the next digit, where that fits
abbrev pub next_of : ℕ → List ℕ → Option ℕ
next_of n text = if digit_fits n text then Some (n * 10 + (slice_index text 0 - 48)) else None

-- a digit, and none after a zero
abbrev pub begins_number : List ℕ → Bool
begins_number text = is_digit (slice_index text 0) && not (slice_index text 0 == 48 && is_digit (slice_index text 1))

-- the number at the beginning of a text, and what is left
unfoldable pub leading_number : List ℕ → Option (ℕ × List ℕ)
leading_number text = if begins_number text then Some (digits_from 0 text) else None

-- what is left after a word at the beginning
unfoldable pub after_word : List ℕ → List ℕ → Option (List ℕ)
after_word word text = if starts_with nat_eq text word then Some (drop (length word) text) else None

-- the line feed with which such a file ends, and nothing else
abbrev pub is_end : List ℕ → Bool
is_end text = pointwise nat_eq text (codes "\n")

-- the stamp at the beginning of a text, and what is left
unfoldable pub stamp_of : List ℕ → Option (Stamp × List ℕ)
stamp_of text = option_and_then (λ e. option_and_then (λ rest. option_map (λ c. (record { epoch = e.0; count = c.0 }, c.1)) (leading_number rest)) (after_word (codes " ") e.1)) (leading_number text)

-- the stamp that a .stat file holds
unfoldable pub stat_of : List ℕ → Option Stamp
stat_of text = option_and_then (λ s. if is_end s.1 then Some s.0 else None) (option_and_then stamp_of (after_word (codes "stat 1 ") text))

-- the epoch that a file holds, from 1 on
unfoldable pub epoch_of : List ℕ → Option ℕ
epoch_of text = option_and_then (λ e. if is_end e.1 && nat_lt 0 e.0 then Some e.0 else None) (option_and_then leading_number (after_word (codes "epoch 1 ") text))

-- a media type up to the end of the line
unfoldable pub stored_kind : List ℕ → Option (List ℕ)
stored_kind text = if is_end (drop (length text - 1) text) && is_kind (take (length text - 1) text) then Some (take (length text - 1) text) else None

-- what a head says: the stamp, and the length and the media type of the body
pub record HeadLine : Type 0 where
  pub stamp : Stamp
  pub size : ℕ
  pub kind : List ℕ

-- the rest of a head after its stamp: the length and the media type of the body
unfoldable pub body_of : Stamp → List ℕ → Option HeadLine
body_of stamp text = option_and_then (λ n. option_map (λ kind. record { stamp = stamp; size = n.0; kind = kind }) (option_and_then stored_kind (after_word (codes " ") n.1))) (option_and_then leading_number (after_word (codes " ") text))

-- the head that bytes are
unfoldable pub head_of : List ℕ → Option HeadLine
head_of text = option_and_then (λ s. body_of s.0 s.1) (option_and_then stamp_of (after_word (codes "page 1 ") text))

-- the line of a head that says this, of a media type, is read back
abbrev pub IsHeadReadBackIfKind : Stamp → ℕ → Text → Type 0
IsHeadReadBackIfKind stamp size kind = IsTrue (is_kind kind) → head_of (head_text stamp size kind) ≡ Some (record { stamp = stamp; size = size; kind = kind })
