-- Visible bytes of ASCII are UTF-8.
use Rattle.std.proofs.Common.{◌≡◌, ◌<◌, ℕ, true, List, get_or, arith}
use Rattle.std.proofs.lemmas.Bool.Decides.{nat_tests}
use Rattle.std.proofs.lemmas.List.Sums.{AllPass-from_list_all}
use Rattle.std.proofs.lemmas.Str.{IsUtf8-from_ascii}
use Rattle.std.proofs.lemmas.Str.Ascii.{IsAscii-from_all}
use Rattle.std.specs.List.{list_all}
use Rattle.std.specs.Str.{IsUtf8}
use Rattle.sp_base.specs.Bytes.{is_visible_ascii}

visible_small : (b : ℕ) → is_visible_ascii b ≡ true → b < 128
visible_small b e = grind (arith, nat_tests)

-- visible bytes are a text
pub visible_is_text : (bytes : List ℕ) → list_all is_visible_ascii bytes ≡ true → IsUtf8 bytes
visible_is_text bytes e =
    IsUtf8-from_ascii bytes (IsAscii-from_all bytes (λ k d lt. visible_small (get_or bytes k d) (AllPass-from_list_all is_visible_ascii bytes e k d lt)))
