-- A media type is ASCII, so UTF-8.
use Rattle.std.proofs.Common.{◌≡◌, ◌<◌, ◌&&◌, ℕ, zero, suc, true, List, [], ◌∷◌, IsUtf8, nat_le, length, arith}
use Rattle.std.specs.List.{list_all}
use Rattle.std.specs.Prelude.{IsAscii}
use Rattle.std.proofs.lemmas.Bool.Decides.{nat_tests}
use Rattle.std.proofs.lemmas.Str.{IsUtf8-from_ascii}
use Rattle.sp_base.specs.Bytes.{is_printable_ascii}
use Rattle.sp_base.specs.Limits.{longest_media_type}
use Rattle.sp_base.specs.MediaTypes.{is_kind}
use Rattle.sp_base.proofs.BoolLemmas.{and_first, and_second}

small : (b : ℕ) → nat_le 32 b && nat_le b 126 ≡ true → b < 128
small b e = grind (arith, nat_tests)

ascii : (bs : List ℕ) → list_all is_printable_ascii bs ≡ true → IsAscii bs
ascii [] e zero = omega arith
ascii [] e (suc i) = omega arith
ascii (b ∷ bs) e zero = small b (and_first _ _ e)
ascii (b ∷ bs) e (suc i) = ascii bs (and_second _ _ e) i

pub kind_is_utf8 : (kind : List ℕ) → is_kind kind ≡ true → IsUtf8 kind
kind_is_utf8 kind e = IsUtf8-from_ascii kind (ascii kind (and_second (nat_le (length kind) longest_media_type) _ e))
