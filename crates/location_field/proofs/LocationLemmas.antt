-- What the set of escaped octets makes of a text.
use Rattle.std.proofs.Common.{◌≡◌, ◌≤◌, ℕ, false, List, [], ◌∷◌, refl, sym, ◌∙◌, ap, ⊎_elim, arith}
use Rattle.std.specs.Prelude.{◌||◌, ◌&&◌, not, nat_le, nat_lt, flat_map, if◌then◌else◌}
use Rattle.std.proofs.lemmas.Bool.{agree_below_at, cases_lt}
use Rattle.std.proofs.lemmas.Bool.Decides.{nat_tests}
use Rattle.sp_base.specs.Bytes.{is_visible_ascii}
use Rattle.sp_base.proofs.BoolLemmas.{and_false, cond_not}
use Rattle.percent_encoding.specs.AsciiSet.{contains, should_percent_encode}
use Rattle.percent_encoding.specs.Percent.{encode_byte, percent_encode, percent_encode_byte}
use Rattle.location_field.specs.declared.location.TheConstants.{UNSEEN}
use Rattle.location_field.specs.Location.{location_of}

escapes_is : (b : ℕ) → should_percent_encode UNSEEN b ≡ not (is_visible_ascii b)
unfolding should_percent_encode
escapes_is b =
    ⊎_elim
    (λ below. agree_below_at (should_percent_encode UNSEEN) (λ n. not (is_visible_ascii n)) 128 b refl below)
    (λ (above : 128 ≤ b).
    let not_ascii : nat_lt b 128 ≡ false = grind (arith, nat_tests) in
    let not_seen : nat_le b 126 ≡ false = grind (arith, nat_tests) in
    ap (λ x. not x || contains UNSEEN b) not_ascii ∙ sym (ap (λ x. not (nat_le 33 b && x)) not_seen ∙ ap not (and_false (nat_le 33 b))))
    (cases_lt b 128)

byte_is : (b : ℕ) → encode_byte UNSEEN b ≡ (if is_visible_ascii b then b ∷ [] else percent_encode_byte b)
byte_is b = ap (λ x. if x then percent_encode_byte b else b ∷ []) (escapes_is b) ∙ cond_not (is_visible_ascii b) (percent_encode_byte b) (b ∷ [])

pub location_is : (text : List ℕ) → percent_encode UNSEEN text ≡ location_of text
unfolding percent_encode location_of
location_is text = λ i. flat_map (λ b. byte_is b i) text
