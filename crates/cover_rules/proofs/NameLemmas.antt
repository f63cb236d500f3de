-- How long file names are.
use Rattle.std.proofs.Common.{ℕ, false, List, [], ◌∷◌, ◌++◌, ◌+◌, ◌<◌, ◌≤◌, length, take, get_or, flat_map, sym, ◌∙◌, ap, ◌≡◌, arith, length-append}
use Rattle.std.proofs.lemmas.Bool.Decides.{nat_tests}
use Rattle.std.proofs.lemmas.List.{take_more}
use Rattle.std.proofs.lemmas.List.Concat.{flat_map-append}
use Rattle.cover_rules.specs.Names.{file_byte, file_name, has_file_name}

some_bytes : (b : ℕ) → 1 ≤ length (file_byte b)
some_bytes b = grind arith

pub no_shorter : (seg : List ℕ) → length seg ≤ length (file_name seg)
unfolding file_name
no_shorter [] = omega arith
no_shorter (b ∷ seg) = omega (arith, some_bytes b, no_shorter seg, length-append (file_byte b) (flat_map file_byte seg))

pub long_lacks : (seg : List ℕ) → 200 < length seg → has_file_name seg ≡ false
long_lacks seg h = let long = no_shorter seg in grind (arith, nat_tests)

pub name_more : (seg : List ℕ) (i : ℕ) → i < length seg → length (file_name (take (i + 1) seg)) ≡ length (file_name (take i seg)) + length (file_byte (get_or seg i 0))
unfolding file_name
name_more seg i h =
    ap (λ (s : List ℕ). length (flat_map file_byte s)) (take_more seg i 0 h) ∙ ap length (flat_map-append file_byte (take i seg) (get_or seg i 0 ∷ []))
    ∙ length-append (flat_map file_byte (take i seg)) (file_byte (get_or seg i 0) ++ []) ∙ omega (arith, length-append (file_byte (get_or seg i 0)) [])

-- the name of a text in two parts
pub name_parts : (mark rest seg : List ℕ) → mark ++ rest ≡ seg → length (file_name mark) + length (file_name rest) ≡ length (file_name seg)
unfolding file_name
name_parts mark rest seg e =
    sym (length-append (flat_map file_byte mark) (flat_map file_byte rest)) ∙ sym (ap length (flat_map-append file_byte mark rest)) ∙ ap (λ (s : List ℕ). length (flat_map file_byte s)) e

pub parts_lack : (mark rest seg : List ℕ) → mark ++ rest ≡ seg → 200 < length mark + length rest → has_file_name seg ≡ false
parts_lack mark rest seg e h = long_lacks seg (omega (arith, h, ap length e, length-append mark rest))
