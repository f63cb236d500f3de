-- How long the names of files are.
use Rattle.std.proofs.Common.{◌≡◌, ◌<◌, ◌≤◌, ◌+◌, ◌*◌, ◌&&◌, ◌++◌, ◌∷◌, ℕ, true, List, [], IsTrue, length, flat_map, codes, arith, nat_lt}
use Rattle.std.proofs.lemmas.Bool.{leb-true, ltb-true}
use Rattle.std.proofs.lemmas.List.{length-append, length-map}
use Rattle.sp_base.specs.Paths.{mangled_seg, mangled_segs}
use Rattle.sp_base.proofs.BoolLemmas.{and_first, and_second}
use Rattle.sp_outside.specs.Files.{IsName}
use Rattle.cover_rules.specs.Names.{file_byte, file_name, has_file_name}
use Rattle.docroot_format.specs.Names.{folder_name, body_name, head_name, have_names, is_place, stat_name}

pub folder_len : (segs : List (List ℕ)) → have_names segs ≡ true → length (folder_name segs) ≤ 201 * length segs
folder_len [] e = omega arith
folder_len (seg ∷ segs) e =
    let short : length (file_name seg) ≤ 200 = leb-true (length (file_name seg)) 200 (and_first (has_file_name seg) (have_names segs) e) in
    let rest : length (folder_name segs) ≤ 201 * length segs = folder_len segs (and_second (has_file_name seg) (have_names segs) e) in
    omega (arith, short, rest, length-append (file_name seg ++ 47 ∷ []) (folder_name segs), length-append (file_name seg) (47 ∷ []))

byte_some : (b : ℕ) → 0 < length (file_byte b)
byte_some b = grind arith

pub file_some : (file : List ℕ) → 0 < length file → 0 < length (file_name file)
unfolding file_name
file_some [] lt = absurd (omega (arith, lt))
file_some (b ∷ file) lt = omega (arith, byte_some b, length-append (file_byte b) (flat_map file_byte file))

-- what a place says of the lengths of its names
record IsShort (folder : List (List ℕ)) (file : List ℕ) : Type 0 where
  folder_short : length (folder_name folder) ≤ 201 * length folder
  file_short : length (file_name file) ≤ 200
  some : 0 < length (file_name file)

short : (folder : List (List ℕ)) (file : List ℕ) → is_place folder file ≡ true → IsShort folder file
short folder file e =
    let rest : has_file_name file && nat_lt 0 (length file) ≡ true = and_second (have_names folder) (has_file_name file && nat_lt 0 (length file)) e in
    record {
      folder_short = folder_len folder (and_first (have_names folder) (has_file_name file && nat_lt 0 (length file)) e);
      file_short = leb-true (length (file_name file)) 200 (and_first (has_file_name file) (nat_lt 0 (length file)) rest);
      some = file_some file (ltb-true 0 (length file) (and_second (has_file_name file) (nat_lt 0 (length file)) rest));
    }

pub body_fits : (folder : List (List ℕ)) (file : List ℕ) → length folder ≤ 64 → IsTrue (is_place folder file) → IsName (body_name folder file)
body_fits folder file deep e =
    let s = short folder file e in
    let long : length (body_name folder file) ≡ length (folder_name folder) + length (file_name file) = length-append (folder_name folder) (file_name file) in
    (omega (arith, s.some, long), omega (arith, deep, long, s.folder_short, s.file_short))

pub head_fits : (folder : List (List ℕ)) (file : List ℕ) → length folder ≤ 64 → IsTrue (is_place folder file) → IsName (head_name folder file)
head_fits folder file deep e =
    let s = short folder file e in
    let long : length (body_name folder file) ≡ length (folder_name folder) + length (file_name file) = length-append (folder_name folder) (file_name file) in
    let more : length (head_name folder file) ≡ length (body_name folder file) + 2 = length-append (body_name folder file) (codes "%h") in
    (omega (arith, more), omega (arith, deep, long, more, s.folder_short, s.file_short))

pub stat_fits : (folder : List (List ℕ)) → length folder ≤ 64 → IsTrue (have_names (mangled_segs folder)) → IsName (stat_name folder)
stat_fits folder deep e =
    let few = folder_len (mangled_segs folder) e in
    let long : length (stat_name folder) ≡ length (folder_name (mangled_segs folder)) + 5 = length-append (folder_name (mangled_segs folder)) (codes ".stat") in
    (omega (arith, long), omega (arith, deep, long, few, length-map folder mangled_seg))
