-- The names of a page's files spell the text of its path byte by byte, so a name begins with another exactly where the texts do.
use Rattle.std.proofs.Common.{◌≡◌, ℕ, Bool, true, false, not, ◌||◌, ◌++◌, List, [], ◌∷◌, drop, length, take, flat_map, nat_eq, codes, refl, sym, ◌∙◌, ap}
use Rattle.std.specs.List.{starts_with}
use Rattle.std.specs.Cmp.Lexicographic.{bytes_decides}
use Rattle.std.proofs.lemmas.Bool.{not-true}
use Rattle.std.proofs.lemmas.List.{append-nil, take_at}
use Rattle.std.proofs.lemmas.Grind.{flat_map-append}
use Rattle.sp_base.specs.Bytes.{AreBytes}
use Rattle.sp_base.specs.Paths.{has_slash}
use Rattle.sp_base.specs.PathTexts.{lack_slashes, spelling_of}
use Rattle.sp_base.proofs.BoolLemmas.{and_first, and_second, or_false, or_first, or_second, same_truth}
use Rattle.sp_base.proofs.TextLemmas.{begins_with}
use Rattle.sp_outside.specs.Files.{has_prefix}
use Rattle.cover_rules.specs.Names.{is_plain_name_byte, file_byte, file_name}
use Rattle.docroot_format.specs.Names.{body_name, folder_name, head_name}
use Rattle.docroot_format.proofs.Apart.{never_percent, same_byte, some_written, written}
use Rattle.docroot_format.proofs.NameLemmas.{append_both}

-- ---- what a byte of a path's text is in a name

-- a slash stays, as those bytes do that stay in a segment's name
abbrev pub stays : ℕ → Bool
stays b = is_plain_name_byte b || nat_eq b 47

abbrev pub path_byte : ℕ → List ℕ
path_byte b = written (stays b) b

-- what a path's text is in a name
abbrev pub in_name : List ℕ → List ℕ
in_name text = flat_map path_byte text

-- what no byte of a path's text begins in a name
abbrev pub BeginsNoByte : List ℕ → Type 0
BeginsNoByte tail = (b : ℕ) (xs : List ℕ) → path_byte b ++ xs ≡ tail → ⊥

pub end_begins_none : BeginsNoByte []
end_begins_none b xs e = some_written b (stays b) xs e

mark_none : (b : ℕ) (p : Bool) (xs : List ℕ) → stays b ≡ p → written p b ++ xs ≡ codes "%h" → ⊥
mark_none b true xs is e = never_percent stays refl b is (cc (e))
mark_none b false xs is e = absurd (cc (e))

pub mark_begins_none : BeginsNoByte (codes "%h")
mark_begins_none b xs e = mark_none b (stays b) xs refl e

-- ---- a name begins with another where the texts do

text_begins : (text start tail rest : List ℕ) → BeginsNoByte tail → AreBytes text → AreBytes start → in_name text ++ tail ≡ in_name start ++ rest → (more : List ℕ) × (text ≡ start ++ more)
text_begins text [] tail rest none small_t small_s e = (text, refl)
text_begins [] (c ∷ start) tail rest none small_t small_s e = absurd (none c (in_name start ++ rest) (append_both (path_byte c) (in_name start) rest ∙ sym e))
text_begins (b ∷ text) (c ∷ start) tail rest none small_t small_s e =
    let one = same_byte stays refl b c (in_name text ++ tail) (in_name start ++ rest) (stays b) (stays c) refl refl small_t.0 small_s.0
    (append_both (path_byte b) (in_name text) tail ∙ e ∙ sym (append_both (path_byte c) (in_name start) rest)) in
    let more = text_begins text start tail rest none small_t.1 small_s.1 one.1 in
    (more.0, ap (λ x. x ∷ text) one.0 ∙ ap (λ xs. c ∷ xs) more.1)

pub is_begun : (text prefix rest : List ℕ) → text ≡ prefix ++ rest → starts_with nat_eq text prefix ≡ true
is_begun text prefix rest e = (bytes_decides prefix (take (length prefix) text)).1 (sym (ap (take (length prefix)) e ∙ take_at prefix rest (length prefix) refl))

cons_is : (b c : ℕ) (xs ys : List ℕ) → b ∷ xs ≡ c ∷ ys → xs ≡ ys
cons_is b c xs ys e = cc (e)

pub name_begins : (name prefix text start tail : List ℕ) → BeginsNoByte tail → AreBytes text → AreBytes start → 47 ∷ name ≡ in_name text ++ tail → 47 ∷ prefix ≡ in_name start
    → has_prefix prefix name ≡ starts_with nat_eq text start
name_begins name prefix text start tail none small_t small_s named begun = same_truth _ _
    (λ h.
    let rest = drop (length prefix) name in
    let more = text_begins text start tail rest none small_t small_s
    (sym named ∙ ap (λ (xs : List ℕ). 47 ∷ xs) (begins_with name prefix h) ∙ ap (λ (xs : List ℕ). xs ++ rest) begun) in
    is_begun text start more.0 more.1)
    (λ h.
    let more = drop (length start) text in
    let both : in_name text ≡ in_name start ++ in_name more = ap in_name (begins_with text start h) ∙ flat_map-append path_byte start more in
    let whole : 47 ∷ name ≡ 47 ∷ (prefix ++ (in_name more ++ tail)) =
    named ∙ ap (λ (xs : List ℕ). xs ++ tail) both ∙ sym (append_both (in_name start) (in_name more) tail) ∙ ap (λ (xs : List ℕ). xs ++ (in_name more ++ tail)) (sym begun) in
    is_begun name prefix (in_name more ++ tail) (cons_is 47 47 name (prefix ++ (in_name more ++ tail)) whole))

-- ---- the names of pages and folders spell texts

pub segment_spells : (seg : List ℕ) → has_slash seg ≡ false → in_name seg ≡ file_name seg
unfolding file_name
segment_spells [] lacks = refl
segment_spells (b ∷ seg) lacks =
    let plain : stays b ≡ is_plain_name_byte b = ap (λ t. is_plain_name_byte b || t) (or_first (nat_eq b 47) (has_slash seg) lacks) ∙ or_false (is_plain_name_byte b) in
    ap (λ t. written t b ++ in_name seg) plain ∙ ap (λ (xs : List ℕ). file_byte b ++ xs) (segment_spells seg (or_second (nat_eq b 47) (has_slash seg) lacks))

pub folder_spells : (folder : List (List ℕ)) (last : List ℕ) → lack_slashes folder ≡ true → in_name (spelling_of folder ++ 47 ∷ last) ≡ 47 ∷ (folder_name folder ++ in_name last)
folder_spells [] last lacks = refl
folder_spells (seg ∷ folder) last lacks =
    let rest = spelling_of folder ++ 47 ∷ last in
    ap (λ (xs : List ℕ). 47 ∷ xs)
    (ap in_name (sym (append_both seg (spelling_of folder) (47 ∷ last)))
    ∙ flat_map-append path_byte seg rest
    ∙ ap (λ (xs : List ℕ). xs ++ in_name rest) (segment_spells seg (not-true (has_slash seg) (and_first (not (has_slash seg)) (lack_slashes folder) lacks)))
    ∙ ap (λ (xs : List ℕ). file_name seg ++ xs) (folder_spells folder last (and_second (not (has_slash seg)) (lack_slashes folder) lacks))
    ∙ append_both (file_name seg) (47 ∷ []) (folder_name folder ++ in_name last)
    ∙ append_both (file_name seg ++ 47 ∷ []) (folder_name folder) (in_name last))

pub body_spells : (folder : List (List ℕ)) (file : List ℕ) → lack_slashes folder ≡ true → has_slash file ≡ false → 47 ∷ body_name folder file ≡ in_name (spelling_of folder ++ 47 ∷ file) ++ []
body_spells folder file lacks slashless =
    ap (λ (xs : List ℕ). 47 ∷ (folder_name folder ++ xs)) (sym (segment_spells file slashless)) ∙ sym (folder_spells folder file lacks) ∙ sym (append-nil (in_name (spelling_of folder ++ 47 ∷ file)))

pub head_spells : (folder : List (List ℕ)) (file : List ℕ) → lack_slashes folder ≡ true → has_slash file ≡ false → 47 ∷ head_name folder file ≡ in_name (spelling_of folder ++ 47 ∷ file) ++ codes "%h"
head_spells folder file lacks slashless =
    ap (λ (xs : List ℕ). xs ++ codes "%h") (body_spells folder file lacks slashless ∙ append-nil (in_name (spelling_of folder ++ 47 ∷ file)))

pub prefix_spells : (folder : List (List ℕ)) → lack_slashes folder ≡ true → 47 ∷ folder_name folder ≡ in_name (spelling_of folder ++ 47 ∷ [])
prefix_spells folder lacks = sym (folder_spells folder [] lacks ∙ ap (λ (xs : List ℕ). 47 ∷ xs) (append-nil (folder_name folder)))
