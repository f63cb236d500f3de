-- Different pages and folders have different files.
use Rattle.std.proofs.Common.{◌≡◌, ◌≢◌, ◌<◌, ◌/◌, ◌%◌, ℕ, Bool, true, false, cond, ◌++◌, List, [], ◌∷◌, get_or, map, nat_eq, codes, refl, sym, ◌∙◌, ap, arith}
use Rattle.std.specs.List.{AllByRecursion, list_all}
use Rattle.std.specs.Fmt.{digit_glyph}
use Rattle.std.proofs.lemmas.Bool.{and_from, true≢false}
use Rattle.std.proofs.lemmas.Bool.Decides.{nat_tests}
use Rattle.std.proofs.lemmas.List.{append_cancel_right, append-nil}
use Rattle.std.proofs.lemmas.List.Splits.{slice_split_at, slice_split_none}
use Rattle.std.proofs.lemmas.List.Folds.{list_all-append}
use Rattle.sp_base.specs.Bytes.{AreBytes}
use Rattle.sp_base.specs.Paths.{mangled_segs, pieces}
use Rattle.cover_rules.specs.Names.{is_plain_name_byte, file_byte, file_name}
use Rattle.cover_rules.specs.Pages.{is_file}
use Rattle.docroot_format.specs.Names.{body_name, folder_name, head_name, stat_name, epoch_name, is_file_name_byte}
use Rattle.docroot_format.proofs.NameLemmas.{append_both}
use Rattle.docroot_format.proofs.Inside.{bytes_ok, file_first, first_byte, no_slash}
use Rattle.sp_base.proofs.ListLemmas.{cons_parts}
use Rattle.sp_base.proofs.PathBytes.{all_mangled}

-- ---- a byte is read off what it is in a name

abbrev pub written : Bool → ℕ → List ℕ
written plain b = cond plain (b ∷ []) (37 ∷ digit_glyph true (b / 16 % 16) ∷ digit_glyph true (b % 16) ∷ [])

glyph : (c d : ℕ) → c < 16 → d < 16 → digit_glyph true c ≡ digit_glyph true d → c ≡ d
glyph c d small_c small_d e = grind (arith, nat_tests)

halves : (b c : ℕ) → b < 256 → c < 256 → b / 16 % 16 ≡ c / 16 % 16 → b % 16 ≡ c % 16 → b ≡ c
halves b c small_b small_c high low = omega (arith, small_b, small_c, high, low)

-- a byte that stands as it is isn't `%`, by whichever test it does
pub never_percent : (stays : ℕ → Bool) → stays 37 ≡ false → (b : ℕ) → stays b ≡ true → b ≡ 37 → ⊥
never_percent stays none b plain e = true≢false (sym plain ∙ ap stays e ∙ none)

pub same_byte : (stays : ℕ → Bool) → stays 37 ≡ false → (b c : ℕ) (xs ys : List ℕ) (p q : Bool) → stays b ≡ p → stays c ≡ q → b < 256 → c < 256
    → written p b ++ xs ≡ written q c ++ ys → (b ≡ c) × (xs ≡ ys)
same_byte stays none b c xs ys true true pb pc small_b small_c e = cons_parts b c xs ys e
same_byte stays none b c xs ys true false pb pc small_b small_c e = absurd (never_percent stays none b pb (cons_parts b 37 xs _ e).0)
same_byte stays none b c xs ys false true pb pc small_b small_c e = absurd (never_percent stays none c pc (sym (cons_parts 37 c _ ys e).0))
same_byte stays none b c xs ys false false pb pc small_b small_c e =
    let one = cons_parts 37 37 (digit_glyph true (b / 16 % 16) ∷ digit_glyph true (b % 16) ∷ xs) (digit_glyph true (c / 16 % 16) ∷ digit_glyph true (c % 16) ∷ ys) e in
    let two = cons_parts _ _ (digit_glyph true (b % 16) ∷ xs) (digit_glyph true (c % 16) ∷ ys) one.1 in
    let three = cons_parts _ _ xs ys two.1 in
    (halves b c small_b small_c (glyph (b / 16 % 16) (c / 16 % 16) (omega arith) (omega arith) two.0) (glyph (b % 16) (c % 16) (omega arith) (omega arith) three.0), three.1)

pub some_written : (b : ℕ) (p : Bool) (xs : List ℕ) → written p b ++ xs ≡ [] → ⊥
some_written b true xs e = absurd cc
some_written b false xs e = absurd cc

same_name : (s t : List ℕ) → AreBytes s → AreBytes t → file_name s ≡ file_name t → s ≡ t
unfolding file_name
same_name [] [] small_s small_t e = refl
same_name [] (c ∷ t) small_s small_t e = absurd (some_written c (is_plain_name_byte c) (file_name t) (sym e))
same_name (b ∷ s) [] small_s small_t e = absurd (some_written b (is_plain_name_byte b) (file_name s) e)
same_name (b ∷ s) (c ∷ t) small_s small_t e =
    let one = same_byte is_plain_name_byte refl b c (file_name s) (file_name t) (is_plain_name_byte b) (is_plain_name_byte c) refl refl small_s.0 small_t.0 e in
    ap (λ x. x ∷ s) one.0 ∙ ap (λ r. c ∷ r) (same_name s t small_s.1 small_t.1 one.1)

-- ---- a name's pieces are its segments' names

pub pieces_body : (folder : List (List ℕ)) (last : List ℕ) → list_all is_file_name_byte last ≡ true → pieces (folder_name folder ++ last) ≡ map file_name folder ++ last ∷ []
pieces_body [] last ok = slice_split_none (λ b. nat_eq b 47) last (no_slash last ok)
pieces_body (seg ∷ folder) last ok =
    ap pieces (sym (append_both (file_name seg ++ 47 ∷ []) (folder_name folder) last) ∙ sym (append_both (file_name seg) (47 ∷ []) (folder_name folder ++ last)))
    ∙ slice_split_at (λ b. nat_eq b 47) (file_name seg) 47 (folder_name folder ++ last) (no_slash (file_name seg) (bytes_ok seg)) refl
    ∙ ap (λ rest. file_name seg ∷ rest) (pieces_body folder last ok)

lists : (x y : List ℕ) (xs ys : List (List ℕ)) → x ∷ xs ≡ y ∷ ys → (x ≡ y) × (xs ≡ ys)
lists x y xs ys e = (cc, cc)

some_last : (xs : List (List ℕ)) (x : List ℕ) → xs ++ x ∷ [] ≡ [] → ⊥
some_last [] x e = absurd cc
some_last (y ∷ xs) x e = absurd cc

same_pieces : (a b : List (List ℕ)) (x y : List ℕ) → AllByRecursion AreBytes a → AllByRecursion AreBytes b → map file_name a ++ x ∷ [] ≡ map file_name b ++ y ∷ [] → (a ≡ b) × (x ≡ y)
same_pieces [] [] x y small_a small_b e = (refl, (lists x y [] [] e).0)
same_pieces [] (t ∷ b) x y small_a small_b e = absurd (some_last (map file_name b) y (sym (lists x (file_name t) [] (map file_name b ++ y ∷ []) e).1))
same_pieces (s ∷ a) [] x y small_a small_b e = absurd (some_last (map file_name a) x (lists (file_name s) y (map file_name a ++ x ∷ []) [] e).1)
same_pieces (s ∷ a) (t ∷ b) x y small_a small_b e =
    let one = lists (file_name s) (file_name t) (map file_name a ++ x ∷ []) (map file_name b ++ y ∷ []) e in
    let rest = same_pieces a b x y small_a.1 small_b.1 one.1 in
    (ap (λ seg. seg ∷ a) (same_name s t small_a.0 small_b.0 one.0) ∙ ap (λ segs. t ∷ segs) rest.0, rest.1)

same_place : (a b : List (List ℕ)) (x y : List ℕ) → AllByRecursion AreBytes a → AllByRecursion AreBytes b → list_all is_file_name_byte x ≡ true → list_all is_file_name_byte y ≡ true
    → folder_name a ++ x ≡ folder_name b ++ y → (a ≡ b) × (x ≡ y)
same_place a b x y small_a small_b ok_x ok_y e = same_pieces a b x y small_a small_b (sym (pieces_body a x ok_x) ∙ ap pieces e ∙ pieces_body b y ok_y)

-- ---- the files of pages and folders

pub bodies : (a b : List (List ℕ)) (x y : List ℕ) → AllByRecursion AreBytes a → AllByRecursion AreBytes b → AreBytes x → AreBytes y → body_name a x ≡ body_name b y → (a ≡ b) × (x ≡ y)
bodies a b x y small_a small_b small_x small_y e =
    let place = same_place a b (file_name x) (file_name y) small_a small_b (bytes_ok x) (bytes_ok y) e in
    (place.0, same_name x y small_x small_y place.1)

pub heads : (a b : List (List ℕ)) (x y : List ℕ) → AllByRecursion AreBytes a → AllByRecursion AreBytes b → AreBytes x → AreBytes y → head_name a x ≡ head_name b y → (a ≡ b) × (x ≡ y)
heads a b x y small_a small_b small_x small_y e = bodies a b x y small_a small_b small_x small_y (append_cancel_right (body_name a x) (body_name b y) (codes "%h") e)

pub stats : (a b : List (List ℕ)) → AllByRecursion AreBytes a → AllByRecursion AreBytes b → stat_name a ≡ stat_name b → mangled_segs a ≡ mangled_segs b
stats a b small_a small_b e = (same_place (mangled_segs a) (mangled_segs b) (codes ".stat") (codes ".stat") (all_mangled a small_a) (all_mangled b small_b) refl refl e).0

-- no file's name ends in `%` and one byte, as a head's does
low_glyph : (d : ℕ) → d < 16 → digit_glyph true d ≡ 37 → ⊥
low_glyph d small e = grind (arith, nat_tests)

-- without its first byte a text ends as before
peel : (mark b : ℕ) (p : Bool) (xs t : List ℕ) → is_plain_name_byte b ≡ p → written p b ++ xs ≡ t ++ 37 ∷ mark ∷ [] → (rest : List ℕ) × (xs ≡ rest ++ 37 ∷ mark ∷ [])
peel mark b true xs [] plain e = absurd (never_percent is_plain_name_byte refl b plain (cons_parts b 37 xs (mark ∷ []) e).0)
peel mark b true xs (c ∷ t) plain e = (t, (cons_parts b c xs (t ++ 37 ∷ mark ∷ []) e).1)
peel mark b false xs [] plain e = absurd cc
peel mark b false xs (c ∷ []) plain e =
    absurd (low_glyph (b / 16 % 16) (omega arith) (cons_parts _ 37 (digit_glyph true (b % 16) ∷ xs) (mark ∷ []) (cons_parts 37 c _ _ e).1).0)
peel mark b false xs (c ∷ d ∷ []) plain e =
    absurd (low_glyph (b % 16) (omega arith) (cons_parts _ 37 xs (mark ∷ []) (cons_parts _ d _ _ (cons_parts 37 c _ _ e).1).1).0)
peel mark b false xs (c ∷ d ∷ f ∷ t) plain e = (t, (cons_parts _ f xs (t ++ 37 ∷ mark ∷ []) (cons_parts _ d _ _ (cons_parts 37 c _ _ e).1).1).1)

pub no_ending : (mark : ℕ) (s t : List ℕ) → file_name s ≡ t ++ 37 ∷ mark ∷ [] → ⊥
unfolding file_name
no_ending mark [] [] e = absurd cc
no_ending mark [] (x ∷ t) e = absurd cc
no_ending mark (b ∷ s) t e =
    let p = peel mark b (is_plain_name_byte b) (file_name s) t refl e in
    no_ending mark s p.0 p.1

-- without a segment's name at its beginning, or a folder's, a text ends as before
pub after_segment : (mark : ℕ) (s xs t : List ℕ) → file_name s ++ xs ≡ t ++ 37 ∷ mark ∷ [] → (rest : List ℕ) × (xs ≡ rest ++ 37 ∷ mark ∷ [])
unfolding file_name
after_segment mark [] xs t e = (t, e)
after_segment mark (b ∷ s) xs t e =
    let p = peel mark b (is_plain_name_byte b) (file_name s ++ xs) t refl (append_both (file_byte b) (file_name s) xs ∙ e) in
    after_segment mark s xs p.0 p.1

after_slash : (mark : ℕ) (xs t : List ℕ) → 47 ∷ xs ≡ t ++ 37 ∷ mark ∷ [] → (rest : List ℕ) × (xs ≡ rest ++ 37 ∷ mark ∷ [])
after_slash mark xs [] e =
    let slash : 47 ≡ 37 = ap (λ l. get_or l 0 0) e in
    absurd (omega (arith, slash))
after_slash mark xs (c ∷ t) e = (t, (cons_parts 47 c xs (t ++ 37 ∷ mark ∷ []) e).1)

pub after_folder : (mark : ℕ) (folder : List (List ℕ)) (xs t : List ℕ) → folder_name folder ++ xs ≡ t ++ 37 ∷ mark ∷ [] → (rest : List ℕ) × (xs ≡ rest ++ 37 ∷ mark ∷ [])
after_folder mark [] xs t e = (t, e)
after_folder mark (seg ∷ folder) xs t e =
    let name = after_segment mark seg (47 ∷ (folder_name folder ++ xs)) t
    (append_both (file_name seg) (47 ∷ []) (folder_name folder ++ xs) ∙ append_both (file_name seg ++ 47 ∷ []) (folder_name folder) xs ∙ e) in
    let slash = after_slash mark (folder_name folder ++ xs) name.0 name.1 in
    after_folder mark folder xs slash.0 slash.1

pub head_bytes : (x : List ℕ) → list_all is_file_name_byte (file_name x ++ codes "%h") ≡ true
head_bytes x = list_all-append is_file_name_byte (file_name x) (codes "%h") ∙ and_from _ _ (bytes_ok x) refl

pub head_not_body : (a b : List (List ℕ)) (x y : List ℕ) → AllByRecursion AreBytes a → AllByRecursion AreBytes b → head_name a x ≢ body_name b y
head_not_body a b x y small_a small_b e =
    no_ending 104 y (file_name x) (sym (same_place a b (file_name x ++ codes "%h") (file_name y) small_a small_b (head_bytes x) (bytes_ok y)
    (append_both (folder_name a) (file_name x) (codes "%h") ∙ e)).1)

-- a page's file doesn't begin with a dot, and neither do its names
pub no_dot : (y more rest : List ℕ) → is_file y ≡ true → file_name y ++ more ≡ 46 ∷ rest → ⊥
unfolding file_name
no_dot [] more rest file e = true≢false (sym file)
no_dot (c ∷ y) more rest file e =
    let dot : c ≡ 46 = (first_byte c (is_plain_name_byte c) (file_name y ++ more) rest (append_both (file_byte c) (file_name y) more ∙ e)).0 in
    true≢false (sym (ap (λ b. nat_eq b 46) dot) ∙ file_first (c ∷ y) file)

pub dot_not_body : (a b : List (List ℕ)) (rest y : List ℕ) → AllByRecursion AreBytes a → AllByRecursion AreBytes b → list_all is_file_name_byte (46 ∷ rest) ≡ true → is_file y ≡ true
    → folder_name a ++ 46 ∷ rest ≢ body_name b y
dot_not_body a b rest y small_a small_b ok file e =
    no_dot y [] rest file (append-nil (file_name y) ∙ sym (same_place a b (46 ∷ rest) (file_name y) small_a small_b ok (bytes_ok y) e).1)

pub dot_not_head : (a b : List (List ℕ)) (rest y : List ℕ) → AllByRecursion AreBytes a → AllByRecursion AreBytes b → list_all is_file_name_byte (46 ∷ rest) ≡ true → is_file y ≡ true
    → folder_name a ++ 46 ∷ rest ≢ head_name b y
dot_not_head a b rest y small_a small_b ok file e =
    no_dot y (codes "%h") rest file (sym (same_place a b (46 ∷ rest) (file_name y ++ codes "%h") small_a small_b ok (head_bytes y)
    (e ∙ sym (append_both (folder_name b) (file_name y) (codes "%h")))).1)

pub epoch_not_stat : (a : List (List ℕ)) → AllByRecursion AreBytes a → stat_name a ≢ epoch_name
epoch_not_stat a small e =
    let last : codes ".stat" ≡ codes ".epoch" = (same_place (mangled_segs a) [] (codes ".stat") (codes ".epoch") (all_mangled a small) tt refl refl e).1 in
    let letter : 115 ≡ 101 = ap (λ l. get_or l 1 0) last in
    omega (arith, letter)
