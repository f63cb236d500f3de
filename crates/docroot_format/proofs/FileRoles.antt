-- What a file is told by its name: a page file, a .stat file, or none that a disk writes beside another.
use Rattle.std.proofs.Common.{◌≡◌, ◌≢◌, ◌+◌, ◌-◌, ℕ, true, false, not, ◌&&◌, ◌++◌, List, [], ◌∷◌, IsTrue, Some, suc, length, get_or, map, nat_eq, codes, refl, sym, ◌∙◌, ap, arith}
use Rattle.std.specs.List.{list_all}
use Rattle.std.specs.Cmp.Lexicographic.{pointwise, bytes_decides}
use Rattle.std.proofs.lemmas.Bool.{and_from, false_from_ne_true, true≢false}
use Rattle.std.proofs.lemmas.Bool.Decides.{nat_tests}
use Rattle.std.proofs.lemmas.List.{append-nil, length-append}
use Rattle.std.proofs.Math.Seq.{get_or-append_seam}
use Rattle.sp_base.specs.Paths.{is_dots, is_empty, is_path, mangled_segs, name_of, pieces}
use Rattle.sp_base.proofs.BoolLemmas.{and_first, and_first_two, and_second}
use Rattle.cover_rules.specs.declared.page.PageKey.{PageKey}
use Rattle.cover_rules.specs.Names.{file_name}
use Rattle.cover_rules.specs.Pages.{page_key_of}
use Rattle.sp_outside.specs.FileNames.{beside_ending, has_segments}
use Rattle.docroot_format.specs.Names.{body_name, epoch_name, folder_name, head_name, is_file_name_byte, is_page_file, is_stat_file, stat_name}
use Rattle.docroot_format.proofs.NameLemmas.{append_both}
use Rattle.docroot_format.proofs.Inside.{body_inside, bytes_ok, head_inside, is_segment, is_whole, key_file, stat_inside}
use Rattle.docroot_format.proofs.Apart.{after_folder, after_segment, head_bytes, no_dot, no_ending, pieces_body}

-- ---- the last piece of a name

pub name_of_push : (xs : List (List ℕ)) (x : List ℕ) → name_of (xs ++ x ∷ []) ≡ x
name_of_push xs x =
    let place : length (xs ++ x ∷ []) - 1 ≡ length xs = omega (arith, length-append xs (x ∷ [])) in
    ap (λ n. get_or (xs ++ x ∷ []) n []) place
    ∙ get_or-append_seam xs x [] []

last_piece : (folder : List (List ℕ)) (last : List ℕ) → list_all is_file_name_byte last ≡ true → name_of (pieces (folder_name folder ++ last)) ≡ last
last_piece folder last ok = ap name_of (pieces_body folder last ok) ∙ name_of_push (map file_name folder) last

are_segments : (xs : List (List ℕ)) → list_all is_segment xs ≡ true → list_all (λ piece. not (is_empty piece) && not (is_dots piece)) xs ≡ true
are_segments [] ok = refl
are_segments (x ∷ xs) ok =
    and_from (not (is_empty x) && not (is_dots x)) (list_all (λ piece. not (is_empty piece) && not (is_dots piece)) xs)
    (and_first_two (not (is_empty x)) (not (is_dots x)) (list_all is_file_name_byte x) (and_first (is_segment x) (list_all is_segment xs) ok))
    (are_segments xs (and_second (is_segment x) (list_all is_segment xs) ok))

pub inside_segments : (name : List ℕ) → is_whole name ≡ true → has_segments name ≡ true
inside_segments name ok = are_segments (pieces name) ok

-- ---- pages, .stat files and the number of the session

dot : (b : ℕ) → nat_eq b 46 ≡ true → b ≡ 46
dot b e = grind (arith, nat_tests)

undotted : (xs : List ℕ) → ((rest : List ℕ) → xs ≡ 46 ∷ rest → ⊥) → not (nat_eq (get_or xs 0 0) 46) ≡ true
undotted [] none = refl
undotted (b ∷ xs) none = ap not (false_from_ne_true (nat_eq b 46) (λ e. none xs (ap (λ c. c ∷ xs) (dot b e))))

page_file : (folder : List (List ℕ)) (last : List ℕ) → list_all is_file_name_byte last ≡ true → ((rest : List ℕ) → last ≡ 46 ∷ rest → ⊥)
    → is_whole (folder_name folder ++ last) ≡ true → is_page_file (folder_name folder ++ last) ≡ true
page_file folder last ok none inside =
    and_from _ _ (inside_segments (folder_name folder ++ last) inside)
    (ap (λ piece. not (nat_eq (get_or piece 0 0) 46)) (last_piece folder last ok) ∙ undotted last none)

pub body_is_page_file : (path : List (List ℕ)) (key : PageKey) → IsTrue (is_path key.folder) → page_key_of path ≡ Some key → IsTrue (is_page_file (body_name key.folder key.file))
body_is_page_file path key folder own =
    page_file key.folder (file_name key.file) (bytes_ok key.file)
    (λ rest e. no_dot key.file [] rest (key_file path key own) (append-nil (file_name key.file) ∙ e))
    (body_inside path key folder own)

pub head_is_page_file : (path : List (List ℕ)) (key : PageKey) → IsTrue (is_path key.folder) → page_key_of path ≡ Some key → IsTrue (is_page_file (head_name key.folder key.file))
head_is_page_file path key folder own =
    let parts = append_both (folder_name key.folder) (file_name key.file) (codes "%h") in
    ap is_page_file (sym parts)
    ∙ page_file key.folder (file_name key.file ++ codes "%h") (head_bytes key.file)
    (λ rest e. no_dot key.file (codes "%h") rest (key_file path key own) e)
    (ap is_whole parts ∙ head_inside path key folder own)

pub stat_is_stat_file : (folder : List (List ℕ)) → IsTrue (is_path folder) → IsTrue (is_stat_file (stat_name folder))
stat_is_stat_file folder ok =
    and_from _ _ (inside_segments (stat_name folder) (stat_inside folder ok))
    (ap (λ piece. pointwise nat_eq piece (codes ".stat")) (last_piece (mangled_segs folder) (codes ".stat") refl))

pub page_no_stat : (name : List ℕ) → IsTrue (is_page_file name) → is_stat_file name ≡ false
page_no_stat name page = false_from_ne_true (is_stat_file name) (λ stat.
    let last = (bytes_decides (name_of (pieces name)) (codes ".stat")).0 (and_second _ _ stat) in
    true≢false (sym (and_second _ _ page) ∙ ap (λ piece. not (nat_eq (get_or piece 0 0) 46)) last))

-- ---- no name ends in `%t`

pub body_not_beside : (folder : List (List ℕ)) (file rest : List ℕ) → body_name folder file ≢ rest ++ beside_ending
body_not_beside folder file rest e =
    let last = after_folder 116 folder (file_name file) rest e in
    no_ending 116 file last.0 last.1

mark : (rest : List ℕ) → codes "%h" ≡ rest ++ beside_ending → ⊥
mark [] e =
    let letter : 104 ≡ 116 = ap (λ l. get_or l 1 0) e in
    omega (arith, letter)
mark (a ∷ rest) e =
    let long : 2 ≡ suc (length (rest ++ beside_ending)) = ap length e in
    let more : length (rest ++ beside_ending) ≡ length rest + 2 = length-append rest beside_ending in
    omega (arith, long, more)

pub head_not_beside : (folder : List (List ℕ)) (file rest : List ℕ) → head_name folder file ≢ rest ++ beside_ending
head_not_beside folder file rest e =
    let name = after_folder 116 folder (file_name file ++ codes "%h") rest (append_both (folder_name folder) (file_name file) (codes "%h") ∙ e) in
    let last = after_segment 116 file (codes "%h") name.0 name.1 in
    mark last.0 last.1

-- the byte before the last one of such a name
before_last : (rest : List ℕ) (n : ℕ) → length rest ≡ n → get_or (rest ++ beside_ending) n 0 ≡ 37
before_last rest n e = ap (λ k. get_or (rest ++ beside_ending) k 0) (sym e) ∙ get_or-append_seam rest 37 (116 ∷ []) 0

pub stat_not_beside : (folder : List (List ℕ)) (rest : List ℕ) → stat_name folder ≢ rest ++ beside_ending
stat_not_beside folder rest e =
    let last = after_folder 116 (mangled_segs folder) (codes ".stat") rest e in
    let long : 5 ≡ length (last.0 ++ beside_ending) = ap length last.1 in
    let letter : 97 ≡ 37 = ap (λ l. get_or l 3 0) last.1 ∙ before_last last.0 3 (omega (arith, long, length-append last.0 beside_ending)) in
    omega (arith, letter)

pub epoch_not_beside : (rest : List ℕ) → epoch_name ≢ rest ++ beside_ending
epoch_not_beside rest e =
    let long : 6 ≡ length (rest ++ beside_ending) = ap length e in
    let letter : 99 ≡ 37 = ap (λ l. get_or l 4 0) e ∙ before_last rest 4 (omega (arith, long, length-append rest beside_ending)) in
    omega (arith, letter)
