-- How many names of those that are counted a file adds that is written, or takes that goes.
use Rattle.std.proofs.Common.{◌≡◌, ◌≤◌, ◌<◌, ◌+◌, ℕ, Bool, true, false, cond, not, List, [], ◌∷◌, Option, Some, None, length, map, is_some, refl, sym, ◌∙◌, ap, subst, arith}
use Rattle.std.specs.Prelude.{IfSome, option_and_then, unwrap_or}
use Rattle.std.specs.Cmp.{eq_by_cmp_equiv}
use Rattle.std.specs.Cmp.Lexicographic.{nat_list_cmp_total}
use Rattle.std.specs.FinMap.{contains_key, entries, entries-from_sorted, entries-insert, entries_sorted, from_sorted, get-entries, get-from_sorted, get-remove, len, len-entries, len-insert, same_map}
use Rattle.std.specs.FinMap.Entries.{by_order, find-where_key, is_sorted-where_key, put, where_key}
use Rattle.std.specs.List.{filter}
use Rattle.std.specs.Ordering.{eq_by_cmp}
use Rattle.std.specs.declared.cmp.Ordering.TheVariants.{Less, Equal, Greater}
use Rattle.std.proofs.lemmas.List.{length-map}
use Rattle.std.proofs.lemmas.List.Filters.{length-filter_both}
use Rattle.sp_base.specs.Names.{by_name}
use Rattle.sp_base.specs.Texts.{Text}
use Rattle.sp_base.specs.declared.answer.Answer.{Answer}
use Rattle.sp_base.proofs.BoolLemmas.{cond_not}
use Rattle.sp_outside.specs.Calls.{Call}
use Rattle.sp_outside.specs.Files.{Files, file_at, with_file, without_file}
use Rattle.sp_outside.proofs.HeldNames.{same_name}
use Rattle.cover_rules.specs.declared.page.PageKey.{PageKey}
use Rattle.cover_rules.specs.declared.stamp.Stamp.{Stamp}
use Rattle.docroot_format.specs.Names.{epoch_name}
use Rattle.docroot_format.specs.Readings.{epoch_of}
use Rattle.docroot_format.specs.declared.fault.FileFault.{FileFault}
use Rattle.cache_files.specs.Epochs.{epoch_held}
use Rattle.cache_files.specs.Pages.{IsDropLeft, IsPutLeft, page_body_name, page_head_name, page_head_text}
use Rattle.docroot_changes.specs.Changes.{AddsNames, count_names}
use Rattle.docroot_changes.proofs.ToldFiles.{drop_keeps, put_keeps}

abbrev Entries : Type 0
Entries = List (Text × List ℕ)

abbrev names_of : Entries → List Text
names_of es = map (λ e. e.0) es

-- how many names of a list are counted
abbrev count : (Text → Bool) → List Text → ℕ
count test names = length (filter test names)

-- ---- one more element, and one less

one : (b : Bool) (names : List Text) (name : Text) → length (cond b (name ∷ names) names) ≤ length names + 1
one true names name = omega arith
one false names name = omega arith

none : (b : Bool) (names : List Text) (name : Text) → length names ≤ length (cond b (name ∷ names) names)
none true names name = omega arith
none false names name = omega arith

both_more : (b : Bool) (xs ys : List Text) (name : Text) (n : ℕ) → length xs ≤ length ys + n → length (cond b (name ∷ xs) xs) ≤ length (cond b (name ∷ ys) ys) + n
both_more true xs ys name n h = omega (arith, h)
both_more false xs ys name n h = h

-- ---- a file that is written, and one that goes

count_put : (test : Text → Bool) (name bytes : Text) (es : Entries) → count test (names_of (put by_name name bytes es)) ≤ count test (names_of es) + 1
count_put test name bytes [] = one (test name) [] name
count_put test name bytes (e ∷ es) =
    elim (by_name name e.0) as (λ o. count test (names_of (by_order o ((name, bytes) ∷ e ∷ es) ((e.0, bytes) ∷ es) (e ∷ put by_name name bytes es))) ≤ count test (names_of (e ∷ es)) + 1) [
      | Less ↦ one (test name) (filter test (names_of (e ∷ es))) name
      | Equal ↦ omega arith
      | Greater ↦ both_more (test e.0) (filter test (names_of (put by_name name bytes es))) (filter test (names_of es)) e.0 1 (count_put test name bytes es)
    ]

kept_put : (test : Text → Bool) (name bytes : Text) (es : Entries) → count test (names_of es) ≤ count test (names_of (put by_name name bytes es)) + 0
kept_put test name bytes [] = omega arith
kept_put test name bytes (e ∷ es) =
    elim (by_name name e.0) as (λ o. count test (names_of (e ∷ es)) ≤ count test (names_of (by_order o ((name, bytes) ∷ e ∷ es) ((e.0, bytes) ∷ es) (e ∷ put by_name name bytes es))) + 0) [
      | Less ↦ (let h = none (test name) (filter test (names_of (e ∷ es))) name in omega (arith, h))
      | Equal ↦ omega arith
      | Greater ↦ both_more (test e.0) (filter test (names_of es)) (filter test (names_of (put by_name name bytes es))) e.0 0 (kept_put test name bytes es)
    ]

count_where : (test kept : Text → Bool) (es : Entries) → count test (names_of (where_key by_name kept es)) ≤ count test (names_of es) + 0
count_where test kept [] = omega arith
count_where test kept (e ∷ es) =
    elim (kept e.0) as (λ b. count test (names_of (cond b (e ∷ where_key by_name kept es) (where_key by_name kept es))) ≤ count test (names_of (e ∷ es)) + 0) [
      | true ↦ both_more (test e.0) (filter test (names_of (where_key by_name kept es))) (filter test (names_of es)) e.0 0 (count_where test kept es)
      | false ↦ (let h = count_where test kept es in let k = none (test e.0) (filter test (names_of es)) e.0 in omega (arith, h, k))
    ]

pub one_file : (files : Files) (name bytes : Text) → AddsNames 1 files (with_file files name bytes)
one_file files name bytes = λ test. subst (λ es. count test (names_of es) ≤ count_names test files + 1) (sym (entries-insert nat_list_cmp_total files name bytes)) (count_put test name bytes (entries files))

-- the files whose name isn't this one
abbrev is_other : Text → Text → Bool
is_other name other = not (eq_by_cmp by_name name other)

others_left : (files : Files) (name : Text) → entries (without_file files name) ≡ where_key by_name (is_other name) (entries files)
others_left files name =
    let left = where_key by_name (is_other name) (entries files) in
    let sorted = is_sorted-where_key by_name (is_other name) (entries files) (entries_sorted files) in
    ap entries (same_map nat_list_cmp_total same_name (without_file files name) (from_sorted left) (λ q.
    get-remove nat_list_cmp_total files name q
    ∙ ap (λ b. cond b None (file_at files q)) ((eq_by_cmp_equiv nat_list_cmp_total).symm q name)
    ∙ sym (cond_not (eq_by_cmp by_name name q) (file_at files q) None)
    ∙ ap (λ found. cond (is_other name q) found None) (get-entries files q)
    ∙ sym (find-where_key by_name (is_other name) q (λ x tied. ap (is_other name) (sym (same_name q x tied))) (entries files))
    ∙ sym (get-from_sorted by_name left q sorted)))
    ∙ entries-from_sorted by_name left sorted

pub no_file : (files : Files) (name : Text) → AddsNames 0 files (without_file files name)
no_file files name = λ test. subst (λ es. count test (names_of es) ≤ count_names test files + 0) (sym (others_left files name)) (count_where test (is_other name) (entries files))

-- a file that is written takes no name away
pub kept_file : (files : Files) (name bytes : Text) (test : Text → Bool) → count_names test files ≤ count_names test (with_file files name bytes) + 0
kept_file files name bytes test = subst (λ es. count_names test files ≤ count test (names_of es) + 0) (sym (entries-insert nat_list_cmp_total files name bytes)) (kept_put test name bytes (entries files))

pub same_files : (files : Files) (most : ℕ) → AddsNames most files files
same_files files most = λ test. omega arith

-- ---- a file that is written anew

if_there : (b : Bool) (n : ℕ) → b ≡ true → cond b n (n + 1) ≡ n
if_there true n e = refl
if_there false n e = absurd (cc (e))

-- as many names as before, of which no fewer are beside those that are counted
pub no_new_file : (files : Files) (name bytes : Text) → is_some (file_at files name) ≡ true → AddsNames 0 files (with_file files name bytes)
no_new_file files name bytes there = λ test.
    let old = names_of (entries files) in
    let new = names_of (put by_name name bytes (entries files)) in
    let other = λ (x : Text). not (test x) in
    let kept = kept_put other name bytes (entries files) in
    let olds = length-filter_both test other (λ x. refl) old in
    let news = length-filter_both test other (λ x. refl) new in
    let same : length new ≡ length old =
    length-map (put by_name name bytes (entries files)) (λ e. e.0) ∙ sym (ap length (entries-insert nat_list_cmp_total files name bytes)) ∙ sym (len-entries (with_file files name bytes))
    ∙ len-insert nat_list_cmp_total files name bytes ∙ if_there (contains_key files name) (len files) there ∙ len-entries files ∙ sym (length-map (entries files) (λ e. e.0)) in
    subst (λ es. count test (names_of es) ≤ count_names test files + 0) (sym (entries-insert nat_list_cmp_total files name bytes)) (omega (arith, kept, olds, news, same))

has_number : (found : Option (List ℕ)) → 0 < unwrap_or (option_and_then epoch_of found) 0 → is_some found ≡ true
has_number None h = absurd (omega (arith, h))
has_number (Some bytes) h = refl

pub number_again : (files : Files) (bytes : Text) → 0 < epoch_held files → AddsNames 0 files (with_file files epoch_name bytes)
number_again files bytes held = no_new_file files epoch_name bytes (has_number (file_at files epoch_name) held)

-- ---- pages

pub more_names : (m n : ℕ) (old mid new : Files) → AddsNames m old mid → AddsNames n mid new → AddsNames (m + n) old new
more_names m n old mid new first then = λ test. (let a = first test in let b = then test in omega (arith, a, b))

at_most_two : (n : ℕ) (old new : Files) → n ≤ 2 → AddsNames n old new → AddsNames 2 old new
at_most_two n old new few adds = λ test. (let a = adds test in omega (arith, a, few))

pub put_names : (asked made : Option (List Call)) (old new : Files) (key : PageKey) (stamp : Stamp) (answer : Answer) (fault : FileFault) → IsPutLeft asked made (Some old) (Some new) key stamp answer fault → AddsNames 2 old new
put_names asked made old new key stamp answer fault left =
    let head = page_head_name key in
    let body = page_body_name key in
    let bare = without_file old head in
    let half = with_file bare body answer.body in
    let whole = with_file half head (page_head_text stamp answer) in
    let headless : AddsNames 0 old bare = no_file old head in
    let with_body : AddsNames 1 old half = more_names 0 1 old bare half headless (one_file bare body answer.body) in
    let with_page : AddsNames 2 old whole = more_names 1 1 old half whole with_body (one_file half head (page_head_text stamp answer)) in
    put_keeps (λ told. IfSome told (AddsNames 2 old)) asked made (Some old) (Some new) key stamp answer fault (same_files old 2)
    (at_most_two 0 old bare (omega arith) headless) (at_most_two 1 old half (omega arith) with_body) with_page left

pub drop_names : (asked made : Option (List Call)) (old new : Files) (key : PageKey) (fault : FileFault) → IsDropLeft asked made (Some old) (Some new) key fault → AddsNames 0 old new
drop_names asked made old new key fault left =
    let head = page_head_name key in
    let body = page_body_name key in
    let bare = without_file old head in
    drop_keeps (λ told. IfSome told (AddsNames 0 old)) asked made (Some old) (Some new) key fault (same_files old 0) (no_file old head)
    (more_names 0 0 old bare (without_file bare body) (no_file old head) (no_file bare body)) left
