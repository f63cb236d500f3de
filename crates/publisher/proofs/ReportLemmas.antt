-- The line that tells of a POST is short.
use Rattle.std.proofs.Common.{◌≡◌, ◌+◌, ◌*◌, ◌≤◌, ◌++◌, ◌∷◌, [], ℕ, Bool, true, false, List, length, refl, arith, length-append}
use Rattle.std.specs.Prelude.{codes, decimal, flat_map, nat_le, if◌then◌else◌}
use Rattle.std.specs.List.{list_all}
use Rattle.std.proofs.lemmas.Bool.{and_parts}
use Rattle.std.proofs.lemmas.Fmt.{length-decimal-le}
use Rattle.std.proofs.lemmas.Bool.Decides.{nat_tests}
use Rattle.sp_base.specs.Limits.{most_rendered_bytes}
use Rattle.sp_base.specs.Paths.{is_path, seg_ok, text_of}
use Rattle.url_split.proofs.StartLemmas.{short_segment}
use Rattle.post_apply.specs.declared.report.PostReport.{PostReport}
use Rattle.publisher.specs.Posting.{report_line, report_status}

spelling_short : (path : List (List ℕ)) → list_all seg_ok path ≡ true → length (flat_map (λ s. 47 ∷ s) path) ≤ length path * 201
spelling_short [] ok = omega arith
spelling_short (seg ∷ path) ok =
    let parts = and_parts (seg_ok seg) (list_all seg_ok path) ok in
    let first = short_segment seg parts.0 in
    let more = spelling_short path parts.1 in
    let size = length-append (47 ∷ seg) (flat_map (λ s. 47 ∷ s) path) in
    omega (arith, first, more, size)

text_short : (path : List (List ℕ)) → is_path path ≡ true → length (text_of path) ≤ 12864
text_short [] is = omega arith
text_short (seg ∷ path) is =
    let parts = and_parts (list_all seg_ok (seg ∷ path)) (nat_le (length (seg ∷ path)) 64) is in
    let few : length (seg ∷ path) ≤ 64 = grind (arith, nat_tests) in
    omega (arith, few, spelling_short (seg ∷ path) parts.0)

status_short : (created : Bool) → length (decimal (if created then 201 else 200)) ≤ 3
status_short true = length-decimal-le 3 201 (omega arith) (omega arith) (omega arith)
status_short false = length-decimal-le 3 200 (omega arith) (omega arith) (omega arith)

line_of : (status space text end : List ℕ) → length status ≤ 3 → length space ≡ 1 → length text ≤ 12864 → length end ≡ 1 → length (status ++ space ++ text ++ end) ≤ most_rendered_bytes
line_of status space text end few one short last =
    let first : length (status ++ space ++ text ++ end) ≡ length (status ++ space ++ text) + length end = length-append (status ++ space ++ text) end in
    let second : length (status ++ space ++ text) ≡ length (status ++ space) + length text = length-append (status ++ space) text in
    let third : length (status ++ space) ≡ length status + length space = length-append status space in
    omega (arith, few, one, short, last, first, second, third)

pub line_short : (report : PostReport) → is_path report.path ≡ true → length (report_line report) ≤ most_rendered_bytes
line_short report is = line_of (decimal (report_status report)) (codes " ") (text_of report.path) (10 ∷ []) (status_short report.created) refl (text_short report.path is) refl
