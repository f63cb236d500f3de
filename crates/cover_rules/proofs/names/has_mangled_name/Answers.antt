use Rattle.std.proofs.Common.{◌∙◌, ◌+◌, ◌<◌, length, nat_le, sym, ap, arith}
use Rattle.sp_base.specs.Paths.{mangled_seg}
use Rattle.cover_rules.specs.Names.{file_name}
use Rattle.cover_rules.proofs.NameLemmas.{name_parts, parts_lack}
use Rattle.cover_rules.proofs.names.has_mangled_name.Goals as goal
use Rattle.cover_rules.proofs.names.has_mangled_name.Goals.{then-mark-gt-LONGEST_PAGE_NAME-via-then-mark-gt-LONGEST_PAGE_NAME, then-mark-gt-LONGEST_PAGE_NAME-via-else-mark-gt-LONGEST_PAGE_NAME+then-rest-gt-LONGEST_PAGE_NAME}

pub returns-then-mark-gt-LONGEST_PAGE_NAME : goal.returns-then-mark-gt-LONGEST_PAGE_NAME
returns-then-mark-gt-LONGEST_PAGE_NAME c =
    let mark = c.mangled_parts.result.0.now in
    let rest = c.mangled_parts.result.1.now in
    let long : 200 < length mark + length rest =
    elim c.then-mark-gt-LONGEST_PAGE_NAME.branch [
      | then-mark-gt-LONGEST_PAGE_NAME-via-then-mark-gt-LONGEST_PAGE_NAME w ↦ omega arith
      | then-mark-gt-LONGEST_PAGE_NAME-via-else-mark-gt-LONGEST_PAGE_NAME+then-rest-gt-LONGEST_PAGE_NAME w ↦ omega arith
    ] in
    sym (parts_lack mark rest (mangled_seg c.args.seg.now) c.mangled_parts.ensures long)

pub returns : goal.returns
returns c =
    let mark = c.mangled_parts.result.0.now in
    let rest = c.mangled_parts.result.1.now in
    ap (λ n. nat_le (n + c.name_length-2.result) 200) c.name_length.ensures.length ∙ ap (λ n. nat_le (length (file_name mark) + n) 200) c.name_length-2.ensures.length
    ∙ ap (λ n. nat_le n 200) (name_parts mark rest (mangled_seg c.args.seg.now) c.mangled_parts.ensures)
