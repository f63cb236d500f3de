use Rattle.std.proofs.Common.{◌∙◌, sym}
use Rattle.sp_outside.specs.Files.{with_file, without_file}
use Rattle.cache_files.specs.Pages.{page_body_name, page_head_name}
use Rattle.cache_files.proofs.PageFiles.{head_apart, headless}
use Rattle.cache_files.proofs.laws.a_stopped_put_leaves_no_page.Goals as goal

pub returns-clause-headless : goal.returns-clause-headless
returns-clause-headless c = λ files key. headless (without_file files (page_head_name key)) key (c.files_have_names.ensures.removed files (page_head_name key))

pub returns-clause-written : goal.returns-clause-written
returns-clause-written c = λ files key bytes.
    let head = page_head_name key in
    let body = page_body_name key in
    let named = c.files_have_names.ensures in
    headless (with_file (without_file files head) body bytes) key (named.beside (without_file files head) body head bytes (λ e. head_apart body (sym e)) ∙ named.removed files head)
