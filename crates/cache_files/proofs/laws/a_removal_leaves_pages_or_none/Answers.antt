use Rattle.std.proofs.Common.{◌∙◌, inl, inr, ⊎_elim, sym, ap}
use Rattle.sp_base.proofs.TextLemmas.{one_text_or_two}
use Rattle.sp_outside.specs.Files.{file_at, without_file}
use Rattle.cache_files.specs.Pages.{page_body_name, page_head_name}
use Rattle.cache_files.proofs.PageFiles.{head_from, headless, kept, no_page_without_body}
use Rattle.cache_files.proofs.laws.a_removal_leaves_pages_or_none.Goals as goal

pub returns-clause-page : goal.returns-clause-page
returns-clause-page c = λ files key name.
    let named = c.files_have_names.ensures in
    let head = page_head_name key in
    let body = page_body_name key in
    let new = without_file files name in
    ⊎_elim (λ is. inr (headless new key (ap (λ n. file_at new n) is ∙ named.removed files name)).page)
    (λ no_head. ⊎_elim (λ is. inr (no_page_without_body new key (ap (λ n. file_at new n) is ∙ named.removed files name)))
    (λ no_body. inl (kept files new key (named.left files name head no_head) (named.left files name body no_body)).page) (one_text_or_two body name)) (one_text_or_two head name)

pub returns-clause-head : goal.returns-clause-head
returns-clause-head c = λ files key name.
    let named = c.files_have_names.ensures in
    let head = page_head_name key in
    let new = without_file files name in
    ⊎_elim (λ is. inr (headless new key (ap (λ n. file_at new n) is ∙ named.removed files name)).head)
    (λ differ. inl (ap head_from (named.left files name head differ))) (one_text_or_two head name)

pub returns-clause-beside : goal.returns-clause-beside
returns-clause-beside c = λ files key name no_head no_body.
    let named = c.files_have_names.ensures in
    kept files (without_file files name) key (named.left files name (page_head_name key) (λ e. no_head (sym e))) (named.left files name (page_body_name key) (λ e. no_body (sym e)))

pub returns-clause-headless : goal.returns-clause-headless
returns-clause-headless c = c.a_stopped_put_leaves_no_page.ensures.headless

pub returns-clause-bodiless : goal.returns-clause-bodiless
returns-clause-bodiless c = λ files key. no_page_without_body (without_file files (page_body_name key)) key (c.files_have_names.ensures.removed files (page_body_name key))

pub returns-clause-its_head : goal.returns-clause-its_head
returns-clause-its_head c = λ files key name differ. ap head_from (c.files_have_names.ensures.left files name (page_head_name key) (λ e. differ (sym e)))
