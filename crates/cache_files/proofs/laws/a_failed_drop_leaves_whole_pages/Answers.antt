use Rattle.std.proofs.Common.{◌∙◌, inl, inr, refl, sym}
use Rattle.sp_outside.specs.Files.{Files, without_file}
use Rattle.cache_files.specs.Changes.{IsOldOrNone, KeepsFiles}
use Rattle.cache_files.specs.Pages.{files_without_page, page_body_name, page_head_name}
use Rattle.cache_files.proofs.PageFiles.{FileLaws, NameLaws, bare_keeps, drop_keeps, head_apart, headless, others_kept, same_kept, stamps_kept}
use Rattle.cache_files.proofs.StoppedChanges.{drop_left}
use Rattle.cache_files.proofs.laws.a_failed_drop_leaves_whole_pages.Goals as goal

pub returns-clause-page : goal.returns-clause-page
returns-clause-page c = λ files new key left.
    let head = page_head_name key in
    let body = page_body_name key in
    let named = c.files_have_names.ensures in
    let P : Files → Type 0 = λ f. IsOldOrNone files f key in
    drop_left P files new key (inl (same_kept files files key refl))
    (inr (c.a_stopped_put_leaves_no_page.ensures.headless files key))
    (inr (headless (files_without_page files key) key (named.left (without_file files head) body head (λ e. head_apart body (sym e)) ∙ named.removed files head))) left

pub returns-clause-others : goal.returns-clause-others
returns-clause-others c = λ files new key page left.
    let named = c.files_have_names.ensures in
    let laws : FileLaws = record { written = named.written; beside = named.beside; removed = named.removed; left = named.left } in
    let apart = c.names_are_apart.ensures in
    let names : NameLaws key = record {
      bodies = λ other also e. apart.bodies other key also page e;
      heads = λ other also e. apart.heads other key also page e;
      head = λ other also. apart.head other key also page;
      body = λ other also e. apart.head key other page also (sym e);
      stat_body = λ folder bytes. apart.stat_body folder key bytes page;
      stat_head = λ folder bytes. apart.stat_head folder key bytes page;
      epoch_body = apart.epoch_body key page;
      epoch_head = apart.epoch_head key page;
    } in
    others_kept files new key names
    (drop_left (λ f. KeepsFiles files f key) files new key (λ name no_head no_body. refl) (bare_keeps laws files key) (drop_keeps laws files key) left)

pub returns-clause-stamps : goal.returns-clause-stamps
returns-clause-stamps c = λ files new key page left.
    let named = c.files_have_names.ensures in
    let laws : FileLaws = record { written = named.written; beside = named.beside; removed = named.removed; left = named.left } in
    let apart = c.names_are_apart.ensures in
    let names : NameLaws key = record {
      bodies = λ other also e. apart.bodies other key also page e;
      heads = λ other also e. apart.heads other key also page e;
      head = λ other also. apart.head other key also page;
      body = λ other also e. apart.head key other page also (sym e);
      stat_body = λ folder bytes. apart.stat_body folder key bytes page;
      stat_head = λ folder bytes. apart.stat_head folder key bytes page;
      epoch_body = apart.epoch_body key page;
      epoch_head = apart.epoch_head key page;
    } in
    stamps_kept files new key names
    (drop_left (λ f. KeepsFiles files f key) files new key (λ name no_head no_body. refl) (bare_keeps laws files key) (drop_keeps laws files key) left)

pub returns-clause-files : goal.returns-clause-files
returns-clause-files c = λ files new key left.
    let named = c.files_have_names.ensures in
    let laws : FileLaws = record { written = named.written; beside = named.beside; removed = named.removed; left = named.left } in
    drop_left (λ f. KeepsFiles files f key) files new key (λ name no_head no_body. refl) (bare_keeps laws files key) (drop_keeps laws files key) left
