use Rattle.std.proofs.Common.{◌∙◌, sym}
use Rattle.sp_outside.specs.Files.{without_file}
use Rattle.cache_files.specs.Pages.{files_with_page, files_without_page, page_body_name, page_head_name}
use Rattle.cache_files.proofs.PageFiles.{FileLaws, NameLaws, drop_keeps, head_apart, headless, others_kept, put_keeps}
use Rattle.cache_files.proofs.laws.pages_have_files_of_their_own.Goals as goal

pub returns-clause-put : goal.returns-clause-put
returns-clause-put c = λ files key stamp answer page.
    let named = c.files_have_names.ensures in
    let laws : FileLaws = record { written = named.written; beside = named.beside; removed = named.removed; left = named.left } in
    let apart = c.names_are_apart.ensures in
    let names : NameLaws key = record {
      bodies = λ other also e. apart.bodies other key also page e;
      heads = λ other also e. apart.heads other key also page e;
      head = λ other also. apart.head other key also page;
      body = λ other also e. apart.head key other page also (sym e);
      stat_body = λ folder bytes. apart.stat_body folder key bytes page;
      stat_head = λ folder bytes. apart.stat_head folder key bytes page;
      epoch_body = apart.epoch_body key page;
      epoch_head = apart.epoch_head key page;
    } in
    others_kept files (files_with_page files key stamp answer) key names (put_keeps laws files key stamp answer)

pub returns-clause-dropped : goal.returns-clause-dropped
returns-clause-dropped c = λ files key.
    let head = page_head_name key in
    let body = page_body_name key in
    let named = c.files_have_names.ensures in
    headless (files_without_page files key) key (named.left (without_file files head) body head (λ e. head_apart body (sym e)) ∙ named.removed files head)

pub returns-clause-beside : goal.returns-clause-beside
returns-clause-beside c = λ files key page.
    let named = c.files_have_names.ensures in
    let laws : FileLaws = record { written = named.written; beside = named.beside; removed = named.removed; left = named.left } in
    let apart = c.names_are_apart.ensures in
    let names : NameLaws key = record {
      bodies = λ other also e. apart.bodies other key also page e;
      heads = λ other also e. apart.heads other key also page e;
      head = λ other also. apart.head other key also page;
      body = λ other also e. apart.head key other page also (sym e);
      stat_body = λ folder bytes. apart.stat_body folder key bytes page;
      stat_head = λ folder bytes. apart.stat_head folder key bytes page;
      epoch_body = apart.epoch_body key page;
      epoch_head = apart.epoch_head key page;
    } in
    others_kept files (files_without_page files key) key names (drop_keeps laws files key)
