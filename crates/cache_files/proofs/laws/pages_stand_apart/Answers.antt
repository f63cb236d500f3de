use Rattle.std.proofs.Common.{sym, ap}
use Rattle.std.specs.Prelude.{option_and_then, unwrap_or}
use Rattle.sp_outside.specs.Files.{with_file}
use Rattle.docroot_format.specs.Names.{epoch_name, stat_name}
use Rattle.docroot_format.specs.Readings.{epoch_of}
use Rattle.cache_files.specs.Pages.{files_with_page, files_without_page, page_body_name, page_head_name}
use Rattle.cache_files.proofs.PageFiles.{FileLaws, NameLaws, drop_keeps, kept, put_keeps, stamps_kept}
use Rattle.cache_files.proofs.laws.pages_stand_apart.Goals as goal

pub returns-clause-put : goal.returns-clause-put
returns-clause-put c = λ files key stamp answer page.
    let named = c.files_have_names.ensures in
    let laws : FileLaws = record { written = named.written; beside = named.beside; removed = named.removed; left = named.left } in
    let apart = c.names_are_apart.ensures in
    let names : NameLaws key = record {
      bodies = λ other also e. apart.bodies other key also page e;
      heads = λ other also e. apart.heads other key also page e;
      head = λ other also. apart.head other key also page;
      body = λ other also e. apart.head key other page also (sym e);
      stat_body = λ folder bytes. apart.stat_body folder key bytes page;
      stat_head = λ folder bytes. apart.stat_head folder key bytes page;
      epoch_body = apart.epoch_body key page;
      epoch_head = apart.epoch_head key page;
    } in
    stamps_kept files (files_with_page files key stamp answer) key names (put_keeps laws files key stamp answer)

pub returns-clause-dropped : goal.returns-clause-dropped
returns-clause-dropped c = λ files key page.
    let named = c.files_have_names.ensures in
    let laws : FileLaws = record { written = named.written; beside = named.beside; removed = named.removed; left = named.left } in
    let apart = c.names_are_apart.ensures in
    let names : NameLaws key = record {
      bodies = λ other also e. apart.bodies other key also page e;
      heads = λ other also e. apart.heads other key also page e;
      head = λ other also. apart.head other key also page;
      body = λ other also e. apart.head key other page also (sym e);
      stat_body = λ folder bytes. apart.stat_body folder key bytes page;
      stat_head = λ folder bytes. apart.stat_head folder key bytes page;
      epoch_body = apart.epoch_body key page;
      epoch_head = apart.epoch_head key page;
    } in
    stamps_kept files (files_without_page files key) key names (drop_keeps laws files key)

pub returns-clause-touched : goal.returns-clause-touched
returns-clause-touched c = λ files folder bytes texts key page.
    let named = c.files_have_names.ensures in
    let apart = c.names_are_apart.ensures in
    let name = stat_name folder in
    kept files (with_file files name bytes) key (named.beside files name (page_head_name key) bytes (λ e. apart.stat_head folder key texts page (sym e)))
    (named.beside files name (page_body_name key) bytes (λ e. apart.stat_body folder key texts page (sym e)))

pub returns-clause-numbered : goal.returns-clause-numbered
returns-clause-numbered c = λ files bytes key page.
    let named = c.files_have_names.ensures in
    let apart = c.names_are_apart.ensures in
    kept files (with_file files epoch_name bytes) key (named.beside files epoch_name (page_head_name key) bytes (λ e. apart.epoch_head key page (sym e)))
    (named.beside files epoch_name (page_body_name key) bytes (λ e. apart.epoch_body key page (sym e)))

pub returns-clause-epoch : goal.returns-clause-epoch
returns-clause-epoch c = λ files folder bytes texts.
    ap (λ found. unwrap_or (option_and_then epoch_of found) 0)
    (c.files_have_names.ensures.beside files (stat_name folder) epoch_name bytes (λ e. c.names_are_apart.ensures.epoch_stat folder texts (sym e)))

pub returns-clause-removed : goal.returns-clause-removed
returns-clause-removed c = λ files name differ.
    ap (λ found. unwrap_or (option_and_then epoch_of found) 0) (c.files_have_names.ensures.left files name epoch_name (λ e. differ (sym e)))
