use Rattle.std.proofs.Common.{length, sym}
use Rattle.sp_outside.specs.Files.{with_file}
use Rattle.docroot_format.specs.Names.{stat_name}
use Rattle.docroot_format.specs.Texts.{stat_text}
use Rattle.cache_files.specs.HeldStamps.{HasNoLaterStamp}
use Rattle.cache_files.proofs.HeldLemmas.{bare_state, drop_states, put_states, stat_file}
use Rattle.cache_files.proofs.PageFiles.{FileLaws, NameLaws}
use Rattle.cache_files.proofs.StoppedChanges.{drop_left, put_left}
use Rattle.cache_files.proofs.epoch_laws.no_stamp_is_later_than_the_session.Goals as goal

pub returns-clause-put : goal.returns-clause-put
returns-clause-put c = λ files key stamp answer session before.
    let page = session.page in
    let put = session.put in
    let small = session.session in
    let named = c.files_have_names.ensures in
    let laws : FileLaws = record { written = named.written; beside = named.beside; removed = named.removed; left = named.left } in
    let apart = c.names_are_apart.ensures in
    let names : NameLaws key = record {
      bodies = λ other also e. apart.bodies other key also page e;
      heads = λ other also e. apart.heads other key also page e;
      head = λ other also. apart.head other key also page;
      body = λ other also e. apart.head key other page also (sym e);
      stat_body = λ folder bytes. apart.stat_body folder key bytes page;
      stat_head = λ folder bytes. apart.stat_head folder key bytes page;
      epoch_body = apart.epoch_body key page;
      epoch_head = apart.epoch_head key page;
    } in
    (put_states laws files key stamp answer _ names
    (c.texts_are_read_back.ensures.head stamp (length answer.body) answer.kind put.epoch put.count put.size put.storable.kind) small before).whole

pub returns-clause-dropped : goal.returns-clause-dropped
returns-clause-dropped c = λ files key page before.
    let named = c.files_have_names.ensures in
    let laws : FileLaws = record { written = named.written; beside = named.beside; removed = named.removed; left = named.left } in
    let apart = c.names_are_apart.ensures in
    let names : NameLaws key = record {
      bodies = λ other also e. apart.bodies other key also page e;
      heads = λ other also e. apart.heads other key also page e;
      head = λ other also. apart.head other key also page;
      body = λ other also e. apart.head key other page also (sym e);
      stat_body = λ folder bytes. apart.stat_body folder key bytes page;
      stat_head = λ folder bytes. apart.stat_head folder key bytes page;
      epoch_body = apart.epoch_body key page;
      epoch_head = apart.epoch_head key page;
    } in
    (drop_states laws files key names before).1

pub returns-clause-touched : goal.returns-clause-touched
returns-clause-touched c = λ files folder stamp session before.
    let bytes = session.bytes in
    let name = stat_name folder in
    let text = stat_text stamp in
    let apart = c.names_are_apart.ensures in
    stat_file files (with_file files name text) name text stamp (λ other. c.files_have_names.ensures.beside files name other text)
    (c.files_have_names.ensures.written files name text) (c.texts_are_read_back.ensures.stat stamp session.epoch session.count) session.session
    (λ key page e. apart.stat_head folder key bytes page (sym e)) (λ e. apart.epoch_stat folder bytes (sym e)) before

pub returns-clause-removed : goal.returns-clause-removed
returns-clause-removed c = λ files name differ before.
    let named = c.files_have_names.ensures in
    let laws : FileLaws = record { written = named.written; beside = named.beside; removed = named.removed; left = named.left } in
    bare_state laws files name (λ e. differ (sym e)) before

pub returns-clause-put_failed : goal.returns-clause-put_failed
returns-clause-put_failed c = λ files new key stamp answer session left before.
    let page = session.page in
    let put = session.put in
    let small = session.session in
    let named = c.files_have_names.ensures in
    let laws : FileLaws = record { written = named.written; beside = named.beside; removed = named.removed; left = named.left } in
    let apart = c.names_are_apart.ensures in
    let names : NameLaws key = record {
      bodies = λ other also e. apart.bodies other key also page e;
      heads = λ other also e. apart.heads other key also page e;
      head = λ other also. apart.head other key also page;
      body = λ other also e. apart.head key other page also (sym e);
      stat_body = λ folder bytes. apart.stat_body folder key bytes page;
      stat_head = λ folder bytes. apart.stat_head folder key bytes page;
      epoch_body = apart.epoch_body key page;
      epoch_head = apart.epoch_head key page;
    } in
    let states = put_states laws files key stamp answer _ names
    (c.texts_are_read_back.ensures.head stamp (length answer.body) answer.kind put.epoch put.count put.size put.storable.kind) small before in
    put_left HasNoLaterStamp files new key stamp answer before states.bare states.half states.whole left

pub returns-clause-drop_failed : goal.returns-clause-drop_failed
returns-clause-drop_failed c = λ files new key page left before.
    let named = c.files_have_names.ensures in
    let laws : FileLaws = record { written = named.written; beside = named.beside; removed = named.removed; left = named.left } in
    let apart = c.names_are_apart.ensures in
    let names : NameLaws key = record {
      bodies = λ other also e. apart.bodies other key also page e;
      heads = λ other also e. apart.heads other key also page e;
      head = λ other also. apart.head other key also page;
      body = λ other also e. apart.head key other page also (sym e);
      stat_body = λ folder bytes. apart.stat_body folder key bytes page;
      stat_head = λ folder bytes. apart.stat_head folder key bytes page;
      epoch_body = apart.epoch_body key page;
      epoch_head = apart.epoch_head key page;
    } in
    let states = drop_states laws files key names before in
    drop_left HasNoLaterStamp files new key before states.0 states.1 left
