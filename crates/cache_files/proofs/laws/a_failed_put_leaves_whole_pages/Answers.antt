use Rattle.std.proofs.Common.{inl, inr, refl, sym}
use Rattle.sp_outside.specs.Files.{Files}
use Rattle.cache_files.specs.Changes.{IsOldNoneOrNew, KeepsFiles}
use Rattle.cache_files.specs.Pages.{files_with_page}
use Rattle.cache_files.proofs.PageFiles.{FileLaws, NameLaws, bare_keeps, half_keeps, others_kept, put_keeps, same_kept, stamps_kept}
use Rattle.cache_files.proofs.StoppedChanges.{put_left}
use Rattle.cache_files.proofs.laws.a_failed_put_leaves_whole_pages.Goals as goal

pub returns-clause-page : goal.returns-clause-page
returns-clause-page c = λ files new key stamp answer left.
    let after = files_with_page files key stamp answer in
    let P : Files → Type 0 = λ f. IsOldNoneOrNew files f key stamp answer in
    put_left P files new key stamp answer (inl (same_kept files files key refl))
    (inr (inl (c.a_stopped_put_leaves_no_page.ensures.headless files key)))
    (inr (inl (c.a_stopped_put_leaves_no_page.ensures.written files key answer.body))) (inr (inr (same_kept after after key refl))) left

pub returns-clause-others : goal.returns-clause-others
returns-clause-others c = λ files new key stamp answer page left.
    let named = c.files_have_names.ensures in
    let laws : FileLaws = record { written = named.written; beside = named.beside; removed = named.removed; left = named.left } in
    let apart = c.names_are_apart.ensures in
    let names : NameLaws key = record {
      bodies = λ other also e. apart.bodies other key also page e;
      heads = λ other also e. apart.heads other key also page e;
      head = λ other also. apart.head other key also page;
      body = λ other also e. apart.head key other page also (sym e);
      stat_body = λ folder bytes. apart.stat_body folder key bytes page;
      stat_head = λ folder bytes. apart.stat_head folder key bytes page;
      epoch_body = apart.epoch_body key page;
      epoch_head = apart.epoch_head key page;
    } in
    others_kept files new key names
    (put_left (λ f. KeepsFiles files f key) files new key stamp answer (λ name no_head no_body. refl) (bare_keeps laws files key) (half_keeps laws files key answer.body)
    (put_keeps laws files key stamp answer) left)

pub returns-clause-stamps : goal.returns-clause-stamps
returns-clause-stamps c = λ files new key stamp answer page left.
    let named = c.files_have_names.ensures in
    let laws : FileLaws = record { written = named.written; beside = named.beside; removed = named.removed; left = named.left } in
    let apart = c.names_are_apart.ensures in
    let names : NameLaws key = record {
      bodies = λ other also e. apart.bodies other key also page e;
      heads = λ other also e. apart.heads other key also page e;
      head = λ other also. apart.head other key also page;
      body = λ other also e. apart.head key other page also (sym e);
      stat_body = λ folder bytes. apart.stat_body folder key bytes page;
      stat_head = λ folder bytes. apart.stat_head folder key bytes page;
      epoch_body = apart.epoch_body key page;
      epoch_head = apart.epoch_head key page;
    } in
    stamps_kept files new key names
    (put_left (λ f. KeepsFiles files f key) files new key stamp answer (λ name no_head no_body. refl) (bare_keeps laws files key) (half_keeps laws files key answer.body)
    (put_keeps laws files key stamp answer) left)

pub returns-clause-files : goal.returns-clause-files
returns-clause-files c = λ files new key stamp answer left.
    let named = c.files_have_names.ensures in
    let laws : FileLaws = record { written = named.written; beside = named.beside; removed = named.removed; left = named.left } in
    put_left (λ f. KeepsFiles files f key) files new key stamp answer (λ name no_head no_body. refl) (bare_keeps laws files key) (half_keeps laws files key answer.body)
    (put_keeps laws files key stamp answer) left
