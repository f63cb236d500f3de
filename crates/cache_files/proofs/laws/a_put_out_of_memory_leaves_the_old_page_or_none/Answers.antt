use Rattle.std.proofs.Common.{inl, inr, refl}
use Rattle.sp_outside.specs.Files.{Files}
use Rattle.cache_files.specs.Changes.{IsOldOrNone}
use Rattle.cache_files.proofs.PageFiles.{same_kept}
use Rattle.cache_files.proofs.StoppedChanges.{put_left_dry}
use Rattle.cache_files.proofs.laws.a_put_out_of_memory_leaves_the_old_page_or_none.Goals as goal

pub returns : goal.returns
returns c = λ files new key stamp answer left.
    let P : Files → Type 0 = λ f. IsOldOrNone files f key in
    put_left_dry P files new key stamp answer (inl (same_kept files files key refl))
    (inr (c.a_stopped_put_leaves_no_page.ensures.headless files key))
    (inr (c.a_stopped_put_leaves_no_page.ensures.written files key answer.body)) left
