use Rattle.std.proofs.Common.{◌≡◌, [], codes, refl, ap, ◌∙◌}
use Rattle.sp_base.specs.Paths.{mangled_segs}
use Rattle.cover_rules.specs.declared.page.PageKey.{PageKey}
use Rattle.cover_rules.specs.Pages.{page_path}
use Rattle.docroot_format.proofs.Inside.{key_file}
use Rattle.docroot_format.proofs.Apart.{bodies, heads, stats, head_not_body, dot_not_body, dot_not_head, epoch_not_stat}
use Rattle.sp_base.proofs.PathBytes.{all_mangled}
use Rattle.docroot_format.proofs.laws.names_are_apart.Goals as goal

-- keys of equal folders and files are equal
one_key : (key other : PageKey) → (key.folder ≡ other.folder) × (key.file ≡ other.file) → key ≡ other
one_key key other e =
    let folders : key ≡ record { folder = other.folder; file = key.file } = ap (λ folder. let k : PageKey = record { folder = folder; file = key.file } in k) e.0 in
    folders ∙ ap (λ file. let k : PageKey = record { folder = other.folder; file = file } in k) e.1

pub returns-clause-bodies : goal.returns-clause-bodies
returns-clause-bodies c = λ key other page more e. one_key key other (bodies key.folder other.folder key.file other.file page.folder_bytes more.folder_bytes page.file_bytes more.file_bytes e)

pub returns-clause-heads : goal.returns-clause-heads
returns-clause-heads c = λ key other page more e. one_key key other (heads key.folder other.folder key.file other.file page.folder_bytes more.folder_bytes page.file_bytes more.file_bytes e)

pub returns-clause-stats : goal.returns-clause-stats
returns-clause-stats c = stats

pub returns-clause-head : goal.returns-clause-head
returns-clause-head c = λ key other page more. head_not_body key.folder other.folder key.file other.file page.folder_bytes more.folder_bytes

pub returns-clause-stat_body : goal.returns-clause-stat_body
returns-clause-stat_body c = λ folder key text page. dot_not_body (mangled_segs folder) key.folder (codes "stat") key.file (all_mangled folder text) page.folder_bytes refl (key_file (page_path key) key page.own)

pub returns-clause-stat_head : goal.returns-clause-stat_head
returns-clause-stat_head c = λ folder key text page. dot_not_head (mangled_segs folder) key.folder (codes "stat") key.file (all_mangled folder text) page.folder_bytes refl (key_file (page_path key) key page.own)

pub returns-clause-epoch_body : goal.returns-clause-epoch_body
returns-clause-epoch_body c = λ key page. dot_not_body [] key.folder (codes "epoch") key.file tt page.folder_bytes refl (key_file (page_path key) key page.own)

pub returns-clause-epoch_head : goal.returns-clause-epoch_head
returns-clause-epoch_head c = λ key page. dot_not_head [] key.folder (codes "epoch") key.file tt page.folder_bytes refl (key_file (page_path key) key page.own)

pub returns-clause-epoch_stat : goal.returns-clause-epoch_stat
returns-clause-epoch_stat c = epoch_not_stat
