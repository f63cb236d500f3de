use Rattle.std.proofs.Common.{◌≡◌, ◌&&◌, ◌||◌, not, List, ℕ, Bool, ap}
use Rattle.sp_base.specs.Paths.{mangled_segs, unmangled_segs, is_under, parent_of}
use Rattle.cover_rules.specs.declared.page.PageKey.{PageKey}
use Rattle.cover_rules.specs.declared.invalidation.Action.{Action}
use Rattle.cover_rules.specs.Pages.{page_path}
use Rattle.cover_rules.specs.Coverage.{covers, is_handle, is_rendering, is_part_page, takes_below, stat_folder}
use Rattle.cover_rules.proofs.laws.the_spelling_of_a_handle.Goals as goal

same : (level : ℕ) (auto only : Bool) (action : Action) (handle other : List (List ℕ)) (key : PageKey) → mangled_segs handle ≡ mangled_segs other
    → covers level auto (record { action = action; handle = handle; only = only }) key ≡ covers level auto (record { action = action; handle = other; only = only }) key
same level auto only action handle other key e =
    ap (λ (h : List (List ℕ)). (is_handle h key || (is_rendering h key || (is_part_page h key || takes_below action && is_under (page_path key) h)))
    || (not only && (auto && is_under (parent_of h) (stat_folder level key)))) e

pub returns-clause-unmangled : goal.returns-clause-unmangled
returns-clause-unmangled c = λ level auto only action handle key. same level auto only action (unmangled_segs handle) handle key (c.mangling_and_unmangling.ensures.one handle)

pub returns-clause-mangled : goal.returns-clause-mangled
returns-clause-mangled c = λ level auto only action handle key. same level auto only action (mangled_segs handle) handle key (c.mangling_and_unmangling.ensures.again handle)
