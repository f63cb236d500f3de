use Rattle.std.proofs.Common.{◌≡◌, ◌∙◌, ap, false, List, ℕ}
use Rattle.std.specs.List.{list_any}
use Rattle.sp_base.specs.Paths.{is_long, mangled_segs}
use Rattle.cover_rules.proofs.TouchLemmas.{first_named, first_fits}
use Rattle.cover_rules.proofs.touch.folder_above.Goals as goal

pub returns-in-Ok : goal.returns-in-Ok
returns-in-Ok c =
    let short : list_any is_long (mangled_segs c.in_ok-first.first) ≡ false = ap (λ (p : List (List ℕ)). list_any is_long (mangled_segs p)) c.in_ok-first.ensures ∙ first_fits c.args.path.now c.args.most c.folder_depth.result c.folder_depth.ensures in
    let whole = c.mangling_and_unmangling.ensures.fits c.in_ok-first.first c.depth-depth.ensures.valid short in
    let same : c.in-Ok.mangled ≡ mangled_segs c.in_ok-first.first = cc (whole, c.in-Ok.ensures.ok) in
    same ∙ ap mangled_segs c.in_ok-first.ensures ∙ first_named c.args.path.now c.args.most c.folder_depth.result c.folder_depth.ensures

pub unreachable-requires : goal.unreachable-requires
unreachable-requires c =
    let short : list_any is_long (mangled_segs c.in_ok-first.first) ≡ false = ap (λ (p : List (List ℕ)). list_any is_long (mangled_segs p)) c.in_ok-first.ensures ∙ first_fits c.args.path.now c.args.most c.folder_depth.result c.folder_depth.ensures in
    let whole = c.mangling_and_unmangling.ensures.fits c.in_ok-first.first c.depth-depth.ensures.valid short in
    let err = c.in-Err.ensures.err c.in_default.not-NoMemory in
    cc (whole, err)
