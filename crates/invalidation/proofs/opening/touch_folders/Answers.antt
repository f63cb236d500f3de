use Rattle.std.proofs.Common.{◌≡◌, ◌≤◌, ◌+◌, List, sym, ◌∙◌, length, subst}
use Rattle.std.specs.Prelude.{Contains}
use Rattle.sp_base.specs.Texts.{Segments}
use Rattle.cover_rules.specs.Coverage.{touched_of}
use Rattle.invalidation.specs.Walks.{Touches}
use Rattle.invalidation.proofs.Chains.{told_as}
use Rattle.invalidation.proofs.Touching.{few_touched, touches_as}
use Rattle.invalidation.proofs.opening.touch_folders.Goals as goal

pub touch_all-requires : goal.touch_all-requires
touch_all-requires g c = λ folder listed.
    let level = c.args.level in
    let inv = c.args.inv.now in
    let has : Contains (touched_of level inv) folder = subst (λ (fs : List Segments). Contains fs folder) (c.as_slice.ensures ∙ c.in_ok-folders.ensures) listed in
    record {
      path = c.folders_of_stamps_are_paths.ensures.touched level inv folder c.depth-depth.ensures.valid has;
      docroot = c.folders_are_mangled.ensures.touched level inv folder has;
      bytes = c.folders_of_stamps_are_paths.ensures.touched_bytes level inv folder c.a_path_has_bytes.ensures has;
    }

pub returns-clause-touches : goal.returns-clause-touches
returns-clause-touches g c =
    let level = c.args.level in
    let inv = c.args.inv.now in
    let listed = c.as_slice.result.now in
    let same : listed ≡ touched_of level inv = c.as_slice.ensures ∙ c.in_ok-folders.ensures in
    told_as (Touches listed (length listed) c.args.stamp) (Touches (touched_of level inv) (level + 1) c.args.stamp) _ _
    (λ a b. touches_as listed (touched_of level inv) (length listed) (level + 1) c.args.stamp a b (subst (λ (fs : List Segments). length fs ≤ level + 1) (sym same) (few_touched level inv))
    (λ folder. subst (λ (fs : List Segments). Contains fs folder) same)) c.touch_all.ensures.touches
