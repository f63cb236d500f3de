use Rattle.std.proofs.Common.{◌≡◌, sym, subst, ap, ◌∙◌}
use Rattle.std.specs.List.Sorted.{IsStrictlySortedBy}
use Rattle.sp_base.specs.Paths.{by_path}
use Rattle.resource_tree.specs.Content.{Content, IsGood}
use Rattle.script_rank.specs.Index.{ScriptPaths, IsScriptIndexOf, has_path}
use Rattle.publisher.specs.FirstScripts.{AreFirst}
use Rattle.publisher.specs.Kept.{AreAmong, AreReadings, KeptReadings}
use Rattle.publisher.proofs.ForgetLemmas.{still_readings}
use Rattle.publisher.proofs.changes.put_over.Goals as goal

pub returns-clause-kept : goal.returns-clause-kept
returns-clause-kept c =
    still_readings c.args.tree.now c.apply.new.self c.args.patch c.args.templates.now c.forget_patched.new.templates c.requires.kept
    c.in_ok-forget_patched.ensures.fewer c.in_ok-forget_patched.ensures.unpatched c.in_ok-apply.ensures.look_ups

-- an index with other room is one of the same tree
same_index : (tree : Content) (old new : ScriptPaths) → new.scripts ≡ old.scripts → IsScriptIndexOf tree old → IsScriptIndexOf tree new
same_index tree old new same is = record { order = subst (IsStrictlySortedBy by_path) (sym same) is.order; scripts = λ path. ap (λ paths. has_path paths path) same ∙ is.scripts path }

pub returns-clause-indexes : goal.returns-clause-indexes
returns-clause-indexes c = record {
  mappings = c.take.ensures c.args.tree.now c.apply.new.self c.args.patch c.change_of.ensures.index c.in_ok-mappings.ensures.change c.in_ok-apply.ensures.look_ups;
  scripts =
      let before = same_index c.args.tree.now c.args.indexes.now.scripts c.change_of-2.new.self c.change_of-2.ensures.unchanged c.requires.indexes.scripts in
      c.take-2.ensures c.args.tree.now c.apply.new.self c.args.patch before c.in_ok-scripts.ensures.change (subst IsGood (sym c.in_ok-apply.ensures.ok) c.requires.good) c.in_ok-apply.ensures.look_ups;
}

-- of readings that are right each that is left is right
left_readings : (tree : Content) (old new : KeptReadings) → AreReadings tree old → AreAmong old new → AreReadings tree new
left_readings tree old new are among = λ path reading is. are path reading (among path reading is)

pub returns-in_err-forget_patched-clause-kept : goal.returns-in_err-forget_patched-clause-kept
returns-in_err-forget_patched-clause-kept c =
    left_readings c.args.tree.now c.args.templates.now c.forget_patched.new.templates c.requires.kept c.forget_patched.ensures.fewer

pub returns-in_err-apply-clause-kept : goal.returns-in_err-apply-clause-kept
returns-in_err-apply-clause-kept c =
    subst (λ tree. AreReadings tree c.forget_patched.new.templates) (sym c.in_err-apply.ensures.unchanged)
    (left_readings c.args.tree.now c.args.templates.now c.forget_patched.new.templates c.requires.kept c.forget_patched.ensures.fewer)

pub returns-clause-firsts : goal.returns-clause-firsts
returns-clause-firsts c =
    c.forget_firsts.ensures.after c.apply.new.self (subst IsGood (sym c.in_ok-apply.ensures.ok) c.requires.good) c.in_ok-apply.ensures.look_ups

pub returns-in_err-apply-clause-firsts : goal.returns-in_err-apply-clause-firsts
returns-in_err-apply-clause-firsts c =
    subst (λ tree. AreFirst tree c.forget_firsts.new.firsts) (sym c.in_err-apply.ensures.unchanged) c.forget_firsts.ensures.before
