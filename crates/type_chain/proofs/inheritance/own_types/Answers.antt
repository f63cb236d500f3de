use Rattle.std.proofs.Common.{◌≡◌, ◌<◌, ◌≤◌, ◌++◌, length, refl, sym, ◌∙◌, ap, subst, true, arith}
use Rattle.type_chain.specs.Chain.{has_type}
use Rattle.type_chain.specs.ScriptPlaces.{only}
use Rattle.type_chain.proofs.ChainLemmas.{Goes, begins_only, super_is, steps, ends_with_none, ends_full, ends_before_repeat, same_goes}
use Rattle.type_chain.proofs.inheritance.own_types.Goals as goal
use Rattle.type_chain.proofs.inheritance.own_types.Goals.{in-Some+then-len-ge-MOST_TYPES, in_default, then-len-ge-MOST_TYPES-via-then-len-ge-MOST_TYPES, then-len-ge-MOST_TYPES-via-else-len-ge-MOST_TYPES+then-has_type}

pub loop-next-init : goal.loop-next-init
loop-next-init c =
    let tree = c.args.tree.now in
    let props = c.args.props.now in
    let types = c.in_ok-next.ensures.types ∙ ap (λ before. before ++ only c.args.own) c.new.ensures in
    (same_goes tree props _ _ _ _ _ _ refl types c.in_ok-next.ensures.next (begins_only tree props c.args.own), c.in_ok-next.ensures.script_places)

pub loop-next-preserved : goal.loop-next-preserved
loop-next-preserved c =
    let tree = c.args.tree.now in
    let props = c.args.props.now in
    let own = c.args.own in
    let types = c.loop-next.chain.types in
    let name = c.in-Some.name in
    let goes = subst (Goes tree props own types) c.in-Some.is c.loop-next.invariant.0 in
    let room : length types < 32 = omega arith in
    let next = c.in_ok-next-2.ensures ∙ super_is tree name _ c.in_ok-add.ensures.text in
    (same_goes tree props _ _ _ _ _ _ refl c.in_ok-add.ensures.types next (steps tree props own types name goes room (sym c.has_type.ensures ∙ c.if-has_type.false)), c.in_ok-add.ensures.script_places)

pub returns-clause-types : goal.returns-clause-types
returns-clause-types c =
    let tree = c.args.tree.now in
    let props = c.args.props.now in
    let own = c.args.own in
    let types = c.loop-next.chain.types in
    let goes = c.loop-next.invariant.0 in
    elim c.match-next.branch [
      | in-Some+then-len-ge-MOST_TYPES w ↦
          elim w.then-len-ge-MOST_TYPES.branch [
            | then-len-ge-MOST_TYPES-via-then-len-ge-MOST_TYPES w' ↦
                let full : 32 ≤ length types = omega (arith, w.len.ensures, w'.if-len-ge-MOST_TYPES.true) in
                ends_full tree props own types c.loop-next.next goes full
            | then-len-ge-MOST_TYPES-via-else-len-ge-MOST_TYPES+then-has_type w' ↦
                let old : has_type w.in-Some.name types ≡ true = sym w'.has_type.ensures ∙ w'.if-has_type.true in
                ends_before_repeat tree props own types w.in-Some.name (subst (Goes tree props own types) w.in-Some.is goes) old
          ]
      | in_default w ↦ ends_with_none tree props own types (subst (Goes tree props own types) w.in_default.is goes)
    ]
