use Rattle.std.proofs.Common.{◌≡◌, ◌++◌, ◌∷◌, [], ℕ, List, Bor, false, map, append-nil, sym, ap, ◌∙◌, subst}
use Rattle.std.specs.Prelude.{MatchOption}
use Rattle.content_json.specs.declared.part.Part.{Part}
use Rattle.content_json.specs.Nodes.{add_props, nodes_below}
use Rattle.content_json.specs.Faults.{has_good_order}
use Rattle.content_json.specs.Parts.{AreMemberParts, AddsMember, NamesKids, has_unfit, entry_of, nodes_of}
use Rattle.content_json.proofs.PartLemmas.{first_part, no_part, bad_order_unfit, good_fits, member_added, unfit_here}
use Rattle.content_json.proofs.open_object.OpenObject.into_part.Goals as goal

pub returns-in_default : goal.returns-in_default
returns-in_default c levels ms held = bad_order_unfit levels ms (λ fit. subst (λ o. MatchOption o (has_good_order ms ≡ false) (NamesKids ms)) c.in_default.is (c.in_ok-kids.ensures levels c.args.path ms held fit))

pub returns-then-not-branch : goal.returns-then-not-branch
returns-then-not-branch c levels ms held =
    let l = c.loop-name in
    let path = c.args.path in
    let inv = l.invariant levels ms held in
    let e : Bor (List ℕ) × Part = (c.in-Some-2.name, c.in-Some-2.part) in
    let left = c.next.new.self in
    let steps : l.name-iterator ≡ e ∷ left = c.in-Some-2.ensures.steps in
    let one = first_part levels path e left inv.0 (subst (λ es. AreMemberParts levels path es inv.0) steps inv.1) in
    let made = subst (λ b. AddsMember levels path e.0.now one.0 b l.props c.add_part.new.props l.below.items c.add_part.new.below.items) c.if-not-branch.true (c.in_ok-add_part.ensures levels path one.0 one.3) in
    unfit_here levels e.0.now one.0 one.1 inv.0 ms one.2 inv.2 made

pub loop-name-preserved : goal.loop-name-preserved
loop-name-preserved c levels ms held =
    let l = c.loop-name in
    let path = c.args.path in
    let inv = l.invariant levels ms held in
    let e : Bor (List ℕ) × Part = (c.in-Some-2.name, c.in-Some-2.part) in
    let left = c.next.new.self in
    let steps : l.name-iterator ≡ e ∷ left = c.in-Some-2.ensures.steps in
    let one = first_part levels path e left inv.0 (subst (λ es. AreMemberParts levels path es inv.0) steps inv.1) in
    let made = subst (λ b. AddsMember levels path e.0.now one.0 b l.props c.add_part.new.props l.below.items c.add_part.new.below.items) c.if-not-branch.false (c.in_ok-add_part.ensures levels path one.0 one.3) in
    let next = member_added levels path e.0.now one.0 one.1 inv.0 ms l.props c.add_part.new.props (map entry_of l.below.items) (map entry_of c.add_part.new.below.items) one.2 inv.2 inv.3 inv.4 made.0 made.1 made.2 in
    (one.1, one.4, next.0, next.1, next.2)

pub returns : goal.returns
returns c levels ms held =
    let l = c.loop-name in
    let path = c.args.path in
    let inv = l.invariant levels ms held in
    let end : l.name-iterator ≡ [] = c.in-None.ensures.steps.0 in
    let none = no_part levels path inv.0 (subst (λ es. AreMemberParts levels path es inv.0) end inv.1) in
    let fit : has_unfit levels ms ≡ false = inv.2 ∙ ap (has_unfit levels) none in
    let kids = subst (λ o. MatchOption o (has_good_order ms ≡ false) (NamesKids ms)) c.in-Some.is (c.in_ok-kids.ensures levels path ms held fit) in
    let props : l.props ≡ add_props [] ms = sym (ap (add_props l.props) none) ∙ inv.3 in
    let below : map entry_of l.below.items ≡ nodes_below path ms = sym (append-nil (map entry_of l.below.items)) ∙ sym (ap (λ m. map entry_of l.below.items ++ nodes_below path m) none) ∙ inv.4 in (
      good_fits levels ms fit kids.0,
      ap nodes_of c.in_ok-new.ensures.ok ∙ (λ i. (path, record { props = props i; kids = kids.1 i }) ∷ below i),
    )
