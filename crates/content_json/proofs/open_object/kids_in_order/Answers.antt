use Rattle.std.proofs.Common.{◌≡◌, ◌++◌, ◌+◌, [], ◌∷◌, ℕ, List, true, false, drop, nat_cmp, append-nil, append_assoc, refl, sym, ap, ◌∙◌, arith}
use Rattle.std.specs.BTreeSet.{contains_by}
use Rattle.std.specs.Cmp.Lexicographic.{slice_cmp}
use Rattle.std.specs.List.{list_any}
use Rattle.std.specs.Str.{bytes_eq}
use Rattle.std.proofs.lemmas.Bool.{not-true, not-false}
use Rattle.std.proofs.lemmas.List.{drop_all}
use Rattle.std.proofs.lemmas.Map.Text.{is_eq-slice_cmp}
use Rattle.sp_base.proofs.TextLemmas.{bytes_eq_swapped}
use Rattle.serde_json.specs.Data.{string}
use Rattle.content_json.specs.Names.{is_order, is_kid}
use Rattle.content_json.specs.Faults.{names_kids}
use Rattle.content_json.specs.Parts.{items_from, kid_keys}
use Rattle.content_json.proofs.OrderLemmas.{names_kids-next, or_from_cond, drop_here}
use Rattle.content_json.proofs.PartLemmas.{good_order_is, order_no_kid, bad_kid, named_twice, kid_of_both, one_more_listed, kids_are, listed_are, kid_keys_are}
use Rattle.content_json.proofs.open_object.kids_in_order.Goals as goal

pub returns-then-not-is_kid : goal.returns-then-not-is_kid
returns-then-not-is_kid c levels path ms held fit =
    let inv = c.loop-text.invariant in
    let i = c.loop-text.text-index in
    let listed = c.in-Some.listed.now in
    let name : List ℕ = c.text-name.result.now in
    let here : drop i listed ≡ name ∷ drop (i + 1) listed = drop_here listed i c.text-item.result (omega arith) c.text-item.is ∙ ap (λ n. n ∷ drop (i + 1) listed) (sym c.text-name.ensures) in
    let lists = inv.2 levels path ms held fit in
    let so_far = inv.3 ms in
    let no = sym (c.is_kid.ensures levels path ms held fit) ∙ c.if-not-is_kid.true in
    good_order_is ms listed lists ∙ so_far.2 levels path held fit ∙ ap (λ ns. names_kids ms so_far.0 (items_from string ns)) here
    ∙ bad_kid ms so_far.0 name (items_from string (drop (i + 1) listed)) no (order_no_kid ms listed lists)

pub returns-then-not-branch : goal.returns-then-not-branch
returns-then-not-branch c levels path ms held fit =
    let inv = c.loop-text.invariant in
    let i = c.loop-text.text-index in
    let listed = c.in-Some.listed.now in
    let name : List ℕ = c.text-name.result.now in
    let here : drop i listed ≡ name ∷ drop (i + 1) listed = drop_here listed i c.text-item.result (omega arith) c.text-item.is ∙ ap (λ n. n ∷ drop (i + 1) listed) (sym c.text-name.ensures) in
    let lists = inv.2 levels path ms held fit in
    let so_far = inv.3 ms in
    let there : list_any (λ other. bytes_eq other name) so_far.0 ≡ true = sym (so_far.1 name) ∙ not-false _ (sym c.in_ok-insert.ensures.added ∙ c.if-not-branch.true) in
    good_order_is ms listed lists ∙ so_far.2 levels path held fit ∙ ap (λ ns. names_kids ms so_far.0 (items_from string ns)) here
    ∙ named_twice ms so_far.0 name (items_from string (drop (i + 1) listed)) there

pub loop-text-preserved : goal.loop-text-preserved
loop-text-preserved c =
    let inv = c.loop-text.invariant in
    let i = c.loop-text.text-index in
    let listed = c.in-Some.listed.now in
    let name : List ℕ = c.text-name.result.now in
    let rest = drop (i + 1) listed in
    let here : drop i listed ≡ name ∷ rest = drop_here listed i c.text-item.result (omega arith) c.text-item.is ∙ ap (λ n. n ∷ drop (i + 1) listed) (sym c.text-name.ensures) in
    let names : c.push.new.self ≡ c.loop-text.names ++ name ∷ [] = c.in_ok-push.ensures.ok ∙ ap (λ n. c.loop-text.names ++ n ∷ []) c.in_ok-of.ensures in
    let added = λ (q : List ℕ). c.in_ok-insert.ensures.updates.0 (record { ref_ptr = (0, 0); now = q }) in
    let new : contains_by (λ k. slice_cmp nat_cmp name k.now) c.loop-text.first ≡ false = not-true _ (sym c.in_ok-insert.ensures.added ∙ c.if-not-branch.false) in (
      ap (λ ns. ns ++ rest) names ∙ append_assoc c.loop-text.names (name ∷ []) rest ∙ ap (λ ns. c.loop-text.names ++ ns) (sym here) ∙ inv.0,
      (λ q. added q ∙ one_more_listed q name c.loop-text.names _ _ (is_eq-slice_cmp name q ∙ bytes_eq_swapped name q) (inv.1 q) ∙ ap (list_any (bytes_eq q)) (sym names)),
      inv.2,
      λ ms.
          let so_far = inv.3 ms in
          let apart : list_any (λ other. bytes_eq other name) so_far.0 ≡ false = sym (so_far.1 name) ∙ new in (
            name ∷ so_far.0,
            (λ q. added q ∙ rw (is_eq-slice_cmp name q, so_far.1 q) (or_from_cond (bytes_eq name q) (list_any (λ other. bytes_eq other q) so_far.0))),
            λ levels path held fit.
                let both = sym (c.is_kid.ensures levels path ms held fit) ∙ c.if-not-is_kid.false in
                so_far.2 levels path held fit ∙ ap (λ ns. names_kids ms so_far.0 (items_from string ns)) here
                ∙ names_kids-next ms so_far.0 (string name) (items_from string rest) name refl (kid_of_both (is_order name) (is_kid ms name) both) apart,
          ),
    )

pub returns : goal.returns
returns c levels path ms held fit =
    let inv = c.loop-text.invariant in
    let listed = c.in-Some.listed.now in
    let none = drop_all c.loop-text.text-index listed c.loop-text-test.false in
    let all : c.loop-text.names ≡ listed = sym (append-nil c.loop-text.names) ∙ ap (λ ks. c.loop-text.names ++ ks) (sym none) ∙ inv.0 in
    let lists = inv.2 levels path ms held fit in
    let so_far = inv.3 ms in (
      good_order_is ms listed lists ∙ so_far.2 levels path held fit ∙ ap (λ ns. names_kids ms so_far.0 (items_from string ns)) none,
      c.in_ok-add_others.ensures ∙ kids_are ms c.loop-text.names (kid_keys c.args.members.now.entries) (λ q. contains_by (λ k. slice_cmp nat_cmp q k.now) c.loop-text.first) (all ∙ sym (listed_are ms listed lists)) inv.1
          (kid_keys_are levels path c.args.members.now.entries ms held fit),
    )
