use Rattle.std.proofs.Common.{◌≡◌, ◌+◌, ◌∷◌, ◌++◌, [], take, length, ◌≤◌, sym, ◌∙◌, ap, subst, arith}
use Rattle.std.proofs.lemmas.List.{take_all}
use Rattle.json.specs.Token.{Token}
use Rattle.json.specs.Tree.{json_tokens}
use Rattle.resource_tree.specs.Content.{kid}
use Rattle.property_json.specs.PropertyJson.{Adds, property_tokens}
use Rattle.content_json.specs.Steps.{order_tokens, whole_at, kid_tokens, AreBelow, AreBelowKids}
use Rattle.content_json.proofs.BelowLemmas.{all_below, kid_below}
use Rattle.content_json.proofs.WrittenLemmas.{among_items, kid_named, kid_short, none_missing, node_tokens, token, more, kids_more}
use Rattle.content_json.proofs.write.+writing.Goals as goal
use Rattle.content_json.proofs.write.+writing.Goals.{write_kids-in-Some+in_ok-key+in_ok-write_node, write_kids-in_default}

pub write_kids-kid_path-requires-clause-name : goal.write_kids-kid_path-requires-clause-name
write_kids-kid_path-requires-clause-name t c =
    let node = c.args.node.now in
    let name = c.name-item.result in
    let listed = among_items c.as_slice-name-items.result.now node.kids c.loop-name.name-index name c.as_slice-name-items.ensures (omega arith) c.name-item.is in
    rw c.text.ensures (kid_named c.args.tree.now c.args.path.now node name c.requires.good c.requires.there listed)

pub write_kids-kid_path-requires-clause-shallow : goal.write_kids-kid_path-requires-clause-shallow
write_kids-kid_path-requires-clause-shallow t c =
    let node = c.args.node.now in
    let name = c.name-item.result in
    let listed = among_items c.as_slice-name-items.result.now node.kids c.loop-name.name-index name c.as_slice-name-items.ensures (omega arith) c.name-item.is in
    kid_short c.args.tree.now c.args.path.now node name c.requires.good c.requires.there listed

pub write_kids-loop-name-preserved : goal.write_kids-loop-name-preserved
write_kids-loop-name-preserved t c =
    let tree = c.args.tree.now in
    let path = c.args.path.now in
    let names = c.args.node.now.kids in
    let i = c.loop-name.name-index in
    let name = c.name-item.result in
    let old = c.args.writer.now in
    let mid = c.loop-name.writer in
    let prefix = kid_tokens tree path (take i names) in
    let items = c.as_slice-name-items.result.now in
    let same = c.as_slice-name-items.ensures in
    let place = c.in_ok-kid.ensures ∙ ap (kid path) c.text.ensures in
    elim c.match-node.branch [
      | write_kids-in-Some+in_ok-key+in_ok-write_node w ↦
          let key = w.in_ok-key.ensures.ok ∙ ap (λ n. mid.tokens ++ Token.key n ∷ []) w.text-in-Some.ensures in
          let new = w.write_node.new.writer in
          let js = json_tokens (whole_at tree (kid path name)) in
          let below : Adds w.key.new.self new js = subst (λ p. Adds w.key.new.self new (json_tokens (whole_at tree p))) place w.in_ok-write_node.ensures.tokens in
          let written : Adds old new (prefix ++ (Token.key name ∷ js)) =
          more old mid new prefix (Token.key name ∷ js) c.loop-name.invariant.0
          (more mid w.key.new.self new (Token.key name ∷ []) js (token mid w.key.new.self (Token.key name) key w.in_ok-key.ensures.room.0) below) in (
            subst (λ end. Adds old end (kid_tokens tree path (take (i + 1) names))) (sym w.writer-is)
                (subst (Adds old new) (sym (kids_more tree path items names i name same (omega arith) c.name-item.is)) written),
            kid_below tree path items names i name same (omega arith) c.name-item.is c.loop-name.invariant.1 (subst (AreBelow tree) place w.in_ok-write_node.ensures.props),
          )
      | write_kids-in_default w ↦ absurd (none_missing tree path c.in_ok-kid.kid c.args.node.now name c.requires.good c.requires.there (among_items items names i name same (omega arith) c.name-item.is) place w.in_default.ensures)
    ]

pub write_node-returns : goal.write_node-returns
write_node-returns t c =
    let tree = c.args.tree.now in
    let path = c.args.path.now in
    let node = c.args.node.now in
    let old = c.args.writer.now in
    let begun = c.begin_object.new.self in
    let mid = c.write_properties.new.writer in
    let low = c.write_order.new.writer in
    let deep = c.write_kids.new.writer in
    let end = c.end_object.new.self in
    let last = Token.end_object ∷ [] in
    let ks = kid_tokens tree path node.kids in
    let os = order_tokens node.kids in
    let ps = property_tokens node.props in
    record {
      tokens = subst (Adds old end) (sym (node_tokens c.properties_come_first.ensures tree path node c.requires.good c.requires.there))
          (more old begun end (Token.begin_object ∷ []) (ps ++ (os ++ (ks ++ last))) (token old begun Token.begin_object c.in_ok-begin_object.ensures.ok c.in_ok-begin_object.ensures.room.0)
          (more begun mid end ps (os ++ (ks ++ last)) c.in_ok-write_properties.ensures.tokens
          (more mid low end os (ks ++ last) c.in_ok-write_order.ensures
          (more low deep end ks last c.in_ok-write_kids.ensures.tokens (token deep end Token.end_object c.in_ok-end_object.ensures.ok c.in_ok-end_object.ensures.room.0)))));
      props = all_below tree path node c.requires.good c.requires.there (record { sorted = c.in_ok-write_properties.ensures.sorted; longs = c.in_ok-write_properties.ensures.longs })
          c.in_ok-write_kids.ensures.props;
    }

pub write_kids-returns : goal.write_kids-returns
write_kids-returns t c =
    let names = c.args.node.now.kids in
    let i = c.loop-name.name-index in
    let all : take i names ≡ names = take_all i names (subst (λ ns. length ns ≤ i) c.as_slice-name-items.ensures c.loop-name-test.false) in
    record {
      tokens = subst (λ ns. Adds c.args.writer.now c.loop-name.writer (kid_tokens c.args.tree.now c.args.path.now ns)) all c.loop-name.invariant.0;
      props = subst (AreBelowKids c.args.tree.now c.args.path.now) all c.loop-name.invariant.1;
    }
