use Rattle.std.proofs.Common.{◌≡◌, ◌++◌, ℕ, List, [], IsUtf8, ◌∙◌, ap, sym, subst}
use Rattle.json.specs.Lex.{tokens}
use Rattle.json.specs.Print.{print}
use Rattle.json.specs.Tree.{json_tokens}
use Rattle.property_json.specs.PropertyJson.{Adds}
use Rattle.content_json.specs.Steps.{whole_at, AreBelow}
use Rattle.content_json.proofs.ReturnTree.{returns_tree}
use Rattle.content_json.proofs.WrittenLemmas.{root_missing, text_is}
use Rattle.content_json.proofs.write.write_tree.Goals as goal
use Rattle.content_json.proofs.write.write_tree.Goals.{in-Some+in_ok-write_node, in_default}

pub returns : goal.returns
returns c =
    let tree = c.args.tree.now in
    let start = c.new-writer.result in
    let end = c.match-node.writer in
    let walked : Adds start end (json_tokens (whole_at tree [])) × AreBelow tree [] = elim c.match-node.branch [
      | in-Some+in_ok-write_node w ↦ (rw w.writer-is (rw c.root-root.ensures at w.in_ok-write_node.ensures.tokens), rw c.root-root.ensures at w.in_ok-write_node.ensures.props)
      | in_default w ↦ absurd (root_missing tree c.root-root.result c.len.ensures.good c.root-root.ensures w.in_default.ensures)
    ] in
    let adds = walked.0 in
    let before : end.before ≡ [] = adds.before ∙ c.new-writer.ensures.before ∙ c.new.ensures.items in
    let bytes : c.from.result ≡ print end.tokens = c.from.ensures ∙ c.into_inner.ensures.items ∙ ap (λ (prefix : List ℕ). prefix ++ print end.tokens) before in
    let all : end.tokens ≡ json_tokens (whole_at tree []) = adds.tokens ∙ ap (λ ts. ts ++ json_tokens (whole_at tree [])) c.new-writer.ensures.tokens in
    record {
      value = bytes ∙ text_is tree start end c.new-writer.ensures.tokens adds;
      read_back = λ can. returns_tree tree c.from.result c.len.ensures.good walked.1 can (ap tokens bytes ∙ c.into_inner.ensures.reads_back ∙ all) (subst IsUtf8 (sym bytes) c.into_inner.ensures.utf8);
    }
