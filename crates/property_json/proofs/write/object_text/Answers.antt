use Rattle.std.proofs.Common.{◌≡◌, ◌++◌, [], List, ℕ, ◌∙◌, ap}
use Rattle.json.specs.Print.{print}
use Rattle.property_json.proofs.ArrayLemmas.{object_is}
use Rattle.property_json.proofs.write.object_text.Goals as goal

pub returns : goal.returns
returns c =
    let ok = rw c.unwrap-text.ensures at c.from_utf8.ensures.ok in
    let before : c.end_object.new.self.before ≡ [] =
    c.in_ok-end_object.ensures.room.0 ∙ c.in_ok-write_properties.ensures.tokens.before ∙ c.in_ok-begin_object.ensures.room.0 ∙ c.new-writer.ensures.before ∙ c.new.ensures.items in
    c.from.ensures ∙ ap (λ v. v.items) ok ∙ c.into_inner.ensures.items ∙ ap (λ (prefix : List ℕ). prefix ++ print c.end_object.new.self.tokens) before
    ∙ object_is c.new-writer.result c.begin_object.new.self c.write_properties.new.writer c.end_object.new.self c.args.props.now
    c.new-writer.ensures.tokens c.in_ok-begin_object.ensures.ok c.in_ok-write_properties.ensures.tokens c.in_ok-end_object.ensures.ok
