use Rattle.std.proofs.Common.{◌≡◌, false, codes, nat_eq, refl, ap, sym, ◌∙◌}
use Rattle.std.specs.Cmp.Lexicographic.{pointwise}
use Rattle.overlay_merge.specs.Merged.{merged_resource, merged_with_kid}
use Rattle.publisher.specs.Rendering.{is_json}
use Rattle.publisher.proofs.SeenAloneLemmas.{answer-of, kid-shown}
use Rattle.publisher.proofs.representations.seen_with_kids.Goals as goal

pub returns-then-eq : goal.returns-then-eq
returns-then-eq c = answer-of c.merged.result c.args.tree.now c.args.parts.now (merged_resource c.args.tree.now c.args.parts.now.path) refl c.merged.ensures

pub returns-else-eq : goal.returns-else-eq
returns-else-eq c =
    let other : is_json c.args.parts.now.extension ≡ false = sym (c.eq.ensures ∙ ap (λ t. pointwise nat_eq t (codes "json")) c.text.ensures) ∙ c.if-eq.false in
    answer-of c.merged_with_kid.result c.args.tree.now c.args.parts.now (merged_with_kid c.args.tree.now c.args.parts.now.path (codes "jcr:content")) (kid-shown c.args.tree.now c.args.parts.now other) c.merged_with_kid.ensures
