use Rattle.std.proofs.Common.{◌≡◌, ◌≤◌, ◌<◌, [], length, ap, ◌∙◌, subst, arith}
use Rattle.serde_json.specs.Data.{object}
use Rattle.content_json.specs.ContentOf.{map_of}
use Rattle.content_json.specs.Nodes.{nodes_in}
use Rattle.content_json.specs.Parts.{IsObjectPart, nodes_of}
use Rattle.content_json.proofs.MadeLemmas.{many_unsound, few_sound}
use Rattle.content_json.proofs.from_tokens.nodes_of_part.Goals as goal

pub returns-then-len-ge-MOST_NODES : goal.returns-then-len-ge-MOST_NODES
returns-then-len-ge-MOST_NODES c ms is =
    let s = c.into_inner-sprout.result in
    let made = subst (λ p. IsObjectPart 64 [] p ms) c.in-Kid.is is in
    let nodes : nodes_of s ≡ nodes_in [] (object ms) = ap nodes_of c.into_inner-sprout.ensures ∙ made.1 in
    let many : 200000 ≤ length s.below.items = omega (arith, c.if-len-ge-MOST_NODES.true, c.len.ensures, s.below.ok) in
    many_unsound ms s.top s.below.items nodes many

pub returns-in_ok-planted-in-Kid : goal.returns-in_ok-planted-in-Kid
returns-in_ok-planted-in-Kid c ms is =
    let s = c.into_inner-sprout.result in
    let made = subst (λ p. IsObjectPart 64 [] p ms) c.in-Kid.is is in
    let nodes : nodes_of s ≡ nodes_in [] (object ms) = ap nodes_of c.into_inner-sprout.ensures ∙ made.1 in
    let few : length s.below.items < 200000 = omega (arith, c.if-len-ge-MOST_NODES.false, c.len.ensures, s.below.ok) in
    (few_sound ms s.top s.below.items nodes few made.0, c.in_ok-planted-in-Kid.ensures ∙ ap map_of nodes)
