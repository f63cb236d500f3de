use Rattle.std.proofs.Common.{◌≡◌, ◌+◌, ◌-◌, ◌≤◌, List, ℕ, Option, Some, IfOk, length, take, subst, sym, ◌∙◌, ap, arith}
use Rattle.std.proofs.lemmas.List.{take_all}
use Rattle.std.proofs.lemmas.Result.{IfOk-weaker}
use Rattle.sp_base.proofs.ListLemmas.{take_more_of}
use Rattle.json.specs.Tree.{json_tokens}
use Rattle.get_servlet.specs.Rendering.{shown_kid, resource_json}
use Rattle.get_servlet.specs.Steps.{kid_member_tokens, kids_tokens, below_tokens, bytes_in, Spends}
use Rattle.property_json.specs.PropertyJson.{property_tokens}
use Rattle.get_servlet.proofs.WritingLemmas.{no_room, no_room_below, object_written, kid_no_room, kid_written, below_none, below_some, kids_tokens-nil, nothing_written, kids_more, kids_taken, more_spent, none_spent}
use Rattle.get_servlet.proofs.writing.+writing.Goals as goal

pub write_member-returns-in_default : goal.write_member-returns-in_default
write_member-returns-in_default g t c =
    let json = resource_json (g.L.Look.seen c.args.look.now) c.args.bounds.depth in
    kid_no_room c.args.bounds.room c.args.name.now json c.args.kid.now (omega (arith, c.in_default.ensures))

pub write_member-returns : goal.write_member-returns
write_member-returns g t c =
    let json = resource_json (g.L.Look.seen c.args.look.now) c.args.bounds.depth in
    let kid = c.args.kid.now in
    let is : c.in-Some.room + length c.args.name.now ≡ c.args.bounds.room = omega (arith, c.in-Some.ensures) in
    IfOk-weaker c.write_resource.result _ _
    (λ left s. kid_written c.args.bounds.room c.in-Some.room left c.args.name.now (json_tokens (json kid.path kid.res)) c.args.writer.now c.key.new.self c.write_resource.new.writer is c.in_ok-key.ensures.ok c.in_ok-key.ensures.room.0 s)
    c.write_resource.ensures

pub write_kid-returns-in-Some : goal.write_kid-returns-in-Some
write_kid-returns-in-Some g t c =
    let json = resource_json (g.L.Look.seen c.args.look.now) c.args.bounds.depth in
    let there = sym c.in-Some.is ∙ c.in_ok-kid.ensures in
    subst (λ k. IfOk c.write_member.result (λ left. Spends c.args.bounds.room left c.args.writer.now c.write_member.new.writer (kid_member_tokens c.args.name.now json k))) there c.write_member.ensures

pub write_kids-returns-then-bounds-eq0 : goal.write_kids-returns-then-bounds-eq0
write_kids-returns-then-bounds-eq0 g t c =
    subst (Spends c.args.bounds.room (Some c.args.bounds.room) c.args.writer.now c.args.writer.now)
    (sym (below_none (g.L.Look.seen c.args.look.now) c.args.bounds.depth c.args.at.now.path.now c.args.at.now.res.now c.if-bounds-eq0.true)) (nothing_written c.args.bounds.room c.args.writer.now)

pub write_kids-loop-name-init : goal.write_kids-loop-name-init
write_kids-loop-name-init g t c =
    subst (Spends c.args.bounds.room (Some c.args.bounds.room) c.args.writer.now c.args.writer.now)
    (sym (kids_tokens-nil (g.L.Look.seen c.args.look.now) (c.args.bounds.depth - 1) c.args.at.now.path.now c.args.at.now.res.now)) (nothing_written c.args.bounds.room c.args.writer.now)

pub write_kids-returns-in_default : goal.write_kids-returns-in_default
write_kids-returns-in_default g t c =
    let seen = g.L.Look.seen c.args.look.now in
    let path = c.args.at.now.path.now in
    let res = c.args.at.now.res.now in
    let names = res.kids in
    let i = c.loop-name.name-index in
    let text = c.text.result.now in
    let depth = c.args.bounds.depth - 1 in
    let mid = c.loop-name.writer in
    let new = c.write_kid.new.writer in
    let ts = kid_member_tokens text (resource_json seen depth) (shown_kid seen path res text) in
    let first = kids_tokens seen depth path res (take i names) in
    let more = take_more_of c.kids-name-items.result.now names i c.name-item.result c.kids-name-items.ensures (omega arith) c.name-item.is in
    let tokens = kids_more seen depth path res (take i names) (take (i + 1) names) c.name-item.result text more c.text.ensures in
    let over = subst (λ (o : Option ℕ). Spends c.loop-name.left o mid new ts) c.in_default.is c.in_ok-rest.ensures in
    let below = below_some seen c.args.bounds.depth depth path res (omega (arith, c.if-bounds-eq0.false)) in
    omega (arith, none_spent c.args.bounds.room c.loop-name.left c.args.writer.now mid new first ts c.loop-name.invariant over, ap bytes_in tokens, kids_taken seen depth path res (i + 1), ap bytes_in below)

pub write_kids-loop-name-preserved : goal.write_kids-loop-name-preserved
write_kids-loop-name-preserved g t c =
    let seen = g.L.Look.seen c.args.look.now in
    let path = c.args.at.now.path.now in
    let res = c.args.at.now.res.now in
    let names = res.kids in
    let i = c.loop-name.name-index in
    let text = c.text.result.now in
    let depth = c.args.bounds.depth - 1 in
    let mid = c.loop-name.writer in
    let new = c.write_kid.new.writer in
    let ts = kid_member_tokens text (resource_json seen depth) (shown_kid seen path res text) in
    let first = kids_tokens seen depth path res (take i names) in
    let more = take_more_of c.kids-name-items.result.now names i c.name-item.result c.kids-name-items.ensures (omega arith) c.name-item.is in
    let tokens = kids_more seen depth path res (take i names) (take (i + 1) names) c.name-item.result text more c.text.ensures in
    let spent = subst (λ (o : Option ℕ). Spends c.loop-name.left o mid new ts) c.in-Some.is c.in_ok-rest.ensures in
    subst (Spends c.args.bounds.room (Some c.in-Some.rest) c.args.writer.now new) (sym tokens)
    (more_spent c.args.bounds.room c.loop-name.left c.in-Some.rest c.args.writer.now mid new first ts c.loop-name.invariant spent)

pub write_kids-returns : goal.write_kids-returns
write_kids-returns g t c =
    let seen = g.L.Look.seen c.args.look.now in
    let path = c.args.at.now.path.now in
    let res = c.args.at.now.res.now in
    let i = c.loop-name.name-index in
    let depth = c.args.bounds.depth - 1 in
    let le : length res.kids ≤ i = omega (arith, ap length c.kids-name-items.ensures, c.loop-name-test.false) in
    let below = below_some seen c.args.bounds.depth depth path res (omega (arith, c.if-bounds-eq0.false)) in
    subst (Spends c.args.bounds.room (Some c.loop-name.left) c.args.writer.now c.loop-name.writer) (sym below)
    (subst (λ (names : List (List ℕ)). Spends c.args.bounds.room (Some c.loop-name.left) c.args.writer.now c.loop-name.writer (kids_tokens seen depth path res names)) (take_all i res.kids le) c.loop-name.invariant)

pub write_resource-returns-in_default : goal.write_resource-returns-in_default
write_resource-returns-in_default g t c =
    let some = subst (λ ps. c.properties_bytes.result ≤ bytes_in (property_tokens ps)) c.props.ensures c.properties_bytes.ensures in
    no_room c.properties_come_first.ensures (g.L.Look.seen c.args.look.now) c.args.bounds.depth c.args.bounds.room c.properties_bytes.result c.args.at.now.path.now c.args.at.now.res.now some (omega (arith, c.in_default.ensures))

pub write_resource-returns-in_default-2 : goal.write_resource-returns-in_default-2
write_resource-returns-in_default-2 g t c =
    let seen = g.L.Look.seen c.args.look.now in
    let path = c.args.at.now.path.now in
    let res = c.args.at.now.res.now in
    let some = subst (λ ps. c.properties_bytes.result ≤ bytes_in (property_tokens ps)) c.props.ensures c.properties_bytes.ensures in
    let over = subst (λ (o : Option ℕ). Spends c.in-Some.room o c.write_properties.new.writer c.write_kids.new.writer (below_tokens seen c.args.bounds.depth path res)) c.in_default-2.is c.in_ok-left.ensures in
    no_room_below c.properties_come_first.ensures seen c.args.bounds.depth c.args.bounds.room c.properties_bytes.result c.in-Some.room path res some (omega (arith, c.in-Some.ensures)) over

pub write_resource-returns : goal.write_resource-returns
write_resource-returns g t c =
    let seen = g.L.Look.seen c.args.look.now in
    let path = c.args.at.now.path.now in
    let res = c.args.at.now.res.now in
    let begun = c.begin_object.new.self in
    let mid = c.write_properties.new.writer in
    let low = c.write_kids.new.writer in
    let some = subst (λ ps. c.properties_bytes.result ≤ bytes_in (property_tokens ps)) c.props.ensures c.properties_bytes.ensures in
    let spent = subst (λ (o : Option ℕ). Spends c.in-Some.room o mid low (below_tokens seen c.args.bounds.depth path res)) c.in-Some-2.is c.in_ok-left.ensures in
    let props = rw c.props-2.ensures at c.in_ok-write_properties.ensures.tokens in
    object_written c.properties_come_first.ensures seen c.args.bounds.depth c.args.bounds.room c.properties_bytes.result c.in-Some.room c.in-Some-2.left path res c.args.writer.now begun mid low c.end_object.new.self
    some (omega (arith, c.in-Some.ensures)) c.in_ok-begin_object.ensures.ok c.in_ok-begin_object.ensures.room.0 props spent c.in_ok-end_object.ensures.ok c.in_ok-end_object.ensures.room.0
