use Rattle.std.proofs.Common.{◌≡◌, ◌++◌, [], List, ℕ, Option, length, subst, ◌∙◌, ap, arith}
use Rattle.json.specs.Lex.{tokens}
use Rattle.json.specs.Print.{print}
use Rattle.json.specs.Tree.{json_tokens}
use Rattle.get_servlet.specs.declared.answer.JsonAnswer.TheVariants.{Whole}
use Rattle.get_servlet.specs.Rendering.{resource_json, json_text}
use Rattle.get_servlet.specs.Steps.{Spends}
use Rattle.get_servlet.proofs.ReadBackLemmas.{reads_back}
use Rattle.get_servlet.proofs.WritingLemmas.{tokens_are, text_is, text_too_long, text_short, no_room_for_text}
use Rattle.get_servlet.proofs.writing.text_answer.Goals as goal

pub returns-in_default-clause-value : goal.returns-in_default-clause-value
returns-in_default-clause-value g c =
    let seen = g.L.Look.seen c.args.look.now in
    let over = subst (λ (o : Option ℕ). Spends c.args.most_bytes o c.new-writer.result c.write_resource.new.writer (json_tokens (resource_json seen c.args.depth c.path.result.now c.args.res.now))) c.in_default.is c.in_ok-write_resource.ensures in
    no_room_for_text seen c.args.depth c.path.result.now c.args.res.now c.args.most_bytes c.path.ensures over

pub returns-then-len-most_bytes-clause-value : goal.returns-then-len-most_bytes-clause-value
returns-then-len-most_bytes-clause-value g c =
    let seen = g.L.Look.seen c.args.look.now in
    let end = c.write_resource.new.writer in
    let spent = subst (λ (o : Option ℕ). Spends c.args.most_bytes o c.new-writer.result end (json_tokens (resource_json seen c.args.depth c.path.result.now c.args.res.now))) c.in-Some.is c.in_ok-write_resource.ensures in
    let adds = spent.0 in
    let ok = rw c.unwrap-text.ensures at c.from_utf8.ensures.ok in
    let before : end.before ≡ [] = adds.before ∙ c.new-writer.ensures.before ∙ c.in_ok-with_capacity.ensures.items in
    let written = tokens_are seen c.args.depth c.path.result.now c.args.res.now c.new-writer.result end c.new-writer.ensures.tokens c.path.ensures adds in
    let bytes : c.unwrap-text.result.bytes.items ≡ json_text seen c.args.depth c.args.res.now =
    ap (λ v. v.items) ok ∙ c.into_inner.ensures.items ∙ ap (λ (first : List ℕ). first ++ print end.tokens) before ∙ text_is seen c.args.depth c.args.res.now end written in
    text_too_long c.args.most_bytes (json_text seen c.args.depth c.args.res.now) (omega (arith, ap length bytes, c.len.ensures, c.if-len-most_bytes.true))

pub returns-clause-value : goal.returns-clause-value
returns-clause-value g c =
    let seen = g.L.Look.seen c.args.look.now in
    let end = c.write_resource.new.writer in
    let spent = subst (λ (o : Option ℕ). Spends c.args.most_bytes o c.new-writer.result end (json_tokens (resource_json seen c.args.depth c.path.result.now c.args.res.now))) c.in-Some.is c.in_ok-write_resource.ensures in
    let adds = spent.0 in
    let ok = rw c.unwrap-text.ensures at c.from_utf8.ensures.ok in
    let before : end.before ≡ [] = adds.before ∙ c.new-writer.ensures.before ∙ c.in_ok-with_capacity.ensures.items in
    let written = tokens_are seen c.args.depth c.path.result.now c.args.res.now c.new-writer.result end c.new-writer.ensures.tokens c.path.ensures adds in
    let bytes : c.unwrap-text.result.bytes.items ≡ json_text seen c.args.depth c.args.res.now =
    ap (λ v. v.items) ok ∙ c.into_inner.ensures.items ∙ ap (λ (first : List ℕ). first ++ print end.tokens) before ∙ text_is seen c.args.depth c.args.res.now end written in
    ap Whole (c.from.ensures ∙ bytes)
    ∙ text_short c.args.most_bytes (json_text seen c.args.depth c.args.res.now) (omega (arith, ap length bytes, c.len.ensures, c.if-len-most_bytes.false))

pub returns-clause-reads_back : goal.returns-clause-reads_back
returns-clause-reads_back g c =
    let seen = g.L.Look.seen c.args.look.now in
    let end = c.write_resource.new.writer in
    let spent = subst (λ (o : Option ℕ). Spends c.args.most_bytes o c.new-writer.result end (json_tokens (resource_json seen c.args.depth c.path.result.now c.args.res.now))) c.in-Some.is c.in_ok-write_resource.ensures in
    let adds = spent.0 in
    let ok = rw c.unwrap-text.ensures at c.from_utf8.ensures.ok in
    let before : end.before ≡ [] = adds.before ∙ c.new-writer.ensures.before ∙ c.in_ok-with_capacity.ensures.items in
    let written = tokens_are seen c.args.depth c.path.result.now c.args.res.now c.new-writer.result end c.new-writer.ensures.tokens c.path.ensures adds in
    let printed : c.from.result ≡ print end.tokens =
    c.from.ensures ∙ ap (λ v. v.items) ok ∙ c.into_inner.ensures.items ∙ ap (λ (first : List ℕ). first ++ print end.tokens) before in
    reads_back seen c.args.depth c.args.res.now.path c.args.res.now c.from.result (ap tokens printed ∙ c.into_inner.ensures.reads_back ∙ written)
