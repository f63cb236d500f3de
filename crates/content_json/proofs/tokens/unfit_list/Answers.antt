use Rattle.std.proofs.Common.{◌≡◌, ◌-◌, ◌∷◌, true, false, refl, ap, ◌∙◌, subst, arith}
use Rattle.json.specs.Json.{parse_map, value}
use Rattle.json.specs.Reads.{token_of}
use Rattle.serde_json.specs.Data.{item}
use Rattle.content_json.specs.Tokens.{value_of_tokens, items_within, IsPassedOver}
use Rattle.content_json.proofs.ReadLemmas.{item_read, item_refused}
use Rattle.content_json.proofs.tokens.unfit_list.Goals as goal

pub returns-then-not-pass_value-clause-read : goal.returns-then-not-pass_value-clause-read
returns-then-not-pass_value-clause-read c n enough going =
    let ts = token_of c.args.item ∷ c.args.reader.now in
    let failed : c.pass_value.result ≡ false = grind arith in
    item_refused (value c.args.depth) n ts going (subst (λ b. IsPassedOver b (value_of_tokens c.args.depth ts) c.pass_value.new.reader) failed c.pass_value.ensures.passes)

pub returns-then-not-pass_items-clause-read : goal.returns-then-not-pass_items-clause-read
returns-then-not-pass_items-clause-read c n enough going =
    let ts = token_of c.args.item ∷ c.args.reader.now in
    let r = c.pass_value.new.reader in
    let done : c.pass_value.result ≡ true = grind arith in
    let one = subst (λ b. IsPassedOver b (value_of_tokens c.args.depth ts) r) done c.pass_value.ensures.passes in
    let failed : c.pass_items.result ≡ false = grind arith in
    let none = subst (λ b. IsPassedOver b (items_within (n - 1) c.args.depth r) c.pass_items.new.reader) failed (c.pass_items.ensures.passes (n - 1) (omega (arith, enough, c.pass_value.ensures.shorter))) in
    item_read (value c.args.depth) n ts r one.0 (omega (arith, enough)) going one.1 ∙ ap (parse_map (item one.0)) none

pub returns-clause-read : goal.returns-clause-read
returns-clause-read c n enough going =
    let ts = token_of c.args.item ∷ c.args.reader.now in
    let r = c.pass_value.new.reader in
    let done : c.pass_value.result ≡ true = grind arith in
    let one = subst (λ b. IsPassedOver b (value_of_tokens c.args.depth ts) r) done c.pass_value.ensures.passes in
    let all : c.pass_items.result ≡ true = grind arith in
    let more = subst (λ b. IsPassedOver b (items_within (n - 1) c.args.depth r) c.pass_items.new.reader) all (c.pass_items.ensures.passes (n - 1) (omega (arith, enough, c.pass_value.ensures.shorter))) in
    (refl, one.0, r, one.1, more.0, item_read (value c.args.depth) n ts r one.0 (omega (arith, enough)) going one.1 ∙ ap (parse_map (item one.0)) more.1)
