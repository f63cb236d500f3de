use Rattle.std.proofs.Common.{◌≡◌, ◌-◌, [], ◌∷◌, length, None, refl, sym, ap, ◌∙◌, subst, arith}
use Rattle.std.specs.Prelude.{MatchOption}
use Rattle.json.specs.Json.{parse_map, after_end_array, value}
use Rattle.json.specs.Reads.{token_of}
use Rattle.serde_json.specs.Data.{string}
use Rattle.content_json.specs.Parts.{items_from}
use Rattle.content_json.specs.Tokens.{value_of_tokens, items_of_tokens, items_within, list_items, items_then, Mixes, AddsToken}
use Rattle.content_json.proofs.ReadLemmas.{item_read, item_refused, items_over, none_before}
use Rattle.content_json.proofs.PassLemmas.{none_left, one_value}
use Rattle.content_json.proofs.ListLemmas.{one_more_item, unfit_made, list_made}
use Rattle.content_json.proofs.tokens.list.Goals as goal

pub items-init : goal.items-init
items-init c =
    let all = items_of_tokens c.args.depth c.args.reader.now in
    (length c.args.reader.now, omega arith, (refl, refl, refl), none_before all ∙ ap (λ ts. parse_map (items_then (items_from string ts)) all) (sym c.new.ensures), omega arith)

pub returns-in_default-clause-read : goal.returns-in_default-clause-read
returns-in_default-clause-read c =
    let l = c.items in
    let inv = l.invariant in
    let going : (after_end_array l.reader ≡ None) × (c.take_end_array.new.self ≡ l.reader) = grind arith in
    let empty : l.reader ≡ [] = grind arith in
    inv.3 ∙ ap (parse_map (items_then (list_items l.list))) (item_refused (value c.args.depth) inv.0 l.reader going.0 (none_left c.args.depth l.reader empty))

pub items-preserved : goal.items-preserved
items-preserved c =
    let l = c.items in
    let inv = l.invariant in
    let n = inv.0 in
    let r = c.next.new.self in
    let t = token_of c.in-Some.item in
    let going : (after_end_array l.reader ≡ None) × (c.take_end_array.new.self ≡ l.reader) = grind arith in
    let first : l.reader ≡ t ∷ r = grind arith in
    let adds = subst (λ o. MatchOption o (Mixes l.list t) (AddsToken l.list t)) c.in-Some-2.is c.in_ok-longer.ensures in
    let turn = item_read (value c.args.depth) n l.reader r adds.0 (omega (arith, inv.1, ap length first)) going.0 (ap (value_of_tokens c.args.depth) first ∙ one_value c.args.depth t r adds.0 adds.1) in (
      n - 1,
      omega (arith, inv.1, ap length first),
      adds.2.0,
      inv.3 ∙ ap (parse_map (items_then (list_items l.list))) turn
          ∙ one_more_item (items_then (list_items l.list)) (items_then (list_items c.in-Some-2.longer)) adds.0 (items_within (n - 1) c.args.depth r) adds.2.1,
      omega (arith, inv.4, ap length first),
    )

pub returns-in-None-clause-read : goal.returns-in-None-clause-read
returns-in-None-clause-read c =
    let l = c.items in
    let inv = l.invariant in
    let n = inv.0 in
    let r = c.next.new.self in
    let t = token_of c.in-Some.item in
    let going : (after_end_array l.reader ≡ None) × (c.take_end_array.new.self ≡ l.reader) = grind arith in
    let first : l.reader ≡ t ∷ r = grind arith in
    let mixes = subst (λ o. MatchOption o (Mixes l.list t) (AddsToken l.list t)) c.in-None.is c.in_ok-longer.ensures in
    unfit_made c.args.depth n c.args.reader.now r c.unfit_list.new.reader l.list t c.unfit_list.result (inv.3 ∙ ap (λ ts. parse_map (items_then (list_items l.list)) (items_within n c.args.depth ts)) first) mixes
    (c.unfit_list.ensures.read n (omega (arith, inv.1, ap length first)) (ap after_end_array (sym first) ∙ going.0))

pub returns-clause-read : goal.returns-clause-read
returns-clause-read c =
    let l = c.items in
    let inv = l.invariant in
    let r = c.take_end_array.new.self in
    list_made c.args.depth inv.0 c.args.reader.now l.reader r l.list inv.3 inv.2 (items_over (value c.args.depth) inv.0 l.reader r inv.1 (grind arith))
