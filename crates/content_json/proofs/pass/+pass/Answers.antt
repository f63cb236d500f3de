use Rattle.std.proofs.Common.{◌≡◌, ◌<◌, ◌-◌, [], ◌∷◌, length, Some, None, nat_lt, refl, sym, ap, ◌∙◌, subst, arith, true, false}
use Rattle.json.specs.Json.{parse_map, after_end_array, read_key, value}
use Rattle.json.specs.Reads.{token_of}
use Rattle.json.proofs.Grammar.{read_key-shorter}
use Rattle.serde_json.specs.Data.{null, boolean, string, array, object, item, no_items, no_members, put}
use Rattle.content_json.proofs.ReadLemmas.{item_read, item_refused, items_over, member_read, member_refused, key_refused, members_over, none_before}
use Rattle.content_json.specs.Tokens.{value_of_tokens, items_of_tokens, items_within, members_of_tokens, IsPassedOver}
use Rattle.content_json.proofs.PassLemmas.{one_value, no_value, none_left, array_in, object_in, no_array, no_object, passes_under, passes_number, named, keyed, twice}
use Rattle.content_json.proofs.pass.+pass.Goals as goal

pub pass_items-items-init : goal.pass_items-items-init
pass_items-items-init t c = (λ most enough. (most, (λ ds. ds), enough, none_before _), omega arith)

pub pass_items-returns-in_default-clause-passes : goal.pass_items-returns-in_default-clause-passes
pass_items-returns-in_default-clause-passes t c most enough =
    let l = c.items in
    let so_far = l.invariant.0 most enough in
    let going : (after_end_array l.reader ≡ None) × (c.take_end_array.new.self ≡ l.reader) = grind arith in
    let empty : l.reader ≡ [] = grind arith in
    so_far.3 ∙ ap (parse_map so_far.1) (item_refused (value c.args.depth) so_far.0 l.reader going.0 (none_left c.args.depth l.reader empty))

pub pass_items-returns-then-not-pass_value-clause-passes : goal.pass_items-returns-then-not-pass_value-clause-passes
pass_items-returns-then-not-pass_value-clause-passes t c most enough =
    let l = c.items in
    let so_far = l.invariant.0 most enough in
    let going : (after_end_array l.reader ≡ None) × (c.take_end_array.new.self ≡ l.reader) = grind arith in
    let first : l.reader ≡ token_of c.in-Some.first ∷ c.next.new.self = grind arith in
    let failed : c.pass_value.result ≡ false = grind arith in
    let none : value_of_tokens c.args.depth (token_of c.in-Some.first ∷ c.next.new.self) ≡ None = subst (λ b. IsPassedOver b (value_of_tokens c.args.depth (token_of c.in-Some.first ∷ c.next.new.self)) c.pass_value.new.reader) failed c.pass_value.ensures.passes in
    so_far.3 ∙ ap (parse_map so_far.1) (item_refused (value c.args.depth) so_far.0 l.reader going.0 (ap (value_of_tokens c.args.depth) first ∙ none))

pub pass_items-items-preserved : goal.pass_items-items-preserved
pass_items-items-preserved t c =
    let l = c.items in
    let p = value c.args.depth in
    let r = c.pass_value.new.reader in
    let going : (after_end_array l.reader ≡ None) × (c.take_end_array.new.self ≡ l.reader) = grind arith in
    let first : l.reader ≡ token_of c.in-Some.first ∷ c.next.new.self = grind arith in
    let done : c.pass_value.result ≡ true = grind arith in
    let one = subst (λ b. IsPassedOver b (value_of_tokens c.args.depth (token_of c.in-Some.first ∷ c.next.new.self)) r) done c.pass_value.ensures.passes in
    let fewer : length r < length l.reader = omega (arith, ap length first, c.pass_value.ensures.shorter) in (
      λ most enough.
          let so_far = l.invariant.0 most enough in
          let n = so_far.0 in (
            n - 1,
            (λ ds. so_far.1 (item one.0 ds)),
            omega (arith, so_far.2, fewer),
            so_far.3 ∙ ap (parse_map so_far.1) (item_read p n l.reader r one.0 (omega (arith, so_far.2, fewer)) going.0 (ap (value_of_tokens c.args.depth) first ∙ one.1)) ∙ twice so_far.1 (item one.0) (items_within (n - 1) c.args.depth r),
          ),
      omega (arith, l.invariant.1, fewer),
    )

pub pass_items-returns-clause-passes : goal.pass_items-returns-clause-passes
pass_items-returns-clause-passes t c most enough =
    let l = c.items in
    let so_far = l.invariant.0 most enough in
    let r = c.take_end_array.new.self in
    (so_far.1 no_items, so_far.3 ∙ ap (parse_map so_far.1) (items_over (value c.args.depth) so_far.0 l.reader r so_far.2 (grind arith)))

pub pass_members-members-init : goal.pass_members-members-init
pass_members-members-init t c = (length c.args.reader.now, no_members, omega arith, refl, omega arith)

pub pass_members-returns-in_default-clause-passes : goal.pass_members-returns-in_default-clause-passes
pass_members-returns-in_default-clause-passes t c =
    let l = c.members in
    l.invariant.3 ∙ key_refused (value c.args.depth) l.invariant.1 l.invariant.0 l.reader (grind arith)

pub pass_members-returns-then-is_none-clause-passes : goal.pass_members-returns-then-is_none-clause-passes
pass_members-returns-then-is_none-clause-passes t c =
    let l = c.members in
    let key : read_key l.reader ≡ Some (None, c.next_key.new.self) = grind arith in
    (l.invariant.1, l.invariant.3 ∙ members_over (value c.args.depth) l.invariant.1 l.invariant.0 l.reader c.next_key.new.self l.invariant.2 key)

pub pass_members-returns-in_default-next-clause-passes : goal.pass_members-returns-in_default-next-clause-passes
pass_members-returns-in_default-next-clause-passes t c =
    let l = c.members in
    let empty : c.next_key.new.self ≡ [] = grind arith in
    let some = named c.in-Ok.key (grind arith) in
    let key : read_key l.reader ≡ Some (Some some.0, c.next_key.new.self) = keyed l.reader c.next_key.new.self c.in-Ok.key some.0 some.1 (grind arith) in
    l.invariant.3 ∙ member_refused (value c.args.depth) l.invariant.1 l.invariant.0 some.0 l.reader c.next_key.new.self key (none_left c.args.depth c.next_key.new.self empty)

pub pass_members-returns-then-not-pass_value-clause-passes : goal.pass_members-returns-then-not-pass_value-clause-passes
pass_members-returns-then-not-pass_value-clause-passes t c =
    let l = c.members in
    let s = c.next_key.new.self in
    let some = named c.in-Ok.key (grind arith) in
    let key : read_key l.reader ≡ Some (Some some.0, s) = keyed l.reader s c.in-Ok.key some.0 some.1 (grind arith) in
    let first : s ≡ token_of c.in-Some.first ∷ c.next.new.self = grind arith in
    let failed : c.pass_value.result ≡ false = grind arith in
    let none : value_of_tokens c.args.depth (token_of c.in-Some.first ∷ c.next.new.self) ≡ None = subst (λ b. IsPassedOver b (value_of_tokens c.args.depth (token_of c.in-Some.first ∷ c.next.new.self)) c.pass_value.new.reader) failed c.pass_value.ensures.passes in
    l.invariant.3 ∙ member_refused (value c.args.depth) l.invariant.1 l.invariant.0 some.0 l.reader s key (ap (value_of_tokens c.args.depth) first ∙ none)

pub pass_members-members-preserved : goal.pass_members-members-preserved
pass_members-members-preserved t c =
    let l = c.members in
    let s = c.next_key.new.self in
    let r = c.pass_value.new.reader in
    let n = l.invariant.0 in
    let some = named c.in-Ok.key (grind arith) in
    let key : read_key l.reader ≡ Some (Some some.0, s) = keyed l.reader s c.in-Ok.key some.0 some.1 (grind arith) in
    let first : s ≡ token_of c.in-Some.first ∷ c.next.new.self = grind arith in
    let done : c.pass_value.result ≡ true = grind arith in
    let one = subst (λ b. IsPassedOver b (value_of_tokens c.args.depth (token_of c.in-Some.first ∷ c.next.new.self)) r) done c.pass_value.ensures.passes in
    let less = read_key-shorter l.reader (Some some.0) s key in
    let fewer : length r < length l.reader = omega (arith, ap length first, c.pass_value.ensures.shorter, less) in (
      n - 1,
      put some.0 one.0 l.invariant.1,
      omega (arith, l.invariant.2, fewer),
      l.invariant.3 ∙ member_read (value c.args.depth) l.invariant.1 n some.0 l.reader s r one.0 (omega (arith, l.invariant.2, fewer)) key (ap (value_of_tokens c.args.depth) first ∙ one.1),
      omega (arith, l.invariant.4, fewer),
    )

pub pass_value-returns-in-String-clause-passes : goal.pass_value-returns-in-String-clause-passes
pass_value-returns-in-String-clause-passes t c = (string c.in-String.field-0.now, ap (λ k. value_of_tokens c.args.depth (token_of k ∷ c.args.reader.now)) c.in-String.is ∙ one_value c.args.depth _ c.args.reader.now _ refl)

pub pass_value-returns-in-Bool-clause-passes : goal.pass_value-returns-in-Bool-clause-passes
pass_value-returns-in-Bool-clause-passes t c = (boolean c.in-Bool.field-0, ap (λ k. value_of_tokens c.args.depth (token_of k ∷ c.args.reader.now)) c.in-Bool.is ∙ one_value c.args.depth _ c.args.reader.now _ refl)

pub pass_value-returns-in-Null-clause-passes : goal.pass_value-returns-in-Null-clause-passes
pass_value-returns-in-Null-clause-passes t c = (null, ap (λ k. value_of_tokens c.args.depth (token_of k ∷ c.args.reader.now)) c.in-Null.is ∙ one_value c.args.depth _ c.args.reader.now _ refl)

pub pass_value-returns-in-Number-clause-passes : goal.pass_value-returns-in-Number-clause-passes
pass_value-returns-in-Number-clause-passes t c =
    subst (λ o. IsPassedOver c.has_number.result o c.args.reader.now) (sym (ap (λ k. value_of_tokens c.args.depth (token_of k ∷ c.args.reader.now)) c.in-Number.is)) (passes_number c.args.depth c.in-Number.text.now c.args.reader.now c.has_number.result c.has_number.ensures)

pub pass_value-returns-then-depth-gt0-clause-passes : goal.pass_value-returns-then-depth-gt0-clause-passes
pass_value-returns-then-depth-gt0-clause-passes t c =
    let ts = c.args.reader.now in
    subst (λ o. IsPassedOver c.pass_items.result o c.pass_items.new.reader) (sym (ap (λ k. value_of_tokens c.args.depth (token_of k ∷ ts)) c.in-BeginArray.is ∙ array_in c.args.depth ts (omega (arith, c.if-depth-gt0.true))))
    (passes_under array c.pass_items.result (items_of_tokens (c.args.depth - 1) ts) c.pass_items.new.reader (c.pass_items.ensures.passes (length ts) (omega arith)))

pub pass_value-returns-else-depth-gt0-clause-passes : goal.pass_value-returns-else-depth-gt0-clause-passes
pass_value-returns-else-depth-gt0-clause-passes t c =
    let ts = c.args.reader.now in
    let none : c.args.depth ≡ 0 = omega (arith, c.if-depth-gt0.false) in
    subst (λ b. IsPassedOver b (value_of_tokens c.args.depth (token_of c.args.first ∷ ts)) ts) (sym (ap (nat_lt 0) none)) (ap (λ k. value_of_tokens c.args.depth (token_of k ∷ ts)) c.in-BeginArray.is ∙ no_array c.args.depth ts none)

pub pass_value-returns-then-depth-gt0-2-clause-passes : goal.pass_value-returns-then-depth-gt0-2-clause-passes
pass_value-returns-then-depth-gt0-2-clause-passes t c =
    let ts = c.args.reader.now in
    subst (λ o. IsPassedOver c.pass_members.result o c.pass_members.new.reader) (sym (ap (λ k. value_of_tokens c.args.depth (token_of k ∷ ts)) c.in-BeginObject.is ∙ object_in c.args.depth ts (omega (arith, c.if-depth-gt0-2.true))))
    (passes_under object c.pass_members.result (members_of_tokens (c.args.depth - 1) ts) c.pass_members.new.reader c.pass_members.ensures.passes)

pub pass_value-returns-else-depth-gt0-2-clause-passes : goal.pass_value-returns-else-depth-gt0-2-clause-passes
pass_value-returns-else-depth-gt0-2-clause-passes t c =
    let ts = c.args.reader.now in
    let none : c.args.depth ≡ 0 = omega (arith, c.if-depth-gt0-2.false) in
    subst (λ b. IsPassedOver b (value_of_tokens c.args.depth (token_of c.args.first ∷ ts)) ts) (sym (ap (nat_lt 0) none)) (ap (λ k. value_of_tokens c.args.depth (token_of k ∷ ts)) c.in-BeginObject.is ∙ no_object c.args.depth ts none)

pub pass_value-returns-in-EndObject-clause-passes : goal.pass_value-returns-in-EndObject-clause-passes
pass_value-returns-in-EndObject-clause-passes t c = ap (λ k. value_of_tokens c.args.depth (token_of k ∷ c.args.reader.now)) c.in-EndObject.is ∙ no_value c.args.depth _ c.args.reader.now refl

pub pass_value-returns-in-EndArray-clause-passes : goal.pass_value-returns-in-EndArray-clause-passes
pass_value-returns-in-EndArray-clause-passes t c = ap (λ k. value_of_tokens c.args.depth (token_of k ∷ c.args.reader.now)) c.in-EndArray.is ∙ no_value c.args.depth _ c.args.reader.now refl

pub pass_value-returns-in-Key-clause-passes : goal.pass_value-returns-in-Key-clause-passes
pass_value-returns-in-Key-clause-passes t c = ap (λ k. value_of_tokens c.args.depth (token_of k ∷ c.args.reader.now)) c.in-Key.is ∙ no_value c.args.depth _ c.args.reader.now refl

pub pass_value-returns-in-Bad-clause-passes : goal.pass_value-returns-in-Bad-clause-passes
pass_value-returns-in-Bad-clause-passes t c = ap (λ k. value_of_tokens c.args.depth (token_of k ∷ c.args.reader.now)) c.in-Bad.is ∙ no_value c.args.depth _ c.args.reader.now refl
