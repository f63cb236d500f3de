-- A value's JSON is at most one deep.
use Rattle.std.proofs.Common.{List, [], arith, refl, ◌∷◌, ◌≡◌, ◌≤◌}
use Rattle.json.specs.Json as json
use Rattle.json.specs.Tree.{depth, items_depth}
use Rattle.sp_base.specs.declared.value.Value.{Value}
use Rattle.sp_base.specs.declared.value.Value.TheVariants.{Long, Longs, Text, Texts, Truth, Truths}
use Rattle.property_json.specs.PropertyJson.{items_of, json_of_long, json_of_value}

pub items_flat : {A : Type 0} (f : A → json.Json) → ((x : A) → depth (f x) ≡ 0) → (xs : List A) → items_depth (items_of f xs) ≡ 0
items_flat f flat [] = refl
items_flat f flat (x ∷ xs) = omega (arith, flat x, items_flat f flat xs)

pub value_depth : (v : Value) → depth (json_of_value v) ≤ 1
value_depth (Text t) = omega arith
value_depth (Long n) = omega arith
value_depth (Truth b) = omega arith
value_depth (Texts ts) = omega (arith, items_flat json.string (λ x. refl) ts)
value_depth (Longs ns) = omega (arith, items_flat json_of_long (λ x. refl) ns)
value_depth (Truths bs) = omega (arith, items_flat json.boolean (λ x. refl) bs)
