-- What an object whose names may all stand says of its members.
use Rattle.std.proofs.Common.{◌≡◌, ℕ, List, Bool, true, false, not, ◌||◌, Option, Some, None, option_map, if◌then◌else◌, refl, sym, ap, ◌∙◌}
use Rattle.std.specs.Option.{option_or}
use Rattle.sp_base.proofs.BoolLemmas.{or_second}
use Rattle.serde_json.specs.Data.{Data, Members, member}
use Rattle.content_json.specs.Names.{is_order, is_content_name, has_bad_name}
use Rattle.content_json.specs.Faults.{own_fault, has_good_order, in_member, fault_in}
use Rattle.content_json.specs.Steps.{member_fault}

split : (a b rest : Bool) → (not (a || b) || rest) ≡ false → a ≡ false → b ≡ true
split true b rest h other = absurd (cc)
split false true rest h other = refl
split false false rest h other = absurd (cc)

pub is_plain-here : (name : List ℕ) (d : Data) (ms : Members) → has_bad_name (member name d ms) ≡ false → is_order name ≡ false → is_content_name name ≡ true
is_plain-here name d ms h other = split (is_order name) (is_content_name name) (has_bad_name ms) h other

pub has_bad_name-rest : (name : List ℕ) (d : Data) (ms : Members) → has_bad_name (member name d ms) ≡ false → has_bad_name ms ≡ false
has_bad_name-rest name d ms h = or_second _ _ h

first : {A : Type 0} (bad : Bool) (x : A) (rest : Option A) → (if bad then Some x else rest) ≡ None → bad ≡ false
first true x rest h = absurd (cc)
first false x rest h = refl

pub has_bad_name-from_own_fault : (ms : Members) → own_fault ms ≡ None → has_bad_name ms ≡ false
has_bad_name-from_own_fault ms h = first (has_bad_name ms) _ _ h

good_order : {A : Type 0} (bad good : Bool) (x y : A) → (if bad then Some x else (if good then None else Some y)) ≡ None → good ≡ true
good_order true good x y h = absurd (cc)
good_order false true x y h = refl
good_order false false x y h = absurd (cc)

pub has_good_order-from_own_fault : (ms : Members) → own_fault ms ≡ None → has_good_order ms ≡ true
has_good_order-from_own_fault ms h = good_order (has_bad_name ms) (has_good_order ms) _ _ h

-- what is the first of two and isn't there is neither
pub none_of_both : {A : Type 0} (a b : Option A) → option_or a b ≡ None → (a ≡ None) × (b ≡ None)
none_of_both None b h = (refl, h)
none_of_both (Some x) b h = absurd (cc)

none_of_map : {A B : Type 0} (f : A → B) (o : Option A) → option_map f o ≡ None → o ≡ None
none_of_map f None h = refl
none_of_map f (Some x) h = absurd (cc)

-- a member without a fault holds a value without one, but for `:order`
pub faultless_value : (name : List ℕ) (d : Data) → is_order name ≡ false → member_fault name d ≡ None → fault_in d ≡ None
faultless_value name d other h = none_of_map (in_member name) (fault_in d) (ap (λ t. if t then None else option_map (in_member name) (fault_in d)) (sym other) ∙ h)
