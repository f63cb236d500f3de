-- One more name of `:order`.
use Rattle.std.proofs.Common.{◌≡◌, ℕ, List, ◌∷◌, ◌+◌, ◌<◌, suc, Bool, true, false, cond, ◌||◌, Some, length, drop, get_or, add-one, drop-cons, refl, sym, ap}
use Rattle.std.specs.List.{list_any}
use Rattle.std.specs.Str.{bytes_eq}
use Rattle.serde_json.specs.Data.{Data, Items, item, Members}
use Rattle.serde_json.specs.Find.{as_str}
use Rattle.content_json.specs.Names.{is_kid}
use Rattle.content_json.specs.Faults.{names_kids}

pub names_kids-next : (ms : Members) (before : List (List ℕ)) (d : Data) (ds : Items) (name : List ℕ) → as_str d ≡ Some name → is_kid ms name ≡ true → list_any (λ other. bytes_eq other name) before ≡ false
    → names_kids ms before (item d ds) ≡ names_kids ms (name ∷ before) ds
names_kids-next ms before d ds name text kid apart = rw (text, kid, apart) refl

pub or_from_cond : (a b : Bool) → cond a true b ≡ (a || b)
or_from_cond true b = refl
or_from_cond false b = refl

-- the items that are left begin with this one
pub drop_here : {A : Type 0} (xs : List A) (i : ℕ) (x : A) → i < length xs → x ≡ get_or xs i x → drop i xs ≡ x ∷ drop (i + 1) xs
drop_here xs i x within is = rw (add-one, drop-cons xs i x) (ap (λ y. y ∷ drop (suc i) xs) (sym is))
