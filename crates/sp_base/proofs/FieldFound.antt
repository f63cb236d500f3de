-- The first field of a name, among fields whose values stand at places of bytes.
use Rattle.std.proofs.Common.{◌≡◌, ◌∙◌, ℕ, Bool, true, false, List, [], ◌∷◌, Option, Some, None, map, refl, sym, ap, subst}
use Rattle.std.specs.Prelude.{option_copied, option_map, nat_eq, All, IfSome, slice_range}
use Rattle.std.specs.Borrow.{Bor}
use Rattle.std.proofs.lemmas.List.Elements.{All-head, All-tail}
use Rattle.std.specs.List.{find}
use Rattle.std.specs.Cmp.Lexicographic.{pointwise}
use Rattle.sp_base.specs.declared.field.FieldSpan.{FieldSpan}
use Rattle.sp_base.specs.Fields.{field_at, field_of}

-- the field has the name
abbrev pub has_name : List ℕ → FieldSpan → Bool
has_name name field = pointwise nat_eq field.name name

-- what is found among the fields is what is found among their places
find_map : (bytes name : List ℕ) (fields : List FieldSpan)
    → find (λ (field : List ℕ × List ℕ). pointwise nat_eq field.0 name) (map (field_at bytes) fields) ≡ option_map (field_at bytes) (find (has_name name) fields)
find_map bytes name [] = refl
find_map bytes name (field ∷ fields) = at (find_map bytes name fields) refl
  where
    at : {b : Bool} → find (λ (f : List ℕ × List ℕ). pointwise nat_eq f.0 name) (map (field_at bytes) fields) ≡ option_map (field_at bytes) (find (has_name name) fields) → has_name name field ≡ b
        → find (λ (f : List ℕ × List ℕ). pointwise nat_eq f.0 name) (map (field_at bytes) (field ∷ fields)) ≡ option_map (field_at bytes) (find (has_name name) (field ∷ fields))
    at {b = true} rest e = rw e refl
    at {b = false} rest e = rw e rest

-- what holds of all holds of the one that is found
pub found_in : {X : Type 0} (P : X → Type 0) (test : X → Bool) (xs : List X) → All P xs → IfSome (find test xs) P
found_in P test [] all = tt
found_in P test (x ∷ xs) all = at (found_in P test xs (All-tail P x xs all)) refl
  where
    at : {b : Bool} → IfSome (find test xs) P → test x ≡ b → IfSome (find test (x ∷ xs)) P
    at {b = true} rest e = rw e (All-head P x xs all)
    at {b = false} rest e = rw e rest

-- the same of one that is lent
pub found_at : {X : Type 0} (P : X → Type 0) (test : X → Bool) (xs : List X) (found : Option (Bor X)) (x : Bor X) → All P xs → option_copied found ≡ find test xs → found ≡ Some x → P x.now
found_at P test xs found x all is some = subst (λ o. IfSome o P) (sym is ∙ ap option_copied some) (found_in P test xs all)

-- the value of the field that was found
pub value_found : (bytes name : List ℕ) (fields : List FieldSpan) (found : Option (Bor FieldSpan)) (field : Bor FieldSpan) (value : List ℕ)
    → option_copied found ≡ find (has_name name) fields → found ≡ Some field → value ≡ slice_range bytes field.now.start field.now.end
    → Some value ≡ field_of (map (field_at bytes) fields) name
value_found bytes name fields found field value is some v =
    let place : find (has_name name) fields ≡ Some field.now = sym is ∙ ap option_copied some in
    ap Some v ∙ sym (ap (option_map (λ (f : List ℕ × List ℕ). f.1)) (find_map bytes name fields ∙ ap (option_map (field_at bytes)) place))

-- no field has the name
pub none_found : (bytes name : List ℕ) (fields : List FieldSpan) (found : Option (Bor FieldSpan)) → option_copied found ≡ find (has_name name) fields → found ≡ None
    → None ≡ field_of (map (field_at bytes) fields) name
none_found bytes name fields found is none =
    let place : find (has_name name) fields ≡ None = sym is ∙ ap option_copied none in
    sym (ap (option_map (λ (f : List ℕ × List ℕ). f.1)) (find_map bytes name fields ∙ ap (option_map (field_at bytes)) place))
