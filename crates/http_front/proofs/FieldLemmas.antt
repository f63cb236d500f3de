-- Field lines that are written one after another.
use Rattle.std.proofs.Common.{◌≡◌, ℕ, List, ◌++◌, sym, ◌∙◌, ap, append_assoc}
use Rattle.std.specs.Prelude.{flat_map}
use Rattle.std.proofs.lemmas.List.Concat.{flat_map-append}
use Rattle.http_front.specs.Answers.{field_line, unless_empty}

-- what is written after what was written
pub after : {X : Type 0} (f : X → List ℕ) (out last : List ℕ) (a b : List X) → last ≡ out ++ flat_map f a → last ++ flat_map f b ≡ out ++ flat_map f (a ++ b)
after f out last a b e = ap (λ l. l ++ flat_map f b) e ∙ append_assoc out (flat_map f a) (flat_map f b) ∙ ap (λ l. out ++ l) (sym (flat_map-append f a b))

pub six : {X : Type 0} (f : X → List ℕ) (out o1 o2 o3 o4 o5 o6 : List ℕ) (a b c d e g : List X)
    → o1 ≡ out ++ flat_map f a → o2 ≡ o1 ++ flat_map f b → o3 ≡ o2 ++ flat_map f c → o4 ≡ o3 ++ flat_map f d → o5 ≡ o4 ++ flat_map f e → o6 ≡ o5 ++ flat_map f g
    → o6 ≡ out ++ flat_map f (a ++ b ++ c ++ d ++ e ++ g)
six {X = X} f out o1 o2 o3 o4 o5 o6 a b c d e g p q r s t u =
    let two = q ∙ after f out o1 a b p in
    let three = r ∙ after f out o2 (a ++ b) c two in
    let four = s ∙ after f out o3 ((a ++ b) ++ c) d three in
    let five = t ∙ after f out o4 (((a ++ b) ++ c) ++ d) e four in
    let all = u ∙ after f out o5 ((((a ++ b) ++ c) ++ d) ++ e) g five in
    all ∙ ap (λ l. out ++ flat_map f l) (regroup a b c d e g)
  where
    regroup : (a b c d e g : List X) → ((((a ++ b) ++ c) ++ d) ++ e) ++ g ≡ a ++ b ++ c ++ d ++ e ++ g
    regroup a b c d e g = simp append_assoc

-- a field of this value, which was handed on as another name of it
pub of_value : (out last name given value : List ℕ) → last ≡ out ++ flat_map field_line (unless_empty name given) → given ≡ value
    → last ≡ out ++ flat_map field_line (unless_empty name value)
of_value out last name given value e same = e ∙ ap (λ v. out ++ flat_map field_line (unless_empty name v)) same
