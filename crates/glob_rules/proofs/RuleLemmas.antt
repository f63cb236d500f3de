-- The last entry that applies decides.
use Rattle.std.proofs.Common.{◌≡◌, ◌<◌, ◌≤◌, ℕ, Bool, true, false, cond, List, [], ◌∷◌, ◌++◌, filter, take, length, get_or, ◌-◌, refl, ap, ◌∙◌}
use Rattle.std.proofs.lemmas.List.Elements.{filter-append}
use Rattle.std.proofs.lemmas.List.{append-nil}
use Rattle.std.specs.Str.{chars}
use Rattle.sp_base.proofs.ListLemmas.{take_last}
use Rattle.glob_rules.specs.declared.rule.Rule.{Rule}
use Rattle.glob_rules.specs.Globs.{is_match}
use Rattle.glob_rules.specs.Rules.{last_says, decision, allows}

pub says_last : {A : Type 0} (says : A → Bool) (xs : List A) (x : A) → last_says says (xs ++ x ∷ []) ≡ says x
says_last says [] x = refl
says_last says (y ∷ []) x = refl
says_last says (y ∷ z ∷ xs) x = says_last says (z ∷ xs) x

pub last_applies : {A : Type 0} (applies says : A → Bool) (xs : List A) (x : A) → applies x ≡ true → decision applies says (xs ++ x ∷ []) ≡ says x
last_applies {A} applies says xs x holds =
    ap (last_says says) (filter-append applies xs (x ∷ []) ∙ ap (λ (b : Bool). filter applies xs ++ cond b (x ∷ []) []) holds)
    ∙ says_last says (filter applies xs) x

pub last_passes : {A : Type 0} (applies says : A → Bool) (xs : List A) (x : A) → applies x ≡ false → decision applies says (xs ++ x ∷ []) ≡ decision applies says xs
last_passes {A} applies says xs x fails =
    ap (last_says says) (filter-append applies xs (x ∷ []) ∙ ap (λ (b : Bool). filter applies xs ++ cond b (x ∷ []) []) fails ∙ append-nil (filter applies xs))

abbrev pub applies_to : List ℕ → Rule → Bool
applies_to text rule = is_match rule.glob (chars text)

pub allows_here : (rules : List Rule) (n : ℕ) (rule : Rule) (text : List ℕ) → 0 < n → n ≤ length rules → rule ≡ get_or rules (n - 1) rule → is_match rule.glob (chars text) ≡ true → allows (take n rules) text ≡ rule.allow
allows_here rules n rule text lt le e holds = ap (λ (l : List Rule). allows l text) (take_last rules n rule lt le e) ∙ last_applies (applies_to text) (λ r. r.allow) (take (n - 1) rules) rule holds

pub allows_before : (rules : List Rule) (n : ℕ) (rule : Rule) (text : List ℕ) → 0 < n → n ≤ length rules → rule ≡ get_or rules (n - 1) rule → is_match rule.glob (chars text) ≡ false → allows (take n rules) text ≡ allows (take (n - 1) rules) text
allows_before rules n rule text lt le e fails = ap (λ (l : List Rule). allows l text) (take_last rules n rule lt le e) ∙ last_passes (applies_to text) (λ r. r.allow) (take (n - 1) rules) rule fails
