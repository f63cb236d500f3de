-- Variables that are too long, and what stands in a round then.
use Rattle.std.proofs.Common.{◌≡◌, ◌≢◌, ◌≤◌, ◌<◌, ◌+◌, inl, ℕ, Bool, cond, List, [], ◌∷◌, ◌++◌, length, ap, sym, subst, ◌∙◌, arith, append_assoc, length-append}
use Rattle.std.proofs.lemmas.Bool.{le-ltb, lt-ltb}
use Rattle.std.proofs.lemmas.List.Concat.{flat_map-append}
use Rattle.sp_base.specs.Limits.{most_rendered_bytes}
use Rattle.htl_expr.specs.Bindings.{Bindings, with_vars}
use Rattle.htl_blocks.specs.Parts.{Part, Round, is_round, part_text, rounds, text_of_parts, text_parts}
use Rattle.htl_blocks.specs.Refused.{IsRefused, looked_at, most_rounds}
use Rattle.htl_blocks.specs.declared.run_fault.RunFault.{RunFault}
use Rattle.htl_blocks.specs.declared.run_fault.RunFault.TheVariants.{TooLong, NoMemory}
use Rattle.htl_blocks.specs.Sheets.{SheetText, IsOverLimit, Stops, kept, with_parts}
use Rattle.htl_blocks.specs.VariableRoom.{vars_len}
use Rattle.htl_blocks.specs.Written.{round_parts, text_of_vars, with_variable, within_room}
use Rattle.htl_blocks.specs.WrittenLaws.{IsRefusedIfRoundIsOneTooMany, IsRefusedIfVariablesAreTooLong, IsWrittenIfVariablesFit}
use Rattle.htl_blocks.proofs.LookedAt.{beginning_looked_at, round_first, round_not_looked_at}
use Rattle.htl_blocks.proofs.PieceLemmas.{not_above, text_kept}
use Rattle.htl_blocks.proofs.SheetLemmas.{count-append, passed_at_end}
use Rattle.htl_blocks.proofs.SheetSteps.{no_rounds, text_of_text}

-- one variable more
pub vars_len_more : (name text : List ℕ) (vars : List (List ℕ × List ℕ)) → vars_len ((name, text) ∷ vars) ≡ (length name + length text) + vars_len vars
vars_len_more name text vars = length-append (name ++ text) (text_of_vars vars) ∙ ap (λ (n : ℕ). n + vars_len vars) (length-append name text)

-- where they fit, what stands in the element stands
pub stands : (inside : Bindings → List Part) (scope : Bindings) (name item : List ℕ) → IsWrittenIfVariablesFit inside scope name item
stands inside scope name item fits =
    let vars = (with_variable scope name item).vars in
    ap (λ (b : Bool). Round ∷ cond b (text_parts (text_of_vars vars)) (inside (with_variable scope name item))) (le-ltb most_rendered_bytes (length (text_of_vars vars)) fits)

-- else they themselves
they_stand : (inside : Bindings → List Part) (scope : Bindings) (name item : List ℕ) → most_rendered_bytes < length (text_of_vars ((name, item) ∷ scope.vars))
    → round_parts name inside scope item ≡ Round ∷ text_parts (text_of_vars ((name, item) ∷ scope.vars))
they_stand inside scope name item long =
    let vars = (with_variable scope name item).vars in
    ap (λ (b : Bool). Round ∷ cond b (text_parts (text_of_vars vars)) (inside (with_variable scope name item))) (lt-ltb most_rendered_bytes (length (text_of_vars vars)) long)

-- so the text of the round is too long
long_round : (inside : Bindings → List Part) (scope : Bindings) (name item : List ℕ) → most_rendered_bytes < length (text_of_vars ((name, item) ∷ scope.vars)) → most_rendered_bytes < length (text_of_parts (round_parts name inside scope item))
long_round inside scope name item long =
    let same = ap (λ (ps : List Part). length (text_of_parts ps)) (they_stand inside scope name item long) in
    let itself = ap (length {A = ℕ}) (text_of_text (text_of_vars ((name, item) ∷ scope.vars))) in
    omega (arith, long, same, itself)

-- one round
one_round : (inside : Bindings → List Part) (scope : Bindings) (name item : List ℕ) → most_rendered_bytes < length (text_of_vars ((name, item) ∷ scope.vars)) → rounds (round_parts name inside scope item) ≡ 1
one_round inside scope name item long =
    let same = ap rounds (they_stand inside scope name item long) in
    let first = round_first (text_parts (text_of_vars ((name, item) ∷ scope.vars))) in
    let none = no_rounds (text_of_vars ((name, item) ∷ scope.vars)) in
    omega (arith, same, first, none)

pub refused : (inside : Bindings → List Part) (scope : Bindings) (name item : List ℕ) → IsRefusedIfVariablesAreTooLong inside scope name item
refused inside scope name item before after long few =
    let round = round_parts name inside scope item in
    let text = ap (length {A = ℕ}) (flat_map-append part_text before round) in
    let sum = length-append (text_of_parts before) (text_of_parts round) in
    let over = long_round inside scope name item long in
    let both = count-append is_round before round in
    let one = one_round inside scope name item long in
    let looked = beginning_looked_at most_rounds (before ++ round) after (omega (arith, both, one, few)) in
    subst (IsRefused TooLong) (append_assoc before round after) (omega (arith, text, sum, over, looked))

-- a round that is one too many
pub refused_before : (inside : Bindings → List Part) (scope : Bindings) (name item : List ℕ) → IsRefusedIfRoundIsOneTooMany inside scope name item
refused_before inside scope name item before after enough =
    let round = round_parts name inside scope item in
    let same = round_not_looked_at most_rounds before (within_room inside (with_variable scope name item) ++ after) enough in
    let both = count-append is_round before (round ++ after) in
    let first = round_first (within_room inside (with_variable scope name item) ++ after) in (
      λ long. subst (λ (ps : List Part). most_rendered_bytes < length (text_of_parts ps)) (sym same) long,
      λ fits. (subst (λ (ps : List Part). length (text_of_parts ps) ≤ most_rendered_bytes) (sym same) (not_above most_rendered_bytes (length (text_of_parts (looked_at before))) fits), inl (omega (arith, both, first, enough))),
    )

-- and what is written with it
pub item_stops : (f : RunFault) (old mid : SheetText) (inside : Bindings → List Part) (vars : List (List ℕ × List ℕ)) (name item : List ℕ) → mid ≡ with_parts old (Round ∷ []) → mid.rounds ≤ most_rounds
    → (f ≢ NoMemory → (f ≡ TooLong) × (most_rendered_bytes < length (text_of_vars ((name, item) ∷ vars)))) → Stops f old (round_parts name inside (with_vars old.scope vars) item)
item_stops f old mid inside vars name item begun few h = λ ne.
    let both = h ne in
    let round = round_parts name inside (with_vars old.scope vars) item in
    let one = ap (length {A = ℕ}) (flat_map-append part_text old.parts (kept old.keeping round)) in
    let two = length-append (text_of_parts old.parts) (text_of_parts (kept old.keeping round)) in
    let three = ap (length {A = ℕ}) (text_kept old.keeping round) in
    let long = long_round inside (with_vars old.scope vars) name item both.1 in
    let count = ap (λ (s : SheetText). s.rounds) begun in
    let single = one_round inside (with_vars old.scope vars) name item both.1 in
    let over : IsOverLimit TooLong (with_parts old round) = (omega (arith, count, single, few), omega (arith, one, two, three, long)) in
    passed_at_end f old round (subst (λ (g : RunFault). IsOverLimit g (with_parts old round)) (sym both.0) over)
