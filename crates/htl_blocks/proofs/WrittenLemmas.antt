-- What is written item by item.
use Rattle.std.proofs.Common.{◌≡◌, Bool, true, false, ◌≤◌, ◌<◌, ◌+◌, ℕ, zero, suc, List, [], ◌∷◌, ◌++◌, take, drop, get_or, slice_get, length, Option, Some, None, Result, Err, refl, ap, sym, subst, ◌∙◌, append-nil, arith}
use Rattle.std.proofs.lemmas.List.{take_all, take_more, take-append-drop}
use Rattle.std.proofs.lemmas.Bool.{false≢true}
use Rattle.std.proofs.lemmas.List.Concat.{flat_map-append}
use Rattle.std.proofs.lemmas.List.Sums.{fold-append}
use Rattle.std.specs.List.{flat_map, slice_index_or}
use Rattle.htl_expr.specs.Bindings.{Bindings, with_vars}
use Rattle.htl_expr.specs.Value.{list_in}
use Rattle.htl_blocks.specs.Parts.{Part, Round, text_parts}
use Rattle.htl_blocks.specs.Pieces.{item_of, items_in, with_round, within}
use Rattle.htl_blocks.specs.declared.piece.Round.{Round as RoundOf}
use Rattle.htl_blocks.specs.declared.run_fault.RunFault.{RunFault}
use Rattle.htl_blocks.specs.declared.keeping.Keeping.{Keeping}
use Rattle.htl_blocks.specs.Sheets.{SheetText, empty_sheet, with_parts, Stops, WroteParts}
use Rattle.htl_blocks.specs.Written.{round_parts, statement_value, tag_parts}
use Rattle.htl_blocks.specs.VariableRoom.{HasVariableRoom}
use Rattle.htl_blocks.proofs.RoomLemmas.{stands}
use Rattle.htl_blocks.proofs.SheetLemmas.{after, stopped, with_both, with_none}

pub parts_of_one_more : {X : Type 0} (g : X → List Part) (xs : List X) (i : ℕ) (d x : X) → i < length xs → x ≡ get_or xs i d → flat_map g (take i xs) ++ g x ≡ flat_map g (take (i + 1) xs)
parts_of_one_more {X} g xs i d x lt is =
    ap (λ (ps : List Part). flat_map g (take i xs) ++ ps) (sym (append-nil (g x))) ∙ sym (flat_map-append g (take i xs) (x ∷ []))
    ∙ ap (flat_map g) (ap (λ (y : X). take i xs ++ y ∷ []) is ∙ sym (take_more xs i d lt))

-- the next item is written
pub each_more : {X : Type 0} (g : X → List Part) (s mid new : SheetText) (xs : List X) (i : ℕ) (d x : X) → i < length xs → x ≡ get_or xs i d → mid ≡ with_parts s (flat_map g (take i xs)) → new ≡ with_parts mid (g x)
    → new ≡ with_parts s (flat_map g (take (i + 1) xs))
each_more g s mid new xs i d x lt is known e =
    e ∙ ap (λ (m : SheetText). with_parts m (g x)) known ∙ with_both s (flat_map g (take i xs)) (g x) ∙ ap (with_parts s) (parts_of_one_more g xs i d x lt is)

-- the next item isn't written, nor are those after it
pub each_stopped : {X : Type 0} (g : X → List Part) (f : RunFault) (s mid new : SheetText) (xs : List X) (i : ℕ) (d x : X) → i < length xs → x ≡ get_or xs i d → mid ≡ with_parts s (flat_map g (take i xs))
    → Stops f mid (g x) → Stops f s (flat_map g xs)
each_stopped g f s mid new xs i d x lt is known w =
    let so_far = subst (λ (ps : List Part). Stops f s ps) (parts_of_one_more g xs i d x lt is) (after {A = ℕ} (Err f) s mid new (flat_map g (take i xs)) (g x) known w) in
    subst (λ (ps : List Part). Stops f s ps) (sym (flat_map-append g (take (i + 1) xs) (drop (i + 1) xs)) ∙ ap (flat_map g) (take-append-drop (i + 1) xs))
    (stopped f s new new (flat_map g (take (i + 1) xs)) (flat_map g (drop (i + 1) xs)) so_far)

-- all items are written
pub each_done : {X : Type 0} (g : X → List Part) (s new : SheetText) (xs : List X) (i : ℕ) → length xs ≤ i → new ≡ with_parts s (flat_map g (take i xs)) → new ≡ with_parts s (flat_map g xs)
each_done {X} g s new xs i le known = known ∙ ap (λ (ys : List X). with_parts s (flat_map g ys)) (take_all i xs le)

-- what a sheet is written for stays
pub same_scope : (s mid : SheetText) (ps : List Part) → mid ≡ with_parts s ps → mid.scope ≡ s.scope
same_scope s mid ps e = ap (λ (m : SheetText). m.scope) e

-- what is written where nothing was written before
pub at_once : {A : Type 0} (r : Result A RunFault) (s0 s1 s2 : SheetText) (vars : List (List ℕ × List ℕ)) (ps : Bindings → List Part) → s1 ≡ s0 → WroteParts r s1 s2 (ps (with_vars s1.scope vars)) → WroteParts r s0 s2 (ps (with_vars s0.scope vars))
at_once r s0 s1 s2 vars ps e w = subst (λ (m : SheetText). WroteParts r m s2 (ps (with_vars m.scope vars))) e w

-- what a second step writes for the variables of the first
pub second : {A : Type 0} (r : Result A RunFault) (s0 s1 s2 : SheetText) (vars : List (List ℕ × List ℕ)) (a : List Part) (b : Bindings → List Part) → s1 ≡ with_parts s0 a → WroteParts r s1 s2 (b (with_vars s1.scope vars))
    → WroteParts r s0 s2 (a ++ b (with_vars s0.scope vars))
second r s0 s1 s2 vars a b e w =
    after r s0 s1 s2 a (b (with_vars s0.scope vars)) e (subst (λ (scope : Bindings). WroteParts r s1 s2 (b (with_vars scope vars))) (same_scope s0 s1 a e) w)

-- an element in its tags
pub wrapped : {A : Type 0} (r : Result A RunFault) (s0 s1 s2 s3 : SheetText) (vars : List (List ℕ × List ℕ)) (a c : List Part) (b : Bindings → List Part) → s1 ≡ with_parts s0 a → s2 ≡ with_parts s1 (b (with_vars s1.scope vars))
    → WroteParts r s2 s3 c → WroteParts r s0 s3 (a ++ (b (with_vars s0.scope vars) ++ c))
wrapped r s0 s1 s2 s3 vars a c b e f w =
    second r s0 s1 s3 vars a (λ (scope : Bindings). b scope ++ c) e (after r s1 s2 s3 (b (with_vars s1.scope vars)) c f w)

-- an element whose content isn't written
pub stopped_inside : (f : RunFault) (s0 s1 s2 : SheetText) (vars : List (List ℕ × List ℕ)) (a c : List Part) (b : Bindings → List Part) → s1 ≡ with_parts s0 a → Stops f s1 (b (with_vars s1.scope vars))
    → Stops f s0 (a ++ (b (with_vars s0.scope vars) ++ c))
stopped_inside f s0 s1 s2 vars a c b e w =
    second {A = ℕ} (Err f) s0 s1 s2 vars a (λ (scope : Bindings). b scope ++ c) e (stopped f s1 s2 s2 (b (with_vars s1.scope vars)) c w)

-- a tag where the tags stand
pub tag_stands : {A : Type 0} (r : Result A RunFault) (old new : SheetText) (keeps : Bool) (t : List ℕ) → keeps ≡ true → WroteParts r old new (text_parts t) → WroteParts r old new (tag_parts keeps t)
tag_stands r old new true t e w = w
tag_stands r old new false t e w = absurd (false≢true e)

-- a tag where the tags don't stand
pub no_tag : (old : SheetText) (keeps : Bool) (t : List ℕ) → keeps ≡ false → old ≡ with_parts old (tag_parts keeps t)
no_tag old true t e = absurd (false≢true (sym e))
no_tag old false t e = sym (with_none old)

-- ---- settings

-- a setting stays one while more is written
pub setting_stays : (s mid : SheetText) (ps : List Part) (rounds : List RoundOf) (vars : List (List ℕ × List ℕ)) → mid ≡ with_parts s ps → within s.scope rounds ≡ with_vars s.scope vars → within mid.scope rounds ≡ with_vars mid.scope vars
setting_stays s mid ps rounds vars e h = subst (λ (scope : Bindings). within scope rounds ≡ with_vars scope vars) (sym (same_scope s mid ps e)) h

-- a setting in one round more
pub inner_setting : (scope : Bindings) (rounds inner : List RoundOf) (one : RoundOf) (vars : List (List ℕ × List ℕ)) (item : List ℕ) → within scope rounds ≡ with_vars scope vars → inner ≡ rounds ++ one ∷ []
    → item ≡ item_of (with_vars scope vars) one → within scope inner ≡ with_vars scope ((one.name.now, item) ∷ vars)
inner_setting scope rounds inner one vars item outer more is =
    ap (within scope) more ∙ fold-append with_round scope rounds (one ∷ []) ∙ ap (λ (here : Bindings). with_round here one) outer
    ∙ ap (λ (text : List ℕ). with_vars scope ((one.name.now, text) ∷ vars)) (sym is)

-- ---- elements

-- an element in its tags, or without them
pub in_tags : {A : Type 0} (r : Result A RunFault) (s0 s1 s2 s3 s4 : SheetText) (vars : List (List ℕ × List ℕ)) (keeps : Bool) (stand : Bindings → Bool) (start : Bindings → List ℕ) (end_tag : List ℕ) (b : Bindings → List Part)
    → s1 ≡ s0 → keeps ≡ stand (with_vars s0.scope vars) → s2 ≡ with_parts s1 (tag_parts keeps (start (with_vars s1.scope vars))) → s3 ≡ with_parts s2 (b (with_vars s2.scope vars)) → WroteParts r s3 s4 (tag_parts keeps end_tag)
    → WroteParts r s0 s4 (tag_parts (stand (with_vars s0.scope vars)) (start (with_vars s0.scope vars)) ++ (b (with_vars s0.scope vars) ++ tag_parts (stand (with_vars s0.scope vars)) end_tag))
in_tags r s0 s1 s2 s3 s4 vars keeps stand start end_tag b same is opened filled closed =
    let scope0 = with_vars s0.scope vars in
    let opened0 = subst (λ (s : SheetText). s2 ≡ with_parts s (tag_parts keeps (start (with_vars s.scope vars)))) same opened in
    subst (λ (k : Bool). WroteParts r s0 s4 (tag_parts k (start scope0) ++ (b scope0 ++ tag_parts k end_tag))) is
    (wrapped r s0 s2 s3 s4 vars (tag_parts keeps (start scope0)) (tag_parts keeps end_tag) b opened0 filled closed)

-- its start tag isn't written
pub start_stops : (f : RunFault) (s0 s1 s2 : SheetText) (vars : List (List ℕ × List ℕ)) (keeps : Bool) (stand : Bindings → Bool) (start : Bindings → List ℕ) (end_tag : List ℕ) (b : Bindings → List Part)
    → s1 ≡ s0 → keeps ≡ stand (with_vars s0.scope vars) → Stops f s1 (tag_parts keeps (start (with_vars s1.scope vars)))
    → Stops f s0 (tag_parts (stand (with_vars s0.scope vars)) (start (with_vars s0.scope vars)) ++ (b (with_vars s0.scope vars) ++ tag_parts (stand (with_vars s0.scope vars)) end_tag))
start_stops f s0 s1 s2 vars keeps stand start end_tag b same is opened =
    let scope0 = with_vars s0.scope vars in
    let opened0 = subst (λ (s : SheetText). Stops f s (tag_parts keeps (start (with_vars s.scope vars)))) same opened in
    subst (λ (k : Bool). Stops f s0 (tag_parts k (start scope0) ++ (b scope0 ++ tag_parts k end_tag))) is
    (stopped f s0 s2 s2 (tag_parts keeps (start scope0)) (b scope0 ++ tag_parts keeps end_tag) opened0)

-- what stands in it isn't written
pub inside_stops : (f : RunFault) (s0 s1 s2 s3 : SheetText) (vars : List (List ℕ × List ℕ)) (keeps : Bool) (stand : Bindings → Bool) (start : Bindings → List ℕ) (end_tag : List ℕ) (b : Bindings → List Part)
    → s1 ≡ s0 → keeps ≡ stand (with_vars s0.scope vars) → s2 ≡ with_parts s1 (tag_parts keeps (start (with_vars s1.scope vars))) → Stops f s2 (b (with_vars s2.scope vars))
    → Stops f s0 (tag_parts (stand (with_vars s0.scope vars)) (start (with_vars s0.scope vars)) ++ (b (with_vars s0.scope vars) ++ tag_parts (stand (with_vars s0.scope vars)) end_tag))
inside_stops f s0 s1 s2 s3 vars keeps stand start end_tag b same is opened filled =
    let scope0 = with_vars s0.scope vars in
    let opened0 = subst (λ (s : SheetText). s2 ≡ with_parts s (tag_parts keeps (start (with_vars s.scope vars)))) same opened in
    subst (λ (k : Bool). Stops f s0 (tag_parts k (start scope0) ++ (b scope0 ++ tag_parts k end_tag))) is
    (stopped_inside f s0 s2 s3 vars (tag_parts keeps (start scope0)) (tag_parts keeps end_tag) b opened0 filled)

-- ---- rounds

-- a round
pub round_written : {A : Type 0} (r : Result A RunFault) (old mid new : SheetText) (inside : Bindings → List Part) (vars inner : List (List ℕ × List ℕ)) (name item : List ℕ)
    → mid ≡ with_parts old (Round ∷ []) → inner ≡ (name, item) ∷ vars → HasVariableRoom name vars item → WroteParts r mid new (inside (with_vars mid.scope inner)) → WroteParts r old new (round_parts name inside (with_vars old.scope vars) item)
round_written r old mid new inside vars inner name item begun is fits w =
    subst (λ (ps : List Part). WroteParts r old new ps) (sym (stands inside (with_vars old.scope vars) name item fits))
    (subst (λ (v : List (List ℕ × List ℕ)). WroteParts r old new (Round ∷ inside (with_vars old.scope v))) is (second r old mid new inner (Round ∷ []) inside begun w))

-- an item is there
pub item_there : {X : Type 0} (xs : List X) (i : ℕ) → i < length xs → None ≡ slice_get xs i → ⊥
item_there [] i lt none = absurd (omega (arith, lt))
item_there (x ∷ xs) zero lt none = let clash : None ≡ Some x = none in absurd cc
item_there (x ∷ xs) (suc i) lt none = item_there xs i (omega (arith, lt)) none

-- the item at an index is that of its round
pub item_is : (items : List (List ℕ)) (i : ℕ) (item : List ℕ) → Some item ≡ slice_get items i → item ≡ slice_index_or items i []
item_is [] i item some = let clash : Some item ≡ None = some in absurd cc
item_is (x ∷ xs) zero item some = let same : Some item ≡ Some x = some in let first : item ≡ x = cc in first
item_is (x ∷ xs) (suc i) item some = item_is xs i item some

-- ---- whole scripts

-- a setting in no round
pub outer_setting : (scope here : Bindings) (rounds : List RoundOf) (vars : List (List ℕ × List ℕ)) → here ≡ scope → rounds ≡ [] → with_vars scope vars ≡ scope → within here rounds ≡ with_vars here vars
outer_setting scope here rounds vars same none seen = ap (within here) none ∙ same ∙ sym seen ∙ ap (λ (s : Bindings). with_vars s vars) (sym same)

-- what is written on an empty sheet for what a scope sees
pub from_empty : {A : Type 0} (r : Result A RunFault) (s0 s1 : SheetText) (scope : Bindings) (what : Keeping) (vars : List (List ℕ × List ℕ)) (g : Bindings → List Part)
    → s0 ≡ empty_sheet scope what → with_vars scope vars ≡ scope → WroteParts r s0 s1 (g (with_vars s0.scope vars)) → WroteParts r (empty_sheet scope what) s1 (g scope)
from_empty r s0 s1 scope what vars g empty seen w =
    subst (λ (s : Bindings). WroteParts r (empty_sheet scope what) s1 (g s)) seen (subst (λ (s : SheetText). WroteParts r s s1 (g (with_vars s.scope vars))) empty w)

-- one round more
pub rounds_more : (scope : Bindings) (rounds : List RoundOf) (i : ℕ) (d one : RoundOf) (vars more : List (List ℕ × List ℕ)) → i < length rounds → one ≡ get_or rounds i d
    → with_vars scope vars ≡ within scope (take i rounds) → with_vars scope more ≡ with_round (with_vars scope vars) one → with_vars scope more ≡ within scope (take (i + 1) rounds)
rounds_more scope rounds i d one vars more lt is known e =
    e ∙ ap (λ (here : Bindings). with_round here one) known ∙ sym (fold-append with_round scope (take i rounds) (one ∷ []))
    ∙ ap (within scope) (ap (λ (r : RoundOf). take i rounds ++ r ∷ []) is ∙ sym (take_more rounds i d lt))

-- the variables of all rounds
pub rounds_done : (scope : Bindings) (rounds : List RoundOf) (i : ℕ) (vars : List (List ℕ × List ℕ)) → length rounds ≤ i → with_vars scope vars ≡ within scope (take i rounds) → vars ≡ (within scope rounds).vars
rounds_done scope rounds i vars le known = ap (λ (here : Bindings). here.vars) known ∙ ap (λ (rs : List RoundOf). (within scope rs).vars) (take_all i rounds le)

-- the variables of a setting
pub setting_vars : (scope : Bindings) (rounds : List RoundOf) (vars : List (List ℕ × List ℕ)) → within scope rounds ≡ with_vars scope vars → (within scope rounds).vars ≡ vars
setting_vars scope rounds vars h = ap (λ (here : Bindings). here.vars) h

-- where no item is, the text is empty
pub no_item_is : (items : List (List ℕ)) (i : ℕ) → None ≡ slice_get items i → [] ≡ slice_index_or items i []
no_item_is [] i none = refl
no_item_is (x ∷ xs) zero none = let clash : None ≡ Some x = none in absurd cc
no_item_is (x ∷ xs) (suc i) none = no_item_is xs i none

-- the item of a round is that of its list
pub item_listed : (scope : Bindings) (one : RoundOf) (items : List (List ℕ)) (item : List ℕ) → Some items ≡ list_in (statement_value scope one.list.now) → Some item ≡ slice_get items one.index → item ≡ item_of scope one
item_listed scope one items item some there = item_is items one.index item there ∙ ap (λ (l : Option (List (List ℕ))). slice_index_or (items_in l) one.index []) some

pub none_listed : (scope : Bindings) (one : RoundOf) (items : List (List ℕ)) → Some items ≡ list_in (statement_value scope one.list.now) → None ≡ slice_get items one.index → [] ≡ item_of scope one
none_listed scope one items some there = no_item_is items one.index there ∙ ap (λ (l : Option (List (List ℕ))). slice_index_or (items_in l) one.index []) some

-- the item of a round, while more was written
pub round_item : (s mid : SheetText) (ps : List Part) (vars : List (List ℕ × List ℕ)) (one : RoundOf) (items : List (List ℕ)) (item : List ℕ) → mid ≡ with_parts s ps
    → Some items ≡ list_in (statement_value (with_vars s.scope vars) one.list.now) → Some item ≡ slice_get items one.index → item ≡ item_of (with_vars mid.scope vars) one
round_item s mid ps vars one items item e some there =
    subst (λ (scope : Bindings). item ≡ item_of (with_vars scope vars) one) (sym (same_scope s mid ps e)) (item_listed (with_vars s.scope vars) one items item some there)
