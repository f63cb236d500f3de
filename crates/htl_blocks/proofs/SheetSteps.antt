-- One step of writing: a text, or a piece that is put in.
use Rattle.std.proofs.Common.{◌≡◌, ◌≢◌, ◌≤◌, ◌<◌, ◌+◌, inl, inr, ℕ, true, List, [], ◌∷◌, ◌++◌, length, Result, Ok, Err, OnOk, IfErr, refl, ap, sym, subst, ◌∙◌, arith, append_assoc, length-append, append-nil, zero-add}
use Rattle.std.proofs.lemmas.Bool.{false≢true}
use Rattle.std.proofs.lemmas.List.{map-append}
use Rattle.std.proofs.lemmas.List.Concat.{flat_map-append}
use Rattle.std.proofs.lemmas.List.Sums.{sum_by-append}
use Rattle.sp_base.specs.Limits.{most_rendered_bytes}
use Rattle.htl_expr.specs.Bindings.{Bindings}
use Rattle.htl_blocks.specs.declared.piece.Piece.{Piece}
use Rattle.htl_blocks.specs.declared.piece.Piece.TheVariants as piece
use Rattle.htl_blocks.specs.declared.keeping.Keeping.{Keeping}
use Rattle.htl_blocks.specs.declared.keeping.Keeping.TheVariants as keep
use Rattle.htl_blocks.specs.declared.run_fault.RunFault.{RunFault}
use Rattle.htl_blocks.specs.declared.run_fault.RunFault.TheVariants.{TooLong, TooMany, NoMemory}
use Rattle.htl_blocks.specs.Parts.{Part, Byte, Round, text_parts, part_text, text_of_parts, is_inclusion, inclusions, rounds}
use Rattle.htl_blocks.specs.Pieces.{inclusion_count, piece_len, piece_parts, pieces_parts, puts_in, text_len, with_text_piece}
use Rattle.htl_blocks.specs.Refused.{most_inclusions, most_rounds}
use Rattle.htl_blocks.specs.Sheets.{SheetText, IsOverLimit, PassesLimit, WroteParts, kept, kept_part, with_parts}
use Rattle.htl_blocks.proofs.SheetLemmas.{count-append, passed_at_end, with_none}
use Rattle.htl_blocks.proofs.Bounded.{included_with}

-- ---- texts as parts

pub text_of_text : (t : List ℕ) → text_of_parts (text_parts t) ≡ t
text_of_text [] = refl
text_of_text (c ∷ t) = ap (λ (more : List ℕ). c ∷ more) (text_of_text t)

pub no_inclusions_in_text : (t : List ℕ) → inclusions (text_parts t) ≡ 0
no_inclusions_in_text [] = refl
no_inclusions_in_text (c ∷ t) = no_inclusions_in_text t

pub no_rounds : (t : List ℕ) → rounds (text_parts t) ≡ 0
no_rounds [] = refl
no_rounds (c ∷ t) = no_rounds t

kept_byte : (k : Keeping) (c : ℕ) → kept_part k (Byte c) ≡ Byte c ∷ []
kept_byte keep.All c = refl
kept_byte keep.TextAlone c = refl

pub kept_text : (k : Keeping) (t : List ℕ) → kept k (text_parts t) ≡ text_parts t
kept_text k [] = refl
kept_text k (c ∷ t) = ap (λ (ps : List Part). ps ++ kept k (text_parts t)) (kept_byte k c) ∙ ap (λ (ps : List Part). Byte c ∷ ps) (kept_text k t)

one_len : (scope : Bindings) (p : Piece) → length (text_of_parts (piece_parts scope p)) ≡ text_len (p ∷ [])
one_len scope (piece.Text t) = ap (length {A = ℕ}) (text_of_text t) ∙ sym (zero-add (length t))
one_len scope (piece.Script name frame) = refl
one_len scope (piece.Resource name) = refl

-- a text has the bytes of its pieces
pub text_len_is : (scope : Bindings) (pieces : List Piece) → length (text_of_parts (pieces_parts scope pieces)) ≡ text_len pieces
text_len_is scope [] = refl
text_len_is scope (p ∷ ps) =
    let both = ap (length {A = ℕ}) (flat_map-append part_text (piece_parts scope p) (pieces_parts scope ps)) in
    let lens = length-append (text_of_parts (piece_parts scope p)) (text_of_parts (pieces_parts scope ps)) in
    let whole = sum_by-append piece_len (p ∷ []) ps in
    let more = text_len_is scope ps in let one = one_len scope p in
    omega (arith, both, lens, whole, more, one)

-- what their texts leave of a room
pub room_beside : (scope : Bindings) (pieces : List Piece) (room : ℕ) → room + text_len pieces ≡ most_rendered_bytes → room + length (text_of_parts (pieces_parts scope pieces)) ≡ most_rendered_bytes
room_beside scope pieces room left = let is = text_len_is scope pieces in omega (arith, left, is)

-- ---- the text after the pieces

-- a sheet with these pieces' parts, this text after them and this many rounds
abbrev pub sheet_of : Bindings → Keeping → List Part → List ℕ → ℕ → SheetText
sheet_of scope k ps tail n = record { scope = scope; keeping = k; parts = ps ++ text_parts tail; rounds = n }

pub text_written : (scope : Bindings) (k : Keeping) (ps : List Part) (tail more new : List ℕ) (n : ℕ) → new ≡ tail ++ more → sheet_of scope k ps new n ≡ with_parts (sheet_of scope k ps tail n) (text_parts more)
text_written scope k ps tail more new n e =
    let made : List Part → ℕ → SheetText = λ parts count. record { scope = scope; keeping = k; parts = parts; rounds = count } in
    ap (λ (parts : List Part). made parts n)
    (ap (λ (t : List ℕ). ps ++ text_parts t) e ∙ ap (λ (t : List Part). ps ++ t) (map-append Byte tail more) ∙ sym (append_assoc ps (text_parts tail) (text_parts more)) ∙ ap (λ (t : List Part). (ps ++ text_parts tail) ++ t) (sym (kept_text k more)))
    ∙ ap (made ((ps ++ text_parts tail) ++ kept k (text_parts more))) (let none = no_rounds more in let same : n ≡ n + rounds (text_parts more) = omega (arith, none) in same)

pub text_over : (scope : Bindings) (k : Keeping) (ps : List Part) (tail more : List ℕ) (n room : ℕ) → n ≤ most_rounds → room + length (text_of_parts ps) ≡ most_rendered_bytes → room < length (tail ++ more)
    → IsOverLimit TooLong (with_parts (sheet_of scope k ps tail n) (text_parts more))
text_over scope k ps tail more n room few left h =
    let whole = ap (length {A = ℕ}) (flat_map-append part_text (ps ++ text_parts tail) (kept k (text_parts more)) ∙ ap (λ (t : List ℕ). t ++ text_of_parts (kept k (text_parts more))) (flat_map-append part_text ps (text_parts tail))) in
    let last = ap (λ (q : List Part). length (text_of_parts q)) (kept_text k more) in
    let a = ap (length {A = ℕ}) (text_of_text more) in
    let b = ap (length {A = ℕ}) (text_of_text tail) in
    let one = length-append (text_of_parts ps ++ text_of_parts (text_parts tail)) (text_of_parts (kept k (text_parts more))) in
    let two = length-append (text_of_parts ps) (text_of_parts (text_parts tail)) in
    let three = length-append tail more in
    let none = no_rounds more in
    (omega (arith, few, none), omega (arith, left, h, whole, last, a, b, one, two, three))

-- a text is written after the others, or is too long beside them
pub text_result : {A : Type 0} (r : Result A RunFault) (old : SheetText) (scope : Bindings) (k : Keeping) (ps : List Part) (tail more new : List ℕ) (n room : ℕ) → sheet_of scope k ps tail n ≡ old → n ≤ most_rounds → room + length (text_of_parts ps) ≡ most_rendered_bytes
    → OnOk r (new ≡ tail ++ more) → IfErr r (λ f. f ≢ NoMemory → (f ≡ TooLong) × (room < length (tail ++ more)))
    → WroteParts r old (sheet_of scope k ps new n) (text_parts more)
text_result (Ok x) old scope k ps tail more new n room view few left ok err = text_written scope k ps tail more new n ok ∙ ap (λ (s : SheetText). with_parts s (text_parts more)) view
text_result (Err f) old scope k ps tail more new n room view few left ok err = λ ne.
    let both = err ne in
    let over = subst (λ (g : RunFault). IsOverLimit g (with_parts (sheet_of scope k ps tail n) (text_parts more))) (sym both.0) (text_over scope k ps tail more n room few left both.1) in
    passed_at_end f old (text_parts more) (subst (λ (s : SheetText). IsOverLimit f (with_parts s (text_parts more))) view over)

-- the same, where what it is written for is found out anew
pub template_result : {A : Type 0} (r : Result A RunFault) (old : SheetText) (scope after : Bindings) (k : Keeping) (pieces : List Piece) (tail more new : List ℕ) (n room : ℕ)
    → sheet_of scope k (pieces_parts scope pieces) tail n ≡ old → n ≤ most_rounds → room + text_len pieces ≡ most_rendered_bytes → after ≡ scope
    → OnOk r (new ≡ tail ++ more) → IfErr r (λ f. f ≢ NoMemory → (f ≡ TooLong) × (room < length (tail ++ more)))
    → WroteParts r old (sheet_of after k (pieces_parts after pieces) new n) (text_parts more)
template_result r old scope after k pieces tail more new n room view few left same ok err =
    subst (λ (s : Bindings). WroteParts r old (sheet_of s k (pieces_parts s pieces) new n) (text_parts more)) (sym same)
    (text_result r old scope k (pieces_parts scope pieces) tail more new n room view few (room_beside scope pieces room left) ok err)

-- ---- pieces

one_count : (scope : Bindings) (p : Piece) → inclusions (piece_parts scope p) ≡ inclusion_count (p ∷ [])
one_count scope (piece.Text t) = no_inclusions_in_text t
one_count scope (piece.Script name frame) = refl
one_count scope (piece.Resource name) = refl

-- what is put in stands in its pieces
pub inclusions_are : (scope : Bindings) (pieces : List Piece) → inclusions (pieces_parts scope pieces) ≡ inclusion_count pieces
inclusions_are scope [] = refl
inclusions_are scope (p ∷ ps) =
    let both = count-append is_inclusion (piece_parts scope p) (pieces_parts scope ps) in
    let whole = count-append puts_in (p ∷ []) ps in
    let more = inclusions_are scope ps in let one = one_count scope p in
    omega (arith, both, whole, more, one)

-- a text more
pub text_more_parts : (scope : Bindings) (ps : List Piece) (t : List ℕ) → pieces_parts scope (with_text_piece ps t) ≡ pieces_parts scope ps ++ text_parts t
text_more_parts scope ps [] = sym (append-nil (pieces_parts scope ps))
text_more_parts scope ps (c ∷ t) =
    flat_map-append (piece_parts scope) ps (piece.Text (c ∷ t) ∷ []) ∙ ap (λ (q : List Part). pieces_parts scope ps ++ q) (append-nil (text_parts (c ∷ t)))

-- one piece more
pub piece_more : (scope : Bindings) (ps : List Piece) (p : Piece) → pieces_parts scope (ps ++ p ∷ []) ≡ pieces_parts scope ps ++ piece_parts scope p
piece_more scope ps p = flat_map-append (piece_parts scope) ps (p ∷ []) ∙ ap (λ (q : List Part). pieces_parts scope ps ++ q) (append-nil (piece_parts scope p))

kept_inclusion : (scope : Bindings) (p : Piece) → puts_in p ≡ true → kept keep.All (piece_parts scope p) ≡ piece_parts scope p
kept_inclusion scope (piece.Text t) h = absurd (false≢true h)
kept_inclusion scope (piece.Script name frame) h = refl
kept_inclusion scope (piece.Resource name) h = refl

no_round_in : (scope : Bindings) (p : Piece) → puts_in p ≡ true → rounds (piece_parts scope p) ≡ 0
no_round_in scope (piece.Text t) h = absurd (false≢true h)
no_round_in scope (piece.Script name frame) h = refl
no_round_in scope (piece.Resource name) h = refl

inclusion_in : (scope : Bindings) (p : Piece) → puts_in p ≡ true → inclusions (kept keep.All (piece_parts scope p)) ≡ 1
inclusion_in scope (piece.Text t) h = absurd (false≢true h)
inclusion_in scope (piece.Script name frame) h = refl
inclusion_in scope (piece.Resource name) h = refl

unkept : (scope : Bindings) (p : Piece) → puts_in p ≡ true → kept keep.TextAlone (piece_parts scope p) ≡ []
unkept scope (piece.Text t) h = absurd (false≢true h)
unkept scope (piece.Script name frame) h = refl
unkept scope (piece.Resource name) h = refl

-- where the text alone is kept, what is put in changes nothing
pub not_kept : (s : SheetText) (scope : Bindings) (p : Piece) → puts_in p ≡ true → s.keeping ≡ keep.TextAlone → s ≡ with_parts s (piece_parts scope p)
not_kept s scope p h is =
    let made : List Part → ℕ → SheetText = λ parts count. record { scope = s.scope; keeping = s.keeping; parts = parts; rounds = count } in
    let nothing : kept s.keeping (piece_parts scope p) ≡ [] = ap (λ (k : Keeping). kept k (piece_parts scope p)) is ∙ unkept scope p h in
    sym (with_none s) ∙ ap (λ (q : List Part). made (s.parts ++ q) (s.rounds + 0)) (sym nothing) ∙ ap (λ (n : ℕ). made (s.parts ++ kept s.keeping (piece_parts scope p)) (s.rounds + n)) (sym (no_round_in scope p h))

-- a piece is put in after the text before it, or there are too many
pub inclusion_result : {A : Type 0} (r : Result A RunFault) (old : SheetText) (scope : Bindings) (k : Keeping) (ps mid new : List Piece) (p : Piece) (tail : List ℕ) (n : ℕ)
    → sheet_of scope k (pieces_parts scope ps) tail n ≡ old → k ≡ keep.All → puts_in p ≡ true → mid ≡ with_text_piece ps tail
    → OnOk r (new ≡ mid ++ p ∷ []) → IfErr r (λ f. f ≢ NoMemory → (f ≡ TooMany) × (most_inclusions ≤ inclusion_count mid))
    → WroteParts r old (sheet_of scope k (pieces_parts scope new) [] n) (piece_parts scope p)
inclusion_result (Ok x) old scope k ps mid new p tail n view all h is ok err =
    let made : List Part → ℕ → SheetText = λ parts count. record { scope = scope; keeping = k; parts = parts; rounds = count } in
    let before = pieces_parts scope ps ++ text_parts tail in
    let kept_itself : kept k (piece_parts scope p) ≡ piece_parts scope p = ap (λ (k : Keeping). kept k (piece_parts scope p)) all ∙ kept_inclusion scope p h in
    let parts : pieces_parts scope new ++ [] ≡ before ++ kept k (piece_parts scope p) =
    append-nil (pieces_parts scope new) ∙ ap (pieces_parts scope) ok ∙ piece_more scope mid p
    ∙ ap (λ (q : List Piece). pieces_parts scope q ++ piece_parts scope p) is ∙ ap (λ (q : List Part). q ++ piece_parts scope p) (text_more_parts scope ps tail)
    ∙ ap (λ (q : List Part). before ++ q) (sym kept_itself) in
    let none = no_round_in scope p h in
    let count : n ≡ n + rounds (piece_parts scope p) = omega (arith, none) in
    ap (λ (q : List Part). made q n) parts ∙ ap (made (before ++ kept k (piece_parts scope p))) count ∙ ap (λ (s : SheetText). with_parts s (piece_parts scope p)) view
inclusion_result (Err f) old scope k ps mid new p tail n view all h is ok err = λ ne.
    let both = err ne in
    let before = pieces_parts scope ps ++ text_parts tail in
    let whole = count-append is_inclusion before (kept k (piece_parts scope p)) in
    let parts = count-append is_inclusion (pieces_parts scope ps) (text_parts tail) in
    let none = no_inclusions_in_text tail in
    let one = ap (λ (k : Keeping). inclusions (kept k (piece_parts scope p))) all ∙ inclusion_in scope p h in
    let here = inclusions_are scope ps in
    let there = ap inclusion_count is ∙ included_with ps tail in
    let enough = both.1 in
    let over : most_inclusions < inclusions (before ++ kept k (piece_parts scope p)) = omega (arith, whole, parts, none, one, here, there, enough) in
    let here = subst (λ (g : RunFault). IsOverLimit g (with_parts (sheet_of scope k (pieces_parts scope ps) tail n) (piece_parts scope p))) (sym both.0) (inr over) in
    passed_at_end f old (piece_parts scope p) (subst (λ (s : SheetText). IsOverLimit f (with_parts s (piece_parts scope p))) view here)

-- ---- rounds

-- the text of a sheet has the bytes of its pieces and of the text after them
sheet_len : (scope : Bindings) (ps : List Piece) (tail : List ℕ) → length (text_of_parts (pieces_parts scope ps ++ text_parts tail)) ≡ text_len ps + length tail
sheet_len scope ps tail =
    let both = ap (length {A = ℕ}) (flat_map-append part_text (pieces_parts scope ps) (text_parts tail)) in
    let lens = length-append (text_of_parts (pieces_parts scope ps)) (text_of_parts (text_parts tail)) in
    let itself = ap (length {A = ℕ}) (text_of_text tail) in
    let len = text_len_is scope ps in
    omega (arith, both, lens, itself, len)

no_text_of_round : (k : Keeping) → text_of_parts (kept k (Round ∷ [])) ≡ []
no_text_of_round keep.All = refl
no_text_of_round keep.TextAlone = refl

-- a round is one too many, after a text that isn't too long
pub round_over : (old : SheetText) (scope : Bindings) (k : Keeping) (ps : List Piece) (tail : List ℕ) (n : ℕ) → sheet_of scope k (pieces_parts scope ps) tail n ≡ old → most_rounds ≤ n → text_len ps + length tail ≤ most_rendered_bytes
    → PassesLimit TooMany old (Round ∷ [])
round_over old scope k ps tail n view many fits =
    let before = pieces_parts scope ps ++ text_parts tail in
    let whole = ap (length {A = ℕ}) (flat_map-append part_text before (kept k (Round ∷ []))) in
    let sum = length-append (text_of_parts before) (text_of_parts (kept k (Round ∷ []))) in
    let none = ap (length {A = ℕ}) (no_text_of_round k) in
    let len = sheet_len scope ps tail in
    let over : IsOverLimit TooMany (with_parts (sheet_of scope k (pieces_parts scope ps) tail n) (Round ∷ [])) = inl (omega (arith, many), omega (arith, fits, whole, sum, none, len)) in
    passed_at_end TooMany old (Round ∷ []) (subst (λ (s : SheetText). IsOverLimit TooMany (with_parts s (Round ∷ []))) view over)

-- ---- the end

-- where the text before a piece, or the last text, fits, only memory can lack
pub memory_lacks : (f : RunFault) (ps : List Piece) (tail : List ℕ) → text_len ps + length tail ≤ most_rendered_bytes → (f ≢ NoMemory → (f ≡ TooLong) × (most_rendered_bytes < text_len ps + length tail)) → f ≢ NoMemory → ⊥
memory_lacks f ps tail fits h ne = let both = h ne in let long = both.1 in omega (arith, fits, long)

pub is_memory : (f : RunFault) → (f ≢ NoMemory → ⊥) → f ≡ NoMemory
is_memory NoMemory h = refl
is_memory TooLong h = absurd (h (λ e. let clash : TooLong ≡ NoMemory = e in absurd cc))
is_memory TooMany h = absurd (h (λ e. let clash : TooMany ≡ NoMemory = e in absurd cc))

-- what the pieces stand for, with the last text
pub finished_parts : (scope here : Bindings) (ps new : List Piece) (tail : List ℕ) → here ≡ scope → new ≡ with_text_piece ps tail → pieces_parts here new ≡ pieces_parts scope ps ++ text_parts tail
finished_parts scope here ps new tail same is = ap (λ (s : Bindings). pieces_parts s new) same ∙ ap (pieces_parts scope) is ∙ text_more_parts scope ps tail

-- they are within the limits
pub finished_text : (scope : Bindings) (ps : List Piece) → text_len ps ≤ most_rendered_bytes → length (text_of_parts (pieces_parts scope ps)) ≤ most_rendered_bytes
finished_text scope ps h = let is = text_len_is scope ps in omega (arith, is, h)

pub finished_inclusions : (scope : Bindings) (ps : List Piece) → inclusion_count ps ≤ most_inclusions → inclusions (pieces_parts scope ps) ≤ most_inclusions
finished_inclusions scope ps h = let is = inclusions_are scope ps in omega (arith, is, h)
