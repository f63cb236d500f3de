-- What a field with parameters is read as is what its grammar spells.
use Rattle.std.proofs.Common.{◌≡◌, ℕ, Bool, true, false, cond, not, ◌&&◌, ◌||◌, eqb, List, [], ◌∷◌, ◌++◌, Option, Some, None, take, drop, length, map, slice_index, get_or, refl, ap, sym, ◌∙◌, subst, arith, append_assoc}
use Rattle.std.proofs.lemmas.Bool.{and_parts, or_parts, not-true, eqb-true}
use Rattle.std.proofs.lemmas.Bool.Decides.{nat_tests}
use Rattle.std.proofs.lemmas.List.{append-nil}
use Rattle.std.specs.Char.{to_ascii_lowercase}
use Rattle.std.specs.List.{list_all, flat_map, find, filter_map}
use Rattle.std.specs.Option.{option_map}
use Rattle.std.specs.Str.{str_eq_ignore_ascii_case, bytes_eq}
use Rattle.form_input.specs.declared.parameters.Quoting.{Quoting}
use Rattle.form_input.specs.declared.parameters.Quoting.TheVariants.{Outside, Inside}
use Rattle.form_input.specs.Parameters.{is_space_or_tab, after_blanks, before_blanks, trimmed_text, quoting_step, separates, parameter_pieces_from, parameter_pieces, is_type, after_separator, after_name, word_in_quotes, parameter_word, word_or, parameter_word_in, parameter}
use Rattle.form_laws.specs.Spelling as spelled
use Rattle.form_laws.specs.Spelling.{is_bare_byte, is_bare_name_byte, QuotedByte, byte_spelling, meant_byte, is_quoted_byte, ParameterValue, value_spelling, meant_word, is_parameter_value, FieldParameter, parameter_spelling, is_parameter, FieldPiece, piece_spelling, is_field_piece, pieces_spelling, IsFieldOf, word_named, begins_with_name, is_named_if_parameter, is_passed_byte, may_follow, may_follow_value, IsNamedField}
use Rattle.form_input.proofs.ParameterLemmas.{with_prefix, with_prefix_none, piece_goes_on, piece_ends, piece_last}

-- ---- what is known of a byte

blank_or_not : (b : ℕ) → is_bare_byte b ≡ true → is_space_or_tab b ≡ false
blank_or_not b e = (or_parts (is_space_or_tab b) (eqb b 34 || eqb b 59) (not-true (is_space_or_tab b || (eqb b 34 || eqb b 59)) e)).0

no_quote : (b : ℕ) → is_bare_byte b ≡ true → eqb b 34 ≡ false
no_quote b e = (or_parts (eqb b 34) (eqb b 59) (or_parts (is_space_or_tab b) (eqb b 34 || eqb b 59) (not-true (is_space_or_tab b || (eqb b 34 || eqb b 59)) e)).1).0

no_semicolon : (b : ℕ) → is_bare_byte b ≡ true → eqb b 59 ≡ false
no_semicolon b e = (or_parts (eqb b 34) (eqb b 59) (or_parts (is_space_or_tab b) (eqb b 34 || eqb b 59) (not-true (is_space_or_tab b || (eqb b 34 || eqb b 59)) e)).1).1

blank_no_quote : (b : ℕ) → is_space_or_tab b ≡ true → eqb b 34 ≡ false
blank_no_quote b e = grind (arith, nat_tests)

blank_no_semicolon : (b : ℕ) → is_space_or_tab b ≡ true → eqb b 59 ≡ false
blank_no_semicolon b e = grind (arith, nat_tests)

names_are_bare : (w : List ℕ) → list_all is_bare_name_byte w ≡ true → list_all is_bare_byte w ≡ true
names_are_bare [] e = refl
names_are_bare (b ∷ w) e =
    let both = and_parts (is_bare_name_byte b) (list_all is_bare_name_byte w) e in
    rw ((and_parts (is_bare_byte b) (not (eqb b 61)) both.0).0, names_are_bare w both.1) refl

-- ---- where the quotes are

-- the bytes lead from one place in quotes, or outside, to another, and none separates
abbrev Passes : Quoting → List ℕ → Quoting → Type 0
Passes q [] r = q ≡ r
Passes q (b ∷ t) r = (separates q b ≡ false) × Passes (quoting_step q b) t r

passes_append : (q : Quoting) (s t : List ℕ) (m r : Quoting) → Passes q s m → Passes m t r → Passes q (s ++ t) r
passes_append q [] t m r one other = subst (λ (p : Quoting). Passes p t r) (sym one) other
passes_append q (b ∷ s) t m r one other = (one.0, passes_append (quoting_step q b) s t m r one.1 other)

passed : (q : Quoting) (s t : List ℕ) (r : Quoting) (prefix : List ℕ) → Passes q s r → with_prefix prefix (parameter_pieces_from q (s ++ t)) ≡ with_prefix (prefix ++ s) (parameter_pieces_from r t)
passed q [] t r prefix is = ap (λ (p : Quoting). with_prefix prefix (parameter_pieces_from p t)) is ∙ ap (λ (p : List ℕ). with_prefix p (parameter_pieces_from r t)) (sym (append-nil prefix))
passed q (b ∷ s) t r prefix is =
    piece_goes_on q prefix b (s ++ t) is.0
    ∙ passed (quoting_step q b) s t r (prefix ++ b ∷ []) is.1
    ∙ ap (λ (p : List ℕ). with_prefix p (parameter_pieces_from r t)) (append_assoc prefix (b ∷ []) s)

last_piece : (s : List ℕ) → Passes Outside s Outside → parameter_pieces s ≡ s ∷ []
last_piece s is =
    ap parameter_pieces (sym (append-nil s))
    ∙ sym (with_prefix_none Outside (s ++ []))
    ∙ passed Outside s [] Outside [] is
    ∙ piece_last Outside s

first_piece : (s t : List ℕ) → Passes Outside s Outside → parameter_pieces (s ++ 59 ∷ t) ≡ s ∷ parameter_pieces t
first_piece s t is =
    sym (with_prefix_none Outside (s ++ 59 ∷ t))
    ∙ passed Outside s (59 ∷ t) Outside [] is
    ∙ piece_ends Outside s 59 t refl

step_outside : (b : ℕ) → eqb b 34 ≡ false → quoting_step Outside b ≡ Outside
step_outside b e = rw e refl

bare_passes : (w : List ℕ) → list_all is_bare_byte w ≡ true → Passes Outside w Outside
bare_passes [] e = refl
bare_passes (b ∷ w) e =
    let both = and_parts (is_bare_byte b) (list_all is_bare_byte w) e in
    (no_semicolon b both.0, subst (λ (q : Quoting). Passes q w Outside) (sym (step_outside b (no_quote b both.0))) (bare_passes w both.1))

blanks_pass : (w : List ℕ) → list_all is_space_or_tab w ≡ true → Passes Outside w Outside
blanks_pass [] e = refl
blanks_pass (b ∷ w) e =
    let both = and_parts (is_space_or_tab b) (list_all is_space_or_tab w) e in
    (blank_no_semicolon b both.0, subst (λ (q : Quoting). Passes q w Outside) (sym (step_outside b (blank_no_quote b both.0))) (blanks_pass w both.1))

step_inside : (b : ℕ) → is_quoted_byte (QuotedByte.Plain b) ≡ true → quoting_step Inside b ≡ Inside
step_inside b e =
    let parts = or_parts (eqb b 34) (eqb b 92) (not-true (eqb b 34 || eqb b 92) e) in
    rw (parts.0, parts.1) refl

quoted_passes : (bs : List QuotedByte) → list_all is_quoted_byte bs ≡ true → Passes Inside (flat_map byte_spelling bs) Inside
quoted_passes [] e = refl
quoted_passes (QuotedByte.Plain b ∷ bs) e =
    let both = and_parts (is_quoted_byte (QuotedByte.Plain b)) (list_all is_quoted_byte bs) e in
    (refl, subst (λ (q : Quoting). Passes q (flat_map byte_spelling bs) Inside) (sym (step_inside b both.0)) (quoted_passes bs both.1))
quoted_passes (QuotedByte.Escaped b ∷ bs) e = (refl, (refl, quoted_passes bs e))

value_passes : (v : ParameterValue) → is_parameter_value v ≡ true → Passes Outside (value_spelling v) Outside
value_passes (ParameterValue.Bare w) e = bare_passes w e
value_passes (ParameterValue.Quoted bs) e = (refl, passes_append Inside (flat_map byte_spelling bs) (34 ∷ []) Inside Outside (quoted_passes bs e) (refl, refl))

parameter_passes : (p : FieldParameter) → is_parameter p ≡ true → Passes Outside (parameter_spelling p) Outside
parameter_passes p e =
    let both = and_parts (list_all is_bare_name_byte p.name) (is_parameter_value p.value) e in
    passes_append Outside p.name (61 ∷ value_spelling p.value) Outside Outside (bare_passes p.name (names_are_bare p.name both.0)) (refl, value_passes p.value both.1)

option_passes : (o : Option FieldParameter) → spelled.is_parameter_or_none o ≡ true → Passes Outside (spelled.spelling_or_none o) Outside
option_passes None e = refl
option_passes (Some p) e = parameter_passes p e

passed_over : (w : List ℕ) → list_all is_passed_byte w ≡ true → Passes Outside w Outside
passed_over [] e = refl
passed_over (b ∷ w) e =
    let both = and_parts (is_passed_byte b) (list_all is_passed_byte w) e in
    let parts = or_parts (eqb b 34) (eqb b 59) (not-true (eqb b 34 || eqb b 59) both.0) in
    (parts.1, subst (λ (q : Quoting). Passes q w Outside) (sym (step_outside b parts.0)) (passed_over w both.1))

value_follows : (v : ParameterValue) (after : List ℕ) → list_all (may_follow_value v) after ≡ true → Passes Outside after Outside
value_follows (ParameterValue.Bare w) after e = blanks_pass after e
value_follows (ParameterValue.Quoted bs) after e = passed_over after e

follows_passes : (o : Option FieldParameter) (after : List ℕ) → list_all (may_follow o) after ≡ true → Passes Outside after Outside
follows_passes None after e = passed_over after e
follows_passes (Some p) after e = value_follows p.value after e

-- what is known of a piece
record Parts (before : List ℕ) (parameter : Option FieldParameter) (after : List ℕ) : Type 0 where
  pub blanks : list_all is_space_or_tab before ≡ true
  pub spelled : spelled.is_parameter_or_none parameter ≡ true
  pub follows : list_all (may_follow parameter) after ≡ true

parts_of : (before : List ℕ) (parameter : Option FieldParameter) (after : List ℕ) → is_field_piece (record { before = before; parameter = parameter; after = after }) ≡ true → Parts before parameter after
parts_of before parameter after e =
    let both = and_parts (list_all is_space_or_tab before) (spelled.is_parameter_or_none parameter && list_all (may_follow parameter) after) e in
    let later = and_parts (spelled.is_parameter_or_none parameter) (list_all (may_follow parameter) after) both.1 in
    record { blanks = both.0; spelled = later.0; follows = later.1 }

piece_passes : (piece : FieldPiece) → is_field_piece piece ≡ true → Passes Outside (piece_spelling piece) Outside
piece_passes piece e =
    let parts = parts_of piece.before piece.parameter piece.after e in
    passes_append Outside piece.before (spelled.spelling_or_none piece.parameter ++ piece.after) Outside Outside (blanks_pass piece.before parts.blanks)
    (passes_append Outside (spelled.spelling_or_none piece.parameter) piece.after Outside Outside (option_passes piece.parameter parts.spelled) (follows_passes piece.parameter piece.after parts.follows))

-- the pieces of a text are what the grammar has
pieces_are : (s : List ℕ) (ps : List FieldPiece) → Passes Outside s Outside → list_all is_field_piece ps ≡ true → parameter_pieces (s ++ pieces_spelling ps) ≡ s ∷ map piece_spelling ps
pieces_are s [] is e = ap parameter_pieces (append-nil s) ∙ last_piece s is
pieces_are s (p ∷ ps) is e =
    let both = and_parts (is_field_piece p) (list_all is_field_piece ps) e in
    first_piece s (piece_spelling p ++ pieces_spelling ps) is ∙ ap (λ (ls : List (List ℕ)). s ∷ ls) (pieces_are (piece_spelling p) ps (piece_passes p both.0) both.1)

-- ---- blanks around a text

after_skips : (blanks t : List ℕ) → list_all is_space_or_tab blanks ≡ true → after_blanks (blanks ++ t) ≡ after_blanks t
unfolding after_blanks
after_skips [] t e = refl
after_skips (b ∷ blanks) t e =
    let both = and_parts (is_space_or_tab b) (list_all is_space_or_tab blanks) e in
    rw both.0 (after_skips blanks t both.1)

after_stays : (b : ℕ) (t : List ℕ) → is_space_or_tab b ≡ false → after_blanks (b ∷ t) ≡ b ∷ t
unfolding after_blanks
after_stays b t e = rw e refl

after_all : (blanks : List ℕ) → list_all is_space_or_tab blanks ≡ true → after_blanks blanks ≡ []
unfolding after_blanks
after_all [] e = refl
after_all (b ∷ blanks) e =
    let both = and_parts (is_space_or_tab b) (list_all is_space_or_tab blanks) e in
    rw both.0 (after_all blanks both.1)

before_all : (blanks : List ℕ) → list_all is_space_or_tab blanks ≡ true → before_blanks blanks ≡ []
unfolding before_blanks
before_all [] e = refl
before_all (b ∷ blanks) e =
    let both = and_parts (is_space_or_tab b) (list_all is_space_or_tab blanks) e in
    rw (before_all blanks both.1, both.0) refl

before_cuts : (w blanks : List ℕ) → list_all is_bare_byte w ≡ true → list_all is_space_or_tab blanks ≡ true → before_blanks (w ++ blanks) ≡ w
unfolding before_blanks
before_cuts [] blanks e f = before_all blanks f
before_cuts (b ∷ w) blanks e f =
    let both = and_parts (is_bare_byte b) (list_all is_bare_byte w) e in
    rw (before_cuts w blanks both.1 f, blank_or_not b both.0) refl

trimmed : (before w after : List ℕ) → list_all is_space_or_tab before ≡ true → list_all is_bare_byte w ≡ true → list_all is_space_or_tab after ≡ true → trimmed_text (before ++ (w ++ after)) ≡ w
unfolding before_blanks
trimmed before w after e is f = ap before_blanks (after_skips before (w ++ after) e) ∙ go w is
  where
    go : (w : List ℕ) → list_all is_bare_byte w ≡ true → before_blanks (after_blanks (w ++ after)) ≡ w
    go [] is = ap before_blanks (after_all after f)
    go (b ∷ w) is =
        let both = and_parts (is_bare_byte b) (list_all is_bare_byte w) is in
        ap before_blanks (after_stays b (w ++ after) (blank_or_not b both.0)) ∙ before_cuts (b ∷ w) after is f

-- ---- names

lower_other : (d : ℕ) → eqb d 61 ≡ false → eqb 61 (to_ascii_lowercase d) ≡ false
lower_other d e = grind (arith, nat_tests)

no_equals : (b : ℕ) → is_bare_name_byte b ≡ true → eqb b 61 ≡ false
no_equals b e = not-true (eqb b 61) (and_parts (is_bare_byte b) (not (eqb b 61)) e).1

named : (n name rest : List ℕ) → list_all is_bare_name_byte n ≡ true → list_all is_bare_name_byte name ≡ true → after_name 61 name (n ++ 61 ∷ rest) ≡ cond (str_eq_ignore_ascii_case n name) (Some rest) None
named [] [] rest e f = refl
named (c ∷ n) [] rest e f =
    let both = and_parts (is_bare_name_byte c) (list_all is_bare_name_byte n) e in
    rw (no_equals c both.0) refl
named [] (d ∷ name) rest e f =
    let both = and_parts (is_bare_name_byte d) (list_all is_bare_name_byte name) f in
    rw (lower_other d (no_equals d both.0)) refl
named (c ∷ n) (d ∷ name) rest e f =
    let one = and_parts (is_bare_name_byte c) (list_all is_bare_name_byte n) e in
    let other = and_parts (is_bare_name_byte d) (list_all is_bare_name_byte name) f in
    go (eqb (to_ascii_lowercase c) (to_ascii_lowercase d)) (named n name rest one.1 other.1)
  where
    go : (x : Bool) → after_name 61 name (n ++ 61 ∷ rest) ≡ cond (str_eq_ignore_ascii_case n name) (Some rest) None
        → cond (x && bytes_eq (map to_ascii_lowercase (take (length name) (n ++ 61 ∷ rest))) (map to_ascii_lowercase name)) (after_separator 61 (drop (length name) (n ++ 61 ∷ rest))) None
        ≡ cond (x && bytes_eq (map to_ascii_lowercase n) (map to_ascii_lowercase name)) (Some rest) None
    go true ih = ih
    go false ih = refl

-- a text that doesn't begin with the name and `=` has none to give
not_named : (name text : List ℕ) → str_eq_ignore_ascii_case (take (length (name ++ 61 ∷ [])) text) (name ++ 61 ∷ []) ≡ false → after_name 61 name text ≡ None
not_named [] [] e = refl
not_named [] (c ∷ text) e = go (eqb c 61) refl
  where
    go : (x : Bool) → eqb c 61 ≡ x → cond x (Some text) None ≡ None
    go true is = absurd (let f : true ≡ false = sym (ap (λ (b : ℕ). str_eq_ignore_ascii_case (b ∷ []) (61 ∷ [])) (eqb-true c 61 is)) ∙ e in cc)
    go false is = refl
not_named (d ∷ name) [] e = refl
not_named (d ∷ name) (c ∷ text) e = go (eqb (to_ascii_lowercase c) (to_ascii_lowercase d)) (not_named name text) e
  where
    go : (x : Bool) → (str_eq_ignore_ascii_case (take (length (name ++ 61 ∷ [])) text) (name ++ 61 ∷ []) ≡ false → after_name 61 name text ≡ None)
        → (x && bytes_eq (map to_ascii_lowercase (take (length (name ++ 61 ∷ [])) text)) (map to_ascii_lowercase (name ++ 61 ∷ []))) ≡ false
        → cond (x && bytes_eq (map to_ascii_lowercase (take (length name) text)) (map to_ascii_lowercase name)) (after_separator 61 (drop (length name) text)) None ≡ None
    go true ih f = ih f
    go false ih f = refl

-- ---- words

quoted_word : (bs : List QuotedByte) (after : List ℕ) → list_all is_quoted_byte bs ≡ true → word_in_quotes false ((flat_map byte_spelling bs ++ 34 ∷ []) ++ after) ≡ Some (map meant_byte bs)
unfolding word_in_quotes
quoted_word [] after e = refl
quoted_word (QuotedByte.Plain b ∷ bs) after e =
    let both = and_parts (is_quoted_byte (QuotedByte.Plain b)) (list_all is_quoted_byte bs) e in
    let parts = or_parts (eqb b 34) (eqb b 92) (not-true (eqb b 34 || eqb b 92) both.0) in
    rw (parts.0, parts.1, quoted_word bs after both.1) refl
quoted_word (QuotedByte.Escaped b ∷ bs) after e = rw (quoted_word bs after e) refl

begins_bare : (w after : List ℕ) → list_all is_bare_byte w ≡ true → list_all is_space_or_tab after ≡ true → eqb (slice_index (w ++ after) 0) 34 ≡ false
begins_bare [] [] e f = refl
begins_bare [] (b ∷ after) e f = blank_no_quote b (and_parts (is_space_or_tab b) (list_all is_space_or_tab after) f).0
begins_bare (b ∷ w) after e f = no_quote b (and_parts (is_bare_byte b) (list_all is_bare_byte w) e).0

value_word : (v : ParameterValue) (after : List ℕ) → is_parameter_value v ≡ true → list_all (may_follow_value v) after ≡ true → parameter_word (value_spelling v ++ after) ≡ Some (meant_word v)
value_word (ParameterValue.Bare w) after e f = rw (begins_bare w after e f) (ap Some (before_cuts w after e f))
value_word (ParameterValue.Quoted bs) after e f = quoted_word bs after e

-- what is read of a piece, before what is read of the others
abbrev piece_word : List ℕ → Option FieldParameter → Option (List ℕ) → Option (List ℕ)
piece_word name None other = other
piece_word name (Some p) other = cond (str_eq_ignore_ascii_case p.name name) (Some (meant_word p.value)) other

begins_name : (n rest : List ℕ) → list_all is_bare_name_byte n ≡ true → after_blanks (n ++ 61 ∷ rest) ≡ n ++ 61 ∷ rest
unfolding after_blanks
begins_name [] rest e = refl
begins_name (b ∷ n) rest e =
    let both = and_parts (is_bare_byte b) (not (eqb b 61)) (and_parts (is_bare_name_byte b) (list_all is_bare_name_byte n) e).0 in
    after_stays b (n ++ 61 ∷ rest) (blank_or_not b both.0)

parameter_read : (name : List ℕ) (p : FieldParameter) (after : List ℕ) (other : Option (List ℕ)) → list_all is_bare_name_byte name ≡ true → is_parameter p ≡ true → list_all (may_follow_value p.value) after ≡ true
    → word_or (after_name 61 name (after_blanks (parameter_spelling p ++ after))) other ≡ piece_word name (Some p) other
parameter_read name p after other f e follows =
    let both = and_parts (list_all is_bare_name_byte p.name) (is_parameter_value p.value) e in
    ap (λ (t : List ℕ). word_or (after_name 61 name (after_blanks t)) other) (append_assoc p.name (61 ∷ value_spelling p.value) after)
    ∙ ap (λ (t : List ℕ). word_or (after_name 61 name t) other) (begins_name p.name (value_spelling p.value ++ after) both.0)
    ∙ ap (λ (o : Option (List ℕ)). word_or o other) (named p.name name (value_spelling p.value ++ after) both.0 f)
    ∙ go (str_eq_ignore_ascii_case p.name name)
  where
    go : (x : Bool) → word_or (cond x (Some (value_spelling p.value ++ after)) None) other ≡ cond x (Some (meant_word p.value)) other
    go true = value_word p.value after (and_parts (list_all is_bare_name_byte p.name) (is_parameter_value p.value) e).1 follows
    go false = refl

piece_read_by : (name before after : List ℕ) (o : Option FieldParameter) (other : Option (List ℕ)) → list_all is_bare_name_byte name ≡ true → Parts before o after
    → is_named_if_parameter name o (before ++ (spelled.spelling_or_none o ++ after)) ≡ true → word_or (after_name 61 name (after_blanks (before ++ (spelled.spelling_or_none o ++ after)))) other ≡ piece_word name o other
piece_read_by name before after None other f parts lacks = ap (λ (o : Option (List ℕ)). word_or o other) (not_named name (after_blanks (before ++ after)) (not-true (begins_with_name name (before ++ after)) lacks))
piece_read_by name before after (Some p) other f parts lacks =
    ap (λ (t : List ℕ). word_or (after_name 61 name t) other) (after_skips before (parameter_spelling p ++ after) parts.blanks)
    ∙ parameter_read name p after other f parts.spelled parts.follows

-- the asked name begins a piece only as a parameter's
abbrev is_clear : List ℕ → FieldPiece → Bool
is_clear name piece = is_named_if_parameter name piece.parameter (piece_spelling piece)

piece_read : (name : List ℕ) (piece : FieldPiece) (other : Option (List ℕ)) → list_all is_bare_name_byte name ≡ true → is_field_piece piece ≡ true → is_clear name piece ≡ true
    → word_or (after_name 61 name (after_blanks (piece_spelling piece))) other ≡ piece_word name piece.parameter other
piece_read name piece other f e clear = piece_read_by name piece.before piece.after piece.parameter other f (parts_of piece.before piece.parameter piece.after e) clear

named_later : (name : List ℕ) (o : Option FieldParameter) (ps : List FieldPiece) (before after : List ℕ) → word_named name (record { before = before; parameter = o; after = after } ∷ ps) ≡ piece_word name o (word_named name ps)
named_later name None ps before after = refl
named_later name (Some p) ps before after = go (str_eq_ignore_ascii_case p.name name)
  where
    go : (x : Bool) → option_map (λ (p : FieldParameter). meant_word p.value) (cond x (Some p) (find (λ (p : FieldParameter). str_eq_ignore_ascii_case p.name name) (filter_map (λ (piece : FieldPiece). piece.parameter) ps))) ≡ cond x (Some (meant_word p.value)) (word_named name ps)
    go true = refl
    go false = refl

words_are : (name : List ℕ) (ps : List FieldPiece) → list_all is_bare_name_byte name ≡ true → list_all is_field_piece ps ≡ true → list_all (is_clear name) ps ≡ true → parameter_word_in name (map piece_spelling ps) ≡ word_named name ps
unfolding parameter_word_in
words_are name [] f e clear = refl
words_are name (p ∷ ps) f e clear =
    let both = and_parts (is_field_piece p) (list_all is_field_piece ps) e in
    let each = and_parts (is_clear name p) (list_all (is_clear name) ps) clear in
    piece_read name p (parameter_word_in name (map piece_spelling ps)) f both.0 each.0
    ∙ ap (piece_word name p.parameter) (words_are name ps f both.1 each.1)
    ∙ sym (named_later name p.parameter ps p.before p.after)

field_pieces : (text type : List ℕ) (ps : List FieldPiece) (f : IsFieldOf text type ps) → parameter_pieces text ≡ (f.before ++ (type ++ f.after)) ∷ map piece_spelling ps
field_pieces text type ps f =
    ap parameter_pieces f.spells
    ∙ pieces_are (f.before ++ (type ++ f.after)) ps
    (passes_append Outside f.before (type ++ f.after) Outside Outside (blanks_pass f.before f.blanks_before) (passes_append Outside type f.after Outside Outside (bare_passes type f.is_type) (blanks_pass f.after f.blanks_after)))
    f.each

pub type_is : (word text type : List ℕ) (ps : List FieldPiece) → IsFieldOf text type ps → is_type word text ≡ str_eq_ignore_ascii_case type word
type_is word text type ps f =
    ap (λ (pieces : List (List ℕ)). str_eq_ignore_ascii_case (trimmed_text (get_or pieces 0 [])) word) (field_pieces text type ps f)
    ∙ ap (λ (t : List ℕ). str_eq_ignore_ascii_case t word) (trimmed f.before type f.after f.blanks_before f.is_type f.blanks_after)

pub word_is : (name text type : List ℕ) (ps : List FieldPiece) → IsNamedField name text type ps → parameter name text ≡ word_named name ps
word_is name text type ps is =
    ap (λ (pieces : List (List ℕ)). parameter_word_in name (drop 1 pieces)) (field_pieces text type ps is.field)
    ∙ words_are name ps is.is_name is.field.each is.of_parameters

-- the byte isn't this one, since it is one of a token and this one is not
other_byte : (b mark : ℕ) → spelled.is_token_byte b ≡ true → spelled.is_token_byte mark ≡ false → eqb b mark ≡ false
other_byte b mark e f = go (eqb b mark) refl
  where
    go : (x : Bool) → eqb b mark ≡ x → x ≡ false
    go true is = absurd (let same = eqb-true b mark is in let g : spelled.is_token_byte b ≡ false = rw same f in let h : true ≡ false = sym e ∙ g in cc)
    go false is = refl

pub tokens_are_names : (b : ℕ) → spelled.is_token_byte b ≡ true → is_bare_name_byte b ≡ true
tokens_are_names b e = rw (other_byte b 32 e refl, other_byte b 9 e refl, other_byte b 34 e refl, other_byte b 59 e refl, other_byte b 61 e refl) refl
