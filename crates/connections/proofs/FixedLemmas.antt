-- Which answers have the bytes of the fixed 507.
use Rattle.std.proofs.Common.{◌≡◌, ◌++◌, ◌||◌, ◌&&◌, ◌==◌, ◌∙◌, ◌⊎◌, inl, inr, ℕ, Bool, true, false, List, [], ◌∷◌, codes, decimal, drop, length, get_or, refl, ap, sym, subst, arith}
use Rattle.std.specs.Prelude.{IsTrue, flat_map, if◌then◌else◌}
use Rattle.std.specs.Char.{is_ascii_digit}
use Rattle.std.specs.List.{list_any}
use Rattle.std.specs.Fmt.{digits}
use Rattle.std.specs.Cmp.Lexicographic.{same_text}
use Rattle.std.proofs.lemmas.Bool.{false≢true, or_right}
use Rattle.std.proofs.Math.Dec.{eqb-suc-zero}
use Rattle.std.proofs.lemmas.List.{append_assoc, append_cancel_left, nil_from_length}
use Rattle.std.proofs.lemmas.List.Folds.{list_any-append}
use Rattle.location_field.specs.Location.{location_of}
use Rattle.sp_base.specs.Bytes.{is_visible_ascii}
use Rattle.any_config.specs.declared.farm.Farm.{Farm}
use Rattle.cover_rules.specs.declared.page.PageKey.{PageKey}
use Rattle.dispatch_rules.specs.Caching.{is_storable}
use Rattle.cache_log.specs.Entries.{LogEntry}
use Rattle.error_answers.specs.Errors.{error_answer, phrase_of}
use Rattle.percent_encoding.specs.Percent.{percent_encode_byte}
use Rattle.sp_base.specs.declared.answer.Answer.{Answer}
use Rattle.sp_base.specs.declared.answer.Mark.{Mark}
use Rattle.sp_base.specs.declared.answer.Mark.TheVariants.{Plain, NoCache, NoStore, MustRevalidate}
use Rattle.sp_base.proofs.TextLemmas.{one_run_of_digits}
use Rattle.http_front.specs.Answers.{Field, allowed_methods, answer_bytes, answer_content, connection, content_length, directive_of, field_line, fields_of, fixed_507, is_without_content, printable_value, status_line, unless_empty}
use Rattle.connections.specs.Slots.{IsHit, fixed_answer, are_fixed_507}
use Rattle.connections.proofs.DigitLemmas.{decimal-all, written-0, written-507}

-- ---- a number ends where another byte comes
nought : decimal 0 ≡ 48 ∷ []
unfolding digits
nought = refl

-- a number, and the byte that ends it
one_number : (end m n : ℕ) (r s : List ℕ) → is_ascii_digit end ≡ false → decimal m ++ end ∷ r ≡ decimal n ++ end ∷ s → (decimal m ≡ decimal n) × (r ≡ s)
one_number end m n r s none e = one_run_of_digits end (decimal m) (decimal n) r s none (decimal-all m) (decimal-all n) e

-- ---- the status comes first
abbrev line_end : List ℕ
line_end = 13 ∷ 10 ∷ []

-- what the fixed 507 has after its status line
abbrev fixed_rest : List ℕ
fixed_rest = codes "Content-Length: 0\r\nConnection: close\r\n\r\n"

status_spread : (status : ℕ) (rest : List ℕ) → status_line status ++ rest ≡ codes "HTTP/1.1 " ++ (decimal status ++ 32 ∷ (phrase_of status ++ (line_end ++ rest)))
unfolding status_line
status_spread status rest =
    let h : List ℕ = codes "HTTP/1.1 " in
    let d : List ℕ = decimal status in
    let b : List ℕ = codes " " in
    let p : List ℕ = phrase_of status in
    append_assoc (h ++ d ++ b ++ p) line_end rest ∙ append_assoc (h ++ d ++ b) p (line_end ++ rest) ∙ append_assoc (h ++ d) b (p ++ (line_end ++ rest)) ∙ append_assoc h d (32 ∷ (p ++ (line_end ++ rest)))

fixed_spread : fixed_507 ≡ codes "HTTP/1.1 " ++ (decimal 507 ++ 32 ∷ (phrase_of 507 ++ (line_end ++ fixed_rest)))
unfolding phrase_of digits
fixed_spread = refl

one_status : (status : ℕ) (rest : List ℕ) → status_line status ++ rest ≡ fixed_507 → (status ≡ 507) × (rest ≡ fixed_rest)
one_status status rest e =
    let at = one_number 32 status 507 _ _ refl (ap (drop 9) (sym (status_spread status rest) ∙ e ∙ fixed_spread)) in
    let phrases : phrase_of 507 ++ (line_end ++ rest) ≡ phrase_of 507 ++ (line_end ++ fixed_rest) = subst (λ s. phrase_of s ++ (line_end ++ rest) ≡ phrase_of 507 ++ (line_end ++ fixed_rest)) (written-507 status at.0) at.1 in
    (written-507 status at.0, ap (drop 2) (append_cancel_left (phrase_of 507) _ _ phrases))

-- ---- then the fields
-- the fields, the line that ends them, and the content
abbrev fields_text : List Field → List ℕ → List ℕ
fields_text fields tail = flat_map field_line fields ++ (line_end ++ tail)

-- the fields of an answer, one after another
abbrev field_values : List ℕ → List ℕ → List ℕ → List ℕ → List ℕ → List ℕ → List Field
field_values kind location methods directive size last =
    unless_empty (codes "Content-Type") kind
    ++ (unless_empty (codes "Location") location ++ (unless_empty (codes "Allow") methods ++ (unless_empty (codes "Cache-Control") directive ++ (unless_empty (codes "Content-Length") size ++ unless_empty (codes "Connection") last))))

fields_spread : (h c : Bool) (a : Answer) → fields_of h c a ≡ field_values (printable_value a.kind) (location_of a.location) (allowed_methods a.status) (directive_of a.mark) (content_length h a) (connection c)
fields_spread h c a =
    let u = unless_empty (codes "Content-Type") (printable_value a.kind) in
    let v = unless_empty (codes "Location") (location_of a.location) in
    let w = unless_empty (codes "Allow") (allowed_methods a.status) in
    let x = unless_empty (codes "Cache-Control") (directive_of a.mark) in
    let y = unless_empty (codes "Content-Length") (content_length h a) in
    let z = unless_empty (codes "Connection") (connection c) in
    append_assoc (u ++ v ++ w ++ x) y z ∙ append_assoc (u ++ v ++ w) x (y ++ z) ∙ append_assoc (u ++ v) w (x ++ (y ++ z)) ∙ append_assoc u v (w ++ (x ++ (y ++ z)))

unless_some : (name : List ℕ) (b : ℕ) (v : List ℕ) → unless_empty name (b ∷ v) ≡ (name, b ∷ v) ∷ []
unless_some name b v = rw (eqb-suc-zero (length v)) refl

-- a field that is there is the first
first_there : (name : List ℕ) (b : ℕ) (v : List ℕ) (later : List Field) (tail : List ℕ) → fields_text (unless_empty name (b ∷ v) ++ later) tail ≡ fixed_rest → fields_text ((name, b ∷ v) ∷ later) tail ≡ fixed_rest
first_there name b v later tail e = subst (λ u. fields_text (u ++ later) tail ≡ fixed_rest) (unless_some name b v) e

no_kind : (v : List ℕ) (later : List Field) (tail : List ℕ) → fields_text (unless_empty (codes "Content-Type") v ++ later) tail ≡ fixed_rest → v ≡ []
unfolding field_line
no_kind [] later tail e = refl
no_kind (b ∷ v) later tail e = absurd (let other : 84 ≡ 76 = ap (λ t. get_or t 8 0) (first_there (codes "Content-Type") b v later tail e) in omega (arith, other))

no_location : (v : List ℕ) (later : List Field) (tail : List ℕ) → fields_text (unless_empty (codes "Location") v ++ later) tail ≡ fixed_rest → v ≡ []
unfolding field_line
no_location [] later tail e = refl
no_location (b ∷ v) later tail e = absurd (let other : 76 ≡ 67 = ap (λ t. get_or t 0 0) (first_there (codes "Location") b v later tail e) in omega (arith, other))

no_methods : (v : List ℕ) (later : List Field) (tail : List ℕ) → fields_text (unless_empty (codes "Allow") v ++ later) tail ≡ fixed_rest → v ≡ []
unfolding field_line
no_methods [] later tail e = refl
no_methods (b ∷ v) later tail e = absurd (let other : 65 ≡ 67 = ap (λ t. get_or t 0 0) (first_there (codes "Allow") b v later tail e) in omega (arith, other))

no_directive : (v : List ℕ) (later : List Field) (tail : List ℕ) → fields_text (unless_empty (codes "Cache-Control") v ++ later) tail ≡ fixed_rest → v ≡ []
unfolding field_line
no_directive [] later tail e = refl
no_directive (b ∷ v) later tail e = absurd (let other : 97 ≡ 111 = ap (λ t. get_or t 1 0) (first_there (codes "Cache-Control") b v later tail e) in omega (arith, other))

-- without a length comes the connection's field, or the end of the fields
some_size : (c : Bool) (tail : List ℕ) → fields_text (unless_empty (codes "Connection") (connection c)) tail ≡ fixed_rest → ⊥
unfolding field_line
some_size true tail e = let other : 110 ≡ 116 = ap (λ t. get_or t 3 0) e in omega (arith, other)
some_size false tail e = let other : 13 ≡ 67 = ap (λ t. get_or t 0 0) e in omega (arith, other)

-- the end of a line after a text
line_spread : (v : List ℕ) (rest : List ℕ) → field_line (codes "Content-Length", v) ++ rest ≡ codes "Content-Length: " ++ (v ++ 13 ∷ (10 ∷ rest))
unfolding field_line
line_spread v rest =
    let n : List ℕ = codes "Content-Length: " in
    append_assoc (n ++ v) line_end rest ∙ append_assoc n v (line_end ++ rest)

-- the length is nought, and the connection closes
one_size : (n : ℕ) (c : Bool) (tail : List ℕ) → fields_text ((codes "Content-Length", decimal n) ∷ unless_empty (codes "Connection") (connection c)) tail ≡ fixed_rest → (n ≡ 0) × (c ≡ true)
one_size n c tail e =
    let line = append_assoc (field_line (codes "Content-Length", decimal n)) (flat_map field_line (unless_empty (codes "Connection") (connection c))) (line_end ++ tail) in
    let end : List ℕ = 13 ∷ (10 ∷ codes "Connection: close\r\n\r\n") in
    let spread = ap (drop 16) (sym (line_spread (decimal n) _) ∙ sym line ∙ e) in
    let at = one_number 13 n 0 _ (10 ∷ codes "Connection: close\r\n\r\n") refl (spread ∙ ap (λ d. d ++ end) (sym nought)) in
    (written-0 n at.0, closes c (ap (drop 1) at.1))
  where
    closes : (d : Bool) → fields_text (unless_empty (codes "Connection") (connection d)) tail ≡ codes "Connection: close\r\n\r\n" → d ≡ true
    closes true is = refl
    closes false is = absurd (let other : 13 ≡ 67 = ap (λ t. get_or t 0 0) is in omega (arith, other))

-- ---- what an answer with these bytes is
answer_spread : (h c : Bool) (a : Answer) → answer_bytes h c a ≡ status_line a.status ++ fields_text (fields_of h c a) (answer_content h a)
unfolding answer_bytes
answer_spread h c a =
    let s = status_line a.status in
    let f = flat_map field_line (fields_of h c a) in
    append_assoc (s ++ f) line_end (answer_content h a) ∙ append_assoc s f (line_end ++ answer_content h a)

fixed_fields : (h c : Bool) (a : Answer) → answer_bytes h c a ≡ fixed_507
    → (a.status ≡ 507) × (fields_text (field_values (printable_value a.kind) (location_of a.location) (allowed_methods a.status) (directive_of a.mark) (content_length h a) (connection c)) (answer_content h a) ≡ fixed_rest)
fixed_fields h c a e =
    let at = one_status a.status (fields_text (fields_of h c a) (answer_content h a)) (sym (answer_spread h c a) ∙ e) in
    (at.0, ap (λ fields. fields_text fields (answer_content h a)) (sym (fields_spread h c a)) ∙ at.1)

printable_none : (v : List ℕ) → printable_value v ≡ [] → v ≡ []
unfolding printable_value
printable_none [] e = refl
printable_none (b ∷ v) e = absurd (let no : ⊥ = cc in no)

location_none : (v : List ℕ) → location_of v ≡ [] → v ≡ []
unfolding location_of percent_encode_byte
location_none [] e = refl
location_none (b ∷ v) e = absurd (by_test (is_visible_ascii b) (flat_map (λ x. if is_visible_ascii x then x ∷ [] else percent_encode_byte x) v) e)
  where
    by_test : (t : Bool) (more : List ℕ) → (if t then b ∷ [] else percent_encode_byte b) ++ more ≡ [] → ⊥
    by_test true more is = let no : ⊥ = cc in no
    by_test false more is = let no : ⊥ = cc in no

directive_none : (mark : Mark) → directive_of mark ≡ [] → mark ≡ Plain
directive_none Plain e = refl
directive_none NoCache e = absurd (omega (arith, ap length e))
directive_none NoStore e = absurd (omega (arith, ap length e))
directive_none MustRevalidate e = absurd (omega (arith, ap length e))

size_there : (v : List ℕ) (c : Bool) (tail : List ℕ) → fields_text (unless_empty (codes "Content-Length") v ++ unless_empty (codes "Connection") (connection c)) tail ≡ fixed_rest
    → fields_text ((codes "Content-Length", v) ∷ unless_empty (codes "Connection") (connection c)) tail ≡ fixed_rest
size_there [] c tail e = absurd (some_size c tail e)
size_there (d ∷ v) c tail e = first_there (codes "Content-Length") d v _ tail e

without_head : (other h : Bool) → (other || (h && true)) ≡ false → h ≡ false
without_head true h e = absurd (let no : ⊥ = cc in no)
without_head false true e = absurd (let no : ⊥ = cc in no)
without_head false false e = refl

sizes_fixed : (without h c : Bool) (n : ℕ) (tail : List ℕ)
    → fields_text (unless_empty (codes "Content-Length") (if without || (h && (n == 0)) then [] else decimal n) ++ unless_empty (codes "Connection") (connection c)) tail ≡ fixed_rest → (h ≡ false) × (c ≡ true) × (n ≡ 0)
sizes_fixed without h c n tail e = by_test (without || (h && (n == 0))) refl e
  where
    by_test : (t : Bool) → (without || (h && (n == 0))) ≡ t → fields_text (unless_empty (codes "Content-Length") (if t then [] else decimal n) ++ unless_empty (codes "Connection") (connection c)) tail ≡ fixed_rest → (h ≡ false) × (c ≡ true) × (n ≡ 0)
    by_test true is told = absurd (some_size c tail told)
    by_test false is told =
        let sizes = one_size n c tail (size_there (decimal n) c tail told) in
        (without_head without h (subst (λ m. (without || (h && (m == 0))) ≡ false) sizes.0 is), sizes.1, sizes.0)

fixed_by : (a : Answer) → a.status ≡ 507 → a.kind ≡ [] → a.location ≡ [] → a.mark ≡ Plain → length a.body ≡ 0 → a ≡ fixed_answer
fixed_by a status kind location mark body = λ i. record { status = status i; kind = kind i; location = location i; mark = mark i; body = nil_from_length a.body body i }

pub fixed_is : (h c : Bool) (a : Answer) → answer_bytes h c a ≡ fixed_507 → (h ≡ false) × (c ≡ true) × (a ≡ fixed_answer)
fixed_is h c a e =
    let tail = answer_content h a in
    let first = fixed_fields h c a e in
    let second = after_kind (printable_value a.kind) _ tail first.1 in
    let third = after_location (location_of a.location) _ tail second.1 in
    let fourth = after_methods (allowed_methods a.status) _ tail third.1 in
    let fifth = after_directive (directive_of a.mark) _ tail fourth.1 in
    let sizes = sizes_fixed (is_without_content a.status) h c (length a.body) tail fifth.1 in
    (sizes.0, sizes.1, fixed_by a first.0 (printable_none a.kind second.0) (location_none a.location third.0) (directive_none a.mark fifth.0) sizes.2)
  where
    after_kind : (v : List ℕ) (later : List Field) (tail : List ℕ) → fields_text (unless_empty (codes "Content-Type") v ++ later) tail ≡ fixed_rest → (v ≡ []) × (fields_text later tail ≡ fixed_rest)
    after_kind v later tail e = let none = no_kind v later tail e in (none, subst (λ x. fields_text (unless_empty (codes "Content-Type") x ++ later) tail ≡ fixed_rest) none e)

    after_location : (v : List ℕ) (later : List Field) (tail : List ℕ) → fields_text (unless_empty (codes "Location") v ++ later) tail ≡ fixed_rest → (v ≡ []) × (fields_text later tail ≡ fixed_rest)
    after_location v later tail e = let none = no_location v later tail e in (none, subst (λ x. fields_text (unless_empty (codes "Location") x ++ later) tail ≡ fixed_rest) none e)

    after_methods : (v : List ℕ) (later : List Field) (tail : List ℕ) → fields_text (unless_empty (codes "Allow") v ++ later) tail ≡ fixed_rest → (v ≡ []) × (fields_text later tail ≡ fixed_rest)
    after_methods v later tail e = let none = no_methods v later tail e in (none, subst (λ x. fields_text (unless_empty (codes "Allow") x ++ later) tail ≡ fixed_rest) none e)

    after_directive : (v : List ℕ) (later : List Field) (tail : List ℕ) → fields_text (unless_empty (codes "Cache-Control") v ++ later) tail ≡ fixed_rest → (v ≡ []) × (fields_text later tail ≡ fixed_rest)
    after_directive v later tail e = let none = no_directive v later tail e in (none, subst (λ x. fields_text (unless_empty (codes "Cache-Control") x ++ later) tail ≡ fixed_rest) none e)

-- no hit has them: what may be stored has another status
pub hit-unfixed : (h c : Bool) (farm : Farm) (log : List LogEntry) (key : PageKey) (a : Answer) → IsHit farm log key a → answer_bytes h c a ≡ fixed_507 → ⊥
hit-unfixed h c farm log key a hit e =
    let storable : is_storable fixed_answer ≡ true = subst (λ (x : Answer). is_storable x ≡ true) (fixed_is h c a e).2 hit.1 in
    false≢true storable

-- ---- and the other way round
pub are_fixed_507-fixed : (bytes : List ℕ) → bytes ≡ fixed_507 → are_fixed_507 bytes ≡ true
are_fixed_507-fixed bytes e = rw e refl

pub answer_fixed : answer_bytes false true fixed_answer ≡ fixed_507
unfolding answer_bytes status_line field_line printable_value location_of phrase_of digits
answer_fixed = refl

-- An answer is sent as the fixed 507 where it is the fixed answer, is sent whole and closes its connection. That it is the fixed answer
-- is what a test tells.
pub closed-fixed : (h c : Bool) (a : Answer) (is : Bool) → (IsTrue is → a ≡ fixed_answer) → (a ≡ fixed_answer → IsTrue is) → (h ≡ false) × (c ≡ true) → is ≡ are_fixed_507 (answer_bytes h c a)
closed-fixed h c a is told tells whole = by_test (are_fixed_507 (answer_bytes h c a)) refl is refl
  where
    by_test : (t : Bool) → are_fixed_507 (answer_bytes h c a) ≡ t → (u : Bool) → is ≡ u → u ≡ t
    by_test true sent true test = refl
    by_test true sent false test = absurd (false≢true (sym test ∙ tells (fixed_is h c a (same_text _ _ (sym sent))).2))
    by_test false sent true test =
        let bytes : answer_bytes h c a ≡ fixed_507 = ap (answer_bytes h c) (told test) ∙ rw (whole.0, whole.1) answer_fixed in
        absurd (false≢true (sym sent ∙ are_fixed_507-fixed _ bytes))
    by_test false sent false test = refl

pub other-fixed : (h c : Bool) (a : Answer) → (h ≡ true) ⊎ ((h ≡ false) × (c ≡ false)) → false ≡ are_fixed_507 (answer_bytes h c a)
other-fixed h c a way = by_test (are_fixed_507 (answer_bytes h c a)) refl
  where
    never : (h ≡ true) ⊎ ((h ≡ false) × (c ≡ false)) → (h ≡ false) × (c ≡ true) → ⊥
    never (inl head) whole = false≢true (sym whole.0 ∙ head)
    never (inr stays) whole = false≢true (sym stays.1 ∙ whole.1)

    by_test : (t : Bool) → are_fixed_507 (answer_bytes h c a) ≡ t → false ≡ t
    by_test true sent = let told = fixed_is h c a (same_text _ _ (sym sent)) in absurd (never way (told.0, told.1))
    by_test false sent = refl

-- ---- no answer of an error is
-- the fixed 507 has no `y`, and a media type's name has one
has_y : List ℕ → Bool
has_y bytes = list_any (λ b. b == 121) bytes

typed_fields : (b : ℕ) (v : List ℕ) (later : List Field) (tail : List ℕ) → has_y (fields_text (unless_empty (codes "Content-Type") (b ∷ v) ++ later) tail) ≡ true
unfolding field_line has_y
typed_fields b v later tail = subst (λ u. has_y (fields_text (u ++ later) tail) ≡ true) (sym (unless_some (codes "Content-Type") b v)) refl

error_fields : (h c : Bool) (status : ℕ) (tail : List ℕ) → has_y (fields_text (fields_of h c (error_answer status)) tail) ≡ true
unfolding error_answer printable_value
error_fields h c status tail =
    let a = error_answer status in
    ap (λ fields. has_y (fields_text fields tail)) (fields_spread h c a) ∙ typed_fields 116 (codes "ext/plain;charset=utf-8") _ tail

typed : (h c : Bool) (status : ℕ) → has_y (answer_bytes h c (error_answer status)) ≡ true
unfolding has_y
typed h c status =
    let a = error_answer status in
    let rest = fields_text (fields_of h c a) (answer_content h a) in
    ap has_y (answer_spread h c a) ∙ list_any-append (λ b. b == 121) (status_line a.status) rest ∙ or_right (has_y (status_line a.status)) (has_y rest) (error_fields h c status (answer_content h a))

pub own_unfixed : (h c : Bool) (status : ℕ) → false ≡ are_fixed_507 (answer_bytes h c (error_answer status))
unfolding has_y
own_unfixed h c status = by_test (are_fixed_507 (answer_bytes h c (error_answer status))) refl
  where
    by_test : (t : Bool) → are_fixed_507 (answer_bytes h c (error_answer status)) ≡ t → false ≡ t
    by_test true is =
        let none : has_y fixed_507 ≡ false = refl in
        let same : answer_bytes h c (error_answer status) ≡ fixed_507 = same_text _ _ (sym is) in
        absurd (false≢true (sym none ∙ ap has_y (sym same) ∙ typed h c status))
    by_test false is = refl
