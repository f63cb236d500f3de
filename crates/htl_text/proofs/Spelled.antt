-- What a template is read as is what it spells.
use Rattle.std.proofs.Common.{◌≡◌, ◌≤◌, ◌+◌, ◌-◌, ℕ, zero, suc, Bool, true, false, eqb, List, [], ◌∷◌, ◌++◌, drop, length, codes, Option, Some, None, Result, Ok, Err, refl, ap, sym, subst, ◌∙◌, arith, append_assoc}
use Rattle.std.proofs.lemmas.Bool.{and_parts, eqb-true}
use Rattle.std.proofs.lemmas.List.{length-append}
use Rattle.sp_base.specs.Bytes.{begins_with_byte}
use Rattle.htl_syntax.specs.declared.expression.Expression.{Expression}
use Rattle.htl_syntax.specs.declared.expression.ExprFault.{ExprFault}
use Rattle.htl_syntax.specs.Fault.{expression_of}
use Rattle.htl_syntax.specs.Grammar.{Whole}
use Rattle.htl_syntax.proofs.TokensRead.{byte_at}
use Rattle.htl_text.specs.declared.fault.TextFault.{TextFault}
use Rattle.htl_text.specs.declared.fault.TextFault.TheVariants.{Unclosed, BadExpr, NoMemory}
use Rattle.htl_text.specs.declared.piece.TemplatePiece.{TemplatePiece}
use Rattle.htl_text.specs.declared.piece.TemplatePiece.TheVariants.{Value}
use Rattle.htl_text.specs.declared.quotes.Quotes.TheVariants.{Outside}
use Rattle.htl_text.specs.Template.{opens_expression, escapes, closing, read_value, value_at, pieces_after_plain, with_plain, before, template_pieces, template_of}
use Rattle.htl_text.specs.Spelling.{Inside, SpellsTemplate, HasNoExpr, Faults, IsFirstOpening}
use Rattle.htl_text.specs.Spelling as s
use Rattle.htl_text.proofs.Closed.{closed, never_closes, none_closes, value_is, value_open}
use Rattle.htl_text.proofs.Pieces.{value_follows, value_fails}

abbrev Read : Type 0
Read = Result (List TemplatePiece) TextFault

-- what is read as an expression is one by the grammar
abbrev Found : Type 0
Found = (text : List ℕ) (e : Expression) → expression_of text ≡ Ok e → Whole text e

-- an expression of the grammar is read as that one
abbrev Only : Type 0
Only = (text : List ℕ) (e : Expression) → Whole text e → expression_of text ≡ Ok e

opens_at : (t : List ℕ) → opens_expression t ≡ true → t ≡ 36 ∷ 123 ∷ drop 2 t
unfolding opens_expression
opens_at [] h = absurd cc
opens_at (c ∷ t) h =
    let b = and_parts (eqb c 36) (begins_with_byte 123 t) h in
    ap (λ (x : ℕ). x ∷ t) (eqb-true c 36 b.0) ∙ ap (λ (u : List ℕ). 36 ∷ u) (byte_at 123 t b.1)

escapes_at : (t : List ℕ) → escapes t ≡ true → t ≡ 92 ∷ 36 ∷ 123 ∷ drop 3 t
unfolding escapes
escapes_at [] h = absurd cc
escapes_at (c ∷ t) h =
    let b = and_parts (eqb c 92) (opens_expression t) h in
    ap (λ (x : ℕ). x ∷ t) (eqb-true c 92 b.0) ∙ ap (λ (u : List ℕ). 92 ∷ u) (opens_at t b.1)

opens_there : (t : List ℕ) → opens_expression (36 ∷ 123 ∷ t) ≡ true
unfolding opens_expression begins_with_byte
opens_there t = refl

-- ---- what is spelled is read

-- the reading of a text by that of a rest
abbrev Carries : ℕ → List ℕ → List TemplatePiece → List ℕ → Type 0
Carries all text ps rest = (template_pieces all 0 rest ≡ Ok [] → template_pieces all 0 text ≡ Ok ps) × ((f : TextFault) → template_pieces all 0 rest ≡ Err f → template_pieces all 0 text ≡ Err f)

carries : (all : ℕ) (text later : List ℕ) (ps qs : List TemplatePiece) (rest : List ℕ) (k : Read → Read) → template_pieces all 0 text ≡ k (template_pieces all 0 later) → k (Ok ps) ≡ Ok qs → ((f : TextFault) → k (Err f) ≡ Err f)
    → Carries all later ps rest → Carries all text qs rest
carries all text later ps qs rest k e good bad x = (λ h. e ∙ ap k (x.0 h) ∙ good, λ f h. e ∙ ap k (x.1 f h) ∙ bad f)

plain_read : (all c : ℕ) (t : List ℕ) → opens_expression (c ∷ t) ≡ false → escapes (c ∷ t) ≡ false → template_pieces all 0 (c ∷ t) ≡ with_plain (c ∷ []) (template_pieces all 0 t)
unfolding template_pieces
plain_read all c t a b = rw (a, b) refl

escaped_read : (all : ℕ) (t : List ℕ) → template_pieces all 0 (92 ∷ 36 ∷ 123 ∷ t) ≡ with_plain (codes "${") (template_pieces all 0 t)
unfolding template_pieces opens_expression escapes begins_with_byte
escaped_read all t = refl

value_read : (all : ℕ) (w t : List ℕ) (e : Expression) → Inside w → expression_of w ≡ Ok e → template_pieces all 0 (36 ∷ 123 ∷ (w ++ 125 ∷ t)) ≡ before (Value e ∷ []) (template_pieces all 0 t)
value_read all w t e x h =
    let text = 36 ∷ 123 ∷ (w ++ 125 ∷ t) in
    value_follows all text e t (opens_there (w ++ 125 ∷ t)) (value_is (all - length text) w t x ∙ ap (read_value (all - length text) t) h)

spelled_on : Only → (all : ℕ) (text : List ℕ) (ps : List TemplatePiece) (rest : List ℕ) → SpellsTemplate text ps rest → Carries all text ps rest
spelled_on only all _ _ _ s.end = (λ h. h, λ f h. h)
spelled_on only all _ _ rest (s.plain {c = c} {text = t} {ps = ps} a b x) =
    carries all (c ∷ t) t ps (pieces_after_plain (c ∷ []) ps) rest (with_plain (c ∷ [])) (plain_read all c t a b) refl (λ f. refl) (spelled_on only all t ps rest x)
spelled_on only all _ _ rest (s.escape {text = t} {ps = ps} x) =
    carries all (92 ∷ 36 ∷ 123 ∷ t) t ps (pieces_after_plain (codes "${") ps) rest (with_plain (codes "${")) (escaped_read all t) refl (λ f. refl) (spelled_on only all t ps rest x)
spelled_on only all _ _ rest (s.value {inside = w} {text = t} {e = e} {ps = ps} i y x) =
    carries all (36 ∷ 123 ∷ (w ++ 125 ∷ t)) t ps (Value e ∷ ps) rest (before (Value e ∷ [])) (value_read all w t e i (only w e y)) refl (λ f. refl) (spelled_on only all t ps rest x)

pieces_end : (all : ℕ) → template_pieces all 0 [] ≡ Ok []
unfolding template_pieces
pieces_end all = refl

pub spelled_is_read : Only → (text : List ℕ) (ps : List TemplatePiece) → SpellsTemplate text ps [] → template_of text ≡ Ok ps
spelled_is_read only text ps x = (spelled_on only (length text) text ps [] x).0 (pieces_end (length text))

-- a fault is read where it is
fault_read : Found → (f : TextFault) (place : ℕ) (t : List ℕ) → Faults f place t → value_at place (36 ∷ 123 ∷ t) ≡ Err f
fault_read found (Unclosed n) place t x = value_open place t (none_closes t x.1) ∙ ap (λ (k : ℕ). Err (Unclosed k)) (sym x.0)
fault_read found (BadExpr n) place t x = ap (λ (u : List ℕ). value_at place (36 ∷ 123 ∷ u)) b.parts ∙ value_is place b.inside b.text b.closed ∙ go (expression_of b.inside) refl
  where
    b : HasNoExpr t
    b = x.1

    go : (r : Result Expression ExprFault) → expression_of b.inside ≡ r → read_value place b.text r ≡ Err (BadExpr n)
    go (Ok e) h = absurd (b.none e (found b.inside e h))
    go (Err g) h = ap (λ (k : ℕ). Err (BadExpr k)) (sym x.0)
fault_read found NoMemory place t x = absurd x

pub first_is_read : Found → Only → (text : List ℕ) (f : TextFault) → IsFirstOpening f text → template_of text ≡ Err f
first_is_read found only text f x =
    let opening = 36 ∷ 123 ∷ x.after_opening in
    let size : length text ≡ length x.prefix + length opening = ap length x.parts ∙ length-append x.prefix opening in
    let place : length text - length opening ≡ length x.prefix = omega (arith, size) in
    (spelled_on only (length text) text x.ps opening x.spelling).1 f
    (value_fails (length text) opening f (opens_there x.after_opening) (ap (λ (k : ℕ). value_at k opening) place ∙ fault_read found f (length x.prefix) x.after_opening x.faulty))

-- ---- what is read is spelled

-- the first fault of a text that begins at a place
record First (n : ℕ) (text : List ℕ) (fault : TextFault) : Type 0 where
  prefix : List ℕ
  after_opening : List ℕ
  ps : List TemplatePiece
  parts : text ≡ prefix ++ 36 ∷ 123 ∷ after_opening
  spelling : SpellsTemplate text ps (36 ∷ 123 ∷ after_opening)
  faulty : Faults fault (n + length prefix) after_opening

-- what a reading says of the text
abbrev Meaning : ℕ → List ℕ → Read → Type 0
Meaning n text (Ok ps) = SpellsTemplate text ps []
Meaning n text (Err f) = First n text f

-- a fault of what follows is one of the whole
later : (n : ℕ) (w text after : List ℕ) (f : TextFault) (g : List TemplatePiece → List TemplatePiece) → text ≡ w ++ after → ((ps : List TemplatePiece) (rest : List ℕ) → SpellsTemplate after ps rest → SpellsTemplate text (g ps) rest)
    → First (n + length w) after f → First n text f
later n w text after f g e spell x =
    let size = length-append w x.prefix in
    let place : (n + length w) + length x.prefix ≡ n + length (w ++ x.prefix) = omega (arith, size) in
    record {
      prefix = w ++ x.prefix;
      after_opening = x.after_opening;
      ps = g x.ps;
      parts = e ∙ ap (λ (t : List ℕ). w ++ t) x.parts ∙ sym (append_assoc w x.prefix (36 ∷ 123 ∷ x.after_opening));
      spelling = spell x.ps (36 ∷ 123 ∷ x.after_opening) x.spelling;
      faulty = subst (λ (k : ℕ). Faults f k x.after_opening) place x.faulty;
    }

plain_means : (n c : ℕ) (t : List ℕ) → opens_expression (c ∷ t) ≡ false → escapes (c ∷ t) ≡ false → (r : Read) → Meaning (n + 1) t r → Meaning n (c ∷ t) (with_plain (c ∷ []) r)
plain_means n c t a b (Ok ps) x = s.plain a b x
plain_means n c t a b (Err f) x = later n (c ∷ []) (c ∷ t) t f (pieces_after_plain (c ∷ [])) refl (λ ps rest y. s.plain a b y) x

escaped_means : (n : ℕ) (t : List ℕ) (r : Read) → Meaning (n + 3) t r → Meaning n (92 ∷ 36 ∷ 123 ∷ t) (with_plain (codes "${") r)
escaped_means n t (Ok ps) x = s.escape x
escaped_means n t (Err f) x = later n (92 ∷ 36 ∷ 123 ∷ []) (92 ∷ 36 ∷ 123 ∷ t) t f (pieces_after_plain (codes "${")) refl (λ ps rest y. s.escape y) x

value_means : (n : ℕ) (w t : List ℕ) (e : Expression) → Inside w → Whole w e → (r : Read) → Meaning (n + (length w + 3)) t r → Meaning n (36 ∷ 123 ∷ (w ++ 125 ∷ t)) (before (Value e ∷ []) r)
value_means n w t e i y (Ok ps) x = s.value i y x
value_means n w t e i y (Err f) x =
    let prefix = 36 ∷ 123 ∷ (w ++ 125 ∷ []) in
    let size = length-append w (125 ∷ []) in
    let place : n + (length w + 3) ≡ n + length prefix = omega (arith, size) in
    later n prefix (36 ∷ 123 ∷ (w ++ 125 ∷ t)) t f (λ ps. Value e ∷ ps) (ap (λ (u : List ℕ). 36 ∷ 123 ∷ u) (sym (append_assoc w (125 ∷ []) t))) (λ ps rest z. s.value i y z)
    (subst (λ (k : ℕ). First k t f) place x)

-- a fault at the beginning
fault_here : (n all : ℕ) (f : TextFault) (t : List ℕ) → n + length (36 ∷ 123 ∷ t) ≡ all → value_at n (36 ∷ 123 ∷ t) ≡ Err f → Faults f n t → Meaning n (36 ∷ 123 ∷ t) (template_pieces all 0 (36 ∷ 123 ∷ t))
fault_here n all f t e h x =
    let opening = 36 ∷ 123 ∷ t in
    let place : all - length opening ≡ n = omega (arith, e) in
    let none : n ≡ n + 0 = omega arith in
    let here : First n opening f = record { prefix = []; after_opening = t; ps = []; parts = refl; spelling = s.end; faulty = subst (λ (k : ℕ). Faults f k t) none x } in
    subst (Meaning n opening) (sym (value_fails all opening f (opens_there t) (ap (λ (k : ℕ). value_at k opening) place ∙ h))) here

-- an expression that is closed at the beginning
closed_means : Found → Only → (n all : ℕ) (w t : List ℕ) → Inside w → n + length (36 ∷ 123 ∷ (w ++ 125 ∷ t)) ≡ all → Meaning (n + (length w + 3)) t (template_pieces all 0 t)
    → Meaning n (36 ∷ 123 ∷ (w ++ 125 ∷ t)) (template_pieces all 0 (36 ∷ 123 ∷ (w ++ 125 ∷ t)))
closed_means found only n all w t i e x = go (expression_of w) refl
  where
    text : List ℕ
    text = 36 ∷ 123 ∷ (w ++ 125 ∷ t)

    go : (r : Result Expression ExprFault) → expression_of w ≡ r → Meaning n text (template_pieces all 0 text)
    go (Ok v) h = subst (Meaning n text) (sym (value_read all w t v i h)) (value_means n w t v i (found w v h) (template_pieces all 0 t) x)
    go (Err g) h =
        let none : (v : Expression) → Whole w v → ⊥ = λ v y. (let again = only w v y in absurd cc) in
        fault_here n all (BadExpr n) (w ++ 125 ∷ t) e (value_is n w t i ∙ ap (read_value n t) h) (refl, record { inside = w; text = t; parts = refl; closed = i; none = none })

-- what follows, up to a length, means what is read of it
abbrev Follows : ℕ → ℕ → Type 0
Follows all size = (n : ℕ) (t : List ℕ) → length t ≤ size → n + length t ≡ all → Meaning n t (template_pieces all 0 t)

opening_means : Found → Only → (n all size : ℕ) (t : List ℕ) → n + length (36 ∷ 123 ∷ t) ≡ all → length t ≤ size → Follows all size → Meaning n (36 ∷ 123 ∷ t) (template_pieces all 0 (36 ∷ 123 ∷ t))
opening_means found only n all size t e le ih = go (closing Outside 0 t) refl
  where
    go : (o : Option ℕ) → closing Outside 0 t ≡ o → Meaning n (36 ∷ 123 ∷ t) (template_pieces all 0 (36 ∷ 123 ∷ t))
    go None h = fault_here n all (Unclosed n) t e (value_open n t h) (refl, never_closes t h)
    go (Some m) h =
        let x = closed Outside 0 t m h in
        let parts = ap length x.parts ∙ length-append x.inside (125 ∷ x.text) in
        let less : length x.text ≤ size = omega (arith, parts, le) in
        let place : (n + (length x.inside + 3)) + length x.text ≡ all = omega (arith, parts, e) in
        let whole : n + length (36 ∷ 123 ∷ (x.inside ++ 125 ∷ x.text)) ≡ all = rw x.parts at e in
        subst (λ (u : List ℕ). Meaning n (36 ∷ 123 ∷ u) (template_pieces all 0 (36 ∷ 123 ∷ u))) (sym x.parts)
        (closed_means found only n all x.inside x.text x.closed whole (ih (n + (length x.inside + 3)) x.text less place))

escape_means : (n all size : ℕ) (t : List ℕ) → n + length (92 ∷ 36 ∷ 123 ∷ t) ≡ all → length t ≤ size → Follows all size → Meaning n (92 ∷ 36 ∷ 123 ∷ t) (template_pieces all 0 (92 ∷ 36 ∷ 123 ∷ t))
escape_means n all size t e le ih =
    let place : (n + 3) + length t ≡ all = omega (arith, e) in
    subst (Meaning n (92 ∷ 36 ∷ 123 ∷ t)) (sym (escaped_read all t)) (escaped_means n t (template_pieces all 0 t) (ih (n + 3) t le place))

prefix_means : Found → Only → (n all size c : ℕ) (t : List ℕ) → n + length (c ∷ t) ≡ all → length t ≤ size → Follows all size → Meaning n (c ∷ t) (template_pieces all 0 (c ∷ t))
prefix_means found only n all size c t e le ih = go (opens_expression (c ∷ t)) (escapes (c ∷ t)) refl refl
  where
    go : (a b : Bool) → opens_expression (c ∷ t) ≡ a → escapes (c ∷ t) ≡ b → Meaning n (c ∷ t) (template_pieces all 0 (c ∷ t))
    go true b ea eb =
        let parts = opens_at (c ∷ t) ea in
        let size_of = ap length parts in
        let whole : n + length (36 ∷ 123 ∷ drop 1 t) ≡ all = omega (arith, e, size_of) in
        let less : length (drop 1 t) ≤ size = omega (arith, le, size_of) in
        subst (λ (u : List ℕ). Meaning n u (template_pieces all 0 u)) (sym parts) (opening_means found only n all size (drop 1 t) whole less ih)
    go false true ea eb =
        let parts = escapes_at (c ∷ t) eb in
        let size_of = ap length parts in
        let whole : n + length (92 ∷ 36 ∷ 123 ∷ drop 2 t) ≡ all = omega (arith, e, size_of) in
        let less : length (drop 2 t) ≤ size = omega (arith, le, size_of) in
        subst (λ (u : List ℕ). Meaning n u (template_pieces all 0 u)) (sym parts) (escape_means n all size (drop 2 t) whole less ih)
    go false false ea eb =
        let place : (n + 1) + length t ≡ all = omega (arith, e) in
        subst (Meaning n (c ∷ t)) (sym (plain_read all c t ea eb)) (plain_means n c t ea eb (template_pieces all 0 t) (ih (n + 1) t le place))

means : Found → Only → (all size : ℕ) → Follows all size
means found only all size n [] le e = subst (Meaning n []) (sym (pieces_end all)) s.end
means found only all zero n (c ∷ t) le e = absurd (omega (arith, le))
means found only all (suc size) n (c ∷ t) le e = prefix_means found only n all size c t e (omega (arith, le)) (means found only all size)

whole_means : Found → Only → (text : List ℕ) (r : Read) → template_of text ≡ r → Meaning 0 text r
whole_means found only text r e = subst (Meaning 0 text) e (means found only (length text) (length text) 0 text (omega arith) (omega arith))

pub read_is_spelled : Found → Only → (text : List ℕ) (ps : List TemplatePiece) → template_of text ≡ Ok ps → SpellsTemplate text ps []
read_is_spelled found only text ps e = whole_means found only text (Ok ps) e

pub fault_is_first : Found → Only → (text : List ℕ) (f : TextFault) → template_of text ≡ Err f → IsFirstOpening f text
fault_is_first found only text f e =
    let x = whole_means found only text (Err f) e in
    let same : 0 + length x.prefix ≡ length x.prefix = omega arith in
    record { prefix = x.prefix; after_opening = x.after_opening; ps = x.ps; parts = x.parts; spelling = x.spelling; faulty = subst (λ (k : ℕ). Faults f k x.after_opening) same x.faulty }
