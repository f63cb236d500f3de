-- Steps of reading a template piece by piece.
use Rattle.std.proofs.Common.{◌≡◌, ◌<◌, ◌+◌, ◌-◌, ℕ, zero, suc, true, false, ◌||◌, eqb, List, [], ◌∷◌, ◌++◌, take, drop, get_or, length, Option, Some, None, Result, Ok, Err, refl, ap, sym, ◌∙◌, arith, append_assoc}
use Rattle.std.proofs.Common.{drop-drop}
use Rattle.std.specs.List.{flat_map}
use Rattle.std.proofs.lemmas.List.{length-append}
use Rattle.std.proofs.lemmas.List.Folds.{length-flat_map-take}
use Rattle.sp_base.proofs.ListLemmas.{drop_short}
use Rattle.htl_syntax.specs.declared.expression.Expression.{Expression}
use Rattle.htl_syntax.specs.declared.expression.ExprFault.{ExprFault}
use Rattle.htl_syntax.specs.Fault.{expression_of}
use Rattle.htl_text.specs.declared.fault.TextFault.{TextFault}
use Rattle.htl_text.specs.declared.piece.TemplatePiece.{TemplatePiece}
use Rattle.htl_text.specs.declared.piece.TemplatePiece.TheVariants.{Value}
use Rattle.htl_text.specs.declared.quotes.Quotes.TheVariants.{Outside}
use Rattle.htl_text.specs.Template.{opens_expression, closing, read_value, closed_value, value_at, with_plain, before, template_pieces, plain_pieces}
use Rattle.htl_text.proofs.Steps.{skipped}

abbrev Read : Type 0
Read = Result (List TemplatePiece) TextFault

before_twice : (a b : List TemplatePiece) (r : Read) → before a (before b r) ≡ before (a ++ b) r
before_twice a b (Ok ps) = ap Ok (sym (append_assoc a b ps))
before_twice a b (Err f) = refl

-- plain text before an expression is a piece of its own
plain_before : (t : List ℕ) (e : Expression) (r : Read) → with_plain t (before (Value e ∷ []) r) ≡ before (plain_pieces t) (before (Value e ∷ []) r)
plain_before [] e (Ok ps) = refl
plain_before (c ∷ t) e (Ok ps) = refl
plain_before t e (Err f) = refl

-- as many bytes are passed over as are missing
drop_back : (n : ℕ) (t : List ℕ) → drop (length t - length (drop n t)) t ≡ drop n t
drop_back zero t = let none : length t - length t ≡ 0 = omega arith in rw none refl
drop_back (suc n) [] = refl
drop_back (suc n) (c ∷ t) =
    let less = drop_short n t in
    let more : suc (length t) - length (drop n t) ≡ suc (length t - length (drop n t)) = omega (arith, less) in
    rw more (drop_back n t)

-- what stands after an expression ends the text
record After (t remainder : List ℕ) : Type 0 where
  n : ℕ
  same : remainder ≡ drop n t

abbrev found : Expression × List ℕ → Result (Expression × List ℕ) TextFault
found x = Ok x

ok_of : (x y : Expression × List ℕ) → found x ≡ found y → x ≡ y
ok_of x y e = cc

value_after : (place c : ℕ) (t : List ℕ) (e : Expression) (remainder : List ℕ) → value_at place (c ∷ t) ≡ Ok (e, remainder) → After t remainder
unfolding value_at
value_after place c t e remainder h = go (closing Outside 0 (drop 1 t)) h
  where
    in_text : (n : ℕ) (r : Result Expression ExprFault) → read_value place (drop 1 (drop n (drop 1 t))) r ≡ Ok (e, remainder) → After t remainder
    in_text n (Ok read) x = record { n = 1 + n + 1; same = sym (ap (λ (q : Expression × List ℕ). q.1) (ok_of _ _ x)) ∙ ap (drop 1) (drop-drop n 1 t) ∙ drop-drop 1 (1 + n) t }
    in_text n (Err f) x = absurd cc

    go : (o : Option ℕ) → closed_value place (drop 1 t) o ≡ Ok (e, remainder) → After t remainder
    go None x = absurd cc
    go (Some n) x = in_text n (expression_of (take n (drop 1 t))) x

not_nothing : opens_expression [] ≡ true → ⊥
unfolding opens_expression
not_nothing h = absurd cc

pub value_follows : (all : ℕ) (t : List ℕ) (e : Expression) (remainder : List ℕ) → opens_expression t ≡ true → value_at (all - length t) t ≡ Ok (e, remainder) → template_pieces all 0 t ≡ before (Value e ∷ []) (template_pieces all 0 remainder)
unfolding template_pieces
value_follows all [] e remainder h x = absurd (not_nothing h)
value_follows all (c ∷ t) e remainder h x =
    let b = value_after (all - length (c ∷ t)) c t e remainder x in
    let rest : drop (length t - length remainder) t ≡ remainder = rw b.same (drop_back b.n t) in
    rw (h, x) (ap (before (Value e ∷ [])) (skipped all (length t - length remainder) t ∙ ap (template_pieces all 0) rest))

pub value_fails : (all : ℕ) (t : List ℕ) (f : TextFault) → opens_expression t ≡ true → value_at (all - length t) t ≡ Err f → template_pieces all 0 t ≡ Err f
unfolding template_pieces
value_fails all [] f h x = absurd (not_nothing h)
value_fails all (c ∷ t) f h x = rw (h, x) refl

pub opens_is : (t : List ℕ) → (eqb (length t) 0 || opens_expression t) ≡ true → eqb (length t) 0 ≡ false → opens_expression t ≡ true
opens_is t h e = rw e at h

-- nothing is left
pub read_ends : (all : ℕ) (old new : List TemplatePiece) (prefix remainder rest text : List ℕ) → eqb (length remainder) 0 ≡ true → ((n : ℕ) → with_plain prefix (template_pieces n 0 remainder) ≡ template_pieces n 0 rest)
    → new ≡ old ++ plain_pieces prefix → before old (template_pieces all 0 rest) ≡ template_pieces all 0 text → template_pieces all 0 text ≡ Ok new
unfolding template_pieces
read_ends all old new prefix [] rest text e plain en inv = sym inv ∙ ap (before old) (sym (plain all)) ∙ ap Ok (sym en)
read_ends all old new prefix (c ∷ t) rest text e plain en inv = absurd (grind (arith))

-- an expression is left, which has a fault
pub read_fails : (all place : ℕ) (old : List TemplatePiece) (prefix remainder rest text : List ℕ) (f : TextFault) → opens_expression remainder ≡ true → place ≡ all - length remainder → value_at place remainder ≡ Err f
    → ((n : ℕ) → with_plain prefix (template_pieces n 0 remainder) ≡ template_pieces n 0 rest) → before old (template_pieces all 0 rest) ≡ template_pieces all 0 text → template_pieces all 0 text ≡ Err f
read_fails all place old prefix remainder rest text f h ep x plain inv =
    let fails = value_fails all remainder f h (rw ep at x) in
    sym inv ∙ ap (before old) (sym (plain all)) ∙ ap (λ (r : Read). before old (with_plain prefix r)) fails

-- an expression is left, and a text after it
pub read_more : (all place : ℕ) (old mid new : List TemplatePiece) (prefix remainder after rest text : List ℕ) (e : Expression) → opens_expression remainder ≡ true → place ≡ all - length remainder → value_at place remainder ≡ Ok (e, after)
    → ((n : ℕ) → with_plain prefix (template_pieces n 0 remainder) ≡ template_pieces n 0 rest) → mid ≡ old ++ plain_pieces prefix → new ≡ mid ++ Value e ∷ [] → before old (template_pieces all 0 rest) ≡ template_pieces all 0 text
    → before new (template_pieces all 0 after) ≡ template_pieces all 0 text
read_more all place old mid new prefix remainder after rest text e h ep x plain em en inv =
    let follows = value_follows all remainder e after h (rw ep at x) in
    let later = template_pieces all 0 after in
    rw (en, em) (
    sym (before_twice (old ++ plain_pieces prefix) (Value e ∷ []) later)
    ∙ sym (before_twice old (plain_pieces prefix) (before (Value e ∷ []) later))
    ∙ ap (before old) (sym (plain_before prefix e later) ∙ ap (with_plain prefix) (sym follows) ∙ plain all)
    ∙ inv)

-- what stood there, what the pieces so far write, and what one more writes are too long already
pub piece_too_long : {X : Type 0} (g : X → List ℕ) (xs : List X) (i : ℕ) (x : X) (most : ℕ) (leading now : List ℕ) → i < length xs → x ≡ get_or xs i x → now ≡ leading ++ flat_map g (take i xs) → most < length (now ++ g x) → most < length (leading ++ flat_map g xs)
piece_too_long g xs i x most leading now lt is e long =
    let within = rw (sym is) at (length-flat_map-take g xs i x lt) in
    let parts = length-append now (g x) in
    let whole = length-append leading (flat_map g xs) in
    let same = ap length e ∙ length-append leading (flat_map g (take i xs)) in
    omega (arith, within, parts, whole, same, long)
