-- Each token is read before other texts too.
use Rattle.std.proofs.Common.{◌≡◌, ℕ, ℤ, Bool, true, false, ◌||◌, ◌&&◌, eqb, List, [], ◌∷◌, ◌++◌, codes, refl, ap, sym, subst, ◌∙◌, inl, inr, arith, append_assoc}
use Rattle.std.proofs.lemmas.Bool.Decides.{nat_tests}
use Rattle.sp_base.specs.Bytes.{begins_with_byte, is_digit}
use Rattle.htl_syntax.specs.declared.tokens.NameKind.{NameKind}
use Rattle.htl_syntax.specs.declared.tokens.NameKind.TheVariants.{Name, Field}
use Rattle.htl_syntax.specs.declared.node.Comparison.{Comparison}
use Rattle.htl_syntax.specs.declared.node.Comparison.TheVariants.{Equal, NotEqual, Below, Above, AtMost, AtLeast}
use Rattle.htl_syntax.specs.declared.expression.Context.{Context}
use Rattle.htl_syntax.specs.Tokens.{blanks_skipped, begins, goes_on, is_letter, is_first, is_word_byte, expression_digit_fits, limit}
use Rattle.htl_syntax.specs.Fault.{SameHead}
use Rattle.htl_syntax.specs.Grammar.{Byte, Operator, Bare, Passes, NameToken, StringBody, String, Digits, Sign, Number, Compares, Literal, ContextString, context_text, Join, InContext}
use Rattle.htl_syntax.specs.Grammar as g
use Rattle.htl_syntax.proofs.Moves.{Plain, Near, Fits, near_clear, fits_near, fits_in, near_in, ends_fit, digit_word, field_word, blanks, Moves, Steps, Jumps, Then, steps_of, at_jumps, steps_map, steps_steps, at_steps}

pub byte_jumps : (c : ℕ) (s r : List ℕ) → Byte c s r → Jumps (Byte c) s r
byte_jumps c s r b =
    at_jumps (Byte c) s (c ∷ b.after) r (blanks_skipped b.after) b.parts b.rest (record {
      leading = c ∷ (blanks b.after).leading;
      parts = ap (λ (t : List ℕ). c ∷ t) (blanks b.after).parts;
      same = λ z h. record { after = (blanks b.after).leading ++ z; parts = refl; rest = sym ((blanks b.after).over z h) };
    })

pub byte_steps : (c : ℕ) (s r : List ℕ) → Byte c s r → Steps (Byte c) s r
byte_steps c s r b = steps_of (Byte c) s r (byte_jumps c s r b)

pub operator_steps : (c d : ℕ) (s r : List ℕ) → Operator c d s r → Steps (Operator c d) s r
operator_steps c d s r b =
    at_steps (Operator c d) s (c ∷ d ∷ b.after) r (blanks_skipped b.after) b.parts b.rest (record {
      leading = c ∷ d ∷ (blanks b.after).leading;
      parts = ap (λ (t : List ℕ). c ∷ d ∷ t) (blanks b.after).parts;
      same = λ z h. record { after = (blanks b.after).leading ++ z; parts = refl; rest = sym ((blanks b.after).over z (near_clear (blanks_skipped b.after) z h)) };
    })

no_equal : (r z : List ℕ) → Near r z → begins_with_byte 61 r ≡ false → begins_with_byte 61 z ≡ false
unfolding begins_with_byte
no_equal [] [] (inl h) e = refl
no_equal [] (d ∷ z) (inl h) e = absurd h
no_equal (c ∷ r) [] (inl h) e = absurd h
no_equal (c ∷ r) (d ∷ z) (inl h) e = ap (λ (x : ℕ). eqb x 61) (sym h) ∙ e
no_equal r [] (inr p) e = refl
no_equal r (c ∷ z) (inr p) e = p.2

bare_steps : (c : ℕ) (s r : List ℕ) → Bare c s r → Steps (Bare c) s r
bare_steps c s r b =
    let bl = blanks b.after in
    at_steps (Bare c) s (c ∷ b.after) r (blanks_skipped b.after) b.parts b.rest (record {
      leading = c ∷ bl.leading;
      parts = ap (λ (t : List ℕ). c ∷ t) bl.parts;
      same = λ z h. record { after = bl.leading ++ z; parts = refl; longest = no_equal b.after (bl.leading ++ z) (near_in b.after bl.leading (blanks_skipped b.after) z bl.parts h) b.longest; rest = sym (bl.over z (near_clear (blanks_skipped b.after) z h)) };
    })

abbrev pub ComparesOf : Comparison → List ℕ → List ℕ → Type 0
ComparesOf op s r = Compares s op r

pub compares_steps : (s : List ℕ) (op : Comparison) (r : List ℕ) → Compares s op r → Steps (ComparesOf op) s r
compares_steps s _ r (g.equal o) = steps_map (Operator 61 61) (ComparesOf Equal) s r (λ s' r' q. g.equal q) (operator_steps 61 61 s r o)
compares_steps s _ r (g.not_equal o) = steps_map (Operator 33 61) (ComparesOf NotEqual) s r (λ s' r' q. g.not_equal q) (operator_steps 33 61 s r o)
compares_steps s _ r (g.at_most o) = steps_map (Operator 60 61) (ComparesOf AtMost) s r (λ s' r' q. g.at_most q) (operator_steps 60 61 s r o)
compares_steps s _ r (g.at_least o) = steps_map (Operator 62 61) (ComparesOf AtLeast) s r (λ s' r' q. g.at_least q) (operator_steps 62 61 s r o)
compares_steps s _ r (g.below o) = steps_map (Bare 60) (ComparesOf Below) s r (λ s' r' q. g.below q) (bare_steps 60 s r o)
compares_steps s _ r (g.above o) = steps_map (Bare 62) (ComparesOf Above) s r (λ s' r' q. g.above q) (bare_steps 62 s r o)

-- ---- strings

record QuoteMoves (mark : ℕ) (s w after : List ℕ) : Type 0 where
  leading : List ℕ
  parts : s ≡ leading ++ after
  same : (z : List ℕ) → StringBody mark (leading ++ z) w z

quote_moves : (mark : ℕ) (s w after : List ℕ) → StringBody mark s w after → QuoteMoves mark s w after
quote_moves mark _ _ after g.closes = record { leading = mark ∷ []; parts = refl; same = λ z. g.closes }
quote_moves mark _ _ after (g.plain {c = c} a b q) = (let k = quote_moves mark _ _ after q in record { leading = c ∷ k.leading; parts = ap (λ (t : List ℕ). c ∷ t) k.parts; same = λ z. g.plain a b (k.same z) })
quote_moves mark _ _ after (g.escape {c = c} e q) = (let k = quote_moves mark _ _ after q in record { leading = 92 ∷ c ∷ k.leading; parts = ap (λ (t : List ℕ). 92 ∷ c ∷ t) k.parts; same = λ z. g.escape e (k.same z) })

abbrev pub StringOf : List ℕ → List ℕ → List ℕ → Type 0
StringOf w s r = String s w r

pub string_steps : (s w r : List ℕ) → String s w r → Steps (StringOf w) s r
string_steps s w r x =
    let k = quote_moves x.mark x.inside w x.after x.body in
    let bl = blanks x.after in
    at_steps (StringOf w) s (x.mark ∷ x.inside) r (blanks_skipped x.after) x.parts x.rest (record {
      leading = x.mark ∷ (k.leading ++ bl.leading);
      parts = ap (λ (t : List ℕ). x.mark ∷ t) (k.parts ∙ ap (λ (t : List ℕ). k.leading ++ t) bl.parts ∙ sym (append_assoc k.leading bl.leading (blanks_skipped x.after)));
      same = λ z h. record { mark = x.mark; inside = k.leading ++ (bl.leading ++ z); after = bl.leading ++ z; parts = ap (λ (t : List ℕ). x.mark ∷ t) (append_assoc k.leading bl.leading z); is_mark = x.is_mark; body = k.same (bl.leading ++ z); rest = sym (bl.over z (near_clear (blanks_skipped x.after) z h)) };
    })

-- ---- names

or_right : (a b : Bool) → (a || b) ≡ true → b ≡ false → a ≡ true
or_right true b e f = refl
or_right false b e f = absurd cc

no_colon : (c : ℕ) (r : List ℕ) → begins is_letter r ≡ false → goes_on Field (c ∷ r) ≡ true → is_word_byte c ≡ true
unfolding goes_on
no_colon c r e h = or_right (is_word_byte c) (eqb c 58 && begins is_letter r) h (rw e (none (eqb c 58)))
  where
    none : (b : Bool) → (b && false) ≡ false
    none true = refl
    none false = refl

letter_goes_on : (r : List ℕ) → goes_on Field r ≡ false → begins is_letter r ≡ false
unfolding begins goes_on
letter_goes_on [] e = refl
letter_goes_on (c ∷ r) e = letter (is_letter c) (eqb c 95) (is_digit c) (field_word c r e)
  where
    letter : (a b d : Bool) → ((a || b) || d) ≡ false → a ≡ false
    letter true b d e' = absurd cc
    letter false b d e' = refl

-- the last byte of a name goes on before any text
last_passes : (kind : NameKind) (c : ℕ) (r z : List ℕ) → goes_on kind r ≡ false → goes_on kind (c ∷ r) ≡ true → goes_on kind (c ∷ z) ≡ true
unfolding goes_on begins
last_passes Name c r z e h = h
last_passes Field c r z e h = rw (no_colon c r (letter_goes_on r e) h) refl

two_pass : (kind : NameKind) (c d : ℕ) (r z : List ℕ) → goes_on kind (c ∷ d ∷ r) ≡ true → goes_on kind (c ∷ d ∷ z) ≡ true
unfolding goes_on begins
two_pass Name c d r z h = h
two_pass Field c d r z h = h

passes_before : (kind : NameKind) (w r z : List ℕ) → goes_on kind r ≡ false → Passes kind w r → Passes kind w z
passes_before kind [] r z e p = tt
passes_before kind (c ∷ []) r z e p = (last_passes kind c r z e p.0, tt)
passes_before kind (c ∷ d ∷ w) r z e p = (two_pass kind c d (w ++ r) (w ++ z) p.0, passes_before kind (d ∷ w) r z e p.1)

word_goes_on : (kind : NameKind) (c : ℕ) (r : List ℕ) → is_first c ≡ true → goes_on kind (c ∷ r) ≡ true
unfolding goes_on begins
word_goes_on Name c r h = rw h refl
word_goes_on Field c r h = rw h refl

-- a name has a first byte
first_before : (kind : NameKind) (w r z : List ℕ) → begins is_first (w ++ r) ≡ true → goes_on kind r ≡ false → begins is_first (w ++ z) ≡ true
unfolding begins
first_before kind (c ∷ w) r z h e = h
first_before kind [] [] z h e = absurd cc
first_before kind [] (c ∷ r) z h e = absurd (let x = word_goes_on kind c r h in cc)

abbrev pub NameTokenOf : NameKind → List ℕ → List ℕ → List ℕ → Type 0
NameTokenOf kind w s r = NameToken kind s w r

pub name_moves : (kind : NameKind) (s w r : List ℕ) → NameToken kind s w r → Moves (NameTokenOf kind w) s r
name_moves kind s w r x =
    let bl = blanks x.after in
    record {
      leading = w ++ bl.leading;
      parts = x.parts ∙ ap (λ (q : List ℕ). w ++ q) (bl.parts ∙ ap (λ (q : List ℕ). bl.leading ++ q) (sym x.rest)) ∙ sym (append_assoc w bl.leading r);
      same = λ z h.
          (let h' : Fits (blanks_skipped x.after) z = subst (λ (q : List ℕ). Fits q z) x.rest h in
          let whole : Fits x.after (bl.leading ++ z) = fits_in x.after bl.leading (blanks_skipped x.after) z bl.parts h' in
          record {
            after = bl.leading ++ z;
            parts = append_assoc w bl.leading z;
            first = rw (append_assoc w bl.leading z) (first_before kind w x.after (bl.leading ++ z) (subst (λ (q : List ℕ). begins is_first q ≡ true) x.parts x.first) x.longest);
            passes = passes_before kind w x.after (bl.leading ++ z) x.longest x.passes;
            longest = ends_fit kind x.after (bl.leading ++ z) whole x.longest;
            rest = sym (bl.over z (near_clear (blanks_skipped x.after) z (fits_near (blanks_skipped x.after) z h')));
          });
    }

-- ---- numbers

pub no_digit : (most m : ℕ) (z : List ℕ) → Plain z → expression_digit_fits most m z ≡ false
unfolding expression_digit_fits
no_digit most m [] p = refl
no_digit most m (c ∷ z) p = rw (digit_word c (field_word c z p.0)) refl

fits_same : (most m : ℕ) (r z : List ℕ) → SameHead r z → expression_digit_fits most m z ≡ expression_digit_fits most m r
unfolding expression_digit_fits
fits_same most m [] [] h = refl
fits_same most m [] (d ∷ z) h = absurd h
fits_same most m (c ∷ r) [] h = absurd h
fits_same most m (c ∷ r) (d ∷ z) h = rw h refl

digits_end : (most m : ℕ) (r z : List ℕ) → Fits r z → expression_digit_fits most m r ≡ false → expression_digit_fits most m z ≡ false
digits_end most m r z (inl h) e = fits_same most m r z h.0 ∙ e
digits_end most m r z (inr p) e = no_digit most m z p

record DigitMoves (most m : ℕ) (s : List ℕ) (k : ℕ) (after : List ℕ) : Type 0 where
  leading : List ℕ
  parts : s ≡ leading ++ after
  same : (z : List ℕ) → Fits after z → Digits most m (leading ++ z) k z

digit_moves : (most m : ℕ) (s : List ℕ) (k : ℕ) (after : List ℕ) → Digits most m s k after → DigitMoves most m s k after
unfolding expression_digit_fits
digit_moves most m s _ _ (g.none e) = record { leading = []; parts = refl; same = λ z h. g.none (digits_end most m s z h e) }
digit_moves most m _ k after (g.digit {c = c} {s = s} e d) = (let i = digit_moves most _ s k after d in record { leading = c ∷ i.leading; parts = ap (λ (t : List ℕ). c ∷ t) i.parts; same = λ z h. g.digit e (i.same z h) })

first_fits : (negative : Bool) (c : ℕ) (s : List ℕ) → is_digit c ≡ true → expression_digit_fits (limit negative) 0 (c ∷ s) ≡ true
unfolding expression_digit_fits
first_fits true c s h = grind (arith, nat_tests)
first_fits false c s h = grind (arith, nat_tests)

-- the digits of a number, of which one at least stands there
record FirstDigit (negative : Bool) (s : List ℕ) (k : ℕ) (after : List ℕ) : Type 0 where
  moves : DigitMoves (limit negative) 0 s k after
  begin : (z : List ℕ) → begins is_digit (moves.leading ++ z) ≡ true

first_digit : (negative : Bool) (s : List ℕ) (k : ℕ) (after : List ℕ) → begins is_digit s ≡ true → Digits (limit negative) 0 s k after → FirstDigit negative s k after
unfolding begins expression_digit_fits
first_digit negative [] _ _ h (g.none e) = absurd cc
first_digit negative (c ∷ s) _ _ h (g.none e) = absurd (let x = first_fits negative c s h in cc)
first_digit negative _ k after h (g.digit {c = c} {s = s} e d) =
    (let i = digit_moves (limit negative) _ s k after d in
    record { moves = record { leading = c ∷ i.leading; parts = ap (λ (t : List ℕ). c ∷ t) i.parts; same = λ z f. g.digit e (i.same z f) }; begin = λ z. h })

abbrev minus : Bool → List ℕ
minus true = 45 ∷ []
minus false = []

minus_is : (negative : Bool) (s t : List ℕ) → Sign negative s t → s ≡ minus negative ++ t
minus_is true s t e = e
minus_is false s t e = e

minus_sign : (negative : Bool) (t : List ℕ) → Sign negative (minus negative ++ t) t
minus_sign true t = refl
minus_sign false t = refl

abbrev pub NumberOf : ℤ → List ℕ → List ℕ → Type 0
NumberOf k s r = Number s k r

pub number_moves : (s : List ℕ) (k : ℤ) (r : List ℕ) → Number s k r → Moves (NumberOf k) s r
number_moves s k r x =
    let f = first_digit x.negative x.inside x.magnitude x.after x.first x.body in
    let bl = blanks x.after in
    let sign = minus x.negative in
    let shape : (z : List ℕ) → (sign ++ (f.moves.leading ++ bl.leading)) ++ z ≡ sign ++ (f.moves.leading ++ (bl.leading ++ z)) = λ z. append_assoc sign (f.moves.leading ++ bl.leading) z ∙ ap (λ (t : List ℕ). sign ++ t) (append_assoc f.moves.leading bl.leading z) in
    record {
      leading = sign ++ (f.moves.leading ++ bl.leading);
      parts = minus_is x.negative s x.inside x.sign ∙ ap (λ (t : List ℕ). sign ++ t) (f.moves.parts ∙ ap (λ (t : List ℕ). f.moves.leading ++ t) (bl.parts ∙ ap (λ (t : List ℕ). bl.leading ++ t) (sym x.rest))) ∙ sym (shape r);
      same = λ z h.
          (let h' : Fits (blanks_skipped x.after) z = subst (λ (q : List ℕ). Fits q z) x.rest h in
          subst (λ (t : List ℕ). Number t k z) (sym (shape z))
          (record {
            negative = x.negative;
            magnitude = x.magnitude;
            inside = f.moves.leading ++ (bl.leading ++ z);
            after = bl.leading ++ z;
            sign = minus_sign x.negative (f.moves.leading ++ (bl.leading ++ z));
            first = f.begin (bl.leading ++ z);
            body = f.moves.same (bl.leading ++ z) (fits_in x.after bl.leading (blanks_skipped x.after) z bl.parts h');
            value = x.value;
            rest = sym (bl.over z (near_clear (blanks_skipped x.after) z (fits_near (blanks_skipped x.after) z h')));
          }));
    }

-- ---- options

pub literal_jumps : (w s r : List ℕ) → Literal w s r → Jumps (Literal w) s r
literal_jumps w s r b =
    let bl = blanks b.after in
    at_jumps (Literal w) s (w ++ b.after) r (blanks_skipped b.after) b.parts b.rest (record {
      leading = w ++ bl.leading;
      parts = ap (λ (t : List ℕ). w ++ t) bl.parts ∙ sym (append_assoc w bl.leading (blanks_skipped b.after));
      same = λ z h. record { after = bl.leading ++ z; parts = append_assoc w bl.leading z; rest = sym (bl.over z h) };
    })

pub literal_steps : (w s r : List ℕ) → Literal w s r → Steps (Literal w) s r
literal_steps w s r b = steps_of (Literal w) s r (literal_jumps w s r b)

abbrev pub ContextStringOf : Context → List ℕ → List ℕ → Type 0
ContextStringOf c s r = ContextString s c r

pub context_string_steps : (s : List ℕ) (c : Context) (r : List ℕ) → ContextString s c r → Steps (ContextStringOf c) s r
context_string_steps s c r x =
    let bl = blanks x.after in
    let w = context_text c in
    at_steps (ContextStringOf c) s (x.mark ∷ (w ++ x.mark ∷ x.after)) r (blanks_skipped x.after) x.parts x.rest (record {
      leading = x.mark ∷ (w ++ x.mark ∷ bl.leading);
      parts = ap (λ (t : List ℕ). x.mark ∷ t) (ap (λ (t : List ℕ). w ++ x.mark ∷ t) bl.parts ∙ sym (append_assoc w (x.mark ∷ bl.leading) (blanks_skipped x.after)));
      same = λ z h. record { mark = x.mark; after = bl.leading ++ z; parts = ap (λ (t : List ℕ). x.mark ∷ t) (append_assoc w (x.mark ∷ bl.leading) z); is_mark = x.is_mark; rest = sym (bl.over z (near_clear (blanks_skipped x.after) z h)) };
    })

abbrev pub JoinOf : List ℕ → List ℕ → List ℕ → Type 0
JoinOf w s r = Join s w r

pub join_of : (w s r : List ℕ) → Then (Literal (codes "join")) (Then (Byte 61) (StringOf w)) s r → Join s w r
join_of w s r x = record { after_literal = x.0; after_sign = x.2.0; word = x.1; sign = x.2.1; value = x.2.2 }

pub join_steps : (s w r : List ℕ) → Join s w r → Steps (JoinOf w) s r
join_steps s w r x =
    steps_map (Then (Literal (codes "join")) (Then (Byte 61) (StringOf w))) (JoinOf w) s r (join_of w)
    (steps_steps (Literal (codes "join")) (Then (Byte 61) (StringOf w)) s x.after_literal r (literal_steps (codes "join") s x.after_literal x.word)
    (steps_steps (Byte 61) (StringOf w) x.after_literal x.after_sign r (byte_steps 61 x.after_literal x.after_sign x.sign) (string_steps x.after_sign w r x.value)))

abbrev pub InContextOf : Context → List ℕ → List ℕ → Type 0
InContextOf c s r = InContext s c r

pub in_context_of : (c : Context) (s r : List ℕ) → Then (Literal (codes "context")) (Then (Byte 61) (ContextStringOf c)) s r → InContext s c r
in_context_of c s r x = record { after_literal = x.0; after_sign = x.2.0; word = x.1; sign = x.2.1; value = x.2.2 }

pub in_context_steps : (s : List ℕ) (c : Context) (r : List ℕ) → InContext s c r → Steps (InContextOf c) s r
in_context_steps s c r x =
    steps_map (Then (Literal (codes "context")) (Then (Byte 61) (ContextStringOf c))) (InContextOf c) s r (in_context_of c)
    (steps_steps (Literal (codes "context")) (Then (Byte 61) (ContextStringOf c)) s x.after_literal r (literal_steps (codes "context") s x.after_literal x.word)
    (steps_steps (Byte 61) (ContextStringOf c) x.after_literal x.after_sign r (byte_steps 61 x.after_literal x.after_sign x.sign) (context_string_steps x.after_sign c r x.value)))
