-- What is read is what is spelled.
use Rattle.std.proofs.Common.{◌≡◌, ◌≢◌, ◌≤◌, ◌+◌, ◌↔◌, ℕ, zero, suc, Bool, true, false, cond, ◌==◌, List, [], ◌∷◌, ◌++◌, length, Option, Some, None, Result, Ok, Err, IfOk, IfErr, IsUtf8, refl, ap, sym, ◌∙◌, arith, subst, append_assoc, length-append}
use Rattle.std.specs.Prelude.{encode_utf8_all}
use Rattle.std.specs.Str.{chars, NonePass}
use Rattle.std.proofs.lemmas.Bool.{eqb-true}
use Rattle.std.proofs.lemmas.Bool.Decides.{nat_tests}
use Rattle.std.proofs.lemmas.Str.{encodes-chars}
use Rattle.sp_base.proofs.TextLemmas.{encode_append}
use Rattle.glob_rules.specs.declared.fault.GlobFault.{GlobFault}
use Rattle.glob_rules.specs.declared.fault.GlobFault.TheVariants.{OpenClass, NoMemory}
use Rattle.glob_rules.specs.declared.piece.GlobRange.{GlobRange}
use Rattle.glob_rules.specs.declared.piece.GlobClass.{GlobClass}
use Rattle.glob_rules.specs.declared.piece.GlobPiece.{GlobPiece}
use Rattle.glob_rules.specs.declared.piece.GlobPiece.TheVariants.{Star, AnyChar, Literal, Class}
use Rattle.glob_rules.specs.Reading.{is_open, is_close, is_negation, piece_of_char, glob_range, ranges_of, class_of, pieces_from, unclosed_class, unless_unclosed, glob_of}
use Rattle.glob_rules.specs.Spelling.{GoesOnAsRange, AreGlobRanges, IsGlobClass, SpellsGlob, IsOpen, IsGlobFault}
use Rattle.glob_rules.proofs.ReadLemmas.{closes, class_piece, stays_unclosed}

-- ---- ranges

ranges_sound : (cs : List ℕ) → AreGlobRanges cs (ranges_of cs)
ranges_sound [] = AreGlobRanges.none
ranges_sound (c ∷ []) = AreGlobRanges.alone (λ g. absurd (let e = g.2 in cc)) AreGlobRanges.none
ranges_sound (c ∷ d ∷ []) = AreGlobRanges.alone (λ g. absurd (let e = g.2 in cc)) (AreGlobRanges.alone (λ g. absurd (let e = g.2 in cc)) AreGlobRanges.none)
ranges_sound (c ∷ d ∷ e ∷ cs) = go (d == 45) refl (ranges_sound cs) (ranges_sound (d ∷ e ∷ cs))
  where
    go : (b : Bool) → (d == 45) ≡ b → AreGlobRanges cs (ranges_of cs) → AreGlobRanges (d ∷ e ∷ cs) (ranges_of (d ∷ e ∷ cs))
        → AreGlobRanges (c ∷ d ∷ e ∷ cs) (cond b (glob_range c e ∷ ranges_of cs) (glob_range c c ∷ ranges_of (d ∷ e ∷ cs)))
    go true is two one = subst (λ (n : ℕ). AreGlobRanges (c ∷ n ∷ e ∷ cs) (glob_range c e ∷ ranges_of cs)) (sym (eqb-true d 45 is)) (AreGlobRanges.two_ends two)
    go false is two one = AreGlobRanges.alone (λ g. not_dash g.0 g.1 g.2) one
      where
        not_dash : (last : ℕ) (more : List ℕ) → d ∷ e ∷ cs ≡ 45 ∷ last ∷ more → ⊥
        not_dash last more same = let dash : d ≡ 45 = cc in absurd (grind (arith, nat_tests))

ranges_complete : (cs : List ℕ) (ranges : List GlobRange) → AreGlobRanges cs ranges → ranges_of cs ≡ ranges
ranges_complete _ _ AreGlobRanges.none = refl
ranges_complete _ _ (AreGlobRanges.two_ends {first} {last} {cs} {ranges} inner) = ap (λ (l : List GlobRange). glob_range first last ∷ l) (ranges_complete cs ranges inner)
ranges_complete _ _ (AreGlobRanges.alone {c} {cs} {ranges} apart inner) = go cs apart (ranges_complete cs ranges inner)
  where
    go : (cs : List ℕ) → (GoesOnAsRange cs → ⊥) → ranges_of cs ≡ ranges → ranges_of (c ∷ cs) ≡ glob_range c c ∷ ranges
    go [] apart ih = ap (λ (l : List GlobRange). glob_range c c ∷ l) ih
    go (d ∷ []) apart ih = ap (λ (l : List GlobRange). glob_range c c ∷ l) ih
    go (d ∷ e ∷ more) apart ih = at (d == 45) refl
      where
        at : (b : Bool) → (d == 45) ≡ b → cond b (glob_range c e ∷ ranges_of more) (glob_range c c ∷ ranges_of (d ∷ e ∷ more)) ≡ glob_range c c ∷ ranges
        at true is = absurd (apart (e, more, ap (λ (n : ℕ). n ∷ e ∷ more) (eqb-true d 45 is)))
        at false is = ap (λ (l : List GlobRange). glob_range c c ∷ l) ih

head_is : (c d : ℕ) (cs more : List ℕ) → c ∷ cs ≡ d ∷ more → c ≡ d
head_is c d cs more e = cc

class_sound : (cs : List ℕ) → IsGlobClass cs (class_of cs)
class_sound [] = IsGlobClass.these (λ c more e. absurd cc) AreGlobRanges.none
class_sound (c ∷ cs) = go (is_negation c) refl
  where
    go : (b : Bool) → is_negation c ≡ b → IsGlobClass (c ∷ cs) (cond b (record { negated = true; ranges = ranges_of cs }) (record { negated = false; ranges = ranges_of (c ∷ cs) }))
    go true is = IsGlobClass.others is (ranges_sound cs)
    go false is = IsGlobClass.these (λ d more e. let same : c ≡ d = head_is c d cs more e in subst (λ (n : ℕ). is_negation n ≡ false) same is) (ranges_sound (c ∷ cs))

class_complete : (cs : List ℕ) (class : GlobClass) → IsGlobClass cs class → class_of cs ≡ class
class_complete _ _ (IsGlobClass.others {c} {cs} {ranges} is all) = rw is (ap (λ (l : List GlobRange). record { negated = true; ranges = l }) (ranges_complete cs ranges all))
class_complete _ _ (IsGlobClass.these {cs} {ranges} apart all) = go cs apart (ranges_complete cs ranges all)
  where
    go : (cs : List ℕ) → ((c : ℕ) (more : List ℕ) → cs ≡ c ∷ more → is_negation c ≡ false) → ranges_of cs ≡ ranges → class_of cs ≡ record { negated = false; ranges = ranges }
    go [] apart e = ap (λ (l : List GlobRange). record { negated = false; ranges = l }) e
    go (c ∷ more) apart e = rw (apart c more refl) (ap (λ (l : List GlobRange). record { negated = false; ranges = l }) e)

-- ---- globs

-- a class that is closed, or one that stays open
data Cut : List ℕ → Type 0 where
  closed : {cs : List ℕ} (inside rest : List ℕ) → cs ≡ inside ++ 93 ∷ rest → NonePass is_close inside → Cut cs
  open_ : {cs : List ℕ} → NonePass is_close cs → Cut cs

cut : (cs : List ℕ) → Cut cs
cut [] = Cut.open_ tt
cut (c ∷ cs) = go (is_close c) refl (cut cs)
  where
    go : (b : Bool) → is_close c ≡ b → Cut cs → Cut (c ∷ cs)
    go true is later = Cut.closed [] cs (ap (λ (n : ℕ). n ∷ cs) (eqb-true c 93 is)) tt
    go false is (Cut.closed inside rest e none) = Cut.closed (c ∷ inside) rest (ap (λ (l : List ℕ). c ∷ l) e) (is, none)
    go false is (Cut.open_ none) = Cut.open_ (is, none)

-- what is left of a text that spells a glob, or that a class leaves open
abbrev Told : List ℕ → Option (List ℕ) → Type 0
Told cs None = SpellsGlob cs (pieces_from None cs)
Told cs (Some rest) = (prefix : List ℕ) × (glob : List GlobPiece) × (inside : List ℕ) × (cs ≡ prefix ++ 91 ∷ inside) × (rest ≡ 91 ∷ inside) × SpellsGlob prefix glob × NonePass is_close inside

plain_spells : (c : ℕ) (cs : List ℕ) (pieces : List GlobPiece) → is_open c ≡ false → SpellsGlob cs pieces → SpellsGlob (c ∷ cs) (piece_of_char c ∷ pieces)
plain_spells c cs pieces apart later = go (c == 42) (c == 63) refl refl
  where
    go : (p q : Bool) → (c == 42) ≡ p → (c == 63) ≡ q → SpellsGlob (c ∷ cs) (cond p Star (cond q AnyChar (Literal c)) ∷ pieces)
    go true q ep eq = subst (λ (n : ℕ). SpellsGlob (n ∷ cs) (Star ∷ pieces)) (sym (eqb-true c 42 ep)) (SpellsGlob.star later)
    go false true ep eq = subst (λ (n : ℕ). SpellsGlob (n ∷ cs) (AnyChar ∷ pieces)) (sym (eqb-true c 63 eq)) (SpellsGlob.any later)
    go false false ep eq = SpellsGlob.literal (rw (ep, eq, apart) refl) later

told : (n : ℕ) (cs : List ℕ) → length cs ≤ n → Told cs (unclosed_class None cs)
told n [] le = SpellsGlob.nothing
told zero (c ∷ cs) le = absurd (omega (arith, le))
told (suc n) (c ∷ cs) le = go (λ rest less. told n rest less) (is_open c) refl
  where
    plain : is_open c ≡ false → (o : Option (List ℕ)) → Told cs o → Told (c ∷ cs) o
    plain is None later = rw is (plain_spells c cs (pieces_from None cs) is later)
    plain is (Some rest) (prefix, glob, inside, parts, same, spelled, none) = (c ∷ prefix, piece_of_char c ∷ glob, inside, ap (λ (l : List ℕ). c ∷ l) parts, same, plain_spells c prefix glob is spelled, none)

    class : (inside rest : List ℕ) → c ≡ 91 → cs ≡ inside ++ 93 ∷ rest → NonePass is_close inside → (o : Option (List ℕ)) → Told rest o → Told (c ∷ cs) o
    class inside rest is e none None later =
        let pieces : pieces_from None (91 ∷ cs) ≡ Class (class_of inside) ∷ pieces_from None rest = ap (pieces_from (Some [])) e ∙ class_piece [] inside rest none in
        rw (is, pieces) (SpellsGlob.class inside rest (class_of inside) none (class_sound inside) e later)
    class inside rest is e none (Some left) (prefix, glob, after, parts, same, spelled, never) = (
      91 ∷ (inside ++ 93 ∷ prefix),
      Class (class_of inside) ∷ glob,
      after,
      rw (is, e, parts) (ap (λ (l : List ℕ). 91 ∷ l) (sym (append_assoc inside (93 ∷ prefix) (91 ∷ after)))),
      same,
      SpellsGlob.class inside prefix (class_of inside) none (class_sound inside) refl spelled,
      never,
    )

    by_cut : ((rest : List ℕ) → length rest ≤ n → Told rest (unclosed_class None rest)) → c ≡ 91 → Cut cs → Told (c ∷ cs) (unclosed_class (Some (c ∷ cs)) cs)
    by_cut ih is (Cut.closed inside rest e none) =
        let less : length rest ≤ n = omega (arith, le, ap length e, length-append inside (93 ∷ rest)) in
        let same : unclosed_class (Some (c ∷ cs)) cs ≡ unclosed_class None rest = ap (unclosed_class (Some (c ∷ cs))) e ∙ closes (c ∷ cs) inside rest none in
        subst (Told (c ∷ cs)) (sym same) (class inside rest is e none (unclosed_class None rest) (ih rest less))
    by_cut ih is (Cut.open_ none) =
        subst (Told (c ∷ cs)) (sym (stays_unclosed (c ∷ cs) cs none)) ([], [], cs, ap (λ (m : ℕ). m ∷ cs) is, ap (λ (m : ℕ). m ∷ cs) is, SpellsGlob.nothing, none)

    go : ((rest : List ℕ) → length rest ≤ n → Told rest (unclosed_class None rest)) → (b : Bool) → is_open c ≡ b → Told (c ∷ cs) (unclosed_class (cond b (Some (c ∷ cs)) None) cs)
    go ih true is = by_cut ih (eqb-true c 91 is) (cut cs)
    go ih false is = plain is (unclosed_class None cs) (ih cs (omega (arith, le)))

-- what is spelled is read
abbrev IsRead : List ℕ → List GlobPiece → Type 0
IsRead cs glob = (unclosed_class None cs ≡ None) × (pieces_from None cs ≡ glob)

plain_read : (c : ℕ) (cs : List ℕ) (glob : List GlobPiece) → is_open c ≡ false → IsRead cs glob → IsRead (c ∷ cs) (piece_of_char c ∷ glob)
plain_read c cs glob apart (ended, pieces) = (rw apart ended, rw apart (ap (λ (l : List GlobPiece). piece_of_char c ∷ l) pieces))

complete : (cs : List ℕ) (glob : List GlobPiece) → SpellsGlob cs glob → IsRead cs glob
complete _ _ SpellsGlob.nothing = (refl, refl)
complete _ _ (SpellsGlob.star {cs} {pieces} later) = plain_read 42 cs pieces refl (complete cs pieces later)
complete _ _ (SpellsGlob.any {cs} {pieces} later) = plain_read 63 cs pieces refl (complete cs pieces later)
complete _ _ (SpellsGlob.literal {c} {cs} {pieces} plain later) =
    let star : (c == 42) ≡ false = grind (arith, nat_tests) in
    let any : (c == 63) ≡ false = grind (arith, nat_tests) in
    let open_ : is_open c ≡ false = grind (arith, nat_tests) in
    let piece : piece_of_char c ≡ Literal c = rw (star, any) refl in
    subst (λ (p : GlobPiece). IsRead (c ∷ cs) (p ∷ pieces)) piece (plain_read c cs pieces open_ (complete cs pieces later))
complete _ _ (SpellsGlob.class {cs} {pieces} inside rest class none is e later) =
    let ih = complete rest pieces later in (
      ap (unclosed_class (Some (91 ∷ cs))) e ∙ closes (91 ∷ cs) inside rest none ∙ ih.0,
      ap (pieces_from (Some [])) e ∙ class_piece [] inside rest none ∙ ap (λ (k : GlobClass). Class k ∷ pieces_from None rest) (class_complete inside class is)
          ∙ ap (λ (l : List GlobPiece). Class class ∷ l) ih.1,
    )

-- ---- what a reading says

abbrev Answers : List ℕ → Result (List GlobPiece) GlobFault → Type 0
Answers cs (Ok glob) = SpellsGlob cs glob
Answers cs (Err NoMemory) = ⊥
Answers cs (Err (OpenClass place)) = IsOpen place cs

answered : (text : List ℕ) → IsUtf8 text → Answers (chars text) (glob_of text)
answered text u = go (unclosed_class None (chars text)) (told (length (chars text)) (chars text) (omega arith))
  where
    go : (o : Option (List ℕ)) → Told (chars text) o → Answers (chars text) (unless_unclosed o text)
    go None spelled = spelled
    go (Some rest) (prefix, glob, inside, parts, same, spelled, none) =
        let whole : length text ≡ length (encode_utf8_all prefix) + length (encode_utf8_all rest) =
        ap length (sym (encodes-chars text u) ∙ ap encode_utf8_all (parts ∙ ap (λ (l : List ℕ). prefix ++ l) (sym same)) ∙ encode_append prefix rest) ∙ length-append (encode_utf8_all prefix) (encode_utf8_all rest)
        in
        record { prefix = prefix; glob = glob; inside = inside; parts = parts; spelled = spelled; none = none; here = omega (arith, whole) }

is_only : (text : List ℕ) (glob : List GlobPiece) → SpellsGlob (chars text) glob → glob_of text ≡ Ok glob
is_only text glob spelled =
    let read = complete (chars text) glob spelled in
    ap (λ (o : Option (List ℕ)). unless_unclosed o text) read.0 ∙ ap (λ (l : List GlobPiece). Ok l) read.1

abbrev done : List GlobPiece → Result (List GlobPiece) GlobFault
done glob = Ok glob

abbrev failed : GlobFault → Result (List GlobPiece) GlobFault
failed fault = Err fault

spelled_is : (text : List ℕ) (read glob : List GlobPiece) → IsUtf8 text → glob_of text ≡ Ok read → SpellsGlob (chars text) glob ↔ glob ≡ read
spelled_is text read glob u e = (
  λ s. let both : done glob ≡ done read = sym (is_only text glob s) ∙ e in cc,
  λ same. rw same (subst (Answers (chars text)) e (answered text u)),
)

fault_is : (text : List ℕ) (e : GlobFault) → IsUtf8 text → (e ≢ NoMemory → glob_of text ≡ Err e) → IsGlobFault e (chars text)
fault_is text NoMemory u h = tt
fault_is text (OpenClass place) u h =
    let e : glob_of text ≡ Err (OpenClass place) = h (λ same. absurd cc) in
    (subst (Answers (chars text)) e (answered text u), λ glob s. let both : done glob ≡ failed (OpenClass place) = sym (is_only text glob s) ∙ e in absurd cc)

pub spelled_read : (text : List ℕ) (r : Result (List GlobPiece) GlobFault) → IsUtf8 text → IfOk r (λ g. glob_of text ≡ Ok g) → IfOk r (λ g. (glob : List GlobPiece) → SpellsGlob (chars text) glob ↔ glob ≡ g)
spelled_read text (Ok g) u e = λ glob. spelled_is text g glob u e
spelled_read text (Err fault) u e = tt

pub fault_read : (text : List ℕ) (r : Result (List GlobPiece) GlobFault) → IsUtf8 text → IfErr r (λ e. e ≢ NoMemory → glob_of text ≡ Err e) → IfErr r (λ e. IsGlobFault e (chars text))
fault_read text (Ok g) u e = tt
fault_read text (Err fault) u e = fault_is text fault u e
