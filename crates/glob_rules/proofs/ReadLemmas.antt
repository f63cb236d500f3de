-- Steps of reading a glob.
use Rattle.std.proofs.Common.{◌≡◌, ℕ, Bool, cond, List, [], ◌∷◌, ◌++◌, length, ◌-◌, ◌==◌, Option, Some, None, Err, IsUtf8, refl, ap, sym, ◌∙◌, subst, append_assoc}
use lib.Utf8.{encode}
use Rattle.std.specs.Str.{chars, NonePass, NoCharPasses}
use Rattle.std.proofs.lemmas.List.{append-nil}
use Rattle.std.proofs.lemmas.Str.{chars-append, chars_from_encodes, encodes-chars}
use Rattle.glob_rules.specs.declared.piece.GlobPiece.{GlobPiece}
use Rattle.glob_rules.specs.declared.piece.GlobPiece.TheVariants.{Class}
use Rattle.glob_rules.specs.declared.fault.GlobFault.TheVariants.{OpenClass}
use Rattle.glob_rules.specs.Reading.{is_close, pieces_from, class_of, unclosed_class, unless_unclosed, glob_of}

-- no character of a text closes a class
pub none_closes : (bs : List ℕ) → IsUtf8 bs → NoCharPasses (λ d. d == 93) bs → NonePass is_close (chars bs)
none_closes bs u found = subst (λ (cs : List ℕ). NonePass is_close cs) (chars_from_encodes found.0 bs u found.1) found.2

pub stays_unclosed : (rest cs : List ℕ) → NonePass is_close cs → unclosed_class (Some rest) cs ≡ Some rest
stays_unclosed rest [] none = refl
stays_unclosed rest (c ∷ cs) none = ap (λ (b : Bool). unclosed_class (cond b None (Some rest)) cs) none.0 ∙ stays_unclosed rest cs none.1

pub closes : (rest inside cs : List ℕ) → NonePass is_close inside → unclosed_class (Some rest) (inside ++ (93 ∷ cs)) ≡ unclosed_class None cs
closes rest [] cs none = refl
closes rest (c ∷ inside) cs none = ap (λ (b : Bool). unclosed_class (cond b None (Some rest)) (inside ++ (93 ∷ cs))) none.0 ∙ closes rest inside cs none.1

pub class_piece : (before inside cs : List ℕ) → NonePass is_close inside → pieces_from (Some before) (inside ++ (93 ∷ cs)) ≡ Class (class_of (before ++ inside)) ∷ pieces_from None cs
class_piece before [] cs none = ap (λ (l : List ℕ). Class (class_of l) ∷ pieces_from None cs) (sym (append-nil before))
class_piece before (c ∷ inside) cs none =
    ap (λ (b : Bool). cond b (Class (class_of before) ∷ pieces_from None (inside ++ (93 ∷ cs))) (pieces_from (Some (before ++ c ∷ [])) (inside ++ (93 ∷ cs)))) none.0
    ∙ class_piece (before ++ c ∷ []) inside cs none.1
    ∙ ap (λ (l : List ℕ). Class (class_of l) ∷ pieces_from None cs) (append_assoc before (c ∷ []) inside)

close_text : chars (93 ∷ []) ≡ 93 ∷ []
unfolding chars
close_text = refl

close_utf8 : IsUtf8 (93 ∷ [])
unfolding encode
close_utf8 = (93 ∷ [], (refl, refl))

-- the characters of a class and of what follows it
pub class_chars : (later inside after : List ℕ) → IsUtf8 inside → later ≡ inside ++ (93 ∷ after) → chars later ≡ chars inside ++ (93 ∷ chars after)
class_chars later inside after u parts =
    ap chars parts ∙ chars-append inside (93 ∷ after) u
    ∙ ap (λ (l : List ℕ). chars inside ++ l) (chars-append (93 ∷ []) after close_utf8 ∙ ap (λ (l : List ℕ). l ++ chars after) close_text)

-- a class that nothing closes
pub open_class : (text rest cs : List ℕ) → IsUtf8 rest → chars rest ≡ 91 ∷ cs → NonePass is_close cs → unclosed_class None (chars rest) ≡ unclosed_class None (chars text)
    → glob_of text ≡ Err (OpenClass (length text - length rest))
open_class text rest cs u begins none same =
    let open_ : unclosed_class None (chars text) ≡ Some (chars rest) = sym same ∙ ap (unclosed_class None) begins ∙ stays_unclosed (91 ∷ cs) cs none ∙ ap Some (sym begins) in
    ap (λ (o : Option (List ℕ)). unless_unclosed o text) open_ ∙ ap (λ (l : List ℕ). Err (OpenClass (length text - length l))) (encodes-chars rest u)

pub class_read : (pieces all : List GlobPiece) (rest later inside after : List ℕ) → later ≡ inside ++ (93 ∷ after) → NonePass is_close inside → rest ≡ 91 ∷ later
    → pieces ++ pieces_from None rest ≡ all → (pieces ++ Class (class_of inside) ∷ []) ++ pieces_from None after ≡ all
class_read pieces all rest later inside after parts none begins same =
    append_assoc pieces (Class (class_of inside) ∷ []) (pieces_from None after)
    ∙ ap (λ (l : List GlobPiece). pieces ++ l) (sym (ap (pieces_from None) begins ∙ ap (pieces_from (Some [])) parts ∙ class_piece [] inside after none))
    ∙ same

pub class_closes : (rest later inside after : List ℕ) (o : Option (List ℕ)) → later ≡ inside ++ (93 ∷ after) → NonePass is_close inside → rest ≡ 91 ∷ later
    → unclosed_class None rest ≡ o → unclosed_class None after ≡ o
class_closes rest later inside after o parts none begins same =
    sym (ap (unclosed_class None) begins ∙ ap (unclosed_class (Some (91 ∷ later))) parts ∙ closes (91 ∷ later) inside after none) ∙ same
