-- The test of a match is the relation.
use Rattle.std.proofs.Common.{◌≡◌, ◌↔◌, IsTrue, ℕ, Bool, true, false, cond, ◌||◌, inl, inr, List, [], ◌∷◌, ◌++◌, drop, zero, suc, refl, ap, sym, ◌∙◌}
use Rattle.std.proofs.lemmas.Bool.{and_parts, or_cases, or_right}
use Rattle.glob_rules.specs.declared.piece.GlobPiece.{GlobPiece}
use Rattle.glob_rules.specs.declared.piece.GlobPiece.TheVariants.{Star, AnyChar, Literal, Class}
use Rattle.glob_rules.specs.Globs.{Matches, is_match, is_star, stands_for, somewhere, at_first, after_piece}

-- a piece that is no star stands for the first character
pub one_is : (piece : GlobPiece) (test : List ℕ → Bool) (cs : List ℕ) → is_star piece ≡ false → after_piece piece test cs ≡ at_first piece test cs
one_is piece test cs plain = ap (λ (b : Bool). cond b (somewhere test cs) (at_first piece test cs)) plain

stands_no_star : (piece : GlobPiece) (c : ℕ) → stands_for piece c ≡ true → is_star piece ≡ false
stands_no_star Star c h = absurd cc
stands_no_star AnyChar c h = refl
stands_no_star (Literal d) c h = refl
stands_no_star (Class class) c h = refl

longer : (pieces : List GlobPiece) (c : ℕ) (cs : List ℕ) → Matches (Star ∷ pieces) cs → Matches (Star ∷ pieces) (c ∷ cs)
longer pieces c cs (Matches.star run e m) = Matches.star (c ∷ run) (ap (λ (l : List ℕ). c ∷ l) e) m
longer pieces c cs (Matches.one s m) = absurd cc

star_sound : (pieces : List GlobPiece) → ((cs : List ℕ) → is_match pieces cs ≡ true → Matches pieces cs) → (cs : List ℕ) → somewhere (is_match pieces) cs ≡ true → Matches (Star ∷ pieces) cs
star_sound pieces ih [] h = Matches.star [] refl (ih [] h)
star_sound pieces ih (c ∷ cs) h = elim (or_cases _ _ h) [
  | inl here ↦ Matches.star [] refl (ih (c ∷ cs) here)
  | inr later ↦ longer pieces c cs (star_sound pieces ih cs later)
]

one_sound : (piece : GlobPiece) (pieces : List GlobPiece) → ((cs : List ℕ) → is_match pieces cs ≡ true → Matches pieces cs) → (cs : List ℕ) → at_first piece (is_match pieces) cs ≡ true → Matches (piece ∷ pieces) cs
one_sound piece pieces ih [] h = absurd cc
one_sound piece pieces ih (c ∷ cs) h = let both = and_parts _ _ h in Matches.one both.0 (ih cs both.1)

pub sound : (glob : List GlobPiece) (cs : List ℕ) → is_match glob cs ≡ true → Matches glob cs
unfolding is_match
sound [] [] h = Matches.nothing
sound [] (c ∷ cs) h = absurd cc
sound (Star ∷ pieces) cs h = star_sound pieces (sound pieces) cs h
sound (AnyChar ∷ pieces) cs h = one_sound AnyChar pieces (sound pieces) cs h
sound (Literal d ∷ pieces) cs h = one_sound (Literal d) pieces (sound pieces) cs h
sound (Class class ∷ pieces) cs h = one_sound (Class class) pieces (sound pieces) cs h

pub somewhere_after : (test : List ℕ → Bool) (run rest : List ℕ) → somewhere test rest ≡ true → somewhere test (run ++ rest) ≡ true
somewhere_after test [] rest h = h
somewhere_after test (c ∷ run) rest h = or_right _ _ (somewhere_after test run rest h)

pub somewhere_here : (test : List ℕ → Bool) (cs : List ℕ) → test cs ≡ true → somewhere test cs ≡ true
somewhere_here test [] h = h
somewhere_here test (c ∷ cs) h = ap (λ (b : Bool). b || somewhere test cs) h

pub somewhere_drop : (test : List ℕ → Bool) (k : ℕ) (cs : List ℕ) → somewhere test (drop k cs) ≡ true → somewhere test cs ≡ true
somewhere_drop test zero cs h = h
somewhere_drop test (suc k) [] h = h
somewhere_drop test (suc k) (c ∷ cs) h = or_right _ _ (somewhere_drop test k cs h)

star_is : (pieces : List GlobPiece) (cs run rest : List ℕ) → cs ≡ run ++ rest → is_match pieces rest ≡ true → is_match (Star ∷ pieces) cs ≡ true
unfolding is_match
star_is pieces cs run rest e m = rw e (somewhere_after (is_match pieces) run rest (somewhere_here (is_match pieces) rest m))

one_true : (piece : GlobPiece) (pieces : List GlobPiece) (c : ℕ) (cs : List ℕ) → stands_for piece c ≡ true → is_match pieces cs ≡ true → is_match (piece ∷ pieces) (c ∷ cs) ≡ true
unfolding is_match
one_true piece pieces c cs s m = one_is piece (is_match pieces) (c ∷ cs) (stands_no_star piece c s) ∙ rw s m

nothing_is : is_match [] [] ≡ true
unfolding is_match
nothing_is = refl

pub complete : (glob : List GlobPiece) (cs : List ℕ) → Matches glob cs → is_match glob cs ≡ true
complete _ _ Matches.nothing = nothing_is
complete _ _ (Matches.star {pieces} {cs} {rest} run e m) = star_is pieces cs run rest e (complete pieces rest m)
complete _ _ (Matches.one {piece} {pieces} {c} {cs} s m) = one_true piece pieces c cs s (complete pieces cs m)

pub related : (glob : List GlobPiece) (cs : List ℕ) (b : Bool) → b ≡ is_match glob cs → IsTrue b ↔ Matches glob cs
related glob cs b e = (λ t. sound glob cs (sym e ∙ t), λ m. e ∙ complete glob cs m)
