-- By definition no form is refused as out of memory.
use Rattle.std.proofs.Common.{◌≡◌, ◌+◌, refl, ℕ, List, [], ◌∷◌, Option, Some, None, length, Bool, true, false, cond}
use Rattle.std.specs.Prelude.{◌==◌, ◌&&◌, IfErr, Result, Ok, Err, codes, nat_lt}
use Rattle.form_urlencoded.specs.Form.{raw_pairs}
use Rattle.form_input.specs.Parameters.{is_type, parameter}
use Rattle.form_input.specs.Multipart.{Section, before_all, most_pairs, multipart_of, pair_of, pairs_of, with_part}
use Rattle.form_input.specs.Forms.{by_boundary, form_of, is_boundary, urlencoded_of}
use Rattle.form_input.specs.FormLaws.{is_form_out_of_memory}
use Rattle.form_input.specs.declared.fault.FormFault.{FormFault}
use Rattle.form_input.specs.declared.fault.FormFault.TheVariants.{WrongKind, NoBoundary, BadPart, TooMany}

abbrev Read : Type 0
Read = Result (List (List ℕ × List ℕ)) FormFault

abbrev HasCause : Read → Type 0
HasCause r = IfErr r (λ (e : FormFault). is_form_out_of_memory e ≡ false)

abbrev reads : List (List ℕ × List ℕ) → Read
reads pairs = Ok pairs

abbrev fails : FormFault → Read
fails fault = Err fault

by_test : (b : Bool) (one other : Read) → HasCause one → HasCause other → HasCause (cond b one other)
by_test true one other this that = this
by_test false one other this that = that

before_cause : (pairs : List (List ℕ × List ℕ)) (r : Read) → HasCause r → HasCause (before_all pairs r)
before_cause pairs (Ok more) was = tt
before_cause pairs (Err fault) was = was

part_cause : (n place : ℕ) (pair : Option (List ℕ × List ℕ)) (r : Read) → HasCause r → HasCause (with_part n place pair r)
part_cause n place None r was = refl
part_cause n place (Some pair) r was = by_test (n == most_pairs) (fails TooMany) (before_all (pair ∷ []) r) refl (before_cause (pair ∷ []) r was)

pairs_cause : (end n : ℕ) (sections : List Section) → HasCause (pairs_of end n sections)
unfolding pairs_of
pairs_cause end n [] = refl
pairs_cause end n (s ∷ []) = by_test s.closing (reads []) (fails (BadPart end)) tt refl
pairs_cause end n (s ∷ next ∷ more) =
    by_test s.closing (reads []) (with_part n s.place (pair_of s.content) (pairs_of end (n + 1) (next ∷ more))) tt
    (part_cause n s.place (pair_of s.content) (pairs_of end (n + 1) (next ∷ more)) (pairs_cause end (n + 1) (next ∷ more)))

boundary_cause : (o : Option (List ℕ)) (body : List ℕ) → HasCause (by_boundary o body)
boundary_cause None body = refl
boundary_cause (Some boundary) body = by_test (is_boundary boundary) (multipart_of boundary body) (fails NoBoundary) (pairs_cause _ _ _) refl

pub form_cause : (kind body : List ℕ) → HasCause (form_of kind body)
form_cause kind body =
    by_test (length kind == 0 && length body == 0) (reads []) _ tt
    (by_test (is_type (codes "application/x-www-form-urlencoded") kind) (urlencoded_of body) _ (by_test (nat_lt most_pairs (length (raw_pairs body))) (fails TooMany) _ refl tt)
    (by_test (is_type (codes "multipart/form-data") kind) (by_boundary (parameter (codes "boundary") kind) body) (fails WrongKind) (boundary_cause (parameter (codes "boundary") kind) body) refl))
