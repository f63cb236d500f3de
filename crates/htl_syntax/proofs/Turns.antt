-- One turn of each loop of the reader.
use Rattle.std.proofs.Common.{◌≡◌, ◌≢◌, ℕ, zero, suc, ◌+◌, ◌-◌, ◌<◌, true, List, [], ◌∷◌, ◌++◌, drop, Ok, refl, arith, sub-one}
use Rattle.sp_base.specs.Bytes.{begins_with_byte}
use Rattle.htl_syntax.specs.declared.node.ExprNode.{ExprNode}
use Rattle.htl_syntax.specs.declared.reader.Nested.{Nested}
use Rattle.htl_syntax.specs.Tokens.{Outcome, blanks_skipped}
use Rattle.htl_syntax.specs.Read.{chain, between, nesting, level, accesses, access, access_at}

pub chain_more : (item : List ℕ → Outcome ExprNode) (c n i : ℕ) (found : List ExprNode) (t r : List ℕ) (x : ExprNode) (after : List ℕ) → i < n → begins_with_byte c t ≡ true → between c t ≡ Ok r → item r ≡ Ok (x, after)
    → chain item c (n - (i + 1)) (found ++ x ∷ []) after ≡ chain item c (n - i) found t
unfolding chain
chain_more item c n i found t r x after lt at op e =
    let k : n - i ≡ suc (n - (i + 1)) = omega arith in
    rw (k, at, op, e) refl

pub access_more : (depth n i : ℕ) (found : List (List ℕ)) (t : List ℕ) (x : List ℕ) (after : List ℕ) → i < n → access_at t ≡ true → access depth t ≡ Ok (x, after)
    → accesses depth (n - (i + 1)) (found ++ x ∷ []) after ≡ accesses depth (n - i) found t
unfolding accesses
access_more depth n i found t x after lt at e =
    let k : n - i ≡ suc (n - (i + 1)) = omega arith in
    rw (k, at, e) refl

pub nested_less : (depth : ℕ) (which : Nested) (t : List ℕ) → depth ≢ 0 → nesting depth which t ≡ level (depth - 1) (nesting (depth - 1)) which (blanks_skipped (drop 1 t))
unfolding nesting
nested_less zero which t h = absurd (h refl)
nested_less (suc d) which t h = rw sub-one refl
