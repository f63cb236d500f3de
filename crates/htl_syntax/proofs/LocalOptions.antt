-- The same of options, and of the whole.
use Rattle.std.proofs.Common.{◌≡◌, ℕ, suc, Bool, true, false, cond, ◌||◌, ◌&&◌, eqb, List, [], ◌∷◌, ◌++◌, drop, length, Option, Some, None, is_none, Result, Ok, Err, codes, refl, ap, sym, ◌∙◌, rules}
use Rattle.std.proofs.lemmas.Bool.{eqb-true}
use Rattle.sp_base.specs.Outcomes.{◌>>=◌}
use Rattle.sp_base.specs.Bytes.{begins_with_byte}
use Rattle.htl_syntax.specs.declared.stop.ExprStop.{ExprStop}
use Rattle.htl_syntax.specs.declared.stop.ExprStop.TheVariants.{Unexpected}
use Rattle.htl_syntax.specs.declared.node.ExprNode.{ExprNode}
use Rattle.htl_syntax.specs.declared.expression.Context.{Context}
use Rattle.htl_syntax.specs.declared.expression.Context.TheVariants.{Text, Unsafe}
use Rattle.htl_syntax.specs.declared.expression.Expression.{Expression}
use Rattle.htl_syntax.specs.Tokens.{Outcome, blanks_skipped, begins, expect, literal, string}
use Rattle.htl_syntax.specs.Read as spec
use Rattle.htl_syntax.proofs.Local.{Same, at_same, IsAt, moved, Local, local_ext, local_bind, local_pure, local_refuse, local_if, local_drop, got, refuse}
use Rattle.htl_syntax.proofs.LocalTokens.{local_skip, local_step, local_expect, local_literal}
use Rattle.htl_syntax.proofs.LocalStrings.{local_string}
use Rattle.htl_syntax.proofs.LocalParts.{local_tree}

local_context_word : Local spec.context_word
unfolding spec.context_word
local_context_word =
    local_if (begins_with_byte 116) (λ t. literal (codes "text") t >>= λ r. Ok (Text, r)) (λ t. literal (codes "unsafe") t >>= λ r. Ok (Unsafe, r)) (at_same 116)
    (local_step (literal (codes "text")) (got Text) (local_literal (codes "text")) (local_pure Text)) (local_step (literal (codes "unsafe")) (got Unsafe) (local_literal (codes "unsafe")) (local_pure Unsafe))

quoted : ℕ → List ℕ → Outcome Context
quoted mark t = spec.context_word (drop 1 t) >>= λ x. expect mark x.1 >>= λ r. Ok (x.0, r)

local_quoted : (mark : ℕ) → Local (quoted mark)
unfolding quoted
local_quoted mark =
    local_bind (λ t. spec.context_word (drop 1 t)) (λ c t. expect mark t >>= λ r. Ok (c, r)) (local_drop spec.context_word local_context_word)
    (λ c. local_step (expect mark) (got c) (local_expect mark) (local_pure c))

by_mark : (t : List ℕ) → cond (begins_with_byte 39 t) (quoted 39 t) (cond (begins_with_byte 34 t) (quoted 34 t) (refuse t)) ≡ spec.context_string t
unfolding spec.context_string begins begins_with_byte quoted
by_mark [] = refl
by_mark (c ∷ t) = go (eqb c 39) (eqb c 34) refl refl
  where
    go : (a b : Bool) → eqb c 39 ≡ a → eqb c 34 ≡ b → cond a (quoted 39 (c ∷ t)) (cond b (quoted 34 (c ∷ t)) (refuse (c ∷ t))) ≡ cond (a || b) (quoted c (c ∷ t)) (refuse (c ∷ t))
    go true b ea eb = ap (λ (m : ℕ). quoted m (c ∷ t)) (sym (eqb-true c 39 ea))
    go false true ea eb = ap (λ (m : ℕ). quoted m (c ∷ t)) (sym (eqb-true c 34 eb))
    go false false ea eb = refl

local_context_string : Local spec.context_string
local_context_string = local_ext (λ t. cond (begins_with_byte 39 t) (quoted 39 t) (cond (begins_with_byte 34 t) (quoted 34 t) (refuse t))) spec.context_string by_mark
    (local_if (begins_with_byte 39) (quoted 39) (λ t. cond (begins_with_byte 34 t) (quoted 34 t) (refuse t)) (at_same 39) (local_quoted 39) (local_if (begins_with_byte 34) (quoted 34) refuse (at_same 34) (local_quoted 34) local_refuse))

local_given : {A : Type 0} (word : List ℕ) (value : List ℕ → Outcome A) → Local value → Local (λ t. literal word t >>= λ a. expect 61 (blanks_skipped a) >>= λ b. value b)
local_given word value l = local_step (literal word) (λ a. expect 61 (blanks_skipped a) >>= λ b. value b) (local_literal word) (local_skip (λ a. expect 61 a >>= λ b. value b) (local_step (expect 61) value (local_expect 61) l))

local_join : Local spec.join_option
unfolding spec.join_option
local_join = local_given (codes "join") string local_string

local_context : Local spec.context_option
unfolding spec.context_option
local_context = local_given (codes "context") spec.context_string local_context_string

local_option : (given : spec.Given) → Local (spec.option given)
unfolding spec.option
local_option given =
    local_if (λ t. is_none given.0 && begins_with_byte 106 t) (λ t. spec.join_option t >>= λ x. Ok ((Some x.0, given.1), x.1)) _ (λ r z h. ap (λ (b : Bool). is_none given.0 && b) (at_same 106 r z h))
    (local_bind spec.join_option (λ w t. Ok ((Some w, given.1), t)) local_join (λ w. local_pure (Some w, given.1)))
    (local_if (λ t. is_none given.1 && begins_with_byte 99 t) (λ t. spec.context_option t >>= λ x. Ok ((given.0, Some x.0), x.1)) refuse (λ r z h. ap (λ (b : Bool). is_none given.1 && b) (at_same 99 r z h))
    (local_bind spec.context_option (λ c t. Ok ((given.0, Some c), t)) local_context (λ c. local_pure (given.0, Some c))) local_refuse)

another : spec.Given → List ℕ → Outcome spec.Given
another given t = cond (begins_with_byte 44 t) (spec.option given (blanks_skipped (drop 1 t))) (Ok (given, t))

local_another : (given : spec.Given) → Local (another given)
unfolding another
local_another given = local_if (begins_with_byte 44) (λ t. spec.option given (blanks_skipped (drop 1 t))) (got given) (at_same 44) (local_drop (λ t. spec.option given (blanks_skipped t)) (local_skip (spec.option given) (local_option given))) (local_pure given)

local_options : Local spec.options
unfolding spec.options another
local_options =
    local_if (begins_with_byte 64) (λ t. spec.option (None, None) (blanks_skipped (drop 1 t)) >>= λ o. another o.0 o.1) (got (None, None)) (at_same 64)
    (local_drop (λ t. spec.option (None, None) (blanks_skipped t) >>= λ o. another o.0 o.1)
    (local_bind (λ t. spec.option (None, None) (blanks_skipped t)) another (local_skip (spec.option (None, None)) (local_option (None, None))) local_another)) (local_pure (None, None))

-- ---- the whole

abbrev at_end : List ℕ → Bool
at_end t = eqb (length t) 0

end_same : (r z : List ℕ) → Same r z → at_end z ≡ at_end r
end_same [] [] h = refl
end_same [] (c ∷ z) h = absurd h.0
end_same (c ∷ r) [] h = absurd h.0
end_same (c ∷ r) (d ∷ z) h = (let a : eqb (suc (length z)) 0 ≡ false = search rules in let b : eqb (suc (length r)) 0 ≡ false = search rules in a ∙ sym b)

nothing_same : (r z : List ℕ) → Same r z → (at_end z || begins_with_byte 64 z) ≡ (at_end r || begins_with_byte 64 r)
nothing_same r z h = rw (end_same r z h, at_same 64 r z h) refl

module _ (levels : ℕ) where
  local_first : Local (spec.optional_choice levels)
  unfolding spec.optional_choice
  local_first =
      local_if (λ t. at_end t || begins_with_byte 64 t) (got None) (λ t. spec.choice levels (spec.nesting levels) t >>= λ x. Ok (Some x.0, x.1)) nothing_same (local_pure None)
      (local_bind (spec.choice levels (spec.nesting levels)) (λ e t. Ok (Some e, t)) (local_tree levels) (λ e. local_pure (Some e)))

  ended : Option ExprNode → List ℕ → Outcome Expression
  ended node t = spec.options t >>= λ o. cond (at_end o.1) (Ok (spec.expr_of node o.0, o.1)) (refuse o.1)

  local_ended : (node : Option ExprNode) → Local (ended node)
  unfolding ended
  local_ended node = local_bind spec.options (λ given t. cond (at_end t) (Ok (spec.expr_of node given, t)) (refuse t)) local_options
      (λ given. local_if at_end (got (spec.expr_of node given)) refuse end_same (local_pure (spec.expr_of node given)) local_refuse)

  -- the reading, with the text that is left
  abbrev text : List ℕ → Outcome Expression
  text t = spec.optional_choice levels (blanks_skipped t) >>= λ x. ended x.0 x.1

  local_text : Local text
  local_text = local_bind (λ t. spec.optional_choice levels (blanks_skipped t)) ended (local_skip (spec.optional_choice levels) local_first) local_ended

  abbrev alone : Outcome Expression → Result Expression ExprStop
  alone (Ok x) = Ok x.0
  alone (Err d) = Err d

  alone_err : (o : Outcome Expression) (d : ExprStop) → alone o ≡ Err d → o ≡ Err d
  alone_err (Ok x) d e = absurd cc
  alone_err (Err k) d e = (let same : ◌≡◌ {A = Result Expression ExprStop} (Err k) (Err d) = e in cc)

  past : {A : Type 0} (o : Outcome A) (f : A × List ℕ → Outcome Expression) (h : A × List ℕ → Result Expression ExprStop) → ((x : A × List ℕ) → alone (f x) ≡ h x) → alone (o >>= f) ≡ (o >>= h)
  past (Ok x) f h e = e x
  past (Err d) f h e = refl

  read_is : (t : List ℕ) → alone (text t) ≡ spec.expression_read levels t
  unfolding spec.expression_read ended
  read_is t = past (spec.optional_choice levels (blanks_skipped t)) _ _ (λ x. past (spec.options x.1) _ _ (λ o. last (at_end o.1) (spec.expr_of x.0 o.0) o.1))
    where
      last : (b : Bool) (e : Expression) (r : List ℕ) → alone (cond b (Ok (e, r)) (refuse r)) ≡ cond b (Ok e) (Err (Unexpected (length r)))
      last true e r = refl
      last false e r = refl

  -- the reason for which a text is not read, and the texts that are not read for the same
  pub record Left (d : ExprStop) (s : List ℕ) : Type 0 where
    pub leading : List ℕ
    pub rest : List ℕ
    pub parts : s ≡ leading ++ rest
    pub left : IsAt d rest
    pub same : (z : List ℕ) → Same rest z → spec.expression_read levels (leading ++ z) ≡ Err (moved d (length z))

  pub failed : (d : ExprStop) (s : List ℕ) → spec.expression_read levels s ≡ Err d → Left d s
  failed d s e =
      let k = local_text.err d s (alone_err (text s) d (read_is s ∙ e)) in
      record { leading = k.leading; rest = k.rest; parts = k.parts; left = k.left; same = λ z w. sym (read_is (k.leading ++ z)) ∙ ap alone (k.same z w) }
