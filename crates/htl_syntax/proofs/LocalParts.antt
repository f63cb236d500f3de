-- The same of each part.
use Rattle.std.proofs.Common.{◌≡◌, ℕ, zero, suc, ◌<◌, Bool, true, false, cond, ◌||◌, eqb, List, [], ◌∷◌, ◌++◌, drop, length, Option, Some, None, Result, Ok, Err, refl, ap, ◌∙◌, ◌⊎◌, inl, inr, arith}
use Rattle.std.proofs.lemmas.List.{length-append}
use Rattle.sp_base.specs.Outcomes.{◌>>=◌}
use Rattle.sp_base.specs.Bytes.{begins_with_byte, is_digit}
use Rattle.sp_base.proofs.BoolLemmas.{cond_either}
use Rattle.htl_syntax.specs.declared.stop.ExprStop.{ExprStop}
use Rattle.htl_syntax.specs.declared.node.ExprNode.{ExprNode}
use Rattle.htl_syntax.specs.declared.node.ExprNode.TheVariants as expr_node
use Rattle.htl_syntax.specs.declared.tokens.NameKind.TheVariants.{Name, Field}
use Rattle.htl_syntax.specs.declared.reader.Nested.{Nested}
use Rattle.htl_syntax.specs.declared.reader.Nested.TheVariants.{Choice, Operand, Items}
use Rattle.htl_syntax.specs.Tokens.{Outcome, blanks_skipped, begins, is_quote, read_name, expect, string, signed_number}
use Rattle.htl_syntax.specs.Read as spec
use Rattle.htl_syntax.proofs.Tools.{bind_ok}
use Rattle.htl_syntax.proofs.TokensRead.{expect_sound, second_sound}
use Rattle.htl_syntax.proofs.TokensAgain.{byte-short, operator-short}
use Rattle.htl_syntax.proofs.Sound.{first_access_sound}
use Rattle.htl_syntax.proofs.Complete.{access-short}
use Rattle.htl_syntax.specs.Fault.{nests}
use Rattle.htl_syntax.proofs.Local.{Same, at_same, head_same, Local, local_ext, local_bind, local_pure, local_refuse, local_if, local_drop, got, refuse}
use Rattle.htl_syntax.proofs.LocalTokens.{local_skip, local_deep, local_guarded, guarded, too_deep, local_step, local_expect, local_between, local_name, local_number, local_comparison}
use Rattle.htl_syntax.proofs.LocalStrings.{local_string}
use Rattle.htl_syntax.proofs.LocalLoops.{loop, whole_loop, local_loop}

-- ---- accesses

inside_brackets : List ℕ → Outcome (List ℕ)
inside_brackets t = string (blanks_skipped (drop 1 t)) >>= λ s. expect 93 s.1 >>= λ r. Ok (s.0, r)

local_inside : Local inside_brackets
unfolding inside_brackets
local_inside =
    local_bind (λ t. string (blanks_skipped (drop 1 t))) (λ w t. expect 93 t >>= λ r. Ok (w, r)) (local_drop (λ t. string (blanks_skipped t)) (local_skip string local_string))
    (λ w. local_step (expect 93) (got w) (local_expect 93) (local_pure w))

local_bracketed : (depth : ℕ) → Local (guarded 91 (spec.bracket_access depth))
unfolding spec.bracket_access inside_brackets
local_bracketed depth = go (eqb depth 0)
  where
    go : (b : Bool) → Local (guarded 91 (λ t. cond b (too_deep t) (inside_brackets t)))
    go true = local_deep 91 refl
    go false = local_if (begins_with_byte 91) inside_brackets refuse (at_same 91) local_inside local_refuse

either_first : {A : Type 0} (a b : Bool) (x y z : A) → cond a x (cond b y z) ≡ cond (a || b) (cond a x y) z
either_first true b x y z = refl
either_first false true x y z = refl
either_first false false x y z = refl

local_first_access : (depth : ℕ) → Local (spec.first_access depth)
unfolding spec.first_access spec.access spec.access_at
local_first_access depth =
    local_ext (λ t. cond (begins_with_byte 46 t) (read_name Field (blanks_skipped (drop 1 t))) (guarded 91 (spec.bracket_access depth) t)) (λ t. cond (begins_with_byte 46 t || begins_with_byte 91 t) (cond (begins_with_byte 46 t) (read_name Field (blanks_skipped (drop 1 t))) (spec.bracket_access depth t)) (refuse t))
    (λ t. either_first (begins_with_byte 46 t) (begins_with_byte 91 t) (read_name Field (blanks_skipped (drop 1 t))) (spec.bracket_access depth t) (refuse t))
    (local_if (begins_with_byte 46) (λ t. read_name Field (blanks_skipped (drop 1 t))) (guarded 91 (spec.bracket_access depth)) (at_same 46) (local_drop (λ t. read_name Field (blanks_skipped t)) (local_skip (read_name Field) (local_name Field))) (local_bracketed depth))

first_access-short : (depth : ℕ) (t : List ℕ) (x : List ℕ) (r : List ℕ) → spec.access_at t ≡ true → spec.first_access depth t ≡ Ok (x, r) → length r < length t
first_access-short depth t x r at e = access-short depth t x r (first_access_sound depth t (x, r) e)

access_same : (r z : List ℕ) → Same r z → spec.access_at z ≡ spec.access_at r
unfolding spec.access_at
access_same r z h = rw (at_same 46 r z h, at_same 91 r z h) refl

under : {A B : Type 0} (o : Outcome A) (f h : A × List ℕ → Outcome B) → ((x : A × List ℕ) → f x ≡ h x) → (o >>= f) ≡ (o >>= h)
under (Ok x) f h e = e x
under (Err d) f h e = refl

accesses_loop : (depth k : ℕ) (found : List (List ℕ)) (t : List ℕ) → loop spec.access_at (spec.first_access depth) k found t ≡ spec.accesses depth k found t
unfolding loop spec.accesses spec.first_access
accesses_loop depth zero found t = refl
accesses_loop depth (suc k) found t = go (spec.access_at t) (λ x. accesses_loop depth k (found ++ x.0 ∷ []) x.1)
  where
    go : (b : Bool) → ((x : List ℕ × List ℕ) → loop spec.access_at (spec.first_access depth) k (found ++ x.0 ∷ []) x.1 ≡ spec.accesses depth k (found ++ x.0 ∷ []) x.1)
        → cond b (cond b (spec.access depth t) (refuse t) >>= λ x. loop spec.access_at (spec.first_access depth) k (found ++ x.0 ∷ []) x.1) (Ok (found, t))
        ≡ cond b (spec.access depth t >>= λ x. spec.accesses depth k (found ++ x.0 ∷ []) x.1) (Ok (found, t))
    go true ih = under (spec.access depth t) _ _ ih
    go false ih = refl

abbrev all_accesses : ℕ → List ℕ → Outcome (List (List ℕ))
all_accesses depth t = spec.accesses depth (length t) [] t

local_accesses : (depth : ℕ) → Local (all_accesses depth)
unfolding begins_with_byte spec.access_at
local_accesses depth = local_ext (whole_loop spec.access_at (spec.first_access depth) []) (all_accesses depth) (λ t. accesses_loop depth (length t) [] t)
    (local_loop spec.access_at (spec.first_access depth) access_same refl (local_first_access depth) (first_access-short depth) [])

-- ---- chains

between-short : (c : ℕ) (t r : List ℕ) → begins_with_byte c t ≡ true → spec.between c t ≡ Ok r → length r < length t
between-short c t r at e = elim (cond_either (eqb c 44) _ _ _ e) [
  | inl h ↦ byte-short c t r (expect_sound c t r h.1)
  | inr h ↦ operator-short c c t r (second_sound c c t r at h.1)
]

module _ (c : ℕ) (item : List ℕ → Outcome ExprNode) (local : Local item) where
  abbrev turn : List ℕ → Outcome ExprNode
  turn t = spec.between c t >>= λ r. item r

  local_turn : Local turn
  local_turn = local_step (spec.between c) item (local_between c) local

  turn-short : (t : List ℕ) (x : ExprNode) (r : List ℕ) → begins_with_byte c t ≡ true → turn t ≡ Ok (x, r) → length r < length t
  turn-short t x r at e =
      let op = bind_ok (spec.between c t) item (x, r) e in
      let k = local.ok op.0 x r op.2 in
      omega (arith, between-short c t op.0 at op.1, ap length k.parts, length-append k.leading r)

  regroup : (o : Result (List ℕ) ExprStop) (f : ExprNode × List ℕ → Outcome (List ExprNode)) → ((o >>= λ r. item r) >>= f) ≡ (o >>= λ r. item r >>= f)
  regroup (Ok r) f = refl
  regroup (Err d) f = refl

  chain_loop : (k : ℕ) (found : List ExprNode) (t : List ℕ) → loop (begins_with_byte c) turn k found t ≡ spec.chain item c k found t
  unfolding loop spec.chain
  chain_loop zero found t = refl
  chain_loop (suc k) found t =
      ap (λ (o : Outcome (List ExprNode)). cond (begins_with_byte c t) o (Ok (found, t)))
      (under (turn t) (λ x. loop (begins_with_byte c) turn k (found ++ x.0 ∷ []) x.1) (λ x. spec.chain item c k (found ++ x.0 ∷ []) x.1) (λ x. chain_loop k (found ++ x.0 ∷ []) x.1)
      ∙ regroup (spec.between c t) (λ x. spec.chain item c k (found ++ x.0 ∷ []) x.1))

  local_chain : (found : List ExprNode) → Local (λ t. spec.chain item c (length t) found t)
  unfolding begins_with_byte
  local_chain found = local_ext (whole_loop (begins_with_byte c) turn found) (λ t. spec.chain item c (length t) found t) (λ t. chain_loop (length t) found t) (local_loop (begins_with_byte c) turn (at_same c) refl local_turn turn-short found)

-- ---- parts

number_same : (r z : List ℕ) → Same r z → (begins_with_byte 45 z || begins is_digit z) ≡ (begins_with_byte 45 r || begins is_digit r)
number_same r z h = rw (at_same 45 r z h, head_same is_digit r z h) refl

compares_same : (r z : List ℕ) → Same r z → spec.compares z ≡ spec.compares r
unfolding spec.compares
compares_same r z h = rw (at_same 61 r z h, at_same 33 r z h, at_same 60 r z h, at_same 62 r z h) refl

local_named_of : (depth : ℕ) (o : Option (List ℕ → ExprNode)) (w : List ℕ) → Local (spec.name_or_object_of depth o w)
local_named_of depth None w = local_pure (spec.word_node w)
local_named_of depth (Some make) w = local_bind (spec.first_access depth) (λ f t. Ok (make f, t)) (local_first_access depth) (λ f. local_pure (make f))

local_named : (depth : ℕ) → Local (spec.name_or_object depth)
unfolding spec.name_or_object
local_named depth = local_bind (read_name Name) (λ w t. spec.name_or_object_of depth (spec.object_of w) w t) (local_name Name) (λ w. local_named_of depth (spec.object_of w) w)

local_leaf : (depth : ℕ) → Local (spec.primary depth)
unfolding spec.primary
local_leaf depth =
    local_if (begins is_quote) (λ t. string t >>= λ x. Ok (expr_node.Text x.0, x.1)) _ (head_same is_quote) (local_bind string (λ w t. Ok (expr_node.Text w, t)) local_string (λ w. local_pure (expr_node.Text w)))
    (local_if (λ t. begins_with_byte 45 t || begins is_digit t) (λ t. signed_number t >>= λ x. Ok (expr_node.Long x.0, x.1)) (spec.name_or_object depth) number_same (local_bind signed_number (λ k t. Ok (expr_node.Long k, t)) local_number (λ k. local_pure (expr_node.Long k))) (local_named depth))

-- A choice is read at a colon only after one that was read, so never where no level is left.
abbrev Other : (Nested → List ℕ → Outcome ExprNode) → Type 0
Other inner = Local (guarded 58 (inner Choice)) ⊎ ((t : List ℕ) (x : ExprNode × List ℕ) → inner Choice t ≡ Ok x → ⊥)

never_is : {A B : Type 0} (b : Bool) (o : Outcome A) (f h : A × List ℕ → Outcome B) (other : Outcome B) → ((x : A × List ℕ) → o ≡ Ok x → ⊥) → cond b (o >>= f) other ≡ cond b (o >>= h) other
never_is true (Ok x) f h other never = absurd (never x refl)
never_is true (Err d) f h other never = refl
never_is false o f h other never = refl

module _ (depth : ℕ) (inner : Nested → List ℕ → Outcome ExprNode) (local : (which : Nested) (c : ℕ) → nests c ≡ true → Local (guarded c (inner which))) (other : Other inner) where
  closing : ℕ → ExprNode → List ℕ → Outcome ExprNode
  closing c e t = expect c t >>= λ r. Ok (e, r)

  local_closing : (c : ℕ) (e : ExprNode) → Local (closing c e)
  unfolding closing
  local_closing c e = local_step (expect c) (got e) (local_expect c) (local_pure e)

  local_start : Local (spec.start depth inner)
  unfolding spec.start closing
  local_start =
      local_guarded 40 (inner Choice) (closing 41) (λ t. cond (begins_with_byte 91 t) (inner Items t >>= λ x. closing 93 x.0 x.1) (spec.primary depth t)) (local Choice 40 refl) (local_closing 41)
      (local_guarded 91 (inner Items) (closing 93) (spec.primary depth) (local Items 91 refl) (local_closing 93) (local_leaf depth))

  local_atom : Local (spec.atom depth inner)
  unfolding spec.atom
  local_atom = local_bind (spec.start depth inner) (λ e t. all_accesses depth t >>= λ fs. Ok (spec.access_of e fs.0, fs.1)) local_start
      (λ e. local_bind (all_accesses depth) (λ fs t. Ok (spec.access_of e fs, t)) (local_accesses depth) (λ fs. local_pure (spec.access_of e fs)))

  local_operand : Local (spec.operand depth inner)
  unfolding spec.operand
  local_operand = local_guarded 33 (inner Operand) (λ e t. Ok (expr_node.Not e, t)) (spec.atom depth inner) (local Operand 33 refl) (λ e. local_pure (expr_node.Not e)) local_atom

  compared : ExprNode → List ℕ → Outcome ExprNode
  compared a t = spec.comparison t >>= λ op. spec.operand depth inner op.1 >>= λ b. Ok (expr_node.Compare op.0 a b.0, b.1)

  local_compared : (a : ExprNode) → Local (compared a)
  unfolding compared
  local_compared a = local_bind spec.comparison (λ op t. spec.operand depth inner t >>= λ b. Ok (expr_node.Compare op a b.0, b.1)) local_comparison
      (λ op. local_bind (spec.operand depth inner) (λ b t. Ok (expr_node.Compare op a b, t)) local_operand (λ b. local_pure (expr_node.Compare op a b)))

  local_compare : Local (spec.compare depth inner)
  unfolding spec.compare compared
  local_compare = local_bind (spec.operand depth inner) (λ a t. cond (spec.compares t) (compared a t) (Ok (a, t))) local_operand (λ a. local_if spec.compares (compared a) (got a) compares_same (local_compared a) (local_pure a))

  local_both : Local (spec.both depth inner)
  unfolding spec.both
  local_both = local_bind (spec.compare depth inner) (λ e t. spec.chain (spec.compare depth inner) 38 (length t) [] t >>= λ es. Ok (spec.and_of e es.0, es.1)) local_compare
      (λ e. local_bind (λ t. spec.chain (spec.compare depth inner) 38 (length t) [] t) (λ es t. Ok (spec.and_of e es, t)) (local_chain 38 (spec.compare depth inner) local_compare []) (λ es. local_pure (spec.and_of e es)))

  local_either : Local (spec.either depth inner)
  unfolding spec.either
  local_either = local_bind (spec.both depth inner) (λ e t. spec.chain (spec.both depth inner) 124 (length t) [] t >>= λ es. Ok (spec.or_of e es.0, es.1)) local_both
      (λ e. local_bind (λ t. spec.chain (spec.both depth inner) 124 (length t) [] t) (λ es t. Ok (spec.or_of e es, t)) (local_chain 124 (spec.both depth inner) local_both []) (λ es. local_pure (spec.or_of e es)))

  others : ExprNode → ExprNode → List ℕ → Outcome ExprNode
  others c a t = spec.other_choice depth inner t >>= λ b. Ok (expr_node.Choice c a b.0, b.1)

  local_others : Local (guarded 58 (inner Choice)) → (c a : ExprNode) → Local (others c a)
  unfolding others spec.other_choice
  local_others l c a = local_bind (guarded 58 (inner Choice)) (λ b t. Ok (expr_node.Choice c a b, t)) l (λ b. local_pure (expr_node.Choice c a b))

  abbrev branches : ExprNode → List ℕ → Outcome ExprNode
  branches c t = cond (begins_with_byte 63 t) (inner Choice t >>= λ a. others c a.0 a.1) (Ok (c, t))

  local_branches : Other inner → (c : ExprNode) → Local (branches c)
  local_branches (inl l) c = local_guarded 63 (inner Choice) (others c) (got c) (local Choice 63 refl) (local_others l c) (local_pure c)
  local_branches (inr never) c =
      local_ext (λ t. cond (begins_with_byte 63 t) (inner Choice t >>= λ a. got a.0 a.1) (Ok (c, t))) (branches c) (λ t. never_is (begins_with_byte 63 t) (inner Choice t) (λ a. got a.0 a.1) (λ a. others c a.0 a.1) (Ok (c, t)) (never t))
      (local_guarded 63 (inner Choice) got (got c) (local Choice 63 refl) local_pure (local_pure c))

  local_choice : Local (spec.choice depth inner)
  unfolding spec.choice others
  local_choice = local_bind (spec.either depth inner) branches local_either (local_branches other)

  more_items : ExprNode → List ℕ → Outcome ExprNode
  more_items e t = spec.chain (spec.choice depth inner) 44 (length t) (e ∷ []) t >>= λ es. Ok (expr_node.List es.0, es.1)

  local_more_items : (e : ExprNode) → Local (more_items e)
  unfolding more_items
  local_more_items e = local_bind (λ t. spec.chain (spec.choice depth inner) 44 (length t) (e ∷ []) t) (λ es t. Ok (expr_node.List es, t)) (local_chain 44 (spec.choice depth inner) local_choice (e ∷ [])) (λ es. local_pure (expr_node.List es))

  local_items : Local (spec.items depth inner)
  unfolding spec.items more_items
  local_items = local_if (begins_with_byte 93) (got (expr_node.List [])) (λ t. spec.choice depth inner t >>= λ x. more_items x.0 x.1) (at_same 93) (local_pure (expr_node.List [])) (local_bind (spec.choice depth inner) more_items local_choice local_more_items)

  local_level : (which : Nested) → Local (spec.level depth inner which)
  local_level Choice = local_choice
  local_level Operand = local_operand
  local_level Items = local_items

abbrev pub deeper : ℕ → Nested → List ℕ → Outcome ExprNode
deeper depth which t = spec.level depth (spec.nesting depth) which t

local_after : (d : ℕ) (which : Nested) (c : ℕ) → Local (deeper d which) → Local (guarded c (spec.nesting (suc d) which))
unfolding spec.nesting
local_after d which c l = local_if (begins_with_byte c) (λ t. deeper d which (blanks_skipped (drop 1 t))) refuse (at_same c) (local_drop (λ t. deeper d which (blanks_skipped t)) (local_skip (deeper d which) l)) local_refuse

local_zero : (which : Nested) (c : ℕ) → nests c ≡ true → Local (guarded c (spec.nesting zero which))
unfolding spec.nesting
local_zero which c nest = local_deep c nest

none_nested : (t : List ℕ) (x : ExprNode × List ℕ) → spec.nesting zero Choice t ≡ Ok x → ⊥
unfolding spec.nesting
none_nested t x e = cc

pub local_deeper : (depth : ℕ) (which : Nested) → Local (deeper depth which)
local_deeper zero which = local_level zero (spec.nesting zero) local_zero (inr none_nested) which
local_deeper (suc d) which =
    local_level (suc d) (spec.nesting (suc d)) (λ which' c nest. local_after d which' c (local_deeper d which')) (inl (local_after d Choice 58 (local_deeper d Choice))) which

pub local_tree : (levels : ℕ) → Local (spec.choice levels (spec.nesting levels))
local_tree levels = local_deeper levels Choice
