-- An expression of the grammar is what its text is read as.
use Rattle.std.proofs.Common.{◌≡◌, ℕ, true, false, ◌||◌, eqb, List, [], ◌∷◌, ◌++◌, length, Option, Some, None, Ok, codes, refl, sym, rules}
use Rattle.sp_base.specs.Bytes.{begins_with_byte}
use Rattle.sp_base.proofs.NatLemmas.{nat_eq_itself}
use Rattle.htl_syntax.specs.declared.node.ExprNode.{ExprNode}
use Rattle.htl_syntax.specs.declared.expression.Context.{Context}
use Rattle.htl_syntax.specs.declared.expression.Context.TheVariants.{Text, Unsafe}
use Rattle.htl_syntax.specs.declared.expression.Expression.{Expression}
use Rattle.htl_syntax.specs.Tokens.{blanks_skipped, begins, expect, literal}
use Rattle.htl_syntax.specs.Read as spec
use Rattle.htl_syntax.specs.Grammar.{Byte, ContextString, context_text, Join, InContext, Options, TreeOrNothing, WholeWithin, Choice}
use Rattle.htl_syntax.specs.Grammar as g
use Rattle.htl_syntax.proofs.TokensAgain as again
use Rattle.htl_syntax.proofs.Complete.{complete, part_at, part_some, foreign_options, Stops}

literal_again : (w r : List ℕ) → literal w (w ++ r) ≡ Ok r
unfolding literal begins_with_byte
literal_again [] r = refl
literal_again (c ∷ w) r = rw (nat_eq_itself c) (literal_again w r)

context_word_again : (c : Context) (t : List ℕ) → spec.context_word (context_text c ++ t) ≡ Ok (c, t)
unfolding spec.context_word begins_with_byte
context_word_again Text t = rw (literal_again (codes "text") t) refl
context_word_again Unsafe t = rw (literal_again (codes "unsafe") t) refl

context_string_again : (s : List ℕ) (c : Context) (r : List ℕ) → ContextString s c r → spec.context_string s ≡ Ok (c, r)
unfolding spec.context_string begins
context_string_again s c r x =
    let close : expect x.mark (x.mark ∷ x.after) ≡ Ok r = again.expect_again x.mark (x.mark ∷ x.after) r (record { after = x.after; parts = refl; rest = x.rest }) in
    rw (x.parts, x.is_mark, context_word_again c (x.mark ∷ x.after), close) refl

join_again : (s w r : List ℕ) → Join s w r → spec.join_option s ≡ Ok (w, r)
unfolding spec.join_option
join_again s w r x =
    rw (x.word.parts, literal_again (codes "join") x.word.after, sym x.word.rest, again.expect_again 61 x.after_literal x.after_sign x.sign) (again.string_again x.after_sign w r x.value)

in_context_again : (s : List ℕ) (c : Context) (r : List ℕ) → InContext s c r → spec.context_option s ≡ Ok (c, r)
unfolding spec.context_option
in_context_again s c r x =
    rw (x.word.parts, literal_again (codes "context") x.word.after, sym x.word.rest, again.expect_again 61 x.after_literal x.after_sign x.sign) (context_string_again x.after_sign c r x.value)

join_at : (s w r : List ℕ) → Join s w r → begins_with_byte 106 s ≡ true
unfolding begins_with_byte
join_at s w r x = rw x.word.parts refl

context_at : (s : List ℕ) (c : Context) (r : List ℕ) → InContext s c r → (begins_with_byte 106 s ≡ false) × (begins_with_byte 99 s ≡ true)
unfolding begins_with_byte
context_at s c r x = rw x.word.parts (refl, refl)

option_join : (context : Option Context) (s w r : List ℕ) → Join s w r → spec.option (None, context) s ≡ Ok ((Some w, context), r)
unfolding spec.option
option_join context s w r x = rw (join_at s w r x, join_again s w r x) refl

option_context : (s : List ℕ) (c : Context) (r : List ℕ) → InContext s c r → spec.option (None, None) s ≡ Ok ((None, Some c), r)
unfolding spec.option
option_context s c r x = rw ((context_at s c r x).0, (context_at s c r x).1, in_context_again s c r x) refl

option_second : (w s : List ℕ) (c : Context) (r : List ℕ) → InContext s c r → spec.option (Some w, None) s ≡ Ok ((Some w, Some c), r)
unfolding spec.option
option_second w s c r x = rw ((context_at s c r x).1, in_context_again s c r x) refl

options_again : (s : List ℕ) (join : Option (List ℕ)) (context : Option Context) → Options s join context → spec.options s ≡ Ok ((join, context), [])
unfolding spec.options begins_with_byte
options_again _ _ _ g.none = refl
options_again s _ _ (g.join at j) = rw (again.at_here 64 s _ at, again.remainder 64 s _ at, option_join None _ _ [] j) refl
options_again s _ _ (g.context at c) = rw (again.at_here 64 s _ at, again.remainder 64 s _ at, option_context _ _ [] c) refl
options_again s _ _ (g.join_context at j comma c) =
    rw (again.at_here 64 s _ at, again.remainder 64 s _ at, option_join None _ _ _ j, again.at_here 44 _ _ comma, again.remainder 44 _ _ comma) (option_second _ _ _ [] c)
options_again s _ _ (g.context_join at c comma j) =
    rw (again.at_here 64 s _ at, again.remainder 64 s _ at, option_context _ _ _ c, again.at_here 44 _ _ comma, again.remainder 44 _ _ comma) (option_join (Some _) _ _ [] j)

nil_stops : Stops Choice [] × ((eqb (length {A = ℕ} []) 0 || begins_with_byte 64 []) ≡ true)
unfolding begins_with_byte spec.access_at spec.compares
nil_stops = ((refl, refl, refl, refl, refl), refl)

at_stops : (s r : List ℕ) → Byte 64 s r → Stops Choice s × ((eqb (length s) 0 || begins_with_byte 64 s) ≡ true)
unfolding begins_with_byte spec.access_at spec.compares
at_stops s r b = rw b.parts ((refl, refl, refl, refl, refl), search rules)

-- options or the end follow a tree
options_stop : (s : List ℕ) (join : Option (List ℕ)) (context : Option Context) → Options s join context → Stops Choice s × ((eqb (length s) 0 || begins_with_byte 64 s) ≡ true)
options_stop _ _ _ g.none = nil_stops
options_stop s _ _ (g.join at j) = at_stops s _ at
options_stop s _ _ (g.context at c) = at_stops s _ at
options_stop s _ _ (g.join_context at j comma c) = at_stops s _ at
options_stop s _ _ (g.context_join at c comma j) = at_stops s _ at

module _ (levels : ℕ) where
  first_tree : (s : List ℕ) (tree : Option ExprNode) (r : List ℕ) → TreeOrNothing levels s tree r → Stops Choice r × ((eqb (length r) 0 || begins_with_byte 64 r) ≡ true) → spec.optional_choice levels s ≡ Ok (tree, r)
  unfolding spec.optional_choice
  first_tree s None r e st = rw (sym e, st.1) refl
  first_tree s (Some e) r x st = rw (part_some Choice levels s e r x tt, part_at 64 Choice levels s e r foreign_options x tt, complete Choice levels s e r x st.0) refl

  pub read_again : (s : List ℕ) (e : Expression) → WholeWithin levels s e → spec.expression_read levels s ≡ Ok e
  unfolding spec.expression_read
  read_again s e w = rw (first_tree (blanks_skipped s) e.node w.after_tree w.tree (options_stop w.after_tree e.join e.context w.options), options_again w.after_tree e.join e.context w.options) refl
