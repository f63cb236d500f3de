-- Each part of a file takes a byte at least.
use Rattle.std.proofs.Common.{◌≡◌, ◌<◌, ◌≤◌, ℕ, zero, suc, Bool, true, false, cond, not, ◌&&◌, ◌==◌, List, [], ◌∷◌, ◌++◌, take, drop, length, Ok, Err, Result, refl, ap, arith, length-drop}
use Rattle.std.specs.Str.{is_utf8}
use Rattle.sp_base.specs.Outcomes.{◌>>=◌}
use Rattle.sp_base.specs.Bytes.{begins_with_byte}
use Rattle.sp_base.proofs.NatLemmas.{positive}
use Rattle.sp_base.proofs.TextLemmas.{rest_after_byte}
use Rattle.any_config.specs.declared.node.AnyNode.{AnyNode}
use Rattle.any_config.specs.declared.node.AnyNode.TheVariants as node
use Rattle.any_config.specs.declared.stop.AnyStop.{AnyStop}
use Rattle.any_config.specs.declared.stop.AnyStop.TheVariants.{BadName, BadQuote, Unclosed}
use Rattle.any_config.specs.declared.tokens.ByteRun.TheVariants.{Name, Plain, Quoted}
use Rattle.any_config.specs.Tokens.{TokenOutcome, after_blanks_and_comments, comments_skipped, is_line_end, is_config_blank, run_len, member_name, unquoted_word, quoted_value, quoted_node, ungrouped_value}
use Rattle.any_config.specs.Read.{Members, ends_members, value, member, more_members, members, braced_group, group}
use Rattle.any_config.proofs.TokenLemmas.{run_within}

-- the value of a step that did not fail
pub bind_ok : {A B : Type 0} (r : Result A AnyStop) (f : A → Result B AnyStop) (y : B) → (r >>= f) ≡ Ok y → (x : A) × (r ≡ Ok x) × (f x ≡ Ok y)
bind_ok (Ok x) f y e = (x, refl, e)
bind_ok (Err d) f y e = absurd cc

abbrev pub done : {A : Type 0} → A → Result A AnyStop
done x = Ok x

pub ok_is : {A : Type 0} (x y : A) → done x ≡ done y → x ≡ y
ok_is x y e = cc

blanks_less : (b : Bool) (t : List ℕ) → length (after_blanks_and_comments b t) ≤ length t
blanks_less b [] = omega arith
blanks_less true (c ∷ t) = let ih = blanks_less (not (is_line_end c)) t in omega arith
blanks_less false (c ∷ t) = go (c == 35) (is_config_blank c) (blanks_less true t) (blanks_less false t)
  where
    go : (p q : Bool) → length (after_blanks_and_comments true t) ≤ length t → length (after_blanks_and_comments false t) ≤ length t → length (cond p (after_blanks_and_comments true t) (cond q (after_blanks_and_comments false t) (c ∷ t))) ≤ length (c ∷ t)
    go true q a b = omega arith
    go false true a b = omega arith
    go false false a b = omega arith

pub skip_less : (t : List ℕ) → length (comments_skipped t) ≤ length t
unfolding comments_skipped
skip_less t = blanks_less false t

pub name_less : (t : List ℕ) (x : List ℕ × List ℕ) → member_name t ≡ Ok x → length x.1 ≤ length t
unfolding member_name
name_less t x h = go (begins_with_byte 47 t) (run_len Name (drop 1 t) == 0) h
  where
    go : (p q : Bool) → cond p (cond q (Err (BadName (length t))) (Ok (take (run_len Name (drop 1 t)) (drop 1 t), comments_skipped (drop (run_len Name (drop 1 t)) (drop 1 t))))) (Ok ([], t)) ≡ Ok x → length x.1 ≤ length t
    go true true e = absurd cc
    go true false e =
        let same = ap (λ (y : List ℕ × List ℕ). length y.1) (ok_is _ x e) in
        omega (arith, same, skip_less (drop (run_len Name (drop 1 t)) (drop 1 t)), length-drop (run_len Name (drop 1 t)) (drop 1 t), length-drop 1 t)
    go false q e = let same = ap (λ (y : List ℕ × List ℕ). length y.1) (ok_is _ x e) in omega (arith, same)

-- a leaf is one whatever its member is
pub leaf_any : (a b : ℕ) (t : List ℕ) (x : AnyNode × List ℕ) → ungrouped_value a t ≡ Ok x → ungrouped_value b t ≡ Ok x
unfolding ungrouped_value unquoted_word
leaf_any a b t x h = go (begins_with_byte 34 t) (begins_with_byte 39 t) (run_len Plain t == 0) h
  where
    go : (p q z : Bool) → cond p (quoted_value 34 t) (cond q (quoted_value 39 t) (cond z (Err (BadName a)) (Ok (node.Word (take (run_len Plain t) t), drop (run_len Plain t) t)))) ≡ Ok x
        → cond p (quoted_value 34 t) (cond q (quoted_value 39 t) (cond z (Err (BadName b)) (Ok (node.Word (take (run_len Plain t) t), drop (run_len Plain t) t)))) ≡ Ok x
    go true q z e = e
    go false true z e = e
    go false false true e = absurd cc
    go false false false e = e

quoted_less : (mark : ℕ) (t : List ℕ) (x : AnyNode × List ℕ) → begins_with_byte mark t ≡ true → quoted_value mark t ≡ Ok x → length x.1 < length t
unfolding quoted_value
quoted_less mark t x at h = go (begins_with_byte mark (drop (run_len (Quoted mark) (drop 1 t)) (drop 1 t)) && is_utf8 (take (run_len (Quoted mark) (drop 1 t)) (drop 1 t))) h
  where
    go : (b : Bool) → cond b (Ok (quoted_node mark (take (run_len (Quoted mark) (drop 1 t)) (drop 1 t)), drop 1 (drop (run_len (Quoted mark) (drop 1 t)) (drop 1 t)))) (Err (BadQuote (length t))) ≡ Ok x → length x.1 < length t
    go true e =
        let same = ap (λ (y : AnyNode × List ℕ). length y.1) (ok_is _ x e) in
        omega (arith, same, rest_after_byte mark t at, length-drop 1 (drop (run_len (Quoted mark) (drop 1 t)) (drop 1 t)), length-drop (run_len (Quoted mark) (drop 1 t)) (drop 1 t))
    go false e = absurd cc

plain_within : (t : List ℕ) → run_len Plain t ≤ length t
unfolding run_len
plain_within t = run_within Plain t

word_less : (a : ℕ) (t : List ℕ) (x : AnyNode × List ℕ) → unquoted_word a t ≡ Ok x → length x.1 < length t
unfolding unquoted_word
word_less a t x h = go (run_len Plain t == 0) refl h
  where
    go : (b : Bool) → (run_len Plain t == 0) ≡ b → cond b (Err (BadName a)) (Ok (node.Word (take (run_len Plain t) t), drop (run_len Plain t) t)) ≡ Ok x → length x.1 < length t
    go true z e = absurd cc
    go false z e =
        let same = ap (λ (y : AnyNode × List ℕ). length y.1) (ok_is _ x e) in
        omega (arith, same, positive (run_len Plain t) z, plain_within t, length-drop (run_len Plain t) t)

pub leaf_less : (a : ℕ) (t : List ℕ) (x : AnyNode × List ℕ) → ungrouped_value a t ≡ Ok x → length x.1 < length t
unfolding ungrouped_value
leaf_less a t x h = go (begins_with_byte 34 t) (begins_with_byte 39 t) refl refl h
  where
    go : (p q : Bool) → begins_with_byte 34 t ≡ p → begins_with_byte 39 t ≡ q → cond p (quoted_value 34 t) (cond q (quoted_value 39 t) (unquoted_word a t)) ≡ Ok x → length x.1 < length t
    go true q ep eq e = quoted_less 34 t x ep e
    go false true ep eq e = quoted_less 39 t x eq e
    go false false ep eq e = word_less a t x e

-- what reads groups takes a byte at least
abbrev pub Takes : (List ℕ → TokenOutcome AnyNode) → Type 0
Takes inner = (t : List ℕ) (x : AnyNode × List ℕ) → inner t ≡ Ok x → length x.1 < length t

pub value_less : (inner : List ℕ → TokenOutcome AnyNode) → Takes inner → (at : ℕ) (t : List ℕ) (x : AnyNode × List ℕ) → value inner at t ≡ Ok x → length x.1 < length t
unfolding value
value_less inner takes at t x h = go (begins_with_byte 123 t) h
  where
    go : (b : Bool) → cond b (inner t) (ungrouped_value at t) ≡ Ok x → length x.1 < length t
    go true e = takes t x e
    go false e = leaf_less at t x e

pub member_less : (inner : List ℕ → TokenOutcome AnyNode) → Takes inner → (t : List ℕ) (y : (List ℕ × AnyNode) × List ℕ) → member inner t ≡ Ok y → length y.1 < length t
unfolding member
member_less inner takes t y h =
    let a = bind_ok (member_name t) (λ n. value inner (length t) n.1 >>= λ v. Ok ((n.0, v.0), v.1)) y h in
    let b = bind_ok (value inner (length t) a.0.1) (λ v. Ok ((a.0.0, v.0), v.1)) y a.2 in
    let same = ap (λ (z : (List ℕ × AnyNode) × List ℕ). length z.1) (ok_is _ y b.2) in
    omega (arith, same, name_less t a.0 a.1, value_less inner takes (length t) a.0.1 b.0 b.1)

more_less : (inner : List ℕ → TokenOutcome AnyNode) → Takes inner → (k : ℕ) (found : Members) (t : List ℕ) (y : Members × List ℕ) → more_members inner k found t ≡ Ok y → length y.1 ≤ length t
unfolding more_members
more_less inner takes zero found t y h = let same = ap (λ (z : Members × List ℕ). length z.1) (ok_is _ y h) in omega (arith, same)
more_less inner takes (suc k) found t y h = go (ends_members t) (λ f s. more_less inner takes k f s y) h
  where
    go : (b : Bool) → ((f : Members) (s : List ℕ) → more_members inner k f s ≡ Ok y → length y.1 ≤ length s)
        → cond b (Ok (found, t)) (member inner t >>= λ m. more_members inner k (found ++ m.0 ∷ []) (comments_skipped m.1)) ≡ Ok y → length y.1 ≤ length t
    go true ih e = let same = ap (λ (z : Members × List ℕ). length z.1) (ok_is _ y e) in omega (arith, same)
    go false ih e =
        let a = bind_ok (member inner t) (λ m. more_members inner k (found ++ m.0 ∷ []) (comments_skipped m.1)) y e in
        omega (arith, ih (found ++ a.0.0 ∷ []) (comments_skipped a.0.1) a.2, skip_less a.0.1, member_less inner takes t a.0 a.1)

opened_less : (inner : List ℕ → TokenOutcome AnyNode) → Takes inner → Takes (braced_group inner)
unfolding braced_group members
opened_less inner takes t x h =
    let a = bind_ok (more_members inner (length (comments_skipped (drop 1 t))) [] (comments_skipped (drop 1 t))) _ x h in
    go a.0 (begins_with_byte 125 a.0.1) refl (more_less inner takes _ _ _ a.0 a.1) a.2
  where
    go : (ms : Members × List ℕ) (b : Bool) → begins_with_byte 125 ms.1 ≡ b → length ms.1 ≤ length (comments_skipped (drop 1 t)) → cond b (Ok (node.Group ms.0, drop 1 ms.1)) (Err (Unclosed (length t))) ≡ Ok x → length x.1 < length t
    go ms true at le e =
        let same = ap (λ (z : AnyNode × List ℕ). length z.1) (ok_is _ x e) in
        omega (arith, same, le, rest_after_byte 125 ms.1 at, skip_less (drop 1 t), length-drop 1 t)
    go ms false at le e = absurd cc

pub group_takes : (depth : ℕ) → Takes (group depth)
unfolding group
group_takes zero t x h = absurd cc
group_takes (suc d) t x h = opened_less (group d) (group_takes d) t x h
