-- Where reading stops is the first member that isn't whole.
use Rattle.std.proofs.Common.{◌≡◌, ◌≤◌, ℕ, zero, suc, Bool, true, false, cond, not, ◌&&◌, ◌||◌, ◌==◌, ◌⊎◌, inl, inr, List, [], ◌∷◌, ◌++◌, take, drop, length, Result, Ok, Err, refl, ap, sym, ◌∙◌, arith, subst}
use Rattle.std.specs.Str.{is_utf8}
use Rattle.std.proofs.lemmas.Bool.Decides.{nat_tests}
use Rattle.sp_base.specs.Outcomes.{◌>>=◌}
use Rattle.sp_base.specs.Bytes.{begins_with_byte}
use Rattle.sp_base.proofs.ListLemmas.{cons_is_some}
use Rattle.any_config.specs.declared.node.AnyNode.{AnyNode}
use Rattle.any_config.specs.declared.node.AnyNode.TheVariants as node
use Rattle.any_config.specs.declared.stop.AnyStop.{AnyStop}
use Rattle.any_config.specs.declared.stop.AnyStop.TheVariants as stop
use Rattle.any_config.specs.declared.any_fault.AnyFault.{AnyFault}
use Rattle.any_config.specs.declared.tokens.ByteRun.{ByteRun}
use Rattle.any_config.specs.declared.tokens.ByteRun.TheVariants.{Name, Plain, Quoted}
use Rattle.any_config.specs.Tokens.{TokenOutcome, comments_skipped, is_config_name_byte, is_plain_byte, ends, run_len, member_name, unquoted_word, quoted_value, quoted_node, ungrouped_value}
use Rattle.any_config.specs.Read.{Members, ends_members, value, member, more_members, members, braced_group, group, file_read, placed_answer, any_of}
use Rattle.any_config.specs.Grammar.{IsValue, AreMembers}
use Rattle.any_config.specs.Faults.{first_byte_passes, is_quote_mark, begins_value, IsBroken, IsFirstBroken, IsStop, IsConfigFault}
use Rattle.any_config.proofs.Progress.{bind_ok, ok_is, skip_less, name_less, value_less, member_less, group_takes}
use Rattle.any_config.proofs.Sound.{value_sound, members_sound, group_sound}
use Rattle.any_config.proofs.Complete.{value_complete, members_complete, not_empty}

-- a step fails, or the one after it
bind_err : {A B : Type 0} (r : Result A AnyStop) (f : A → Result B AnyStop) (s : AnyStop) → (r >>= f) ≡ Err s → (r ≡ Err s) ⊎ ((x : A) × (r ≡ Ok x) × (f x ≡ Err s))
bind_err (Ok x) f s e = inr (x, refl, e)
bind_err (Err d) f s e = inl (let same : d ≡ s = cc in ap Err same)

abbrev failed : {A : Type 0} → AnyStop → Result A AnyStop
failed s = Err s

err_is : {A : Type 0} (s d : AnyStop) → failed {A = A} s ≡ failed {A = A} d → s ≡ d
err_is s d e = cc

-- a text does not begin with a byte of a run where the run is empty
run_empty : (run : ByteRun) (t : List ℕ) → (run_len run t == 0) ≡ true → first_byte_passes (λ c. not (ends run c)) t ≡ false
unfolding run_len
run_empty run [] h = refl
run_empty run (c ∷ t) h = go (ends run c) refl
  where
    go : (b : Bool) → ends run c ≡ b → not (ends run c) ≡ false
    go true e = rw e refl
    go false e = absurd (grind (arith, nat_tests))

empty_run : (run : ByteRun) (t : List ℕ) → first_byte_passes (λ c. not (ends run c)) t ≡ false → (run_len run t == 0) ≡ true
unfolding run_len
empty_run run [] h = refl
empty_run run (c ∷ t) h = rw h refl

double : (b : Bool) → not (not b) ≡ b
double true = refl
double false = refl

name_prefix : (t : List ℕ) → first_byte_passes (λ c. not (ends Name c)) t ≡ first_byte_passes is_config_name_byte t
name_prefix [] = refl
name_prefix (c ∷ t) = double (is_config_name_byte c)

plain_prefix : (t : List ℕ) → first_byte_passes (λ c. not (ends Plain c)) t ≡ first_byte_passes is_plain_byte t
plain_prefix [] = refl
plain_prefix (c ∷ t) = double (is_plain_byte c)

-- where there is no name
name_stops : (t : List ℕ) (s : AnyStop) → member_name t ≡ Err s → (begins_with_byte 47 t ≡ true) × (first_byte_passes is_config_name_byte (drop 1 t) ≡ false) × (stop.BadName (length t) ≡ s)
unfolding member_name
name_stops t s h = go (begins_with_byte 47 t) (run_len Name (drop 1 t) == 0) refl refl h
  where
    go : (p q : Bool) → begins_with_byte 47 t ≡ p → (run_len Name (drop 1 t) == 0) ≡ q
        → cond {A = TokenOutcome (List ℕ)} p (cond {A = TokenOutcome (List ℕ)} q (Err (stop.BadName (length t))) (Ok (take (run_len Name (drop 1 t)) (drop 1 t), comments_skipped (drop (run_len Name (drop 1 t)) (drop 1 t))))) (Ok ([], t)) ≡ Err s
        → (begins_with_byte 47 t ≡ true) × (first_byte_passes is_config_name_byte (drop 1 t) ≡ false) × (stop.BadName (length t) ≡ s)
    go true true ep eq e = (ep, sym (name_prefix (drop 1 t)) ∙ run_empty Name (drop 1 t) eq, err_is _ s e)
    go true false ep eq e = absurd cc
    go false q ep eq e = absurd cc

name_broken : (t : List ℕ) → begins_with_byte 47 t ≡ true → first_byte_passes is_config_name_byte (drop 1 t) ≡ false → member_name t ≡ Err (stop.BadName (length t))
unfolding member_name
name_broken t at none = rw (at, empty_run Name (drop 1 t) (name_prefix (drop 1 t) ∙ none)) refl

-- where there is no value that is no group
prefix_mark : (t : List ℕ) → begins_with_byte 34 t ≡ false → begins_with_byte 39 t ≡ false → first_byte_passes is_quote_mark t ≡ false
unfolding begins_with_byte
prefix_mark [] p q = refl
prefix_mark (c ∷ t) p q = rw (p, q) refl

mark_prefix : (t : List ℕ) → begins_with_byte 34 t || begins_with_byte 39 t ≡ first_byte_passes is_quote_mark t
unfolding begins_with_byte
mark_prefix [] = refl
mark_prefix (c ∷ t) = refl

value_prefix : (t : List ℕ) → begins_with_byte 123 t ≡ false → begins_with_byte 34 t ≡ false → begins_with_byte 39 t ≡ false → first_byte_passes is_plain_byte t ≡ false → first_byte_passes begins_value t ≡ false
unfolding begins_with_byte
value_prefix [] b p q w = refl
value_prefix (c ∷ t) b p q w = rw (b, p, q, w) refl

prefix_value : (t : List ℕ) → first_byte_passes begins_value t ≡ false → (begins_with_byte 123 t ≡ false) × (begins_with_byte 34 t ≡ false) × (begins_with_byte 39 t ≡ false) × (first_byte_passes is_plain_byte t ≡ false)
unfolding begins_with_byte
prefix_value [] h = (refl, refl, refl, refl)
prefix_value (c ∷ t) h = go (c == 123) (c == 34) (c == 39) (is_plain_byte c) h
  where
    go : (b p q w : Bool) → (b || ((p || q) || w)) ≡ false → (b ≡ false) × (p ≡ false) × (q ≡ false) × (w ≡ false)
    go true p q w e = absurd cc
    go false true q w e = absurd cc
    go false false true w e = absurd cc
    go false false false true e = absurd cc
    go false false false false e = (refl, refl, refl, refl)

mark_no_brace : (t : List ℕ) → first_byte_passes is_quote_mark t ≡ true → begins_with_byte 123 t ≡ false
unfolding begins_with_byte
mark_no_brace [] h = absurd cc
mark_no_brace (c ∷ t) h = grind (arith, nat_tests)

quoted_stops : (mark : ℕ) (t : List ℕ) (s : AnyStop) → quoted_value mark t ≡ Err s → stop.BadQuote (length t) ≡ s
unfolding quoted_value
quoted_stops mark t s h = go (begins_with_byte mark (drop (run_len (Quoted mark) (drop 1 t)) (drop 1 t)) && is_utf8 (take (run_len (Quoted mark) (drop 1 t)) (drop 1 t))) h
  where
    go : (b : Bool) → cond {A = TokenOutcome AnyNode} b (Ok (quoted_node mark (take (run_len (Quoted mark) (drop 1 t)) (drop 1 t)), drop 1 (drop (run_len (Quoted mark) (drop 1 t)) (drop 1 t)))) (Err (stop.BadQuote (length t))) ≡ Err s
        → stop.BadQuote (length t) ≡ s
    go true e = absurd cc
    go false e = err_is _ s e

-- what is wrong with a value: a mark, or a byte that begins none
abbrev LeafStops : ℕ → List ℕ → AnyStop → Type 0
LeafStops at t s = ((first_byte_passes is_quote_mark t ≡ true) × (stop.BadQuote (length t) ≡ s)) ⊎ ((first_byte_passes begins_value t ≡ false) × (stop.BadName at ≡ s))

word_stops : (at : ℕ) (t : List ℕ) (s : AnyStop) → unquoted_word at t ≡ Err s → (first_byte_passes is_plain_byte t ≡ false) × (stop.BadName at ≡ s)
unfolding unquoted_word
word_stops at t s h = go (run_len Plain t == 0) refl h
  where
    go : (b : Bool) → (run_len Plain t == 0) ≡ b → cond {A = TokenOutcome AnyNode} b (Err (stop.BadName at)) (Ok (node.Word (take (run_len Plain t) t), drop (run_len Plain t) t)) ≡ Err s → (first_byte_passes is_plain_byte t ≡ false) × (stop.BadName at ≡ s)
    go true eb e = (sym (plain_prefix t) ∙ run_empty Plain t eb, err_is _ s e)
    go false eb e = absurd cc

leaf_stops : (at : ℕ) (t : List ℕ) (s : AnyStop) → begins_with_byte 123 t ≡ false → ungrouped_value at t ≡ Err s → LeafStops at t s
unfolding ungrouped_value
leaf_stops at t s plain h = go (begins_with_byte 34 t) (begins_with_byte 39 t) refl refl h
  where
    go : (p q : Bool) → begins_with_byte 34 t ≡ p → begins_with_byte 39 t ≡ q → cond p (quoted_value 34 t) (cond q (quoted_value 39 t) (unquoted_word at t)) ≡ Err s → LeafStops at t s
    go true q ep eq e = inl (sym (mark_prefix t) ∙ rw ep refl, quoted_stops 34 t s e)
    go false true ep eq e = inl (sym (mark_prefix t) ∙ rw (ep, eq) refl, quoted_stops 39 t s e)
    go false false ep eq e = let w = word_stops at t s e in inr (value_prefix t plain ep eq w.0, w.1)

-- no text in quotes is spelled where none is read
abbrev none_read : AnyNode × List ℕ → TokenOutcome AnyNode
none_read x = Ok x

no_value_of : (depth at : ℕ) (t : List ℕ) (s : AnyStop) → value (group depth) at t ≡ Err s → (n : AnyNode) (r : List ℕ) → IsValue depth t n r → ⊥
no_value_of depth at t s h n r v = let both : none_read (n, r) ≡ failed s = sym (value_complete depth t n r v at) ∙ h in absurd cc

value_leaf : (inner : List ℕ → TokenOutcome AnyNode) (at : ℕ) (t : List ℕ) → begins_with_byte 123 t ≡ false → value inner at t ≡ ungrouped_value at t
unfolding value
value_leaf inner at t plain = rw plain refl

leaf_broken : (depth : ℕ) (t : List ℕ) (x : List ℕ × List ℕ) (s : AnyStop) → member_name t ≡ Ok x → begins_with_byte 123 x.1 ≡ false → ungrouped_value (length t) x.1 ≡ Err s → IsBroken depth t s
leaf_broken depth t x s named plain h = elim (leaf_stops (length t) x.1 s plain h) [
  | inl quote ↦ subst (IsBroken depth t) quote.1 (IsBroken.no_text x named quote.0 (no_value_of depth (length t) x.1 s (value_leaf (group depth) (length t) x.1 plain ∙ h)))
  | inr bare ↦ subst (IsBroken depth t) bare.1 (IsBroken.no_value x named bare.0)
]

-- ---- where reading stops is first

abbrev GroupStops : ℕ → Type 0
GroupStops depth = (t : List ℕ) (x : List ℕ × List ℕ) (s : AnyStop) → ends_members t ≡ false → member_name t ≡ Ok x → begins_with_byte 123 x.1 ≡ true → group depth x.1 ≡ Err s → IsFirstBroken depth t s

value_first : (depth : ℕ) → GroupStops depth → (t : List ℕ) (x : List ℕ × List ℕ) (s : AnyStop) → ends_members t ≡ false → member_name t ≡ Ok x → value (group depth) (length t) x.1 ≡ Err s → IsFirstBroken depth t s
unfolding value
value_first depth all t x s on named h = go (begins_with_byte 123 x.1) refl h
  where
    go : (b : Bool) → begins_with_byte 123 x.1 ≡ b → cond b (group depth x.1) (ungrouped_value (length t) x.1) ≡ Err s → IsFirstBroken depth t s
    go true e f = all t x s on named e f
    go false e f = IsFirstBroken.broken on (leaf_broken depth t x s named e f)

member_first : (depth : ℕ) → GroupStops depth → (t : List ℕ) (s : AnyStop) → ends_members t ≡ false → member (group depth) t ≡ Err s → IsFirstBroken depth t s
unfolding member
member_first depth all t s on h = elim (bind_err (member_name t) (λ n. value (group depth) (length t) n.1 >>= λ v. Ok ((n.0, v.0), v.1)) s h) [
  | inl unnamed ↦ (let w = name_stops t s unnamed in IsFirstBroken.broken on (subst (IsBroken depth t) w.2 (IsBroken.slash w.0 w.1)))
  | inr named ↦ elim (bind_err (value (group depth) (length t) named.0.1) (λ v. Ok ((named.0.0, v.0), v.1)) s named.2) [
    | inl stops ↦ value_first depth all t named.0 s on named.1 stops
    | inr v ↦ absurd (let never = v.2 in cc)
  ]
]

member_later : (depth : ℕ) (t : List ℕ) (m : (List ℕ × AnyNode) × List ℕ) (s : AnyStop) → ends_members t ≡ false → member (group depth) t ≡ Ok m → IsFirstBroken depth (comments_skipped m.1) s → IsFirstBroken depth t s
unfolding member
member_later depth t m s on h after =
    let a = bind_ok (member_name t) (λ n. value (group depth) (length t) n.1 >>= λ v. Ok ((n.0, v.0), v.1)) m h in
    let b = bind_ok (value (group depth) (length t) a.0.1) (λ v. Ok ((a.0.0, v.0), v.1)) m a.2 in
    let rest = ap (λ (z : (List ℕ × AnyNode) × List ℕ). z.1) (ok_is _ m b.2) in
    IsFirstBroken.later a.0 b.0.0 b.0.1 on a.1 (value_sound depth (group_sound depth) (length t) a.0.1 b.0 b.1) (subst (λ (l : List ℕ). IsFirstBroken depth (comments_skipped l) s) (sym rest) after)

members_first : (depth : ℕ) → GroupStops depth → (k : ℕ) (found : Members) (t : List ℕ) (s : AnyStop) → length t ≤ k → more_members (group depth) k found t ≡ Err s → IsFirstBroken depth t s
unfolding more_members
members_first depth all zero found t s le h = absurd cc
members_first depth all (suc k) found t s le h = go (ends_members t) refl (λ f r l. members_first depth all k f r s l) h
  where
    go : (b : Bool) → ends_members t ≡ b → ((f : Members) (r : List ℕ) → length r ≤ k → more_members (group depth) k f r ≡ Err s → IsFirstBroken depth r s)
        → cond {A = TokenOutcome Members} b (Ok (found, t)) (member (group depth) t >>= λ m. more_members (group depth) k (found ++ m.0 ∷ []) (comments_skipped m.1)) ≡ Err s → IsFirstBroken depth t s
    go true on ih e = absurd cc
    go false on ih e = elim (bind_err (member (group depth) t) (λ m. more_members (group depth) k (found ++ m.0 ∷ []) (comments_skipped m.1)) s e) [
      | inl here ↦ member_first depth all t s on here
      | inr m ↦ member_later depth t m.0 s on m.1 (ih (found ++ m.0.0 ∷ []) (comments_skipped m.0.1) (omega (arith, skip_less m.0.1, member_less (group depth) (group_takes depth) t m.0 m.1)) m.2)
    ]

-- members end at a `}` or at the end of the text
members_end : (depth : ℕ) (t : List ℕ) (ms : Members) (r : List ℕ) → AreMembers depth t ms r → ends_members r ≡ true
members_end _ _ _ _ (AreMembers.none {depth} {t} e) = e
members_end _ _ _ _ (AreMembers.more {depth} {t} {r} {m} {ms} x n inside e h v g all) = members_end depth (comments_skipped inside) ms r all

at_brace : (c : ℕ) (r : List ℕ) → ends_members (c ∷ r) ≡ true → begins_with_byte 125 (c ∷ r) ≡ true
unfolding ends_members
at_brace c r e = sym (ap (λ (b : Bool). b || begins_with_byte 125 (c ∷ r)) (cons_is_some c r)) ∙ e

nothing_left : (r : List ℕ) → ends_members r ≡ true → begins_with_byte 125 r ≡ false → r ≡ []
unfolding ends_members
nothing_left [] e plain = refl
nothing_left (c ∷ r) e plain = absurd (let w = at_brace c r e in cc)

opened_first : (depth : ℕ) → GroupStops depth → (t : List ℕ) (x : List ℕ × List ℕ) (s : AnyStop) → ends_members t ≡ false → member_name t ≡ Ok x → begins_with_byte 123 x.1 ≡ true → braced_group (group depth) x.1 ≡ Err s → IsFirstBroken (suc depth) t s
unfolding braced_group members
opened_first depth all t x s on named at h = elim (bind_err (more_members (group depth) (length (comments_skipped (drop 1 x.1))) [] (comments_skipped (drop 1 x.1))) _ s h) [
  | inl inner ↦ IsFirstBroken.within x on named at (members_first depth all (length (comments_skipped (drop 1 x.1))) [] (comments_skipped (drop 1 x.1)) s (omega arith) inner)
  | inr ms ↦ go ms.0 (begins_with_byte 125 ms.0.1) refl (members_sound depth (group_sound depth) (length (comments_skipped (drop 1 x.1))) [] (comments_skipped (drop 1 x.1)) ms.0 (omega arith) ms.1) ms.2
]
  where
    go : (y : Members × List ℕ) (b : Bool) → begins_with_byte 125 y.1 ≡ b → (ms : Members) × (y.0 ≡ [] ++ ms) × AreMembers depth (comments_skipped (drop 1 x.1)) ms y.1
        → cond {A = TokenOutcome AnyNode} b (Ok (node.Group y.0, drop 1 y.1)) (Err (stop.Unclosed (length x.1))) ≡ Err s → IsFirstBroken (suc depth) t s
    go y true e ms f = absurd cc
    go y false e ms f =
        let none = nothing_left y.1 (members_end depth (comments_skipped (drop 1 x.1)) ms.0 y.1 ms.2) e in
        subst (IsFirstBroken (suc depth) t) (err_is _ s f) (IsFirstBroken.unclosed x ms.0 on named at (subst (λ (r : List ℕ). AreMembers depth (comments_skipped (drop 1 x.1)) ms.0 r) none ms.2))

group_first : (depth : ℕ) → GroupStops depth
unfolding group
group_first zero t x s on named at h = IsFirstBroken.broken on (subst (IsBroken zero t) (err_is _ s h) (IsBroken.too_deep x named at))
group_first (suc d) t x s on named at h = opened_first d (group_first d) t x s on named at h

-- ---- the first is where reading stops

leaf_of_mark : (depth at : ℕ) (t : List ℕ) → first_byte_passes is_quote_mark t ≡ true → ((n : AnyNode) (r : List ℕ) → IsValue depth t n r → ⊥) → value (group depth) at t ≡ Err (stop.BadQuote (length t))
leaf_of_mark depth at t mark none = value_leaf (group depth) at t plain ∙ go (ungrouped_value at t) refl
  where
    plain : begins_with_byte 123 t ≡ false
    plain = mark_no_brace t mark

    never : (begins_with_byte 123 t ≡ false) × (begins_with_byte 34 t ≡ false) × (begins_with_byte 39 t ≡ false) × (first_byte_passes is_plain_byte t ≡ false) → ⊥
    never (b, p, q, w) = let none_there : first_byte_passes is_quote_mark t ≡ false = prefix_mark t p q in absurd cc

    go : (o : TokenOutcome AnyNode) → ungrouped_value at t ≡ o → o ≡ Err (stop.BadQuote (length t))
    go (Ok x) e = absurd (none x.0 x.1 (IsValue.single at plain e))
    go (Err s) e = elim (leaf_stops at t s plain e) [
      | inl quote ↦ ap failed (sym quote.1)
      | inr bare ↦ absurd (never (prefix_value t bare.0))
    ]

leaf_of_none : (inner : List ℕ → TokenOutcome AnyNode) (at : ℕ) (t : List ℕ) → first_byte_passes begins_value t ≡ false → value inner at t ≡ Err (stop.BadName at)
unfolding value ungrouped_value unquoted_word
leaf_of_none inner at t none =
    let w = prefix_value t none in
    rw (w.0, w.1, w.2, empty_run Plain t (plain_prefix t ∙ w.3)) refl

member_of : (inner : List ℕ → TokenOutcome AnyNode) (t : List ℕ) (x : List ℕ × List ℕ) (s : AnyStop) → member_name t ≡ Ok x → value inner (length t) x.1 ≡ Err s → member inner t ≡ Err s
unfolding member
member_of inner t x s named h = rw (named, h) refl

member_unnamed : (inner : List ℕ → TokenOutcome AnyNode) (t : List ℕ) (s : AnyStop) → member_name t ≡ Err s → member inner t ≡ Err s
unfolding member
member_unnamed inner t s h = rw h refl

deep_is : (at : ℕ) (t : List ℕ) → begins_with_byte 123 t ≡ true → value (group zero) at t ≡ Err (stop.TooDeep (length t))
unfolding value group
deep_is at t e = rw e refl

broken_read : (depth : ℕ) (t : List ℕ) (s : AnyStop) → IsBroken depth t s → member (group depth) t ≡ Err s
broken_read _ _ _ (IsBroken.slash {depth} {t} at none) = member_unnamed (group depth) t (stop.BadName (length t)) (name_broken t at none)
broken_read _ _ _ (IsBroken.no_value {depth} {t} x named none) = member_of (group depth) t x (stop.BadName (length t)) named (leaf_of_none (group depth) (length t) x.1 none)
broken_read _ _ _ (IsBroken.no_text {depth} {t} x named mark none) = member_of (group depth) t x (stop.BadQuote (length x.1)) named (leaf_of_mark depth (length t) x.1 mark none)
broken_read _ _ _ (IsBroken.too_deep {t} x named at) = member_of (group zero) t x (stop.TooDeep (length x.1)) named (deep_is (length t) x.1 at)

more_here : (inner : List ℕ → TokenOutcome AnyNode) (k : ℕ) (found : Members) (t : List ℕ) (s : AnyStop) → ends_members t ≡ false → length t ≤ k → member inner t ≡ Err s → more_members inner k found t ≡ Err s
unfolding more_members
more_here inner zero found t s on le h = absurd (omega (arith, le, not_empty t on))
more_here inner (suc k) found t s on le h = rw (on, h) refl

more_later : (inner : List ℕ → TokenOutcome AnyNode) (k : ℕ) (found : Members) (t rest : List ℕ) (x : List ℕ × List ℕ) (n : AnyNode) (s : AnyStop) → ends_members t ≡ false → member_name t ≡ Ok x → value inner (length t) x.1 ≡ Ok (n, rest)
    → more_members inner k (found ++ (x.0, n) ∷ []) (comments_skipped rest) ≡ Err s → more_members inner (suc k) found t ≡ Err s
unfolding more_members member
more_later inner k found t rest x n s on named v h = rw (on, named, v) h

value_opens : (depth at : ℕ) (t : List ℕ) (s : AnyStop) → begins_with_byte 123 t ≡ true → more_members (group depth) (length (comments_skipped (drop 1 t))) [] (comments_skipped (drop 1 t)) ≡ Err s → value (group (suc depth)) at t ≡ Err s
unfolding value group braced_group members
value_opens depth at t s e h = rw (e, h) refl

value_unclosed : (depth at : ℕ) (t : List ℕ) (ms : Members) → begins_with_byte 123 t ≡ true → more_members (group depth) (length (comments_skipped (drop 1 t))) [] (comments_skipped (drop 1 t)) ≡ Ok (ms, []) → value (group (suc depth)) at t ≡ Err (stop.Unclosed (length t))
unfolding value group braced_group members begins_with_byte
value_unclosed depth at t ms e h = rw (e, h) refl

first_read : (depth : ℕ) (t : List ℕ) (s : AnyStop) → IsFirstBroken depth t s → (k : ℕ) (found : Members) → length t ≤ k → more_members (group depth) k found t ≡ Err s
first_read _ _ _ (IsFirstBroken.broken {depth} {t} {s} on b) k found le = more_here (group depth) k found t s on le (broken_read depth t s b)
first_read _ _ _ (IsFirstBroken.later {depth} {t} {s} x n rest on named v after) k found le = go k le (λ j f l. first_read depth (comments_skipped rest) s after j f l)
  where
    go : (k : ℕ) → length t ≤ k → ((j : ℕ) (f : Members) → length (comments_skipped rest) ≤ j → more_members (group depth) j f (comments_skipped rest) ≡ Err s) → more_members (group depth) k found t ≡ Err s
    go zero le ih = absurd (omega (arith, le, not_empty t on))
    go (suc j) le ih =
        let value_is = value_complete depth x.1 n rest v (length t) in
        let less : length (comments_skipped rest) ≤ j = omega (arith, le, skip_less rest, value_less (group depth) (group_takes depth) (length t) x.1 (n, rest) value_is, name_less t x named) in
        more_later (group depth) j found t rest x n s on named value_is (ih j (found ++ (x.0, n) ∷ []) less)
first_read _ _ _ (IsFirstBroken.within {depth} {t} {s} x on named at inner) k found le =
    more_here (group (suc depth)) k found t s on le
    (member_of (group (suc depth)) t x s named (value_opens depth (length t) x.1 s at (first_read depth (comments_skipped (drop 1 x.1)) s inner (length (comments_skipped (drop 1 x.1))) [] (omega arith))))
first_read _ _ _ (IsFirstBroken.unclosed {depth} {t} x ms on named at all) k found le =
    more_here (group (suc depth)) k found t (stop.Unclosed (length x.1)) on le
    (member_of (group (suc depth)) t x (stop.Unclosed (length x.1)) named
    (value_unclosed depth (length t) x.1 ms at (members_complete depth (comments_skipped (drop 1 x.1)) ms [] all (length (comments_skipped (drop 1 x.1))) [] (omega arith))))

-- ---- the file

not_nil : (r : List ℕ) → (length r == 0) ≡ false → ends_members r ≡ true → begins_with_byte 125 r ≡ true
unfolding ends_members
not_nil [] plain e = absurd cc
not_nil (c ∷ r) plain e = at_brace c r e

stop_found : (text : List ℕ) (s : AnyStop) → file_read text ≡ Err s → IsStop text s
unfolding file_read members
stop_found text s h = elim (bind_err (more_members (group 32) (length (comments_skipped text)) [] (comments_skipped text)) _ s h) [
  | inl inner ↦ IsStop.member (members_first 32 (group_first 32) (length (comments_skipped text)) [] (comments_skipped text) s (omega arith) inner)
  | inr ms ↦ go ms.0 (length ms.0.1 == 0) refl (members_sound 32 (group_sound 32) (length (comments_skipped text)) [] (comments_skipped text) ms.0 (omega arith) ms.1) ms.2
]
  where
    go : (y : Members × List ℕ) (b : Bool) → (length y.1 == 0) ≡ b → (ms : Members) × (y.0 ≡ [] ++ ms) × AreMembers 32 (comments_skipped text) ms y.1 → cond b (Ok (node.Group y.0)) (Err (stop.BadName (length y.1))) ≡ Err s → IsStop text s
    go y true e ms f = absurd cc
    go y false e ms f = subst (IsStop text) (err_is _ s f) (IsStop.surplus ms.0 y.1 ms.2 (not_nil y.1 e (members_end 32 (comments_skipped text) ms.0 y.1 ms.2)))

brace_there : (r : List ℕ) → begins_with_byte 125 r ≡ true → (length r == 0) ≡ false
unfolding begins_with_byte
brace_there [] h = absurd cc
brace_there (c ∷ r) h = grind (arith, nat_tests)

stop_read : (text : List ℕ) (s : AnyStop) → IsStop text s → file_read text ≡ Err s
unfolding file_read members
stop_read text _ (IsStop.member {s} first) = rw (first_read 32 (comments_skipped text) s first (length (comments_skipped text)) [] (omega arith)) refl
stop_read text _ (IsStop.surplus ms rest all at) = rw (members_complete 32 (comments_skipped text) ms rest all (length (comments_skipped text)) [] (omega arith), brace_there rest at) refl

pub fault_found : (text : List ℕ) (fault : AnyFault) → any_of text ≡ Err fault → IsConfigFault text fault
fault_found text fault h = go (file_read text) refl h
  where
    go : (o : Result AnyNode AnyStop) → file_read text ≡ o → placed_answer text o ≡ Err fault → IsConfigFault text fault
    go (Ok n) e f = absurd cc
    go (Err s) e f = record { left = s; first = stop_found text s e; told = f }

pub fault_only : (text : List ℕ) (fault : AnyFault) → IsConfigFault text fault → any_of text ≡ Err fault
fault_only text fault found = ap (placed_answer text) (stop_read text found.left found.first) ∙ found.told
