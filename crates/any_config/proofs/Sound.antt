-- What is read is of the grammar.
use Rattle.std.proofs.Common.{◌≡◌, ◌≤◌, ℕ, zero, suc, Bool, true, false, cond, ◌==◌, List, [], ◌∷◌, ◌++◌, drop, length, Result, Ok, Err, refl, ap, sym, ◌∙◌, arith, append_assoc, subst}
use Rattle.std.proofs.lemmas.List.{append-nil}
use Rattle.sp_base.specs.Outcomes.{◌>>=◌}
use Rattle.sp_base.specs.Bytes.{begins_with_byte}
use Rattle.sp_base.proofs.ListLemmas.{nil_from_test}
use Rattle.any_config.specs.declared.node.AnyNode.{AnyNode}
use Rattle.any_config.specs.declared.node.AnyNode.TheVariants as node
use Rattle.any_config.specs.declared.stop.AnyStop.{AnyStop}
use Rattle.any_config.specs.declared.stop.AnyStop.TheVariants as stop
use Rattle.any_config.specs.declared.any_fault.AnyFault.{AnyFault}
use Rattle.any_config.specs.Tokens.{comments_skipped, member_name, ungrouped_value}
use Rattle.any_config.specs.Read.{Members, ends_members, value, member, more_members, members, braced_group, group, file_read, placed_answer, any_of}
use Rattle.any_config.specs.Grammar.{IsValue, AreMembers, IsFile}
use Rattle.any_config.proofs.Progress.{bind_ok, done, ok_is, skip_less, member_less, group_takes}

-- the groups that are read at a depth are values of the grammar
abbrev pub AllValues : ℕ → Type 0
AllValues depth = (t : List ℕ) (x : AnyNode × List ℕ) → begins_with_byte 123 t ≡ true → group depth t ≡ Ok x → IsValue depth t x.0 x.1

pub value_sound : (depth : ℕ) → AllValues depth → (at : ℕ) (t : List ℕ) (x : AnyNode × List ℕ) → value (group depth) at t ≡ Ok x → IsValue depth t x.0 x.1
unfolding value
value_sound depth all at t x h = go (begins_with_byte 123 t) refl h
  where
    go : (b : Bool) → begins_with_byte 123 t ≡ b → cond b (group depth t) (ungrouped_value at t) ≡ Ok x → IsValue depth t x.0 x.1
    go true e f = all t x e f
    go false e f = IsValue.single at e f

member_sound : (depth : ℕ) → AllValues depth → (t : List ℕ) (m : (List ℕ × AnyNode) × List ℕ) (ms : Members) (r : List ℕ) → ends_members t ≡ false → member (group depth) t ≡ Ok m → AreMembers depth (comments_skipped m.1) ms r
    → AreMembers depth t (m.0 ∷ ms) r
unfolding member
member_sound depth all t m ms r e h later =
    let a = bind_ok (member_name t) (λ n. value (group depth) (length t) n.1 >>= λ v. Ok ((n.0, v.0), v.1)) m h in
    let b = bind_ok (value (group depth) (length t) a.0.1) (λ v. Ok ((a.0.0, v.0), v.1)) m a.2 in
    let same = ok_is _ m b.2 in
    let first = ap (λ (z : (List ℕ × AnyNode) × List ℕ). z.0) same in
    let rest = ap (λ (z : (List ℕ × AnyNode) × List ℕ). z.1) same in
    AreMembers.more a.0 b.0.0 b.0.1 e a.1 (value_sound depth all (length t) a.0.1 b.0 b.1) (sym first) (subst (λ (l : List ℕ). AreMembers depth (comments_skipped l) ms r) (sym rest) later)

ended_empty : (t : List ℕ) → length t ≤ 0 → ends_members t ≡ true
unfolding ends_members
ended_empty [] le = refl
ended_empty (c ∷ t) le = absurd (omega arith)

pub members_sound : (depth : ℕ) → AllValues depth → (k : ℕ) (found : Members) (t : List ℕ) (y : Members × List ℕ) → length t ≤ k → more_members (group depth) k found t ≡ Ok y
    → (ms : Members) × (y.0 ≡ found ++ ms) × AreMembers depth t ms y.1
unfolding more_members
members_sound depth all zero found t y le h =
    let same = ok_is _ y h in
    ([], sym (ap (λ (z : Members × List ℕ). z.0) same) ∙ sym (append-nil found), subst (λ (r : List ℕ). AreMembers depth t [] r) (ap (λ (z : Members × List ℕ). z.1) same) (AreMembers.none (ended_empty t le)))
members_sound depth all (suc k) found t y le h = go (ends_members t) refl (λ f s l. members_sound depth all k f s y l) h
  where
    go : (b : Bool) → ends_members t ≡ b → ((f : Members) (s : List ℕ) → length s ≤ k → more_members (group depth) k f s ≡ Ok y → (ms : Members) × (y.0 ≡ f ++ ms) × AreMembers depth s ms y.1)
        → cond b (Ok (found, t)) (member (group depth) t >>= λ m. more_members (group depth) k (found ++ m.0 ∷ []) (comments_skipped m.1)) ≡ Ok y → (ms : Members) × (y.0 ≡ found ++ ms) × AreMembers depth t ms y.1
    go true e ih f =
        let same = ok_is _ y f in
        ([], sym (ap (λ (z : Members × List ℕ). z.0) same) ∙ sym (append-nil found), subst (λ (r : List ℕ). AreMembers depth t [] r) (ap (λ (z : Members × List ℕ). z.1) same) (AreMembers.none e))
    go false e ih f =
        let a = bind_ok (member (group depth) t) (λ m. more_members (group depth) k (found ++ m.0 ∷ []) (comments_skipped m.1)) y f in
        let less : length (comments_skipped a.0.1) ≤ k = omega (arith, skip_less a.0.1, member_less (group depth) (group_takes depth) t a.0 a.1) in
        let rest = ih (found ++ a.0.0 ∷ []) (comments_skipped a.0.1) less a.2 in
        (a.0.0 ∷ rest.0, rest.1 ∙ append_assoc found (a.0.0 ∷ []) rest.0, member_sound depth all t a.0 rest.0 y.1 e a.1 rest.2)

opened_sound : (depth : ℕ) → AllValues depth → (t : List ℕ) (x : AnyNode × List ℕ) → begins_with_byte 123 t ≡ true → braced_group (group depth) t ≡ Ok x → IsValue (suc depth) t x.0 x.1
unfolding braced_group members
opened_sound depth all t x at h =
    let a = bind_ok (more_members (group depth) (length (comments_skipped (drop 1 t))) [] (comments_skipped (drop 1 t))) _ x h in
    let ms = members_sound depth all (length (comments_skipped (drop 1 t))) [] (comments_skipped (drop 1 t)) a.0 (omega arith) a.1 in
    go a.0 (begins_with_byte 125 a.0.1) refl ms.0 ms.1 ms.2 a.2
  where
    go : (y : Members × List ℕ) (b : Bool) → begins_with_byte 125 y.1 ≡ b → (ms : Members) → y.0 ≡ ms → AreMembers depth (comments_skipped (drop 1 t)) ms y.1
        → cond b (Ok (node.Group y.0, drop 1 y.1)) (Err (stop.Unclosed (length t))) ≡ Ok x → IsValue (suc depth) t x.0 x.1
    go y true e ms all_of inside f =
        let same = ok_is _ x f in
        IsValue.braces ms y.1 at inside e (sym (ap (λ (z : AnyNode × List ℕ). z.0) same) ∙ ap node.Group all_of) (sym (ap (λ (z : AnyNode × List ℕ). z.1) same))
    go y false e ms all_of inside f = absurd cc

pub group_sound : (depth : ℕ) → AllValues depth
unfolding group
group_sound zero t x at h = absurd cc
group_sound (suc d) t x at h = opened_sound d (group_sound d) t x at h

read_sound : (text : List ℕ) (top : AnyNode) → file_read text ≡ Ok top → IsFile text top
unfolding file_read members
read_sound text top h =
    let a = bind_ok (more_members (group 32) (length (comments_skipped text)) [] (comments_skipped text)) _ top h in
    let ms = members_sound 32 (group_sound 32) (length (comments_skipped text)) [] (comments_skipped text) a.0 (omega arith) a.1 in
    go a.0 (length a.0.1 == 0) refl ms.0 ms.1 ms.2 a.2
  where
    go : (y : Members × List ℕ) (b : Bool) → (length y.1 == 0) ≡ b → (ms : Members) → y.0 ≡ ms → AreMembers 32 (comments_skipped text) ms y.1 → cond b (Ok (node.Group y.0)) (Err (stop.BadName (length y.1))) ≡ Ok top → IsFile text top
    go y true e ms all_of spelled f = record {
      members = ms;
      group = sym (ok_is _ top f) ∙ ap node.Group all_of;
      spelled = subst (λ (r : List ℕ). AreMembers 32 (comments_skipped text) ms r) (nil_from_test y.1 e) spelled;
    }
    go y false e ms all_of spelled f = absurd cc

abbrev placed_ok : AnyNode → Result AnyNode AnyFault
placed_ok n = Ok n

same_ok : (n top : AnyNode) → placed_ok n ≡ placed_ok top → done n ≡ done top
same_ok n top e = let same : n ≡ top = cc in ap done same

pub any_sound : (text : List ℕ) (top : AnyNode) → any_of text ≡ Ok top → IsFile text top
any_sound text top h = go (file_read text) refl h
  where
    go : (o : Result AnyNode AnyStop) → file_read text ≡ o → placed_answer text o ≡ Ok top → IsFile text top
    go (Ok n) e f = read_sound text top (e ∙ same_ok n top f)
    go (Err stop.NoMemory) e f = absurd cc
    go (Err (stop.BadName k)) e f = absurd cc
    go (Err (stop.BadQuote k)) e f = absurd cc
    go (Err (stop.TooDeep k)) e f = absurd cc
    go (Err (stop.Unclosed k)) e f = absurd cc
