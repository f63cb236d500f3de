-- What a reading says: a pattern, or where the text stops being the beginning of one.
use Rattle.std.proofs.Common.{◌≡◌, inl, inr, ℕ, Bool, true, false, cond, ◌==◌, ◌+◌, List, [], ◌∷◌, ◌++◌, length, Option, Some, None, Ok, Err, Result, refl, ap, sym, ◌∙◌, subst, append_assoc, arith}
use Rattle.std.specs.Prelude.{encode_utf8, encode_utf8_all, nat_le, nat_lt}
use Rattle.std.proofs.lemmas.Bool.{eqb-true}
use Rattle.std.proofs.lemmas.Bool.Decides.{nat_tests}
use Rattle.std.proofs.lemmas.List.{append-nil, length-append}
use Rattle.sp_base.proofs.TextLemmas.{encode_append}
use Rattle.regex_rules.specs.declared.character.CharRange.{CharRange}
use Rattle.regex_rules.specs.declared.repeat.Repeat.TheVariants.{Optional, Any, AtLeastOnce}
use Rattle.regex_rules.specs.declared.place.PatternPlace.{PatternPlace}
use Rattle.regex_rules.specs.declared.place.PatternPlace.TheVariants.{Open}
use Rattle.regex_rules.specs.declared.mode.Mode.{Mode}
use Rattle.regex_rules.specs.declared.mode.Mode.TheVariants as mode
use Rattle.regex_rules.specs.declared.reader.Reader.{Reader}
use Rattle.regex_rules.specs.declared.fault.PatternFault.{PatternFault}
use Rattle.regex_rules.specs.declared.fault.PatternFault.TheVariants.{BadPattern, TooDeep}
use Rattle.regex_rules.specs.Trees.{PatternTree, places_of}
use Rattle.regex_rules.specs.Spelling.{Bounds, range, is_special, is_meant, is_reserved, IsMember, IsAnchor, IsWholePattern, IsPattern, strict, unlimited, no_bounds}
use Rattle.regex_rules.specs.Faults.{BeginsPattern, GoesOnTo, GoesNowhere, offset_behind, IsFault, IsUnended}
use Rattle.regex_rules.specs.Reading.{ReadingStep, with_repeat, in_mode, reader_in_class, at_places, row_repeated, opened, special, in_a_row, class_first, class_next, class_goes_on, spanned, class_hyphen, class_last_escaped, step, step_in, may_end, finished, then_read, read_from, unread}
use Rattle.regex_rules.proofs.StandLemmas.{HoldsRow, row_goes_on, goes_on_before, row_whole}
use Rattle.regex_rules.proofs.SoundLemmas.{HoldsSome, HoldsMember, HoldsIn, Holds, Sound, begin_row, escape_sound, first_sound, begun_sound, member_sound, spanned_sound, hyphen_held, last_held, class_escape_sound, last_escape_sound, step_sound}
use Rattle.regex_rules.proofs.LeadLemmas.{whole_read}

-- ---- what is held goes on

member_goes_on : (bounds : Bounds) (cs : List ℕ) (r : Reader) (c place : ℕ) → HoldsMember bounds cs r c place [] → BeginsPattern bounds cs
member_goes_on bounds cs r c place h = goes_on_before bounds cs (93 ∷ []) (row_goes_on bounds (cs ++ 93 ∷ []) _ _ (member_sound bounds cs 93 (offset_behind cs) c place r refl h))

hyphen_goes_on : (bounds : Bounds) (cs : List ℕ) (r : Reader) (c place : ℕ) → HoldsMember bounds cs r c place (45 ∷ []) → BeginsPattern bounds cs
hyphen_goes_on bounds cs r c place h = goes_on_before bounds cs (93 ∷ []) (row_goes_on bounds (cs ++ 93 ∷ []) _ _ (hyphen_held bounds cs r c place h))

some_goes_on : (bounds : Bounds) (cs : List ℕ) (r : Reader) → HoldsSome bounds cs r.places r.depth r.negated r.ranges → BeginsPattern bounds cs
some_goes_on bounds cs r h = goes_on_before bounds cs (93 ∷ []) (row_goes_on bounds (cs ++ 93 ∷ []) _ _ (spanned_sound bounds cs 93 (offset_behind cs) r refl h))

-- without the `\` at its end
before_escape : (cs : List ℕ) (r : Reader) (c place : ℕ) (h : HoldsMember strict cs r c place (45 ∷ 92 ∷ [])) → BeginsPattern strict (h.before ++ (h.own ++ 45 ∷ []))
before_escape cs r c place h = hyphen_goes_on strict (h.before ++ (h.own ++ 45 ∷ [])) r c place (record { before = h.before; own = h.own; class = h.class; member = h.member; here = h.here; parts = refl })

held_goes_on : (m : Mode) (cs : List ℕ) (r : Reader) → HoldsIn strict m cs r → HoldsIn no_bounds m cs r → GoesOnTo cs
held_goes_on mode.Begin cs r (none, places, depth) f = inl (row_goes_on strict cs r.places r.depth (begin_row strict cs r.places r.depth none places depth))
held_goes_on mode.Row cs r row f = inl (row_goes_on strict cs r.places r.depth row)
held_goes_on mode.Escape cs r (before, row, e) f = inl (goes_on_before strict cs (46 ∷ []) (row_goes_on strict (cs ++ 46 ∷ []) _ _ (escape_sound strict cs before 46 0 r row e)))
held_goes_on mode.End cs r (before, row, none, e) f =
    let w = row_whole strict before (36 ∷ []) r.places (subst (λ (n : ℕ). HoldsRow strict before r.places n) none row) IsAnchor.present in
    inl ([], w.0, subst (λ (l : List ℕ). IsWholePattern strict l w.0) (sym e ∙ sym (append-nil cs)) w.1)
held_goes_on mode.ClassBegin cs r (before, row, plain, none, e) f =
    inl (goes_on_before strict cs (97 ∷ []) (member_goes_on strict (cs ++ 97 ∷ []) (in_mode r (mode.Member 97 (offset_behind cs))) 97 (offset_behind cs) (begun_sound strict cs before 97 (offset_behind cs) r refl row plain none e)))
held_goes_on mode.ClassFirst cs r h f =
    inl (goes_on_before strict cs (97 ∷ []) (member_goes_on strict (cs ++ 97 ∷ []) (in_mode r (mode.Member 97 (offset_behind cs))) 97 (offset_behind cs) (first_sound strict cs 97 (offset_behind cs) r refl h)))
held_goes_on (mode.Member c place) cs r h f = inl (member_goes_on strict cs r c place h)
held_goes_on (mode.Hyphen c place) cs r h f = inl (hyphen_goes_on strict cs r c place h)
held_goes_on mode.Spanned cs r h f = inl (some_goes_on strict cs r h)
held_goes_on mode.LastHyphen cs r (before, h, e) f = inl (goes_on_before strict cs (93 ∷ []) (row_goes_on strict (cs ++ 93 ∷ []) _ _ (last_held strict cs before r h e)))
held_goes_on (mode.MemberEscape place) cs r (before, h, p, e) f =
    inl (goes_on_before strict cs (93 ∷ []) (member_goes_on strict (cs ++ 93 ∷ []) (in_mode r (mode.Member 93 place)) 93 place (class_escape_sound strict cs before 93 0 place r h p e)))
held_goes_on (mode.LastEscape c place) cs r h f =
    let s = last_escape_sound no_bounds cs 93 0 c place r f in
    inr (
      h.before ++ (h.own ++ 45 ∷ []),
      h.parts ∙ ap (λ (l : List ℕ). h.before ++ l) (sym (append_assoc h.own (45 ∷ []) (92 ∷ []))) ∙ sym (append_assoc h.before (h.own ++ 45 ∷ []) (92 ∷ [])),
      before_escape cs r c place h,
      goes_on_before no_bounds cs (93 ∷ []) (some_goes_on no_bounds (cs ++ 93 ∷ []) (reader_in_class r r.negated (r.ranges ++ range c 93 ∷ []) mode.Spanned) s),
    )

-- ---- what a step answers within each bounds

-- a range that would be in the wrong order
pub record Misorders (cs : List ℕ) (c place : ℕ) : Type 0 where
  pub before : List ℕ
  pub own : List ℕ
  pub other : List ℕ
  pub first : ℕ
  pub last : ℕ
  pub begins : IsMember own first
  pub ends : IsMember other last
  pub order : nat_le first last ≡ false
  pub goes_on : BeginsPattern strict (before ++ (own ++ (45 ∷ [])))
  pub here : place ≡ offset_behind before
  pub parts : cs ++ c ∷ [] ≡ before ++ (own ++ (45 ∷ other))

-- the answers of a step within strict bounds, within unlimited ones, and free
pub data Agrees (cs : List ℕ) (c at : ℕ) : ReadingStep → ReadingStep → ReadingStep → Type 0 where
  goes : {r : Reader} → Agrees cs c at (Ok r) (Ok r) (Ok r)
  stray : Agrees cs c at (Err (BadPattern at)) (Err (BadPattern at)) (Err (BadPattern at))
  deep : {r : Reader} → c ≡ 40 → r.mode ≡ mode.Row → BeginsPattern strict cs → Agrees cs c at (Err (TooDeep at)) (Ok r) (Ok r)
  misordered : {r : Reader} {place : ℕ} → Misorders cs c place → r.mode ≡ mode.Spanned → Agrees cs c at (Err (BadPattern place)) (Err (BadPattern place)) (Ok r)

cond3 : (Q : ReadingStep → ReadingStep → ReadingStep → Type 0) (b : Bool) (x y x' y' x'' y'' : ReadingStep) → (b ≡ true → Q x x' x'') → (b ≡ false → Q y y' y'') → Q (cond b x y) (cond b x' y') (cond b x'' y'')
cond3 Q true x y x' y' x'' y'' f g = f refl
cond3 Q false x y x' y' x'' y'' f g = g refl

open_agrees : (cs : List ℕ) (c at : ℕ) (r : Reader) → BeginsPattern strict cs → (c == 40) ≡ true → Agrees cs c at (opened strict at r) (opened unlimited at r) (opened no_bounds at r)
open_agrees cs c at r on e = go (strict.may_open r.depth)
  where
    go : (b : Bool) → Agrees cs c at (cond b (Ok (at_places r (r.places ++ Open ∷ []) (r.depth + 1))) (Err (TooDeep at))) (opened unlimited at r) (opened no_bounds at r)
    go true = Agrees.goes
    go false = Agrees.deep (eqb-true c 40 e) refl on

repeat_agrees : (cs : List ℕ) (c at : ℕ) (r : Reader) (o : Option (List PatternPlace)) → Agrees cs c at (row_repeated at r o) (row_repeated at r o) (row_repeated at r o)
repeat_agrees cs c at r None = Agrees.stray
repeat_agrees cs c at r (Some places) = Agrees.goes

special_agrees : (cs : List ℕ) (c at : ℕ) (r : Reader) → BeginsPattern strict cs → Agrees cs c at (special strict at c r) (special unlimited at c r) (special no_bounds at c r)
special_agrees cs c at r on =
    let Q = Agrees cs c at in
    cond3 Q (c == 46) _ _ _ _ _ _ (λ e. Agrees.goes) (λ n46. cond3 Q (c == 40) _ _ _ _ _ _ (λ e. open_agrees cs c at r on e) (λ n40.
    cond3 Q (c == 41) _ _ _ _ _ _ (λ e. cond3 Q (r.depth == 0) _ _ _ _ _ _ (λ z. Agrees.stray) (λ z. Agrees.goes)) (λ n41. cond3 Q (c == 124) _ _ _ _ _ _ (λ e. Agrees.goes) (λ n124.
    cond3 Q (c == 42) _ _ _ _ _ _ (λ e. repeat_agrees cs c at r (with_repeat Any r.places)) (λ n42. cond3 Q (c == 43) _ _ _ _ _ _ (λ e. repeat_agrees cs c at r (with_repeat AtLeastOnce r.places)) (λ n43.
    cond3 Q (c == 63) _ _ _ _ _ _ (λ e. repeat_agrees cs c at r (with_repeat Optional r.places)) (λ n63. cond3 Q (c == 91) _ _ _ _ _ _ (λ e. Agrees.goes) (λ n91.
    cond3 Q (c == 92) _ _ _ _ _ _ (λ e. Agrees.goes) (λ n92. cond3 Q (c == 36) _ _ _ _ _ _ (λ e. cond3 Q (r.depth == 0) _ _ _ _ _ _ (λ z. Agrees.goes) (λ z. Agrees.stray)) (λ n36. Agrees.stray))))))))))

row_agrees : (cs : List ℕ) (c at : ℕ) (r : Reader) → BeginsPattern strict cs → Agrees cs c at (in_a_row strict at c r) (in_a_row unlimited at c r) (in_a_row no_bounds at c r)
row_agrees cs c at r on = cond3 (Agrees cs c at) (is_special c) _ _ _ _ _ _ (λ s. special_agrees cs c at r on) (λ plain. Agrees.goes)

first_agrees : (cs : List ℕ) (c at : ℕ) (r : Reader) → Agrees cs c at (class_first at c r) (class_first at c r) (class_first at c r)
first_agrees cs c at r =
    let Q = Agrees cs c at in
    cond3 Q (is_reserved c) _ _ _ _ _ _ (λ s. cond3 Q (c == 92) _ _ _ _ _ _ (λ e. Agrees.goes) (λ n. Agrees.stray)) (λ plain. Agrees.goes)

next_agrees : (cs : List ℕ) (c at : ℕ) (r hyphen : Reader) (ranges : List CharRange) → Agrees cs c at (class_next at c r ranges (Ok hyphen)) (class_next at c r ranges (Ok hyphen)) (class_next at c r ranges (Ok hyphen))
next_agrees cs c at r hyphen ranges =
    let Q = Agrees cs c at in
    cond3 Q (is_reserved c) _ _ _ _ _ _
    (λ s. cond3 Q (c == 45) _ _ _ _ _ _ (λ e. Agrees.goes) (λ n45. cond3 Q (c == 93) _ _ _ _ _ _ (λ e. Agrees.goes) (λ n93. cond3 Q (c == 92) _ _ _ _ _ _ (λ e. Agrees.goes) (λ n92. Agrees.stray))))
    (λ plain. Agrees.goes)

span_agrees : (cs : List ℕ) (c at first place last : ℕ) (r : Reader) → (nat_le first last ≡ false → Misorders cs c place)
    → Agrees cs c at (spanned strict first place last r) (spanned unlimited first place last r) (spanned no_bounds first place last r)
span_agrees cs c at first place last r f = go (nat_le first last) refl
  where
    go : (b : Bool) → nat_le first last ≡ b
        → Agrees cs c at (cond b (class_goes_on r (r.ranges ++ range first last ∷ []) mode.Spanned) (Err (BadPattern place))) (cond b (class_goes_on r (r.ranges ++ range first last ∷ []) mode.Spanned) (Err (BadPattern place))) (spanned no_bounds first place last r)
    go true e = Agrees.goes
    go false e = Agrees.misordered (f e) refl

hyphen_part : (before own more : List ℕ) (c : ℕ) (cs : List ℕ) → cs ≡ before ++ (own ++ more) → cs ++ c ∷ [] ≡ before ++ (own ++ (more ++ c ∷ []))
hyphen_part before own more c cs e = ap (λ (l : List ℕ). l ++ c ∷ []) e ∙ append_assoc before (own ++ more) (c ∷ []) ∙ ap (λ (l : List ℕ). before ++ l) (append_assoc own more (c ∷ []))

hyphen_agrees : (cs : List ℕ) (c at first place : ℕ) (r : Reader) → HoldsMember strict cs r first place (45 ∷ [])
    → Agrees cs c at (class_hyphen strict at c first place r) (class_hyphen unlimited at c first place r) (class_hyphen no_bounds at c first place r)
hyphen_agrees cs c at first place r h =
    let Q = Agrees cs c at in
    cond3 Q (is_reserved c) _ _ _ _ _ _ (λ s. cond3 Q (c == 93) _ _ _ _ _ _ (λ e. Agrees.goes) (λ n93. cond3 Q (c == 92) _ _ _ _ _ _ (λ e. Agrees.goes) (λ n92. Agrees.stray))) (λ plain.
    span_agrees cs c at first place c r (λ order. record {
      before = h.before;
      own = h.own;
      other = c ∷ [];
      first = first;
      last = c;
      begins = h.member;
      ends = IsMember.itself plain;
      order = order;
      goes_on = subst (BeginsPattern strict) h.parts (hyphen_goes_on strict cs r first place h);
      here = h.here;
      parts = hyphen_part h.before h.own (45 ∷ []) c cs h.parts;
    }))

last_agrees : (cs : List ℕ) (c at first place : ℕ) (r : Reader) → HoldsMember strict cs r first place (45 ∷ 92 ∷ [])
    → Agrees cs c at (class_last_escaped strict at c first place r) (class_last_escaped unlimited at c first place r) (class_last_escaped no_bounds at c first place r)
last_agrees cs c at first place r h =
    let Q = Agrees cs c at in
    cond3 Q (is_reserved c) _ _ _ _ _ _ (λ s.
    span_agrees cs c at first place c r (λ order. record {
      before = h.before;
      own = h.own;
      other = 92 ∷ c ∷ [];
      first = first;
      last = c;
      begins = h.member;
      ends = IsMember.meant s;
      order = order;
      goes_on = before_escape cs r first place h;
      here = h.here;
      parts = hyphen_part h.before h.own (45 ∷ 92 ∷ []) c cs h.parts;
    })) (λ n. Agrees.stray)

step_agrees : (m : Mode) (cs : List ℕ) (c at : ℕ) (r : Reader) → HoldsIn strict m cs r → Agrees cs c at (step_in strict m at c r) (step_in unlimited m at c r) (step_in no_bounds m at c r)
step_agrees mode.Begin cs c at r (none, places, depth) =
    cond3 (Agrees cs c at) (c == 94) _ _ _ _ _ _ (λ e. Agrees.goes) (λ n. row_agrees cs c at r (row_goes_on strict cs r.places r.depth (begin_row strict cs r.places r.depth none places depth)))
step_agrees mode.Row cs c at r h = row_agrees cs c at r (row_goes_on strict cs r.places r.depth h)
step_agrees mode.Escape cs c at r h = cond3 (Agrees cs c at) (is_meant c) _ _ _ _ _ _ (λ e. Agrees.goes) (λ n. Agrees.stray)
step_agrees mode.End cs c at r h = Agrees.stray
step_agrees mode.ClassBegin cs c at r h = cond3 (Agrees cs c at) (c == 94) _ _ _ _ _ _ (λ e. Agrees.goes) (λ n. first_agrees cs c at r)
step_agrees mode.ClassFirst cs c at r h = first_agrees cs c at r
step_agrees (mode.Member first place) cs c at r h = next_agrees cs c at r _ _
step_agrees (mode.Hyphen first place) cs c at r h = hyphen_agrees cs c at first place r h
step_agrees mode.Spanned cs c at r h = next_agrees cs c at r _ _
step_agrees mode.LastHyphen cs c at r h = cond3 (Agrees cs c at) (c == 93) _ _ _ _ _ _ (λ e. Agrees.goes) (λ n. Agrees.stray)
step_agrees (mode.MemberEscape place) cs c at r h = cond3 (Agrees cs c at) (is_reserved c) _ _ _ _ _ _ (λ e. Agrees.goes) (λ n. Agrees.stray)
step_agrees (mode.LastEscape first place) cs c at r h = last_agrees cs c at first place r h

-- ---- readings

-- what is known of a reading between two characters
record Told (cs : List ℕ) (at : ℕ) (r : Reader) : Type 0 where
  pub here : at ≡ offset_behind cs
  pub holds : Holds strict cs r
  pub holds_unlimited : Holds unlimited cs r
  pub holds_free : Holds no_bounds cs r
  pub reads : (rest : List ℕ) → read_from strict 0 unread (cs ++ rest) ≡ read_from strict at r rest
  pub reads_unlimited : (rest : List ℕ) → read_from unlimited 0 unread (cs ++ rest) ≡ read_from unlimited at r rest
  pub reads_free : (rest : List ℕ) → read_from no_bounds 0 unread (cs ++ rest) ≡ read_from no_bounds at r rest

-- what an answer says of a text
abbrev pub Says : List ℕ → Result (List PatternPlace) PatternFault → Type 0
Says text (Ok places) = (tree : PatternTree) × IsPattern text tree × (places ≡ places_of tree)
Says text (Err fault) = IsFault fault text

place_next : (cs : List ℕ) (c : ℕ) → offset_behind (cs ++ c ∷ []) ≡ offset_behind cs + length (encode_utf8 c)
place_next cs c =
    ap length (encode_append cs (c ∷ [])) ∙ length-append (encode_utf8_all cs) (encode_utf8 c ++ []) ∙ ap (λ (l : List ℕ). offset_behind cs + length l) (append-nil (encode_utf8 c))

pub one_read_from : (bounds : Bounds) (at : ℕ) (r : Reader) (c : ℕ) (rest : List ℕ) (s : ReadingStep) → step bounds at c r ≡ s
    → read_from bounds at r (c ∷ rest) ≡ then_read (λ next. read_from bounds (at + length (encode_utf8 c)) next rest) s
unfolding read_from
one_read_from bounds at r c rest s e = ap (then_read (λ next. read_from bounds (at + length (encode_utf8 c)) next rest)) e

pub end_read_from : (bounds : Bounds) (at : ℕ) (r : Reader) → read_from bounds at r [] ≡ finished at r
unfolding read_from
end_read_from bounds at r = refl

reads_on : (bounds : Bounds) (cs : List ℕ) (c at : ℕ) (r next : Reader) → ((rest : List ℕ) → read_from bounds 0 unread (cs ++ rest) ≡ read_from bounds at r rest) → step bounds at c r ≡ Ok next
    → (rest : List ℕ) → read_from bounds 0 unread (cs ++ c ∷ [] ++ rest) ≡ read_from bounds (at + length (encode_utf8 c)) next rest
reads_on bounds cs c at r next reads e rest = ap (read_from bounds 0 unread) (append_assoc cs (c ∷ []) rest) ∙ reads (c ∷ rest) ∙ one_read_from bounds at r c rest (Ok next) e

held_next : (bounds : Bounds) (cs : List ℕ) (c at : ℕ) (r next : Reader) → at ≡ offset_behind cs → Holds bounds cs r → step bounds at c r ≡ Ok next → Holds bounds (cs ++ c ∷ []) next
held_next bounds cs c at r next here h e = subst (Sound bounds cs c) e (step_sound bounds r.mode cs c at r here h)

told_next : (cs : List ℕ) (c at : ℕ) (r next : Reader) → Told cs at r → step strict at c r ≡ Ok next → step unlimited at c r ≡ Ok next → step no_bounds at c r ≡ Ok next
    → Told (cs ++ c ∷ []) (at + length (encode_utf8 c)) next
told_next cs c at r next t s u f = record {
  here = ap (λ (n : ℕ). n + length (encode_utf8 c)) t.here ∙ sym (place_next cs c);
  holds = held_next strict cs c at r next t.here t.holds s;
  holds_unlimited = held_next unlimited cs c at r next t.here t.holds_unlimited u;
  holds_free = held_next no_bounds cs c at r next t.here t.holds_free f;
  reads = reads_on strict cs c at r next t.reads s;
  reads_unlimited = reads_on unlimited cs c at r next t.reads_unlimited u;
  reads_free = reads_on no_bounds cs c at r next t.reads_free f;
}

told_first : Told [] 0 unread
told_first = record { here = refl; holds = (refl, refl, refl); holds_unlimited = (refl, refl, refl); holds_free = (refl, refl, refl); reads = λ rest. refl; reads_unlimited = λ rest. refl; reads_free = λ rest. refl }

-- nothing goes on where a step is refused
nowhere : (bounds : Bounds) (cs : List ℕ) (c at : ℕ) (r : Reader) (fault : PatternFault) → ((rest : List ℕ) → read_from bounds 0 unread (cs ++ rest) ≡ read_from bounds at r rest) → step bounds at c r ≡ Err fault
    → GoesNowhere bounds (cs ++ c ∷ [])
nowhere bounds cs c at r fault reads e more tree whole =
    let answer : Result (List PatternPlace) PatternFault = Err fault in
    let refused : read_from bounds 0 unread (cs ++ c ∷ [] ++ more) ≡ answer = ap (read_from bounds 0 unread) (append_assoc cs (c ∷ []) more) ∙ reads (c ∷ more) ∙ one_read_from bounds at r c more (Err fault) e in
    fault_or (places_of tree) fault (sym (whole_read bounds (cs ++ c ∷ [] ++ more) tree whole) ∙ refused)
  where
    fault_or : (places : List PatternPlace) (f : PatternFault) → Ok places ≡ Err f → ⊥
    fault_or places f h = absurd cc

ok_not_err : {A : Type 0} (places : List PatternPlace) (f : PatternFault) → Ok places ≡ Err f → A
ok_not_err places f h = absurd cc

-- the end of the text
unended : (cs : List ℕ) (at : ℕ) (r : Reader) → Told cs at r → finished at r ≡ Err (BadPattern at) → IsUnended at cs
unended cs at r t e = record {
  goes_on = held_goes_on r.mode cs r t.holds t.holds_free;
  none = λ tree whole. ok_not_err (places_of tree) (BadPattern at)
      (sym (whole_read no_bounds cs tree whole) ∙ ap (read_from no_bounds 0 unread) (sym (append-nil cs)) ∙ t.reads_free [] ∙ end_read_from no_bounds at r ∙ e);
  here = t.here;
}

-- a text that may end there, with the places of a pattern
abbrev Ends : List ℕ → List PatternPlace → Type 0
Ends cs places = (tree : PatternTree) × IsPattern cs tree × (places ≡ places_of tree)

ends_in : (m : Mode) (cs : List ℕ) (r : Reader) → may_end m ≡ true → r.depth ≡ 0 → HoldsIn strict m cs r → Ends cs r.places
ends_in mode.Begin cs r may none (e, places, depth) = ends_row cs r.places (subst (λ (n : ℕ). HoldsRow strict cs r.places n) none (begin_row strict cs r.places r.depth e places depth))
  where
    ends_row : (ds : List ℕ) (places : List PatternPlace) → HoldsRow strict ds places 0 → Ends ds places
    ends_row ds places h = let w = row_whole strict ds [] places h IsAnchor.absent in (w.0, subst (λ (l : List ℕ). IsWholePattern strict l w.0) (append-nil ds) w.1, w.2)
ends_in mode.Row cs r may none h =
    let w = row_whole strict cs [] r.places (subst (λ (n : ℕ). HoldsRow strict cs r.places n) none h) IsAnchor.absent in
    (w.0, subst (λ (l : List ℕ). IsWholePattern strict l w.0) (append-nil cs) w.1, w.2)
ends_in mode.End cs r may none (before, row, z, e) =
    let w = row_whole strict before (36 ∷ []) r.places (subst (λ (n : ℕ). HoldsRow strict before r.places n) none row) IsAnchor.present in
    (w.0, subst (λ (l : List ℕ). IsWholePattern strict l w.0) (sym e) w.1, w.2)
ends_in mode.Escape cs r may none h = absurd cc
ends_in mode.ClassBegin cs r may none h = absurd cc
ends_in mode.ClassFirst cs r may none h = absurd cc
ends_in (mode.Member c place) cs r may none h = absurd cc
ends_in (mode.Hyphen c place) cs r may none h = absurd cc
ends_in mode.Spanned cs r may none h = absurd cc
ends_in mode.LastHyphen cs r may none h = absurd cc
ends_in (mode.MemberEscape place) cs r may none h = absurd cc
ends_in (mode.LastEscape c place) cs r may none h = absurd cc

told_end : (cs : List ℕ) (at : ℕ) (r : Reader) → Told cs at r → Says cs (finished at r)
told_end cs at r t = go (may_end r.mode) refl (r.depth == 0) refl
  where
    go : (b : Bool) → may_end r.mode ≡ b → (z : Bool) → (r.depth == 0) ≡ z → Says cs (finished at r)
    go true may true none = rw (may, none) (ends_in r.mode cs r may (eqb-true r.depth 0 none) t.holds)
    go true may false some = rw (may, some) (inl (unended cs at r t (rw (may, some) refl)))
    go false may z is = rw may (inl (unended cs at r t (rw may refl)))

stray_told : (cs after : List ℕ) (c at : ℕ) (r : Reader) → Told cs at r → step no_bounds at c r ≡ Err (BadPattern at) → IsFault (BadPattern at) (cs ++ c ∷ after)
stray_told cs after c at r t f = inr (inl (record {
  before = cs;
  c = c;
  after = after;
  parts = refl;
  goes_on = held_goes_on r.mode cs r t.holds t.holds_free;
  none = nowhere no_bounds cs c at r (BadPattern at) t.reads_free f;
  here = t.here;
}))

deep_told : (cs after : List ℕ) (c at : ℕ) (r next : Reader) → Told cs at r → c ≡ 40 → next.mode ≡ mode.Row → BeginsPattern strict cs → step strict at c r ≡ Err (TooDeep at) → step unlimited at c r ≡ Ok next
    → IsFault (TooDeep at) (cs ++ c ∷ after)
deep_told cs after c at r next t e row on s u =
    let same : cs ++ c ∷ [] ≡ cs ++ 40 ∷ [] = ap (λ (d : ℕ). cs ++ d ∷ []) e in
    let held : HoldsRow unlimited (cs ++ c ∷ []) next.places next.depth = subst (λ (m : Mode). HoldsIn unlimited m (cs ++ c ∷ []) next) row (held_next unlimited cs c at r next t.here t.holds_unlimited u) in
    record {
      before = cs;
      after = after;
      parts = ap (λ (d : ℕ). cs ++ d ∷ after) e;
      goes_on = on;
      loose = subst (BeginsPattern unlimited) same (row_goes_on unlimited (cs ++ c ∷ []) next.places next.depth held);
      none = subst (GoesNowhere strict) same (nowhere strict cs c at r (TooDeep at) t.reads s);
      here = t.here;
    }

above : (first last : ℕ) → nat_le first last ≡ false → nat_lt last first ≡ true
above first last h = grind (arith, nat_tests)

misordered_told : (cs after : List ℕ) (c at place : ℕ) (r next : Reader) → Told cs at r → Misorders cs c place → next.mode ≡ mode.Spanned → step strict at c r ≡ Err (BadPattern place) → step no_bounds at c r ≡ Ok next
    → IsFault (BadPattern place) (cs ++ c ∷ after)
misordered_told cs after c at place r next t m past s f =
    let held : HoldsSome no_bounds (cs ++ c ∷ []) next.places next.depth next.negated next.ranges = subst (λ (k : Mode). HoldsIn no_bounds k (cs ++ c ∷ []) next) past (held_next no_bounds cs c at r next t.here t.holds_free f) in
    inr (inr (record {
      before = m.before;
      member = m.own;
      other = m.other;
      after = after;
      c = m.first;
      d = m.last;
      parts = sym (append_assoc cs (c ∷ []) after) ∙ ap (λ (l : List ℕ). l ++ after) m.parts ∙ append_assoc m.before (m.own ++ (45 ∷ m.other)) after
          ∙ ap (λ (l : List ℕ). m.before ++ l) (append_assoc m.own (45 ∷ m.other) after);
      first = m.begins;
      last = m.ends;
      order = above m.first m.last m.order;
      goes_on = m.goes_on;
      loose = subst (BeginsPattern no_bounds) m.parts (some_goes_on no_bounds (cs ++ c ∷ []) next held);
      none = subst (GoesNowhere strict) m.parts (nowhere strict cs c at r (BadPattern place) t.reads s);
      here = m.here;
    }))

told : (rest cs : List ℕ) (at : ℕ) (r : Reader) → Told cs at r → Says (cs ++ rest) (read_from strict at r rest)
told [] cs at r t = subst (λ (l : List ℕ). Says l (read_from strict at r [])) (sym (append-nil cs)) (subst (Says cs) (sym (end_read_from strict at r)) (told_end cs at r t))
told (c ∷ rest) cs at r t =
    subst (Says (cs ++ c ∷ rest)) (sym (one_read_from strict at r c rest (step strict at c r) refl)) (go (told rest) (step strict at c r) (step unlimited at c r) (step no_bounds at c r) refl refl refl (step_agrees r.mode cs c at r t.holds))
  where
    go : ((ds : List ℕ) (n : ℕ) (k : Reader) → Told ds n k → Says (ds ++ rest) (read_from strict n k rest)) → (s u f : ReadingStep) → step strict at c r ≡ s → step unlimited at c r ≡ u → step no_bounds at c r ≡ f
        → Agrees cs c at s u f → Says (cs ++ c ∷ rest) (then_read (λ next. read_from strict (at + length (encode_utf8 c)) next rest) s)
    go ih _ _ _ s u f (Agrees.goes {r = next}) =
        subst (λ (l : List ℕ). Says l (read_from strict (at + length (encode_utf8 c)) next rest)) (append_assoc cs (c ∷ []) rest) (ih (cs ++ c ∷ []) (at + length (encode_utf8 c)) next (told_next cs c at r next t s u f))
    go ih _ _ _ s u f Agrees.stray = stray_told cs rest c at r t f
    go ih _ _ _ s u f (Agrees.deep {r = next} e row on) = deep_told cs rest c at r next t e row on s u
    go ih _ _ _ s u f (Agrees.misordered {r = next} {place} m past) = misordered_told cs rest c at place r next t m past s f

-- What is read is a pattern, or the fault of the text.
pub read_says : (cs : List ℕ) (answer : Result (List PatternPlace) PatternFault) → read_from strict 0 unread cs ≡ answer → Says cs answer
read_says cs answer e = subst (Says cs) e (told cs [] 0 unread told_first)
