-- What a reader holds of the characters that it has taken.
use Rattle.std.proofs.Common.{◌≡◌, ℕ, suc, Bool, true, false, cond, ◌==◌, ◌+◌, ◌-◌, List, [], ◌∷◌, ◌++◌, Option, Some, None, Ok, Err, refl, ap, sym, ◌∙◌, subst, append_assoc, arith}
use Rattle.std.proofs.lemmas.Bool.{eqb-true}
use Rattle.std.proofs.lemmas.Bool.Decides.{nat_tests}
use Rattle.std.proofs.lemmas.List.{append-nil}
use Rattle.regex_rules.specs.declared.character.CharRange.{CharRange}
use Rattle.regex_rules.specs.declared.character.CharClass.{CharClass}
use Rattle.regex_rules.specs.declared.character.OneChar.TheVariants.{AnyButNewline, Literal, Class}
use Rattle.regex_rules.specs.declared.repeat.Repeat.{Repeat}
use Rattle.regex_rules.specs.declared.repeat.Repeat.TheVariants.{Once, Optional, Any, AtLeastOnce}
use Rattle.regex_rules.specs.declared.place.PatternPlace.{PatternPlace}
use Rattle.regex_rules.specs.declared.place.PatternPlace.TheVariants.{One, Open, Bar, Close}
use Rattle.regex_rules.specs.declared.mode.Mode.{Mode}
use Rattle.regex_rules.specs.declared.mode.Mode.TheVariants as mode
use Rattle.regex_rules.specs.declared.reader.Reader.{Reader}
use Rattle.regex_rules.specs.declared.fault.PatternFault.TheVariants.{BadPattern, TooDeep}
use Rattle.regex_rules.specs.Spelling.{Bounds, range, is_special, is_meant, is_reserved, IsMember, AreRanges, IsClassTail, IsNegation, IsClass, SpellsOne, sign_of, IsAnchor}
use Rattle.regex_rules.specs.Faults.{offset_behind}
use Rattle.regex_rules.specs.Reading.{ReadingStep, with_repeat, in_mode, reader_in_class, at_places, with_place, row_repeated, opened, bracket_closed, ended, special, in_a_row, escaped, class_closed, class_goes_on, class_first, class_begun, class_next, spanned, class_hyphen, class_last, class_escaped, class_last_escaped, step_in}
use Rattle.regex_rules.proofs.StandLemmas.{HoldsRow, row_more, row_bar, row_again, row_open, row_close, row_begins}

pub by_if : {A : Type 0} (P : A → Type 0) (b : Bool) (x y : A) → (b ≡ true → P x) → (b ≡ false → P y) → P (cond b x y)
by_if P true x y f g = f refl
by_if P false x y f g = g refl

-- ---- what is held in each mode

-- a class with these ranges so far
pub record HoldsClass (bounds : Bounds) (cs : List ℕ) (places : List PatternPlace) (depth : ℕ) (negated : Bool) (ranges : List CharRange) : Type 0 where
  pub before : List ℕ
  pub sign : List ℕ
  pub items : List ℕ
  pub row : HoldsRow bounds before places depth
  pub negation : IsNegation sign negated
  pub spelled : AreRanges bounds items ranges
  pub parts : cs ≡ before ++ (91 ∷ sign ++ items)

-- with at least one
pub record HoldsSome (bounds : Bounds) (cs : List ℕ) (places : List PatternPlace) (depth : ℕ) (negated : Bool) (ranges : List CharRange) : Type 0 where
  pub class : HoldsClass bounds cs places depth negated ranges
  pub some : (class.items ≡ []) → ⊥

-- and then a character, and more of a range
pub record HoldsMember (bounds : Bounds) (cs : List ℕ) (reader : Reader) (c place : ℕ) (more : List ℕ) : Type 0 where
  pub before : List ℕ
  pub own : List ℕ
  pub class : HoldsClass bounds before reader.places reader.depth reader.negated reader.ranges
  pub member : IsMember own c
  pub here : place ≡ offset_behind before
  pub parts : cs ≡ before ++ (own ++ more)

abbrev pub HoldsIn : Bounds → Mode → List ℕ → Reader → Type 0
HoldsIn bounds mode.Begin cs r = (cs ≡ []) × (r.places ≡ []) × (r.depth ≡ 0)
HoldsIn bounds mode.Row cs r = HoldsRow bounds cs r.places r.depth
HoldsIn bounds mode.Escape cs r = (before : List ℕ) × HoldsRow bounds before r.places r.depth × (cs ≡ before ++ 92 ∷ [])
HoldsIn bounds mode.End cs r = (before : List ℕ) × HoldsRow bounds before r.places r.depth × (r.depth ≡ 0) × (cs ≡ before ++ 36 ∷ [])
HoldsIn bounds mode.ClassBegin cs r = (before : List ℕ) × HoldsRow bounds before r.places r.depth × (r.negated ≡ false) × (r.ranges ≡ []) × (cs ≡ before ++ 91 ∷ [])
HoldsIn bounds mode.ClassFirst cs r = HoldsClass bounds cs r.places r.depth r.negated r.ranges
HoldsIn bounds (mode.Member c place) cs r = HoldsMember bounds cs r c place []
HoldsIn bounds (mode.Hyphen c place) cs r = HoldsMember bounds cs r c place (45 ∷ [])
HoldsIn bounds mode.Spanned cs r = HoldsSome bounds cs r.places r.depth r.negated r.ranges
HoldsIn bounds mode.LastHyphen cs r = (before : List ℕ) × HoldsSome bounds before r.places r.depth r.negated r.ranges × (cs ≡ before ++ 45 ∷ [])
HoldsIn bounds (mode.MemberEscape place) cs r = (before : List ℕ) × HoldsClass bounds before r.places r.depth r.negated r.ranges × (place ≡ offset_behind before) × (cs ≡ before ++ 92 ∷ [])
HoldsIn bounds (mode.LastEscape c place) cs r = HoldsMember bounds cs r c place (45 ∷ 92 ∷ [])

abbrev pub Holds : Bounds → List ℕ → Reader → Type 0
Holds bounds cs r = HoldsIn bounds r.mode cs r

-- what a step leaves is held of one character more
abbrev pub Sound : Bounds → List ℕ → ℕ → ReadingStep → Type 0
Sound bounds cs c (Ok r) = Holds bounds (cs ++ c ∷ []) r
Sound bounds cs c (Err fault) = Unit {0}

-- ---- rows

pub begin_row : (bounds : Bounds) (cs : List ℕ) (places : List PatternPlace) (depth : ℕ) → cs ≡ [] → places ≡ [] → depth ≡ 0 → HoldsRow bounds cs places depth
begin_row bounds cs places depth e f g = rw (e, f, g) (row_begins bounds [] IsAnchor.absent)

-- at a character that is known
at_char : (bounds : Bounds) (cs : List ℕ) (places : List PatternPlace) (depth c k : ℕ) → (c == k) ≡ true → HoldsRow bounds (cs ++ k ∷ []) places depth → HoldsRow bounds (cs ++ c ∷ []) places depth
at_char bounds cs places depth c k e h = subst (λ (d : ℕ). HoldsRow bounds (cs ++ d ∷ []) places depth) (sym (eqb-true c k e)) h

snoc_at : (cs : List ℕ) (c k : ℕ) → (c == k) ≡ true → cs ++ c ∷ [] ≡ cs ++ k ∷ []
snoc_at cs c k e = ap (λ (d : ℕ). cs ++ d ∷ []) (eqb-true c k e)

repeat_sound : (bounds : Bounds) (cs : List ℕ) (c at k : ℕ) (r : Reader) (repeat : Repeat) → (c == k) ≡ true → sign_of repeat ≡ k ∷ [] → HoldsRow bounds cs r.places r.depth
    → Sound bounds cs c (row_repeated at r (with_repeat repeat r.places))
repeat_sound bounds cs c at k r repeat e sign row = go (with_repeat repeat r.places) refl
  where
    go : (o : Option (List PatternPlace)) → with_repeat repeat r.places ≡ o → Sound bounds cs c (row_repeated at r o)
    go None f = tt
    go (Some later) f =
        at_char bounds cs later r.depth c k e (subst (λ (l : List ℕ). HoldsRow bounds (cs ++ l) later r.depth) sign (row_again bounds cs r.places later r.depth repeat row f))

open_sound : (bounds : Bounds) (cs : List ℕ) (c at : ℕ) (r : Reader) → (c == 40) ≡ true → HoldsRow bounds cs r.places r.depth → Sound bounds cs c (opened bounds at r)
open_sound bounds cs c at r e row =
    by_if (Sound bounds cs c) (bounds.may_open r.depth) (Ok (at_places r (r.places ++ Open ∷ []) (r.depth + 1))) (Err (TooDeep at)) (λ may.
    let plus : suc r.depth ≡ r.depth + 1 = omega arith in
    subst (λ (n : ℕ). HoldsRow bounds (cs ++ c ∷ []) (r.places ++ Open ∷ []) n) plus
    (at_char bounds cs (r.places ++ Open ∷ []) (suc r.depth) c 40 e (row_open bounds cs r.places r.depth row may)))
    (λ no. tt)

one_less : (n : ℕ) → (n == 0) ≡ false → n ≡ suc (n - 1)
one_less n h = grind (arith, nat_tests)

close_sound : (bounds : Bounds) (cs : List ℕ) (c at : ℕ) (r : Reader) → (c == 41) ≡ true → HoldsRow bounds cs r.places r.depth → Sound bounds cs c (bracket_closed at r)
close_sound bounds cs c at r e row =
    by_if (Sound bounds cs c) (r.depth == 0) (Err (BadPattern at)) (Ok (at_places r (r.places ++ Close Once ∷ []) (r.depth - 1))) (λ none. tt) (λ some.
    at_char bounds cs (r.places ++ Close Once ∷ []) (r.depth - 1) c 41 e
    (row_close bounds cs r.places (r.depth - 1) (subst (λ (n : ℕ). HoldsRow bounds cs r.places n) (one_less r.depth some) row)))

end_sound : (bounds : Bounds) (cs : List ℕ) (c at : ℕ) (r : Reader) → (c == 36) ≡ true → HoldsRow bounds cs r.places r.depth → Sound bounds cs c (ended at r)
end_sound bounds cs c at r e row =
    by_if (Sound bounds cs c) (r.depth == 0) (Ok (in_mode r mode.End)) (Err (BadPattern at)) (λ none. (cs, row, eqb-true r.depth 0 none, snoc_at cs c 36 e)) (λ some. tt)

special_sound : (bounds : Bounds) (cs : List ℕ) (c at : ℕ) (r : Reader) → HoldsRow bounds cs r.places r.depth → Sound bounds cs c (special bounds at c r)
special_sound bounds cs c at r row =
    let P = Sound bounds cs c in
    by_if P (c == 46) _ _ (λ e. at_char bounds cs (r.places ++ One AnyButNewline Once ∷ []) r.depth c 46 e (row_more bounds cs (46 ∷ []) r.places r.depth AnyButNewline row SpellsOne.dot)) (λ n46.
    by_if P (c == 40) _ _ (λ e. open_sound bounds cs c at r e row) (λ n40.
    by_if P (c == 41) _ _ (λ e. close_sound bounds cs c at r e row) (λ n41.
    by_if P (c == 124) _ _ (λ e. at_char bounds cs (r.places ++ Bar ∷ []) r.depth c 124 e (row_bar bounds cs r.places r.depth row)) (λ n124.
    by_if P (c == 42) _ _ (λ e. repeat_sound bounds cs c at 42 r Any e refl row) (λ n42.
    by_if P (c == 43) _ _ (λ e. repeat_sound bounds cs c at 43 r AtLeastOnce e refl row) (λ n43.
    by_if P (c == 63) _ _ (λ e. repeat_sound bounds cs c at 63 r Optional e refl row) (λ n63.
    by_if P (c == 91) _ _ (λ e. (cs, row, refl, refl, snoc_at cs c 91 e)) (λ n91.
    by_if P (c == 92) _ _ (λ e. (cs, row, snoc_at cs c 92 e)) (λ n92.
    by_if P (c == 36) _ _ (λ e. end_sound bounds cs c at r e row) (λ n36. tt))))))))))

row_sound : (bounds : Bounds) (cs : List ℕ) (c at : ℕ) (r : Reader) → HoldsRow bounds cs r.places r.depth → Sound bounds cs c (in_a_row bounds at c r)
row_sound bounds cs c at r row =
    by_if (Sound bounds cs c) (is_special c) (special bounds at c r) (Ok (with_place r (One (Literal c) Once))) (λ s. special_sound bounds cs c at r row)
    (λ plain. row_more bounds cs (c ∷ []) r.places r.depth (Literal c) row (SpellsOne.plain plain))

begin_sound : (bounds : Bounds) (cs : List ℕ) (c at : ℕ) (r : Reader) → cs ≡ [] → r.places ≡ [] → r.depth ≡ 0 → Sound bounds cs c (step_in bounds mode.Begin at c r)
begin_sound bounds cs c at r none places depth =
    by_if (Sound bounds cs c) (c == 94) (Ok (in_mode r mode.Row)) (in_a_row bounds at c r) (λ e.
    let one : cs ++ c ∷ [] ≡ 94 ∷ [] = ap (λ (l : List ℕ). l ++ c ∷ []) none ∙ ap (λ (d : ℕ). d ∷ []) (eqb-true c 94 e) in
    rw (one, places, depth) (row_begins bounds (94 ∷ []) IsAnchor.present))
    (λ n. row_sound bounds cs c at r (begin_row bounds cs r.places r.depth none places depth))

pub escape_sound : (bounds : Bounds) (cs before : List ℕ) (c at : ℕ) (r : Reader) → HoldsRow bounds before r.places r.depth → cs ≡ before ++ 92 ∷ [] → Sound bounds cs c (escaped at c r)
escape_sound bounds cs before c at r row e =
    by_if (Sound bounds cs c) (is_meant c) (Ok (with_place r (One (Literal c) Once))) (Err (BadPattern at)) (λ meant.
    subst (λ (l : List ℕ). HoldsRow bounds l (r.places ++ One (Literal c) Once ∷ []) r.depth) (sym (ap (λ (l : List ℕ). l ++ c ∷ []) e ∙ append_assoc before (92 ∷ []) (c ∷ [])))
    (row_more bounds before (92 ∷ c ∷ []) r.places r.depth (Literal c) row (SpellsOne.meant meant)))
    (λ no. tt)

-- ---- classes

member_some : (own : List ℕ) (c : ℕ) → IsMember own c → (own ≡ []) → ⊥
member_some _ c (IsMember.itself h) e = absurd cc
member_some _ c (IsMember.meant h) e = absurd cc

append_some : (xs ys : List ℕ) → ((ys ≡ []) → ⊥) → (xs ++ ys ≡ []) → ⊥
append_some [] ys some e = some e
append_some (x ∷ xs) ys some e = absurd cc

class_parts : (before sign items own cs : List ℕ) → cs ≡ before ++ (91 ∷ sign ++ items) → cs ++ own ≡ before ++ (91 ∷ sign ++ (items ++ own))
class_parts before sign items own cs e = ap (λ (l : List ℕ). l ++ own) e ∙ append_assoc before (91 ∷ sign ++ items) own ∙ ap (λ (l : List ℕ). before ++ (91 ∷ l)) (append_assoc sign items own)

class_single : (bounds : Bounds) (cs own : List ℕ) (r : Reader) (ranges : List CharRange) (c : ℕ) → HoldsClass bounds cs r.places r.depth r.negated ranges → IsMember own c → HoldsSome bounds (cs ++ own) r.places r.depth r.negated (ranges ++ range c c ∷ [])
class_single bounds cs own r ranges c h is = record {
  class = record {
    before = h.before;
    sign = h.sign;
    items = h.items ++ own;
    row = h.row;
    negation = h.negation;
    spelled = AreRanges.single h.items own c h.spelled is refl;
    parts = class_parts h.before h.sign h.items own cs h.parts;
  };
  some = append_some h.items own (member_some own c is);
}

class_spans : (bounds : Bounds) (cs own other : List ℕ) (r : Reader) (ranges : List CharRange) (c d : ℕ) → HoldsClass bounds cs r.places r.depth r.negated ranges → IsMember own c → IsMember other d → bounds.may_span c d ≡ true
    → HoldsSome bounds (cs ++ (own ++ (45 ∷ other))) r.places r.depth r.negated (ranges ++ range c d ∷ [])
class_spans bounds cs own other r ranges c d h is last may = record {
  class = record {
    before = h.before;
    sign = h.sign;
    items = h.items ++ (own ++ (45 ∷ other));
    row = h.row;
    negation = h.negation;
    spelled = AreRanges.spanned h.items own other c d h.spelled is last may refl;
    parts = class_parts h.before h.sign h.items (own ++ (45 ∷ other)) cs h.parts;
  };
  some = append_some h.items (own ++ (45 ∷ other)) (append_some own (45 ∷ other) (λ e. absurd cc));
}

pub class_closes : (bounds : Bounds) (cs tail : List ℕ) (r : Reader) (ranges hyphens : List CharRange) → HoldsSome bounds cs r.places r.depth r.negated ranges → IsClassTail tail hyphens
    → HoldsRow bounds (cs ++ (tail ++ 93 ∷ [])) (r.places ++ One (Class (record { negated = r.negated; ranges = ranges ++ hyphens })) Once ∷ []) r.depth
class_closes bounds cs tail r ranges hyphens h ends =
    let k = h.class in
    let own : List ℕ = 91 ∷ k.sign ++ (k.items ++ (tail ++ 93 ∷ [])) in
    let class : CharClass = record { negated = r.negated; ranges = ranges ++ hyphens } in
    let is : IsClass bounds own class = record {
      sign = k.sign;
      items = k.items;
      tail = tail;
      ranges = ranges;
      hyphens = hyphens;
      negation = k.negation;
      spelled = k.spelled;
      some = h.some;
      ends = ends;
      all = refl;
      parts = refl;
    } in
    subst (λ (l : List ℕ). HoldsRow bounds l (r.places ++ One (Class class) Once ∷ []) r.depth) (sym (class_parts k.before k.sign k.items (tail ++ 93 ∷ []) cs k.parts))
    (row_more bounds k.before own r.places r.depth (Class class) k.row (SpellsOne.class is))

-- at a `]`
close_at : (bounds : Bounds) (cs : List ℕ) (c : ℕ) (r : Reader) (ranges : List CharRange) → (c == 93) ≡ true → HoldsSome bounds cs r.places r.depth r.negated ranges → Sound bounds cs c (class_closed r ranges)
close_at bounds cs c r ranges e h =
    let row = class_closes bounds cs [] r ranges [] h IsClassTail.nothing in
    at_char bounds cs (r.places ++ One (Class (record { negated = r.negated; ranges = ranges })) Once ∷ []) r.depth c 93 e
    (subst (λ (rs : List CharRange). HoldsRow bounds (cs ++ 93 ∷ []) (r.places ++ One (Class (record { negated = r.negated; ranges = rs })) Once ∷ []) r.depth) (append-nil ranges) row)

-- a class that may have another character
goes_sound : (bounds : Bounds) (cs : List ℕ) (c at : ℕ) (r : Reader) (ranges : List CharRange) → at ≡ offset_behind cs → HoldsClass bounds cs r.places r.depth r.negated ranges → is_reserved c ≡ false
    → Sound bounds cs c (class_goes_on r ranges (mode.Member c at))
goes_sound bounds cs c at r ranges here h plain = record { before = cs; own = c ∷ []; class = h; member = IsMember.itself plain; here = here; parts = refl }

escape_goes : (bounds : Bounds) (cs : List ℕ) (c at : ℕ) (r : Reader) (ranges : List CharRange) → at ≡ offset_behind cs → HoldsClass bounds cs r.places r.depth r.negated ranges → (c == 92) ≡ true
    → Sound bounds cs c (class_goes_on r ranges (mode.MemberEscape at))
escape_goes bounds cs c at r ranges here h e = (cs, h, here, snoc_at cs c 92 e)

pub first_sound : (bounds : Bounds) (cs : List ℕ) (c at : ℕ) (r : Reader) → at ≡ offset_behind cs → HoldsClass bounds cs r.places r.depth r.negated r.ranges → Sound bounds cs c (class_first at c r)
first_sound bounds cs c at r here h =
    let P = Sound bounds cs c in
    by_if P (is_reserved c) _ _ (λ s. by_if P (c == 92) _ _ (λ e. escape_goes bounds cs c at r r.ranges here h e) (λ n. tt)) (λ plain. goes_sound bounds cs c at r r.ranges here h plain)

class_of_begin : (bounds : Bounds) (cs before : List ℕ) (r : Reader) → HoldsRow bounds before r.places r.depth → r.negated ≡ false → r.ranges ≡ [] → cs ≡ before ++ 91 ∷ [] → HoldsClass bounds cs r.places r.depth r.negated r.ranges
class_of_begin bounds cs before r row plain none e = record {
  before = before;
  sign = [];
  items = [];
  row = row;
  negation = subst (IsNegation []) (sym plain) IsNegation.these;
  spelled = subst (AreRanges bounds []) (sym none) AreRanges.none;
  parts = e;
}

pub begun_sound : (bounds : Bounds) (cs before : List ℕ) (c at : ℕ) (r : Reader) → at ≡ offset_behind cs → HoldsRow bounds before r.places r.depth → r.negated ≡ false → r.ranges ≡ [] → cs ≡ before ++ 91 ∷ []
    → Sound bounds cs c (class_begun at c r)
begun_sound bounds cs before c at r here row plain none e =
    by_if (Sound bounds cs c) (c == 94) (Ok (reader_in_class r true [] mode.ClassFirst)) (class_first at c r) (λ f. record {
      before = before;
      sign = 94 ∷ [];
      items = [];
      row = row;
      negation = IsNegation.others;
      spelled = AreRanges.none;
      parts = ap (λ (l : List ℕ). l ++ c ∷ []) e ∙ append_assoc before (91 ∷ []) (c ∷ []) ∙ ap (λ (d : ℕ). before ++ (91 ∷ d ∷ [])) (eqb-true c 94 f);
    }) (λ n. first_sound bounds cs c at r here (class_of_begin bounds cs before r row plain none e))

next_sound : (bounds : Bounds) (cs : List ℕ) (c at : ℕ) (r : Reader) (ranges : List CharRange) (hyphen : ReadingStep) → at ≡ offset_behind cs → HoldsSome bounds cs r.places r.depth r.negated ranges
    → ((c == 45) ≡ true → Sound bounds cs c hyphen) → Sound bounds cs c (class_next at c r ranges hyphen)
next_sound bounds cs c at r ranges hyphen here h f =
    let P = Sound bounds cs c in
    by_if P (is_reserved c) _ _ (λ s.
    by_if P (c == 45) _ _ f (λ n45. by_if P (c == 93) _ _ (λ e. close_at bounds cs c r ranges e h) (λ n93. by_if P (c == 92) _ _ (λ e. escape_goes bounds cs c at r ranges here h.class e) (λ n92. tt))))
    (λ plain. goes_sound bounds cs c at r ranges here h.class plain)

-- past a character of a class
pub member_held : (bounds : Bounds) (cs : List ℕ) (r : Reader) (c place : ℕ) → HoldsMember bounds cs r c place [] → HoldsSome bounds cs r.places r.depth r.negated (r.ranges ++ range c c ∷ [])
member_held bounds cs r c place h =
    subst (λ (l : List ℕ). HoldsSome bounds l r.places r.depth r.negated (r.ranges ++ range c c ∷ [])) (sym (h.parts ∙ ap (λ (l : List ℕ). h.before ++ l) (append-nil h.own))) (class_single bounds h.before h.own r r.ranges c h.class h.member)

more_parts : (before own more : List ℕ) (c : ℕ) (cs : List ℕ) → cs ≡ before ++ (own ++ more) → cs ++ c ∷ [] ≡ before ++ (own ++ (more ++ c ∷ []))
more_parts before own more c cs e = ap (λ (l : List ℕ). l ++ c ∷ []) e ∙ append_assoc before (own ++ more) (c ∷ []) ∙ ap (λ (l : List ℕ). before ++ l) (append_assoc own more (c ∷ []))

pub member_sound : (bounds : Bounds) (cs : List ℕ) (c at first place : ℕ) (r : Reader) → at ≡ offset_behind cs → HoldsMember bounds cs r first place [] → Sound bounds cs c (step_in bounds (mode.Member first place) at c r)
member_sound bounds cs c at first place r here h =
    next_sound bounds cs c at r (r.ranges ++ range first first ∷ []) (Ok (in_mode r (mode.Hyphen first place))) here (member_held bounds cs r first place h) (λ e. record {
      before = h.before;
      own = h.own;
      class = h.class;
      member = h.member;
      here = h.here;
      parts = more_parts h.before h.own [] c cs h.parts ∙ ap (λ (d : ℕ). h.before ++ (h.own ++ (d ∷ []))) (eqb-true c 45 e);
    })

pub spanned_sound : (bounds : Bounds) (cs : List ℕ) (c at : ℕ) (r : Reader) → at ≡ offset_behind cs → HoldsSome bounds cs r.places r.depth r.negated r.ranges → Sound bounds cs c (step_in bounds mode.Spanned at c r)
spanned_sound bounds cs c at r here h = next_sound bounds cs c at r r.ranges (Ok (in_mode r mode.LastHyphen)) here h (λ e. (cs, h, snoc_at cs c 45 e))

span_sound : (bounds : Bounds) (cs other : List ℕ) (c last at first place : ℕ) (r : Reader) (before own : List ℕ) → HoldsClass bounds before r.places r.depth r.negated r.ranges → IsMember own first → IsMember other last
    → cs ++ c ∷ [] ≡ before ++ (own ++ (45 ∷ other)) → Sound bounds cs c (spanned bounds first place last r)
span_sound bounds cs other c last at first place r before own h is end e =
    by_if (Sound bounds cs c) (bounds.may_span first last) (class_goes_on r (r.ranges ++ range first last ∷ []) mode.Spanned) (Err (BadPattern place))
    (λ may. subst (λ (l : List ℕ). HoldsSome bounds l r.places r.depth r.negated (r.ranges ++ range first last ∷ [])) (sym e) (class_spans bounds before own other r r.ranges first last h is end may)) (λ no. tt)

pub hyphen_held : (bounds : Bounds) (cs : List ℕ) (r : Reader) (c place : ℕ) → HoldsMember bounds cs r c place (45 ∷ [])
    → HoldsRow bounds (cs ++ 93 ∷ []) (r.places ++ One (Class (record { negated = r.negated; ranges = r.ranges ++ (range c c ∷ range 45 45 ∷ []) })) Once ∷ []) r.depth
hyphen_held bounds cs r c place h =
    let row = class_closes bounds (h.before ++ h.own) (45 ∷ []) r (r.ranges ++ range c c ∷ []) (range 45 45 ∷ []) (class_single bounds h.before h.own r r.ranges c h.class h.member) IsClassTail.hyphen in
    let chars : h.before ++ h.own ++ (45 ∷ 93 ∷ []) ≡ cs ++ 93 ∷ [] =
    append_assoc h.before h.own (45 ∷ 93 ∷ []) ∙ sym (more_parts h.before h.own (45 ∷ []) 93 cs h.parts)
    in
    let list : r.ranges ++ range c c ∷ [] ++ range 45 45 ∷ [] ≡ r.ranges ++ (range c c ∷ range 45 45 ∷ []) = append_assoc r.ranges (range c c ∷ []) (range 45 45 ∷ []) in
    subst (λ (rs : List CharRange). HoldsRow bounds (cs ++ 93 ∷ []) (r.places ++ One (Class (record { negated = r.negated; ranges = rs })) Once ∷ []) r.depth) list
    (subst (λ (l : List ℕ). HoldsRow bounds l (r.places ++ One (Class (record { negated = r.negated; ranges = r.ranges ++ range c c ∷ [] ++ range 45 45 ∷ [] })) Once ∷ []) r.depth) chars row)

hyphen_sound : (bounds : Bounds) (cs : List ℕ) (c at first place : ℕ) (r : Reader) → HoldsMember bounds cs r first place (45 ∷ []) → Sound bounds cs c (class_hyphen bounds at c first place r)
hyphen_sound bounds cs c at first place r h =
    let P = Sound bounds cs c in
    by_if P (is_reserved c) _ _ (λ s.
    by_if P (c == 93) _ _ (λ e. at_char bounds cs _ r.depth c 93 e (hyphen_held bounds cs r first place h)) (λ n93.
    by_if P (c == 92) _ _ (λ e. record {
      before = h.before;
      own = h.own;
      class = h.class;
      member = h.member;
      here = h.here;
      parts = more_parts h.before h.own (45 ∷ []) c cs h.parts ∙ ap (λ (d : ℕ). h.before ++ (h.own ++ (45 ∷ d ∷ []))) (eqb-true c 92 e);
    }) (λ n92. tt)))
    (λ plain. span_sound bounds cs (c ∷ []) c c at first place r h.before h.own h.class h.member (IsMember.itself plain) (more_parts h.before h.own (45 ∷ []) c cs h.parts))

pub last_held : (bounds : Bounds) (cs before : List ℕ) (r : Reader) → HoldsSome bounds before r.places r.depth r.negated r.ranges → cs ≡ before ++ 45 ∷ []
    → HoldsRow bounds (cs ++ 93 ∷ []) (r.places ++ One (Class (record { negated = r.negated; ranges = r.ranges ++ range 45 45 ∷ [] })) Once ∷ []) r.depth
last_held bounds cs before r h e =
    subst (λ (l : List ℕ). HoldsRow bounds l (r.places ++ One (Class (record { negated = r.negated; ranges = r.ranges ++ range 45 45 ∷ [] })) Once ∷ []) r.depth)
    (sym (ap (λ (l : List ℕ). l ++ 93 ∷ []) e ∙ append_assoc before (45 ∷ []) (93 ∷ []))) (class_closes bounds before (45 ∷ []) r r.ranges (range 45 45 ∷ []) h IsClassTail.hyphen)

last_sound : (bounds : Bounds) (cs before : List ℕ) (c at : ℕ) (r : Reader) → HoldsSome bounds before r.places r.depth r.negated r.ranges → cs ≡ before ++ 45 ∷ [] → Sound bounds cs c (class_last at c r)
last_sound bounds cs before c at r h e =
    by_if (Sound bounds cs c) (c == 93) (class_closed r (r.ranges ++ range 45 45 ∷ [])) (Err (BadPattern at)) (λ f. at_char bounds cs _ r.depth c 93 f (last_held bounds cs before r h e)) (λ n. tt)

pub class_escape_sound : (bounds : Bounds) (cs before : List ℕ) (c at place : ℕ) (r : Reader) → HoldsClass bounds before r.places r.depth r.negated r.ranges → place ≡ offset_behind before → cs ≡ before ++ 92 ∷ []
    → Sound bounds cs c (class_escaped at c place r)
class_escape_sound bounds cs before c at place r h here e =
    by_if (Sound bounds cs c) (is_reserved c) (Ok (in_mode r (mode.Member c place))) (Err (BadPattern at)) (λ s. record {
      before = before;
      own = 92 ∷ c ∷ [];
      class = h;
      member = IsMember.meant s;
      here = here;
      parts = ap (λ (l : List ℕ). l ++ c ∷ []) e ∙ append_assoc before (92 ∷ []) (c ∷ []);
    }) (λ n. tt)

pub last_escape_sound : (bounds : Bounds) (cs : List ℕ) (c at first place : ℕ) (r : Reader) → HoldsMember bounds cs r first place (45 ∷ 92 ∷ []) → Sound bounds cs c (class_last_escaped bounds at c first place r)
last_escape_sound bounds cs c at first place r h =
    by_if (Sound bounds cs c) (is_reserved c) (spanned bounds first place c r) (Err (BadPattern at))
    (λ s. span_sound bounds cs (92 ∷ c ∷ []) c c at first place r h.before h.own h.class h.member (IsMember.meant s) (more_parts h.before h.own (45 ∷ 92 ∷ []) c cs h.parts)) (λ n. tt)

-- A step keeps what is held.
pub step_sound : (bounds : Bounds) (m : Mode) (cs : List ℕ) (c at : ℕ) (r : Reader) → at ≡ offset_behind cs → HoldsIn bounds m cs r → Sound bounds cs c (step_in bounds m at c r)
step_sound bounds mode.Begin cs c at r here (none, places, depth) = begin_sound bounds cs c at r none places depth
step_sound bounds mode.Row cs c at r here row = row_sound bounds cs c at r row
step_sound bounds mode.Escape cs c at r here (before, row, e) = escape_sound bounds cs before c at r row e
step_sound bounds mode.End cs c at r here h = tt
step_sound bounds mode.ClassBegin cs c at r here (before, row, plain, none, e) = begun_sound bounds cs before c at r here row plain none e
step_sound bounds mode.ClassFirst cs c at r here h = first_sound bounds cs c at r here h
step_sound bounds (mode.Member first place) cs c at r here h = member_sound bounds cs c at first place r here h
step_sound bounds (mode.Hyphen first place) cs c at r here h = hyphen_sound bounds cs c at first place r h
step_sound bounds mode.Spanned cs c at r here h = spanned_sound bounds cs c at r here h
step_sound bounds mode.LastHyphen cs c at r here (before, h, e) = last_sound bounds cs before c at r h e
step_sound bounds (mode.MemberEscape place) cs c at r here (before, h, p, e) = class_escape_sound bounds cs before c at place r h p e
step_sound bounds (mode.LastEscape first place) cs c at r here h = last_escape_sound bounds cs c at first place r h
