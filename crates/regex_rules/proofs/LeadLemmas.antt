-- What is spelled is read.
use Rattle.std.proofs.Common.{◌≡◌, ℕ, suc, Bool, true, false, ◌==◌, ◌+◌, ◌-◌, List, [], ◌∷◌, ◌++◌, length, Some, Ok, Err, refl, ap, sym, ◌∙◌, subst, append_assoc, arith}
use Rattle.std.proofs.lemmas.Bool.{eqb-true}
use Rattle.std.proofs.lemmas.Bool.Decides.{nat_tests}
use Rattle.std.proofs.lemmas.List.{append-nil}
use Rattle.std.specs.Prelude.{encode_utf8}
use Rattle.regex_rules.specs.declared.character.CharRange.{CharRange}
use Rattle.regex_rules.specs.declared.character.CharClass.{CharClass}
use Rattle.regex_rules.specs.declared.character.OneChar.{OneChar}
use Rattle.regex_rules.specs.declared.character.OneChar.TheVariants.{AnyButNewline, Literal, Class}
use Rattle.regex_rules.specs.declared.repeat.Repeat.{Repeat}
use Rattle.regex_rules.specs.declared.repeat.Repeat.TheVariants.{Once, Optional, Any, AtLeastOnce}
use Rattle.regex_rules.specs.declared.place.PatternPlace.{PatternPlace}
use Rattle.regex_rules.specs.declared.place.PatternPlace.TheVariants.{One, Open, Bar, Close}
use Rattle.regex_rules.specs.declared.mode.Mode.{Mode}
use Rattle.regex_rules.specs.declared.mode.Mode.TheVariants as mode
use Rattle.regex_rules.specs.declared.reader.Reader.{Reader}
use Rattle.regex_rules.specs.declared.fault.PatternFault.{PatternFault}
use Rattle.regex_rules.specs.Trees.{PatternTree, places_of}
use Rattle.regex_rules.specs.Spelling.{Bounds, range, is_reserved, IsMember, AreRanges, IsClassTail, IsNegation, IsClass, SpellsOne, sign_of, Spells, IsAnchor, IsWholePattern}
use Rattle.regex_rules.specs.Reading.{ReadingStep, with_repeat, before_place, reader_in_row, step, then_read, read_from, unread, row_repeated}

-- characters lead a reading from one reader to another
abbrev pub Leads : Bounds → ℕ → Reader → List ℕ → Reader → Type 0
Leads bounds at reader cs next = (later : ℕ) × ((rest : List ℕ) → read_from bounds at reader (cs ++ rest) ≡ read_from bounds later next rest)

pub leads_one : (bounds : Bounds) (at : ℕ) (reader next : Reader) (c : ℕ) → step bounds at c reader ≡ Ok next → Leads bounds at reader (c ∷ []) next
unfolding read_from
leads_one bounds at reader next c e =
    (at + length (encode_utf8 c), λ rest. ap (λ (s : ReadingStep). then_read (λ r. read_from bounds (at + length (encode_utf8 c)) r rest) s) e)

pub leads_none : (bounds : Bounds) (at : ℕ) (reader : Reader) → Leads bounds at reader [] reader
leads_none bounds at reader = (at, λ rest. refl)

pub leads_on : (bounds : Bounds) (at : ℕ) (reader between next : Reader) (xs ys : List ℕ) (l : Leads bounds at reader xs between) → Leads bounds l.0 between ys next → Leads bounds at reader (xs ++ ys) next
leads_on bounds at reader between next xs ys l m =
    (m.0, λ rest. ap (read_from bounds at reader) (append_assoc xs ys rest) ∙ l.1 (ys ++ rest) ∙ m.1 rest)

-- ---- classes

abbrev pub in_class_of : List PatternPlace → ℕ → Bool → List CharRange → Mode → Reader
in_class_of places depth negated ranges place = record { places = places; depth = depth; negated = negated; ranges = ranges; mode = place }

-- where a reading stands in a class with these ranges
pub data IsPast (places : List PatternPlace) (depth : ℕ) (negated : Bool) : List CharRange → Reader → Type 0 where
  first : {reader : Reader} → negated ≡ false → reader ≡ in_class_of places depth false [] mode.ClassBegin → IsPast places depth negated [] reader
  after_sign : {reader : Reader} → negated ≡ true → reader ≡ in_class_of places depth true [] mode.ClassFirst → IsPast places depth negated [] reader
  single : {ranges : List CharRange} {reader : Reader} (before : List CharRange) (c place : ℕ) → ranges ≡ before ++ range c c ∷ []
      → reader ≡ in_class_of places depth negated before (mode.Member c place) → IsPast places depth negated ranges reader
  spanned : {ranges : List CharRange} {reader : Reader} → reader ≡ in_class_of places depth negated ranges mode.Spanned → IsPast places depth negated ranges reader

unreserved_apart : (c : ℕ) → is_reserved c ≡ false → (c == 94) ≡ false
unreserved_apart c h = grind (arith, nat_tests)

-- a character may follow whatever stands there
member_read : (bounds : Bounds) (places : List PatternPlace) (depth : ℕ) (negated : Bool) (ranges : List CharRange) (reader : Reader) (member : List ℕ) (c at : ℕ) → IsMember member c
    → IsPast places depth negated ranges reader → (place : ℕ) × Leads bounds at reader member (in_class_of places depth negated ranges (mode.Member c place))
member_read bounds places depth negated _ reader _ c at (IsMember.itself h) (IsPast.first plain e) =
    (at, leads_one bounds at reader _ c (rw (e, plain, h, unreserved_apart c h) refl))
member_read bounds places depth negated _ reader _ c at (IsMember.itself h) (IsPast.after_sign signed e) =
    (at, leads_one bounds at reader _ c (rw (e, signed, h) refl))
member_read bounds places depth negated ranges reader _ c at (IsMember.itself h) (IsPast.single before d place f e) =
    (at, leads_one bounds at reader _ c (rw (e, f, h) refl))
member_read bounds places depth negated ranges reader _ c at (IsMember.itself h) (IsPast.spanned e) =
    (at, leads_one bounds at reader _ c (rw (e, h) refl))
member_read bounds places depth negated _ reader _ c at (IsMember.meant h) (IsPast.first plain e) =
    let escape = in_class_of places depth negated [] (mode.MemberEscape at) in
    let one = leads_one bounds at reader escape 92 (rw (e, plain) refl) in
    (at, leads_on bounds at reader escape _ (92 ∷ []) (c ∷ []) one (leads_one bounds one.0 escape _ c (rw h refl)))
member_read bounds places depth negated _ reader _ c at (IsMember.meant h) (IsPast.after_sign signed e) =
    let escape = in_class_of places depth negated [] (mode.MemberEscape at) in
    let one = leads_one bounds at reader escape 92 (rw (e, signed) refl) in
    (at, leads_on bounds at reader escape _ (92 ∷ []) (c ∷ []) one (leads_one bounds one.0 escape _ c (rw h refl)))
member_read bounds places depth negated ranges reader _ c at (IsMember.meant h) (IsPast.single before d place f e) =
    let escape = in_class_of places depth negated ranges (mode.MemberEscape at) in
    let one = leads_one bounds at reader escape 92 (rw (e, f) refl) in
    (at, leads_on bounds at reader escape _ (92 ∷ []) (c ∷ []) one (leads_one bounds one.0 escape _ c (rw h refl)))
member_read bounds places depth negated ranges reader _ c at (IsMember.meant h) (IsPast.spanned e) =
    let escape = in_class_of places depth negated ranges (mode.MemberEscape at) in
    let one = leads_one bounds at reader escape 92 (rw e refl) in
    (at, leads_on bounds at reader escape _ (92 ∷ []) (c ∷ []) one (leads_one bounds one.0 escape _ c (rw h refl)))

-- the end of a range
other_read : (bounds : Bounds) (places : List PatternPlace) (depth : ℕ) (negated : Bool) (ranges : List CharRange) (other : List ℕ) (c d place at : ℕ) → IsMember other d → bounds.may_span c d ≡ true
    → Leads bounds at (in_class_of places depth negated ranges (mode.Hyphen c place)) other (in_class_of places depth negated (ranges ++ range c d ∷ []) mode.Spanned)
other_read bounds places depth negated ranges _ c d place at (IsMember.itself h) may = leads_one bounds at _ _ d (rw (h, may) refl)
other_read bounds places depth negated ranges _ c d place at (IsMember.meant h) may =
    let escape = in_class_of places depth negated ranges (mode.LastEscape c place) in
    let one = leads_one bounds at (in_class_of places depth negated ranges (mode.Hyphen c place)) escape 92 refl in
    leads_on bounds at _ escape _ (92 ∷ []) (d ∷ []) one (leads_one bounds one.0 escape _ d (rw (h, may) refl))

-- characters and ranges, from where a class has none yet
record Ranges (bounds : Bounds) (places : List PatternPlace) (depth : ℕ) (negated : Bool) (reader : Reader) (at : ℕ) (items : List ℕ) (ranges : List CharRange) : Type 0 where
  pub next : Reader
  pub past : IsPast places depth negated ranges next
  pub leads : Leads bounds at reader items next

ranges_read : (bounds : Bounds) (places : List PatternPlace) (depth : ℕ) (negated : Bool) (reader : Reader) (at : ℕ) (items : List ℕ) (ranges : List CharRange) → IsPast places depth negated [] reader
    → AreRanges bounds items ranges → Ranges bounds places depth negated reader at items ranges
ranges_read bounds places depth negated reader at _ _ begins AreRanges.none = record { next = reader; past = begins; leads = leads_none bounds at reader }
ranges_read bounds places depth negated reader at _ _ begins (AreRanges.single {ranges} before member c spelled is e) =
    let r = ranges_read bounds places depth negated reader at before ranges begins spelled in
    let m = member_read bounds places depth negated ranges r.next member c r.leads.0 is r.past in
    record {
      next = in_class_of places depth negated ranges (mode.Member c m.0);
      past = IsPast.single ranges c m.0 refl refl;
      leads = subst (λ (l : List ℕ). Leads bounds at reader l (in_class_of places depth negated ranges (mode.Member c m.0))) (sym e)
          (leads_on bounds at reader r.next (in_class_of places depth negated ranges (mode.Member c m.0)) before member r.leads m.1);
    }
ranges_read bounds places depth negated reader at _ _ begins (AreRanges.spanned {ranges} before member other c d spelled is last may e) =
    let r = ranges_read bounds places depth negated reader at before ranges begins spelled in
    let m = member_read bounds places depth negated ranges r.next member c r.leads.0 is r.past in
    let one : Reader = in_class_of places depth negated ranges (mode.Member c m.0) in
    let hyphen : Reader = in_class_of places depth negated ranges (mode.Hyphen c m.0) in
    let next : Reader = in_class_of places depth negated (ranges ++ range c d ∷ []) mode.Spanned in
    let h = leads_one bounds m.1.0 one hyphen 45 refl in
    let o = other_read bounds places depth negated ranges other c d m.0 h.0 last may in
    let span = leads_on bounds m.1.0 one hyphen next (45 ∷ []) other h o in
    record {
      next = next;
      past = IsPast.spanned refl;
      leads = subst (λ (l : List ℕ). Leads bounds at reader l next) (sym e)
          (leads_on bounds at reader r.next next before (member ++ (45 ∷ other)) r.leads (leads_on bounds r.leads.0 r.next one next member (45 ∷ other) m.1 span));
    }

-- a class has at least one range
ranges_some : (bounds : Bounds) (items : List ℕ) (ranges : List CharRange) → AreRanges bounds items ranges → ((items ≡ []) → ⊥) → (ranges ≡ []) → ⊥
ranges_some bounds _ _ AreRanges.none some none = some refl
ranges_some bounds _ _ (AreRanges.single {ranges} before member c spelled is e) some none = snoc_some ranges _ none
  where
    snoc_some : {A : Type 0} (xs : List A) (x : A) → (xs ++ x ∷ [] ≡ []) → ⊥
    snoc_some [] x e = absurd cc
    snoc_some (y ∷ xs) x e = absurd cc
ranges_some bounds _ _ (AreRanges.spanned {ranges} before member other c d spelled is last may e) some none = snoc_some ranges _ none
  where
    snoc_some : {A : Type 0} (xs : List A) (x : A) → (xs ++ x ∷ [] ≡ []) → ⊥
    snoc_some [] x e = absurd cc
    snoc_some (y ∷ xs) x e = absurd cc

-- past the `]`
abbrev after_class : List PatternPlace → ℕ → Bool → List CharRange → Reader
after_class places depth negated ranges = reader_in_row (places ++ One (Class (record { negated = negated; ranges = ranges })) Once ∷ []) depth

tail_read : (bounds : Bounds) (places : List PatternPlace) (depth : ℕ) (negated : Bool) (ranges hyphens : List CharRange) (reader : Reader) (tail : List ℕ) (at : ℕ) → ((ranges ≡ []) → ⊥)
    → IsPast places depth negated ranges reader → IsClassTail tail hyphens → Leads bounds at reader (tail ++ 93 ∷ []) (after_class places depth negated (ranges ++ hyphens))
tail_read bounds places depth negated _ hyphens reader tail at some (IsPast.first plain e) ends = absurd (some refl)
tail_read bounds places depth negated _ hyphens reader tail at some (IsPast.after_sign signed e) ends = absurd (some refl)
tail_read bounds places depth negated ranges _ reader _ at some (IsPast.single before c place f e) IsClassTail.nothing =
    leads_one bounds at reader _ 93 (rw (e, append-nil ranges, f) refl)
tail_read bounds places depth negated ranges _ reader _ at some (IsPast.spanned e) IsClassTail.nothing =
    leads_one bounds at reader _ 93 (rw (e, append-nil ranges) refl)
tail_read bounds places depth negated ranges _ reader _ at some (IsPast.single before c place f e) IsClassTail.hyphen =
    let hyphen : Reader = in_class_of places depth negated before (mode.Hyphen c place) in
    let one = leads_one bounds at reader hyphen 45 (rw e refl) in
    leads_on bounds at reader hyphen _ (45 ∷ []) (93 ∷ []) one (leads_one bounds one.0 hyphen _ 93 (rw (f, append_assoc before (range c c ∷ []) (range 45 45 ∷ [])) refl))
tail_read bounds places depth negated ranges _ reader _ at some (IsPast.spanned e) IsClassTail.hyphen =
    let hyphen : Reader = in_class_of places depth negated ranges mode.LastHyphen in
    let one = leads_one bounds at reader hyphen 45 (rw e refl) in
    leads_on bounds at reader hyphen _ (45 ∷ []) (93 ∷ []) one (leads_one bounds one.0 hyphen _ 93 refl)

-- a class begins
record Begun (bounds : Bounds) (places : List PatternPlace) (depth : ℕ) (negated : Bool) (sign : List ℕ) (at : ℕ) : Type 0 where
  pub next : Reader
  pub past : IsPast places depth negated [] next
  pub leads : Leads bounds at (reader_in_row places depth) (91 ∷ sign) next

sign_read : (bounds : Bounds) (places : List PatternPlace) (depth : ℕ) (negated : Bool) (sign : List ℕ) (at : ℕ) → IsNegation sign negated → Begun bounds places depth negated sign at
sign_read bounds places depth _ _ at IsNegation.these = record {
  next = in_class_of places depth false [] mode.ClassBegin;
  past = IsPast.first refl refl;
  leads = leads_one bounds at (reader_in_row places depth) (in_class_of places depth false [] mode.ClassBegin) 91 refl;
}
sign_read bounds places depth _ _ at IsNegation.others =
    let open_ = in_class_of places depth false [] mode.ClassBegin in
    let one = leads_one bounds at (reader_in_row places depth) open_ 91 refl in
    record {
      next = in_class_of places depth true [] mode.ClassFirst;
      past = IsPast.after_sign refl refl;
      leads = leads_on bounds at (reader_in_row places depth) open_ (in_class_of places depth true [] mode.ClassFirst) (91 ∷ []) (94 ∷ []) one
          (leads_one bounds one.0 open_ (in_class_of places depth true [] mode.ClassFirst) 94 refl);
    }

class_read : (bounds : Bounds) (places : List PatternPlace) (depth : ℕ) (cs : List ℕ) (class : CharClass) (at : ℕ) → IsClass bounds cs class
    → Leads bounds at (reader_in_row places depth) cs (reader_in_row (places ++ One (Class class) Once ∷ []) depth)
class_read bounds places depth cs class at k =
    let b = sign_read bounds places depth class.negated k.sign at k.negation in
    let r = ranges_read bounds places depth class.negated b.next b.leads.0 k.items k.ranges b.past k.spelled in
    let t = tail_read bounds places depth class.negated k.ranges k.hyphens r.next k.tail r.leads.0 (ranges_some bounds k.items k.ranges k.spelled k.some) r.past k.ends in
    let last : Reader = after_class places depth class.negated (k.ranges ++ k.hyphens) in
    let whole = leads_on bounds at (reader_in_row places depth) b.next last (91 ∷ k.sign) (k.items ++ (k.tail ++ 93 ∷ [])) b.leads (leads_on bounds b.leads.0 b.next r.next last k.items (k.tail ++ 93 ∷ []) r.leads t) in
    subst (λ (rs : List CharRange). Leads bounds at (reader_in_row places depth) cs (after_class places depth class.negated rs)) (sym k.all)
    (subst (λ (l : List ℕ). Leads bounds at (reader_in_row places depth) l last) (sym k.parts) whole)

-- ---- pieces

one_read : (bounds : Bounds) (places : List PatternPlace) (depth : ℕ) (own : List ℕ) (one : OneChar) (at : ℕ) → SpellsOne bounds own one
    → Leads bounds at (reader_in_row places depth) own (reader_in_row (places ++ One one Once ∷ []) depth)
one_read bounds places depth _ _ at (SpellsOne.plain {c} h) = leads_one bounds at (reader_in_row places depth) (reader_in_row (places ++ One (Literal c) Once ∷ []) depth) c (rw h refl)
one_read bounds places depth _ _ at (SpellsOne.meant {c} h) =
    let escape : Reader = record { places = places; depth = depth; negated = false; ranges = []; mode = mode.Escape } in
    let one = leads_one bounds at (reader_in_row places depth) escape 92 refl in
    leads_on bounds at (reader_in_row places depth) escape (reader_in_row (places ++ One (Literal c) Once ∷ []) depth) (92 ∷ []) (c ∷ []) one (leads_one bounds one.0 escape (reader_in_row (places ++ One (Literal c) Once ∷ []) depth) c (rw h refl))
one_read bounds places depth _ _ at SpellsOne.dot = leads_one bounds at (reader_in_row places depth) (reader_in_row (places ++ One AnyButNewline Once ∷ []) depth) 46 refl
one_read bounds places depth _ _ at (SpellsOne.class {cs} {class} is) = class_read bounds places depth cs class at is

repeat_append : (repeat : Repeat) (places : List PatternPlace) (place after : PatternPlace) → with_repeat repeat (place ∷ []) ≡ Some (after ∷ []) → with_repeat repeat (places ++ place ∷ []) ≡ Some (places ++ after ∷ [])
unfolding with_repeat
repeat_append repeat [] place after e = e
repeat_append repeat (p ∷ []) place after e = ap (before_place p) e
repeat_append repeat (p ∷ q ∷ places) place after e = ap (before_place p) (repeat_append repeat (q ∷ places) place after e)

pub one_again : (repeat : Repeat) (places : List PatternPlace) (one : OneChar) → with_repeat repeat (places ++ One one Once ∷ []) ≡ Some (places ++ One one repeat ∷ [])
unfolding with_repeat
one_again repeat places one = repeat_append repeat places (One one Once) (One one repeat) refl

pub close_again : (repeat : Repeat) (places : List PatternPlace) → with_repeat repeat (places ++ Close Once ∷ []) ≡ Some (places ++ Close repeat ∷ [])
unfolding with_repeat
close_again repeat places = repeat_append repeat places (Close Once) (Close repeat) refl

sign_leads : (bounds : Bounds) (places later : List PatternPlace) (depth : ℕ) (repeat : Repeat) (at : ℕ) → with_repeat repeat places ≡ Some later → (repeat ≡ Once → places ≡ later)
    → Leads bounds at (reader_in_row places depth) (sign_of repeat) (reader_in_row later depth)
sign_leads bounds places later depth Once at e same = subst (λ (ps : List PatternPlace). Leads bounds at (reader_in_row places depth) [] (reader_in_row ps depth)) (same refl) (leads_none bounds at (reader_in_row places depth))
sign_leads bounds places later depth Optional at e same = leads_one bounds at (reader_in_row places depth) (reader_in_row later depth) 63 (ap (row_repeated at (reader_in_row places depth)) e)
sign_leads bounds places later depth Any at e same = leads_one bounds at (reader_in_row places depth) (reader_in_row later depth) 42 (ap (row_repeated at (reader_in_row places depth)) e)
sign_leads bounds places later depth AtLeastOnce at e same = leads_one bounds at (reader_in_row places depth) (reader_in_row later depth) 43 (ap (row_repeated at (reader_in_row places depth)) e)

one_sign : (bounds : Bounds) (places : List PatternPlace) (depth : ℕ) (one : OneChar) (repeat : Repeat) (at : ℕ)
    → Leads bounds at (reader_in_row (places ++ One one Once ∷ []) depth) (sign_of repeat) (reader_in_row (places ++ One one repeat ∷ []) depth)
one_sign bounds places depth one repeat at =
    sign_leads bounds (places ++ One one Once ∷ []) (places ++ One one repeat ∷ []) depth repeat at (one_again repeat places one) (λ (e : repeat ≡ Once). ap (λ (k : Repeat). places ++ One one k ∷ []) (sym e))

close_sign : (bounds : Bounds) (places : List PatternPlace) (depth : ℕ) (repeat : Repeat) (at : ℕ) → Leads bounds at (reader_in_row (places ++ Close Once ∷ []) depth) (sign_of repeat) (reader_in_row (places ++ Close repeat ∷ []) depth)
close_sign bounds places depth repeat at =
    sign_leads bounds (places ++ Close Once ∷ []) (places ++ Close repeat ∷ []) depth repeat at (close_again repeat places) (λ (e : repeat ≡ Once). ap (λ (k : Repeat). places ++ Close k ∷ []) (sym e))

-- ---- rows

close_step : (bounds : Bounds) (at depth : ℕ) (places : List PatternPlace) → step bounds at 41 (reader_in_row places (depth + 1)) ≡ Ok (reader_in_row (places ++ Close Once ∷ []) depth)
close_step bounds at depth places =
    let some : (depth + 1 == 0) ≡ false = grind (arith, nat_tests) in
    let back : depth + 1 - 1 ≡ depth = omega arith in
    rw (some, back) refl

pub rows_read : (bounds : Bounds) (places : List PatternPlace) (depth : ℕ) (cs : List ℕ) (rows : PatternTree) (at : ℕ) → Spells bounds depth cs rows
    → Leads bounds at (reader_in_row places depth) cs (reader_in_row (places ++ places_of rows) depth)
rows_read bounds places depth _ _ at Spells.nothing = subst (λ (ps : List PatternPlace). Leads bounds at (reader_in_row places depth) [] (reader_in_row ps depth)) (sym (append-nil places)) (leads_none bounds at (reader_in_row places depth))
rows_read bounds places depth cs _ at (Spells.one {rows} {char} before own repeat spelled is e) =
    let ps : List PatternPlace = places ++ places_of rows in
    let r = rows_read bounds places depth before rows at spelled in
    let o = one_read bounds ps depth own char r.0 is in
    let s = one_sign bounds ps depth char repeat o.0 in
    let last : Reader = reader_in_row (ps ++ One char repeat ∷ []) depth in
    let whole = leads_on bounds at (reader_in_row places depth) (reader_in_row ps depth) last before (own ++ sign_of repeat) r (leads_on bounds r.0 (reader_in_row ps depth) (reader_in_row (ps ++ One char Once ∷ []) depth) last own (sign_of repeat) o s) in
    subst (λ (qs : List PatternPlace). Leads bounds at (reader_in_row places depth) cs (reader_in_row qs depth)) (append_assoc places (places_of rows) (One char repeat ∷ []))
    (subst (λ (l : List ℕ). Leads bounds at (reader_in_row places depth) l last) (sym e) whole)
rows_read bounds places depth cs _ at (Spells.bracket {rows} {inner} before inside repeat spelled may within e) =
    let ps : List PatternPlace = places ++ places_of rows in
    let qs : List PatternPlace = ps ++ Open ∷ [] ++ places_of inner in
    let r = rows_read bounds places depth before rows at spelled in
    let plus : suc depth ≡ depth + 1 = omega arith in
    let o : Leads bounds r.0 (reader_in_row ps depth) (40 ∷ []) (reader_in_row (ps ++ Open ∷ []) (suc depth)) = leads_one bounds r.0 (reader_in_row ps depth) (reader_in_row (ps ++ Open ∷ []) (suc depth)) 40 (rw (may, plus) refl) in
    let i = rows_read bounds (ps ++ Open ∷ []) (suc depth) inside inner o.0 within in
    let k = leads_one bounds i.0 (reader_in_row qs (suc depth)) (reader_in_row (qs ++ Close Once ∷ []) depth) 41 (subst (λ (n : ℕ). step bounds i.0 41 (reader_in_row qs n) ≡ Ok (reader_in_row (qs ++ Close Once ∷ []) depth)) (sym plus) (close_step bounds i.0 depth qs)) in
    let s = close_sign bounds qs depth repeat k.0 in
    let last : Reader = reader_in_row (qs ++ Close repeat ∷ []) depth in
    let closes = leads_on bounds i.0 (reader_in_row qs (suc depth)) (reader_in_row (qs ++ Close Once ∷ []) depth) last (41 ∷ []) (sign_of repeat) k s in
    let insides = leads_on bounds o.0 (reader_in_row (ps ++ Open ∷ []) (suc depth)) (reader_in_row qs (suc depth)) last inside (41 ∷ sign_of repeat) i closes in
    let whole = leads_on bounds at (reader_in_row places depth) (reader_in_row ps depth) last before (40 ∷ inside ++ (41 ∷ sign_of repeat)) r
    (leads_on bounds r.0 (reader_in_row ps depth) (reader_in_row (ps ++ Open ∷ []) (suc depth)) last (40 ∷ []) (inside ++ (41 ∷ sign_of repeat)) o insides) in
    let same : qs ++ Close repeat ∷ [] ≡ places ++ (places_of rows ++ (Open ∷ places_of inner ++ (Close repeat ∷ []))) =
    append_assoc (ps ++ Open ∷ []) (places_of inner) (Close repeat ∷ []) ∙ append_assoc ps (Open ∷ []) (places_of inner ++ Close repeat ∷ [])
    ∙ append_assoc places (places_of rows) (Open ∷ places_of inner ++ (Close repeat ∷ []))
    in
    subst (λ (us : List PatternPlace). Leads bounds at (reader_in_row places depth) cs (reader_in_row us depth)) same
    (subst (λ (l : List ℕ). Leads bounds at (reader_in_row places depth) l last) (sym e) whole)
rows_read bounds places depth cs _ at (Spells.bar {rows} before spelled e) =
    let ps : List PatternPlace = places ++ places_of rows in
    let r = rows_read bounds places depth before rows at spelled in
    let last : Reader = reader_in_row (ps ++ Bar ∷ []) depth in
    let whole = leads_on bounds at (reader_in_row places depth) (reader_in_row ps depth) last before (124 ∷ []) r (leads_one bounds r.0 (reader_in_row ps depth) last 124 refl) in
    subst (λ (qs : List PatternPlace). Leads bounds at (reader_in_row places depth) cs (reader_in_row qs depth)) (append_assoc places (places_of rows) (Bar ∷ []))
    (subst (λ (l : List ℕ). Leads bounds at (reader_in_row places depth) l last) (sym e) whole)

-- ---- whole texts

end_read : (bounds : Bounds) (places : List PatternPlace) (end : List ℕ) (at : ℕ) → IsAnchor 36 end → read_from bounds at (reader_in_row places 0) end ≡ Ok places
unfolding read_from
end_read bounds places _ at IsAnchor.absent = refl
end_read bounds places _ at IsAnchor.present = refl

fault_is_none : (fault : PatternFault) (places : List PatternPlace) → Err fault ≡ Ok places → ⊥
fault_is_none fault places e = absurd cc

-- a text that doesn't begin with `^`
begin_read : (bounds : Bounds) (cs : List ℕ) (places : List PatternPlace) → read_from bounds 0 (reader_in_row [] 0) cs ≡ Ok places → read_from bounds 0 unread cs ≡ Ok places
unfolding read_from
begin_read bounds [] places e = e
begin_read bounds (c ∷ cs) places e = go (c == 94) refl
  where
    go : (b : Bool) → (c == 94) ≡ b → read_from bounds 0 unread (c ∷ cs) ≡ Ok places
    go true is =
        let f : read_from bounds 0 (reader_in_row [] 0) (94 ∷ cs) ≡ Ok places = subst (λ (d : ℕ). read_from bounds 0 (reader_in_row [] 0) (d ∷ cs) ≡ Ok places) (eqb-true c 94 is) e in
        absurd (fault_is_none _ places f)
    go false not =
        let same : step bounds 0 c unread ≡ step bounds 0 c (reader_in_row [] 0) = rw not refl in
        ap (λ (s : ReadingStep). then_read (λ r. read_from bounds (0 + length (encode_utf8 c)) r cs) s) same ∙ e

anchored_read : (bounds : Bounds) (begin cs : List ℕ) (places : List PatternPlace) → IsAnchor 94 begin → ((at : ℕ) → read_from bounds at (reader_in_row [] 0) cs ≡ Ok places) → read_from bounds 0 unread (begin ++ cs) ≡ Ok places
unfolding read_from
anchored_read bounds _ cs places IsAnchor.absent f = begin_read bounds cs places (f 0)
anchored_read bounds _ cs places IsAnchor.present f = f (0 + length (encode_utf8 94))

-- A whole text that spells a pattern is read as its places.
pub whole_read : (bounds : Bounds) (cs : List ℕ) (tree : PatternTree) → IsWholePattern bounds cs tree → read_from bounds 0 unread cs ≡ Ok (places_of tree)
whole_read bounds cs tree w =
    ap (read_from bounds 0 unread) w.parts
    ∙ anchored_read bounds w.begin (w.rows ++ w.end) (places_of tree) w.begins (λ at.
    let l = rows_read bounds [] 0 w.rows tree at w.spelled in
    l.1 w.end ∙ end_read bounds (places_of tree) w.end l.0 w.ends)
