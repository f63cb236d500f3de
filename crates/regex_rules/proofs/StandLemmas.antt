-- What stands within the brackets that are open, and how it is completed.
use Rattle.std.proofs.Common.{◌≡◌, ℕ, zero, suc, true, List, [], ◌∷◌, ◌++◌, Some, None, refl, ap, sym, ◌∙◌, subst, append_assoc}
use Rattle.std.proofs.lemmas.List.{append-nil}
use Rattle.std.proofs.lemmas.Option.{same_Some}
use Rattle.sp_base.proofs.OptionLemmas.{none_or_some}
use Rattle.regex_rules.specs.declared.character.OneChar.{OneChar}
use Rattle.regex_rules.specs.declared.repeat.Repeat.{Repeat}
use Rattle.regex_rules.specs.declared.repeat.Repeat.TheVariants.{Once, Optional, Any, AtLeastOnce}
use Rattle.regex_rules.specs.declared.place.PatternPlace.{PatternPlace}
use Rattle.regex_rules.specs.declared.place.PatternPlace.TheVariants.{One, Open, Bar, Close}
use Rattle.regex_rules.specs.Trees.{PatternTree, Empty, Char, Bracket, Or, places_of}
use Rattle.regex_rules.specs.Spelling.{Bounds, SpellsOne, sign_of, Spells, IsAnchor, IsWholePattern}
use Rattle.regex_rules.specs.Faults.{BeginsPattern}
use Rattle.regex_rules.specs.Reading.{with_repeat, before_place}
use Rattle.regex_rules.proofs.LeadLemmas.{one_again, close_again}

-- Characters with this many open brackets, their places, and the rows within the innermost one.
pub data Stands (bounds : Bounds) : ℕ → List ℕ → List PatternPlace → PatternTree → Type 0 where
  bottom : {cs : List ℕ} {places : List PatternPlace} {rows : PatternTree} → Spells bounds 0 cs rows → places ≡ places_of rows → Stands bounds 0 cs places rows
  deeper : {depth : ℕ} {cs : List ℕ} {places : List PatternPlace} {inner : PatternTree} (before inside : List ℕ) (outer : List PatternPlace) (rows : PatternTree) → Stands bounds depth before outer rows
      → bounds.may_open depth ≡ true → Spells bounds (suc depth) inside inner → cs ≡ before ++ 40 ∷ inside → places ≡ outer ++ (Open ∷ places_of inner)
      → Stands bounds (suc depth) cs places inner

-- the rows further on
pub stands_more : (bounds : Bounds) (depth : ℕ) (cs own : List ℕ) (places new : List PatternPlace) (rows more : PatternTree) → Stands bounds depth cs places rows
    → ((before : List ℕ) → Spells bounds depth before rows → Spells bounds depth (before ++ own) more) → places_of more ≡ places_of rows ++ new
    → Stands bounds depth (cs ++ own) (places ++ new) more
stands_more bounds _ cs own places new rows more (Stands.bottom spelled e) f g = Stands.bottom (f cs spelled) (ap (λ (l : List PatternPlace). l ++ new) e ∙ sym g)
stands_more bounds _ cs own places new rows more (Stands.deeper before inside outer around stands may spelled e p) f g =
    Stands.deeper before (inside ++ own) outer around stands may (f inside spelled) (ap (λ (l : List ℕ). l ++ own) e ∙ append_assoc before (40 ∷ inside) own)
    (ap (λ (l : List PatternPlace). l ++ new) p ∙ append_assoc outer (Open ∷ places_of rows) new ∙ ap (λ (l : List PatternPlace). outer ++ (Open ∷ l)) (sym g))

-- ---- repetitions

repeat_none : (repeat : Repeat) (places : List PatternPlace) (place : PatternPlace) → with_repeat repeat (place ∷ []) ≡ None → with_repeat repeat (places ++ place ∷ []) ≡ None
unfolding with_repeat
repeat_none repeat [] place e = e
repeat_none repeat (p ∷ []) place e = ap (before_place p) e
repeat_none repeat (p ∷ q ∷ places) place e = ap (before_place p) (repeat_none repeat (q ∷ places) place e)

-- rows of which the last piece stands so often
record Again (bounds : Bounds) (depth : ℕ) (cs : List ℕ) (front later : List PatternPlace) (repeat : Repeat) : Type 0 where
  pub more : PatternTree
  pub spelled : Spells bounds depth (cs ++ sign_of repeat) more
  pub same : later ≡ front ++ places_of more

bar_none : (repeat : Repeat) → with_repeat repeat (Bar ∷ []) ≡ None
unfolding with_repeat
bar_none repeat = refl

open_none : (repeat : Repeat) → with_repeat repeat (Open ∷ []) ≡ None
unfolding with_repeat
open_none repeat = refl

one_none : (repeat : Repeat) (one : OneChar) → (with_repeat repeat (One one Optional ∷ []) ≡ None) × (with_repeat repeat (One one Any ∷ []) ≡ None) × (with_repeat repeat (One one AtLeastOnce ∷ []) ≡ None)
unfolding with_repeat
one_none repeat one = (refl, refl, refl)

close_none : (repeat : Repeat) → (with_repeat repeat (Close Optional ∷ []) ≡ None) × (with_repeat repeat (Close Any ∷ []) ≡ None) × (with_repeat repeat (Close AtLeastOnce ∷ []) ≡ None)
unfolding with_repeat
close_none repeat = (refl, refl, refl)

-- a last place that can't be repeated
no_repeat : {B : Type 0} (repeat : Repeat) (front xs later : List PatternPlace) (place : PatternPlace) → with_repeat repeat (place ∷ []) ≡ None → with_repeat repeat (front ++ (xs ++ place ∷ [])) ≡ Some later → B
no_repeat repeat front xs later place none e =
    absurd (none_or_some (with_repeat repeat (front ++ xs ++ place ∷ [])) later (repeat_none repeat (front ++ xs) place none) (ap (with_repeat repeat) (append_assoc front xs (place ∷ [])) ∙ e))

once_more : (before own sign cs : List ℕ) → cs ≡ before ++ (own ++ []) → cs ++ sign ≡ before ++ (own ++ sign)
once_more before own sign cs e = ap (λ (l : List ℕ). l ++ sign) (e ∙ ap (λ (l : List ℕ). before ++ l) (append-nil own)) ∙ append_assoc before own sign

bracket_places : (rows inner : PatternTree) (repeat : Repeat) → places_of rows ++ (Open ∷ places_of inner) ++ Close repeat ∷ [] ≡ places_of rows ++ (Open ∷ places_of inner ++ (Close repeat ∷ []))
bracket_places rows inner repeat = append_assoc (places_of rows) (Open ∷ places_of inner) (Close repeat ∷ [])

again : (bounds : Bounds) (depth : ℕ) (cs : List ℕ) (front later : List PatternPlace) (rows : PatternTree) (repeat : Repeat) → Spells bounds depth cs rows → with_repeat repeat front ≡ None
    → with_repeat repeat (front ++ places_of rows) ≡ Some later → Again bounds depth cs front later repeat
again bounds depth _ front later _ repeat Spells.nothing none e = absurd (none_or_some (with_repeat repeat (front ++ [])) later (ap (with_repeat repeat) (append-nil front) ∙ none) e)
again bounds depth cs front later _ repeat (Spells.one {rows} {char} before own Once spelled is f) none e = record {
  more = Char rows char repeat;
  spelled = Spells.one before own repeat spelled is (once_more before own (sign_of repeat) cs f);
  same = sym (same_Some (front ++ places_of rows ++ One char repeat ∷ []) later (sym (one_again repeat (front ++ places_of rows) char) ∙ ap (with_repeat repeat) (append_assoc front (places_of rows) (One char Once ∷ [])) ∙ e))
      ∙ append_assoc front (places_of rows) (One char repeat ∷ []);
}
again bounds depth cs front later _ repeat (Spells.one {rows} {char} before own Optional spelled is f) none e = no_repeat repeat front (places_of rows) later (One char Optional) (one_none repeat char).0 e
again bounds depth cs front later _ repeat (Spells.one {rows} {char} before own Any spelled is f) none e = no_repeat repeat front (places_of rows) later (One char Any) (one_none repeat char).1 e
again bounds depth cs front later _ repeat (Spells.one {rows} {char} before own AtLeastOnce spelled is f) none e = no_repeat repeat front (places_of rows) later (One char AtLeastOnce) (one_none repeat char).2 e
again bounds depth cs front later _ repeat (Spells.bracket {rows} {inner} before inside Once spelled may within f) none e =
    let xs : List PatternPlace = places_of rows ++ (Open ∷ places_of inner) in
    record {
      more = Bracket rows inner repeat;
      spelled = Spells.bracket before inside repeat spelled may within
          (ap (λ (l : List ℕ). l ++ sign_of repeat) f ∙ append_assoc before (40 ∷ inside ++ (41 ∷ [])) (sign_of repeat) ∙ ap (λ (l : List ℕ). before ++ (40 ∷ l)) (append_assoc inside (41 ∷ []) (sign_of repeat)));
      same = sym (same_Some (front ++ xs ++ Close repeat ∷ []) later
          (sym (close_again repeat (front ++ xs)) ∙ ap (with_repeat repeat) (append_assoc front xs (Close Once ∷ []) ∙ ap (λ (l : List PatternPlace). front ++ l) (bracket_places rows inner Once)) ∙ e))
          ∙ append_assoc front xs (Close repeat ∷ []) ∙ ap (λ (l : List PatternPlace). front ++ l) (bracket_places rows inner repeat);
    }
again bounds depth cs front later _ repeat (Spells.bracket {rows} {inner} before inside Optional spelled may within f) none e =
    no_repeat repeat front (places_of rows ++ (Open ∷ places_of inner)) later (Close Optional) (close_none repeat).0 (ap (λ (l : List PatternPlace). with_repeat repeat (front ++ l)) (bracket_places rows inner Optional) ∙ e)
again bounds depth cs front later _ repeat (Spells.bracket {rows} {inner} before inside Any spelled may within f) none e =
    no_repeat repeat front (places_of rows ++ (Open ∷ places_of inner)) later (Close Any) (close_none repeat).1 (ap (λ (l : List PatternPlace). with_repeat repeat (front ++ l)) (bracket_places rows inner Any) ∙ e)
again bounds depth cs front later _ repeat (Spells.bracket {rows} {inner} before inside AtLeastOnce spelled may within f) none e =
    no_repeat repeat front (places_of rows ++ (Open ∷ places_of inner)) later (Close AtLeastOnce) (close_none repeat).2 (ap (λ (l : List PatternPlace). with_repeat repeat (front ++ l)) (bracket_places rows inner AtLeastOnce) ∙ e)
again bounds depth cs front later _ repeat (Spells.bar {rows} before spelled f) none e = no_repeat repeat front (places_of rows) later Bar (bar_none repeat) e

nothing_none : (repeat : Repeat) → with_repeat repeat [] ≡ None
unfolding with_repeat
nothing_none repeat = refl

-- the last piece stands so often
pub stands_again : (bounds : Bounds) (depth : ℕ) (cs : List ℕ) (places later : List PatternPlace) (rows : PatternTree) (repeat : Repeat) → Stands bounds depth cs places rows → with_repeat repeat places ≡ Some later
    → (more : PatternTree) × Stands bounds depth (cs ++ sign_of repeat) later more
stands_again bounds _ cs places later rows repeat (Stands.bottom spelled e) h =
    let a = again bounds 0 cs [] later rows repeat spelled (nothing_none repeat) (ap (with_repeat repeat) (sym e) ∙ h) in
    (a.more, Stands.bottom a.spelled a.same)
stands_again bounds _ cs places later rows repeat (Stands.deeper {depth} before inside outer around stands may spelled e p) h =
    let a = again bounds (suc depth) inside (outer ++ Open ∷ []) later rows repeat spelled (repeat_none repeat outer Open (open_none repeat)) (ap (with_repeat repeat) (append_assoc outer (Open ∷ []) (places_of rows) ∙ sym p) ∙ h) in (
      a.more,
      Stands.deeper before (inside ++ sign_of repeat) outer around stands may a.spelled (ap (λ (l : List ℕ). l ++ sign_of repeat) e ∙ append_assoc before (40 ∷ inside) (sign_of repeat))
          (a.same ∙ append_assoc outer (Open ∷ []) (places_of a.more)),
    )

-- ---- brackets

pub stands_closed : (bounds : Bounds) (depth : ℕ) (cs : List ℕ) (places : List PatternPlace) (inner : PatternTree) → Stands bounds (suc depth) cs places inner
    → (rows : PatternTree) × Stands bounds depth (cs ++ 41 ∷ []) (places ++ Close Once ∷ []) (Bracket rows inner Once)
stands_closed bounds depth cs places inner (Stands.deeper before inside outer rows stands may spelled e p) =
    let own : List ℕ = 40 ∷ inside ++ (41 ∷ []) in
    let new : List PatternPlace = Open ∷ places_of inner ++ (Close Once ∷ []) in
    let s = stands_more bounds depth before own outer new rows (Bracket rows inner Once) stands (λ front f. Spells.bracket front inside Once f may spelled refl) refl in
    let chars : before ++ own ≡ cs ++ 41 ∷ [] = sym (append_assoc before (40 ∷ inside) (41 ∷ [])) ∙ ap (λ (l : List ℕ). l ++ 41 ∷ []) (sym e) in
    let list : outer ++ new ≡ places ++ Close Once ∷ [] = sym (append_assoc outer (Open ∷ places_of inner) (Close Once ∷ [])) ∙ ap (λ (l : List PatternPlace). l ++ Close Once ∷ []) (sym p) in
    (rows, subst (λ (l : List ℕ). Stands bounds depth l (places ++ Close Once ∷ []) (Bracket rows inner Once)) chars (subst (λ (l : List PatternPlace). Stands bounds depth (before ++ own) l (Bracket rows inner Once)) list s))

pub stands_spelled : (bounds : Bounds) (cs : List ℕ) (places : List PatternPlace) (rows : PatternTree) → Stands bounds 0 cs places rows → Spells bounds 0 cs rows × (places ≡ places_of rows)
stands_spelled bounds cs places rows (Stands.bottom spelled e) = (spelled, e)

stands_goes_on : (bounds : Bounds) (depth : ℕ) (cs : List ℕ) (places : List PatternPlace) (rows : PatternTree) → Stands bounds depth cs places rows → (more : List ℕ) × (tree : PatternTree) × Spells bounds 0 (cs ++ more) tree
stands_goes_on bounds zero cs places rows stands = ([], rows, subst (λ (l : List ℕ). Spells bounds 0 l rows) (sym (append-nil cs)) (stands_spelled bounds cs places rows stands).0)
stands_goes_on bounds (suc depth) cs places rows stands =
    let c = stands_closed bounds depth cs places rows stands in
    let on = stands_goes_on bounds depth (cs ++ 41 ∷ []) (places ++ Close Once ∷ []) (Bracket c.0 rows Once) c.1 in
    (41 ∷ on.0, on.1, subst (λ (l : List ℕ). Spells bounds 0 l on.1) (append_assoc cs (41 ∷ []) on.0) on.2)

-- ---- with what stands at the beginning

-- Characters read within so many brackets, a `^` at the beginning among them.
pub record HoldsRow (bounds : Bounds) (cs : List ℕ) (places : List PatternPlace) (depth : ℕ) : Type 0 where
  pub begin : List ℕ
  pub body : List ℕ
  pub rows : PatternTree
  pub anchor : IsAnchor 94 begin
  pub parts : cs ≡ begin ++ body
  pub stands : Stands bounds depth body places rows

pub row_goes_on : (bounds : Bounds) (cs : List ℕ) (places : List PatternPlace) (depth : ℕ) → HoldsRow bounds cs places depth → BeginsPattern bounds cs
row_goes_on bounds cs places depth h =
    let on = stands_goes_on bounds depth h.body places h.rows h.stands in (
      on.0,
      on.1,
      record {
        begin = h.begin;
        rows = h.body ++ on.0;
        end = [];
        begins = h.anchor;
        spelled = on.2;
        ends = IsAnchor.absent;
        parts = ap (λ (l : List ℕ). l ++ on.0) h.parts ∙ append_assoc h.begin h.body on.0 ∙ ap (λ (l : List ℕ). h.begin ++ l) (sym (append-nil (h.body ++ on.0)));
      },
    )

-- a beginning of what goes on does
pub goes_on_before : (bounds : Bounds) (cs own : List ℕ) → BeginsPattern bounds (cs ++ own) → BeginsPattern bounds cs
goes_on_before bounds cs own (more, tree, whole) = (own ++ more, tree, subst (λ (l : List ℕ). IsWholePattern bounds l tree) (append_assoc cs own more) whole)

pub row_more : (bounds : Bounds) (cs own : List ℕ) (places : List PatternPlace) (depth : ℕ) (one : OneChar) → HoldsRow bounds cs places depth → SpellsOne bounds own one
    → HoldsRow bounds (cs ++ own) (places ++ One one Once ∷ []) depth
row_more bounds cs own places depth one h is = record {
  begin = h.begin;
  body = h.body ++ own;
  rows = Char h.rows one Once;
  anchor = h.anchor;
  parts = ap (λ (l : List ℕ). l ++ own) h.parts ∙ append_assoc h.begin h.body own;
  stands = stands_more bounds depth h.body own places (One one Once ∷ []) h.rows (Char h.rows one Once) h.stands
      (λ before spelled. Spells.one before own Once spelled is (ap (λ (l : List ℕ). before ++ l) (sym (append-nil own)))) refl;
}

pub row_bar : (bounds : Bounds) (cs : List ℕ) (places : List PatternPlace) (depth : ℕ) → HoldsRow bounds cs places depth → HoldsRow bounds (cs ++ 124 ∷ []) (places ++ Bar ∷ []) depth
row_bar bounds cs places depth h = record {
  begin = h.begin;
  body = h.body ++ 124 ∷ [];
  rows = Or h.rows;
  anchor = h.anchor;
  parts = ap (λ (l : List ℕ). l ++ 124 ∷ []) h.parts ∙ append_assoc h.begin h.body (124 ∷ []);
  stands = stands_more bounds depth h.body (124 ∷ []) places (Bar ∷ []) h.rows (Or h.rows) h.stands (λ before spelled. Spells.bar before spelled refl) refl;
}

pub row_again : (bounds : Bounds) (cs : List ℕ) (places later : List PatternPlace) (depth : ℕ) (repeat : Repeat) → HoldsRow bounds cs places depth → with_repeat repeat places ≡ Some later
    → HoldsRow bounds (cs ++ sign_of repeat) later depth
row_again bounds cs places later depth repeat h e =
    let a = stands_again bounds depth h.body places later h.rows repeat h.stands e in
    record {
      begin = h.begin;
      body = h.body ++ sign_of repeat;
      rows = a.0;
      anchor = h.anchor;
      parts = ap (λ (l : List ℕ). l ++ sign_of repeat) h.parts ∙ append_assoc h.begin h.body (sign_of repeat);
      stands = a.1;
    }

pub row_open : (bounds : Bounds) (cs : List ℕ) (places : List PatternPlace) (depth : ℕ) → HoldsRow bounds cs places depth → bounds.may_open depth ≡ true
    → HoldsRow bounds (cs ++ 40 ∷ []) (places ++ Open ∷ []) (suc depth)
row_open bounds cs places depth h may = record {
  begin = h.begin;
  body = h.body ++ 40 ∷ [];
  rows = Empty;
  anchor = h.anchor;
  parts = ap (λ (l : List ℕ). l ++ 40 ∷ []) h.parts ∙ append_assoc h.begin h.body (40 ∷ []);
  stands = Stands.deeper h.body [] places h.rows h.stands may Spells.nothing refl refl;
}

pub row_close : (bounds : Bounds) (cs : List ℕ) (places : List PatternPlace) (depth : ℕ) → HoldsRow bounds cs places (suc depth) → HoldsRow bounds (cs ++ 41 ∷ []) (places ++ Close Once ∷ []) depth
row_close bounds cs places depth h =
    let c = stands_closed bounds depth h.body places h.rows h.stands in
    record {
      begin = h.begin;
      body = h.body ++ 41 ∷ [];
      rows = Bracket c.0 h.rows Once;
      anchor = h.anchor;
      parts = ap (λ (l : List ℕ). l ++ 41 ∷ []) h.parts ∙ append_assoc h.begin h.body (41 ∷ []);
      stands = c.1;
    }

pub row_begins : (bounds : Bounds) (begin : List ℕ) → IsAnchor 94 begin → HoldsRow bounds begin [] 0
row_begins bounds begin anchor = record { begin = begin; body = []; rows = Empty; anchor = anchor; parts = sym (append-nil begin); stands = Stands.bottom Spells.nothing refl }

-- a whole text
pub row_whole : (bounds : Bounds) (cs end : List ℕ) (places : List PatternPlace) → HoldsRow bounds cs places 0 → IsAnchor 36 end → (tree : PatternTree) × IsWholePattern bounds (cs ++ end) tree × (places ≡ places_of tree)
row_whole bounds cs end places h ends =
    let s = stands_spelled bounds h.body places h.rows h.stands in
    (h.rows, record { begin = h.begin; rows = h.body; end = end; begins = h.anchor; spelled = s.0; ends = ends; parts = ap (λ (l : List ℕ). l ++ end) h.parts ∙ append_assoc h.begin h.body end }, s.1)
