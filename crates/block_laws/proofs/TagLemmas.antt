-- What a tag is read as is what its text spells.
use Rattle.std.proofs.Common.{◌≡◌, inl, inr, ◌<◌, ◌≤◌, ◌+◌, ℕ, zero, suc, Bool, true, false, cond, ◌&&◌, eqb, List, [], ◌∷◌, ◌++◌, take, drop, length, Option, Some, None, refl, ap, sym, subst, ◌∙◌, arith, append-nil, append_assoc, length-append}
use Rattle.std.proofs.lemmas.Bool.{and_parts}
use Rattle.std.proofs.lemmas.Bool.Decides.{nat_tests}
use Rattle.std.proofs.lemmas.Option.{same_Some}
use Rattle.std.specs.List.{list_all}
use Rattle.sp_base.specs.Texts.{Text}
use Rattle.sp_base.proofs.ListLemmas.{nil_from_test}
use Rattle.htl_syntax.specs.Tokens.{is_blank}
use Rattle.htl_blocks.specs.declared.attribute.Attribute.{Attribute}
use Rattle.htl_blocks.specs.declared.attribute.Attributes.{Attributes}
use Rattle.htl_blocks.specs.declared.quoting.Quoting.{Quoting}
use Rattle.htl_blocks.specs.declared.quoting.Quoting.TheVariants.{Outside}
use Rattle.htl_blocks.specs.declared.statement.Statement.{Statement}
use Rattle.htl_blocks.specs.Markup.{markup_quoting_step}
use Rattle.htl_blocks.specs.Attributes.{added, after_attribute, attribute_of, attributes_read, begins_statement, end_trimmed, key_len, known_attribute, no_attributes, split_at_blank, statement_attribute, statement_of, statement_place, statement_split, tag_attributes, to_statement, unquoted, value_read, with_attribute, with_known, ValueText}
use Rattle.htl_blocks.specs.Spelling.{whole_text}
use Rattle.block_laws.specs.PartKinds.{quoting_after, HoldsOfNone}
use Rattle.block_laws.specs.TagStatements.{is_key_byte, AreBlanks, HasValue, BeginsWithAttribute, EndsInNoBlank, IsCutAtStatement, SpellsTag, IsTagWith}
use Rattle.block_laws.proofs.Scans.{cut_behind, scan, FirstIs, Finds, scan_finds, scan_is, scan_none, Run}
use Rattle.block_laws.proofs.NamedLemmas.{named_found, named_is, said, says_is}
use Rattle.block_laws.proofs.ValueLemmas.{key_found, key_len_is, value_found, value_is, value_shorter, Reads}
use Rattle.block_laws.proofs.EachLemmas.{gathered, none_gathered, each_once, once_gathered}

-- ---- one statement

begins_at : (t name after : Text) (a : Attribute) → t ≡ name ++ after → key_len t ≡ length name → attribute_of t ≡ known_attribute (statement_of name) (value_read after).0
unfolding attribute_of
begins_at t name after a whole len =
    let cut = cut_behind name after t (key_len t) whole len in
    ap (λ (n : Text). known_attribute (statement_of n) (value_read (drop (key_len t) t)).0) cut.0 ∙ ap (λ (u : Text). known_attribute (statement_of name) (value_read u).0) cut.1

after_at : (t name after : Text) → t ≡ name ++ after → key_len t ≡ length name → after_attribute t ≡ (value_read after).1
unfolding after_attribute
after_at t name after whole len =
    let cut = cut_behind name after t (key_len t) whole len in
    ap (λ (u : Text). (value_read u).1) cut.1

unquoted_is_none : (s : Statement) (v : ValueText) (a : Attribute) → v ≡ unquoted → statement_attribute s v ≡ Some a → ⊥
unquoted_is_none s v a is e = let clash : None ≡ Some a = sym (ap (statement_attribute s) is) ∙ e in absurd cc

pub begins_found : (t : Text) (a : Attribute) → attribute_of t ≡ Some a → BeginsWithAttribute t a (after_attribute t)
begins_found t a e = go (statement_of x.run) refl (value_found x.later)
  where
    x : Run is_key_byte (key_len t) t
    x = key_found t

    known : known_attribute (statement_of x.run) (value_read x.later).0 ≡ Some a
    known = sym (begins_at t x.run x.later a x.whole x.len) ∙ e

    go : (o : Option Statement) → statement_of x.run ≡ o → Reads x.later (value_read x.later) → BeginsWithAttribute t a (after_attribute t)
    go None is reads = let clash : None ≡ Some a = sym (ap (λ (o : Option Statement). known_attribute o (value_read x.later).0) is) ∙ known in absurd cc
    go (Some s) is (inl bare) = absurd (unquoted_is_none s (value_read x.later).0 a bare (sym (ap (λ (o : Option Statement). known_attribute o (value_read x.later).0) is) ∙ known))
    go (Some s) is (inr has) =
        let says = said s (value_read x.later).0 a (sym (ap (λ (o : Option Statement). known_attribute o (value_read x.later).0) is) ∙ known) in
        let left = sym (after_at t x.run x.later x.whole x.len) in
        record { name = x.run; after = x.later; means = s; value = (value_read x.later).0; whole = x.whole; all = x.all; stops = x.stops; named = named_found x.run s is; valued = subst (HasValue x.later (value_read x.later).0) left has; says = says }

pub begins_is : (t : Text) (a : Attribute) (later : Text) → BeginsWithAttribute t a later → (attribute_of t ≡ Some a) × (after_attribute t ≡ later)
begins_is t a later x =
    let len : key_len t ≡ length x.name = ap key_len x.whole ∙ key_len_is x.name x.after x.all x.stops in
    let read = value_is x.after x.value later x.valued in (
      begins_at t x.name x.after a x.whole len
          ∙ ap (λ (o : Option Statement). known_attribute o (value_read x.after).0) (named_is x.name x.means x.named)
          ∙ ap (λ (v : ValueText × Text). statement_attribute x.means v.0) read ∙ says_is x.means x.value a x.says,
      after_at t x.name x.after x.whole len ∙ ap (λ (v : ValueText × Text). v.1) read,
    )

-- what follows a statement is no longer than the text from it on
begins_shorter : (t : Text) (a : Attribute) (later : Text) → BeginsWithAttribute t a later → length later ≤ length t
begins_shorter t a later x =
    let size = ap length x.whole ∙ length-append x.name x.after in
    let less = value_shorter x.after x.value later x.valued in
    omega (arith, size, less)

-- ---- blanks at the end

-- a text with its blanks at the end apart
record EndTrimmed (t : Text) : Type 0 where
  blanks : Text
  whole : t ≡ end_trimmed t ++ blanks
  all : AreBlanks blanks
  ends : EndsInNoBlank (end_trimmed t)

nothing_ends : (before : Text) (last : ℕ) → [] ≡ before ++ last ∷ [] → ⊥
nothing_ends [] last e = absurd cc
nothing_ends (c ∷ before) last e = absurd cc

ends_after : (c : ℕ) (u : Text) → (is_blank c && eqb (length u) 0) ≡ false → EndsInNoBlank u → EndsInNoBlank (c ∷ u)
ends_after c u apart ends [] last e =
    let same : c ≡ last = cc in
    let none : u ≡ [] = cc in
    go (is_blank c) refl same none
  where
    go : (b : Bool) → is_blank c ≡ b → c ≡ last → u ≡ [] → is_blank last ≡ false
    go true is same none = let clash : true ≡ false = sym (ap (λ (v : Text). is_blank c && eqb (length v) 0) none ∙ ap (λ (b : Bool). b && true) is) ∙ apart in absurd cc
    go false is same none = ap is_blank (sym same) ∙ is
ends_after c u apart ends (d ∷ before) last e = let rest : u ≡ before ++ last ∷ [] = cc in ends before last rest

end_found : (t : Text) → EndTrimmed t
unfolding end_trimmed
end_found [] = record { blanks = []; whole = refl; all = refl; ends = λ before last e. absurd (nothing_ends before last e) }
end_found (c ∷ t) = go (is_blank c && eqb (length (end_trimmed t)) 0) refl (end_found t)
  where
    go : (b : Bool) → (is_blank c && eqb (length (end_trimmed t)) 0) ≡ b → EndTrimmed t → EndTrimmed (c ∷ t)
    go true is x =
        let both = and_parts (is_blank c) (eqb (length (end_trimmed t)) 0) is in
        let none = nil_from_test (end_trimmed t) both.1 in
        let rest : t ≡ x.blanks = x.whole ∙ ap (λ (u : Text). u ++ x.blanks) none in
        let all : list_all is_blank (c ∷ t) ≡ true = rw both.0 (ap (list_all is_blank) rest ∙ x.all) in
        record { blanks = c ∷ t; whole = rw is refl; all = all; ends = rw is (λ before last e. absurd (nothing_ends before last e)) }
    go false is x = record { blanks = x.blanks; whole = rw is (ap (λ (u : Text). c ∷ u) x.whole); all = x.all; ends = rw is (ends_after c (end_trimmed t) is x.ends) }

end_blanks : (blanks : Text) → AreBlanks blanks → end_trimmed blanks ≡ []
unfolding end_trimmed
end_blanks [] all = refl
end_blanks (c ∷ blanks) all =
    let both = and_parts (is_blank c) (list_all is_blank blanks) all in
    let ih = end_blanks blanks both.1 in
    rw (both.0, ih) refl

end_is : (kept blanks : Text) → AreBlanks blanks → EndsInNoBlank kept → end_trimmed (kept ++ blanks) ≡ kept
unfolding end_trimmed
end_is [] blanks all ends = end_blanks blanks all
end_is (c ∷ kept) blanks all ends =
    let ih = end_is kept blanks all (λ before last e. ends (c ∷ before) last (ap (λ (u : Text). c ∷ u) e)) in
    rw ih (go kept ends)
  where
    none : (b : Bool) (k : Text) → cond (b && false) [] (c ∷ k) ≡ c ∷ k
    none true k = refl
    none false k = refl

    some : (b : Bool) (d : ℕ) (k : Text) → cond (b && eqb (length (d ∷ k)) 0) [] (c ∷ d ∷ k) ≡ c ∷ d ∷ k
    some b d k = let full : eqb (length (d ∷ k)) 0 ≡ false = grind (arith, nat_tests) in rw full (none b (d ∷ k))

    go : (k : Text) → EndsInNoBlank (c ∷ k) → cond (is_blank c && eqb (length k) 0) [] (c ∷ k) ≡ c ∷ k
    go [] e = let word : is_blank c ≡ false = e [] c refl in rw word refl
    go (d ∷ k) e = some (is_blank c) d k

-- ---- the next statement

pub statement_scans : (quoting : Quoting) (n : ℕ) (t : Text) → statement_place quoting n t ≡ scan begins_statement quoting n t
unfolding statement_place
statement_scans quoting n [] = refl
statement_scans quoting n (c ∷ t) = ap (λ (o : Option ℕ). cond (begins_statement quoting c t) (Some n) o) (statement_scans (markup_quoting_step quoting c) (n + 1) t)

abbrev Splits : Text → Option (Text × Text) → Type 0
Splits t None = HoldsOfNone begins_statement Outside t []
Splits t (Some x) = IsCutAtStatement t x.0 x.1

cut_found : (t : Text) (m : ℕ) → FirstIs begins_statement Outside 0 t m → IsCutAtStatement t (end_trimmed (take m t)) (drop (m + 1) t)
cut_found t m x =
    let at = x.place in
    let one = cut_behind x.before (x.byte ∷ x.later) t m x.whole (omega (arith, at)) in
    let size = length-append x.before (x.byte ∷ []) in
    let two = cut_behind (x.before ++ x.byte ∷ []) x.later t (m + 1) (x.whole ∙ sym (append_assoc x.before (x.byte ∷ []) x.later)) (omega (arith, at, size)) in
    let e = end_found x.before in
    rw (one.0, two.1) (record {
      blanks = e.blanks;
      blank = x.byte;
      whole = x.whole ∙ ap (λ (u : Text). u ++ x.byte ∷ x.later) e.whole;
      first = subst (λ (u : Text). HoldsOfNone begins_statement Outside u (x.byte ∷ x.later)) e.whole x.none;
      here = ap (λ (u : Text). begins_statement (quoting_after Outside u) x.byte x.later) (sym e.whole) ∙ x.holds;
      are_blanks = e.all;
      ends = e.ends;
    })

split_found : (t : Text) → Splits t (statement_split t)
unfolding statement_split
split_found t = go (statement_place Outside 0 t) (subst (Finds begins_statement Outside 0 t) (sym (statement_scans Outside 0 t)) (scan_finds begins_statement Outside 0 t))
  where
    go : (o : Option ℕ) → Finds begins_statement Outside 0 t o → Splits t (split_at_blank t o)
    go None none = none
    go (Some m) x = cut_found t m x

split_none : (t : Text) → HoldsOfNone begins_statement Outside t [] → statement_split t ≡ None
unfolding statement_split
split_none t none = ap (split_at_blank t) (statement_scans Outside 0 t ∙ scan_none begins_statement Outside 0 t none)

split_is : (t kept from : Text) → IsCutAtStatement t kept from → statement_split t ≡ Some (kept, from)
unfolding statement_split
split_is t kept from x =
    let before = kept ++ x.blanks in
    let place : statement_place Outside 0 t ≡ Some (0 + length before) = ap (statement_place Outside 0) x.whole ∙ statement_scans Outside 0 (before ++ x.blank ∷ from) ∙ scan_is begins_statement Outside 0 before x.blank from x.first x.here in
    let one = cut_behind before (x.blank ∷ from) t (0 + length before) x.whole (omega arith) in
    let size = length-append before (x.blank ∷ []) in
    let two = cut_behind (before ++ x.blank ∷ []) from t ((0 + length before) + 1) (x.whole ∙ sym (append_assoc before (x.blank ∷ []) from)) (omega (arith, size)) in
    ap (split_at_blank t) place
    ∙ ap (λ (u : Text). Some (end_trimmed u, drop ((0 + length before) + 1) t)) one.0
    ∙ ap (λ (u : Text). Some (u, drop ((0 + length before) + 1) t)) (end_is kept x.blanks x.are_blanks x.ends)
    ∙ ap (λ (u : Text). Some (kept, u)) two.1

-- the text from a statement on is shorter
cut_shorter : (t kept from : Text) → IsCutAtStatement t kept from → length from < length t
cut_shorter t kept from x = let size = ap length x.whole ∙ length-append (kept ++ x.blanks) (x.blank ∷ from) in omega (arith, size)

-- ---- the whole tag

-- what was read after these statements and this text
record ReadAs (found : Attributes) (kept t : Text) (a : Attributes) (all : Text) : Type 0 where
  pieces : List Text
  each : List Attribute
  spelled : SpellsTag t pieces each
  left : all ≡ kept ++ whole_text pieces
  gathers : gathered (Some found) each ≡ Some a

last_read : (found : Attributes) (kept t : Text) (a : Attributes) (all : Text) → HoldsOfNone begins_statement Outside t [] → ◌≡◌ {A = Option (Attributes × Text)} (Some (found, kept ++ t)) (Some (a, all)) → ReadAs found kept t a all
last_read found kept t a all none e =
    let both = same_Some {A = Attributes × Text} (found, kept ++ t) (a, all) e in
    let same : found ≡ a = ap (λ (x : Attributes × Text). x.0) both in
    let text : kept ++ t ≡ all = ap (λ (x : Attributes × Text). x.1) both in
    record { pieces = t ∷ []; each = []; spelled = SpellsTag.Last none; left = sym text ∙ ap (λ (u : Text). kept ++ u) (sym (append-nil t)); gathers = ap Some same }

tag_read : (turns : ℕ) (found : Attributes) (kept t : Text) (a : Attributes) (all : Text) → length t ≤ turns → attributes_read turns found kept t ≡ Some (a, all) → ReadAs found kept t a all
unfolding attributes_read
tag_read zero found kept [] a all h e = last_read found kept [] a all tt e
tag_read zero found kept (c ∷ t) a all h e = absurd (omega (arith, h))
tag_read (suc turns) found kept t a all h e = go (λ next front rest. tag_read turns next front rest a all) (statement_split t) (split_found t) e
  where
    Later : Type 0
    Later = (next : Attributes) (front rest : Text) → length rest ≤ turns → attributes_read turns next front rest ≡ Some (a, all) → ReadAs next front rest a all

    more : Later → (x : Text × Text) (b : Attribute) (next : Attributes) → IsCutAtStatement t x.0 x.1 → attribute_of x.1 ≡ Some b → with_attribute found b ≡ Some next → attributes_read turns next (kept ++ x.0) (after_attribute x.1) ≡ Some (a, all) → ReadAs found kept t a all
    more later x b next cut is with read =
        let begins = begins_found x.1 b is in
        let one = begins_shorter x.1 b (after_attribute x.1) begins in
        let two = cut_shorter t x.0 x.1 cut in
        let ih = later next (kept ++ x.0) (after_attribute x.1) (omega (arith, h, one, two)) read in
        record { pieces = x.0 ∷ ih.pieces; each = b ∷ ih.each; spelled = SpellsTag.More cut begins ih.spelled; left = ih.left ∙ append_assoc kept x.0 (whole_text ih.pieces); gathers = ap (λ (o : Option Attributes). gathered o ih.each) with ∙ ih.gathers }

    add : Later → (x : Text × Text) (b : Attribute) → IsCutAtStatement t x.0 x.1 → attribute_of x.1 ≡ Some b → (o : Option Attributes) → with_attribute found b ≡ o
        → added (λ found_too rest. attributes_read turns found_too (kept ++ x.0) rest) (after_attribute x.1) o ≡ Some (a, all) → ReadAs found kept t a all
    add later x b cut is None with k = absurd cc
    add later x b cut is (Some next) with k = more later x b next cut is with k

    known : Later → (x : Text × Text) → IsCutAtStatement t x.0 x.1 → (o : Option Attribute) → attribute_of x.1 ≡ o
        → added (λ found_too rest. attributes_read turns found_too (kept ++ x.0) rest) (after_attribute x.1) (with_known found o) ≡ Some (a, all) → ReadAs found kept t a all
    known later x cut None is g = absurd cc
    known later x cut (Some b) is g = add later x b cut is (with_attribute found b) refl g

    go : Later → (o : Option (Text × Text)) → Splits t o → to_statement (attributes_read turns) found kept t o ≡ Some (a, all) → ReadAs found kept t a all
    go later None none f = last_read found kept t a all none f
    go later (Some x) cut f = known later x cut (attribute_of x.1) refl f

pub tag_found : (tag kept : Text) (a : Attributes) → tag_attributes tag ≡ Some (a, kept) → IsTagWith tag a kept
tag_found tag kept a e =
    let x = tag_read (length tag) no_attributes [] tag a kept (omega arith) e in
    record { pieces = x.pieces; each = x.each; spelled = x.spelled; once = each_once x.each a x.gathers; left = x.left }

spelled_read : (turns : ℕ) (found : Attributes) (kept t : Text) (a : Attributes) (pieces : List Text) (each : List Attribute) → length t ≤ turns → SpellsTag t pieces each → gathered (Some found) each ≡ Some a
    → attributes_read turns found kept t ≡ Some (a, kept ++ whole_text pieces)
unfolding attributes_read
spelled_read zero found kept t a _ _ h (SpellsTag.Last none) e =
    let same : found ≡ a = cc in
    ap (λ (f : Attributes). Some (f, kept ++ t)) same ∙ ap (λ (u : Text). Some (a, kept ++ u)) (sym (append-nil t))
spelled_read zero found kept t a _ _ h (SpellsTag.More {kept = front} {from = from} cut begins later) e = let less = cut_shorter t front from cut in absurd (omega (arith, h, less))
spelled_read (suc turns) found kept t a _ _ h (SpellsTag.Last none) e =
    let same : found ≡ a = cc in
    let no_more = split_none t none in
    ap (to_statement (attributes_read turns) found kept t) no_more ∙ ap (λ (f : Attributes). Some (f, kept ++ t)) same ∙ ap (λ (u : Text). Some (a, kept ++ u)) (sym (append-nil t))
spelled_read (suc turns) found kept t a _ _ h (SpellsTag.More {kept = front} {from = from} {later = later} {pieces = pieces} {a = b} {each = each} cut begins spelled) e =
    let is = begins_is from b later begins in
    let one = begins_shorter from b later begins in
    let two = cut_shorter t front from cut in
    ap (to_statement (attributes_read turns) found kept t) (split_is t front from cut)
    ∙ ap (λ (o : Option Attribute). added (λ found_too rest. attributes_read turns found_too (kept ++ front) rest) (after_attribute from) (with_known found o)) is.0
    ∙ ap (λ (u : Text). added (λ found_too rest. attributes_read turns found_too (kept ++ front) rest) u (with_attribute found b)) is.1
    ∙ go (with_attribute found b) e (λ next g. spelled_read turns next (kept ++ front) later a pieces each (omega (arith, h, one, two)) spelled g)
  where
    go : (o : Option Attributes) → gathered o each ≡ Some a → ((next : Attributes) → gathered (Some next) each ≡ Some a → attributes_read turns next (kept ++ front) later ≡ Some (a, (kept ++ front) ++ whole_text pieces)) → added (λ found_too rest. attributes_read turns found_too (kept ++ front) rest) later o ≡ Some (a, kept ++ (front ++ whole_text pieces))
    go None g rest = let clash : None ≡ Some a = sym (none_gathered each) ∙ g in absurd cc
    go (Some next) g rest = rest next g ∙ ap (λ (u : Text). Some (a, u)) (append_assoc kept front (whole_text pieces))

pub tag_only : (tag kept : Text) (a : Attributes) → IsTagWith tag a kept → tag_attributes tag ≡ Some (a, kept)
tag_only tag kept a x =
    spelled_read (length tag) no_attributes [] tag a x.pieces x.each (omega arith) x.spelled (once_gathered x.each a x.once) ∙ ap (λ (u : Text). Some (a, u)) (sym x.left)
