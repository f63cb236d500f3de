-- In what is left of a tag no statement begins.
use Rattle.std.proofs.Common.{◌≡◌, ℕ, Bool, true, false, cond, not, ◌&&◌, eqb, nat_eq, List, [], ◌∷◌, ◌++◌, Option, is_none, refl, ap, sym, subst, ◌∙◌, arith, append-nil, append_assoc}
use Rattle.std.proofs.lemmas.Bool.{and_parts, eqb-true}
use Rattle.std.proofs.lemmas.Bool.Decides.{nat_tests}
use Rattle.std.specs.List.{AllByRecursion, list_all, starts_with}
use Rattle.sp_base.specs.Texts.{Text}
use Rattle.htl_syntax.specs.Tokens.{is_blank, is_quote}
use Rattle.htl_blocks.specs.declared.attribute.Attribute.{Attribute}
use Rattle.htl_blocks.specs.declared.quoting.Quoting.{Quoting}
use Rattle.htl_blocks.specs.declared.quoting.Quoting.TheVariants.{Outside, Within}
use Rattle.htl_blocks.specs.Markup.{begins_tag, markup_quoting_step}
use Rattle.htl_blocks.specs.Attributes.{begins_statement, is_block_tag, statement_prefix}
use Rattle.htl_blocks.specs.Spelling.{whole_text}
use Rattle.block_laws.specs.PartKinds.{quoting_after, HoldsOfNone}
use Rattle.block_laws.specs.TagStatements.{AreBlanks, ArePiecesApart, goes_on_after_values, GoesOnAfterValues, IsCutAtStatement, SpellsTag}
use Rattle.block_laws.proofs.Scans.{scan_none}
use Rattle.block_laws.proofs.TagLemmas.{statement_scans}

-- ---- places in quotes

after_both : (quoting : Quoting) (s t : Text) → quoting_after quoting (s ++ t) ≡ quoting_after (quoting_after quoting s) t
after_both quoting [] t = refl
after_both quoting (c ∷ s) t = after_both (markup_quoting_step quoting c) s t

-- quotes are opened by quote marks
abbrev AreQuotes : Quoting → Type 0
AreQuotes Outside = Unit {0}
AreQuotes (Within mark) = is_quote mark ≡ true

step_quotes : (quoting : Quoting) (c : ℕ) → AreQuotes quoting → AreQuotes (markup_quoting_step quoting c)
step_quotes Outside c are = go (is_quote c) refl
  where
    go : (b : Bool) → is_quote c ≡ b → AreQuotes (cond b (Within c) Outside)
    go true e = e
    go false e = tt
step_quotes (Within mark) c are = go (eqb c mark)
  where
    go : (b : Bool) → AreQuotes (cond b Outside (Within mark))
    go true = tt
    go false = are

after_quotes : (quoting : Quoting) (s : Text) → AreQuotes quoting → AreQuotes (quoting_after quoting s)
after_quotes quoting [] are = are
after_quotes quoting (c ∷ s) are = after_quotes (markup_quoting_step quoting c) s (step_quotes quoting c are)

blank_no_quote : (c : ℕ) → is_blank c ≡ true → is_quote c ≡ false
blank_no_quote c e = grind (arith, nat_tests)

blank_no_mark : (c mark : ℕ) → is_blank c ≡ true → is_quote mark ≡ true → eqb c mark ≡ false
blank_no_mark c mark e q = go (eqb c mark) refl
  where
    go : (b : Bool) → eqb c mark ≡ b → b ≡ false
    go true is = let clash : true ≡ false = sym q ∙ ap is_quote (sym (eqb-true c mark is)) ∙ blank_no_quote c e in absurd cc
    go false is = refl

blank_step : (quoting : Quoting) (c : ℕ) → AreQuotes quoting → is_blank c ≡ true → markup_quoting_step quoting c ≡ quoting
blank_step Outside c are e = rw (blank_no_quote c e) refl
blank_step (Within mark) c are e = rw (blank_no_mark c mark e are) refl

blanks_step : (quoting : Quoting) (blanks : Text) → AreQuotes quoting → AreBlanks blanks → quoting_after quoting blanks ≡ quoting
blanks_step quoting [] are all = refl
blanks_step quoting (c ∷ blanks) are all =
    let both = and_parts (is_blank c) (list_all is_blank blanks) all in
    let same = blank_step quoting c are both.0 in
    ap (λ (q : Quoting). quoting_after q blanks) same ∙ blanks_step quoting blanks are both.1

outside_here : (quoting : Quoting) (c : ℕ) (t : Text) → begins_statement quoting c t ≡ true → quoting ≡ Outside
unfolding begins_statement
outside_here Outside c t e = refl
outside_here (Within mark) c t e = absurd cc

-- a piece that is kept ends outside quotes
kept_outside : (t kept from : Text) → IsCutAtStatement t kept from → quoting_after Outside kept ≡ Outside
kept_outside t kept from x =
    sym (blanks_step (quoting_after Outside kept) x.blanks (after_quotes Outside kept tt) x.are_blanks)
    ∙ sym (after_both Outside kept x.blanks) ∙ outside_here (quoting_after Outside (kept ++ x.blanks)) x.blank from x.here

-- ---- what follows a piece

abbrev is_inner : ℕ → Bool
is_inner c = not (goes_on_after_values c)

-- a text begins alike, whatever is apart from it
starts_before : (start s old new : Text) → list_all is_inner start ≡ true → GoesOnAfterValues new → starts_with nat_eq (s ++ new) start ≡ true → starts_with nat_eq (s ++ old) start ≡ true
starts_before [] s old new inner apart e = refl
starts_before (d ∷ start) [] old [] inner apart e = absurd cc
starts_before (d ∷ start) [] old (c ∷ new) inner apart e =
    let both = and_parts (eqb d c) (starts_with nat_eq new start) e in
    let word = and_parts (is_inner d) (list_all is_inner start) inner in
    let clash : false ≡ true = ap not (sym apart) ∙ ap is_inner (sym (eqb-true d c both.0)) ∙ word.0 in absurd cc
starts_before (d ∷ start) (c ∷ s) old new inner apart e =
    let both = and_parts (eqb d c) (starts_with nat_eq (s ++ new) start) e in
    let word = and_parts (is_inner d) (list_all is_inner start) inner in
    let ih = starts_before start s old new word.1 apart both.1 in
    rw (both.0, ih) refl

no_other_statement : (quoting : Quoting) (c : ℕ) (s old new : Text) → GoesOnAfterValues new → begins_statement quoting c (s ++ old) ≡ false → begins_statement quoting c (s ++ new) ≡ false
unfolding begins_statement
no_other_statement (Within mark) c s old new apart e = refl
no_other_statement Outside c s old new apart e = go (is_blank c && starts_with nat_eq (s ++ new) statement_prefix) refl
  where
    go : (b : Bool) → (is_blank c && starts_with nat_eq (s ++ new) statement_prefix) ≡ b → b ≡ false
    go true is =
        let both = and_parts (is_blank c) (starts_with nat_eq (s ++ new) statement_prefix) is in
        let there = starts_before statement_prefix s old new refl apart both.1 in
        let clash : true ≡ false = sym (ap (λ (b : Bool). b && true) both.0) ∙ ap (λ (b : Bool). is_blank c && b) (sym there) ∙ e in absurd cc
    go false is = refl

other_later : (quoting : Quoting) (s old new : Text) → GoesOnAfterValues new → HoldsOfNone begins_statement quoting s old → HoldsOfNone begins_statement quoting s new
other_later quoting [] old new apart none = tt
other_later quoting (c ∷ s) old new apart none = (no_other_statement quoting c s old new apart none.0, other_later (markup_quoting_step quoting c) s old new apart none.1)

-- ---- two texts, one after the other

front : (test : Quoting → ℕ → Text → Bool) (quoting : Quoting) (s t later : Text) → HoldsOfNone test quoting (s ++ t) later → HoldsOfNone test quoting s (t ++ later)
front test quoting [] t later none = tt
front test quoting (c ∷ s) t later none = (ap (test quoting c) (sym (append_assoc s t later)) ∙ none.0, front test (markup_quoting_step quoting c) s t later none.1)

joined : (test : Quoting → ℕ → Text → Bool) (quoting : Quoting) (s t : Text) → HoldsOfNone test quoting s t → HoldsOfNone test (quoting_after quoting s) t [] → HoldsOfNone test quoting (s ++ t) []
joined test quoting [] t one two = two
joined test quoting (c ∷ s) t one two = (ap (test quoting c) (append-nil (s ++ t)) ∙ one.0, joined test (markup_quoting_step quoting c) s t one.1 two)

apart_text : (pieces : List Text) → AllByRecursion GoesOnAfterValues pieces → GoesOnAfterValues (whole_text pieces)
apart_text [] all = tt
apart_text ([] ∷ pieces) all = apart_text pieces all.1
apart_text ((c ∷ piece) ∷ pieces) all = all.0

fewer_apart : (pieces : List Text) → AllByRecursion GoesOnAfterValues pieces → ArePiecesApart pieces
fewer_apart [] all = tt
fewer_apart (piece ∷ pieces) all = all.1

left_of : (t : Text) (pieces : List Text) (each : List Attribute) → SpellsTag t pieces each → ArePiecesApart pieces → HoldsOfNone begins_statement Outside (whole_text pieces) []
left_of t _ _ (SpellsTag.Last none) apart = subst (λ (u : Text). HoldsOfNone begins_statement Outside u []) (sym (append-nil t)) none
left_of t _ _ (SpellsTag.More {kept = kept} {from = from} {later = later} {pieces = pieces} {each = each} cut begins spelled) apart =
    let before = front begins_statement Outside kept cut.blanks (cut.blank ∷ from) cut.first in
    let one = other_later Outside kept (cut.blanks ++ cut.blank ∷ from) (whole_text pieces) (apart_text pieces apart) before in
    let ih = left_of later pieces each spelled (fewer_apart pieces apart) in
    let two = subst (λ (q : Quoting). HoldsOfNone begins_statement q (whole_text pieces) []) (sym (kept_outside t kept from cut)) ih in
    joined begins_statement Outside kept (whole_text pieces) one two

pub none_left : (tag : Text) (pieces : List Text) (each : List Attribute) → SpellsTag tag pieces each → ArePiecesApart pieces → is_block_tag (whole_text pieces) ≡ false
unfolding is_block_tag
none_left tag pieces each spelled apart =
    let left = whole_text pieces in
    let place = statement_scans Outside 0 left ∙ scan_none begins_statement Outside 0 left (left_of tag pieces each spelled apart) in
    ap (λ (o : Option ℕ). begins_tag left && not (is_none o)) place ∙ go (begins_tag left)
  where
    go : (b : Bool) → (b && false) ≡ false
    go true = refl
    go false = refl
