-- What an evaluation remembers stays true when it remembers more.
use Rattle.std.proofs.Common.{◌≡◌, ◌<◌, ◌+◌, ◌==◌, ℕ, nat_eq, Bool, true, false, cond, ◌&&◌, List, [], ◌∷◌, length, Option, None, Some, IfSome, refl, sym, ap, subst, ◌∙◌, ◌⊎◌, inl, inr, arith}
use Rattle.std.proofs.lemmas.Bool.Decides.{nat_tests}
use Rattle.std.proofs.lemmas.Map.Lookups.{exact_bytes}
use Rattle.std.proofs.lemmas.Map.Views.{tells_apart}
use Rattle.std.proofs.lemmas.Option.{same_Some}
use Rattle.std.proofs.lemmas.Slice.Eq.{bytes_eq-Decides}
use Rattle.std.specs.Bool.{Decides}
use Rattle.std.specs.BTreeMap.{BTreeMap, get, Updates, is_at}
use Rattle.std.specs.Ordering.{nat_cmp, is_eq, ordering_then}
use Rattle.std.specs.declared.cmp.Ordering.{Ordering}
use Rattle.std.specs.declared.cmp.Ordering.TheVariants.{Less, Equal, Greater}
use Rattle.std.specs.Cmp.Lexicographic.{slice_cmp, pointwise, pointwise_decides, lists_ties, texts_ties}
use Rattle.htl_expr.specs.Bindings.{Bindings}
use Rattle.htl_expr.specs.declared.numbered.Aspect.{Aspect}
use Rattle.htl_expr.specs.declared.pieces.ItemPiece.{ItemPiece}
use Rattle.htl_expr.specs.declared.pieces.ItemPiece.TheVariants as piece
use Rattle.htl_expr.specs.declared.scope.Scope.{Scope}
use Rattle.htl_expr.specs.ComparedValue.{by_texts, number_in, TellsApart, AreNumbered, KeepsNumbers}
use Rattle.htl_expr.specs.Lent.{property_item}
use Rattle.htl_expr.specs.Remembered.{compared_by, Knows, RemembersJoined, RemembersItemTexts, KeepsItemTexts, HasPieceText}
use Rattle.htl_expr.specs.Print.{plain}
use Rattle.sp_base.specs.Names.{by_name}
use Rattle.htl_expr.specs.Value.{property}

abbrev Table : Type 0
Table = BTreeMap (List (List ℕ)) ℕ

abbrev Numbers : Type 0
Numbers = List (List (List ℕ) × ℕ)

texts_decide : (x y : List (List ℕ)) → Decides (pointwise (pointwise nat_eq) x y) (x ≡ y)
texts_decide = pointwise_decides bytes_eq-Decides

-- compared values at one place of the order are one
texts_told : (x y : List (List ℕ)) → is_at (by_texts x) y ≡ true → x ≡ y
texts_told x y e = (texts_decide x y).0 (lists_ties (slice_cmp nat_cmp) texts_ties x y ∙ remainder (nat_cmp (length x) (length y)) (slice_cmp (slice_cmp nat_cmp) x y) e)
  where
    remainder : (o rest : Ordering) → is_eq (ordering_then o rest) ≡ true → is_eq rest ≡ true
    remainder Less rest e = absurd cc
    remainder Equal rest e = e
    remainder Greater rest e = absurd cc

clash : (n : ℕ) (o : Option ℕ) → o ≡ Some n → o ≡ None → ⊥
clash n o e f = cc

if_some : (P : ℕ → Type 0) (o : Option ℕ) (n : ℕ) → o ≡ Some n → IfSome o P → P n
if_some P o n e h = subst (λ (p : Option ℕ). IfSome p P) e h

weaker : (P Q : ℕ → Type 0) (o : Option ℕ) → ((n : ℕ) → P n → Q n) → IfSome o P → IfSome o Q
weaker P Q None f h = tt
weaker P Q (Some n) f h = f n h

-- a compared value that is given a number
pub keeps_more : (old new : Table) (compared : List (List ℕ)) (next : ℕ) → Updates by_texts old new compared (Some next) → number_in old.entries compared ≡ None → KeepsNumbers old.entries new.entries
keeps_more old new compared next updates none texts number has = updates.0 texts ∙ chosen (is_at (by_texts compared) texts) refl
  where
    chosen : (t : Bool) → is_at (by_texts compared) texts ≡ t → cond t (Some next) (number_in old.entries texts) ≡ Some number
    chosen true e = absurd (clash number (number_in old.entries texts) has (ap (number_in old.entries) (sym (texts_told compared texts e)) ∙ none))
    chosen false e = has

-- what has a number after a compared value was given one
one_of : (old new : Table) (compared : List (List ℕ)) (next : ℕ) → Updates by_texts old new compared (Some next) → (texts : List (List ℕ)) (number : ℕ) → number_in new.entries texts ≡ Some number
    → ((compared ≡ texts) × (next ≡ number)) ⊎ (number_in old.entries texts ≡ Some number)
one_of old new compared next updates texts number has = chosen (is_at (by_texts compared) texts) refl (sym (updates.0 texts) ∙ has)
  where
    chosen : (t : Bool) → is_at (by_texts compared) texts ≡ t → cond t (Some next) (number_in old.entries texts) ≡ Some number → ((compared ≡ texts) × (next ≡ number)) ⊎ (number_in old.entries texts ≡ Some number)
    chosen true e h = inl (texts_told compared texts e, same_Some next number h)
    chosen false e h = inr h

pub numbered_more : (old new : Table) (compared : List (List ℕ)) (next : ℕ) → Updates by_texts old new compared (Some next) → AreNumbered old.entries next → AreNumbered new.entries (next + 1)
numbered_more old new compared next updates known = (
  (λ a b number h k. both a b number (one_of old new compared next updates a number h) (one_of old new compared next updates b number k)),
  λ texts. below texts (number_in new.entries texts) refl,
)
  where
    under : (texts : List (List ℕ)) (number : ℕ) → number_in old.entries texts ≡ Some number → number < next
    under texts number h = if_some (λ n. n < next) (number_in old.entries texts) number h (known.1 texts)

    both : (a b : List (List ℕ)) (number : ℕ) → ((compared ≡ a) × (next ≡ number)) ⊎ (number_in old.entries a ≡ Some number) → ((compared ≡ b) × (next ≡ number)) ⊎ (number_in old.entries b ≡ Some number) → a ≡ b
    both a b number (inl p) (inl q) = sym p.0 ∙ q.0
    both a b number (inl p) (inr q) = absurd (omega (arith, p.1, under b number q))
    both a b number (inr p) (inl q) = absurd (omega (arith, q.1, under a number p))
    both a b number (inr p) (inr q) = known.0 a b number p q

    bound : (texts : List (List ℕ)) (number : ℕ) → ((compared ≡ texts) × (next ≡ number)) ⊎ (number_in old.entries texts ≡ Some number) → number < next + 1
    bound texts number (inl p) = omega (arith, p.1)
    bound texts number (inr q) = omega (arith, under texts number q)

    below : (texts : List (List ℕ)) (o : Option ℕ) → number_in new.entries texts ≡ o → IfSome o (λ n. n < next + 1)
    below texts None e = tt
    below texts (Some n) e = bound texts n (one_of old new compared next updates texts n e)

-- what is known of a name stays known
pub known_still : (scope : Bindings) (of_it : Aspect) (old new : Numbers) (known : BTreeMap (List ℕ) ℕ) → KeepsNumbers old new → Knows scope of_it old known → Knows scope of_it new known
known_still scope of_it old new known keeps knows name =
    weaker (λ n. number_in old (compared_by scope of_it name) ≡ Some n) (λ n. number_in new (compared_by scope of_it name) ≡ Some n) (get by_name known name) (keeps (compared_by scope of_it name)) (knows name)

pub known_more : (scope : Bindings) (of_it : Aspect) (classes : Numbers) (old new : BTreeMap (List ℕ) ℕ) (name : List ℕ) (number : ℕ) → Updates by_name old new name (Some number)
    → number_in classes (compared_by scope of_it name) ≡ Some number → Knows scope of_it classes old → Knows scope of_it classes new
known_more scope of_it classes old new name number updates is knows q =
    subst (λ found. IfSome found IsRight) (sym (updates.0 q)) (chosen (is_at (by_name name) q) refl)
  where
    IsRight : ℕ → Type 0
    IsRight n = number_in classes (compared_by scope of_it q) ≡ Some n

    chosen : (t : Bool) → is_at (by_name name) q ≡ t → IfSome (cond t (Some number) (get by_name old q)) IsRight
    chosen true e = ap (λ p. number_in classes (compared_by scope of_it p)) (sym (tells_apart exact_bytes name q e)) ∙ is
    chosen false e = knows q

-- two compared values are one where their numbers are
pub same_numbers : (classes : Numbers) (x y : List (List ℕ)) (n k : ℕ) → TellsApart classes → number_in classes x ≡ Some n → number_in classes y ≡ Some k → (n == k) ≡ pointwise (pointwise nat_eq) x y
same_numbers classes x y n k apart first second = go (n == k) refl
  where
    alike : (n k : ℕ) → (n == k) ≡ true → n ≡ k
    alike n k e = grind (arith, nat_tests)

    unlike : (n k : ℕ) → (n == k) ≡ false → n ≡ k → ⊥
    unlike n k e f = grind (arith, nat_tests)

    is_false : (b : Bool) → (b ≡ true → ⊥) → b ≡ false
    is_false true f = absurd (f refl)
    is_false false f = refl

    go : (t : Bool) → (n == k) ≡ t → t ≡ pointwise (pointwise nat_eq) x y
    go true e = sym ((texts_decide x y).1 (apart x y n first (second ∙ ap Some (sym (alike n k e)))))
    go false e = sym (is_false (pointwise (pointwise nat_eq) x y) (λ same. unlike n k e (same_Some n k (sym first ∙ ap (number_in classes) ((texts_decide x y).0 same) ∙ second))))

pub one_text : (x y : List ℕ) → pointwise (pointwise nat_eq) (x ∷ []) (y ∷ []) ≡ pointwise nat_eq x y
one_text x y = alone (pointwise nat_eq x y)
  where
    alone : (b : Bool) → (b && true) ≡ b
    alone true = refl
    alone false = refl

pub remembers_more_joined : (scope : Scope) (old new : BTreeMap (List ℕ) (List ℕ)) (name text : List ℕ) → Updates by_name old new name (Some text)
    → text ≡ plain [] (property scope name) → RemembersJoined scope old → RemembersJoined scope new
remembers_more_joined scope old new name text updates is known q =
    subst (λ found. IfSome found IsRight) (sym (updates.0 q)) (chosen (is_at (by_name name) q) refl)
  where
    IsRight : List ℕ → Type 0
    IsRight t = t ≡ plain [] (property scope q)

    chosen : (t : Bool) → is_at (by_name name) q ≡ t → IfSome (cond t (Some text) (get by_name old q)) IsRight
    chosen true e = is ∙ ap (λ p. plain [] (property scope p)) (tells_apart exact_bytes name q e)
    chosen false e = known q

pub remembers_more_items : (scope : Scope) (old new : BTreeMap (List ℕ) (List ℕ)) (name text : List ℕ) → Updates by_name old new name (Some text)
    → text ≡ property_item scope name → RemembersItemTexts scope old → RemembersItemTexts scope new
remembers_more_items scope old new name text updates is known q =
    subst (λ found. IfSome found IsRight) (sym (updates.0 q)) (chosen (is_at (by_name name) q) refl)
  where
    IsRight : List ℕ → Type 0
    IsRight t = t ≡ property_item scope q

    chosen : (t : Bool) → is_at (by_name name) q ≡ t → IfSome (cond t (Some text) (get by_name old q)) IsRight
    chosen true e = is ∙ ap (property_item scope) (tells_apart exact_bytes name q e)
    chosen false e = known q

pub what_is_kept : (scope : Scope) (known : BTreeMap (List ℕ) (List ℕ)) (name text : List ℕ) → get by_name known name ≡ Some text → RemembersItemTexts scope known → text ≡ property_item scope name
what_is_kept scope known name text is remembers = subst (λ (o : Option (List ℕ)). IfSome o (λ t. t ≡ property_item scope name)) is (remembers name)

-- a piece that has its text keeps it
pub has_text_still : (scope : Bindings) (old new : BTreeMap (List ℕ) (List ℕ)) (of_it : ItemPiece) → KeepsItemTexts old new → HasPieceText scope old of_it → HasPieceText scope new of_it
has_text_still scope old new (piece.Property name) keeps has = λ e. keeps name.now (has e)
has_text_still scope old new (piece.Text text) keeps has = tt
has_text_still scope old new (piece.Long n) keeps has = tt
