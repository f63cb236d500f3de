-- What two properties are told apart by. Only the invariant of `Evaluation`, proofs and private functions need this.
use Rattle.std.specs.Prelude.{◌≡◌, ℕ, ◌<◌, List, [], ◌∷◌, Option, Some, IfSome, length, map}
use Rattle.std.specs.Fmt.{signed_decimal}
use Rattle.std.specs.declared.cmp.Ordering.{Ordering}
use Rattle.std.specs.Ordering.{nat_cmp, on, then_cmp}
use Rattle.std.proofs.lemmas.Cmp.{then_total, on_total, lists_total, nat_cmp_total, nat_list_cmp_total}
use Rattle.std.specs.Cmp.{IsTotalOrder}
use Rattle.std.specs.Cmp.Lexicographic.{slice_cmp}
use Rattle.std.specs.BTreeMap.{is_at}
use Rattle.std.specs.Map.{lookup}
use Rattle.sp_base.specs.Texts.{Text}
use Rattle.htl_expr.specs.declared.compared_value.Texts.{Texts}
use Rattle.htl_expr.specs.declared.compared_value.Texts.TheVariants as texts
use Rattle.htl_expr.specs.Print.{truth_text}

-- a text alone, or the texts of a list
abbrev pub texts_of : Texts → List Text
texts_of texts.Nothing = []
texts_of (texts.One text) = text.now ∷ []
texts_of (texts.Made text) = text ∷ []
texts_of (texts.Stored list) = list.now
texts_of (texts.Longs list) = map signed_decimal list.now
texts_of (texts.Truths list) = map truth_text list.now

-- lists in the order of their lengths, and those that are as long in that of their first texts that differ
abbrev pub by_texts : List Text → List Text → Ordering
by_texts = then_cmp (on length nat_cmp) (slice_cmp (slice_cmp nat_cmp))

-- that is a total order
pub by_texts_total : IsTotalOrder by_texts
by_texts_total = then_total (on_total length nat_cmp_total) (lists_total nat_list_cmp_total)

-- the number that a compared value has in a table
abbrev pub number_in : List (List Text × ℕ) → List Text → Option ℕ
number_in numbers texts = lookup (is_at (by_texts texts)) numbers

-- compared values that have one number are one
abbrev pub TellsApart : List (List Text × ℕ) → Type 0
TellsApart numbers = (a b : List Text) (number : ℕ) → number_in numbers a ≡ Some number → number_in numbers b ≡ Some number → a ≡ b

-- no two compared values have one number, and all numbers are below the next
abbrev pub AreNumbered : List (List Text × ℕ) → ℕ → Type 0
AreNumbered numbers next = TellsApart numbers × ((texts : List Text) → IfSome (number_in numbers texts) (λ number. number < next))

-- what has a number keeps it
abbrev pub KeepsNumbers : List (List Text × ℕ) → List (List Text × ℕ) → Type 0
KeepsNumbers old new = (texts : List Text) (number : ℕ) → number_in old texts ≡ Some number → number_in new texts ≡ Some number
