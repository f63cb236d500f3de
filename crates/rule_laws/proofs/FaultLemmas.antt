-- Rows of the table that are at fault, and those that are right.
use Rattle.std.proofs.Common.{◌≡◌, ◌⊎◌, inl, inr, ℕ, List, [], ◌∷◌, ◌++◌, Option, Some, None, Ok, Err, refl, ap, sym, ◌∙◌, subst}
use Rattle.std.specs.Prelude.{Result}
use Rattle.sp_base.specs.Outcomes.{◌>>=◌}
use Rattle.glob_rules.specs.Reading.{glob_of}
use Rattle.glob_rules.specs.declared.fault.GlobFault.{GlobFault}
use Rattle.glob_rules.specs.declared.piece.GlobPiece.{GlobPiece}
use Rattle.regex_rules.specs.Reading.{pattern_of}
use Rattle.regex_rules.specs.declared.fault.PatternFault.{PatternFault}
use Rattle.regex_rules.specs.declared.place.PatternPlace.{PatternPlace}
use Rattle.any_config.specs.Farms.{FarmOutcome, member_value, group_in, group_of, member_word_in, member_word, or_missing, needed_group, group_or_none, optional_group, each_after, each, decimal, or_bad, number_or_zero, member_number, glob_or_bad, glob, pattern_or_bad, pattern}
use Rattle.any_config.specs.Read.{Members}
use Rattle.any_config.specs.declared.farm_fault.FarmFault.{FarmFault}
use Rattle.any_config.specs.declared.farm_fault.FarmFault.TheVariants.{BadKind, Missing, NotSupported}
use Rattle.any_config.specs.declared.node.AnyNode.{AnyNode, out-AnyNode}
use Rattle.any_config.specs.declared.node.AnyNode.TheOpen.{AnyNode-F}
use Rattle.rule_laws.specs.FarmFaults.{InTurn, IsNoGroup, IsNoWord, HasNoGroup, LacksGroup, IsBadNumber, IsFirstBad}
use Rattle.rule_laws.specs.FarmTable.{HasGroup, HasMember, HasNumber, IsGroup, IsWord}
use Rattle.rule_laws.proofs.MemberLemmas.{group_found, group_only, word_found, word_only, lacks_found, lacks_only, member_found, member_only, number_found, number_only}

-- ---- steps

-- a reading fails with this fault exactly where this holds
pub record Fails {A : Type 0} (m : FarmOutcome A) (fault : FarmFault) (P : Type 0) : Type 0 where
  pub found : m ≡ Err fault → P
  pub only : P → m ≡ Err fault

-- a row: where it is right, and where it is at fault
pub record Row {A : Type 0} (m : FarmOutcome A) (Right : Type 0) (fault : FarmFault) (Bad : Type 0) : Type 0 where
  pub fails : Fails m fault Bad
  pub right : (x : A) → m ≡ Ok x → Right
  pub reads : Right → (x : A) × (m ≡ Ok x)

pub never : {A : Type 0} (x : A) (fault : FarmFault) → Fails (let m : FarmOutcome A = Ok x in m) fault ⊥
never x fault = record { found = λ e. absurd cc; only = λ bad. absurd bad }

-- the same by another word of what holds
pub as_said : {A : Type 0} (m : FarmOutcome A) (fault : FarmFault) (P Q : Type 0) → (P → Q) → (Q → P) → Fails m fault P → Fails m fault Q
as_said m fault P Q to from f = record { found = λ e. to (f.found e); only = λ q. f.only (from q) }

pub fault_is : {B : Type 0} (one other : FarmFault) → ◌≡◌ {A = FarmOutcome B} (Err one) (Err other) → one ≡ other
fault_is one other e = cc

module _ {A B : Type 0} (m : FarmOutcome A) (f : A → FarmOutcome B) (fault : FarmFault) where
  -- what fails first, or later
  pub split : (P Q : Type 0) → ((x : A) → m ≡ Ok x → f x ≡ Err fault → Q) → (m ≡ Err fault → P) → (m >>= f) ≡ Err fault → P ⊎ Q
  split P Q later here e = find m refl e
    where
      find : (o : FarmOutcome A) → m ≡ o → (o >>= f) ≡ Err fault → P ⊎ Q
      find (Ok x) is g = inr (later x is g)
      find (Err other) is g = inl (here (is ∙ ap Err (fault_is other fault g)))

  pub turn : (Right Bad Later : Type 0) → Row m Right fault Bad → ((x : A) → Fails (f x) fault Later) → Fails (m >>= f) fault (InTurn Bad Right Later)
  turn Right Bad Later row later = record {
    found = λ e. split Bad (Right × Later) (λ x is g. (row.right x is, (later x).found g)) row.fails.found e;
    only = λ t. fail t;
  }
    where
      fail : InTurn Bad Right Later → (m >>= f) ≡ Err fault
      fail (inl bad) = ap (λ o. o >>= f) (row.fails.only bad)
      fail (inr pair) = let read = row.reads pair.0 in ap (λ o. o >>= f) read.1 ∙ (later read.0).only pair.1

  -- nothing that follows fails
  pub last : (Right Bad : Type 0) → Row m Right fault Bad → ((x : A) → Fails (f x) fault ⊥) → Fails (m >>= f) fault Bad
  last Right Bad row later = record {
    found = λ e. first (split Bad ⊥ (λ x is g. (later x).found g) row.fails.found e);
    only = λ bad. ap (λ o. o >>= f) (row.fails.only bad);
  }
    where
      first : Bad ⊎ ⊥ → Bad
      first (inl bad) = bad
      first (inr none) = absurd none

-- ---- values

no_group : (name : List ℕ) (value : AnyNode) (fault : FarmFault) → Fails (group_of name value) fault (IsNoGroup name value fault)
no_group name value fault = record { found = λ e. go (out-AnyNode value) refl e; only = λ bad. fail fault bad }
  where
    go : (n : AnyNode-F AnyNode) → out-AnyNode value ≡ n → group_in name n ≡ Err fault → IsNoGroup name value fault
    go (AnyNode-F.Word text) is e = subst (λ (f : FarmFault). IsNoGroup name value f) (fault_is (BadKind name) fault e) (IsNoGroup.Word is)
    go (AnyNode-F.Pattern text) is e = subst (λ (f : FarmFault). IsNoGroup name value f) (fault_is (NotSupported name) fault e) (IsNoGroup.Quoted is)
    go (AnyNode-F.Group ms) is e = absurd cc

    fail : (f : FarmFault) → IsNoGroup name value f → group_of name value ≡ Err f
    fail f (IsNoGroup.Word is) = ap (group_in name) is
    fail f (IsNoGroup.Quoted is) = ap (group_in name) is

pub no_word : (name : List ℕ) (value : AnyNode) (fault : FarmFault) → Fails (member_word name value) fault (IsNoWord name value fault)
no_word name value fault = record { found = λ e. go (out-AnyNode value) refl e; only = λ bad. fail fault bad }
  where
    go : (n : AnyNode-F AnyNode) → out-AnyNode value ≡ n → member_word_in name n ≡ Err fault → IsNoWord name value fault
    go (AnyNode-F.Word text) is e = absurd cc
    go (AnyNode-F.Pattern text) is e = subst (λ (f : FarmFault). IsNoWord name value f) (fault_is (NotSupported name) fault e) (IsNoWord.Quoted is)
    go (AnyNode-F.Group ms) is e = subst (λ (f : FarmFault). IsNoWord name value f) (fault_is (BadKind name) fault e) (IsNoWord.Group is)

    fail : (f : FarmFault) → IsNoWord name value f → member_word name value ≡ Err f
    fail f (IsNoWord.Group is) = ap (member_word_in name) is
    fail f (IsNoWord.Quoted is) = ap (member_word_in name) is

-- of a group that is read on
module _ {B : Type 0} (f : Members → FarmOutcome B) (fault : FarmFault) (Later : Members → Type 0) (later : (ms : Members) → Fails (f ms) fault (Later ms)) where
  pub group_then : (name : List ℕ) (value : AnyNode) → Fails (group_of name value >>= f) fault (IsNoGroup name value fault ⊎ ((group : Members) × IsGroup value group × Later group))
  group_then name value = record {
    found = λ e. split (group_of name value) f fault (IsNoGroup name value fault) ((group : Members) × IsGroup value group × Later group) (λ group is g. (group, group_found name value group is, (later group).found g)) (no_group name value fault).found e;
    only = λ bad. fail bad;
  }
    where
      fail : IsNoGroup name value fault ⊎ ((group : Members) × IsGroup value group × Later group) → (group_of name value >>= f) ≡ Err fault
      fail (inl none) = ap (λ o. o >>= f) ((no_group name value fault).only none)
      fail (inr some) = ap (λ o. o >>= f) (group_only name value some.0 some.1) ∙ (later some.0).only some.2

  -- the group of a name, if the member is there
  abbrev Bad : Members → List ℕ → Type 0
  Bad ms name = HasNoGroup ms name fault ⊎ ((group : Members) × HasGroup ms name group × Later group)

  of_value : (ms : Members) (name : List ℕ) (value : AnyNode) → HasMember ms name value → (group_of name value >>= f) ≡ Err fault → Bad ms name
  of_value ms name value there e = go ((group_then name value).found e)
    where
      go : IsNoGroup name value fault ⊎ ((group : Members) × IsGroup value group × Later group) → Bad ms name
      go (inl none) = inl (value, there, none)
      go (inr some) = inr (some.0, record { value = value; there = there; is = some.1 }, some.2)

  pub needed_then : (ms : Members) (name : List ℕ) → Fails (needed_group name ms >>= f) fault (LacksGroup ms name fault ⊎ ((group : Members) × HasGroup ms name group × Later group))
  unfolding needed_group
  needed_then ms name = record { found = λ e. go (member_value name ms) refl e; only = λ bad. fail bad }
    where
      side : Bad ms name → LacksGroup ms name fault ⊎ ((group : Members) × HasGroup ms name group × Later group)
      side (inl none) = inl (inr none)
      side (inr some) = inr some

      go : (o : Option AnyNode) → member_value name ms ≡ o → ((or_missing name o >>= λ value. group_of name value) >>= f) ≡ Err fault → LacksGroup ms name fault ⊎ ((group : Members) × HasGroup ms name group × Later group)
      go None is e = inl (inl (lacks_found name ms is, sym (fault_is (Missing name) fault e)))
      go (Some value) is e = side (of_value ms name value (member_found name ms value is) e)

      by : (o : Option AnyNode) → member_value name ms ≡ o → ((or_missing name o >>= λ value. group_of name value) >>= f) ≡ Err fault → ((or_missing name (member_value name ms) >>= λ value. group_of name value) >>= f) ≡ Err fault
      by o is e = ap (λ o. (or_missing name o >>= λ value. group_of name value) >>= f) is ∙ e

      fail : LacksGroup ms name fault ⊎ ((group : Members) × HasGroup ms name group × Later group) → ((or_missing name (member_value name ms) >>= λ value. group_of name value) >>= f) ≡ Err fault
      fail (inl (inl lacks)) = by None (lacks_only name ms lacks.0) (ap Err (sym lacks.1))
      fail (inl (inr none)) = by (Some none.0) (member_only name ms none.0 none.1) ((group_then name none.0).only (inl none.2))
      fail (inr some) = by (Some some.1.value) (member_only name ms some.1.value some.1.there) ((group_then name some.1.value).only (inr (some.0, some.1.is, some.2)))

  pub optional_then : (ms : Members) (name : List ℕ) → Fails (f []) fault ⊥ → Fails (optional_group name ms >>= f) fault (Bad ms name)
  unfolding optional_group
  optional_then ms name empty = record { found = λ e. go (member_value name ms) refl e; only = λ bad. fail bad }
    where
      go : (o : Option AnyNode) → member_value name ms ≡ o → (group_or_none name o >>= f) ≡ Err fault → Bad ms name
      go None is e = absurd (empty.found e)
      go (Some value) is e = of_value ms name value (member_found name ms value is) e

      by : (o : Option AnyNode) → member_value name ms ≡ o → (group_or_none name o >>= f) ≡ Err fault → (group_or_none name (member_value name ms) >>= f) ≡ Err fault
      by o is e = ap (λ o. group_or_none name o >>= f) is ∙ e

      fail : Bad ms name → (group_or_none name (member_value name ms) >>= f) ≡ Err fault
      fail (inl none) = by (Some none.0) (member_only name ms none.0 none.1) ((group_then name none.0).only (inl none.2))
      fail (inr some) = by (Some some.1.value) (member_only name ms some.1.value some.1.there) ((group_then name some.1.value).only (inr (some.0, some.1.is, some.2)))

-- ---- lists

module _ {B : Type 0} (read : List ℕ × AnyNode → FarmOutcome B) (R : List ℕ × AnyNode → B → Type 0) (Bad : List ℕ × AnyNode → FarmFault → Type 0) (fault : FarmFault)
    (row : (m : List ℕ × AnyNode) → Row (read m) ((b : B) × R m b) fault (Bad m fault)) where
  after_fails : (found : List B) (ms : Members) → Fails (each_after read found ms) fault (IsFirstBad R Bad fault ms)
  after_fails found [] = never found fault
  after_fails found (m ∷ ms) = turn (read m) (λ y. each_after read (found ++ y ∷ []) ms) fault ((b : B) × R m b) (Bad m fault) (IsFirstBad R Bad fault ms) (row m) (λ y. after_fails (found ++ y ∷ []) ms)

  pub each_fails : (ms : Members) → Fails (each read ms) fault (IsFirstBad R Bad fault ms)
  each_fails ms = after_fails [] ms

-- ---- numbers

pub bad_number : (name : List ℕ) (o : Option ℕ) (fault : FarmFault) → or_bad name o ≡ Err fault → (o ≡ None) × (fault ≡ BadKind name)
bad_number name None fault e = (refl, sym (fault_is (BadKind name) fault e))
bad_number name (Some n) fault e = absurd cc

pub number_row : (ms : Members) (name : List ℕ) (most : ℕ) (fault : FarmFault) → Row (member_number name most ms) ((n : ℕ) × HasNumber ms name most n) fault (IsBadNumber ms name most fault)
unfolding member_number
number_row ms name most fault = record {
  fails = record { found = λ e. go (member_value name ms) refl e; only = λ bad. fail bad };
  right = λ n e. (n, number_found name most ms n e);
  reads = λ some. (some.0, number_only name most ms some.0 some.1);
}
  where
    of_text : (value : AnyNode) → HasMember ms name value → (text : List ℕ) → IsWord value text → or_bad name (decimal most text) ≡ Err fault → IsBadNumber ms name most fault
    of_text value there text is e = let bad = bad_number name (decimal most text) fault e in inr ((text, record { value = value; there = there; is = is }, bad.0), bad.1)

    of_value : (value : AnyNode) → HasMember ms name value → (member_word name value >>= λ text. or_bad name (decimal most text)) ≡ Err fault → IsBadNumber ms name most fault
    of_value value there e = side (split (member_word name value) (λ text. or_bad name (decimal most text)) fault (IsNoWord name value fault) (IsBadNumber ms name most fault) (λ text is g. of_text value there text (word_found name value text is) g) (no_word name value fault).found e)
      where
        side : IsNoWord name value fault ⊎ IsBadNumber ms name most fault → IsBadNumber ms name most fault
        side (inl none) = inl (value, there, none)
        side (inr bad) = bad

    go : (o : Option AnyNode) → member_value name ms ≡ o → number_or_zero name most o ≡ Err fault → IsBadNumber ms name most fault
    go None is e = absurd cc
    go (Some value) is e = of_value value (member_found name ms value is) e

    fail : IsBadNumber ms name most fault → number_or_zero name most (member_value name ms) ≡ Err fault
    fail (inl none) = ap (number_or_zero name most) (member_only name ms none.0 none.1) ∙ ap (λ o. o >>= λ text. or_bad name (decimal most text)) ((no_word name none.0 fault).only none.2)
    fail (inr bad) =
        let at = bad.0.1 in
        ap (number_or_zero name most) (member_only name ms at.value at.there)
        ∙ ap (λ o. o >>= λ text. or_bad name (decimal most text)) (word_only name at.value bad.0.0 at.is)
        ∙ ap (or_bad name) bad.0.2 ∙ ap Err (sym bad.1)

-- ---- globs and patterns

pub glob_fails : (name text : List ℕ) (fault : FarmFault) → Fails (glob name text) fault (((f : GlobFault) × (glob_of text ≡ Err f)) × (fault ≡ BadKind name))
unfolding glob
glob_fails name text fault = record { found = λ e. go (glob_of text) refl e; only = λ bad. ap (glob_or_bad name) bad.0.1 ∙ ap Err (sym bad.1) }
  where
    go : (o : Result (List GlobPiece) GlobFault) → glob_of text ≡ o → glob_or_bad name o ≡ Err fault → ((f : GlobFault) × (glob_of text ≡ Err f)) × (fault ≡ BadKind name)
    go (Ok g) is e = absurd cc
    go (Err f) is e = ((f, is), sym (fault_is (BadKind name) fault e))

pub pattern_fails : (name text : List ℕ) (fault : FarmFault) → Fails (pattern name text) fault (((f : PatternFault) × (pattern_of text ≡ Err f)) × (fault ≡ BadKind name))
unfolding pattern
pattern_fails name text fault = record { found = λ e. go (pattern_of text) refl e; only = λ bad. ap (pattern_or_bad name) bad.0.1 ∙ ap Err (sym bad.1) }
  where
    go : (o : Result (List PatternPlace) PatternFault) → pattern_of text ≡ o → pattern_or_bad name o ≡ Err fault → ((f : PatternFault) × (pattern_of text ≡ Err f)) × (fault ≡ BadKind name)
    go (Ok p) is e = absurd cc
    go (Err f) is e = ((f, is), sym (fault_is (BadKind name) fault e))
