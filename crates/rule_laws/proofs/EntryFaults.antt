-- Entries and hosts that are at fault.
use Rattle.std.proofs.Common.{◌≡◌, ◌≢◌, ◌⊎◌, inl, inr, ℕ, Bool, true, false, cond, List, [], ◌∷◌, Option, Some, None, Ok, Err, codes, refl, ap, sym, ◌∙◌}
use Rattle.sp_base.specs.Outcomes.{◌>>=◌}
use Rattle.glob_rules.specs.Reading.{glob_of}
use Rattle.glob_rules.specs.declared.fault.GlobFault.{GlobFault}
use Rattle.glob_rules.specs.declared.piece.GlobPiece.{GlobPiece}
use Rattle.glob_rules.specs.declared.rule.Rule.{Rule}
use Rattle.regex_rules.specs.Reading.{pattern_of}
use Rattle.regex_rules.specs.declared.fault.PatternFault.{PatternFault}
use Rattle.any_config.specs.Farms.{FarmOutcome, is_member_name, member_value, member_word, or_bad, glob, glob_or_none, glob_at, pattern, test_in, test_of, test_or_none, test_at, rule_type, allow, rule, filter, entry, name_or}
use Rattle.any_config.specs.Read.{Members}
use Rattle.any_config.specs.declared.farm.Filter.{Filter}
use Rattle.any_config.specs.declared.farm.Test.{Test}
use Rattle.any_config.specs.declared.farm.Test.TheVariants as test
use Rattle.any_config.specs.declared.farm_fault.FarmFault.{FarmFault}
use Rattle.any_config.specs.declared.farm_fault.FarmFault.TheVariants.{BadKind}
use Rattle.any_config.specs.declared.node.AnyNode.{AnyNode, out-AnyNode}
use Rattle.any_config.specs.declared.node.AnyNode.TheOpen.{AnyNode-F}
use Rattle.rule_laws.specs.Alike.{test_names}
use Rattle.rule_laws.specs.FarmFaults.{IsNoWord, IsBadType, IsBadGlob, IsBadTest, IsFirstBadTest, IsBadRule, IsBadFilter, IsBadEntry}
use Rattle.rule_laws.specs.FarmTable.{HasMember, HasTest, IsFilterEntry, IsRuleEntry, SaysAllow}
use Rattle.rule_laws.proofs.MemberLemmas.{bind_found, lacks_found, lacks_only, member_found, member_only, named_not, not_named, ok_is, word_found, word_only}
use Rattle.rule_laws.proofs.EntryLemmas.{allow_found, allow_only, filter_found, filter_only, rule_found, rule_only, test_found, test_only}
use Rattle.rule_laws.proofs.FaultLemmas.{Fails, Row, fault_is, glob_fails, group_then, never, no_word, pattern_fails, split, turn}

-- ---- `/type`

type_found : (text : List ℕ) (fault : FarmFault) → rule_type text ≡ Err fault → (text ≢ codes "allow") × (text ≢ codes "deny") × (fault ≡ BadKind (codes "type"))
type_found text fault e = go (is_member_name (codes "allow") text) (is_member_name (codes "deny") text) refl refl e
  where
    go : (x y : Bool) → is_member_name (codes "allow") text ≡ x → is_member_name (codes "deny") text ≡ y → cond x (Ok true) (cond y (Ok false) (Err (BadKind (codes "type")))) ≡ Err fault
        → (text ≢ codes "allow") × (text ≢ codes "deny") × (fault ≡ BadKind (codes "type"))
    go true y allows denies f = absurd cc
    go false true allows denies f = absurd cc
    go false false allows denies f = (not_named (codes "allow") text allows, not_named (codes "deny") text denies, sym (fault_is (BadKind (codes "type")) fault f))

type_only : (text : List ℕ) → text ≢ codes "allow" → text ≢ codes "deny" → rule_type text ≡ Err (BadKind (codes "type"))
type_only text allows denies = rw (named_not (codes "allow") text allows, named_not (codes "deny") text denies) refl

abbrev type_word : AnyNode → FarmOutcome Bool
type_word value = member_word (codes "type") value >>= rule_type

type_row : (ms : Members) (fault : FarmFault) → Row (allow ms) ((a : Bool) × SaysAllow ms a) fault (IsBadType ms fault)
unfolding allow
type_row ms fault = record {
  fails = record { found = λ e. go (member_value (codes "type") ms) refl e; only = λ bad. fail bad };
  right = λ a e. (a, allow_found ms a e);
  reads = λ says. (says.0, allow_only ms says.0 says.1);
}
  where
    of_value : (value : AnyNode) → HasMember ms (codes "type") value → type_word value ≡ Err fault → IsBadType ms fault
    of_value value there e = side (split (member_word (codes "type") value) rule_type fault (IsNoWord (codes "type") value fault) (IsBadType ms fault) (λ text is g. of_text text is (type_found text fault g)) (no_word (codes "type") value fault).found e)
      where
        of_text : (text : List ℕ) → member_word (codes "type") value ≡ Ok text → (text ≢ codes "allow") × (text ≢ codes "deny") × (fault ≡ BadKind (codes "type")) → IsBadType ms fault
        of_text text is bad = inr (inr (text, record { value = value; there = there; is = word_found (codes "type") value text is }, bad.0, bad.1), bad.2)

        side : IsNoWord (codes "type") value fault ⊎ IsBadType ms fault → IsBadType ms fault
        side (inl none) = inl (value, there, none)
        side (inr bad) = bad

    go : (o : Option AnyNode) → member_value (codes "type") ms ≡ o → (or_bad (codes "type") o >>= type_word) ≡ Err fault → IsBadType ms fault
    go None is e = inr (inl (lacks_found (codes "type") ms is), sym (fault_is (BadKind (codes "type")) fault e))
    go (Some value) is e = of_value value (member_found (codes "type") ms value is) e

    by : (o : Option AnyNode) → member_value (codes "type") ms ≡ o → (or_bad (codes "type") o >>= type_word) ≡ Err fault → (or_bad (codes "type") (member_value (codes "type") ms) >>= type_word) ≡ Err fault
    by o is e = ap (λ v. or_bad (codes "type") v >>= type_word) is ∙ e

    fail : IsBadType ms fault → (or_bad (codes "type") (member_value (codes "type") ms) >>= type_word) ≡ Err fault
    fail (inl none) = by (Some none.0) (member_only (codes "type") ms none.0 none.1) (ap (λ o. o >>= rule_type) ((no_word (codes "type") none.0 fault).only none.2))
    fail (inr (inl lacks, is)) = by None (lacks_only (codes "type") ms lacks) (ap Err (sym is))
    fail (inr (inr other, is)) =
        let at = other.1 in
        by (Some at.value) (member_only (codes "type") ms at.value at.there)
        (ap (λ o. o >>= rule_type) (word_only (codes "type") at.value other.0 at.is) ∙ type_only other.0 other.2 other.3 ∙ ap Err (sym is))

-- ---- `/glob` of an entry of rules

abbrev glob_word : AnyNode → FarmOutcome (Option (List GlobPiece))
glob_word value = member_word (codes "glob") value >>= λ text. glob (codes "glob") text >>= λ g. Ok (Some g)

some_glob : (value : AnyNode) (o : Option (List GlobPiece)) → glob_word value ≡ Ok o → (g : List GlobPiece) × (o ≡ Some g)
some_glob value o e =
    let w = bind_found (member_word (codes "glob") value) (λ text. glob (codes "glob") text >>= λ g. Ok (Some g)) o e in
    let g = bind_found (glob (codes "glob") w.0) (λ g. Ok (Some g)) o w.2 in
    (g.0, sym (ok_is (Some g.0) o g.2))

module _ {A : Type 0} (ms : Members) (fault : FarmFault) (k : List GlobPiece → A) where
  abbrev after_glob : Option (List GlobPiece) → FarmOutcome A
  after_glob o = or_bad (codes "glob") o >>= λ g. Ok (k g)

  glob_then : Fails (glob_at (codes "glob") ms >>= after_glob) fault (IsBadGlob ms fault)
  unfolding glob_at
  glob_then = record { found = λ e. go (member_value (codes "glob") ms) refl e; only = λ bad. fail bad }
    where
      of_word : (value : AnyNode) → HasMember ms (codes "glob") value → glob_word value ≡ Err fault → IsBadGlob ms fault
      of_word value there e =
          side (split (member_word (codes "glob") value) (λ text. glob (codes "glob") text >>= λ g. Ok (Some g)) fault (IsNoWord (codes "glob") value fault) (IsBadGlob ms fault) (λ text is g. of_text text is g) (no_word (codes "glob") value fault).found e)
        where
          of_text : (text : List ℕ) → member_word (codes "glob") value ≡ Ok text → (glob (codes "glob") text >>= λ g. Ok (Some g)) ≡ Err fault → IsBadGlob ms fault
          of_text text is e =
              unread (split (glob (codes "glob") text) (λ g. Ok (Some g)) fault (((f : GlobFault) × (glob_of text ≡ Err f)) × (fault ≡ BadKind (codes "glob"))) ⊥ (λ g at h. absurd cc) (glob_fails (codes "glob") text fault).found e)
            where
              unread : (((f : GlobFault) × (glob_of text ≡ Err f)) × (fault ≡ BadKind (codes "glob"))) ⊎ ⊥ → IsBadGlob ms fault
              unread (inl bad) = inr (inr (text, record { value = value; there = there; is = word_found (codes "glob") value text is }, bad.0), bad.1)
              unread (inr none) = absurd none

          side : IsNoWord (codes "glob") value fault ⊎ IsBadGlob ms fault → IsBadGlob ms fault
          side (inl none) = inl (value, there, none)
          side (inr bad) = bad

      of_value : (value : AnyNode) → HasMember ms (codes "glob") value → (glob_word value >>= after_glob) ≡ Err fault → IsBadGlob ms fault
      of_value value there e = side (split (glob_word value) after_glob fault (IsBadGlob ms fault) ⊥ (λ o is g. read o (some_glob value o is) g) (of_word value there) e)
        where
          read : (o : Option (List GlobPiece)) → (g : List GlobPiece) × (o ≡ Some g) → after_glob o ≡ Err fault → ⊥
          read o some f = let g : after_glob (Some some.0) ≡ Err fault = sym (ap after_glob some.1) ∙ f in absurd cc

          side : IsBadGlob ms fault ⊎ ⊥ → IsBadGlob ms fault
          side (inl bad) = bad
          side (inr none) = absurd none

      go : (o : Option AnyNode) → member_value (codes "glob") ms ≡ o → (glob_or_none (codes "glob") o >>= after_glob) ≡ Err fault → IsBadGlob ms fault
      go None is e = inr (inl (lacks_found (codes "glob") ms is), sym (fault_is (BadKind (codes "glob")) fault e))
      go (Some value) is e = of_value value (member_found (codes "glob") ms value is) e

      by : (o : Option AnyNode) → member_value (codes "glob") ms ≡ o → (glob_or_none (codes "glob") o >>= after_glob) ≡ Err fault → (glob_or_none (codes "glob") (member_value (codes "glob") ms) >>= after_glob) ≡ Err fault
      by o is e = ap (λ v. glob_or_none (codes "glob") v >>= after_glob) is ∙ e

      fail : IsBadGlob ms fault → (glob_or_none (codes "glob") (member_value (codes "glob") ms) >>= after_glob) ≡ Err fault
      fail (inl none) = by (Some none.0) (member_only (codes "glob") ms none.0 none.1) (ap (λ o. (o >>= λ text. glob (codes "glob") text >>= λ g. Ok (Some g)) >>= after_glob) ((no_word (codes "glob") none.0 fault).only none.2))
      fail (inr (inl lacks, is)) = by None (lacks_only (codes "glob") ms lacks) (ap Err (sym is))
      fail (inr (inr unread, is)) =
          let at = unread.1 in
          by (Some at.value) (member_only (codes "glob") ms at.value at.there)
          (ap (λ o. (o >>= λ text. glob (codes "glob") text >>= λ g. Ok (Some g)) >>= after_glob) (word_only (codes "glob") at.value unread.0 at.is)
          ∙ ap (λ o. (o >>= λ g. Ok (Some g)) >>= after_glob) ((glob_fails (codes "glob") unread.0 fault).only (unread.2, is)))

rule_fails : (ms : Members) (fault : FarmFault) → Fails (rule ms) fault (IsBadRule ms fault)
unfolding rule
rule_fails ms fault = turn (allow ms) _ fault ((a : Bool) × SaysAllow ms a) (IsBadType ms fault) (IsBadGlob ms fault) (type_row ms fault) (λ a. glob_then ms fault (λ g. record { allow = a; glob = g }))

pub rule_row : (group : List ℕ) (fault : FarmFault) (m : List ℕ × AnyNode) → Row (entry group rule m) ((r : Rule) × IsRuleEntry m r) fault (IsBadEntry IsBadRule group m fault)
rule_row group fault m = record {
  fails = group_then rule fault (λ ms. IsBadRule ms fault) (λ ms. rule_fails ms fault) (name_or m.0 group) m.1;
  right = λ r e. (r, rule_found group m r e);
  reads = λ some. (some.0, rule_only group m some.0 some.1);
}

-- ---- tests

test_row : (ms : Members) (fault : FarmFault) (name : List ℕ) → Row (test_at name ms) ((t : Option Test) × HasTest ms name t) fault (IsBadTest ms name fault)
unfolding test_at test_of
test_row ms fault name = record {
  fails = record { found = λ e. go (member_value name ms) refl e; only = λ bad. fail bad };
  right = λ t e. (t, test_found name ms t e);
  reads = λ some. (some.0, test_only name ms some.0 some.1);
}
  where
    of_test : (value : AnyNode) → HasMember ms name value → (n : AnyNode-F AnyNode) → out-AnyNode value ≡ n → test_in name n ≡ Err fault → IsBadTest ms name fault
    of_test value there (AnyNode-F.Word text) is e = side (split (glob name text) (λ g. Ok (test.Glob g)) fault _ ⊥ (λ g at h. absurd cc) (glob_fails name text fault).found e)
      where
        side : (((f : GlobFault) × (glob_of text ≡ Err f)) × (fault ≡ BadKind name)) ⊎ ⊥ → IsBadTest ms name fault
        side (inl bad) = (inr (inl (text, record { value = value; there = there; is = is }, bad.0)), bad.1)
        side (inr none) = absurd none
    of_test value there (AnyNode-F.Pattern text) is e = side (split (pattern name text) (λ p. Ok (test.Pattern p)) fault _ ⊥ (λ g at h. absurd cc) (pattern_fails name text fault).found e)
      where
        side : (((f : PatternFault) × (pattern_of text ≡ Err f)) × (fault ≡ BadKind name)) ⊎ ⊥ → IsBadTest ms name fault
        side (inl bad) = (inr (inr (text, record { value = value; there = there; is = is }, bad.0)), bad.1)
        side (inr none) = absurd none
    of_test value there (AnyNode-F.Group group) is e = (inl (group, record { value = value; there = there; is = is }), sym (fault_is (BadKind name) fault e))

    of_value : (value : AnyNode) → HasMember ms name value → (test_in name (out-AnyNode value) >>= λ t. Ok (Some t)) ≡ Err fault → IsBadTest ms name fault
    of_value value there e = side (split (test_in name (out-AnyNode value)) (λ t. Ok (Some t)) fault (IsBadTest ms name fault) ⊥ (λ t at h. absurd cc) (of_test value there (out-AnyNode value) refl) e)
      where
        side : IsBadTest ms name fault ⊎ ⊥ → IsBadTest ms name fault
        side (inl bad) = bad
        side (inr none) = absurd none

    go : (o : Option AnyNode) → member_value name ms ≡ o → test_or_none name o ≡ Err fault → IsBadTest ms name fault
    go None is e = absurd cc
    go (Some value) is e = of_value value (member_found name ms value is) e

    by : (value : AnyNode) → HasMember ms name value → test_in name (out-AnyNode value) ≡ Err fault → test_or_none name (member_value name ms) ≡ Err fault
    by value there e = ap (test_or_none name) (member_only name ms value there) ∙ ap (λ o. o >>= λ t. Ok (Some t)) e

    fail : IsBadTest ms name fault → test_or_none name (member_value name ms) ≡ Err fault
    fail (inl group, is) = by group.1.value group.1.there (ap (test_in name) group.1.is ∙ ap Err (sym is))
    fail (inr (inl unread), is) = by unread.1.value unread.1.there (ap (test_in name) unread.1.is ∙ ap (λ o. o >>= λ g. Ok (test.Glob g)) ((glob_fails name unread.0 fault).only (unread.2, is)))
    fail (inr (inr unread), is) = by unread.1.value unread.1.there (ap (test_in name) unread.1.is ∙ ap (λ o. o >>= λ p. Ok (test.Pattern p)) ((pattern_fails name unread.0 fault).only (unread.2, is)))

-- a test, and those after it
test_turn : {B : Type 0} (ms : Members) (fault : FarmFault) (name : List ℕ) (names : List (List ℕ)) (f : Option Test → FarmOutcome B) → ((t : Option Test) → Fails (f t) fault (IsFirstBadTest ms fault names))
    → Fails (test_at name ms >>= f) fault (IsFirstBadTest ms fault (name ∷ names))
test_turn ms fault name names f later = turn (test_at name ms) f fault ((t : Option Test) × HasTest ms name t) (IsBadTest ms name fault) (IsFirstBadTest ms fault names) (test_row ms fault name) later

-- the names from each test on
abbrev from_query : List (List ℕ)
from_query = codes "query" ∷ []

abbrev from_suffix : List (List ℕ)
from_suffix = codes "suffix" ∷ from_query

abbrev from_extension : List (List ℕ)
from_extension = codes "extension" ∷ from_suffix

abbrev from_selectors : List (List ℕ)
from_selectors = codes "selectors" ∷ from_extension

abbrev from_path : List (List ℕ)
from_path = codes "path" ∷ from_selectors

abbrev from_url : List (List ℕ)
from_url = codes "url" ∷ from_path

abbrev from_method : List (List ℕ)
from_method = codes "method" ∷ from_url

filter_fails : (ms : Members) (fault : FarmFault) → Fails (filter ms) fault (IsBadFilter ms fault)
unfolding filter
filter_fails ms fault = turn (allow ms) _ fault ((a : Bool) × SaysAllow ms a) (IsBadType ms fault) (IsFirstBadTest ms fault test_names) (type_row ms fault) (λ a.
    test_turn ms fault (codes "glob") from_method _ (λ request_line.
    test_turn ms fault (codes "method") from_url _ (λ method.
    test_turn ms fault (codes "url") from_path _ (λ url.
    test_turn ms fault (codes "path") from_selectors _ (λ path.
    test_turn ms fault (codes "selectors") from_extension _ (λ selectors.
    test_turn ms fault (codes "extension") from_suffix _ (λ extension.
    test_turn ms fault (codes "suffix") from_query _ (λ suffix.
    test_turn ms fault (codes "query") [] _ (λ query. never (record { allow = a; request_line = request_line; method = method; url = url; path = path; selectors = selectors; extension = extension; suffix = suffix; query = query }) fault)))))))))

pub filter_row : (group : List ℕ) (fault : FarmFault) (m : List ℕ × AnyNode) → Row (entry group filter m) ((f : Filter) × IsFilterEntry m f) fault (IsBadEntry IsBadFilter group m fault)
filter_row group fault m = record {
  fails = group_then filter fault (λ ms. IsBadFilter ms fault) (λ ms. filter_fails ms fault) (name_or m.0 group) m.1;
  right = λ r e. (r, filter_found group m r e);
  reads = λ some. (some.0, filter_only group m some.0 some.1);
}
