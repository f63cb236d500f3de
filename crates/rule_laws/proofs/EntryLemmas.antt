-- Entries of rules and of the filter.
use Rattle.std.proofs.Common.{◌≡◌, ℕ, Bool, true, false, cond, List, Option, Some, None, Ok, Err, codes, refl, ap, sym, ◌∙◌, subst}
use Rattle.std.specs.Cmp.Lexicographic.{same_text}
use Rattle.glob_rules.specs.Reading.{glob_of}
use Rattle.glob_rules.specs.declared.fault.GlobFault.{GlobFault}
use Rattle.glob_rules.specs.declared.piece.GlobPiece.{GlobPiece}
use Rattle.glob_rules.specs.declared.rule.Rule.{Rule}
use Rattle.regex_rules.specs.Reading.{pattern_of}
use Rattle.regex_rules.specs.declared.fault.PatternFault.{PatternFault}
use Rattle.regex_rules.specs.declared.place.PatternPlace.{PatternPlace}
use Rattle.std.specs.Prelude.{Result}
use Rattle.sp_base.specs.Outcomes.{◌>>=◌}
use Rattle.any_config.specs.Farms.{FarmOutcome, is_member_name, member_value, group_of, name_or, member_word, or_bad, glob_or_bad, glob, glob_or_none, glob_at, pattern_or_bad, pattern, test_in, test_of, test_or_none, test_at, rule_type, allow, rule, filter, entry}
use Rattle.any_config.specs.Read.{Members}
use Rattle.any_config.specs.declared.farm.Filter.{Filter}
use Rattle.any_config.specs.declared.farm.Test.{Test}
use Rattle.any_config.specs.declared.farm.Test.TheVariants as test
use Rattle.any_config.specs.declared.node.AnyNode.{AnyNode, out-AnyNode}
use Rattle.any_config.specs.declared.node.AnyNode.TheOpen.{AnyNode-F}
use Rattle.rule_laws.specs.FarmTable.{SaysAllow, HasGlob, HasTest, IsRuleEntry, IsFilterEntry}
use Rattle.rule_laws.proofs.MemberLemmas.{bind_found, bind_only, ok_is, member_found, member_only, lacks_found, lacks_only, group_found, group_only, word_found, word_only, bad_found}

-- ---- globs and patterns

pub glob_found : (name text : List ℕ) (g : List GlobPiece) → glob name text ≡ Ok g → glob_of text ≡ Ok g
unfolding glob
glob_found name text g e = go (glob_of text) refl e
  where
    go : (o : Result (List GlobPiece) GlobFault) → glob_of text ≡ o → glob_or_bad name o ≡ Ok g → glob_of text ≡ Ok g
    go (Ok h) is f = is ∙ ap Ok (ok_is h g f)
    go (Err fault) is f = absurd cc

pub glob_only : (name text : List ℕ) (g : List GlobPiece) → glob_of text ≡ Ok g → glob name text ≡ Ok g
unfolding glob
glob_only name text g e = ap (glob_or_bad name) e

pattern_found : (name text : List ℕ) (p : List PatternPlace) → pattern name text ≡ Ok p → pattern_of text ≡ Ok p
unfolding pattern
pattern_found name text p e = go (pattern_of text) refl e
  where
    go : (o : Result (List PatternPlace) PatternFault) → pattern_of text ≡ o → pattern_or_bad name o ≡ Ok p → pattern_of text ≡ Ok p
    go (Ok q) is f = is ∙ ap Ok (ok_is q p f)
    go (Err fault) is f = absurd cc

pattern_only : (name text : List ℕ) (p : List PatternPlace) → pattern_of text ≡ Ok p → pattern name text ≡ Ok p
unfolding pattern
pattern_only name text p e = ap (pattern_or_bad name) e

some_glob : (g : List GlobPiece) (o : Option (List GlobPiece)) → ◌≡◌ {A = FarmOutcome (Option (List GlobPiece))} (Ok (Some g)) (Ok o) → o ≡ Some g
some_glob g o e = cc

-- the glob that an entry needs
pub needed_glob_found : (ms : Members) (o : Option (List GlobPiece)) (g : List GlobPiece) → glob_at (codes "glob") ms ≡ Ok o → or_bad (codes "glob") o ≡ Ok g → HasGlob ms (codes "glob") g
unfolding glob_at
needed_glob_found ms o g e f = go (member_value (codes "glob") ms) refl e
  where
    go : (v : Option AnyNode) → member_value (codes "glob") ms ≡ v → glob_or_none (codes "glob") v ≡ Ok o → HasGlob ms (codes "glob") g
    go None is h = absurd (let none : None ≡ o = ok_is None o h in let some : o ≡ Some g = bad_found (codes "glob") o g f in let k : ◌≡◌ {A = Option (List GlobPiece)} None (Some g) = none ∙ some in cc)
    go (Some value) is h =
        let b = bind_found (member_word (codes "glob") value) (λ text. glob (codes "glob") text >>= λ g. Ok (Some g)) o h in
        let c = bind_found (glob (codes "glob") b.0) (λ g. Ok (Some g)) o b.2 in
        let same : Some c.0 ≡ Some g = ok_is (Some c.0) o c.2 ∙ bad_found (codes "glob") o g f in
        let is_glob : c.0 ≡ g = cc in
        record { text = b.0; word = record { value = value; there = member_found (codes "glob") ms value is; is = word_found (codes "glob") value b.0 b.1 }; reads = glob_found (codes "glob") b.0 c.0 c.1 ∙ ap Ok is_glob }

needed_glob_only : (ms : Members) (g : List GlobPiece) → HasGlob ms (codes "glob") g → glob_at (codes "glob") ms ≡ Ok (Some g)
unfolding glob_at
needed_glob_only ms g h =
    ap (glob_or_none (codes "glob")) (member_only (codes "glob") ms h.word.value h.word.there)
    ∙ bind_only (member_word (codes "glob") h.word.value) (λ text. glob (codes "glob") text >>= λ g. Ok (Some g)) h.text (Some g) (word_only (codes "glob") h.word.value h.text h.word.is)
    (bind_only (glob (codes "glob") h.text) (λ g. Ok (Some g)) g (Some g) (glob_only (codes "glob") h.text g h.reads) refl)

-- ---- tests

pub test_found : (name : List ℕ) (ms : Members) (t : Option Test) → test_at name ms ≡ Ok t → HasTest ms name t
unfolding test_at test_of
test_found name ms t e = go (member_value name ms) refl e
  where
    by : (value : AnyNode) → member_value name ms ≡ Some value → (n : AnyNode-F AnyNode) → out-AnyNode value ≡ n → (one : Test) → test_in name n ≡ Ok one → HasTest ms name (Some one)
    by value is (AnyNode-F.Word text) at one f =
        let b = bind_found (glob name text) (λ g. Ok (test.Glob g)) one f in
        subst (λ (s : Test). HasTest ms name (Some s)) (ok_is (test.Glob b.0) one b.2)
        (HasTest.ByGlob (record { text = text; word = record { value = value; there = member_found name ms value is; is = at }; reads = glob_found name text b.0 b.1 }))
    by value is (AnyNode-F.Pattern text) at one f =
        let b = bind_found (pattern name text) (λ p. Ok (test.Pattern p)) one f in
        subst (λ (s : Test). HasTest ms name (Some s)) (ok_is (test.Pattern b.0) one b.2)
        (HasTest.ByPattern (record { text = text; quoted = record { value = value; there = member_found name ms value is; is = at }; reads = pattern_found name text b.0 b.1 }))
    by value is (AnyNode-F.Group group) at one f = absurd cc

    go : (v : Option AnyNode) → member_value name ms ≡ v → test_or_none name v ≡ Ok t → HasTest ms name t
    go None is f = subst (λ (s : Option Test). HasTest ms name s) (ok_is None t f) (HasTest.Lacks (lacks_found name ms is))
    go (Some value) is f =
        let b = bind_found (test_of name value) (λ t. Ok (Some t)) t f in
        subst (λ (s : Option Test). HasTest ms name s) (ok_is (Some b.0) t b.2) (by value is (out-AnyNode value) refl b.0 b.1)

pub test_only : (name : List ℕ) (ms : Members) (t : Option Test) → HasTest ms name t → test_at name ms ≡ Ok t
unfolding test_at test_of
test_only name ms t (HasTest.Lacks lacks) = ap (test_or_none name) (lacks_only name ms lacks)
test_only name ms t (HasTest.ByGlob {glob = g} h) =
    ap (test_or_none name) (member_only name ms h.word.value h.word.there)
    ∙ bind_only (test_of name h.word.value) (λ t. Ok (Some t)) (test.Glob g) (Some (test.Glob g))
    (ap (test_in name) h.word.is ∙ bind_only (glob name h.text) (λ g. Ok (test.Glob g)) g (test.Glob g) (glob_only name h.text g h.reads) refl) refl
test_only name ms t (HasTest.ByPattern {pattern = p} h) =
    ap (test_or_none name) (member_only name ms h.quoted.value h.quoted.there)
    ∙ bind_only (test_of name h.quoted.value) (λ t. Ok (Some t)) (test.Pattern p) (Some (test.Pattern p))
    (ap (test_in name) h.quoted.is ∙ bind_only (pattern name h.text) (λ p. Ok (test.Pattern p)) p (test.Pattern p) (pattern_only name h.text p h.reads) refl) refl

-- ---- whether an entry allows

type_found : (text : List ℕ) (a : Bool) → rule_type text ≡ Ok a → text ≡ cond a (codes "allow") (codes "deny")
type_found text a e = go (is_member_name (codes "allow") text) (is_member_name (codes "deny") text) refl refl e
  where
    go : (x y : Bool) → is_member_name (codes "allow") text ≡ x → is_member_name (codes "deny") text ≡ y → cond x (Ok true) (cond y (Ok false) (or_bad (codes "type") None)) ≡ Ok a → text ≡ cond a (codes "allow") (codes "deny")
    go true y allows denies f = same_text text (codes "allow") (sym allows) ∙ ap (λ (b : Bool). cond b (codes "allow") (codes "deny")) (ok_is true a f)
    go false true allows denies f = same_text text (codes "deny") (sym denies) ∙ ap (λ (b : Bool). cond b (codes "allow") (codes "deny")) (ok_is false a f)
    go false false allows denies f = absurd cc

type_only : (a : Bool) → rule_type (cond a (codes "allow") (codes "deny")) ≡ Ok a
type_only true = refl
type_only false = refl

pub allow_found : (ms : Members) (a : Bool) → allow ms ≡ Ok a → SaysAllow ms a
unfolding allow
allow_found ms a e =
    let c = bind_found (or_bad (codes "type") (member_value (codes "type") ms)) (λ value. member_word (codes "type") value >>= rule_type) a e in
    let b = bind_found (member_word (codes "type") c.0) rule_type a c.2 in
    record { value = c.0; there = member_found (codes "type") ms c.0 (bad_found (codes "type") (member_value (codes "type") ms) c.0 c.1); is = word_found (codes "type") c.0 b.0 b.1 ∙ ap (λ (w : List ℕ). AnyNode-F.Word w) (type_found b.0 a b.2) }

pub allow_only : (ms : Members) (a : Bool) → SaysAllow ms a → allow ms ≡ Ok a
unfolding allow
allow_only ms a h =
    bind_only (or_bad (codes "type") (member_value (codes "type") ms)) (λ value. member_word (codes "type") value >>= rule_type) h.value a
    (ap (or_bad (codes "type")) (member_only (codes "type") ms h.value h.there))
    (bind_only (member_word (codes "type") h.value) rule_type (cond a (codes "allow") (codes "deny")) a (word_only (codes "type") h.value (cond a (codes "allow") (codes "deny")) h.is) (type_only a))

-- ---- entries

pub rule_found : (group : List ℕ) (m : List ℕ × AnyNode) (r : Rule) → entry group rule m ≡ Ok r → IsRuleEntry m r
unfolding rule
rule_found group m r e =
    let b = bind_found (group_of (name_or m.0 group) m.1) rule r e in
    let a = bind_found (allow b.0) (λ a. glob_at (codes "glob") b.0 >>= λ o. or_bad (codes "glob") o >>= λ g. Ok (record { allow = a; glob = g })) r b.2 in
    let o = bind_found (glob_at (codes "glob") b.0) (λ o. or_bad (codes "glob") o >>= λ g. Ok (record { allow = a.0; glob = g })) r a.2 in
    let g = bind_found (or_bad (codes "glob") o.0) (λ g. Ok (record { allow = a.0; glob = g })) r o.2 in
    let made : Rule = record { allow = a.0; glob = g.0 } in
    let same : made ≡ r = ok_is made r g.2 in
    subst (λ (s : Rule). IsRuleEntry m s) same
    (record { members = b.0; group = group_found (name_or m.0 group) m.1 b.0 b.1; allow = allow_found b.0 a.0 a.1; glob = needed_glob_found b.0 o.0 g.0 o.1 g.1 })

pub rule_only : (group : List ℕ) (m : List ℕ × AnyNode) (r : Rule) → IsRuleEntry m r → entry group rule m ≡ Ok r
unfolding rule
rule_only group m r h =
    bind_only (group_of (name_or m.0 group) m.1) rule h.members r (group_only (name_or m.0 group) m.1 h.members h.group)
    (bind_only (allow h.members) (λ a. glob_at (codes "glob") h.members >>= λ o. or_bad (codes "glob") o >>= λ g. Ok (record { allow = a; glob = g })) r.allow r (allow_only h.members r.allow h.allow)
    (bind_only (glob_at (codes "glob") h.members) (λ o. or_bad (codes "glob") o >>= λ g. Ok (record { allow = r.allow; glob = g })) (Some r.glob) r (needed_glob_only h.members r.glob h.glob) refl))

pub filter_found : (group : List ℕ) (m : List ℕ × AnyNode) (r : Filter) → entry group filter m ≡ Ok r → IsFilterEntry m r
unfolding filter
filter_found group m r e =
    let b = bind_found (group_of (name_or m.0 group) m.1) filter r e in
    let a = bind_found (allow b.0) _ r b.2 in
    let request_line = bind_found (test_at (codes "glob") b.0) _ r a.2 in
    let method = bind_found (test_at (codes "method") b.0) _ r request_line.2 in
    let url = bind_found (test_at (codes "url") b.0) _ r method.2 in
    let path = bind_found (test_at (codes "path") b.0) _ r url.2 in
    let selectors = bind_found (test_at (codes "selectors") b.0) _ r path.2 in
    let extension = bind_found (test_at (codes "extension") b.0) _ r selectors.2 in
    let suffix = bind_found (test_at (codes "suffix") b.0) _ r extension.2 in
    let query = bind_found (test_at (codes "query") b.0) _ r suffix.2 in
    let made : Filter = record { allow = a.0; request_line = request_line.0; method = method.0; url = url.0; path = path.0; selectors = selectors.0; extension = extension.0; suffix = suffix.0; query = query.0 } in
    let same : made ≡ r = ok_is made r query.2 in
    subst (λ (s : Filter). IsFilterEntry m s) same
    (record {
      members = b.0;
      group = group_found (name_or m.0 group) m.1 b.0 b.1;
      allow = allow_found b.0 a.0 a.1;
      request_line = test_found (codes "glob") b.0 request_line.0 request_line.1;
      method = test_found (codes "method") b.0 method.0 method.1;
      url = test_found (codes "url") b.0 url.0 url.1;
      path = test_found (codes "path") b.0 path.0 path.1;
      selectors = test_found (codes "selectors") b.0 selectors.0 selectors.1;
      extension = test_found (codes "extension") b.0 extension.0 extension.1;
      suffix = test_found (codes "suffix") b.0 suffix.0 suffix.1;
      query = test_found (codes "query") b.0 query.0 query.1;
    })

pub filter_only : (group : List ℕ) (m : List ℕ × AnyNode) (r : Filter) → IsFilterEntry m r → entry group filter m ≡ Ok r
unfolding filter
filter_only group m r h =
    bind_only (group_of (name_or m.0 group) m.1) filter h.members r (group_only (name_or m.0 group) m.1 h.members h.group)
    (bind_only (allow h.members) _ r.allow r (allow_only h.members r.allow h.allow)
    (bind_only (test_at (codes "glob") h.members) _ r.request_line r (test_only (codes "glob") h.members r.request_line h.request_line)
    (bind_only (test_at (codes "method") h.members) _ r.method r (test_only (codes "method") h.members r.method h.method)
    (bind_only (test_at (codes "url") h.members) _ r.url r (test_only (codes "url") h.members r.url h.url)
    (bind_only (test_at (codes "path") h.members) _ r.path r (test_only (codes "path") h.members r.path h.path)
    (bind_only (test_at (codes "selectors") h.members) _ r.selectors r (test_only (codes "selectors") h.members r.selectors h.selectors)
    (bind_only (test_at (codes "extension") h.members) _ r.extension r (test_only (codes "extension") h.members r.extension h.extension)
    (bind_only (test_at (codes "suffix") h.members) _ r.suffix r (test_only (codes "suffix") h.members r.suffix h.suffix)
    (bind_only (test_at (codes "query") h.members) _ r.query r (test_only (codes "query") h.members r.query h.query) refl)))))))))
