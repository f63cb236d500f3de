-- The tokens of a tree, a node and a kid at a time.
use Rattle.std.proofs.Common.{◌≡◌, ◌+◌, ◌-◌, ◌<◌, ◌≤◌, ◌++◌, ℕ, zero, suc, List, [], ◌∷◌, length, take, get_or, Bool, true, Option, Some, None, is_some, refl, sym, ◌∙◌, ap, subst, arith, append_assoc, length-append}
use Rattle.std.specs.Prelude.{flat_map}
use Rattle.std.specs.List.{list_any, list_all}
use Rattle.std.specs.Str.{bytes_eq}
use Rattle.std.proofs.lemmas.Bool.{and_parts, false≢true, or_left, or_right}
use Rattle.std.proofs.lemmas.List.{take_more, append-nil}
use Rattle.std.proofs.lemmas.List.Concat.{flat_map-append}
use Rattle.json.specs.Json.{Members, no_members}
use Rattle.json.specs.Token.{Token}
use Rattle.json.specs.Tree.{json_tokens, members_tokens}
use Rattle.json.specs.Print.{print}
use Rattle.json.specs.Written.{Written}
use Rattle.sp_base.specs.Paths.{is_path, seg_ok}
use Rattle.sp_base.specs.declared.value.Value.{Value}
use Rattle.sp_base.proofs.PathTests.{few_segments}
use Rattle.resource_tree.specs.declared.nodes.Node.{Node}
use Rattle.resource_tree.specs.Content.{Content, IsGood, node_at, kid}
use Rattle.resource_tree.specs.Changes.{kids_at}
use Rattle.property_json.specs.PropertyJson.{Adds, members_before, property_tokens}
use Rattle.content_json.specs.Written.{order_before, kids_json, node_before, node_json, tree_text}
use Rattle.content_json.specs.Steps.{order_tokens, whole_at, kid_tokens}
use Rattle.content_json.proofs.Under.{bytes_eq_itself}

-- ---- the kids of a good tree are there

-- a name at a place of a list is among its names
pub among : (names : List (List ℕ)) (i : ℕ) (name : List ℕ) → i < length names → name ≡ get_or names i name → list_any (bytes_eq name) names ≡ true
among [] i name lt is = absurd (omega (arith, lt))
among (x ∷ xs) zero name lt is = or_left (bytes_eq name x) (list_any (bytes_eq name) xs) (subst (λ (n : List ℕ). bytes_eq name n ≡ true) is (bytes_eq_itself name))
among (x ∷ xs) (suc i) name lt is = or_right (bytes_eq name x) (list_any (bytes_eq name) xs) (among xs i name (omega (arith, lt)) is)

pub among_items : (items names : List (List ℕ)) (i : ℕ) (name : List ℕ) → items ≡ names → i < length items → name ≡ get_or items i name → list_any (bytes_eq name) names ≡ true
among_items items names i name same lt is = subst (λ ns. list_any (bytes_eq name) ns ≡ true) same (among items i name lt is)

pub kid_there : (tree : Content) (path : List (List ℕ)) (node : Node) (name : List ℕ) → IsGood tree → node_at tree path ≡ Some node → list_any (bytes_eq name) node.kids ≡ true
    → is_some (node_at tree (kid path name)) ≡ true
kid_there tree path node name good there h = sym ((good.shape.nodes path node there).kids name) ∙ h

-- no kid is missing
pub none_missing : (tree : Content) (path place : List (List ℕ)) (node : Node) (name : List ℕ) → IsGood tree → node_at tree path ≡ Some node → list_any (bytes_eq name) node.kids ≡ true
    → place ≡ kid path name → None ≡ node_at tree place → ⊥
none_missing tree path place node name good there h at none =
    false≢true (ap is_some none ∙ ap (λ p. is_some (node_at tree p)) at ∙ kid_there tree path node name good there h)

pub path_there : (tree : Content) (path : List (List ℕ)) → IsGood tree → is_some (node_at tree path) ≡ true → is_path path ≡ true
path_there tree path good h = by (node_at tree path) refl h
  where
    by : (o : Option Node) → node_at tree path ≡ o → is_some o ≡ true → is_path path ≡ true
    by None at there = absurd (false≢true there)
    by (Some node) at there = (good.shape.nodes path node at).is_a_path

-- a kid's path has one segment more, and at most 64
pub kid_short : (tree : Content) (path : List (List ℕ)) (node : Node) (name : List ℕ) → IsGood tree → node_at tree path ≡ Some node → list_any (bytes_eq name) node.kids ≡ true
    → length path < 64
kid_short tree path node name good there h =
    let most = few_segments (kid path name) (path_there tree (kid path name) good (kid_there tree path node name good there h)) in
    omega (arith, most, length-append path (name ∷ []))

last_holds : (p : List ℕ → Bool) (path : List (List ℕ)) (k : List ℕ) → list_all p (path ++ k ∷ []) ≡ true → p k ≡ true
last_holds p [] k h = (and_parts (p k) true h).0
last_holds p (s ∷ path) k h = last_holds p path k (and_parts (p s) (list_all p (path ++ k ∷ [])) h).1

-- a kid's name is one that a path may have
pub kid_named : (tree : Content) (path : List (List ℕ)) (node : Node) (name : List ℕ) → IsGood tree → node_at tree path ≡ Some node → list_any (bytes_eq name) node.kids ≡ true
    → seg_ok name ≡ true
kid_named tree path node name good there h =
    let valid = path_there tree (kid path name) good (kid_there tree path node name good there h) in
    last_holds seg_ok path name (and_parts (list_all seg_ok (kid path name)) _ valid).0

-- a node at the last level has no kids
pub no_kids : (tree : Content) (path : List (List ℕ)) (node : Node) → IsGood tree → node_at tree path ≡ Some node → 64 ≤ length path → node.kids ≡ []
no_kids tree path node good there deep = by node.kids refl
  where
    by : (kids : List (List ℕ)) → node.kids ≡ kids → node.kids ≡ []
    by [] e = e
    by (k ∷ ks) e =
        let first : list_any (bytes_eq k) node.kids ≡ true = ap (list_any (bytes_eq k)) e ∙ or_left (bytes_eq k k) (list_any (bytes_eq k) ks) (bytes_eq_itself k) in
        absurd (omega (arith, deep, kid_short tree path node k good there first))

-- ---- the tokens of a node

order_are : (names : List (List ℕ)) (ms : Members) → members_tokens (order_before names ms) ≡ order_tokens names ++ members_tokens ms
order_are [] ms = refl
order_are (name ∷ names) ms = refl

kids_are : (tree : Content) (path : List (List ℕ)) (levels : ℕ) → levels ≡ 64 - (length path + 1) → (names : List (List ℕ))
    → members_tokens (kids_json (λ name. node_json tree levels (kid path name)) names) ≡ kid_tokens tree path names ++ Token.end_object ∷ []
kids_are tree path levels e [] = refl
kids_are tree path levels e (name ∷ names) =
    let js = json_tokens (whole_at tree (kid path name)) in
    let same : levels ≡ 64 - length (kid path name) = omega (arith, e, length-append path (name ∷ [])) in
    ap (λ l. Token.key name ∷ (json_tokens (node_json tree l (kid path name)) ++ members_tokens (kids_json (λ n. node_json tree levels (kid path n)) names))) same
    ∙ ap (λ ts. Token.key name ∷ (js ++ ts)) (kids_are tree path levels e names)
    ∙ ap (λ ts. Token.key name ∷ ts) (sym (append_assoc js (kid_tokens tree path names) (Token.end_object ∷ [])))

-- properties come first among members: a law of `property_json`
abbrev pub ComeFirst : Type 0
ComeFirst = (props : List (List ℕ × Value)) (ms : Members) → members_tokens (members_before props ms) ≡ property_tokens props ++ members_tokens ms

-- the tokens of a node, before those of its kids
before_are : ComeFirst → (tree : Content) (path : List (List ℕ)) (node : Node) (ms : Members) → node_at tree path ≡ Some node
    → json_tokens (node_before tree path ms) ≡ Token.begin_object ∷ (property_tokens node.props ++ (order_tokens node.kids ++ members_tokens ms))
before_are law tree path node ms there =
    rw there (ap (λ ts. Token.begin_object ∷ ts) (law node.props (order_before node.kids ms) ∙ ap (λ ts. property_tokens node.props ++ ts) (order_are node.kids ms)))

-- around the tokens of the kids
abbrev node_around : Node → List Token → List Token
node_around node ts = Token.begin_object ∷ (property_tokens node.props ++ (order_tokens node.kids ++ ts))

-- of a node and all below it
pub node_tokens : ComeFirst → (tree : Content) (path : List (List ℕ)) (node : Node) → IsGood tree → node_at tree path ≡ Some node
    → json_tokens (whole_at tree path) ≡ Token.begin_object ∷ (property_tokens node.props ++ (order_tokens node.kids ++ (kid_tokens tree path node.kids ++ Token.end_object ∷ [])))
unfolding node_json
node_tokens law tree path node good there = by (64 - length path) refl
  where
    by : (levels : ℕ) → 64 - length path ≡ levels → json_tokens (node_json tree levels path) ≡ node_around node (kid_tokens tree path node.kids ++ Token.end_object ∷ [])
    by zero e =
        let none = no_kids tree path node good there (omega (arith, e)) in
        before_are law tree path node no_members there ∙ ap (λ names. node_around node (kid_tokens tree path names ++ Token.end_object ∷ [])) (sym none)
    by (suc levels) e =
        before_are law tree path node (kids_json (λ name. node_json tree levels (kid path name)) (kids_at tree path)) there
        ∙ ap (node_around node) (rw there (kids_are tree path levels (omega (arith, e)) node.kids))

-- ---- what was written

pub token : (old new : Written) (t : Token) → new.tokens ≡ old.tokens ++ t ∷ [] → new.before ≡ old.before → Adds old new (t ∷ [])
token old new t e b = record { tokens = e; before = b }

pub more : (old mid new : Written) (ts us : List Token) → Adds old mid ts → Adds mid new us → Adds old new (ts ++ us)
more old mid new ts us a b = record { tokens = b.tokens ∙ ap (λ l. l ++ us) a.tokens ∙ append_assoc old.tokens ts us; before = b.before ∙ a.before }

-- the tokens of one more kid stand after those of the kids so far
pub kids_more : (tree : Content) (path items names : List (List ℕ)) (i : ℕ) (name : List ℕ) → items ≡ names → i < length items → name ≡ get_or items i name
    → kid_tokens tree path (take (i + 1) names) ≡ kid_tokens tree path (take i names) ++ (Token.key name ∷ json_tokens (whole_at tree (kid path name)))
kids_more tree path items names i name same lt is =
    let f = λ (n : List ℕ). Token.key n ∷ json_tokens (whole_at tree (kid path n)) in
    ap (λ ns. flat_map f (take (i + 1) ns)) (sym same)
    ∙ ap (flat_map f) (take_more items i name lt ∙ ap (λ ns. take i ns ++ get_or items i name ∷ []) same ∙ ap (λ n. take i names ++ n ∷ []) (sym is))
    ∙ flat_map-append f (take i names) (name ∷ []) ∙ ap (λ ts. flat_map f (take i names) ++ ts) (append-nil (f name))

pub root_missing : (tree : Content) (place : List (List ℕ)) → IsGood tree → place ≡ [] → None ≡ node_at tree place → ⊥
root_missing tree place good at none = false≢true (ap is_some none ∙ ap (λ p. is_some (node_at tree p)) at ∙ good.shape.root)

-- the text in an empty buffer
pub text_is : (tree : Content) (start end : Written) → start.tokens ≡ [] → Adds start end (json_tokens (whole_at tree [])) → print end.tokens ≡ tree_text tree
unfolding tree_text
text_is tree start end none a = ap print (a.tokens ∙ ap (λ ts. ts ++ json_tokens (whole_at tree [])) none)
