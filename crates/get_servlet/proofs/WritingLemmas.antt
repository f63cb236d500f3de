-- Resources as JSON, one level and one kid at a time, and the room that writing them takes.
use Rattle.std.proofs.Common.{◌≡◌, ◌+◌, ◌<◌, ◌≤◌, ◌++◌, ℕ, zero, suc, List, [], ◌∷◌, length, take, Option, Some, None, refl, sym, ◌∙◌, ap, subst, arith, append_assoc}
use Rattle.std.specs.Prelude.{flat_map}
use Rattle.std.proofs.lemmas.Bool.{lt-leb, le-leb}
use Rattle.std.proofs.lemmas.List.{append-nil}
use Rattle.std.proofs.lemmas.List.Concat.{flat_map-append}
use Rattle.json.specs.Json.{Json, Members, no_members}
use Rattle.json.specs.Token.{Token}
use Rattle.json.specs.Tree.{json_tokens, members_tokens}
use Rattle.json.specs.Print.{print}
use Rattle.json.specs.Written.{Written}
use Rattle.sp_base.specs.declared.value.Value.{Value}
use Rattle.resource_tree.specs.Seen.{Resource, Seen}
use Rattle.property_json.specs.PropertyJson.{Adds, members_before, property_tokens}
use Rattle.get_servlet.specs.declared.kids.Kid.{Kid}
use Rattle.get_servlet.specs.declared.answer.JsonAnswer.TheVariants.{Whole, TooLong}
use Rattle.get_servlet.specs.Answers.{text_within}
use Rattle.get_servlet.specs.Rendering.{shown_kid, kid_before, members_of_kids, resource_json, json_text}
use Rattle.get_servlet.specs.Steps.{kid_member_tokens, kids_tokens, below_tokens, bytes_in, Spends}
use Rattle.get_servlet.proofs.BytesLemmas.{text_bytes, bytes-append, bytes-cons, bytes-taken, key_bytes}

-- ---- the tokens

member_is : (name : List ℕ) (json : List (List ℕ) → Resource → Json) (kid : Option Kid) (ms : Members)
    → members_tokens (kid_before name json kid ms) ≡ kid_member_tokens name json kid ++ members_tokens ms
member_is name json None ms = refl
member_is name json (Some kid) ms = refl

kids_are : (kid : List ℕ → Option Kid) (json : List (List ℕ) → Resource → Json) (names : List (List ℕ))
    → members_tokens (members_of_kids kid json names) ≡ flat_map (λ name. kid_member_tokens name json (kid name)) names ++ Token.end_object ∷ []
kids_are kid json [] = refl
kids_are kid json (name ∷ names) =
    member_is name json (kid name) (members_of_kids kid json names)
    ∙ ap (λ ts. kid_member_tokens name json (kid name) ++ ts) (kids_are kid json names)
    ∙ sym (append_assoc (kid_member_tokens name json (kid name)) (flat_map (λ n. kid_member_tokens n json (kid n)) names) (Token.end_object ∷ []))

-- the law of `property_json`: the tokens of the properties come first
abbrev pub ComeFirst : Type 0
ComeFirst = (props : List (List ℕ × Value)) (members : Members) → members_tokens (members_before props members) ≡ property_tokens props ++ members_tokens members

-- those of the properties and of the kids, in braces
abbrev pub in_braces : Resource → List Token → List Token
in_braces res ts = Token.begin_object ∷ (property_tokens res.props ++ (ts ++ Token.end_object ∷ []))

pub resource_tokens : ComeFirst → (seen : Seen) (depth : ℕ) (path : List (List ℕ)) (res : Resource) → json_tokens (resource_json seen depth path res) ≡ in_braces res (below_tokens seen depth path res)
unfolding resource_json below_tokens kids_tokens
resource_tokens come_first seen zero path res = ap (λ ts. Token.begin_object ∷ ts) (come_first res.props no_members)
resource_tokens come_first seen (suc depth) path res =
    ap (λ ts. Token.begin_object ∷ ts) (come_first res.props (members_of_kids (shown_kid seen path res) (resource_json seen depth) res.kids)
    ∙ ap (λ ts. property_tokens res.props ++ ts) (kids_are (shown_kid seen path res) (resource_json seen depth) res.kids))

braces_bytes : (res : Resource) (ts : List Token) → bytes_in (property_tokens res.props) + bytes_in ts ≤ bytes_in (in_braces res ts)
braces_bytes res ts =
    let ps = property_tokens res.props in
    omega (arith, bytes-cons Token.begin_object (ps ++ (ts ++ Token.end_object ∷ [])), bytes-append ps (ts ++ Token.end_object ∷ []), bytes-append ts (Token.end_object ∷ []))

-- ---- a resource is written

-- the properties alone take more room
pub no_room : ComeFirst → (seen : Seen) (depth room least : ℕ) (path : List (List ℕ)) (res : Resource) → least ≤ bytes_in (property_tokens res.props) → room < least
    → room < bytes_in (json_tokens (resource_json seen depth path res))
no_room come_first seen depth room least path res some over =
    omega (arith, some, over, braces_bytes res (below_tokens seen depth path res), ap bytes_in (resource_tokens come_first seen depth path res))

-- the kids take more than is left
pub no_room_below : ComeFirst → (seen : Seen) (depth room least left : ℕ) (path : List (List ℕ)) (res : Resource) → least ≤ bytes_in (property_tokens res.props) → left + least ≡ room
    → left < bytes_in (below_tokens seen depth path res) → room < bytes_in (json_tokens (resource_json seen depth path res))
no_room_below come_first seen depth room least left path res some is over =
    omega (arith, some, is, over, braces_bytes res (below_tokens seen depth path res), ap bytes_in (resource_tokens come_first seen depth path res))

-- these tokens were written between the braces
object_adds : (old begun mid low end : Written) (res : Resource) (ts : List Token)
    → begun.tokens ≡ old.tokens ++ Token.begin_object ∷ [] → begun.before ≡ old.before → Adds begun mid (property_tokens res.props) → Adds mid low ts
    → end.tokens ≡ low.tokens ++ Token.end_object ∷ [] → end.before ≡ low.before → Adds old end (in_braces res ts)
object_adds old begun mid low end res ts b bb p k e eb =
    let ps = property_tokens res.props in
    let last = Token.end_object ∷ [] in
    record {
      tokens = e ∙ ap (λ us. us ++ last) (k.tokens ∙ ap (λ us. us ++ ts) (p.tokens ∙ ap (λ us. us ++ ps) b))
          ∙ append_assoc ((old.tokens ++ Token.begin_object ∷ []) ++ ps) ts last
          ∙ append_assoc (old.tokens ++ Token.begin_object ∷ []) ps (ts ++ last)
          ∙ append_assoc old.tokens (Token.begin_object ∷ []) (ps ++ (ts ++ last));
      before = eb ∙ k.before ∙ p.before ∙ bb;
    }

pub object_written : ComeFirst → (seen : Seen) (depth room least within left : ℕ) (path : List (List ℕ)) (res : Resource) (old begun mid low end : Written)
    → least ≤ bytes_in (property_tokens res.props) → within + least ≡ room
    → begun.tokens ≡ old.tokens ++ Token.begin_object ∷ [] → begun.before ≡ old.before → Adds begun mid (property_tokens res.props)
    → Spends within (Some left) mid low (below_tokens seen depth path res)
    → end.tokens ≡ low.tokens ++ Token.end_object ∷ [] → end.before ≡ low.before → Spends room (Some left) old end (json_tokens (resource_json seen depth path res))
object_written come_first seen depth room least within left path res old begun mid low end some is b bb p k e eb =
    let ts = below_tokens seen depth path res in
    let tokens = resource_tokens come_first seen depth path res in (
      subst (Adds old end) (sym tokens) (object_adds old begun mid low end res ts b bb p k.0 e eb),
      omega (arith, some, is, k.1, braces_bytes res ts, ap bytes_in tokens),
    )

-- ---- a kid is written: its name, and its object

pub kid_no_room : (room : ℕ) (name : List ℕ) (json : List (List ℕ) → Resource → Json) (kid : Kid) → room < length name → room < bytes_in (kid_member_tokens name json (Some kid))
kid_no_room room name json kid over = omega (arith, over, key_bytes name, bytes-cons (Token.key name) (json_tokens (json kid.path kid.res)))

pub kid_written : (room within : ℕ) (left : Option ℕ) (name : List ℕ) (ts : List Token) (old key new : Written) → within + length name ≡ room
    → key.tokens ≡ old.tokens ++ Token.key name ∷ [] → key.before ≡ old.before → Spends within left key new ts → Spends room left old new (Token.key name ∷ ts)
kid_written room within None name ts old key new is k b s = omega (arith, is, s, key_bytes name, bytes-cons (Token.key name) ts)
kid_written room within (Some left) name ts old key new is k b s = (
  record {
    tokens = s.0.tokens ∙ ap (λ us. us ++ ts) k ∙ append_assoc old.tokens (Token.key name ∷ []) ts;
    before = s.0.before ∙ b;
  },
  omega (arith, is, s.1, key_bytes name, bytes-cons (Token.key name) ts),
)

-- ---- the kids are written

pub below_none : (seen : Seen) (depth : ℕ) (path : List (List ℕ)) (res : Resource) → depth ≡ 0 → below_tokens seen depth path res ≡ []
unfolding below_tokens
below_none seen depth path res e = ap (λ d. below_tokens seen d path res) e

pub below_some : (seen : Seen) (depth below : ℕ) (path : List (List ℕ)) (res : Resource) → depth ≡ suc below → below_tokens seen depth path res ≡ kids_tokens seen below path res res.kids
unfolding below_tokens
below_some seen depth below path res e = ap (λ d. below_tokens seen d path res) e

pub kids_tokens-nil : (seen : Seen) (depth : ℕ) (path : List (List ℕ)) (res : Resource) → kids_tokens seen depth path res [] ≡ []
unfolding kids_tokens
kids_tokens-nil seen depth path res = refl

pub nothing_written : (room : ℕ) (old : Written) → Spends room (Some room) old old []
nothing_written room old = (record { tokens = sym (append-nil old.tokens); before = refl }, omega arith)

-- its kid's tokens stand after theirs
pub kids_more : (seen : Seen) (depth : ℕ) (path : List (List ℕ)) (res : Resource) (first names : List (List ℕ)) (name text : List ℕ) → names ≡ first ++ name ∷ [] → text ≡ name
    → kids_tokens seen depth path res names ≡ kids_tokens seen depth path res first ++ kid_member_tokens text (resource_json seen depth) (shown_kid seen path res text)
unfolding kids_tokens
kids_more seen depth path res first names name text more same =
    let f = λ (n : List ℕ). kid_member_tokens n (resource_json seen depth) (shown_kid seen path res n) in
    ap (flat_map f) more ∙ flat_map-append f first (name ∷ []) ∙ ap (λ ts. flat_map f first ++ ts) (append-nil (f name)) ∙ ap (λ n. flat_map f first ++ f n) (sym same)

pub kids_taken : (seen : Seen) (depth : ℕ) (path : List (List ℕ)) (res : Resource) (i : ℕ)
    → bytes_in (kids_tokens seen depth path res (take i res.kids)) ≤ bytes_in (kids_tokens seen depth path res res.kids)
unfolding kids_tokens
kids_taken seen depth path res i = bytes-taken (λ n. kid_member_tokens n (resource_json seen depth) (shown_kid seen path res n)) res.kids i

pub more_spent : (room left rest : ℕ) (old mid new : Written) (ts us : List Token) → Spends room (Some left) old mid ts → Spends left (Some rest) mid new us
    → Spends room (Some rest) old new (ts ++ us)
more_spent room left rest old mid new ts us a b = (
  record { tokens = b.0.tokens ∙ ap (λ l. l ++ us) a.0.tokens ∙ append_assoc old.tokens ts us; before = b.0.before ∙ a.0.before },
  omega (arith, a.1, b.1, bytes-append ts us),
)

pub none_spent : (room left : ℕ) (old mid new : Written) (ts us : List Token) → Spends room (Some left) old mid ts → Spends left None mid new us → room < bytes_in (ts ++ us)
none_spent room left old mid new ts us a b = omega (arith, a.1, b, bytes-append ts us)

-- ---- the text in an empty buffer

pub tokens_are : (seen : Seen) (depth : ℕ) (path : List (List ℕ)) (res : Resource) (start end : Written) → start.tokens ≡ [] → path ≡ res.path
    → Adds start end (json_tokens (resource_json seen depth path res)) → end.tokens ≡ json_tokens (resource_json seen depth res.path res)
tokens_are seen depth path res start end none at a =
    a.tokens ∙ ap (λ ts. ts ++ json_tokens (resource_json seen depth path res)) none ∙ ap (λ p. json_tokens (resource_json seen depth p res)) at

pub text_is : (seen : Seen) (depth : ℕ) (res : Resource) (end : Written) → end.tokens ≡ json_tokens (resource_json seen depth res.path res) → print end.tokens ≡ json_text seen depth res
unfolding json_text
text_is seen depth res end is = ap print is

pub text_too_long : (most_bytes : ℕ) (text : List ℕ) → most_bytes < length text → TooLong ≡ text_within most_bytes text
text_too_long most_bytes text long = rw (lt-leb (length text) most_bytes long) refl

pub text_short : (most_bytes : ℕ) (text : List ℕ) → length text ≤ most_bytes → Whole text ≡ text_within most_bytes text
text_short most_bytes text short = rw (le-leb (length text) most_bytes short) refl

pub no_room_for_text : (seen : Seen) (depth : ℕ) (path : List (List ℕ)) (res : Resource) (most_bytes : ℕ) → path ≡ res.path
    → most_bytes < bytes_in (json_tokens (resource_json seen depth path res)) → TooLong ≡ text_within most_bytes (json_text seen depth res)
unfolding json_text
no_room_for_text seen depth path res most_bytes at over =
    text_too_long most_bytes (json_text seen depth res)
    (omega (arith, over, ap (λ p. bytes_in (json_tokens (resource_json seen depth p res))) at, text_bytes (json_tokens (resource_json seen depth res.path res))))
