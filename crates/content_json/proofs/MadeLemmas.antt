-- What is made of the members of an object, and of the top.
use Rattle.std.proofs.Common.{◌≡◌, ◌≢◌, ◌<◌, ◌≤◌, ◌+◌, ◌-◌, ◌==◌, ℕ, suc, nat_lt, Bool, true, false, not, ◌||◌, List, [], ◌∷◌, map, length, Option, Some, None, is_some, if◌then◌else◌, ne_eqb, le-ltb, lt-ltb, refl, sym, ap, ◌∙◌, subst, arith}
use Rattle.std.specs.Prelude.{MatchOption}
use Rattle.std.proofs.lemmas.Bool.{true≢false, false≢true}
use Rattle.json.specs.Lex.{tokens}
use Rattle.json.specs.Reads.{token_of}
use Rattle.json.specs.Token as spec
use Rattle.json.specs.declared.token.Token.{Token}
use Rattle.json.specs.Json.{parse_map}
use Rattle.serde_json.specs.Data.{object, Members}
use Rattle.sp_base.specs.Paths.{most_segments}
use Rattle.sp_base.proofs.BoolLemmas.{or_true}
use Rattle.resource_tree.specs.Content.{Content, kid, most_nodes}
use Rattle.content_json.specs.declared.part.Part.{Part}
use Rattle.content_json.specs.declared.part.Part.TheVariants as part
use Rattle.content_json.specs.declared.part.Placed.{Placed}
use Rattle.content_json.specs.Faults.{fault_in}
use Rattle.content_json.specs.Nodes.{nodes_in, count_below, is_deeper_below}
use Rattle.content_json.specs.Steps.{is_sound}
use Rattle.content_json.specs.Parts.{is_unfit_value, may_stand, is_unfit_object, IsMemberPart, IsObjectPart, entry_of}
use Rattle.content_json.specs.Tokens.{value_of_tokens, members_of_tokens, IsPassedOver, ReadsPartIfThere, ReadsObjectIfThere, IsSoundContent, IsUnsound, AreNodesIfSound}
use Rattle.content_json.proofs.PassLemmas.{object_in, passes_under, text_of_value, same_object}
use Rattle.content_json.proofs.SizeLemmas.{length-nodes_in}

-- ---- a member

-- an object that is too deep
pub deep_made : (levels : ℕ) (path : List (List ℕ)) (name : List ℕ) (ts rest : List spec.Token) (found : Option Part) (b : Bool) → levels ≡ 0 → found ≡ (if b then Some part.Unfit else None) → IsPassedOver b (members_of_tokens 61 ts) rest
    → ReadsPartIfThere levels path name (spec.begin_object ∷ ts) rest found
deep_made levels path name ts rest found b none is passes =
    let all : value_of_tokens (levels + 62) (spec.begin_object ∷ ts) ≡ parse_map object (members_of_tokens 61 ts) = ap (λ n. value_of_tokens (n + 62) (spec.begin_object ∷ ts)) none ∙ object_in 62 ts (omega arith) in
    made b is (subst (λ o. IsPassedOver b o rest) (sym all) (passes_under object b (members_of_tokens 61 ts) rest passes)) passes all
  where
    deep : (ms : Members) → (not (may_stand name) || is_unfit_value levels (object ms)) ≡ true
    deep ms =
        let first : (levels == 0) ≡ true = ap (λ n. n == 0) none in
        ap (λ b. not (may_stand name) || (is_some (fault_in (object ms)) || (b || is_deeper_below (levels - 1) ms))) first ∙ ap (λ b. not (may_stand name) || b) (or_true (is_some (fault_in (object ms)))) ∙ or_true (not (may_stand name))

    made : (b : Bool) → found ≡ (if b then Some part.Unfit else None) → IsPassedOver b (value_of_tokens (levels + 62) (spec.begin_object ∷ ts)) rest → IsPassedOver b (members_of_tokens 61 ts) rest
        → value_of_tokens (levels + 62) (spec.begin_object ∷ ts) ≡ parse_map object (members_of_tokens 61 ts) → ReadsPartIfThere levels path name (spec.begin_object ∷ ts) rest found
    made true is here (ms, read) all =
        subst (ReadsPartIfThere levels path name (spec.begin_object ∷ ts) rest) (sym is) (object ms, all ∙ ap (parse_map object) read, deep ms)
    made false is here none all = subst (ReadsPartIfThere levels path name (spec.begin_object ∷ ts) rest) (sym is) here

object_is_part : (levels : ℕ) (path at : List (List ℕ)) (name : List ℕ) (p : Part) (ms : Members) → levels ≢ 0 → may_stand name ≡ true → at ≡ kid path name → IsObjectPart (levels - 1) at p ms → IsMemberPart levels path name p (object ms)
object_is_part levels path at name part.Nothing ms some named place is = absurd is
object_is_part levels path at name (part.Value v) ms some named place is = absurd is
object_is_part levels path at name (part.Kid s) ms some named place is =
    (named, ap (λ b. is_some (fault_in (object ms)) || (b || is_deeper_below (levels - 1) ms)) (ne_eqb levels 0 some) ∙ is.0, ms, refl, is.1 ∙ ap (λ p. nodes_in p (object ms)) place)
object_is_part levels path at name part.Unfit ms some named place is =
    ap (λ b. not (may_stand name) || (is_some (fault_in (object ms)) || (b || is_deeper_below (levels - 1) ms))) (ne_eqb levels 0 some) ∙ ap (λ b. not (may_stand name) || b) is ∙ or_true (not (may_stand name))

-- an object
pub kid_made : (levels : ℕ) (path at : List (List ℕ)) (name : List ℕ) (ts rest : List spec.Token) (found : Option Part) → levels ≢ 0 → may_stand name ≡ true → at ≡ kid path name
    → ReadsObjectIfThere (levels - 1) at ts rest found
    → ReadsPartIfThere levels path name (spec.begin_object ∷ ts) rest found
kid_made levels path at name ts rest found some named place made =
    let all : value_of_tokens (levels + 62) (spec.begin_object ∷ ts) ≡ parse_map object (members_of_tokens (levels - 1 + 62) ts) =
    object_in (levels + 62) ts (omega arith) ∙ ap (λ n. parse_map object (members_of_tokens n ts)) (omega (arith, some)) in
    told found made all
  where
    told : (found : Option Part) → ReadsObjectIfThere (levels - 1) at ts rest found → value_of_tokens (levels + 62) (spec.begin_object ∷ ts) ≡ parse_map object (members_of_tokens (levels - 1 + 62) ts)
        → ReadsPartIfThere levels path name (spec.begin_object ∷ ts) rest found
    told None none all = all ∙ ap (parse_map object) none
    told (Some p) (ms, read, is) all = (object ms, all ∙ ap (parse_map object) read, object_is_part levels path at name p ms some named place is)

-- ---- the top

too_big : (fault big deep : Bool) → big ≡ true → not (fault || (big || deep)) ≡ false
too_big true big deep h = refl
too_big false big deep h = ap (λ b. not (b || deep)) h

length-entries : (placed : List Placed) → length (map entry_of placed) ≡ length placed
length-entries [] = refl
length-entries (p ∷ ps) = ap (λ n. suc n) (length-entries ps)

counted : (ms : Members) (top : Placed) (below : List Placed) → entry_of top ∷ map entry_of below ≡ nodes_in [] (object ms) → suc (length below) ≡ suc (count_below ms)
counted ms top below is = ap (λ n. suc n) (sym (length-entries below)) ∙ ap length is ∙ length-nodes_in [] (object ms)

pub many_unsound : (ms : Members) (top : Placed) (below : List Placed) → entry_of top ∷ map entry_of below ≡ nodes_in [] (object ms) → most_nodes ≤ length below → is_sound ms ≡ false
many_unsound ms top below is many =
    too_big (is_some (fault_in (object ms))) (nat_lt most_nodes (suc (count_below ms))) (is_deeper_below most_segments ms) (lt-ltb most_nodes (suc (count_below ms)) (omega (arith, many, counted ms top below is)))

sound : (fault big deep : Bool) → (fault || deep) ≡ false → big ≡ false → not (fault || (big || deep)) ≡ true
sound true big deep h few = absurd (true≢false h)
sound false big deep h few = ap (λ b. not (b || deep)) few ∙ ap not h

pub few_sound : (ms : Members) (top : Placed) (below : List Placed) → entry_of top ∷ map entry_of below ≡ nodes_in [] (object ms) → length below < most_nodes → is_unfit_object most_segments ms ≡ false → is_sound ms ≡ true
few_sound ms top below is few fit =
    sound (is_some (fault_in (object ms))) (nat_lt most_nodes (suc (count_below ms))) (is_deeper_below most_segments ms) fit (le-ltb most_nodes (suc (count_below ms)) (omega (arith, few, counted ms top below is)))

-- what is sound has no fault and isn't too big
pub neither_of : {A : Type 0} (found : Option A) (big : Bool) → not (is_some found || big) ≡ true → (found ≡ None) × (big ≡ false)
neither_of None false h = (refl, refl)
neither_of None true h = absurd (cc)
neither_of (Some x) big h = absurd (cc)

-- ---- the text

pub more_left : (o : Option Token) (old new : List spec.Token) → MatchOption o ((old ≡ []) × (new ≡ [])) (λ t. old ≡ token_of t ∷ new) → is_some o ≡ true → (t : spec.Token) × (old ≡ t ∷ new)
more_left None old new h some = absurd (false≢true some)
more_left (Some t) old new h some = (token_of t, h)

pub none_more : (o : Option Token) (old new : List spec.Token) → MatchOption o ((old ≡ []) × (new ≡ [])) (λ t. old ≡ token_of t ∷ new) → is_some o ≡ false → old ≡ []
none_more None old new h none = h.0
none_more (Some t) old new h none = absurd (true≢false none)

pub text_made : (text : List ℕ) (ms : Members) (found : Option Content) → value_of_tokens 127 (tokens text) ≡ Some (object ms, []) → AreNodesIfSound ms found
    → MatchOption found (IsUnsound text) (IsSoundContent text)
text_made text ms None e none = λ other is. ap is_sound (sym (same_object text ms other e is)) ∙ none
text_made text ms (Some nodes) e h = (ms, text_of_value text (object ms) e, h.0, h.1)
