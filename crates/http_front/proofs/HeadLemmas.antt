-- What decides about a head.
use Rattle.std.proofs.Common.{◌≡◌, ◌<◌, ◌+◌, ◌++◌, ℕ, Bool, true, false, cond, List, [], ◌∷◌, Option, Some, None, Ok, Err, length, get_or, map, take, sym, ◌∙◌, ap, refl, arith, subst}
use Rattle.std.specs.Prelude.{nat_lt, option_map, unwrap_or, All, codes}
use Rattle.std.specs.List.{find}
use Rattle.std.specs.Option.{is_none}
use Rattle.std.proofs.lemmas.List.{append-nil, get_or-map, length-map, map-append, take_more}
use Rattle.std.proofs.lemmas.List.Folds.{list_any-append}
use Rattle.std.specs.List.{list_any}
use Rattle.sp_base.specs.declared.field.FieldSpan.{FieldSpan}
use Rattle.sp_base.specs.Fields.{field_at}
use Rattle.httparse.specs.declared.spans.HeaderSpan.{HeaderSpan}
use Rattle.httparse.specs.Spans.{header_bytes, span_bytes}
use Rattle.http_front.specs.declared.fault.InFault.{InFault}
use Rattle.http_front.specs.declared.fault.InFault.TheVariants.{BadHead, ManyHeaders, BadTarget, NoLength, BadLength, LongBody}
use Rattle.http_front.specs.declared.target.Target.{Target}
use Rattle.sp_base.specs.Requests.{Request, request_line}
use Rattle.http_front.specs.LentHeads.{is_closing_field, is_closing_by_name}
use Rattle.http_header.specs.FieldName.{IsFieldName}
use Rattle.http_front.specs.Heads.{AskedFields, asks_to_close, lower_case_field, asked_host, body_length, has_transfer_coding, first_refusal, asked_of, asked_with, length_or_fault, HeadParts, heads, closes_connection, request_with, awaits_continue, Asks, within_limit, longest_body, most_fields}
use Rattle.std.specs.Prelude.{◌==◌, ◌||◌, ◌&&◌}
use Rattle.http1.specs.declared.fields.KnownFields.{KnownFields}
use Rattle.http1.specs.Text.{eq_ignore_case}
use Rattle.http1.specs.Fields.{known_fields, has_option, elements, elements_named, is_named}
use Rattle.http_front.specs.Targets.{target_of}

-- the name of a field may be one, where all may
pub name_at : (bytes : List ℕ) (spans : List HeaderSpan) (i : ℕ) (d : HeaderSpan) → All (λ field. IsFieldName field.0) (map (header_bytes bytes) spans) → i < length spans
    → IsFieldName (span_bytes bytes (get_or spans i d).name)
name_at bytes spans i d all inside =
    subst (λ field. IsFieldName field.0) (get_or-map (header_bytes bytes) spans i d (header_bytes bytes d) inside)
    (all i (header_bytes bytes d) (omega (arith, length-map spans (header_bytes bytes))))

-- one field more
pub one_more : (bytes : List ℕ) (spans : List HeaderSpan) (i : ℕ) (d : HeaderSpan) (fields next : List FieldSpan) (field : FieldSpan)
    → map (field_at bytes) fields ≡ map lower_case_field (map (header_bytes bytes) (take i spans)) → next ≡ fields ++ field ∷ []
    → field_at bytes field ≡ lower_case_field (header_bytes bytes (get_or spans i d)) → i < length spans
    → map (field_at bytes) next ≡ map lower_case_field (map (header_bytes bytes) (take (i + 1) spans))
one_more bytes spans i d fields next field so_far pushed told inside =
    let span = get_or spans i d in
    let before = map (header_bytes bytes) (take i spans) in
    ap (map (field_at bytes)) pushed ∙ map-append (field_at bytes) fields (field ∷ []) ∙ ap (λ (fs : List (List ℕ × List ℕ)). fs ++ field_at bytes field ∷ []) so_far
    ∙ ap (λ (f : List ℕ × List ℕ). map lower_case_field before ++ f ∷ []) told
    ∙ sym (map-append lower_case_field before (header_bytes bytes span ∷ []))
    ∙ ap (λ (fs : List (List ℕ × List ℕ)). map lower_case_field fs) (sym (map-append (header_bytes bytes) (take i spans) (span ∷ [])))
    ∙ ap (λ (fs : List HeaderSpan). map lower_case_field (map (header_bytes bytes) fs)) (sym (take_more spans i d inside))

pub bad_head : (minor : ℕ) (target : List ℕ) (fields : List (List ℕ × List ℕ)) → asked_host minor fields ≡ None → first_refusal minor target fields ≡ Some BadHead
unfolding first_refusal
bad_head minor target fields host = rw host refl

pub many_headers : (minor : ℕ) (target : List ℕ) (fields : List (List ℕ × List ℕ)) (host : List ℕ × ℕ) → asked_host minor fields ≡ Some host
    → nat_lt most_fields (length fields) ≡ true → first_refusal minor target fields ≡ Some ManyHeaders
unfolding first_refusal
many_headers minor target fields host h many = rw (h, many) refl

pub bad_target : (minor : ℕ) (target : List ℕ) (fields : List (List ℕ × List ℕ)) (host : List ℕ × ℕ) → asked_host minor fields ≡ Some host
    → nat_lt most_fields (length fields) ≡ false → target_of target ≡ None → first_refusal minor target fields ≡ Some BadTarget
unfolding first_refusal
bad_target minor target fields host h few t = rw (h, few, t) refl

-- the faults of the body's length come after the others
first : List (Bool × InFault) → Option InFault
first refusals = option_map {T = Bool × InFault} (λ refusal. refusal.1) (find (λ (refusal : Bool × InFault). refusal.0) refusals)

after_target : Bool → Option ℕ → Option InFault
after_target coding n = first ((coding, NoLength) ∷ (is_none n, BadLength) ∷ (nat_lt longest_body (unwrap_or n 0), LongBody) ∷ [])

too_long : (b : Bool) (n : ℕ) (e : InFault) → Err e ≡ cond b (Err LongBody) (Ok n) → first ((b, LongBody) ∷ []) ≡ Some e
unfolding first
too_long true n e h = cc
too_long false n e h = absurd cc

within : (b : Bool) (m n : ℕ) → Ok n ≡ cond b (Err LongBody) (Ok m) → (first ((b, LongBody) ∷ []) ≡ None) × (Some m ≡ Some n)
unfolding first
within true m n h = absurd cc
within false m n h = (refl, cc)

length_fault : (coding : Bool) (o : Option ℕ) (e : InFault) → Err e ≡ cond coding (Err NoLength) (within_limit o) → after_target coding o ≡ Some e
unfolding after_target first
length_fault true o e h = cc
length_fault false None e h = cc
length_fault false (Some n) e h = too_long (nat_lt longest_body n) n e h

length_fine : (coding : Bool) (o : Option ℕ) (n : ℕ) → Ok n ≡ cond coding (Err NoLength) (within_limit o) → (after_target coding o ≡ None) × (o ≡ Some n)
unfolding after_target first
length_fine true o n h = absurd cc
length_fine false None n h = absurd cc
length_fine false (Some m) n h = within (nat_lt longest_body m) m n h

pub bad_length : (minor : ℕ) (target : List ℕ) (fields : List (List ℕ × List ℕ)) (host : List ℕ × ℕ) (read : Target) (e : InFault) → asked_host minor fields ≡ Some host
    → nat_lt most_fields (length fields) ≡ false → target_of target ≡ Some read → Err e ≡ length_or_fault fields → first_refusal minor target fields ≡ Some e
unfolding first_refusal length_or_fault after_target first
bad_length minor target fields host read e h few t l = rw (h, few, t) (length_fault (has_transfer_coding fields) (body_length fields) e l)

pub faultless : (minor : ℕ) (target : List ℕ) (fields : List (List ℕ × List ℕ)) (host : List ℕ × ℕ) (read : Target) (n : ℕ) → asked_host minor fields ≡ Some host
    → nat_lt most_fields (length fields) ≡ false → target_of target ≡ Some read → Ok n ≡ length_or_fault fields → first_refusal minor target fields ≡ None
unfolding first_refusal length_or_fault after_target first
faultless minor target fields host read n h few t l = rw (h, few, t) (length_fine (has_transfer_coding fields) (body_length fields) n l).0

pub asked_is : (minor : ℕ) (target : List ℕ) (fields : List (List ℕ × List ℕ)) (host : List ℕ × ℕ) (read : Target) (n : ℕ) → asked_host minor fields ≡ Some host
    → target_of target ≡ Some read → Ok n ≡ length_or_fault fields → asked_of minor target fields ≡ Some (asked_with host read n)
unfolding asked_of length_or_fault after_target first
asked_is minor target fields host read n h t l = rw (h, t, (length_fine (has_transfer_coding fields) (body_length fields) n l).1) refl

-- the options of a field that isn't named so count for none
counted : (test : List ℕ → Bool) (named : Bool) (options : List (List ℕ)) → named && list_any test options ≡ list_any test (cond named options [])
counted test true options = refl
counted test false options = refl

-- the fields in lower case ask to close where the fields do
closes_by_name : (fields : List (List ℕ × List ℕ)) → list_any is_closing_field (map lower_case_field fields) ≡ asks_to_close fields
unfolding eq_ignore_case
closes_by_name [] = refl
closes_by_name (field ∷ fields) =
    let test = λ (e : List ℕ). eq_ignore_case e (codes "close") in
    let named = is_named (codes "connection") field in
    (λ i. counted test named (elements field.1) i || closes_by_name fields i)
    ∙ sym (list_any-append test (cond named (elements field.1) []) (elements_named (codes "connection") fields))

closing_is : (p : HeadParts) → is_closing_by_name p.minor (heads p) ≡ closes_connection p
closing_is p = ap (λ b. (p.minor == 0) || b) (closes_by_name p.fields)

-- the summary of one Connection field
pub known_close : (value : List ℕ) (known : KnownFields) → known ≡ known_fields ((codes "connection", value) ∷ []) → known.close ≡ has_option (codes "close") (elements value)
unfolding known_fields eq_ignore_case
known_close value known e = ap (λ k. k.close) e ∙ ap (has_option (codes "close")) (append-nil (elements value))

-- what a head asks for, from what was read of it
pub asks : (p : HeadParts) (target : List ℕ) (fields : List (List ℕ × List ℕ)) (asked : AskedFields) → target ≡ p.target → fields ≡ heads p → first_refusal p.minor target fields ≡ None
    → asked_of p.minor target fields ≡ Some asked → (request : Request) (await : Bool)
    → request ≡ request_with p.method (request_line p.method p.target p.minor) p.minor asked fields (is_closing_by_name p.minor fields)
    → await ≡ awaits_continue p.minor asked.body_length fields → Asks p (record { request = request; body_length = asked.body_length; awaits_continue = await })
asks p target fields asked t f none some request await r w = record {
  faultless = subst (λ u. first_refusal p.minor u (heads p) ≡ None) t (subst (λ fs. first_refusal p.minor target fs ≡ None) f none);
  asked = asked;
  asked_is = subst (λ u. asked_of p.minor u (heads p) ≡ Some asked) t (subst (λ fs. asked_of p.minor target fs ≡ Some asked) f some);
  head_is = λ i. record {
    request = (r ∙ λ j. request_with p.method (request_line p.method p.target p.minor) p.minor asked (f j) ((ap (is_closing_by_name p.minor) f ∙ closing_is p) j)) i;
    body_length = asked.body_length;
    awaits_continue = (w ∙ ap (λ fs. awaits_continue p.minor asked.body_length fs) f) i;
  };
}
