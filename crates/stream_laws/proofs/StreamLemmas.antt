-- Each stream spells some turns: by its first head, if it has one, and else by how it may go on.
use Rattle.std.proofs.Common.{◌≡◌, ◌<◌, ◌≤◌, ◌⊎◌, inl, inr, ℕ, zero, suc, Bool, true, false, List, [], ◌∷◌, ◌++◌, ◌-◌, Option, Some, None, length, take, drop, refl, sym, ◌∙◌, ap, subst, arith, length-append, length-take, length-drop, nat_lt, ⊎_elim}
use Rattle.std.specs.Prelude.{option_and_then, option_map, unwrap_or}
use Rattle.std.specs.List.{find}
use Rattle.std.specs.Option.{is_none}
use Rattle.std.proofs.lemmas.Bool.Decides.{nat_tests}
use Rattle.std.proofs.lemmas.List.{append-nil, take-append-drop, length-take-le}
use Rattle.httparse.specs.Grammar.{RequestHead, print_request, HasNoRequest, MayBecomeRequest, NeverHasRequest, ReadsRequest}
use Rattle.httparse.proofs.GrammarLemmas.{ReadsRequest-append}
use Rattle.sp_base.specs.Requests.{Request}
use Rattle.sp_base.specs.Texts.{Pairs}
use Rattle.http_front.specs.declared.fault.InFault.{InFault}
use Rattle.http_front.specs.declared.fault.InFault.TheVariants.{BadHead, BadLength, BadTarget, LongBody, LongHead, ManyHeaders, NoLength}
use Rattle.http_front.specs.declared.head.AskedHead.{AskedHead}
use Rattle.http_front.specs.declared.target.Target.{Target}
use Rattle.http_front.specs.declared.turn.Turn.TheVariants.{Continue, Whole}
use Rattle.http_front.specs.Heads.{AskedFields, asked_host, asked_of, asked_with, body_length, first_refusal, has_transfer_coding, head_fault, head_with, heads, longest_body, most_fields, parts_of}
use Rattle.http_front.specs.Targets.{target_of}
use Rattle.http_front.specs.Turns.{Waits, Breaks, longest_head, window, BeginsWith, BeginsAsking, BeginsWithRequest, with_request_body}
use Rattle.http_front.proofs.ParserLemmas.{head_takes_bytes}
use Rattle.stream_laws.specs.Streams.{SpellsNone}

-- ---- lists

-- of two lists that begin alike the shorter begins the longer
front : (xs ys a b : List ℕ) → xs ++ a ≡ ys ++ b → length ys ≤ length xs → xs ≡ ys ++ drop (length ys) xs
front xs [] a b e le = refl
front [] (y ∷ ys) a b e le = absurd (omega (arith, le))
front (x ∷ xs) (y ∷ ys) a b e le =
    let head : x ≡ y = cc in
    let tail : xs ++ a ≡ ys ++ b = cc in
    let rest = front xs ys a b tail (omega (arith, le)) in
    λ i. head i ∷ rest i

-- ---- no head

-- where no head is read and none may come, none ever is
never : (w : List ℕ) → HasNoRequest w → (MayBecomeRequest w → ⊥) → NeverHasRequest w
never w none not more h rest reads = ⊎_elim
    (λ (fits : length (print_request h) ≤ length w). none h (drop (length (print_request h)) w) (reads.0, front w (print_request h) more rest reads.1 fits))
    (λ (long : length w ≤ length (print_request h)).
    not (inl (drop (length w) (print_request h), h, (reads.0, sym (front (print_request h) w rest more (sym reads.1) long) ∙ sym (append-nil (print_request h))))))
    (one_is_longer (length (print_request h)) (length w))
  where
    one_is_longer : (m n : ℕ) → (m ≤ n) ⊎ (n ≤ m)
    one_is_longer zero n = inl (omega arith)
    one_is_longer (suc m) zero = inr (omega arith)
    one_is_longer (suc m) (suc n) = ⊎_elim (λ (le : m ≤ n). inl (omega (arith, le))) (λ (le : n ≤ m). inr (omega (arith, le))) (one_is_longer m n)

-- a head in the window of a stream is one with which the stream begins
no_request : (s : List ℕ) → ((h : RequestHead) (rest : List ℕ) → BeginsWith s h rest → ⊥) → HasNoRequest (window s)
no_request s no_head h rest reads =
    let whole = take-append-drop longest_head s in
    let size = length-append (print_request h) rest in
    let taken = length-take longest_head s in
    no_head h (rest ++ drop longest_head s) (record {
      reads = subst (λ t. ReadsRequest t h (rest ++ drop longest_head s)) whole (ReadsRequest-append (window s) h rest (drop longest_head s) reads);
      fits = omega (arith, ap length reads.1, size, taken);
    })

-- it is so or not: that this is refused, is refused
either : (P : Type 0) → ((P ⊎ (P → ⊥)) → ⊥) → ⊥
either P refused = refused (inr (λ p. refused (inl p)))

without_head : (s : List ℕ) → SpellsNone s → ((h : RequestHead) (rest : List ℕ) → BeginsWith s h rest → ⊥) → ⊥
without_head s none no_head = either (MayBecomeRequest (window s)) (⊎_elim (λ may. goes_on may (nat_lt (length s) longest_head) refl) (λ not. none [] (Breaks BadHead) (inr (inl (refl, never (window s) no not)))))
  where
    no : HasNoRequest (window s)
    no = no_request s no_head

    goes_on : MayBecomeRequest (window s) → (b : Bool) → nat_lt (length s) longest_head ≡ b → ⊥
    goes_on may true e = none [] Waits (inl ((no, may), grind (arith, nat_tests)))
    goes_on may false e = none [] (Breaks LongHead) (inr (inr (refl, ((no, may), grind (arith, nat_tests)))))

-- ---- a head

-- a head that has no fault asks for something
asks_something : (minor : ℕ) (target : List ℕ) (fields : Pairs) → first_refusal minor target fields ≡ None → (asked : AskedFields) × (asked_of minor target fields ≡ Some asked)
unfolding first_refusal asked_of
asks_something minor target fields e = go (asked_host minor fields) (nat_lt most_fields (length fields)) (target_of target) (has_transfer_coding fields) (body_length fields) e
  where
    go : (h : Option (List ℕ × ℕ)) (many : Bool) (t : Option Target) (coding : Bool) (n : Option ℕ)
        → option_map {T = Bool × InFault} (λ refusal. refusal.1) (find (λ (refusal : Bool × InFault). refusal.0) ((is_none h, BadHead) ∷ (many, ManyHeaders) ∷ (is_none t, BadTarget) ∷ (coding, NoLength) ∷ (is_none n, BadLength) ∷ (nat_lt longest_body (unwrap_or n 0), LongBody) ∷ [])) ≡ None
        → (asked : AskedFields) × (option_and_then (λ host. option_and_then (λ read. option_map (asked_with host read) n) t) h ≡ Some asked)
    go None many t coding n e = absurd cc
    go (Some host) true t coding n e = absurd cc
    go (Some host) false None coding n e = absurd cc
    go (Some host) false (Some read) true n e = absurd cc
    go (Some host) false (Some read) false None e = absurd cc
    go (Some host) false (Some read) false (Some n) e = (asked_with host read n, refl)

-- the turns of what comes after a request go on those of the request
with_turns : (s : List ℕ) (awaits : Bool) (request : Request) (rest : List ℕ) → SpellsNone s → BeginsWithRequest s awaits request rest → SpellsNone rest
with_turns s false request rest none begins turns end spells = none (Whole request ∷ turns) end (rest, begins, spells)
with_turns s true request rest none begins turns end spells = none (Continue ∷ Whole request ∷ turns) end (rest, begins, spells)

-- a head whose body is not whole ends the turns
with_short_body : (s : List ℕ) (asked : AskedHead) (rest : List ℕ) → SpellsNone s → BeginsAsking s asked rest → length rest < asked.body_length → ⊥
with_short_body s asked rest none begins short = go asked.awaits_continue refl
  where
    go : (b : Bool) → asked.awaits_continue ≡ b → ⊥
    go true e = none (Continue ∷ []) Waits (record { asked = asked; rest = rest; begins = begins; asks = e; short = short }, refl)
    go false e = none [] Waits (inr (record { asked = asked; rest = rest; begins = begins; unasked = e; short = short }))

-- the request with which a stream begins whose head asks for this and whose body is whole
request_there : (s : List ℕ) (asked : AskedHead) (rest : List ℕ) → BeginsAsking s asked rest → asked.body_length ≤ length rest
    → BeginsWithRequest s asked.awaits_continue (with_request_body asked (take asked.body_length rest)) (drop asked.body_length rest)
request_there s asked rest begins whole = record {
  asked = asked;
  bytes = rest;
  begins = begins;
  awaits_is = refl;
  body = record {
    body = take asked.body_length rest;
    joined = sym (take-append-drop asked.body_length rest);
    whole = length-take-le asked.body_length rest whole;
    request_is = refl;
  };
}

-- what comes after a head is shorter than the stream
rest_shorter : (s : List ℕ) (h : RequestHead) (rest : List ℕ) → BeginsWith s h rest → length rest < length s
rest_shorter s h rest begins = omega (arith, ap length begins.reads.1, length-append (print_request h) rest, head_takes_bytes h)

asking_there : (s : List ℕ) (h : RequestHead) (rest : List ℕ) → BeginsWith s h rest → head_fault (parts_of h) ≡ None → (asked : AskedHead) × BeginsAsking s asked rest
asking_there s h rest begins faultless =
    let p = parts_of h in
    let x = asks_something p.minor p.target (heads p) faultless in
    (head_with p x.0, record { head = h; begins = begins; asks = record { faultless = faultless; asked = x.0; asked_is = x.1; head_is = refl } })

-- ---- each stream

-- no shorter stream spells none
abbrev NoneShorter : List ℕ → Type 0
NoneShorter s = (t : List ℕ) → length t < length s → SpellsNone t → ⊥

with_body : (s : List ℕ) → NoneShorter s → SpellsNone s → (asked : AskedHead) (rest : List ℕ) → BeginsAsking s asked rest → length rest < length s → (b : Bool) → nat_lt (length rest) asked.body_length ≡ b → ⊥
with_body s shorter none asked rest begins less true e = with_short_body s asked rest none begins (grind (arith, nat_tests))
with_body s shorter none asked rest begins less false e =
    let n = asked.body_length in
    let left = length-drop n rest in
    shorter (drop n rest) (omega (arith, less, left)) (with_turns s asked.awaits_continue (with_request_body asked (take n rest)) (drop n rest) none (request_there s asked rest begins (grind (arith, nat_tests))))

with_head : (s : List ℕ) → NoneShorter s → SpellsNone s → (h : RequestHead) (rest : List ℕ) → BeginsWith s h rest → ⊥
with_head s shorter none h rest begins = go (head_fault (parts_of h)) refl
  where
    go : (o : Option InFault) → head_fault (parts_of h) ≡ o → ⊥
    go (Some fault) e = none [] (Breaks fault) (inl (record { head = h; rest = rest; begins = begins; refused = e }))
    go None e = let x = asking_there s h rest begins e in with_body s shorter none x.0 rest x.1 (rest_shorter s h rest begins) (nat_lt (length rest) x.0.body_length) refl

none_of : (n : ℕ) (s : List ℕ) → length s ≤ n → SpellsNone s → ⊥
none_of zero s size none = without_head s none (with_head s (λ t less. absurd (omega (arith, size, less))) none)
none_of (suc n) s size none = without_head s none (with_head s (λ t less. none_of n t (omega (arith, size, less))) none)

pub spelled : (stream : List ℕ) → SpellsNone stream → ⊥
spelled stream = none_of (length stream) stream (omega arith)
