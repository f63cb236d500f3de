-- A stream that goes on: its turns stay, and more may come after them.
use Rattle.std.proofs.Common.{◌≡◌, ◌<◌, ◌≤◌, ◌-◌, ℕ, zero, suc, Bool, true, false, List, [], ◌∷◌, ◌++◌, None, length, take, refl, sym, ◌∙◌, ap, subst, arith, append_assoc, length-append, ⊎_elim}
use Rattle.std.proofs.lemmas.Bool.{false≢true, true≢false}
use Rattle.std.proofs.lemmas.List.{take-append-le, take_all}
use Rattle.httparse.specs.Grammar.{RequestHead, print_request, ReadsRequest, HasNoRequest, NeverHasRequest}
use Rattle.httparse.proofs.GrammarLemmas.{ReadsRequest-append, request_prefix_free}
use Rattle.sp_base.specs.Requests.{Request}
use Rattle.sp_base.proofs.ListLemmas.{take_none}
use Rattle.sp_base.proofs.OptionLemmas.{none_or_some}
use Rattle.http_front.specs.declared.fault.InFault.{InFault}
use Rattle.http_front.specs.declared.head.AskedHead.{AskedHead}
use Rattle.http_front.specs.declared.turn.Turn.{Turn}
use Rattle.http_front.specs.declared.turn.Turn.TheVariants.{Continue, Whole}
use Rattle.http_front.specs.Heads.{HeadParts, parts_of, head_fault, Asks, head_with}
use Rattle.http_front.specs.Turns.{End, Waits, Breaks, longest_head, window, BeginsWith, BeginsAsking, BeginsRefused, HasBody, with_request_body, StopsIn, BeginsWithRequest, AwaitsAskedBody, SpellsTurns}

-- ---- lists

pub take_over : (n : ℕ) (xs ys : List ℕ) → take n (xs ++ ys) ≡ take n xs ++ take (n - length xs) ys
take_over zero [] ys = refl
take_over zero (x ∷ xs) ys =
    let none : 0 - length (x ∷ xs) ≡ 0 = omega arith in
    sym (ap (λ n. take n ys) none ∙ take_none ys)
take_over (suc n) [] ys =
    let all : suc n - 0 ≡ suc n = omega arith in
    ap (λ k. take k ys) (sym all)
take_over (suc n) (x ∷ xs) ys =
    let less : suc n - length (x ∷ xs) ≡ n - length xs = omega arith in
    ap (λ zs. x ∷ zs) (take_over n xs ys ∙ ap (λ k. take n xs ++ take k ys) (sym less))

-- what stands before is one, where its length is
leading_same : (xs ys r q : List ℕ) → xs ++ r ≡ ys ++ q → length xs ≡ length ys → (xs ≡ ys) × (r ≡ q)
leading_same [] [] r q e l = (refl, e)
leading_same [] (y ∷ ys) r q e l = absurd (omega (arith, l))
leading_same (x ∷ xs) [] r q e l = absurd (omega (arith, l))
leading_same (x ∷ xs) (y ∷ ys) r q e l =
    let head : x ≡ y = cc in
    let tail : xs ++ r ≡ ys ++ q = cc in
    let rest = leading_same xs ys r q tail (omega (arith, l)) in
    (λ i. head i ∷ rest.0 i, rest.1)

-- ---- the head with which a stream begins

pub begins_append : (s more : List ℕ) (h : RequestHead) (rest : List ℕ) → BeginsWith s h rest → BeginsWith (s ++ more) h (rest ++ more)
begins_append s more h rest b = record { reads = ReadsRequest-append s h rest more b.reads; fits = b.fits }

pub begins_same : (s more : List ℕ) (h k : RequestHead) (r q : List ℕ) → BeginsWith s h r → BeginsWith (s ++ more) k q → (h ≡ k) × (r ++ more ≡ q)
begins_same s more h k r q b c = request_prefix_free s more h k r q b.reads c.reads

-- a head with which a stream begins stands in the window
pub in_window : (s : List ℕ) (h : RequestHead) (rest : List ℕ) → BeginsWith s h rest → (after : List ℕ) × ReadsRequest (window s) h after
in_window s h rest b =
    let n = longest_head in
    let p = print_request h in
    (take (n - length p) rest, (b.reads.0, ap (take n) b.reads.1 ∙ take_over n p rest ∙ ap (λ xs. xs ++ take (n - length p) rest) (take_all n p b.fits)))

pub has_head : (s : List ℕ) (h : RequestHead) (rest : List ℕ) → BeginsWith s h rest → HasNoRequest (window s) → ⊥
has_head s h rest b none = let found = in_window s h rest b in none h found.0 found.1

-- the window of a stream that goes on goes on
window_grows : (s more : List ℕ) → window (s ++ more) ≡ window s ++ take (longest_head - length s) more
window_grows s more = take_over longest_head s more

pub never_grows : (s more : List ℕ) → NeverHasRequest (window s) → NeverHasRequest (window (s ++ more))
never_grows s more never = λ m.
    subst HasNoRequest (sym (ap (λ w. w ++ m) (window_grows s more) ∙ append_assoc (window s) (take (longest_head - length s) more) m))
    (never (take (longest_head - length s) more ++ m))

pub window_full : (s more : List ℕ) → longest_head ≤ length s → window (s ++ more) ≡ window s
window_full s more full = take-append-le longest_head s more full

-- ---- what a head asks for

pub asks_same : (p : HeadParts) (a b : AskedHead) → Asks p a → Asks p b → a ≡ b
asks_same p a b x y =
    let same : x.asked ≡ y.asked = cc (x.asked_is, y.asked_is) in
    x.head_is ∙ ap (head_with p) same ∙ sym y.head_is

pub same_asking : (s more : List ℕ) (a b : AskedHead) (r q : List ℕ) → BeginsAsking s a r → BeginsAsking (s ++ more) b q → (a ≡ b) × (r ++ more ≡ q)
same_asking s more a b r q x y =
    let same = begins_same s more x.head y.head r q x.begins y.begins in
    (asks_same (parts_of y.head) a b (subst (λ h. Asks (parts_of h) a) same.0 x.asks) y.asks, same.1)

pub not_refused : (s more : List ℕ) (a : AskedHead) (r : List ℕ) (fault : InFault) → BeginsAsking s a r → BeginsRefused (s ++ more) fault → ⊥
not_refused s more a r fault x y =
    let same = begins_same s more x.head y.head r y.rest x.begins y.begins in
    none_or_some (head_fault (parts_of y.head)) fault (subst (λ h. head_fault (parts_of h) ≡ None) same.0 x.asks.faultless) y.refused

pub not_awaited : (s more : List ℕ) (a : AskedHead) (r : List ℕ) → BeginsAsking s a r → HasNoRequest (window (s ++ more)) → ⊥
not_awaited s more a r x none = has_head (s ++ more) x.head (r ++ more) (begins_append s more x.head r x.begins) none

pub never_none : (w : List ℕ) → NeverHasRequest w → HasNoRequest w
never_none w never = subst HasNoRequest (append_nil w) (never [])
  where
    append_nil : (xs : List ℕ) → xs ++ [] ≡ xs
    append_nil [] = refl
    append_nil (x ∷ xs) = ap (λ ys. x ∷ ys) (append_nil xs)

-- a stream that begins with a head stops only where its body is not whole
pub record Short (a : AskedHead) (bytes : List ℕ) : Type 0 where
  pub unasked : a.awaits_continue ≡ false
  pub short : length bytes < a.body_length

pub stops_short : (s more : List ℕ) (a : AskedHead) (r : List ℕ) (end : End) → BeginsAsking s a r → StopsIn (s ++ more) end → Short a (r ++ more)
stops_short s more a r Waits x stops = ⊎_elim
    (λ awaits. absurd (not_awaited s more a r x awaits.0.0))
    (λ body.
    let same = same_asking s more a body.asked r body.rest x body.begins in
    record {
      unasked = ap (λ h. h.awaits_continue) same.0 ∙ body.unasked;
      short = subst (λ bytes. length bytes < a.body_length) (sym same.1) (subst (λ h. length body.rest < h.body_length) (sym same.0) body.short);
    })
    stops
stops_short s more a r (Breaks fault) x stops = ⊎_elim
    (λ refused. absurd (not_refused s more a r fault x refused))
    (λ none. ⊎_elim
    (λ never. absurd (not_awaited s more a r x (never_none (window (s ++ more)) never.1)))
    (λ long. absurd (not_awaited s more a r x long.1.0.0))
    none)
    stops

-- ---- the request with which a stream begins

whole_long : (a : AskedHead) (bytes : List ℕ) (request : Request) (rest more : List ℕ) → HasBody a bytes request rest → length (bytes ++ more) < a.body_length → ⊥
whole_long a bytes request rest more body short =
    let size = ap length body.joined ∙ length-append body.body rest in
    omega (arith, size, length-append bytes more, body.whole, short)

pub request_stays : (s more : List ℕ) (awaits : Bool) (request : Request) (rest : List ℕ) (end : End) → BeginsWithRequest s awaits request rest → StopsIn (s ++ more) end → ⊥
request_stays s more awaits request rest end b stops =
    whole_long b.asked b.bytes request rest more b.body (stops_short s more b.asked b.bytes end b.begins stops).short

pub request_same : (s more : List ℕ) (x y : Bool) (r q : Request) (rest after : List ℕ) → BeginsWithRequest s x r rest → BeginsWithRequest (s ++ more) y q after
    → (x ≡ y) × (r ≡ q) × (rest ++ more ≡ after)
request_same s more x y r q rest after b c =
    let same = same_asking s more b.asked c.asked b.bytes c.bytes b.begins c.begins in
    let joined : b.body.body ++ (rest ++ more) ≡ c.body.body ++ after =
    sym (append_assoc b.body.body rest more) ∙ ap (λ xs. xs ++ more) (sym b.body.joined) ∙ same.1 ∙ c.body.joined in
    let sizes : length b.body.body ≡ length c.body.body = b.body.whole ∙ ap (λ h. h.body_length) same.0 ∙ sym c.body.whole in
    let cut = leading_same b.body.body c.body.body (rest ++ more) after joined sizes in (
      sym b.awaits_is ∙ ap (λ h. h.awaits_continue) same.0 ∙ c.awaits_is,
      b.body.request_is ∙ (λ i. with_request_body (same.0 i) (cut.0 i)) ∙ sym c.body.request_is,
      cut.1,
    )

-- a head that is whole, before its body, as the head of the request that follows
asked_same : (s more : List ℕ) (x : Bool) (r : Request) (rest : List ℕ) → AwaitsAskedBody s → BeginsWithRequest (s ++ more) x r rest → x ≡ true
asked_same s more x r rest a b =
    let same = same_asking s more a.asked b.asked a.rest b.bytes a.begins b.begins in
    sym b.awaits_is ∙ ap (λ h. h.awaits_continue) (sym same.0) ∙ a.asks

not_asked : (s more : List ℕ) (x : Bool) (r : Request) (rest : List ℕ) → BeginsWithRequest s x r rest → AwaitsAskedBody (s ++ more) → ⊥
not_asked s more x r rest b a =
    let same = same_asking s more b.asked a.asked b.bytes a.rest b.begins a.begins in
    whole_long b.asked b.bytes r rest more b.body
    (subst (λ bytes. length bytes < b.asked.body_length) (sym same.1) (subst (λ h. length a.rest < h.body_length) (sym same.0) a.short))

-- The turns of the beginning of a stream are the beginning of its turns.
pub prefix : (s more : List ℕ) (hs ks : List Turn) (e f : End) → SpellsTurns s hs e → SpellsTurns (s ++ more) ks f → (later : List Turn) × (ks ≡ hs ++ later)
prefix s more [] ks e f x y = (ks, refl)
prefix s more (Whole r ∷ hs) [] e f x y = absurd (request_stays s more false r x.0 f x.1 y)
prefix s more (Whole r ∷ hs) (Whole q ∷ ks) e f x y =
    let same = request_same s more false false r q x.0 y.0 x.1 y.1 in
    let rest = prefix x.0 more hs ks e f x.2 (subst (λ bytes. SpellsTurns bytes ks f) (sym same.2) y.2) in
    (rest.0, λ i. Whole (sym same.1 i) ∷ rest.1 i)
prefix s more (Whole r ∷ hs) (Continue ∷ []) e f x y = absurd (not_asked s more false r x.0 x.1 y.0)
prefix s more (Whole r ∷ hs) (Continue ∷ Continue ∷ ks) e f x y = absurd y
prefix s more (Whole r ∷ hs) (Continue ∷ Whole q ∷ ks) e f x y = absurd (false≢true (request_same s more false true r q x.0 y.0 x.1 y.1).0)
prefix s more (Continue ∷ []) [] e f x y = absurd (true≢false (sym x.0.asks ∙ (stops_short s more x.0.asked x.0.rest f x.0.begins y).unasked))
prefix s more (Continue ∷ []) (Whole q ∷ ks) e f x y =
    let b : BeginsWithRequest (s ++ more) false q y.0 = y.1 in
    absurd (false≢true (asked_same s more false q y.0 x.0 b))
prefix s more (Continue ∷ []) (Continue ∷ ks) e f x y = (ks, refl)
prefix s more (Continue ∷ Continue ∷ hs) ks e f x y = absurd x
prefix s more (Continue ∷ Whole r ∷ hs) [] e f x y = absurd (request_stays s more true r x.0 f x.1 y)
prefix s more (Continue ∷ Whole r ∷ hs) (Whole q ∷ ks) e f x y = absurd (true≢false (request_same s more true false r q x.0 y.0 x.1 y.1).0)
prefix s more (Continue ∷ Whole r ∷ hs) (Continue ∷ []) e f x y = absurd (not_asked s more true r x.0 x.1 y.0)
prefix s more (Continue ∷ Whole r ∷ hs) (Continue ∷ Continue ∷ ks) e f x y = absurd y
prefix s more (Continue ∷ Whole r ∷ hs) (Continue ∷ Whole q ∷ ks) e f x y =
    let same = request_same s more true true r q x.0 y.0 x.1 y.1 in
    let rest = prefix x.0 more hs ks e f x.2 (subst (λ bytes. SpellsTurns bytes ks f) (sym same.2) y.2) in
    (rest.0, λ i. Continue ∷ Whole (sym same.1 i) ∷ rest.1 i)
