-- How a stream may end.
use Rattle.std.proofs.Common.{◌≡◌, ◌<◌, ◌≤◌, ◌⊎◌, inl, inr, ℕ, Bool, true, false, List, [], ◌∷◌, ◌++◌, Some, length, refl, sym, ◌∙◌, ap, subst, arith, append_assoc, append-nil, length-append, ⊎_elim}
use Rattle.std.specs.Prelude.{IsUtf8}
use Rattle.std.proofs.lemmas.List.Elements.{All-append, All-cons, All-head, All-nil, All-tail}
use Rattle.std.proofs.lemmas.Str.{IsUtf8-append, IsUtf8-from_ascii}
use Rattle.std.proofs.lemmas.Str.Ascii.{IsAscii-from_all}
use Rattle.httparse.specs.Grammar.{AllPass, HasNoRequest, IsField, IsToken, LineEnd, MayBecomeRequest, NeverHasRequest, RequestHead, is_uri_byte, lf, print_blank, print_end, print_section, print_version}
use Rattle.httparse.proofs.GrammarLemmas.{cons-append, print_request-append, request_pieces, request_unique}
use Rattle.httparse.proofs.PieceLemmas.{Blank_deterministic, Method_deterministic, Stops_token}
use Rattle.sp_base.specs.Requests.{Request}
use Rattle.http_front.specs.declared.fault.InFault.{InFault}
use Rattle.http_front.specs.declared.fault.InFault.TheVariants.{BadHead, LongHead}
use Rattle.http_front.specs.declared.turn.Turn.{Turn}
use Rattle.http_front.specs.declared.turn.Turn.TheVariants.{Continue, Whole}
use Rattle.http_front.specs.Heads.{head_fault, parts_of}
use Rattle.http_front.specs.OpenEnds.{BeginsWithTurns, EndsInSpoiltTarget, LeavesEndOpen}
use Rattle.http_front.specs.Turns.{AwaitsBody, AwaitsHead, BeginsRefused, BeginsWithRequest, Breaks, End, HasNoHead, SpellsTurns, StopsIn, Waits, longest_head, window}
use Rattle.http_front.proofs.TurnLemmas.{has_head, never_none, not_awaited, not_refused, request_same}

-- ---- a target that no bytes can save

abbrev head_of : List LineEnd → List ℕ → List ℕ → RequestHead
head_of blank method target = record { blank = blank; method = method; target = target; minor = 1; line_end = lf; fields = []; last = lf }

abbrev Passes : ℕ → Type 0
Passes b = is_uri_byte b ≡ true

slash_passes : AllPass is_uri_byte (47 ∷ [])
slash_passes = All-cons Passes 47 [] refl (All-nil Passes)

slash_text : IsUtf8 (47 ∷ [])
slash_text = IsUtf8-from_ascii (47 ∷ []) (IsAscii-from_all (47 ∷ []) (All-cons (λ b. b < 128) 47 [] (omega arith) (All-nil (λ b. b < 128))))

-- what stands after the target of such a head
abbrev after_target : List ℕ
after_target = 32 ∷ (print_version 1 ++ (print_end lf ++ (print_section [] lf ++ [])))

joined : (a b t m r : List ℕ) → (a ++ b ++ 32 ∷ t) ++ (m ++ r) ≡ a ++ (b ++ 32 ∷ ((t ++ m) ++ r))
joined a b t m r = simp (append_assoc, cons-append)

-- a target that can be completed makes a head
head_comes : (blank : List LineEnd) (method target more : List ℕ) → IsToken method → AllPass is_uri_byte target → AllPass is_uri_byte more → 0 < length (target ++ more) → IsUtf8 (target ++ more)
    → NeverHasRequest (print_blank blank ++ method ++ 32 ∷ target) → ⊥
head_comes blank method target more token visible further some text never =
    let head = head_of blank method (target ++ more) in
    never (more ++ after_target) head [] (
      record { method = token; target = (some, All-append Passes target more visible further); target_text = text; minor = omega arith; fields = All-nil IsField },
      joined (print_blank blank) method target more after_target ∙ sym (print_request-append head []),
    )

is_spoilt : (blank : List LineEnd) (method target : List ℕ) → IsToken method → AllPass is_uri_byte target → NeverHasRequest (print_blank blank ++ method ++ 32 ∷ target) → (more : List ℕ) → AllPass is_uri_byte more → IsUtf8 (target ++ more) → ⊥
is_spoilt blank method target token visible never more further text =
    head_comes blank method target (more ++ 47 ∷ []) token visible (All-append Passes more (47 ∷ []) further slash_passes)
    (omega (arith, length-append target (more ++ 47 ∷ []), length-append more (47 ∷ [])))
    (subst IsUtf8 (append_assoc target more (47 ∷ [])) (IsUtf8-append (target ++ more) (47 ∷ []) text slash_text)) never

-- bytes that may become a head, and never do, end within a spoilt target
spoilt_target : (s : List ℕ) → MayBecomeRequest (window s) → NeverHasRequest (window s) → EndsInSpoiltTarget s
spoilt_target s (inl (more, h, reads)) never = absurd (never more h [] reads)
spoilt_target s (inr (blank, method, target, token, visible, stands)) never = record {
  blank = blank;
  method = method;
  target = target;
  token = token;
  visible = visible;
  stands = stands;
  spoilt = is_spoilt blank method target token visible (subst NeverHasRequest stands never);
}

-- ---- two ends of one stream

append_none : (s : List ℕ) (P : List ℕ → Type 0) → P s → P (s ++ [])
append_none s P p = subst P (sym (append-nil s)) p

refused_one : (s : List ℕ) (f g : InFault) → BeginsRefused s f → BeginsRefused s g → f ≡ g
refused_one s f g x y =
    let same = request_unique s x.head y.head x.rest y.rest x.begins.reads y.begins.reads in
    let one : Some f ≡ Some g = sym x.refused ∙ ap (λ h. head_fault (parts_of h)) same.0 ∙ y.refused in
    let is : f ≡ g = cc in is

refused_awaited : (s : List ℕ) (f : InFault) → BeginsRefused s f → HasNoRequest (window s) → ⊥
refused_awaited s f x none = has_head s x.head x.rest x.begins none

refused_none : (s : List ℕ) (f g : InFault) → BeginsRefused s f → HasNoHead s g → ⊥
refused_none s f g x (inl never) = refused_awaited s f x (never_none (window s) never.1)
refused_none s f g x (inr long) = refused_awaited s f x long.1.0.0

body_refused : (s : List ℕ) (f : InFault) → AwaitsBody s → BeginsRefused s f → ⊥
body_refused s f x y = not_refused s [] x.asked x.rest f x.begins (append_none s (λ t. BeginsRefused t f) y)

body_none : (s : List ℕ) (f : InFault) → AwaitsBody s → HasNoHead s f → ⊥
body_none s f x (inl never) = not_awaited s [] x.asked x.rest x.begins (append_none s (λ t. HasNoRequest (window t)) (never_none (window s) never.1))
body_none s f x (inr long) = not_awaited s [] x.asked x.rest x.begins (append_none s (λ t. HasNoRequest (window t)) long.1.0.0)

none_one : (s : List ℕ) (f g : InFault) → HasNoHead s f → HasNoHead s g → (f ≡ g) ⊎ EndsInSpoiltTarget s
none_one s f g (inl x) (inl y) = inl (x.0 ∙ sym y.0)
none_one s f g (inl x) (inr y) = inr (spoilt_target s y.1.0.1 x.1)
none_one s f g (inr x) (inl y) = inr (spoilt_target s x.1.0.1 y.1)
none_one s f g (inr x) (inr y) = inl (x.0 ∙ sym y.0)

waits_breaks : (s : List ℕ) (f : InFault) → StopsIn s Waits → StopsIn s (Breaks f) → EndsInSpoiltTarget s
waits_breaks s f (inl awaits) (inl refused) = absurd (refused_awaited s f refused awaits.0.0)
waits_breaks s f (inl awaits) (inr (inl never)) = spoilt_target s awaits.0.1 never.1
waits_breaks s f (inl awaits) (inr (inr long)) = absurd (omega (arith, awaits.1, long.1.1))
waits_breaks s f (inr body) (inl refused) = absurd (body_refused s f body refused)
waits_breaks s f (inr body) (inr none) = absurd (body_none s f body none)

breaks_breaks : (s : List ℕ) (f g : InFault) → StopsIn s (Breaks f) → StopsIn s (Breaks g) → (f ≡ g) ⊎ EndsInSpoiltTarget s
breaks_breaks s f g (inl x) (inl y) = inl (refused_one s f g x y)
breaks_breaks s f g (inl x) (inr y) = absurd (refused_none s f g x y)
breaks_breaks s f g (inr x) (inl y) = absurd (refused_none s g f y x)
breaks_breaks s f g (inr x) (inr y) = none_one s f g x y

stops_one : (s : List ℕ) (e f : End) → StopsIn s e → StopsIn s f → (e ≡ f) ⊎ EndsInSpoiltTarget s
stops_one s Waits Waits x y = inl refl
stops_one s Waits (Breaks g) x y = inr (waits_breaks s g x y)
stops_one s (Breaks f) Waits x y = inr (waits_breaks s f y x)
stops_one s (Breaks f) (Breaks g) x y = ⊎_elim (λ same. inl (ap Breaks same)) (λ open_. inr open_) (breaks_breaks s f g x y)

-- what comes after a request is one
rest_one : (s : List ℕ) (awaits : Bool) (request : Request) (rest after : List ℕ) → BeginsWithRequest s awaits request rest → BeginsWithRequest s awaits request after → rest ≡ after
rest_one s awaits request rest after x y =
    sym (append-nil rest) ∙ (request_same s [] awaits awaits request request rest after x (append_none s (λ t. BeginsWithRequest t awaits request after) y)).2

pub end_one : (s : List ℕ) (turns : List Turn) (e f : End) → SpellsTurns s turns e → SpellsTurns s turns f → (e ≡ f) ⊎ LeavesEndOpen s turns
end_one s [] e f x y = ⊎_elim (λ one. inl one) (λ open_. inr (s, refl, open_)) (stops_one s e f x y)
end_one s (Whole r ∷ turns) e f x y =
    let same = rest_one s false r y.0 x.0 y.1 x.1 in
    ⊎_elim (λ one. inl one) (λ open_. inr (open_.0, (x.0, x.1, open_.1), open_.2)) (end_one x.0 turns e f x.2 (subst (λ rest. SpellsTurns rest turns f) same y.2))
end_one s (Continue ∷ []) e f x y = inl (x.1 ∙ sym y.1)
end_one s (Continue ∷ Continue ∷ turns) e f x y = absurd x
end_one s (Continue ∷ Whole r ∷ turns) e f x y =
    let same = rest_one s true r y.0 x.0 y.1 x.1 in
    ⊎_elim (λ one. inl one) (λ open_. inr (open_.0, (x.0, x.1, open_.1), open_.2)) (end_one x.0 turns e f x.2 (subst (λ rest. SpellsTurns rest turns f) same y.2))

-- ---- at such an end

-- each target that ends after a run of a target's bytes begins with that run
further : (leading target after more : List ℕ) → AllPass is_uri_byte leading → AllPass is_uri_byte target → leading ++ more ≡ target ++ 32 ∷ after → (k : List ℕ) × AllPass is_uri_byte k × (target ≡ leading ++ k)
further [] target after more passes visible e = (target, visible, refl)
further (b ∷ leading) [] after more passes visible e = let pass = All-head Passes b leading passes in absurd (cc)
further (b ∷ leading) (d ∷ target) after more passes visible e =
    let later = further leading target after more (All-tail Passes b leading passes) (All-tail Passes d target visible) (cc) in
    (later.0, later.1, cc)

-- no bytes make a head of what ends within such a target
never_head : (s : List ℕ) → EndsInSpoiltTarget s → NeverHasRequest (window s)
never_head s x more head rest reads =
    let buf : List ℕ = window s ++ more in
    let pieces = request_pieces buf head rest reads in
    let stands : buf ≡ print_blank x.blank ++ (x.method ++ 32 ∷ (x.target ++ more)) = ap (λ w. w ++ more) x.stands ∙ spread (print_blank x.blank) x.method x.target in
    let blank = Blank_deterministic.unique x.blank head.blank buf _ _ (stands, Stops_token x.method _ x.token.0 x.token.1) pieces.1.1 in
    let method = Method_deterministic.unique x.method head.method _ _ _ (x.token.0, x.token.1, sym blank.1) pieces.1.2.1 in
    let target = pieces.1.2.2.1 in
    let longer = further x.target head.target _ more x.visible target.0.1 (method.1 ∙ target.0.2) in
    x.spoilt longer.0 longer.1 (subst IsUtf8 longer.2 target.1)
  where
    spread : (a b t : List ℕ) → (a ++ b ++ 32 ∷ t) ++ more ≡ a ++ (b ++ 32 ∷ (t ++ more))
    spread a b t = simp (append_assoc, cons-append)

in_target : (s : List ℕ) → EndsInSpoiltTarget s → AwaitsHead s
in_target s x = (never_none (window s) (never_head s x), inr (x.blank, x.method, x.target, x.token, x.visible, x.stands))

bad_here : (s : List ℕ) → EndsInSpoiltTarget s → HasNoHead s BadHead
bad_here s x = inl (refl, never_head s x)

-- the ends of a stream that ends within such a target
abbrev IsEndLeftOpen : List ℕ → End → Type 0
IsEndLeftOpen s end = (end ≡ Breaks BadHead) ⊎ (((end ≡ Waits) × (length s < longest_head)) ⊎ ((end ≡ Breaks LongHead) × (longest_head ≤ length s)))

only_here : (s : List ℕ) (end : End) → EndsInSpoiltTarget s → StopsIn s end → IsEndLeftOpen s end
only_here s Waits x (inl awaits) = inr (inl (refl, awaits.1))
only_here s Waits x (inr body) = absurd (body_none s BadHead body (bad_here s x))
only_here s (Breaks f) x (inl refused) = absurd (refused_none s f BadHead refused (bad_here s x))
only_here s (Breaks f) x (inr (inl never)) = inl (ap Breaks never.0)
only_here s (Breaks f) x (inr (inr long)) = inr (inr (ap Breaks long.0, long.1.1))

-- what ends what comes after the turns ends the stream
spells_after : (s last : List ℕ) (turns : List Turn) (end : End) → BeginsWithTurns s turns last → StopsIn last end → SpellsTurns s turns end
spells_after s last [] end x stops = subst (λ t. StopsIn t end) (sym x) stops
spells_after s last (Whole r ∷ turns) end x stops = (x.0, x.1, spells_after x.0 last turns end x.2 stops)
spells_after s last (Continue ∷ []) end x stops = absurd x
spells_after s last (Continue ∷ Continue ∷ turns) end x stops = absurd x
spells_after s last (Continue ∷ Whole r ∷ turns) end x stops = (x.0, x.1, spells_after x.0 last turns end x.2 stops)

-- and the other way round
stops_after : (s last : List ℕ) (turns : List Turn) (end : End) → BeginsWithTurns s turns last → SpellsTurns s turns end → StopsIn last end
stops_after s last [] end x y = subst (λ t. StopsIn t end) x y
stops_after s last (Whole r ∷ turns) end x y =
    stops_after x.0 last turns end x.2 (subst (λ rest. SpellsTurns rest turns end) (rest_one s false r y.0 x.0 y.1 x.1) y.2)
stops_after s last (Continue ∷ []) end x y = absurd x
stops_after s last (Continue ∷ Continue ∷ turns) end x y = absurd x
stops_after s last (Continue ∷ Whole r ∷ turns) end x y =
    stops_after x.0 last turns end x.2 (subst (λ rest. SpellsTurns rest turns end) (rest_one s true r y.0 x.0 y.1 x.1) y.2)

pub open_breaks : (s : List ℕ) (turns : List Turn) → LeavesEndOpen s turns → SpellsTurns s turns (Breaks BadHead)
open_breaks s turns x = spells_after s x.0 turns (Breaks BadHead) x.1 (inr (bad_here x.0 x.2))

pub open_waits : (s last : List ℕ) (turns : List Turn) → BeginsWithTurns s turns last → EndsInSpoiltTarget last → length last < longest_head → SpellsTurns s turns Waits
open_waits s last turns begins x short = spells_after s last turns Waits begins (inl (in_target last x, short))

pub open_long : (s last : List ℕ) (turns : List Turn) → BeginsWithTurns s turns last → EndsInSpoiltTarget last → longest_head ≤ length last → SpellsTurns s turns (Breaks LongHead)
open_long s last turns begins x long = spells_after s last turns (Breaks LongHead) begins (inr (inr (refl, (in_target last x, long))))

pub open_only : (s last : List ℕ) (turns : List Turn) (end : End) → BeginsWithTurns s turns last → EndsInSpoiltTarget last → SpellsTurns s turns end → IsEndLeftOpen last end
open_only s last turns end begins x y = only_here last end x (stops_after s last turns end begins y)
