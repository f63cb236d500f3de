-- What is left to tell after each step of an intake.
use Rattle.std.proofs.Common.{◌≡◌, ◌<◌, ◌≤◌, ◌⊎◌, inl, inr, ℕ, Bool, true, false, List, [], ◌∷◌, Option, Some, None, Result, Ok, Err, ◌++◌, length, take, drop, sym, ◌∙◌, ap, subst, arith, append_assoc, length-append, ⊎_elim}
use Rattle.std.specs.Prelude.{IfErr, IfNone, IfOk, IfSome, OnErr}
use Rattle.std.proofs.lemmas.List.{take-append-drop, length-take-le, append-nil}
use Rattle.httparse.specs.Grammar.{HasNoRequest, MayBecomeRequest}
use Rattle.sp_base.specs.Requests.{Request}
use Rattle.http_front.specs.declared.fault.InFault.{InFault}
use Rattle.http_front.specs.declared.fault.InFault.TheVariants.{NoMemory}
use Rattle.http_front.specs.declared.head.AskedHead.{AskedHead}
use Rattle.http_front.specs.declared.intake.Intake.{Intake}
use Rattle.http_front.specs.declared.intake.Phase.{Phase}
use Rattle.http_front.specs.declared.intake.Phase.TheVariants.{Heading, Body, Failed}
use Rattle.http_front.specs.declared.turn.Turn.{Turn}
use Rattle.http_front.specs.declared.turn.Turn.TheVariants.{Continue, Whole}
use Rattle.http_front.specs.Turns.{End, Waits, Breaks, longest_head, BeginsAsking, BeginsRefused, HasBody, with_request_body, AwaitsHead, HasNoHead, StopsIn, BeginsWithRequest, SpellsTurns}
use Rattle.http_front.specs.Intakes.{TurnsFollow, Continues, EndsIfStoodFor, IntakeLeads, KeepsIfStoodFor, LeadsByTurn, RemainderSpells, HasNothingLeft, TellsIfStoodFor, rest_of}
use Rattle.http_front.proofs.TurnLemmas.{begins_append, never_grows, window_full}

-- ---- what a stream begins with stays

asking_stays : (s more : List ℕ) (a : AskedHead) (r : List ℕ) → BeginsAsking s a r → BeginsAsking (s ++ more) a (r ++ more)
asking_stays s more a r b = record { head = b.head; begins = begins_append s more b.head r b.begins; asks = b.asks }

refused_stays : (s more : List ℕ) (fault : InFault) → BeginsRefused s fault → BeginsRefused (s ++ more) fault
refused_stays s more fault b = record { head = b.head; rest = b.rest ++ more; begins = begins_append s more b.head b.rest b.begins; refused = b.refused }

no_head_stays : (s more : List ℕ) (fault : InFault) → HasNoHead s fault → HasNoHead (s ++ more) fault
no_head_stays s more fault none = ⊎_elim
    (λ never. inl (never.0, never_grows s more never.1))
    (λ long. inr (
      long.0,
      (subst (λ w. HasNoRequest w × MayBecomeRequest w) (sym (window_full s more long.1.1)) long.1.0, omega (arith, long.1.1, length-append s more)),
    ))
    none

-- a fault stays, whatever comes
pub fault_stays : (s more : List ℕ) (fault : InFault) → BeginsRefused s fault ⊎ HasNoHead s fault → StopsIn (s ++ more) (Breaks fault)
fault_stays s more fault stops = ⊎_elim (λ refused. inl (refused_stays s more fault refused)) (λ none. inr (no_head_stays s more fault none)) stops

-- ---- after a head

request_begins : (s more : List ℕ) (a : AskedHead) (r : List ℕ) (awaits : Bool) (request : Request) (rest : List ℕ) → BeginsAsking s a r → a.awaits_continue ≡ awaits → HasBody a (r ++ more) request rest
    → BeginsWithRequest (s ++ more) awaits request rest
request_begins s more a r awaits request rest b is body = record { asked = a; bytes = r ++ more; begins = asking_stays s more a r b; awaits_is = is; body = body }

-- a head whose sender waits is told of first
pub asked : (s more : List ℕ) (a : AskedHead) (r : List ℕ) (turns : List Turn) (end : End) → BeginsAsking s a r → a.awaits_continue ≡ true → TurnsFollow a (r ++ more) turns end → SpellsTurns (s ++ more) (Continue ∷ turns) end
asked s more a r [] end b is f = (record { asked = a; rest = r ++ more; begins = asking_stays s more a r b; asks = is; short = f.0 }, f.1)
asked s more a r (Continue ∷ turns) end b is f = absurd f
asked s more a r (Whole request ∷ turns) end b is f = (f.0, request_begins s more a r true request f.0 b is f.1, f.2)

-- any other head isn't
not_asked : (s more : List ℕ) (a : AskedHead) (r : List ℕ) (turns : List Turn) (end : End) → BeginsAsking s a r → a.awaits_continue ≡ false → TurnsFollow a (r ++ more) turns end → SpellsTurns (s ++ more) turns end
not_asked s more a r [] end b is f =
    subst (StopsIn (s ++ more)) (sym f.1) (inr (record { asked = a; rest = r ++ more; begins = asking_stays s more a r b; unasked = is; short = f.0 }))
not_asked s more a r (Continue ∷ turns) end b is f = absurd f
not_asked s more a r (Whole request ∷ turns) end b is f = (f.0, request_begins s more a r false request f.0 b is f.1, f.2)

-- ---- a body

pub body_taken : (a : AskedHead) (rest more : List ℕ) (request : Request) (turns : List Turn) (end : End) → a.body_length ≤ length rest → request ≡ with_request_body a (take a.body_length rest)
    → SpellsTurns (drop a.body_length rest ++ more) turns end → TurnsFollow a (rest ++ more) (Whole request ∷ turns) end
body_taken a rest more request turns end fits is spells =
    let n = a.body_length in (
      drop n rest ++ more,
      record {
        body = take n rest;
        joined = ap (λ xs. xs ++ more) (sym (take-append-drop n rest)) ∙ append_assoc (take n rest) (drop n rest) more;
        whole = length-take-le n rest fits;
        request_is = is;
      },
      spells,
    )

-- ---- the steps, in the words of the code

pub leads_failed : (old : Intake) (rest : List ℕ) (fault : InFault) → old.phase ≡ Heading → BeginsRefused (rest_of old) fault ⊎ HasNoHead (rest_of old) fault
    → (more : List ℕ) (turns : List Turn) (end : End) → Continues (Failed fault) (rest ++ more) turns end → RemainderSpells old more turns end
leads_failed old rest fault heading stops = λ more turns end l.
    subst (λ p. Continues p (rest_of old ++ more) turns end) (sym heading)
    (subst (λ ts. SpellsTurns (rest_of old ++ more) ts end) (sym l.0) (subst (StopsIn (rest_of old ++ more)) (sym l.1) (fault_stays (rest_of old) more fault stops)))

pub stands_failed : (old : Intake) (fault : InFault) → old.phase ≡ Heading → BeginsRefused (rest_of old) fault ⊎ HasNoHead (rest_of old) fault → HasNothingLeft old (Breaks fault)
stands_failed old fault heading stops = subst (λ p. Continues p (rest_of old ++ []) [] (Breaks fault)) (sym heading) (fault_stays (rest_of old) [] fault stops)

pub stands_waiting : (old : Intake) → old.phase ≡ Heading → AwaitsHead (rest_of old) → length (rest_of old) < longest_head → HasNothingLeft old Waits
stands_waiting old heading awaits short =
    subst (λ p. Continues p (rest_of old ++ []) [] Waits) (sym heading)
    (subst (λ s. StopsIn s Waits) (sym (append-nil (rest_of old))) (inl (awaits, short)))

pub leads_asked : (old : Intake) (rest : List ℕ) (a : AskedHead) (len : ℕ) → old.phase ≡ Heading → rest ≡ drop len (rest_of old) → BeginsAsking (rest_of old) a (drop len (rest_of old))
    → a.awaits_continue ≡ true → (more : List ℕ) (turns : List Turn) (end : End) → Continues (Body a) (rest ++ more) turns end → RemainderSpells old more (Continue ∷ turns) end
leads_asked old rest a len heading is begins waits = λ more turns end f.
    subst (λ p. Continues p (rest_of old ++ more) (Continue ∷ turns) end) (sym heading)
    (asked (rest_of old) more a (drop len (rest_of old)) turns end begins waits (subst (λ r. TurnsFollow a (r ++ more) turns end) is f))

pub leads_unasked : (old : Intake) (rest : List ℕ) (a : AskedHead) (len : ℕ) → old.phase ≡ Heading → rest ≡ drop len (rest_of old) → BeginsAsking (rest_of old) a (drop len (rest_of old))
    → a.awaits_continue ≡ false → (more : List ℕ) (turns : List Turn) (end : End) → Continues (Body a) (rest ++ more) turns end → RemainderSpells old more turns end
leads_unasked old rest a len heading is begins waits = λ more turns end f.
    subst (λ p. Continues p (rest_of old ++ more) turns end) (sym heading)
    (not_asked (rest_of old) more a (drop len (rest_of old)) turns end begins waits (subst (λ r. TurnsFollow a (r ++ more) turns end) is f))

pub leads_body : (old : Intake) (phase : Phase) (rest : List ℕ) (a : AskedHead) (request : Request) → old.phase ≡ Body a → phase ≡ Heading → rest ≡ drop a.body_length (rest_of old)
    → a.body_length ≤ length (rest_of old) → request ≡ with_request_body a (take a.body_length (rest_of old))
    → (more : List ℕ) (turns : List Turn) (end : End) → Continues phase (rest ++ more) turns end → RemainderSpells old more (Whole request ∷ turns) end
leads_body old phase rest a request body heading is fits made = λ more turns end l.
    let s : SpellsTurns (rest ++ more) turns end = subst (λ p. Continues p (rest ++ more) turns end) heading l in
    subst (λ p. Continues p (rest_of old ++ more) (Whole request ∷ turns) end) (sym body)
    (body_taken a (rest_of old) more request turns end fits made (subst (λ r. SpellsTurns (r ++ more) turns end) is s))

-- ---- one call, from its steps

pub ends : (i : Intake) (end : End) → HasNothingLeft i end → EndsIfStoodFor i end
ends i end stands = λ stream told for.
    subst (λ s. SpellsTurns s told end) (append-nil stream) (subst (λ ts. SpellsTurns (stream ++ []) ts end) (append-nil told) (for [] [] end stands))

pub keeps : (old new : Intake) → IntakeLeads old new → KeepsIfStoodFor old new
keeps old new leads = λ stream told for more turns end l. for more turns end (leads more turns end l)

pub tells : (old new : Intake) (turn : Turn) → LeadsByTurn old new turn → TellsIfStoodFor old new turn
tells old new turn leads = λ stream told for more turns end l.
    subst (λ ts. SpellsTurns (stream ++ more) ts end) (sym (append_assoc told (turn ∷ []) turns)) (for more (turn ∷ turns) end (leads more turns end l))

-- after a step that told nothing
pub tells_after : (old mid new : Intake) (r : Result (Option Turn) InFault) → IntakeLeads old mid → IfOk r (λ o. IfSome o (LeadsByTurn mid new)) → IfOk r (λ o. IfSome o (TellsIfStoodFor old new))
tells_after old mid new (Ok (Some turn)) leads by = tells old new turn (λ more turns end l. leads more (turn ∷ turns) end (by more turns end l))
tells_after old mid new (Ok None) leads by = tt
tells_after old mid new (Err e) leads by = tt

pub ends_after : (old mid new : Intake) (r : Result (Option Turn) InFault) → IntakeLeads old mid → IfOk r (λ o. IfNone o ((new ≡ mid) × HasNothingLeft mid Waits)) → IfOk r (λ o. IfNone o (EndsIfStoodFor old Waits))
ends_after old mid new (Ok (Some turn)) leads waits = tt
ends_after old mid new (Ok None) leads waits = ends old Waits (leads [] [] Waits waits.1)
ends_after old mid new (Err e) leads waits = tt

pub keeps_after : (old mid new : Intake) (r : Result (Option Turn) InFault) → IntakeLeads old mid → IfOk r (λ o. IfNone o ((new ≡ mid) × HasNothingLeft mid Waits)) → IfOk r (λ o. IfNone o (KeepsIfStoodFor old new))
keeps_after old mid new (Ok (Some turn)) leads waits = tt
keeps_after old mid new (Ok None) leads waits = keeps old new (subst (IntakeLeads old) (sym waits.0) leads)
keeps_after old mid new (Err e) leads waits = tt

pub keeps_failed : (old mid new : Intake) (r : Result (Option Turn) InFault) → IntakeLeads old mid → IfErr r (λ fault. (new ≡ mid) × (fault ≡ NoMemory)) → OnErr r (KeepsIfStoodFor old new)
keeps_failed old mid new (Ok o) leads failed = tt
keeps_failed old mid new (Err e) leads failed = keeps old new (subst (IntakeLeads old) (sym failed.0) leads)
