-- One note that a connection is owed.
use Rattle.std.proofs.Common.{◌≡◌, ℕ, ◌||◌, Bool, true, false, List, [], ◌∷◌, Option, Some, None, nat_eq, refl, ap, sym, subst, ◌∙◌, ◌⊎◌, inl, inr, ⊎_elim}
use Rattle.std.specs.Prelude.{◌==◌, IsTrue, if◌then◌else◌}
use Rattle.std.specs.Option.{option_map}
use Rattle.std.proofs.lemmas.Map.{update_here}
use Rattle.error_answers.specs.Errors.{error_answer}
use Rattle.sp_base.specs.Requests.{Request}
use Rattle.sp_base.proofs.NatLemmas.{nat_eq_itself}
use Rattle.cache_ids.specs.Ids.{FlushId}
use Rattle.http_front.specs.Faults.{fault_status, insufficient_storage}
use Rattle.http_front.specs.declared.fault.InFault.{InFault}
use Rattle.http_front.specs.declared.turn.Turn.TheVariants.{Whole}
use Rattle.connections.specs.AnswerQueues.{PlaceStandsFor, ReplyStandsFor}
use Rattle.connections.specs.Connections.{Connection, Due, IsInPlaceOfDue, Refuse, Send, Treat, due, is_crowded, with_sent}
use Rattle.connections.specs.Histories.{IsDueSending}
use Rattle.connections.specs.Slots as model
use Rattle.connections.specs.Slots.{Response, fault_slot, local_response, request_slot}
use Rattle.connections.specs.declared.place.AnswerPlace.{AnswerPlace}
use Rattle.connections.specs.declared.place.Reply.{Reply}
use Rattle.connections.specs.declared.place.Reply.TheVariants.{Fixed, Own}
use Rattle.connections.specs.declared.sending.Sending.{Sending}
use Rattle.run_events.specs.declared.conditions.Conditions.{Conditions}
use Rattle.run_events.specs.declared.flying.Flushing.{Flushing}
use Rattle.run_events.specs.declared.note.Note.{Note}
use Rattle.run_events.specs.declared.note.Note.TheVariants.{Local, Sent}
use Rattle.run_events.specs.Causes.{IsHitOwedTo}
use Rattle.run_events.specs.Moves.{GivesDue, GivesNext, GivesSlice, due_if_open, due_of_connection, local_slot, on_connection, state_after_note, treated_request, with_turn_slot}
use Rattle.run_events.specs.Points.{is_crowded_if_open}
use Rattle.run_events.specs.States.{RunState}
use Rattle.front.specs.Boards.{OpenAfterNote, OpenStandsFor, OwesFault, OwesRequest, TreatedAs}
use Rattle.front.specs.Caches.{AsksCache, Behind, BehindStandsFor, GivesIn, HasNoteCause, IsAnswered, IsPurging, RepliesFor, local_reply, under_nothing, with_end_if}
use Rattle.front.specs.KeptConnections.{AnswersStandFor, ConnectionStandsFor, Owes}
use Rattle.front.specs.declared.answered.Answered.{Answered}
use Rattle.front.specs.declared.answered.Ended.{Ended}
use Rattle.front.specs.declared.connection.Connection.{Connection as KeptConnection}

-- what is due decides what a note has to be, where no slice is due
due-gives : (m : Conditions) (w : RunState) (c : ℕ) (owed : Due) (note : Note) → w.slicing ≡ None → due_of_connection w c ≡ owed → GivesDue m w c owed note → GivesNext m w c w.slicing note
due-gives m w c owed note none is gives = subst (λ s. GivesNext m w c s note) (sym none) (subst (λ d. GivesDue m w c d note) (sym is) gives)

-- a note of a connection leaves what is behind it
behind-same : (b : Behind) (w : RunState) (c : ℕ) (change : Connection → Connection) → BehindStandsFor b w → BehindStandsFor b (on_connection w c change)
behind-same b w c change stands = record {
  core_is = stands.core_is;
  farm_is = stands.farm_is;
  flying_is = stands.flying_is;
  rising = stands.rising;
  flights_are = stands.flights_are;
  flushing_is = stands.flushing_is;
  flushes_are = stands.flushes_are;
  flushes_rise = stands.flushes_rise;
}

no-false : {P : Type 0} → IsTrue false → P
no-false is = absurd (let no : false ≡ true = is in let none : ⊥ = cc in none)

-- ---- something is sent
pub given-sent : (w : RunState) (c : ℕ) (k j : KeptConnection) (b : Behind) (sending : Sending) → OpenStandsFor w c k b → ((m : Connection) → ConnectionStandsFor k m → IsDueSending m sending × ConnectionStandsFor j (with_sent sending.bytes m))
    → ((m : Connection) → ConnectionStandsFor k m → IsTrue sending.out_of_memory → IsInPlaceOfDue (due m) sending.bytes)
    → GivesIn (record { disk_failed = false; out_of_memory = sending.out_of_memory }) w c (Sent c sending.bytes) × HasNoteCause b.faults b.faults (record { disk_failed = false; out_of_memory = sending.out_of_memory }) w (Sent c sending.bytes)
    × OpenAfterNote false (state_after_note w (Sent c sending.bytes)) c j b
given-sent w c k j b sending meets sends shows =
    let m = meets.connection in
    let sent = sends m meets.holds in
    let owed : due_of_connection w c ≡ Send sent.0.slot = ap due_if_open meets.open_is ∙ sent.0.is_due in (
      λ under allows. due-gives under w c _ _ meets.slicing_is owed (sending.bytes, refl, ⊎_elim (λ written. inl written) (λ fixed. inr (allows.out_of_memory fixed.0, fixed.1)) sent.0.answers),
      record {
        disk = refl;
        spoils = λ none. absurd none;
        shows = λ out_of_memory. subst (λ d. IsInPlaceOfDue d sending.bytes) (sym (ap due_if_open meets.open_is)) (shows m meets.holds out_of_memory);
      },
      record {
        connection = with_sent sending.bytes m;
        open_is = update_here w.connection c _ ∙ ap (option_map (with_sent sending.bytes)) meets.open_is;
        holds = sent.1;
        behind_is = behind-same b w c (with_sent sending.bytes) meets.behind_is;
        slicing_is = meets.slicing_is;
      },
    )

-- ---- a request is turned away
pub local-stands : (status : ℕ) → ReplyStandsFor (local_reply status) (local_response status)
local-stands status = by_test (status == insufficient_storage)
  where
    by_test : (b : Bool) → ReplyStandsFor (if b then Fixed else Own status) (if b then model.Fixed else model.Says (error_answer status))
    by_test true = tt
    by_test false = refl

pub given-away : (w : RunState) (c : ℕ) (k j : KeptConnection) (b : Behind) (request : Request) (owes : OwesRequest w c k b request) → is_crowded owes.connection ≡ true
    → ((m : Connection) → Owes k m → ConnectionStandsFor j (with_turn_slot (request_slot request true (local_response 503)) m)) → TreatedAs (record { note = Local c 503; slices = false; conditions = under_nothing }) w c j b b
given-away w c k j b request owes crowded holds =
    let m = owes.connection in
    let owed : due_of_connection w c ≡ Treat (Whole request) = ap due_if_open owes.open_is ∙ owes.due_is in
    let some : treated_request (due_of_connection w c) ≡ Some request = ap treated_request owed in
    let crowd : is_crowded_if_open (w.connection c) ≡ true = ap is_crowded_if_open owes.open_is ∙ crowded in
    record {
      gives = λ under allows. due-gives under w c _ _ owes.slicing_is owed (inl (inl (crowd, refl)));
      cause = record {
        disk = refl;
        spoils = λ is. absurd (not-spoilt some is.1);
        shows = λ out_of_memory. no-false out_of_memory;
      };
      meets = record {
        connection = with_turn_slot (request_slot request true (local_response 503)) m;
        open_is = update_here w.connection c _ ∙ ap (option_map (λ connection. with_turn_slot (local_slot (treated_request (due_of_connection w c)) 503 connection) connection)) owes.open_is
            ∙ ap (λ r. Some (with_turn_slot (local_slot r 503 m) m)) some ∙ ap (λ x. Some (with_turn_slot (request_slot request (x || false) (local_response 503)) m)) crowded;
        holds = holds m owes.owes;
        behind_is = behind-same b w c _ owes.behind_is;
        slicing_is = owes.slicing_is;
      };
    }
  where
    not-spoilt : treated_request (due_of_connection w c) ≡ Some request → IsHitOwedTo w c (treated_request (due_of_connection w c)) → ⊥
    not-spoilt some is =
        let owed : IsHitOwedTo w c (Some request) = subst (IsHitOwedTo w c) some is in
        let free : is_crowded_if_open (w.connection c) ≡ false = owed.not_crowded in
        let crowd : is_crowded_if_open (w.connection c) ≡ true = ap is_crowded_if_open owes.open_is ∙ crowded in
        let none : ⊥ = cc in none

-- ---- a request is answered through the cache
pub asks-cache : (w : RunState) (c : ℕ) (k : KeptConnection) (b : Behind) (request : Request) (peer : List ℕ) (owes : OwesRequest w c k b request) → is_crowded owes.connection ≡ false → peer ≡ k.peer → AsksCache w c request peer b
asks-cache w c k b request peer owes room is = record {
  connection = owes.connection;
  open_is = owes.open_is;
  due_is = owes.due_is;
  room = room;
  peer_is = is ∙ owes.owes.peer_is;
  behind_is = owes.behind_is;
  slicing_is = owes.slicing_is;
}

-- the place that is made before the answer is known
pub place-for : (place : AnswerPlace) (request : Request) (closes : Bool) (reply : Reply) (response : Response) → PlaceStandsFor place (request_slot request false model.Fixed) → ReplyStandsFor reply response
    → PlaceStandsFor (record { head_only = place.head_only; closes = closes || place.closes; reply = reply }) (request_slot request closes response)
place-for place request closes reply response stands replies = record { head_only_is = stands.head_only_is; closes_is = ap (λ x. closes || x) stands.closes_is; replies = replies }

pub given-answer : (w : RunState) (c : ℕ) (k j : KeptConnection) (old new : Behind) (request : Request) (answered : Answered) (owes : OwesRequest w c k old request) → (is : IsAnswered w c request answered old new)
    → ((m : Connection) → Owes k m → ConnectionStandsFor j (with_turn_slot (request_slot request answered.closes is.response) m)) → TreatedAs (record { note = answered.note; slices = answered.slices; conditions = answered.conditions }) w c j old new
given-answer w c k j old new request answered owes is holds = record {
  gives = is.gives;
  cause = is.cause;
  meets = record {
    connection = with_turn_slot (request_slot request answered.closes is.response) owes.connection;
    open_is = is.connection_is owes.connection owes.open_is;
    holds = holds owes.connection owes.owes;
    behind_is = is.behind_is;
    slicing_is = is.slicing_is;
  };
}

-- ---- a fault is refused
pub given-refusal : (w : RunState) (c : ℕ) (k j : KeptConnection) (b : Behind) (fault : InFault) → OwesFault w c k b fault → ((m : Connection) → AnswersStandFor k m → ConnectionStandsFor j (with_turn_slot (fault_slot (local_response (fault_status fault))) m))
    → GivesIn under_nothing w c (Local c (fault_status fault)) × HasNoteCause b.faults b.faults under_nothing w (Local c (fault_status fault)) × OpenAfterNote false (state_after_note w (Local c (fault_status fault))) c j b
given-refusal w c k j b fault owes holds =
    let m = owes.connection in
    let status = fault_status fault in
    let owed : due_of_connection w c ≡ Refuse fault = ap due_if_open owes.open_is ∙ owes.due_is in
    let none : treated_request (due_of_connection w c) ≡ None = ap treated_request owed in (
      λ under allows. due-gives under w c _ _ owes.slicing_is owed refl,
      record {
        disk = refl;
        spoils = λ is. absurd (subst (IsHitOwedTo w c) none is.1);
        shows = λ out_of_memory. no-false out_of_memory;
      },
      record {
        connection = with_turn_slot (fault_slot (local_response status)) m;
        open_is = update_here w.connection c _ ∙ ap (option_map (λ connection. with_turn_slot (local_slot (treated_request (due_of_connection w c)) status connection) connection)) owes.open_is
            ∙ ap (λ r. Some (with_turn_slot (local_slot r status m) m)) none;
        holds = holds m owes.answers;
        behind_is = behind-same b w c _ owes.behind_is;
        slicing_is = owes.slicing_is;
      },
    )

-- ---- a flush that just began has its first slice
-- the connection that waits for the one flush
slice-waits : (w : RunState) (c : ℕ) (flush : FlushId) (ended : Ended) (old new : Behind) (slice : IsPurging w ended old new) → w.flushes ≡ record { number = flush; connection = c } ∷ [] → (ended.connection ≡ c) × (slice.flush.number ≡ flush)
slice-waits w c flush ended old new slice one =
    let same : slice.flush ≡ record { number = flush; connection = c } = first-same _ _ _ _ (sym slice.flushes_are ∙ one) in
    (slice.waits ∙ ap (λ (f : Flushing). f.connection) same, ap (λ (f : Flushing). f.number) same)
  where
    first-same : (f g : Flushing) (fs gs : List Flushing) → f ∷ fs ≡ g ∷ gs → f ≡ g
    first-same f g fs gs e = cc

pub given-slice : (w : RunState) (c : ℕ) (k j : KeptConnection) (old new : Behind) (ended : Ended) → OpenAfterNote true w c k old → IsPurging w ended old new
    → ((m : Connection) (response : Option Response) → RepliesFor ended.reply response → ConnectionStandsFor k m → ConnectionStandsFor j (with_end_if ended.awaited response m))
    → GivesIn ended.conditions w c ended.note × HasNoteCause old.faults new.faults ended.conditions w ended.note × OpenAfterNote false (state_after_note w ended.note) c j new
given-slice w c k j old new ended meets slice fills =
    let flush = meets.slicing_is.0 in
    let waits = slice-waits w c flush ended old new slice meets.slicing_is.2 in
    let ending = slice.ending in
    let mine : nat_eq c ended.connection ≡ true = ap (nat_eq c) waits.0 ∙ nat_eq_itself c in (
      λ under allows. subst (λ s. GivesNext under w c s ended.note) (sym meets.slicing_is.1) (subst (λ v. GivesSlice under v ended.note) waits.1 (slice.gives under allows)),
      ending.cause,
      record {
        connection = with_end_if ended.awaited ending.response meets.connection;
        open_is = ending.connection_is c ∙ ap (λ b. if b then option_map (with_end_if ended.awaited ending.response) (w.connection c) else w.connection c) mine ∙ ap (option_map (with_end_if ended.awaited ending.response)) meets.open_is;
        holds = fills meets.connection ending.response ending.replies meets.holds;
        behind_is = ending.behind_is;
        slicing_is = ending.slicing_is;
      },
    )

-- while the first slice of a flush is due, there is one
pub some-flush : {P : Type 0} (w : RunState) (c : ℕ) (k : KeptConnection) (b : Behind) → OpenAfterNote true w c k b → w.flushes ≡ [] → P
some-flush w c k b meets none = absurd (let no : record { number = meets.slicing_is.0; connection = c } ∷ [] ≡ [] = sym meets.slicing_is.2 ∙ none in let never : ⊥ = cc in never)
