-- What is left of a connection, when something happens to it.
use Rattle.std.proofs.Common.{◌≡◌, ℕ, ◌||◌, ◌+◌, Bool, true, false, cond, List, [], ◌∷◌, ◌++◌, length, drop, Option, Some, None, refl, ap, sym, subst, ◌∙◌, arith, append_assoc, append-nil, length-append}
use Rattle.std.specs.Prelude.{IsTrue, IfSome, slice_get}
use Rattle.http_front.specs.Turns.{End, SpellsTurns}
use Rattle.http_front.specs.Intakes.{StandsFor}
use Rattle.http_front.specs.declared.fault.InFault.{InFault}
use Rattle.http_front.specs.declared.intake.Intake.{Intake}
use Rattle.http_front.specs.declared.turn.Turn.{Turn}
use Rattle.http_front.specs.declared.turn.Turn.TheVariants.{Continue, Whole}
use Rattle.connections.specs.declared.awaited.Awaited.{Awaited}
use Rattle.connections.specs.Slots.{Response, Slot, interim_slot}
use Rattle.connections.specs.Connections.{Close, Connection, Nothing, Treat, with_due_continue, after_turn, due, due_at_turn, due_without_sending, fresh, next_turn, with_end, with_sent, with_slot, IsInPlaceOfDue}
use Rattle.connections.specs.Histories.{IsDueSending}
use Rattle.connections.specs.declared.sending.Sending.{Sending}
use Rattle.connections.specs.AnswerQueues.{QueueStandsFor}
use Rattle.connections.specs.declared.answer_queue.AnswerQueue.{AnswerQueue}
use Rattle.connections.proofs.PlaceLemmas.{length-filled}
use Rattle.front.specs.KeptConnections.{ConnectionStandsFor, IsPaired, StandsForButContinue, Owes, ConnectionReads, Splits, TellsTurns, TellsOn, begins_with_continue, end_of}
use Rattle.front.specs.declared.connection.Connection.{Connection as KeptConnection}

-- ---- turns that are left
pub split-next : (turns left : List Turn) (n : ℕ) (turn : Turn) → Splits turns n (turn ∷ left) → Splits turns (n + 1) left
split-next turns left n turn splits = record {
  done = splits.done ++ turn ∷ [];
  counted = length-append splits.done (turn ∷ []) ∙ ap (λ k. k + 1) splits.counted;
  joined = splits.joined ∙ sym (append_assoc splits.done (turn ∷ []) left);
}

abbrev pub head_of : List Turn → Option Turn
head_of [] = None
head_of (turn ∷ turns) = Some turn

get-after : (done left : List Turn) → slice_get (done ++ left) (length done) ≡ head_of left
get-after [] [] = refl
get-after [] (turn ∷ left) = refl
get-after (turn ∷ done) left = get-after done left

-- the next turn is the first that is left
pub split-head : (turns left : List Turn) (n : ℕ) → Splits turns n left → slice_get turns n ≡ head_of left
split-head turns left n splits = rw (splits.joined, ← splits.counted) (get-after splits.done left)

-- ---- turns come in pairs
pub spells-paired : (stream : List ℕ) (turns : List Turn) (end : End) → SpellsTurns stream turns end → IsPaired turns
spells-paired stream [] end spells = tt
spells-paired stream (Whole request ∷ turns) end spells = spells-paired spells.0 turns end spells.2
spells-paired stream (Continue ∷ []) end spells = (tt, tt)
spells-paired stream (Continue ∷ Continue ∷ turns) end spells = absurd spells
spells-paired stream (Continue ∷ Whole request ∷ turns) end spells = (tt, spells-paired spells.0 turns end spells.2)

pub paired-rest : (done turns : List Turn) → IsPaired (done ++ turns) → IsPaired turns
paired-rest [] turns paired = paired
paired-rest (Continue ∷ done) turns paired = paired-rest done turns paired.1
paired-rest (Whole request ∷ done) turns paired = paired-rest done turns paired

-- ---- a connection, when its answers change
-- what counts of a connection beside its places is as before
pub record SameStream (c d : Connection) : Type 0 where
  pub peer : d.peer ≡ c.peer
  pub closing : d.closing ≡ c.closing
  pub stream : d.stream ≡ c.stream
  pub turns : d.turns ≡ c.turns
  pub count : length d.slots ≡ length c.slots
  pub ends : d.ends ≡ c.ends

pub holds-same : (k : KeptConnection) (o : AnswerQueue) (c d : Connection) → ConnectionStandsFor k c → SameStream c d → QueueStandsFor o d → ConnectionStandsFor (record k { answers = o }) d
holds-same k o c d holds same answers = record {
  keeps = record {
    peer_is = holds.keeps.peer_is ∙ sym same.peer;
    answers = answers;
    reads = λ stays.
        let reads = holds.keeps.reads (sym same.closing ∙ stays) in
        record {
          read = rw (same.stream, same.turns) reads.read;
          splits = rw (same.turns, same.count) reads.splits;
          ends = same.ends ∙ reads.ends;
          paired = reads.paired;
        };
  };
  ready = λ stays. holds.ready (sym same.closing ∙ stays);
}

pub fill-holds : (k : KeptConnection) (o : AnswerQueue) (c : Connection) (n : Awaited) (r : Response) → ConnectionStandsFor k c → QueueStandsFor o (with_end n r c) → ConnectionStandsFor (record k { answers = o }) (with_end n r c)
fill-holds k o c n r holds answers = holds-same k o c (with_end n r c) holds (record { peer = refl; closing = refl; stream = refl; turns = refl; count = length-filled n r c.slots; ends = refl }) answers

-- ---- a 100 Continue
advanced-open : (c : Connection) (turn : Option Turn) → c.closing ≡ false → next_turn c ≡ turn → with_due_continue c ≡ after_turn turn c
advanced-open c turn stays next = ap (λ b. cond b c (after_turn (next_turn c) c)) stays ∙ ap (λ t. after_turn t c) next

pub popped-continue : (old new : List Turn) → begins_with_continue old ≡ true → new ≡ drop 1 old → old ≡ Continue ∷ new
popped-continue [] new begins rest = absurd (let no : ⊥ = cc in no)
popped-continue (Continue ∷ old) new begins rest = ap (λ turns. Continue ∷ turns) (sym rest)
popped-continue (Whole request ∷ old) new begins rest = absurd (let no : ⊥ = cc in no)

pub advance-continue : (k j : KeptConnection) (c : Connection) → c.closing ≡ false → j.peer ≡ k.peer → j.intake ≡ k.intake → j.fault ≡ k.fault → k.turns.items ≡ Continue ∷ j.turns.items → QueueStandsFor j.answers (with_slot interim_slot c) → StandsForButContinue k c
    → ConnectionStandsFor j (with_due_continue c)
advance-continue k j c stays peer intake fault first answers keeps =
    let reads = keeps.reads stays in
    let splits : Splits c.turns (length c.slots) (Continue ∷ j.turns.items) = rw first at reads.splits in
    let paired : IsPaired (Continue ∷ j.turns.items) = rw first at reads.paired in
    let is : with_due_continue c ≡ with_slot interim_slot c = advanced-open c (Some Continue) stays (split-head _ _ _ splits) in
    subst (ConnectionStandsFor j) (sym is) (record {
      keeps = record {
        peer_is = peer ∙ keeps.peer_is;
        answers = answers;
        reads = λ still. record {
          read = rw intake reads.read;
          splits = rw (length-append c.slots (interim_slot ∷ [])) (split-next _ _ _ _ splits);
          ends = reads.ends ∙ ap end_of (sym fault);
          paired = paired.1;
        };
      };
      ready = λ still. paired.0;
    })

-- a connection that closes is as it was, whatever turns are left of it
pub advance-closing : (k j : KeptConnection) (c : Connection) → c.closing ≡ true → j.peer ≡ k.peer → j.answers ≡ k.answers → StandsForButContinue k c → ConnectionStandsFor j (with_due_continue c)
advance-closing k j c closes peer answers keeps =
    let is : with_due_continue c ≡ c = ap (λ b. cond b c (after_turn (next_turn c) c)) closes in
    subst (ConnectionStandsFor j) (sym is) (record {
      keeps = record { peer_is = peer ∙ keeps.peer_is; answers = rw answers keeps.answers; reads = λ stays. absurd (let no : ⊥ = cc in no) };
      ready = λ stays. absurd (let no : ⊥ = cc in no);
    })

-- ---- a turn is taken
due-open : (c : Connection) (turn : Option Turn) → c.over ≡ false → c.closing ≡ false → due c ≡ due_without_sending c → next_turn c ≡ turn → due c ≡ due_at_turn turn c.ends
due-open c turn lasts stays unsent next =
    unsent ∙ ap (λ b. cond b Close (cond c.closing Nothing (due_at_turn (next_turn c) c.ends))) lasts
    ∙ ap (λ b. cond b Nothing (due_at_turn (next_turn c) c.ends)) stays ∙ ap (λ t. due_at_turn t c.ends) next

-- nothing was popped
pub popped-none : (old new : List Turn) → old ≡ new → new ≡ drop 1 old → old ≡ []
popped-none [] new same rest = refl
popped-none (turn ∷ old) new same rest = absurd (let no : ⊥ = omega (arith, ap (λ (ts : List Turn). length ts) (same ∙ rest)) in no)

pub holds-as : (k j : KeptConnection) (c : Connection) → j.peer ≡ k.peer → j.intake ≡ k.intake → j.turns.items ≡ k.turns.items → j.fault ≡ k.fault → j.answers ≡ k.answers → ConnectionStandsFor k c → ConnectionStandsFor j c
holds-as k j c peer intake turns fault answers holds = record {
  keeps = record {
    peer_is = peer ∙ holds.keeps.peer_is;
    answers = rw answers holds.keeps.answers;
    reads = λ stays.
        let reads = holds.keeps.reads stays in
        record {
          read = rw intake reads.read;
          splits = rw turns reads.splits;
          ends = reads.ends ∙ ap end_of (sym fault);
          paired = rw turns reads.paired;
        };
  };
  ready = λ stays. rw turns (holds.ready stays);
}

pub take-request : (k j : KeptConnection) (c : Connection) (request : _) → c.over ≡ false → c.closing ≡ false → due c ≡ due_without_sending c → k.turns.items ≡ Whole request ∷ j.turns.items → j.peer ≡ k.peer → j.intake ≡ k.intake → j.fault ≡ k.fault → j.answers ≡ k.answers
    → ConnectionStandsFor k c → (due c ≡ Treat (Whole request)) × Owes j c
take-request k j c request lasts stays unsent first peer intake fault answers holds =
    let reads = holds.keeps.reads stays in
    let splits : Splits c.turns (length c.slots) (Whole request ∷ j.turns.items) = rw first at reads.splits in
    let paired : IsPaired (Whole request ∷ j.turns.items) = rw first at reads.paired in (
      due-open c (Some (Whole request)) lasts stays unsent (split-head _ _ _ splits),
      record {
        peer_is = peer ∙ holds.keeps.peer_is;
        answers = rw answers holds.keeps.answers;
        read = rw intake reads.read;
        splits = split-next _ _ _ _ splits;
        ends = reads.ends ∙ ap end_of (sym fault);
        paired = paired;
      },
    )

pub take-none : (k : KeptConnection) (c : Connection) → c.over ≡ false → c.closing ≡ false → due c ≡ due_without_sending c → k.turns.items ≡ [] → ConnectionStandsFor k c → due c ≡ due_at_turn None (end_of k.fault)
take-none k c lasts stays unsent none holds =
    let reads = holds.keeps.reads stays in
    let splits : Splits c.turns (length c.slots) [] = rw none at reads.splits in
    due-open c None lasts stays unsent (split-head _ _ _ splits) ∙ ap (due_at_turn None) reads.ends

-- ---- a turn gets its place
pub push-owed : (k j : KeptConnection) (c : Connection) (slot : Slot) → Owes k c → j.peer ≡ k.peer → j.intake ≡ k.intake → j.fault ≡ k.fault → j.turns ≡ k.turns → QueueStandsFor j.answers (with_slot slot c) → StandsForButContinue j (with_slot slot c)
push-owed k j c slot owes peer intake fault turns answers = record {
  peer_is = peer ∙ owes.peer_is;
  answers = answers;
  reads = λ stays. record {
    read = rw intake owes.read;
    splits = rw (length-append c.slots (slot ∷ []), turns) owes.splits;
    ends = owes.ends ∙ ap end_of (sym fault);
    paired = rw turns owes.paired;
  };
}

or-closes : (b d : Bool) → d ≡ true → (b || d) ≡ false → ⊥
or-closes true d e f = cc
or-closes false d e f = cc

pub push-fault : (j : KeptConnection) (c : Connection) (slot : Slot) → slot.closes ≡ true → j.peer ≡ c.peer → QueueStandsFor j.answers (with_slot slot c) → StandsForButContinue j (with_slot slot c)
push-fault j c slot closes peer answers = record { peer_is = peer; answers = answers; reads = λ stays. absurd (or-closes c.closing slot.closes closes stays) }

-- ---- bytes come
pub read-closing : (k : KeptConnection) (c : Connection) (bytes : List ℕ) → c.closing ≡ true → ConnectionStandsFor k c → ConnectionReads bytes c k
read-closing k c bytes closes holds = record {
  turns = [];
  ends = c.ends;
  spells = λ stays. absurd (let no : ⊥ = cc in no);
  holds = subst (ConnectionStandsFor k) (sym (ap (λ b. cond b c (with_due_continue (record c { stream = c.stream ++ bytes; turns = c.turns ++ []; ends = c.ends }))) closes)) holds;
}

pub read-open : (k j m : KeptConnection) (i : Intake) (c : Connection) (bytes : List ℕ) → c.closing ≡ false → ConnectionStandsFor k c → StandsFor i (c.stream ++ bytes) c.turns → TellsTurns i k.turns.items j.intake j.turns.items j.fault → j.peer ≡ k.peer → j.answers ≡ k.answers
    → ((d : Connection) → StandsForButContinue j d → ConnectionStandsFor m (with_due_continue d)) → ConnectionReads bytes c m
read-open k j m i c bytes stays holds stands tells peer same advances =
    let reads = holds.keeps.reads stays in
    let answers = holds.keeps.answers in
    let spells : SpellsTurns (c.stream ++ bytes) (c.turns ++ tells.turns) (end_of j.fault) = tells.spells _ _ stands in
    let joined : c.turns ++ tells.turns ≡ reads.splits.done ++ j.turns.items = ap (λ xs. xs ++ tells.turns) reads.splits.joined ∙ append_assoc reads.splits.done k.turns.items tells.turns ∙ ap (λ xs. reads.splits.done ++ xs) (sym tells.joined) in
    let fed_c : Connection = record c { stream = c.stream ++ bytes; turns = c.turns ++ tells.turns; ends = end_of j.fault } in
    let keeps : StandsForButContinue j fed_c = record {
      peer_is = peer ∙ holds.keeps.peer_is;
      answers = rw same (record { unsent = answers.unsent; within = answers.within; past = answers.past; closing_is = answers.closing_is; over_is = answers.over_is; spare_is = answers.spare_is });
      reads = λ still. record {
        read = tells.read _ _ stands;
        splits = record { done = reads.splits.done; counted = reads.splits.counted; joined = joined };
        ends = refl;
        paired = paired-rest reads.splits.done j.turns.items (rw joined at (spells-paired _ _ _ spells));
      };
    } in
    record {
      turns = tells.turns;
      ends = end_of j.fault;
      spells = λ still. spells;
      holds = subst (ConnectionStandsFor m) (sym (ap (λ b. cond b c (with_due_continue fed_c)) stays)) (advances fed_c keeps);
    }

-- ---- turns are read
pub tells_start : (i : Intake) (turns : List Turn) → TellsOn i turns i turns
tells_start i turns = record { turns = []; joined = sym (append-nil turns); read = λ stream read stands. rw (append-nil read) stands }

pub tells_step : (i j m : Intake) (before so_far after_ : List Turn) (turn : Turn) → TellsOn i before j so_far → ((stream : List ℕ) (read : List Turn) → StandsFor j stream read → StandsFor m stream (read ++ turn ∷ []))
    → after_ ≡ so_far ++ turn ∷ [] → TellsOn i before m after_
tells_step i j m before so_far after_ turn on tells is = record {
  turns = on.turns ++ turn ∷ [];
  joined = is ∙ ap (λ ts. ts ++ turn ∷ []) on.joined ∙ append_assoc before on.turns (turn ∷ []);
  read = λ stream read stands. subst (StandsFor m stream) (append_assoc read on.turns (turn ∷ [])) (tells stream (read ++ on.turns) (on.read stream read stands));
}

pub tells_end : (i j m : Intake) (before after_ : List Turn) (fault : Option InFault) → TellsOn i before j after_ → ((stream : List ℕ) (read : List Turn) → StandsFor j stream read → StandsFor m stream read)
    → ((stream : List ℕ) (read : List Turn) → StandsFor j stream read → SpellsTurns stream read (end_of fault)) → TellsTurns i before m after_ fault
tells_end i j m before after_ fault on keeps ends = record {
  turns = on.turns;
  joined = on.joined;
  read = λ stream read stands. keeps stream (read ++ on.turns) (on.read stream read stands);
  spells = λ stream read stands. ends stream (read ++ on.turns) (on.read stream read stands);
}

-- ---- a new connection, and what is sent
pub new-holds : (k : KeptConnection) (peer : List ℕ) → k.peer ≡ peer → StandsFor k.intake [] [] → k.turns.items ≡ [] → k.fault ≡ None → QueueStandsFor k.answers (fresh peer) → ConnectionStandsFor k (fresh peer)
new-holds k peer is stands none whole answers = record {
  keeps = record {
    peer_is = is;
    answers = answers;
    reads = λ stays. record {
      read = stands;
      splits = record { done = []; counted = refl; joined = sym none };
      ends = ap end_of (sym whole);
      paired = rw none tt;
    };
  };
  ready = λ stays. rw none tt;
}

pub send-out_of_memory : (k : KeptConnection) (sent : Option Sending) → IfSome sent (λ s. (m : Connection) → QueueStandsFor k.answers m → IsTrue s.out_of_memory → IsInPlaceOfDue (due m) s.bytes) → IfSome sent (λ s. (m : Connection) → ConnectionStandsFor k m → IsTrue s.out_of_memory → IsInPlaceOfDue (due m) s.bytes)
send-out_of_memory k None shows = tt
send-out_of_memory k (Some s) shows = λ m holds out_of_memory. shows m holds.keeps.answers out_of_memory

pub send-holds : (k : KeptConnection) (o : AnswerQueue) (sent : Option Sending) → IfSome sent (λ s. (m : Connection) → QueueStandsFor k.answers m → IsDueSending m s × QueueStandsFor o (with_sent s.bytes m))
    → IfSome sent (λ s. (m : Connection) → ConnectionStandsFor k m → IsDueSending m s × ConnectionStandsFor (record k { answers = o }) (with_sent s.bytes m))
send-holds k o None sends = tt
send-holds k o (Some s) sends = λ m holds.
    let sent = sends m holds.keeps.answers in
    (sent.0, holds-same k o m (with_sent s.bytes m) holds (record { peer = refl; closing = refl; stream = refl; turns = refl; count = refl; ends = refl }) sent.1)
