-- What connections read of what steps bring, event by event.
use Rattle.std.proofs.Common.{◌≡◌, ◌≢◌, ◌∙◌, ℕ, ◌+◌, ◌++◌, Bool, true, false, List, [], ◌∷◌, Option, Some, None, refl, ap, sym, subst, ⊎_elim, append_assoc, eq-eqb}
use Rattle.std.specs.Prelude.{if◌then◌else◌, nat_eq, nat_le}
use Rattle.std.specs.Map.{update}
use Rattle.std.specs.Option.{option_map}
use Rattle.std.proofs.lemmas.Map.{update_apart, update_here}
use Rattle.std.proofs.lemmas.Bool.{cases_eq, ne_eqb}
use Rattle.sp_base.specs.declared.answer.Answer.{Answer}
use Rattle.sp_base.specs.Requests.{Request}
use Rattle.cover_rules.specs.declared.page.PageKey.{PageKey}
use Rattle.cover_rules.specs.declared.invalidation.Invalidation.{Invalidation}
use Rattle.http_front.specs.OpenEnds.{LeavesEndOpen}
use Rattle.http_front.specs.Turns.{End, SpellsTurns}
use Rattle.http_front.specs.declared.turn.Turn.{Turn}
use Rattle.cache_log.specs.Entries.{LogEntry, FlushOutcome}
use Rattle.connections.specs.Slots.{Response}
use Rattle.connections.specs.Connections.{Connection, fresh, with_due_continue, with_piece}
use Rattle.run_events.specs.declared.flying.Flying.{Flying}
use Rattle.run_events.specs.declared.flying.Flushing.{Flushing}
use Rattle.run_events.specs.declared.note.Note.{Note}
use Rattle.run_events.specs.declared.note.Note.TheVariants.{Ask as asked, Hit, Local, Flush, Sliced, Done, Failed, Rendered, Kept, Unkept, Passed, Lost, Sent, Shut, Up, Down}
use Rattle.run_events.specs.declared.step.Step.{Step}
use Rattle.run_events.specs.declared.step.Step.TheVariants as step
use Rattle.run_events.specs.States.{RunState, start_of}
use Rattle.run_events.specs.Moves.{due_of_connection, flying_at, flush_at, on_connection, over_with, state_after_ask, state_after_ending, state_after_flush, state_after_hit, state_after_note, state_after_notes, treated_request}
use Rattle.run_events.specs.Events.{Event, HappensBy, PieceTo, Run, after_event, most_connections, state_after_going, state_after_opening, state_before_notes}
use Rattle.run_laws.specs.Brought.{EachBeginning, StepsBring, StepsTellTheEnds, comes_on}
use Rattle.run_laws.specs.Determined.{IsEndLeftOpen, IsEndLeftOpenOf, LeaveNoEndOpen, event_steps}
use Rattle.run_laws.proofs.PastLemmas.{Same, longer, same-advanced, same-end, same-sent, same-treated}

-- ---- connections
-- it is so with the turns of the connection, and with what it has read and what is still to come
pub record Reads (Has : List Turn → Type 0) (Is : List ℕ → List Turn → Type 0) (coming : List ℕ) (k : Connection) : Type 0 where
  pub turns : Has k.turns
  pub comes : k.closing ≡ false → EachBeginning Is (k.stream ++ coming)

abbrev pub AllRead : (List Turn → Type 0) → (List ℕ → List Turn → Type 0) → (ℕ → List ℕ) → (ℕ → Option Connection) → Type 0
AllRead Has Is coming connection = (c : ℕ) (k : Connection) → connection c ≡ Some k → Reads Has Is (coming c) k

-- what is still to come by these steps
abbrev pub coming_by : List Step → ℕ → List ℕ
coming_by steps = λ (c : ℕ). comes_on c steps

module _ (Has : List Turn → Type 0) (Is : List ℕ → List Turn → Type 0) where
  reads_same : (coming : List ℕ) (d v : Connection) → Same d v → Reads Has Is coming d → Reads Has Is coming v
  reads_same coming d v same reads = record {
    turns = subst Has (sym same.turns) reads.turns;
    comes = λ e. subst (λ (s : List ℕ). EachBeginning Is (s ++ coming)) (sym same.stream) (reads.comes (same.closing e));
  }

  -- one connection changes, and what is still to come on it
  read_later : (coming later : ℕ → List ℕ) (connection : ℕ → Option Connection) (c : ℕ) (now : Option Connection) → ((q : ℕ) → c ≢ q → coming q ≡ later q) → AllRead Has Is coming connection → ((k : Connection) → now ≡ Some k → Reads Has Is (later c) k)
      → AllRead Has Is later (update nat_eq connection c now)
  read_later coming later connection c now still all here q k e = ⊎_elim
      (λ same. subst (λ x. Reads Has Is (later x) k) same (here k (sym (subst (λ x. update nat_eq connection c now x ≡ now) same (update_here connection c now)) ∙ e)))
      (λ apart. subst (λ bytes. Reads Has Is bytes k) (still q apart) (all q k (sym (update_apart connection c now q (λ x. apart (sym x))) ∙ e)))
      (cases_eq c q)

  read_none : (coming : ℕ → List ℕ) (connection : ℕ → Option Connection) (c : ℕ) → AllRead Has Is coming connection → AllRead Has Is coming (update nat_eq connection c None)
  read_none coming connection c all = read_later coming coming connection c None (λ q apart. refl) all (λ k e. absurd (let never : ⊥ = cc in never))

  read_map : (coming : ℕ → List ℕ) (connection : ℕ → Option Connection) (c : ℕ) (change : Connection → Connection) → ((j : Connection) → Same j (change j)) → AllRead Has Is coming connection → AllRead Has Is coming (update nat_eq connection c (option_map change (connection c)))
  read_map coming connection c change same all = read_later coming coming connection c (option_map change (connection c)) (λ q apart. refl) all (λ k e. by_open (connection c) refl k e)
    where
      by_open : (o : Option Connection) → connection c ≡ o → (k : Connection) → option_map change o ≡ Some k → Reads Has Is (coming c) k
      by_open None is k e = absurd (let never : ⊥ = cc in never)
      by_open (Some j) is k e =
          let now : change j ≡ k = cc (e) in
          subst (Reads Has Is (coming c)) now (reads_same (coming c) j (change j) (same j) (all c j is))

  -- ---- notes
  ask_read : (coming : ℕ → List ℕ) (w : RunState) (n c : ℕ) (key : Option PageKey) (at : Option Request) → AllRead Has Is coming w.connection → AllRead Has Is coming (state_after_ask w n c key at).connection
  ask_read coming w n c key None all = all
  ask_read coming w n c key (Some request) all = read_map coming w.connection c _ (same-treated _) all

  hit_read : (coming : ℕ → List ℕ) (w : RunState) (c : ℕ) (key : PageKey) (at : Option Request) → AllRead Has Is coming w.connection → AllRead Has Is coming (state_after_hit w c key at).connection
  hit_read coming w c key None all = all
  hit_read coming w c key (Some request) all = read_map coming w.connection c _ (same-treated _) all

  flush_read : (coming : ℕ → List ℕ) (w : RunState) (v c : ℕ) (inv : Invalidation) (at : Option Request) → AllRead Has Is coming w.connection → AllRead Has Is coming (state_after_flush w v c inv at).connection
  flush_read coming w v c inv None all = all
  flush_read coming w v c inv (Some request) all = read_map coming w.connection c _ (same-treated _) all

  ending_read : (coming : ℕ → List ℕ) (w : RunState) (v : ℕ) (outcome : FlushOutcome) (response : Response) (at : Option Flushing) → AllRead Has Is coming w.connection → AllRead Has Is coming (state_after_ending w v outcome response at).connection
  ending_read coming w v outcome response None all = all
  ending_read coming w v outcome response (Some flush) all = read_map coming w.connection flush.connection _ (same-end _ _) all

  over_read : (coming : ℕ → List ℕ) (w : RunState) (n : ℕ) (answer : Answer) (entry : LogEntry) (at : Option Flying) → AllRead Has Is coming w.connection → AllRead Has Is coming (over_with w n answer entry at).connection
  over_read coming w n answer entry None all = all
  over_read coming w n answer entry (Some f) all = read_map coming w.connection f.connection _ (same-end _ _) all

  pub note_read : (coming : ℕ → List ℕ) (w : RunState) (note : Note) → AllRead Has Is coming w.connection → AllRead Has Is coming (state_after_note w note).connection
  note_read coming w (asked n c key) all = ask_read coming w n c key (treated_request (due_of_connection w c)) all
  note_read coming w (Hit c key) all = hit_read coming w c key (treated_request (due_of_connection w c)) all
  note_read coming w (Local c status) all = read_map coming w.connection c _ (λ j. same-treated _ j) all
  note_read coming w (Flush v c inv) all = flush_read coming w v c inv (treated_request (due_of_connection w c)) all
  note_read coming w (Sliced v) all = all
  note_read coming w (Done v) all = ending_read coming w v _ _ (flush_at v w.flushes) all
  note_read coming w (Failed v failure) all = ending_read coming w v _ _ (flush_at v w.flushes) all
  note_read coming w (Rendered n answer) all = all
  note_read coming w (Kept n key) all = over_read coming w n _ _ (flying_at n w.flights) all
  note_read coming w (Unkept n) all = over_read coming w n _ _ (flying_at n w.flights) all
  note_read coming w (Passed n) all = over_read coming w n _ _ (flying_at n w.flights) all
  note_read coming w (Lost n) all = over_read coming w n _ _ (flying_at n w.flights) all
  note_read coming w (Sent c bytes) all = read_map coming w.connection c _ (same-sent bytes) all
  note_read coming w (Shut c) all = read_none coming w.connection c all
  note_read coming w (Up epoch) all = all
  note_read coming w Down all = all
  note_read coming w note all = all

  pub notes_read : (coming : ℕ → List ℕ) (w : RunState) (notes : List Note) → AllRead Has Is coming w.connection → AllRead Has Is coming (state_after_notes w notes).connection
  notes_read coming w [] all = all
  notes_read coming w (note ∷ notes) all = notes_read coming (state_after_note w note) notes (note_read coming w note all)

-- ---- what a step leaves to come
begins-with : (d : ℕ) (bytes : List ℕ) (steps : List Step) → comes_on d (step.Piece d bytes ∷ steps) ≡ bytes ++ comes_on d steps
begins-with d bytes steps = let here : nat_eq d d ≡ true = eq-eqb d d refl in rw here refl

piece-apart : (d : ℕ) (bytes : List ℕ) (steps : List Step) (q : ℕ) → d ≢ q → comes_on q (step.Piece d bytes ∷ steps) ≡ comes_on q steps
piece-apart d bytes steps q apart = let other : nat_eq d q ≡ false = ne_eqb d q apart in rw other refl

going-apart : (d : ℕ) (steps : List Step) (q : ℕ) → d ≢ q → comes_on q (step.Gone d ∷ steps) ≡ comes_on q steps
going-apart d steps q apart = let other : nat_eq d q ≡ false = ne_eqb d q apart in rw other refl

-- what is so of each beginning of what comes is so of what is read with a piece
pub piece-is : (Is : List ℕ → List Turn → Type 0) (d : ℕ) (bytes : List ℕ) (steps : List Step) (k : Connection) (turns : List Turn) (ends : End) → EachBeginning Is (k.stream ++ comes_on d (step.Piece d bytes ∷ steps)) → SpellsTurns (k.stream ++ bytes) (k.turns ++ turns) ends
    → Is (k.stream ++ bytes) (k.turns ++ turns)
piece-is Is d bytes steps k turns ends each spells =
    each (k.stream ++ bytes) (comes_on d steps) (k.turns ++ turns) ends (ap (λ xs. k.stream ++ xs) (begins-with d bytes steps) ∙ sym (append_assoc k.stream bytes (comes_on d steps))) spells

module _ (Has : List Turn → Type 0) (Is : List ℕ → List Turn → Type 0) (none : Has []) (known : (stream : List ℕ) (turns : List Turn) → Is stream turns → Has turns) where
  opened_read : (steps : List Step) (w : RunState) (d : ℕ) (peer : List ℕ) (at : Option Connection) → EachBeginning Is (comes_on d steps) → AllRead Has Is (coming_by steps) w.connection → AllRead Has Is (coming_by steps) (state_after_opening w d peer at).connection
  opened_read steps w d peer (Some k) each all = all
  opened_read steps w d peer None each all = by_room (nat_le most_connections w.connection_count)
    where
      new : (k : Connection) → Some (fresh peer) ≡ Some k → Reads Has Is (comes_on d steps) k
      new k e = let same : fresh peer ≡ k = cc (e) in subst (Reads Has Is (comes_on d steps)) same (record { turns = none; comes = λ reads_on. each })

      by_room : (full : Bool) → AllRead Has Is (coming_by steps) (if full then w else record w { connection = update nat_eq w.connection d (Some (fresh peer)); connection_count = w.connection_count + 1 }).connection
      by_room true = all
      by_room false = read_later Has Is (coming_by steps) (coming_by steps) w.connection d (Some (fresh peer)) (λ q apart. refl) all new

  -- the connection reads the piece, unless it is closing
  fed_reads : (d : ℕ) (bytes : List ℕ) (steps : List Step) (turns : List Turn) (ends : End) (k : Connection) → (k.closing ≡ false → SpellsTurns (k.stream ++ bytes) (k.turns ++ turns) ends) → Reads Has Is (comes_on d (step.Piece d bytes ∷ steps)) k → Reads Has Is (comes_on d steps) (with_piece bytes turns ends k)
  fed_reads d bytes steps turns ends k spells reads = by_closing k.closing refl
    where
      by_closing : (b : Bool) → k.closing ≡ b → Reads Has Is (comes_on d steps) (if b then k else with_due_continue (longer bytes turns ends k))
      by_closing true is = record { turns = reads.turns; comes = λ reads_on. absurd (let both : true ≡ false = sym is ∙ reads_on in let never : ⊥ = cc in never) }
      by_closing false is =
          reads_same Has Is (comes_on d steps) (longer bytes turns ends k) (with_due_continue (longer bytes turns ends k)) (same-advanced (longer bytes turns ends k)) (record {
            turns = known (k.stream ++ bytes) (k.turns ++ turns) (piece-is Is d bytes steps k turns ends (reads.comes is) (spells is));
            comes = λ reads_on. subst (EachBeginning Is) (ap (λ xs. k.stream ++ xs) (begins-with d bytes steps) ∙ sym (append_assoc k.stream bytes (comes_on d steps))) (reads.comes is);
          })

  piece_read : (steps : List Step) (w : RunState) (e : Event) (d : ℕ) (bytes : List ℕ) (at : Option Connection) → w.connection d ≡ at → PieceTo w e d bytes at → AllRead Has Is (coming_by (step.Piece d bytes ∷ steps)) w.connection
      → AllRead Has Is (coming_by steps) (on_connection w d (with_piece bytes e.turns e.ends)).connection
  piece_read steps w e d bytes at is to all =
      read_later Has Is (coming_by (step.Piece d bytes ∷ steps)) (coming_by steps) w.connection d (option_map (with_piece bytes e.turns e.ends) (w.connection d)) (piece-apart d bytes steps) all
      (λ k some. by_open at is to k (ap (option_map (with_piece bytes e.turns e.ends)) (sym is) ∙ some))
    where
      by_open : (o : Option Connection) → w.connection d ≡ o → PieceTo w e d bytes o → (k : Connection) → option_map (with_piece bytes e.turns e.ends) o ≡ Some k → Reads Has Is (comes_on d steps) k
      by_open None is to k some = absurd (let never : ⊥ = cc in never)
      by_open (Some j) is to k some =
          let now : with_piece bytes e.turns e.ends j ≡ k = cc (some) in
          subst (Reads Has Is (comes_on d steps)) now (fed_reads d bytes steps e.turns e.ends j to.spells (all d j is))

  gone_read : (steps : List Step) (w : RunState) (d : ℕ) (at : Option Connection) → w.connection d ≡ at → AllRead Has Is (coming_by (step.Gone d ∷ steps)) w.connection → AllRead Has Is (coming_by steps) (state_after_going w d at).connection
  gone_read steps w d None is all = λ q k some.
      let apart : d ≢ q = λ same. let both : None ≡ Some k = sym is ∙ ap w.connection same ∙ some in let never : ⊥ = cc in never in
      subst (λ xs. Reads Has Is xs k) (going-apart d steps q apart) (all q k some)
  gone_read steps w d (Some j) is all = read_later Has Is (coming_by (step.Gone d ∷ steps)) (coming_by steps) w.connection d None (going-apart d steps) all (λ k some. absurd (let never : ⊥ = cc in never))

  pub begun_read : (steps : List Step) (w : RunState) (e : Event) (s : Step) → StepsBring Is (s ∷ steps) → HappensBy w e s → AllRead Has Is (coming_by (s ∷ steps)) w.connection → AllRead Has Is (coming_by steps) (state_before_notes w e s).connection
  begun_read steps w e (step.Opened d peer) each happens all = opened_read steps w d peer (w.connection d) (each [] d peer steps refl) all
  begun_read steps w e (step.Piece d bytes) each happens all = piece_read steps w e d bytes (w.connection d) refl happens all
  begun_read steps w e (step.Gone d) each happens all = gone_read steps w d (w.connection d) refl all
  begun_read steps w e (step.Direct target) each happens all = all
  begun_read steps w e (step.Render pick) each happens all = all
  begun_read steps w e (step.Deliver pick) each happens all = all
  begun_read steps w e (step.Lose pick) each happens all = all
  begun_read steps w e step.Purge each happens all = all
  begun_read steps w e step.Restart each happens all = λ q k some. absurd (let never : ⊥ = cc in never)

-- what further steps bring
pub later-bring : (Is : List ℕ → List Turn → Type 0) (s : Step) (steps : List Step) → StepsBring Is (s ∷ steps) → StepsBring Is steps
later-bring Is s steps each = λ before c peer since is. each (s ∷ before) c peer since (ap (λ xs. s ∷ xs) is)

-- ---- how streams end
abbrev NoEndOpen : List ℕ → List Turn → Type 0
NoEndOpen stream turns = LeavesEndOpen stream turns → ⊥

abbrev AnyTurns : List Turn → Type 0
AnyTurns turns = Unit {0}

piece-told : (steps : List Step) (w : RunState) (e : Event) (d : ℕ) (bytes : List ℕ) (at : Option Connection) → w.connection d ≡ at → PieceTo w e d bytes at → AllRead AnyTurns NoEndOpen (coming_by (step.Piece d bytes ∷ steps)) w.connection → IsEndLeftOpenOf at bytes e.turns → ⊥
piece-told steps w e d bytes None is to all left = left
piece-told steps w e d bytes (Some k) is to all left = piece-is NoEndOpen d bytes steps k e.turns e.ends ((all d k is).comes left.0) (to.spells left.0) left.1

step-told : (steps : List Step) (w : RunState) (e : Event) (s : Step) → HappensBy w e s → AllRead AnyTurns NoEndOpen (coming_by (s ∷ steps)) w.connection → IsEndLeftOpen w s e.turns → ⊥
step-told steps w e (step.Piece d bytes) happens all left = piece-told steps w e d bytes (w.connection d) refl happens all left
step-told steps w e s happens all left = left

run-told : (w : RunState) (events : List Event) → AllRead AnyTurns NoEndOpen (coming_by (event_steps events)) w.connection → StepsBring NoEndOpen (event_steps events) → Run w events → LeaveNoEndOpen w events
run-told w [] all each run = tt
run-told w (e ∷ events) all each run =
    let steps : List Step = event_steps events in
    let begun = begun_read AnyTurns NoEndOpen tt (λ stream turns is. tt) steps w e e.step each run.0.0 all in
    (step-told steps w e e.step run.0.0 all, run-told (after_event w e) events (notes_read AnyTurns NoEndOpen (coming_by steps) (state_before_notes w e e.step) e.body begun) (later-bring NoEndOpen e.step steps each) run.1)

pub ends-told : StepsTellTheEnds
ends-told s events run each = run-told (start_of s) events (λ c k some. absurd (let never : ⊥ = cc in never)) each run
