-- What happens to one connection in a run, event by event.
use Rattle.std.proofs.Common.{◌≡◌, ◌≢◌, ℕ, ◌+◌, ◌-◌, ◌++◌, ◌||◌, Bool, true, false, List, [], ◌∷◌, Option, Some, None, refl, ap, sym, subst, ◌∙◌, inl, inr, ⊎_elim, append-nil, append_assoc, eq-eqb}
use Rattle.std.specs.Prelude.{nat_eq, nat_le, if◌then◌else◌}
use Rattle.std.specs.List.{list_any}
use Rattle.std.specs.Map.{update}
use Rattle.std.specs.Option.{option_map}
use Rattle.std.proofs.lemmas.Map.{update_apart, update_here}
use Rattle.std.proofs.lemmas.Bool.{cases_eq, ne_eqb}
use Rattle.sp_base.specs.declared.answer.Answer.{Answer}
use Rattle.sp_base.specs.Requests.{Request}
use Rattle.cover_rules.specs.declared.page.PageKey.{PageKey}
use Rattle.cover_rules.specs.declared.invalidation.Invalidation.{Invalidation}
use Rattle.error_answers.specs.Errors.{error_answer}
use Rattle.http_front.specs.Turns.{SpellsTurns}
use Rattle.cache_log.specs.Entries.{LogEntry, FlushOutcome, Done as done_outcome, Failed as failed_outcome, flights_asked, flushes_begun}
use Rattle.connections.specs.Slots.{Response, Says}
use Rattle.connections.specs.Connections.{Connection, Nothing, with_piece, fresh}
use Rattle.connections.specs.Connections as model
use Rattle.connections.specs.Histories.{IsAtRest}
use Rattle.connections.specs.declared.sending.Sending.{Sending}
use Rattle.run_events.specs.declared.conditions.Conditions.{Conditions}
use Rattle.run_events.specs.declared.flying.Flying.{Flying}
use Rattle.run_events.specs.declared.flying.Flushing.{Flushing}
use Rattle.run_events.specs.declared.note.Note.{Note}
use Rattle.run_events.specs.declared.note.Note.TheVariants.{Sliced, Rendered, Refused, Idle}
use Rattle.run_events.specs.declared.step.Step.{Step}
use Rattle.run_events.specs.declared.step.Step.TheVariants as step
use Rattle.run_events.specs.States.{RunState}
use Rattle.run_events.specs.Moves.{first_sliced, Serves, Settles, due_if_open, due_of_connection, failure_status, flying_at, flush_at, on_connection, over_with, state_after_ask, state_after_ending, state_after_flush, state_after_hit, state_after_note, state_after_notes, treated_request}
use Rattle.run_events.specs.Events.{Event, LeadsNotes, PieceTo, RenderTo, going, most_connections, opening, state_after_going, state_after_opening}
use Rattle.run_laws.specs.Histories.{brought_by, is_idle, opens_connection, sent_by, sent_in}
use Rattle.run_laws.proofs.AskLemmas.{Numbered, note-numbered}
use Rattle.run_laws.proofs.FormLemmas.{IsDueNote, IsLandingNote, IsSliceNote, next-form}
use Rattle.run_laws.proofs.PastLemmas.{Last, Past, last-now, past-as, past-fed, past-fresh}
use Rattle.run_laws.proofs.HistoryLemmas.{Held, held-none, held-one, held-same, held-silent, over-held, serves-held}
use Rattle.run_laws.proofs.NumberedLemmas.{at-here}
use Rattle.run_laws.proofs.SoundLemmas.{flush_number}

-- ---- whose slice is due
-- the flush whose first slice is due was asked for by this connection
abbrev pub Owns : RunState → ℕ → Type 0
Owns w d = (v : ℕ) (f : Flushing) → w.slicing ≡ Some v → flush_at v w.flushes ≡ Some f → f.connection ≡ d

pub owns-none : (w : RunState) (d : ℕ) → w.slicing ≡ None → Owns w d
owns-none w d none v f slicing at = absurd (let never : ⊥ = cc in never)

owns-asked : (w : RunState) (n c : ℕ) (key : Option PageKey) (request : Option Request) (d : ℕ) → Owns w d → Owns (state_after_ask w n c key request) d
owns-asked w n c key None d owns = owns
owns-asked w n c key (Some request) d owns = owns

owns-hit : (w : RunState) (c : ℕ) (key : PageKey) (request : Option Request) (d : ℕ) → Owns w d → Owns (state_after_hit w c key request) d
owns-hit w c key None d owns = owns
owns-hit w c key (Some request) d owns = owns

owns-flush : (w : RunState) (v c : ℕ) (inv : Invalidation) (request : Option Request) → Owns w c → Owns (state_after_flush w v c inv request) c
owns-flush w v c inv None owns = owns
owns-flush w v c inv (Some request) owns = by_flushes w.flushes
  where
    by_flushes : (flushes : List Flushing) → (u : ℕ) (f : Flushing) → first_sliced flushes v ≡ Some u → flush_at u (flushes ++ record { number = v; connection = c } ∷ []) ≡ Some f → f.connection ≡ c
    by_flushes [] u f slicing at =
        let same : v ≡ u = cc slicing in
        let here : Some (record { number = v; connection = c }) ≡ Some f = sym (at-here flush_number (record { number = v; connection = c }) []) ∙ subst (λ x. flush_at x (record { number = v; connection = c } ∷ []) ≡ Some f) (sym same) at in
        let is : record { number = v; connection = c } ≡ f = cc here in
        ap (λ (x : Flushing). x.connection) (sym is)
    by_flushes (g ∷ flushes) u f slicing at = absurd (cc slicing)

owns-ending : (w : RunState) (v : ℕ) (outcome : FlushOutcome) (response : Response) (at : Option Flushing) (d : ℕ) → Owns w d → Owns (state_after_ending w v outcome response at) d
owns-ending w v outcome response None d owns = owns
owns-ending w v outcome response (Some f) d owns = owns-none (state_after_ending w v outcome response (Some f)) d refl

owns-slice : (w : RunState) (v : ℕ) (note : Note) (d : ℕ) → Owns w d → IsSliceNote v note → Owns (state_after_note w note) d
owns-slice w v note d owns (inl done) = rw done (owns-ending w v done_outcome (Says (error_answer 200)) (flush_at v w.flushes) d owns)
owns-slice w v note d owns (inr (inl sliced)) = rw sliced (owns-none (state_after_note w (Sliced v)) d refl)
owns-slice w v note d owns (inr (inr failed)) = rw failed.1 (owns-ending w v failed_outcome (Says (error_answer (failure_status failed.0))) (flush_at v w.flushes) d owns)

pub owns-due : (w : RunState) (d : ℕ) (note : Note) → Owns w d → IsDueNote w d note → Owns (state_after_note w note) d
owns-due w d note owns (inl (inl local)) = rw local.1 owns
owns-due w d note owns (inl (inr (inl ask))) = rw ask.1 (owns-asked w (flights_asked w.log + 1) d ask.0 (treated_request (due_of_connection w d)) d owns)
owns-due w d note owns (inl (inr (inr (inl hit)))) = rw hit.1 (owns-hit w d hit.0 (treated_request (due_of_connection w d)) d owns)
owns-due w d note owns (inl (inr (inr (inr flush)))) = rw flush.1 (owns-flush w (flushes_begun w.log + 1) d flush.0 (treated_request (due_of_connection w d)) owns)
owns-due w d note owns (inr (inl sent)) = rw sent.1 owns
owns-due w d note owns (inr (inr (inl shut))) = rw shut owns
owns-due w d note owns (inr (inr (inr slice))) = owns-slice w slice.0 note d owns slice.2

-- ---- notes on another connection
pub record Apart (w v : RunState) (c : ℕ) (sent : List Sending) : Type 0 where
  pub connection : v.connection c ≡ w.connection c
  pub none : sent ≡ []

asked-apart : (w : RunState) (c n d : ℕ) (key : Option PageKey) (request : Option Request) → c ≢ d → (state_after_ask w n d key request).connection c ≡ w.connection c
asked-apart w c n d key None apart = refl
asked-apart w c n d key (Some request) apart = update_apart w.connection d _ c apart

hit-apart : (w : RunState) (c d : ℕ) (key : PageKey) (request : Option Request) → c ≢ d → (state_after_hit w d key request).connection c ≡ w.connection c
hit-apart w c d key None apart = refl
hit-apart w c d key (Some request) apart = update_apart w.connection d _ c apart

flush-apart : (w : RunState) (c v d : ℕ) (inv : Invalidation) (request : Option Request) → c ≢ d → (state_after_flush w v d inv request).connection c ≡ w.connection c
flush-apart w c v d inv None apart = refl
flush-apart w c v d inv (Some request) apart = update_apart w.connection d _ c apart

pub ending-apart : (w : RunState) (c v d : ℕ) (outcome : FlushOutcome) (response : Response) (at : Option Flushing) → c ≢ d → ((f : Flushing) → at ≡ Some f → f.connection ≡ d) → (state_after_ending w v outcome response at).connection c ≡ w.connection c
ending-apart w c v d outcome response None apart owns = refl
ending-apart w c v d outcome response (Some f) apart owns = update_apart w.connection f.connection _ c (λ same. apart (same ∙ owns f refl))

pub slice-apart : (m : Conditions) (w : RunState) (c v d : ℕ) (note : Note) → c ≢ d → ((f : Flushing) → flush_at v w.flushes ≡ Some f → f.connection ≡ d) → IsSliceNote v note → Apart w (state_after_note w note) c (sent_by c m note)
slice-apart m w c v d note apart owns (inl done) = rw done (record { connection = ending-apart w c v d done_outcome (Says (error_answer 200)) (flush_at v w.flushes) apart owns; none = refl })
slice-apart m w c v d note apart owns (inr (inl sliced)) = rw sliced (record { connection = refl; none = refl })
slice-apart m w c v d note apart owns (inr (inr failed)) = rw failed.1 (record { connection = ending-apart w c v d failed_outcome (Says (error_answer (failure_status failed.0))) (flush_at v w.flushes) apart owns; none = refl })

pub due-apart : (m : Conditions) (w : RunState) (c d : ℕ) (note : Note) → c ≢ d → Owns w d → IsDueNote w d note → Apart w (state_after_note w note) c (sent_by c m note)
due-apart m w c d note apart owns (inl (inl local)) = rw local.1 (record { connection = update_apart w.connection d _ c apart; none = refl })
due-apart m w c d note apart owns (inl (inr (inl ask))) = rw ask.1 (record { connection = asked-apart w c (flights_asked w.log + 1) d ask.0 (treated_request (due_of_connection w d)) apart; none = refl })
due-apart m w c d note apart owns (inl (inr (inr (inl hit)))) = rw hit.1 (record { connection = hit-apart w c d hit.0 (treated_request (due_of_connection w d)) apart; none = refl })
due-apart m w c d note apart owns (inl (inr (inr (inr flush)))) = rw flush.1 (record { connection = flush-apart w c (flushes_begun w.log + 1) d flush.0 (treated_request (due_of_connection w d)) apart; none = refl })
due-apart m w c d note apart owns (inr (inl sent)) =
    let other : nat_eq d c ≡ false = ne_eqb d c (λ e. apart (sym e)) in
    rw sent.1 (record { connection = update_apart w.connection d _ c apart; none = rw other refl })
due-apart m w c d note apart owns (inr (inr (inl shut))) = rw shut (record { connection = update_apart w.connection d None c apart; none = refl })
due-apart m w c d note apart owns (inr (inr (inr slice))) = slice-apart m w c slice.0 d note apart (λ f at. owns slice.0 f slice.1 at) slice.2

serves-apart : (m : Conditions) (w : RunState) (c d : ℕ) (notes : List Note) → c ≢ d → Owns w d → Serves m w d notes → Apart w (state_after_notes w notes) c (sent_in c m notes)
serves-apart m w c d [] apart owns serves = record { connection = refl; none = refl }
serves-apart m w c d (note ∷ notes) apart owns serves =
    let form = next-form m w d w.slicing note refl serves.0 in
    let one = due-apart m w c d note apart owns form in
    let rest = serves-apart m (state_after_note w note) c d notes apart (owns-due w d note owns form) serves.1 in
    record { connection = rest.connection ∙ one.connection; none = ap (λ xs. xs ++ sent_in c m notes) one.none ∙ rest.none }

-- ---- events
-- the connection is owed nothing
abbrev pub IsStill : RunState → ℕ → Type 0
IsStill w c = (d : Connection) → w.connection c ≡ Some d → model.due d ≡ Nothing

pub record Kept (w : RunState) (c : ℕ) (came : List ℕ) (sent : List Sending) : Type 0 where
  pub held : Held w c came sent
  pub still : IsStill w c
  pub numbered : Numbered w
  pub unsliced : w.slicing ≡ None

pub still-same : (w v : RunState) (c : ℕ) → v.connection c ≡ w.connection c → IsStill w c → IsStill v c
still-same w v c connection still = λ d some. still d (sym connection ∙ some)

-- nothing changes, and nothing is sent
pub kept-same : (w v : RunState) (c : ℕ) (came : List ℕ) (sent : List Sending) → v.connection c ≡ w.connection c → Numbered v → v.slicing ≡ None → Kept w c came sent → Kept v c came (sent ++ [])
kept-same w v c came sent connection numbered none kept = record { held = held-silent w v c came sent connection kept.held; still = still-same w v c connection kept.still; numbered = numbered; unsliced = none }

-- the connection d is given all that it is owed
settles-kept : (m : Conditions) (w : RunState) (c d : ℕ) (came : List ℕ) (sent : List Sending) (notes : List Note) → Held w c came sent → (c ≢ d → IsStill w c) → Owns w d → Numbered (state_after_notes w notes) → Settles m w d notes → Kept (state_after_notes w notes) c came (sent ++ sent_in c m notes)
settles-kept m w c d came sent notes held still owns numbered settles = ⊎_elim here there (cases_eq d c)
  where
    here : d ≡ c → Kept (state_after_notes w notes) c came (sent ++ sent_in c m notes)
    here same =
        let at : Settles m w c notes = subst (λ x. Settles m w x notes) same settles in
        record {
          held = serves-held m w c came sent notes held at.serves;
          still = λ k some. sym (ap due_if_open some) ∙ at.idle;
          numbered = numbered;
          unsliced = settles.sliced;
        }

    there : d ≢ c → Kept (state_after_notes w notes) c came (sent ++ sent_in c m notes)
    there apart =
        let other : c ≢ d = λ e. apart (sym e) in
        let kept = serves-apart m w c d notes other owns settles.serves in
        record {
          held = held-same w (state_after_notes w notes) c came sent (sent ++ sent_in c m notes) kept.connection (sym (append-nil sent) ∙ ap (λ xs. sent ++ xs) (sym kept.none)) held;
          still = still-same w (state_after_notes w notes) c kept.connection (still other);
          numbered = numbered;
          unsliced = settles.sliced;
        }

pub idle-kept : (m : Conditions) (w v : RunState) (c : ℕ) (came : List ℕ) (sent : List Sending) (notes : List Note) → v.connection c ≡ w.connection c → Numbered v → v.slicing ≡ None → Kept w c came sent → notes ≡ Idle ∷ [] → Kept (state_after_notes v notes) c came (sent ++ sent_in c m notes)
idle-kept m w v c came sent notes connection numbered none kept is = rw is (kept-same w v c came sent connection numbered none kept)

fresh-still : (peer : List ℕ) (d : Connection) → fresh peer ≡ d → model.due d ≡ Nothing
fresh-still peer d same = sym (ap model.due same)

-- what came and what was sent after the event
abbrev pub then_came : ℕ → List ℕ → Event → Step → List ℕ
then_came c came e s = if opens_connection c s e.body then [] else came ++ brought_by c s e.body

abbrev pub then_sent : ℕ → List Sending → Event → Step → List Sending
then_sent c sent e s = if opens_connection c s e.body then [] else sent ++ sent_in c e.conditions e.body

abbrev pub KeptBy : RunState → Event → ℕ → List ℕ → List Sending → Step → RunState → Type 0
KeptBy w e c came sent s v = Kept (state_after_notes v e.body) c (then_came c came e s) (then_sent c sent e s)

-- nothing came in it
pub came-none : (w : RunState) (c : ℕ) (came : List ℕ) (sent : List Sending) → Kept w c came sent → Kept w c (came ++ []) sent
came-none w c came sent kept = subst (λ xs. Kept w c xs sent) (sym (append-nil came)) kept

pub opened-kept : (w : RunState) (e : Event) (c d : ℕ) (peer : List ℕ) (came : List ℕ) (sent : List Sending) (at : Option Connection) → w.connection d ≡ at → Kept w c came sent → e.body ≡ opening d w.connection_count at
    → KeptBy w e c came sent (step.Opened d peer) (state_after_opening w d peer at)
opened-kept w e c d peer came sent (Some k) connection kept is = rw is (came-none w c came (sent ++ []) (kept-same w w c came sent refl kept.numbered kept.unsliced kept))
opened-kept w e c d peer came sent None connection kept is = by_room (nat_le most_connections w.connection_count) is
  where
    free : e.body ≡ [] → KeptBy w e c came sent (step.Opened d peer) (record w { connection = update nat_eq w.connection d (Some (fresh peer)); connection_count = w.connection_count + 1 })
    free none = rw none (⊎_elim same apart (cases_eq d c))
      where
        v : RunState
        v = record w { connection = update nat_eq w.connection d (Some (fresh peer)); connection_count = w.connection_count + 1 }

        same : d ≡ c → Kept v c (if nat_eq d c then [] else came ++ []) (if nat_eq d c then [] else sent ++ [])
        same e =
            let here : nat_eq d c ≡ true = eq-eqb d c e in
            let now : v.connection c ≡ Some (fresh peer) = subst (λ x. v.connection x ≡ Some (fresh peer)) e (update_here w.connection d (Some (fresh peer))) in
            rw here (record {
              held = held-one v c (fresh peer) [] [] now (past-fresh peer);
              still = λ k some. fresh-still peer k (let is : fresh peer ≡ k = cc in is);
              numbered = kept.numbered;
              unsliced = kept.unsliced;
            })

        apart : d ≢ c → Kept v c (if nat_eq d c then [] else came ++ []) (if nat_eq d c then [] else sent ++ [])
        apart other =
            let test : nat_eq d c ≡ false = ne_eqb d c other in
            rw test (came-none v c came (sent ++ []) (kept-same w v c came sent (update_apart w.connection d (Some (fresh peer)) c (λ x. other (sym x))) kept.numbered kept.unsliced kept))

    by_room : (full : Bool) → e.body ≡ (if full then Refused d ∷ [] else []) → KeptBy w e c came sent (step.Opened d peer) (if full then w else record w { connection = update nat_eq w.connection d (Some (fresh peer)); connection_count = w.connection_count + 1 })
    by_room true is = rw is (came-none w c came (sent ++ []) (kept-same w w c came sent refl kept.numbered kept.unsliced kept))
    by_room false is = free is

-- ---- a piece
-- on a connection that isn't there it brings nothing
pub piece-idle : (c d : ℕ) (bytes : List ℕ) (notes : List Note) → notes ≡ Idle ∷ [] → brought_by c (step.Piece d bytes) notes ≡ []
piece-idle c d bytes notes is = rw is refl

-- a note that is due tells that something is done
due-busy : (w : RunState) (c : ℕ) (note : Note) → IsDueNote w c note → is_idle note ≡ false
due-busy w c note (inl (inl local)) = rw local.1 refl
due-busy w c note (inl (inr (inl ask))) = rw ask.1 refl
due-busy w c note (inl (inr (inr (inl hit)))) = rw hit.1 refl
due-busy w c note (inl (inr (inr (inr flush)))) = rw flush.1 refl
due-busy w c note (inr (inl sent)) = rw sent.1 refl
due-busy w c note (inr (inr (inl shut))) = rw shut refl
due-busy w c note (inr (inr (inr (v, is, inl done)))) = rw done refl
due-busy w c note (inr (inr (inr (v, is, inr (inl sliced))))) = rw sliced refl
due-busy w c note (inr (inr (inr (v, is, inr (inr failed))))) = rw failed.1 refl

pub serves-busy : (m : Conditions) (w : RunState) (c : ℕ) (notes : List Note) → Serves m w c notes → list_any is_idle notes ≡ false
serves-busy m w c [] serves = refl
serves-busy m w c (note ∷ notes) serves = ap (λ b. b || list_any is_idle notes) (due-busy w c note (next-form m w c w.slicing note refl serves.0)) ∙ serves-busy m (state_after_note w note) c notes serves.1

pub piece-read : (w : RunState) (e : Event) (c d : ℕ) (bytes came : List ℕ) (sent : List Sending) (k : Connection) → list_any is_idle e.body ≡ false → w.connection d ≡ Some k → (k.closing ≡ false → SpellsTurns (k.stream ++ bytes) (k.turns ++ e.turns) e.ends) → Held w c came sent
    → Held (on_connection w d (with_piece bytes e.turns e.ends)) c (came ++ brought_by c (step.Piece d bytes) e.body) sent
piece-read w e c d bytes came sent k busy connection spells held = rw busy (⊎_elim here apart (cases_eq d c))
  where
    v : RunState
    v = on_connection w d (with_piece bytes e.turns e.ends)

    here : d ≡ c → Held v c (came ++ (if nat_eq d c then bytes else [])) sent
    here same =
        let test : nat_eq d c ≡ true = eq-eqb d c same in
        let now : v.connection d ≡ Some (with_piece bytes e.turns e.ends k) = update_here w.connection d _ ∙ ap (option_map (with_piece bytes e.turns e.ends)) connection in
        let past : Past k came sent = held.here k (sym (ap w.connection same) ∙ connection) in
        let there = held-one v d (with_piece bytes e.turns e.ends k) (came ++ bytes) sent now (past-fed k came sent bytes e.turns e.ends spells past) in
        rw test (subst (λ y. Held v y (came ++ bytes) sent) same there)

    apart : d ≢ c → Held v c (came ++ (if nat_eq d c then bytes else [])) sent
    apart other =
        let test : nat_eq d c ≡ false = ne_eqb d c other in
        rw test (subst (λ xs. Held v c xs sent) (sym (append-nil came)) (held-same w v c came sent sent (update_apart w.connection d _ c (λ x. other (sym x))) refl held))

pub piece-kept : (w : RunState) (e : Event) (c d : ℕ) (bytes came : List ℕ) (sent : List Sending) (at : Option Connection) → w.connection d ≡ at → Kept w c came sent → Numbered (state_after_notes (on_connection w d (with_piece bytes e.turns e.ends)) e.body) → PieceTo w e d bytes at
    → Kept (state_after_notes (on_connection w d (with_piece bytes e.turns e.ends)) e.body) c (came ++ brought_by c (step.Piece d bytes) e.body) (sent ++ sent_in c e.conditions e.body)
piece-kept w e c d bytes came sent None connection kept numbered is = idle-kept e.conditions w v c all sent e.body same kept.numbered kept.unsliced now is
  where
    v : RunState
    v = on_connection w d (with_piece bytes e.turns e.ends)

    all : List ℕ
    all = came ++ brought_by c (step.Piece d bytes) e.body

    none : came ≡ all
    none = sym (ap (λ more. came ++ more) (piece-idle c d bytes e.body is) ∙ append-nil came)

    now : Kept w c all sent
    now = record { held = subst (λ xs. Held w c xs sent) none kept.held; still = kept.still; numbered = kept.numbered; unsliced = kept.unsliced }

    same : v.connection c ≡ w.connection c
    same = ⊎_elim
        (λ x. subst (λ y. v.connection y ≡ w.connection y) x (update_here w.connection d _ ∙ ap (option_map (with_piece bytes e.turns e.ends)) connection ∙ sym connection))
        (λ other. update_apart w.connection d _ c (λ x. other (sym x)))
        (cases_eq d c)
piece-kept w e c d bytes came sent (Some k) connection kept numbered feeds =
    settles-kept e.conditions (on_connection w d (with_piece bytes e.turns e.ends)) c d (came ++ brought_by c (step.Piece d bytes) e.body) sent e.body
    (piece-read w e c d bytes came sent k (serves-busy e.conditions (on_connection w d (with_piece bytes e.turns e.ends)) d e.body feeds.settles.serves) connection feeds.spells kept.held)
    (λ other. still-same w (on_connection w d (with_piece bytes e.turns e.ends)) c (update_apart w.connection d _ c other) kept.still)
    (owns-none (on_connection w d (with_piece bytes e.turns e.ends)) d kept.unsliced) numbered feeds.settles

-- ---- a client that goes
pub gone-last : (w : RunState) (c : ℕ) (came : List ℕ) (sent : List Sending) (k : Connection) → w.connection c ≡ Some k → Kept w c came sent → Last came (sent ++ [])
gone-last w c came sent k is kept =
    last-now k came (sent ++ []) (past-as k came sent (sent ++ []) (sym (append-nil sent)) (kept.held.here k is)) (subst IsAtRest (sym (kept.still k is)) tt)

pub gone-kept : (w : RunState) (e : Event) (c d : ℕ) (came : List ℕ) (sent : List Sending) (at : Option Connection) → w.connection d ≡ at → Kept w c came sent → e.body ≡ going at → Kept (state_after_notes (state_after_going w d at) e.body) c came (sent ++ sent_in c e.conditions e.body)
gone-kept w e c d came sent None connection kept is = idle-kept e.conditions w w c came sent e.body refl kept.numbered kept.unsliced kept is
gone-kept w e c d came sent (Some k) connection kept is = rw is (⊎_elim same apart (cases_eq d c))
  where
    v : RunState
    v = record w { connection = update nat_eq w.connection d None; connection_count = w.connection_count - 1 }

    same : d ≡ c → Kept v c came (sent ++ [])
    same x =
        let none : v.connection c ≡ None = subst (λ y. v.connection y ≡ None) x (update_here w.connection d None) in
        let open_ : w.connection c ≡ Some k = sym (ap w.connection x) ∙ connection in
        record { held = held-none v c came (sent ++ []) none (gone-last w c came sent k open_ kept); still = λ d some. absurd (let never : ⊥ = cc in never); numbered = kept.numbered; unsliced = kept.unsliced }

    apart : d ≢ c → Kept v c came (sent ++ [])
    apart other = kept-same w v c came sent (update_apart w.connection d None c (λ x. other (sym x))) kept.numbered kept.unsliced kept

pub render-kept : (w : RunState) (e : Event) (c : ℕ) (came : List ℕ) (sent : List Sending) (flying : Option Flying) → Kept w c came sent → RenderTo w e flying → Kept (state_after_notes w e.body) c came (sent ++ sent_in c e.conditions e.body)
render-kept w e c came sent None kept is = idle-kept e.conditions w w c came sent e.body refl kept.numbered kept.unsliced kept is
render-kept w e c came sent (Some f) kept to = rw to.2 (kept-same w (state_after_note w (Rendered f.number to.0)) c came sent refl (note-numbered w (Rendered f.number to.0) tt kept.numbered) kept.unsliced kept)

-- ---- a first note, and what its connection is then owed
pub leads-kept : (m : Conditions) (w : RunState) (first : Note) (c d : ℕ) (came : List ℕ) (sent : List Sending) (notes : List Note) → Held (state_after_note w first) c came (sent ++ sent_by c m first) → (c ≢ d → IsStill (state_after_note w first) c) → (state_after_note w first).slicing ≡ None
    → Numbered (state_after_notes w notes) → LeadsNotes w m first d notes → Kept (state_after_notes w notes) c came (sent ++ sent_in c m notes)
leads-kept m w first c d came sent notes held still none numbered leads =
    let v = state_after_note w first in
    let state : state_after_notes w notes ≡ state_after_notes v leads.rest = ap (state_after_notes w) leads.begins in
    let done = settles-kept m v c d came (sent ++ sent_by c m first) leads.rest held still (owns-none v d none) (subst Numbered state numbered) leads.settles in
    let all : (sent ++ sent_by c m first) ++ sent_in c m leads.rest ≡ sent ++ sent_in c m notes = append_assoc sent (sent_by c m first) (sent_in c m leads.rest) ∙ ap (λ xs. sent ++ sent_in c m xs) (sym leads.begins) in
    subst (λ u. Kept u c came (sent ++ sent_in c m notes)) (sym state) (subst (λ xs. Kept (state_after_notes v leads.rest) c came xs) all done)

-- a flight is over
over-apart : (w : RunState) (c n d : ℕ) (answer : Answer) (entry : LogEntry) (at : Option Flying) → c ≢ d → ((f : Flying) → at ≡ Some f → f.connection ≡ d) → (over_with w n answer entry at).connection c ≡ w.connection c
over-apart w c n d answer entry None apart is = refl
over-apart w c n d answer entry (Some f) apart is = update_apart w.connection f.connection _ c (λ same. apart (same ∙ is f refl))

pub over-slicing : (w : RunState) (n : ℕ) (answer : Answer) (entry : LogEntry) (at : Option Flying) → (over_with w n answer entry at).slicing ≡ w.slicing
over-slicing w n answer entry None = refl
over-slicing w n answer entry (Some f) = refl

-- the note takes a flight out of the air
pub record TakesOut (w : RunState) (n : ℕ) (note : Note) : Type 0 where
  pub answer : Answer
  pub entry : LogEntry
  pub is : state_after_note w note ≡ over_with w n answer entry (flying_at n w.flights)
  pub silent : (c : ℕ) (m : Conditions) → sent_by c m note ≡ []

pub landing-takes : (w : RunState) (n : ℕ) (note : Note) → IsLandingNote n note → TakesOut w n note
landing-takes w n note (inl kept) = rw kept.1 (record { answer = _; entry = _; is = refl; silent = λ c m. refl })
landing-takes w n note (inr (inl unkept)) = rw unkept (record { answer = _; entry = _; is = refl; silent = λ c m. refl })
landing-takes w n note (inr (inr passed)) = rw passed (record { answer = _; entry = _; is = refl; silent = λ c m. refl })

pub takes-kept : (m : Conditions) (w : RunState) (first : Note) (c : ℕ) (came : List ℕ) (sent : List Sending) (f : Flying) (notes : List Note) → TakesOut w f.number first → flying_at f.number w.flights ≡ Some f → Kept w c came sent → Numbered (state_after_notes w notes) → LeadsNotes w m first f.connection notes
    → Kept (state_after_notes w notes) c came (sent ++ sent_in c m notes)
takes-kept m w first c came sent f notes takes at kept numbered leads = leads-kept m w first c f.connection came sent notes held still none numbered leads
  where
    o : RunState
    o = over_with w f.number takes.answer takes.entry (flying_at f.number w.flights)

    held : Held (state_after_note w first) c came (sent ++ sent_by c m first)
    held = rw (takes.silent c m) (subst (λ u. Held u c came (sent ++ [])) (sym takes.is) (over-held w c f.number takes.answer takes.entry came sent (flying_at f.number w.flights) kept.held))

    still : c ≢ f.connection → IsStill (state_after_note w first) c
    still apart = subst (λ u. IsStill u c) (sym takes.is) (still-same w o c (over-apart w c f.number f.connection takes.answer takes.entry (flying_at f.number w.flights) apart (λ g is. let same : Some f ≡ Some g = sym at ∙ is in let one : f ≡ g = cc same in ap (λ (x : Flying). x.connection) (sym one))) kept.still)

    none : (state_after_note w first).slicing ≡ None
    none = ap (λ (u : RunState). u.slicing) takes.is ∙ over-slicing w f.number takes.answer takes.entry (flying_at f.number w.flights) ∙ kept.unsliced
