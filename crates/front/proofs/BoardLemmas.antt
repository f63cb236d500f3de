-- The connections of a board, when one of them changes.
use Rattle.std.proofs.Common.{◌≡◌, ◌≢◌, ℕ, ◌+◌, ◌++◌, Bool, true, false, List, [], ◌∷◌, Option, Some, None, refl, ap, sym, subst, ◌∙◌, arith, ⊎_elim}
use Rattle.std.specs.Prelude.{IsSome, is_some, nat_eq, if◌then◌else◌}
use Rattle.std.specs.Option.{option_map}
use Rattle.std.specs.Ordering.{nat_cmp}
use Rattle.std.specs.BTreeMap.{BTreeMap, get, is_at, Updates, WritesThrough, btree_map_len}
use Rattle.std.proofs.lemmas.Map.{update_apart, update_here}
use Rattle.std.proofs.lemmas.Map.Lookups.{exact_unsigned}
use Rattle.std.proofs.lemmas.Bool.{cases_eq}
use Rattle.sp_base.proofs.OrderingLemmas.{equal_from_test}
use Rattle.sp_outside.specs.Files.{Files}
use Rattle.connections.specs.Connections.{Connection}
use Rattle.connections.specs.Slots.{Response}
use Rattle.run_events.specs.declared.conditions.Conditions.{Conditions}
use Rattle.run_events.specs.declared.note.Note.{Note}
use Rattle.run_events.specs.declared.note.Note.TheVariants.{Shut}
use Rattle.run_events.specs.Moves.{GivesDue, GivesNext, Serves, state_after_note, state_after_notes, due_of_connection}
use Rattle.run_events.specs.States.{RunState}
use Rattle.front.specs.Boards.{AllGiven, BoardAt, BoardStandsFor, ConnectionsStandFor, EntryStandsFor, FirstThen, HasEnded, OpenStandsFor, SettlesIn, at_disk, behind_board}
use Rattle.front.specs.Caches.{Allows, Behind, BehindStandsFor, CacheParts, RepliesFor, behind, under_both, under_nothing, with_end_if}
use Rattle.front.specs.KeptConnections.{ConnectionStandsFor}
use Rattle.front.specs.declared.answered.Ended.{Ended as EndedAs}
use Rattle.front.specs.declared.connection.Connection.{Connection as KeptConnection}
use Rattle.front.specs.declared.effect.Effect.{Effect}
use Rattle.front.proofs.CauseLemmas.{allows-left, allows-right, cause-first, cause-push}
use Rattle.front.proofs.MoveLemmas.{Frame, afters-push, serves-frame, serves-push}

-- ---- maps by number
pub at-other : (c q : ℕ) → q ≢ c → is_at (nat_cmp c) q ≡ false
at-other c q apart = by_test (is_at (nat_cmp c) q) refl
  where
    by_test : (b : Bool) → is_at (nat_cmp c) q ≡ b → b ≡ false
    by_test true e = absurd (apart (sym (exact_unsigned c q (equal_from_test (nat_cmp c q) e))))
    by_test false e = refl

pub some-there : {A : Type 0} (o : Option A) (a : A) → o ≡ Some a → IsSome o
some-there None a e = absurd (let no : ⊥ = cc in no)
some-there (Some b) a e = refl

-- ---- a connection and what is kept of it
-- the connection of what is kept under a number
pub record Opened (k : KeptConnection) (there : Option Connection) : Type 0 where
  pub connection : Connection
  pub open_is : there ≡ Some connection
  pub holds : ConnectionStandsFor k connection

pub tied-some : (o : Option KeptConnection) (connection : Option Connection) (k : KeptConnection) → EntryStandsFor o connection → o ≡ Some k → Opened k connection
tied-some None connection k tied e = absurd (let no : ⊥ = cc in no)
tied-some (Some j) None k tied e = absurd tied
tied-some (Some j) (Some m) k tied e = let same : j ≡ k = cc in record { connection = m; open_is = refl; holds = rw (← same) tied }

pub tied-none : (o : Option KeptConnection) (connection : Option Connection) → EntryStandsFor o connection → o ≡ None → connection ≡ None
tied-none None None tied e = refl
tied-none None (Some m) tied e = absurd tied
tied-none (Some k) connection tied e = absurd (let no : ⊥ = cc in no)

-- what is behind the connections stands for a state with the same log, flights and flushes
pub behind-same : (b : Behind) (w v : RunState) → BehindStandsFor b w → v.farm ≡ w.farm → v.found ≡ w.found → v.flights ≡ w.flights → v.flushes ≡ w.flushes → v.log ≡ w.log → BehindStandsFor b v
behind-same b w v tied farm found flights flushes log = record {
  core_is = rw (found, log) tied.core_is;
  farm_is = farm ∙ tied.farm_is;
  flying_is = tied.flying_is ∙ sym flights;
  rising = rw log tied.rising;
  flights_are = rw farm tied.flights_are;
  flushing_is = tied.flushing_is ∙ sym flushes;
  flushes_are = tied.flushes_are;
  flushes_rise = rw log tied.flushes_rise;
}

-- the count of faults is told by the calls, not by the state
pub behind-counted : (cache : CacheParts) (files : Option Files) (before after : ℕ) (w : RunState) → BehindStandsFor (behind cache files before) w → BehindStandsFor (behind cache files after) w
behind-counted cache files before after w tied = record {
  core_is = tied.core_is;
  farm_is = tied.farm_is;
  flying_is = tied.flying_is;
  rising = tied.rising;
  flights_are = tied.flights_are;
  flushing_is = tied.flushing_is;
  flushes_are = tied.flushes_are;
  flushes_rise = tied.flushes_rise;
}

pub meets : (b : BoardAt) (w : RunState) (c : ℕ) (k : KeptConnection) → BoardStandsFor b w → get nat_cmp b.board.open_connections c ≡ Some k → OpenStandsFor w c k (behind_board b)
meets b w c k tied here =
    let opened = tied-some _ _ k (tied.open_connections.each c) here in
    record { connection = opened.connection; open_is = opened.open_is; holds = opened.holds; behind_is = tied.behind_is; slicing_is = tied.slicing_is }

-- the connection is the new one in both, and the others are as before
pub open_connections-after : (old new : BTreeMap ℕ KeptConnection) (w v : RunState) (c : ℕ) (k : KeptConnection) (m : Connection) → ConnectionsStandFor old w → get nat_cmp new c ≡ Some k → ((q : ℕ) → q ≢ c → get nat_cmp new q ≡ get nat_cmp old q)
    → btree_map_len new ≡ btree_map_len old → v.connection c ≡ Some m → ConnectionStandsFor k m → Frame c w v → ConnectionsStandFor new v
open_connections-after old new w v c k m tied here others count is holds frame = record {
  each = λ q. ⊎_elim
      (λ at. rw (← at, here, is) holds)
      (λ apart. let other : q ≢ c = λ e. apart (sym e) in rw (others q other, frame.others q other) (tied.each q))
      (cases_eq c q);
  count = count ∙ tied.count ∙ sym frame.count;
}

-- the connection is gone in both
pub open_connections-without : (old new : BTreeMap ℕ KeptConnection) (w v : RunState) (c : ℕ) → ConnectionsStandFor old w → Updates nat_cmp old new c None → btree_map_len new + 1 ≡ btree_map_len old → v.connection c ≡ None
    → ((q : ℕ) → q ≢ c → v.connection q ≡ w.connection q) → v.connection_count + 1 ≡ w.connection_count → ConnectionsStandFor new v
open_connections-without old new w v c tied updates fewer none others count = record {
  each = λ q. ⊎_elim
      (λ at. rw (← at, updates.1, none) tt)
      (λ apart. let other : q ≢ c = λ e. apart (sym e) in rw (updates.2 q (at-other c q other), others q other) (tied.each q))
      (cases_eq c q);
  count = omega (arith, fewer, count, tied.count);
}

-- ---- a connection is given all that it is owed
all-allowed : (m : Conditions) → Allows m m
all-allowed m = record { disk_failed = λ is. is; out_of_memory = λ is. is }

given-frame : (under : Conditions) (w : RunState) (c : ℕ) (notes : List Note) (m : Connection) → w.slicing ≡ None → ((n : Conditions) → Allows under n → Serves n w c notes) → (state_after_notes w notes).connection c ≡ Some m → Frame c w (state_after_notes w notes)
given-frame under w c notes m quiet serves is = serves-frame under w c notes m (rw quiet tt) (serves under (all-allowed under)) is

open_connections-given : (b : BoardAt) (w : RunState) (c : ℕ) (k j : KeptConnection) (new : Behind) (open_connections : BTreeMap ℕ KeptConnection) (effect : Effect) (over : Bool) → BoardStandsFor b w → Some k ≡ get nat_cmp b.board.open_connections c
    → AllGiven effect over w c j (behind_board b) new → WritesThrough nat_cmp (nat_cmp c) b.board.open_connections j open_connections → ConnectionsStandFor open_connections (state_after_notes w effect.notes.items)
open_connections-given b w c k j new open_connections effect over tied here all writes =
    let given = all.given in
    let updates = writes.3 (some-there _ k (sym here)) in
    let frame = given-frame effect.conditions w c effect.notes.items given.meets.connection tied.slicing_is given.serves given.meets.open_is in
    open_connections-after b.board.open_connections open_connections w (state_after_notes w effect.notes.items) c j given.meets.connection tied.open_connections updates.1 (λ q other. updates.2 q (at-other c q other)) writes.2 given.meets.open_is given.meets.holds frame

pub settled-quiet : (b : BoardAt) (w : RunState) (c : ℕ) (k j : KeptConnection) (cache : CacheParts) (files : Option Files) (faults : ℕ) (open_connections : BTreeMap ℕ KeptConnection) (effect : Effect) (over : Bool) → BoardStandsFor b w → Some k ≡ get nat_cmp b.board.open_connections c
    → ((u : RunState) → OpenStandsFor u c k (behind_board b) → AllGiven effect over u c j (behind_board b) (behind cache files faults)) → over ≡ false → WritesThrough nat_cmp (nat_cmp c) b.board.open_connections j open_connections
    → SettlesIn effect.conditions w c effect.notes.items b.faults faults × BoardStandsFor (at_disk (record { open_connections = open_connections; cache = cache }) files faults) (state_after_notes w effect.notes.items)
settled-quiet b w c k j cache files faults open_connections effect over tied here serves stays writes =
    let all = subst (λ o. AllGiven effect o w c j (behind_board b) (behind cache files faults)) stays (serves w (meets b w c k tied (sym here))) in (
      record { settles = λ m allows. record { serves = all.given.serves m allows; idle = all.then_due; sliced = all.given.meets.slicing_is }; cause = all.given.cause },
      record { open_connections = open_connections-given b w c k j (behind cache files faults) open_connections effect false tied here all writes; behind_is = all.given.meets.behind_is; slicing_is = all.given.meets.slicing_is },
    )

some-one : (o : Option KeptConnection) (j : KeptConnection) (n : ℕ) → o ≡ Some j → n + (if is_some o then 1 else 0) ≡ n + 1
some-one None j n e = absurd (let no : ⊥ = cc in no)
some-one (Some k) j n e = refl

pub none-one : (o : Option KeptConnection) (n : ℕ) → o ≡ None → n + (if is_some o then 0 else 1) ≡ n + 1
none-one None n e = refl
none-one (Some k) n e = absurd (let no : ⊥ = cc in no)

pub one-fewer : (o : Option KeptConnection) (k : KeptConnection) (m n : ℕ) → o ≡ Some k → n + (if is_some o then 1 else 0) ≡ m → n + 1 ≡ m
one-fewer o k m n some len = sym (some-one o k n some) ∙ len

-- the end of a connection is owed, and given
pub settled-over : (b : BoardAt) (w : RunState) (c : ℕ) (k j : KeptConnection) (cache : CacheParts) (files : Option Files) (faults : ℕ) (open_connections left : BTreeMap ℕ KeptConnection) (effect all : Effect) (over : Bool) → BoardStandsFor b w → Some k ≡ get nat_cmp b.board.open_connections c
    → ((u : RunState) → OpenStandsFor u c k (behind_board b) → AllGiven effect over u c j (behind_board b) (behind cache files faults)) → over ≡ true → WritesThrough nat_cmp (nat_cmp c) b.board.open_connections j open_connections
    → Updates nat_cmp open_connections left c None → (o : Option KeptConnection) → o ≡ get nat_cmp open_connections c → btree_map_len left + (if is_some o then 1 else 0) ≡ btree_map_len open_connections
    → all.notes.items ≡ effect.notes.items ++ Shut c ∷ [] → all.conditions ≡ under_both effect.conditions under_nothing
    → SettlesIn all.conditions w c all.notes.items b.faults faults × BoardStandsFor (at_disk (record { open_connections = left; cache = cache }) files faults) (state_after_notes w all.notes.items)
settled-over b w c k j cache files faults open_connections left effect all over tied here serves ends writes updates o was len notes conditions =
    let given = subst (λ x. AllGiven effect x w c j (behind_board b) (behind cache files faults)) ends (serves w (meets b w c k tied (sym here))) in
    let v = state_after_notes w effect.notes.items in
    let mid = open_connections-given b w c k j (behind cache files faults) open_connections effect true tied here given writes in
    let there = some-there _ k (sym here) in
    let some : o ≡ Some j = was ∙ (writes.3 there).1 in
    let fewer : btree_map_len left + 1 ≡ btree_map_len open_connections = one-fewer o j _ _ some len in
    let end : state_after_notes w all.notes.items ≡ state_after_note v (Shut c) = ap (state_after_notes w) notes ∙ afters-push w effect.notes.items (Shut c) in
    let size : v.connection_count ≡ btree_map_len open_connections = sym mid.count in
    let quiet : v.slicing ≡ None = given.given.meets.slicing_is in
    let gives : (m : Conditions) → GivesNext m v c v.slicing (Shut c) = λ m. subst (λ s. GivesNext m v c s (Shut c)) (sym quiet) (subst (λ d. GivesDue m v c d (Shut c)) (sym given.then_due) refl) in (
      rw (notes, conditions) (record {
        settles = λ m allows. record {
          serves = serves-push m w c effect.notes.items (Shut c) (given.given.serves m (allows-left effect.conditions under_nothing m allows)) (gives m);
          idle = ap (λ u. due_of_connection u c) (afters-push w effect.notes.items (Shut c)) ∙ rw (update_here v.connection c None) refl;
          sliced = ap (λ (u : RunState). u.slicing) (afters-push w effect.notes.items (Shut c)) ∙ quiet;
        };
        cause = cause-push b.faults faults faults effect.conditions under_nothing w effect.notes.items (Shut c) given.given.cause (record { disk = refl; spoils = λ is. absurd is; shows = λ is. absurd (let no : ⊥ = cc in no) });
      }),
      subst (BoardStandsFor (at_disk (record { open_connections = left; cache = cache }) files faults)) (sym end) (record {
        open_connections = open_connections-without open_connections left v (state_after_note v (Shut c)) c mid updates fewer (update_here v.connection c None) (λ q other. update_apart v.connection c None q other) (omega (arith, fewer, size));
        behind_is = behind-same (behind cache files faults) v (state_after_note v (Shut c)) given.given.meets.behind_is refl refl refl refl refl;
        slicing_is = quiet;
      }),
    )

-- ---- something that a connection waited for has ended
pub ended-then : (b g : BoardAt) (h : BoardAt) (w : RunState) (ended : EndedAs) (before : ℕ) (effect all : Effect) → HasEnded b w ended before
    → ((q : ℕ) (o : Option Connection) (response : Option Response) → RepliesFor ended.reply response → EntryStandsFor (get nat_cmp b.board.open_connections q) o → EntryStandsFor (get nat_cmp g.board.open_connections q) (if nat_eq q ended.connection then option_map (with_end_if ended.awaited response) o else o))
    → btree_map_len g.board.open_connections ≡ btree_map_len b.board.open_connections → behind_board g ≡ behind_board b
    → ((u : RunState) → BoardStandsFor g u → SettlesIn effect.conditions u ended.connection effect.notes.items b.faults h.faults × BoardStandsFor h (state_after_notes u effect.notes.items)) → all.notes.items ≡ ended.note ∷ effect.notes.items → all.conditions ≡ under_both ended.conditions effect.conditions
    → FirstThen ended w all before h
ended-then b g h w ended before effect all has fill count same settled notes conditions =
    let ending = has.ending in
    let v = state_after_note w ended.note in
    let tied : BoardStandsFor g v = record {
      open_connections = record {
        each = λ q. rw (ending.connection_is q) (fill q (w.connection q) ending.response ending.replies (has.open_connections.each q));
        count = count ∙ has.open_connections.count ∙ sym ending.count_is;
      };
      behind_is = subst (λ x. BehindStandsFor x v) (sym same) ending.behind_is;
      slicing_is = ending.slicing_is;
    } in
    let done = settled v tied in
    record {
      rest = effect.notes.items;
      begins = notes;
      settles = λ m allows. done.0.settles m (allows-right ended.conditions effect.conditions m (subst (λ x. Allows x m) conditions allows));
      first = subst (Allows ended.conditions) (sym conditions) (allows-left ended.conditions effect.conditions (under_both ended.conditions effect.conditions) (all-allowed (under_both ended.conditions effect.conditions)));
      cause = rw (notes, conditions) (cause-first before b.faults h.faults ended.conditions effect.conditions w ended.note effect.notes.items ending.cause done.0.cause);
      board_is = rw notes done.1;
    }
