-- What comes from a world of clients, and what the world tells of.
use Rattle.std.specs.Prelude.{◌≡◌, ◌≤◌, ◌++◌, ◌==◌, ℕ, Bool, true, false, if◌then◌else◌, List, [], ◌∷◌, Option, Result, Ok, Err, IfSome, length, option_map}
use Rattle.std.specs.List.{list_any}
use Rattle.connection_ids.specs.Ids.{ConnectionId}
use Rattle.outside_world.specs.declared.world.Happening.{Happening}
use Rattle.outside_world.specs.declared.world.Happening.TheVariants.{Opened, Piece, Gone, Quiet}
use Rattle.outside_world.specs.declared.world.WorldEntry.{WorldEntry}
use Rattle.outside_world.specs.declared.world.WorldEntry.TheVariants.{Came, Sent, Unsent, Shut}
use Rattle.outside_world.specs.declared.world.SendFault.{SendFault}
use Rattle.outside_world.specs.declared.world.SendFault.TheVariants.{Failed, NoMemory}

-- whether a connection is open after what comes, where it was so or not before
abbrev pub open_after_news : ConnectionId → Bool → Happening → Bool
open_after_news c was (Opened d peer) = if d == c then true else was
open_after_news c was (Piece d bytes) = was
open_after_news c was (Gone d) = if d == c then false else was
open_after_news c was Quiet = was

-- the same after an entry of the log
abbrev pub open_after : ConnectionId → Bool → WorldEntry → Bool
open_after c was (Came happening) = open_after_news c was happening
open_after c was (Sent d bytes) = was
open_after c was (Unsent d) = was
open_after c was (Shut d) = if d == c then false else was

-- the same after several
abbrev pub open_after_all : ConnectionId → Bool → List WorldEntry → Bool
open_after_all c was [] = was
open_after_all c was (entry ∷ log) = open_after_all c (open_after c was entry) log

-- a connection is open after a log: it was opened, and has neither gone nor been shut since
abbrev pub is_connected : List WorldEntry → ConnectionId → Bool
is_connected log c = open_after_all c false log

-- whether an entry is the end of a connection
abbrev pub ends_connection : ConnectionId → WorldEntry → Bool
ends_connection c (Came (Gone d)) = d == c
ends_connection c (Shut d) = d == c
ends_connection c _ = false

-- An opening of a connection stands in the log, and no end of it after that.
pub record HasOpening (log : List WorldEntry) (c : ConnectionId) : Type 0 where
  pub before : List WorldEntry
  pub peer : List ℕ
  pub later : List WorldEntry
  pub is : log ≡ before ++ Came (Opened c peer) ∷ later
  pub endless : list_any (ends_connection c) later ≡ false

-- the most bytes of a piece
abbrev pub longest_piece : ℕ
longest_piece = 65536

-- a piece has at least one byte, and not too many
abbrev pub HasSize : Happening → Type 0
HasSize (Piece c bytes) = (1 ≤ length bytes) × (length bytes ≤ longest_piece)
HasSize _ = Unit {0}

-- a connection that opens after a log has a number that none has which is open
abbrev pub HasFreeNumber : List WorldEntry → Happening → Type 0
HasFreeNumber log (Opened c peer) = is_connected log c ≡ false
HasFreeNumber log _ = Unit {0}

-- What may come: sizes hold of each world, and numbers of one that tells its log.
pub record IsNewsTo (told : Option (List WorldEntry)) (happening : Happening) : Type 0 where
  pub size : HasSize happening
  pub number : IfSome told (λ log. HasFreeNumber log happening)

-- the log with more entries, where the world tells it
abbrev pub told_more : Option (List WorldEntry) → List WorldEntry → Option (List WorldEntry)
told_more told entries = option_map (λ log. log ++ entries) told

-- the log after what came
abbrev pub told_came : Option (List WorldEntry) → Happening → Option (List WorldEntry)
told_came told happening = told_more told (Came happening ∷ [])

-- what a sending adds to the log; where memory ran out it adds nothing
abbrev pub send_entries : ConnectionId → List ℕ → Result Unit SendFault → List WorldEntry
send_entries c bytes (Ok done) = Sent c bytes ∷ []
send_entries c bytes (Err Failed) = Unsent c ∷ []
send_entries c bytes (Err NoMemory) = []

-- the log after a sending
abbrev pub told_after_send : Option (List WorldEntry) → ConnectionId → List ℕ → Result Unit SendFault → Option (List WorldEntry)
told_after_send told c bytes result = told_more told (send_entries c bytes result)

-- what a shutting adds to a log: nothing where the connection isn't open
abbrev pub shut_entries : List WorldEntry → ConnectionId → List WorldEntry
shut_entries log c = if is_connected log c then Shut c ∷ [] else []

-- the log after a shutting, where the world tells it
abbrev pub told_shut : Option (List WorldEntry) → ConnectionId → Option (List WorldEntry)
told_shut told c = option_map (λ log. log ++ shut_entries log c) told

-- a log that grows by the one and then by the other grows by both
abbrev pub GrowsByBoth : Option (List WorldEntry) → List WorldEntry → List WorldEntry → Type 0
GrowsByBoth told entries later = told_more (told_more told entries) later ≡ told_more told (entries ++ later)
