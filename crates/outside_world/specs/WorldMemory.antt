-- The state of a world in memory, and what each call does to it.
use Rattle.std.specs.Prelude.{◌≡◌, ◌++◌, ℕ, Bool, true, false, List, [], ◌∷◌, Result, Ok, Err, drop}
use Rattle.sp_outside.specs.Causes.{next}
use Rattle.connection_ids.specs.Ids.{ConnectionId}
use Rattle.outside_world.specs.Worlds.{send_entries, shut_entries}
use Rattle.outside_world.specs.declared.world.Happening.{Happening}
use Rattle.outside_world.specs.declared.world.Happening.TheVariants.{Quiet}
use Rattle.outside_world.specs.declared.world.WorldEntry.{WorldEntry}
use Rattle.outside_world.specs.declared.world.WorldEntry.TheVariants.{Came}
use Rattle.outside_world.specs.declared.world.WorldFault.{WorldFault}
use Rattle.outside_world.specs.declared.world.WorldFault.TheVariants.{Failed as next_failed, NoMemory as next_memory}
use Rattle.outside_world.specs.declared.world.SendFault.{SendFault}
use Rattle.outside_world.specs.declared.world.SendFault.TheVariants.{Failed as send_failed, NoMemory as send_memory}

-- A world in memory: what is to come, its log, and of `next` and of the sendings the numbers of the calls that fail, and how many calls
-- were made and have failed.
pub record WorldState : Type 0 where
  pub coming : List Happening
  pub log : List WorldEntry
  pub next_fails : List ℕ
  pub next_calls : ℕ
  pub next_failed : ℕ
  pub send_fails : List ℕ
  pub send_calls : ℕ
  pub send_failed : ℕ

-- what comes next: Quiet where nothing is to come
abbrev pub first_coming : List Happening → Happening
first_coming [] = Quiet
first_coming (happening ∷ later) = happening

-- `next` failed, and not because memory ran out
abbrev pub has_next_failed : {T : Type 0} → Result T WorldFault → Bool
has_next_failed (Ok _) = false
has_next_failed (Err next_failed) = true
has_next_failed (Err next_memory) = false

-- a sending fails exactly where it is listed, but that memory may run out before it has failed or passed
abbrev pub IsSendListed : {T : Type 0} → Bool → Result T SendFault → Type 0
IsSendListed listed (Ok _) = listed ≡ false
IsSendListed listed (Err send_failed) = listed ≡ true
IsSendListed listed (Err send_memory) = Unit {0}

-- what comes is no longer to come and is told; a call that fails changes the counts alone
abbrev pub next_after : WorldState → Result Happening WorldFault → WorldState
next_after s (Ok happening) = record s { coming = drop 1 s.coming; log = s.log ++ Came happening ∷ []; next_calls = next s.next_calls }
next_after s (Err next_failed) = record s { next_calls = next s.next_calls; next_failed = next s.next_failed }
next_after s (Err next_memory) = record s { next_calls = next s.next_calls }

-- a sending is told, and so is that it failed
abbrev pub send_after : WorldState → ConnectionId → List ℕ → Result Unit SendFault → WorldState
send_after s c bytes (Ok done) = record s { log = s.log ++ send_entries c bytes (Ok done); send_calls = next s.send_calls }
send_after s c bytes (Err send_failed) = record s { log = s.log ++ send_entries c bytes (Err send_failed); send_calls = next s.send_calls; send_failed = next s.send_failed }
send_after s c bytes (Err send_memory) = record s { send_calls = next s.send_calls }

-- a shutting is told where the connection was open
abbrev pub shut_after : WorldState → ConnectionId → WorldState
shut_after s c = record s { log = s.log ++ shut_entries s.log c }

-- a world in memory to which nothing has come yet
abbrev pub fresh_world : List Happening → List ℕ → List ℕ → WorldState
fresh_world happenings next_fails send_fails =
    record { coming = happenings; log = []; next_fails = next_fails; next_calls = 0; next_failed = 0; send_fails = send_fails; send_calls = 0; send_failed = 0 }
