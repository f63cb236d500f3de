-- The log of a world, and which connections are open after it.
use Rattle.std.proofs.Common.{◌≡◌, ◌++◌, false, List, [], ◌∷◌, Option, Some, None, ap, refl, append_assoc}
use Rattle.std.proofs.lemmas.List.{append-nil}
use Rattle.connections.specs.Ids.{ConnectionId}
use Rattle.outside_world.specs.Worlds.{is_connected, open_after, told_more}
use Rattle.outside_world.specs.declared.world.WorldEntry.{WorldEntry}
use Rattle.outside_world.proofs.Opened.{open_after_append}

-- a connection after one entry more
pub open_more : (log : List WorldEntry) (c : ConnectionId) (e : WorldEntry) → is_connected (log ++ e ∷ []) c ≡ open_after c (is_connected log c) e
open_more log c e = open_after_append c false log (e ∷ [])

pub told_nothing : (told : Option (List WorldEntry)) → told_more told [] ≡ told
told_nothing None = refl
told_nothing (Some log) = ap Some (append-nil log)

pub told_twice : (told : Option (List WorldEntry)) (one two : List WorldEntry) → told_more (told_more told one) two ≡ told_more told (one ++ two)
told_twice None one two = refl
told_twice (Some log) one two = ap Some (append_assoc log one two)
