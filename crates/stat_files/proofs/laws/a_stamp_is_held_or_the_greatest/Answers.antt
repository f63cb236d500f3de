use Rattle.std.proofs.Common.{◌≡◌, ◌⊎◌, inl, inr, ℕ, List, Option, Some, None, refl, sym, ap, option_map}
use Rattle.std.proofs.lemmas.Option.{same_Some}
use Rattle.std.specs.Prelude.{option_and_then}
use Rattle.sp_outside.specs.Files.{file_at}
use Rattle.cover_rules.specs.declared.stamp.Stamp.{Stamp}
use Rattle.docroot_format.specs.Names.{stat_name}
use Rattle.docroot_format.specs.Readings.{stat_of}
use Rattle.stat_files.specs.Stamps.{greatest_stamp, stamp_in, stamp_or_greatest}
use Rattle.stat_files.proofs.laws.a_stamp_is_held_or_the_greatest.Goals as goal

-- by what the file reads as
by_reading : (read : Option Stamp) (stamp : Stamp) → stamp_or_greatest read ≡ stamp → (read ≡ Some stamp) ⊎ ((read ≡ None) × (stamp ≡ greatest_stamp))
by_reading None stamp e = inr (refl, sym e)
by_reading (Some held) stamp e = inl (ap Some e)

by_file : (found : Option (List ℕ)) (stamp : Stamp) → option_map stamp_in found ≡ Some stamp
    → (option_and_then stat_of found ≡ Some stamp) ⊎ ((option_and_then stat_of found ≡ None) × (stamp ≡ greatest_stamp))
by_file None stamp e = absurd cc
by_file (Some bytes) stamp e = by_reading (stat_of bytes) stamp (same_Some (stamp_in bytes) stamp e)

pub returns : goal.returns
returns c = λ files folder stamp e. by_file (file_at files (stat_name folder)) stamp e
