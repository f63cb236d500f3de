-- The number of the next session is one more than the one that is held, and fits in 64 bits.
use Rattle.std.proofs.Common.{◌≡◌, ◌+◌, ℕ, Bool, true, false, cond, List, Option, Some, None, Ok, Err, nat_eq}
use Rattle.std.specs.Prelude.{unwrap_or, option_and_then}
use Rattle.sp_outside.specs.Files.{Files, file_at}
use Rattle.docroot_format.specs.Names.{epoch_name}
use Rattle.docroot_format.specs.Readings.{epoch_of}
use Rattle.cache_files.specs.Epochs.{after_epoch, epoch_after, epoch_held, greatest_epoch, next_epoch}
use Rattle.cache_files.specs.declared.epoch.OpenFault.TheVariants.{EpochEnd}

value : (b : Bool) (held epoch : ℕ) → cond b (Err EpochEnd) (Ok (held + 1)) ≡ Ok epoch → epoch ≡ held + 1
value true held epoch e = absurd cc
value false held epoch e = cc

after_more : (read : Option ℕ) (epoch : ℕ) → after_epoch read ≡ Ok epoch → epoch ≡ unwrap_or read 0 + 1
after_more None epoch e = absurd cc
after_more (Some held) epoch e = value (nat_eq held greatest_epoch) held epoch e

more_than : (found : Option (List ℕ)) (epoch : ℕ) → epoch_after found ≡ Ok epoch → epoch ≡ unwrap_or (option_and_then epoch_of found) 0 + 1
more_than None epoch e = cc
more_than (Some bytes) epoch e = after_more (epoch_of bytes) epoch e

pub next_more : (files : Files) (epoch : ℕ) → next_epoch files ≡ Ok epoch → epoch ≡ epoch_held files + 1
next_more files epoch e = more_than (file_at files epoch_name) epoch e
