-- The number of the next session is above the one that is held.
use Rattle.std.proofs.Common.{◌≡◌, ◌<◌, ◌≤◌, ◌+◌, ◌^◌, ℕ, Bool, true, false, cond, List, Option, Some, None, Ok, Err, refl, arith, nat_eq}
use Rattle.std.specs.Prelude.{unwrap_or, option_and_then}
use Rattle.std.proofs.lemmas.Bool.Decides.{nat_tests}
use Rattle.sp_outside.specs.Files.{Files, file_at}
use Rattle.docroot_format.specs.Names.{epoch_name}
use Rattle.docroot_format.specs.Readings.{epoch_of}
use Rattle.cache_files.specs.Epochs.{after_epoch, epoch_after, epoch_held, greatest_epoch, next_epoch}
use Rattle.cache_files.specs.declared.epoch.OpenFault.TheVariants.{EpochEnd}

value : (b : Bool) (held epoch : ℕ) → cond b (Err EpochEnd) (Ok (held + 1)) ≡ Ok epoch → held + 1 ≡ epoch
value true held epoch e = absurd cc
value false held epoch e = cc

after : (read : Option ℕ) (epoch before : ℕ) → after_epoch read ≡ Ok epoch → before ≤ unwrap_or read 0 → before < epoch
after None epoch before e small = absurd cc
after (Some held) epoch before e small = omega (arith, small, value (nat_eq held greatest_epoch) held epoch e)

above_held : (found : Option (List ℕ)) (epoch before : ℕ) → epoch_after found ≡ Ok epoch → before ≤ unwrap_or (option_and_then epoch_of found) 0 → before < epoch
above_held None epoch before e small =
    let one : 1 ≡ epoch = cc in
    omega (arith, one, small)
above_held (Some bytes) epoch before e small = after (epoch_of bytes) epoch before e small

pub above : (files : Files) (epoch before : ℕ) → next_epoch files ≡ Ok epoch → before ≤ epoch_held files → before < epoch
above files epoch before e small = above_held (file_at files epoch_name) epoch before e small

-- ---- and fits in 64 bits

pub epoch_is_not_the_last : (b : Bool) (held epoch : ℕ) → cond b (Err EpochEnd) (Ok (held + 1)) ≡ Ok epoch → b ≡ false
epoch_is_not_the_last true held epoch e = absurd cc
epoch_is_not_the_last false held epoch e = refl

pub before_last_epoch : (held : ℕ) → held < 2 ^ 64 → nat_eq held greatest_epoch ≡ false → held < greatest_epoch
before_last_epoch held small differ = grind (arith, nat_tests)

pub epoch_after_is_small : (read : Option ℕ) (epoch : ℕ) → ((held : ℕ) → read ≡ Some held → held < 2 ^ 64) → after_epoch read ≡ Ok epoch → epoch < 2 ^ 64
epoch_after_is_small None epoch small e = absurd cc
epoch_after_is_small (Some held) epoch small e =
    let less : held < greatest_epoch = before_last_epoch held (small held refl) (epoch_is_not_the_last (nat_eq held greatest_epoch) held epoch e) in
    omega (arith, less, value (nat_eq held greatest_epoch) held epoch e)

pub epoch_after_text_is_small : (found : Option (List ℕ)) (epoch : ℕ) → ((text : List ℕ) (held : ℕ) → epoch_of text ≡ Some held → (0 < held) × (held < 2 ^ 64)) → epoch_after found ≡ Ok epoch → epoch < 2 ^ 64
epoch_after_text_is_small None epoch fits e =
    let one : 1 ≡ epoch = cc in
    omega (arith, one)
epoch_after_text_is_small (Some bytes) epoch fits e = epoch_after_is_small (epoch_of bytes) epoch (λ held is. (fits bytes held is).1) e

pub next_epoch_is_small : (files : Files) (epoch : ℕ) → ((text : List ℕ) (held : ℕ) → epoch_of text ≡ Some held → (0 < held) × (held < 2 ^ 64)) → next_epoch files ≡ Ok epoch → epoch < 2 ^ 64
next_epoch_is_small files epoch fits e = epoch_after_text_is_small (file_at files epoch_name) epoch fits e
