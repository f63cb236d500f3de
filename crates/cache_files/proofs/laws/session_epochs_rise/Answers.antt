use Rattle.std.proofs.Common.{◌≡◌, ◌<◌, ℕ, false, refl, ◌∙◌, ap, arith, nat_eq}
use Rattle.std.proofs.lemmas.Bool.Decides.{nat_tests}
use Rattle.docroot_format.specs.Names.{epoch_name}
use Rattle.docroot_format.specs.Texts.{epoch_text}
use Rattle.cache_files.specs.Epochs.{after_epoch, epoch_after, greatest_epoch}
use Rattle.cache_files.proofs.NextEpochs.{above}
use Rattle.cache_files.proofs.laws.session_epochs_rise.Goals as goal

not_last : (epoch : ℕ) → epoch < greatest_epoch → nat_eq epoch greatest_epoch ≡ false
not_last epoch short = grind (arith, nat_tests)

pub returns-clause-next : goal.returns-clause-next
returns-clause-next c = λ files epoch some short.
    ap epoch_after (c.files_have_names.ensures.written files epoch_name (epoch_text epoch))
    ∙ ap after_epoch (c.texts_are_read_back.ensures.epoch epoch some (omega (arith, short)))
    ∙ rw (not_last epoch short) refl

pub returns-clause-above : goal.returns-clause-above
returns-clause-above c = above
