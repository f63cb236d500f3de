-- What leaves .stat files as they are.
use Rattle.std.specs.Prelude.{Option, ◌≡◌, List}
use Rattle.sp_base.specs.declared.answer.Answer.{Answer}
use Rattle.sp_outside.specs.Calls.{Call}
use Rattle.sp_outside.specs.Files.{Files}
use Rattle.cover_rules.specs.Pages.{IsPageKey}
use Rattle.cover_rules.specs.declared.page.PageKey.{PageKey}
use Rattle.cover_rules.specs.declared.stamp.Stamp.{Stamp}
use Rattle.docroot_format.specs.declared.fault.FileFault.{FileFault}
use Rattle.cache_files.specs.Epochs.{IsOpenLeft}
use Rattle.cache_files.specs.Pages.{told_with_page, IsPutLeft}
use Rattle.cache_files.specs.declared.epoch.OpenFault.{OpenFault}
use Rattle.docroot_changes.specs.Changes.{Told}
use Rattle.coherence_core.specs.Holds.{KeepsStatFiles}

-- a put of a page that is done changes no .stat file
abbrev pub PutsKeepStatFiles : Type 0
PutsKeepStatFiles = (before after : Option Files) (key : PageKey) (stamp : Stamp) (answer : Answer) → IsPageKey key → after ≡ told_with_page before key stamp answer
    → Told KeepsStatFiles before after

-- one that fails changes none either
abbrev pub FailedPutsKeepStatFiles : Type 0
FailedPutsKeepStatFiles = (asked made : Option (List Call)) (before after : Option Files) (key : PageKey) (stamp : Stamp) (answer : Answer) (fault : FileFault) → IsPageKey key
    → IsPutLeft asked made before after key stamp answer fault → Told KeepsStatFiles before after

-- nor does an opening that fails
abbrev pub FailedOpeningsKeepStatFiles : Type 0
FailedOpeningsKeepStatFiles = (asked made : Option (List Call)) (before after : Option Files) (fault : OpenFault) → IsOpenLeft asked made before after fault
    → Told KeepsStatFiles before after
