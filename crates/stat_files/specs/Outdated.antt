-- Which pages .stat files outdate (Adobe Dispatcher manual, "Invalidating Files by Folder Level"). Where the manual compares the times of
-- files, stamps are compared: one is newer where its session is later, or the session is the same and its count is greater.
use Rattle.std.specs.Prelude.{◌==◌, ◌&&◌, ◌||◌, ℕ, Bool, false, not, nat_lt, Option, Some, None, true, ◌<◌, ◌^◌, ◌≡◌, ◌≢◌}
use Rattle.sp_outside.specs.Files.{Files, file_at}
use Rattle.cover_rules.specs.Coverage.{stat_folder}
use Rattle.cover_rules.specs.declared.page.PageKey.{PageKey}
use Rattle.cover_rules.specs.declared.stamp.Stamp.{Stamp}
use Rattle.cover_rules.specs.Pages.{IsPageKey}
use Rattle.stat_files.specs.Stamps.{stamp_at, files_with_stamp}
use Rattle.sp_base.specs.Texts.{Text, Segments}
use Rattle.sp_base.specs.Paths.{mangled_segs}
use Rattle.docroot_format.specs.Names.{HaveBytes, stat_name}
use Rattle.docroot_format.specs.Readings.{stat_of}

-- a stamp is older than another
abbrev pub is_older : Stamp → Stamp → Bool
is_older stamp other = nat_lt stamp.epoch other.epoch || (stamp.epoch == other.epoch && nat_lt stamp.count other.count)

-- the stamp of a page's .stat file, where there is one, outdates the page: it isn't older than the page's own
abbrev pub outdates_page : Option Stamp → Stamp → Bool
outdates_page None page = false
outdates_page (Some stat) page = not (is_older stat page)

-- A page with a stamp is outdated, where it is one that .stat files outdate at all (`auto`): its .stat file, which lies in its folder or
-- in the ancestor of that at the level, has a stamp that is newer or the same.
abbrev pub is_outdated : ℕ → Bool → Files → PageKey → Stamp → Bool
is_outdated level auto files key page = auto && outdates_page (stamp_at files (stat_folder level key)) page

-- a page is outdated where its .stat file is of another form
abbrev pub ForeignStatsOutdate : Type 0
ForeignStatsOutdate = (level : ℕ) (files : Files) (key : PageKey) (bytes : Text) (page : Stamp) → page.epoch < 2 ^ 64 → page.count < 2 ^ 64
    → file_at files (stat_name (stat_folder level key)) ≡ Some bytes → stat_of bytes ≡ None → is_outdated level true files key page ≡ true

-- it isn't where there is no such file
abbrev pub MissingStatsOutdateNothing : Type 0
MissingStatsOutdateNothing = (level : ℕ) (auto : Bool) (files : Files) (key : PageKey) (page : Stamp) → file_at files (stat_name (stat_folder level key)) ≡ None
    → is_outdated level auto files key page ≡ false

-- a touch of another folder doesn't change whether a page is outdated
abbrev pub TouchesElsewhereChangeNothing : Type 0
TouchesElsewhereChangeNothing = (level : ℕ) (auto : Bool) (files : Files) (key : PageKey) (folder : Segments) (stamp page : Stamp) → IsPageKey key → HaveBytes folder
    → mangled_segs folder ≢ mangled_segs (stat_folder level key)
    → is_outdated level auto (files_with_stamp files folder stamp) key page ≡ is_outdated level auto files key page

-- once the .stat file of a page has a stamp, the page is outdated unless that is older than the page's own
abbrev pub TouchesOutdateUnlessOlder : Type 0
TouchesOutdateUnlessOlder = (level : ℕ) (files : Files) (key : PageKey) (stamp page : Stamp) → stamp.epoch < 2 ^ 64 → stamp.count < 2 ^ 64
    → is_outdated level true (files_with_stamp files (stat_folder level key) stamp) key page ≡ not (is_older stamp page)
