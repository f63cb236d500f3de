-- What the files of the docroot answer (RFC 9111, section 4; Adobe Dispatcher manual, "Invalidating Files by Folder Level").
use Rattle.std.specs.Prelude.{◌≡◌, ◌&&◌, Bool, true, false, Option, Some, None, if◌then◌else◌}
use Rattle.sp_base.specs.Texts.{Segments}
use Rattle.sp_base.specs.declared.answer.Answer.{Answer}
use Rattle.any_config.specs.declared.farm.Farm.{Farm}
use Rattle.cover_rules.specs.declared.page.PageKey.{PageKey}
use Rattle.cover_rules.specs.declared.stamp.Stamp.{Stamp}
use Rattle.cover_rules.specs.Coverage.{stat_folder}
use Rattle.dispatch_rules.specs.Caching.{is_auto}
use Rattle.cache_files.specs.declared.page.Page.{Page}
use Rattle.stat_files.specs.Outdated.{is_older, outdates_page}

-- pages by their keys
abbrev pub Pages : Type 0
Pages = PageKey → Option Page

-- the stamps of .stat files by their folders
abbrev pub Stamps : Type 0
Stamps = Segments → Option Stamp

-- the answer of a page that its .stat file doesn't outdate
abbrev pub served : Bool → Option Stamp → Option Page → Option Answer
served auto stat None = None
served auto stat (Some page) = if auto && outdates_page stat page.stamp then None else Some page.answer

-- the stamp of the .stat file that is asked for a page
abbrev pub stat_for : Farm → Stamps → PageKey → Option Stamp
stat_for farm stat key = stat (stat_folder farm.level key)

-- the answer that the files give for a key: that of its page, where its .stat file doesn't outdate it
abbrev pub serves_page : Farm → Pages → Stamps → PageKey → Option Answer
serves_page farm page stat key = served (is_auto farm key) (stat_for farm stat key) (page key)

-- one stamp is before another
abbrev pub Before : Stamp → Stamp → Type 0
Before stamp other = is_older stamp other ≡ true

-- a page with this stamp is not outdated
abbrev pub IsFresh : Bool → Option Stamp → Stamp → Type 0
IsFresh auto stat page = (auto && outdates_page stat page) ≡ false
