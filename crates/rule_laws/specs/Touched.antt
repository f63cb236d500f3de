-- Which .stat files an invalidation touches, in the words of the rule (Adobe Dispatcher manual, "Invalidating Files by Folder Level").
use Rattle.std.specs.Prelude.{◌≡◌, ◌≤◌, ◌++◌, ℕ, false, true, length}
use Rattle.std.specs.List.{list_all}
use Rattle.sp_base.specs.Texts.{Segments}
use Rattle.sp_base.specs.Paths.{parent_of}
use Rattle.cover_rules.specs.Coverage.{handle_of}
use Rattle.cover_rules.specs.Pages.{is_folder_segment}
use Rattle.cover_rules.specs.declared.invalidation.Invalidation.{Invalidation}

-- A folder above the handle, the document root among them, that is no deeper than the level, and each of whose segments a page's folder may
-- have; of an invalidation that isn't for the handle alone.
pub record IsTouched (level : ℕ) (inv : Invalidation) (folder : Segments) : Type 0 where
  pub below : Segments
  pub wide : inv.only ≡ false
  pub above : parent_of (handle_of inv) ≡ folder ++ below
  pub shallow : length folder ≤ level
  pub has_pages : list_all is_folder_segment folder ≡ true
