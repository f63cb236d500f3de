-- What the core takes of coverage (Adobe Dispatcher manual, "Invalidating Cached Pages From AEM").
use Rattle.std.specs.Prelude.{◌≡◌, ◌⊎◌, true, Contains}
use Rattle.any_config.specs.declared.farm.Farm.{Farm}
use Rattle.cover_rules.specs.Pages.{IsPageKey}
use Rattle.cover_rules.specs.declared.page.PageKey.{PageKey}
use Rattle.cover_rules.specs.declared.invalidation.Invalidation.{Invalidation}
use Rattle.cover_rules.specs.Coverage.{deletes, stat_folder, touched_of}
use Rattle.dispatch_rules.specs.Caching.{is_auto}
use Rattle.docroot_changes.specs.Changes.{IsStampFolder}
use Rattle.cache_log.specs.Hits.{Covers}

-- What is deleted is covered; a touched folder whose .stat file is asked for a page covers it, where .stat files outdate the page; and what is
-- covered is deleted, or its folder is touched. The folder of a page is one that may have a stamp.
pub record CoverageFacts (farm : Farm) : Type 0 where
  pub deleted : (inv : Invalidation) (key : PageKey) → deletes inv key ≡ true → Covers farm inv key
  pub touched : (inv : Invalidation) (key : PageKey) → IsPageKey key → is_auto farm key ≡ true → Contains (touched_of farm.level inv) (stat_folder farm.level key) → Covers farm inv key
  pub either : (inv : Invalidation) (key : PageKey) → IsPageKey key → Covers farm inv key → (deletes inv key ≡ true) ⊎ ((is_auto farm key ≡ true) × Contains (touched_of farm.level inv) (stat_folder farm.level key))
  pub folder : (key : PageKey) → IsPageKey key → IsStampFolder (stat_folder farm.level key)
