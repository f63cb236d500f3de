-- What may be kept.
use Rattle.cover_rules.specs.declared.page.PageKey.{PageKey}
use Rattle.cover_rules.specs.declared.stamp.Stamp.{Stamp}

-- a page that may be kept, and when its flight was asked
pub record ClearPage : Type 0 where
  pub key : PageKey
  pub stamp : Stamp
