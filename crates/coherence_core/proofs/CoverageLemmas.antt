-- What the core takes of coverage, from the laws of the layers below.
use Rattle.std.proofs.Common.{◌≡◌, ◌↔◌, ◌&&◌, ℕ, Bool, true, false, not, IsTrue, Contains, inl, inr, refl, ap, ◌∙◌, ⊎_elim}
use Rattle.std.specs.List.{AllByRecursion, list_all}
use Rattle.std.proofs.lemmas.Bool.{or_cases, or_left, or_right}
use Rattle.sp_base.specs.Bytes.{AreBytes}
use Rattle.sp_base.specs.Paths.{is_path, is_under, parent_of}
use Rattle.any_config.specs.declared.farm.Farm.{Farm}
use Rattle.cover_rules.specs.Pages.{IsPageKey, is_folder_segment}
use Rattle.cover_rules.specs.declared.page.PageKey.{PageKey}
use Rattle.cover_rules.specs.declared.invalidation.Invalidation.{Invalidation}
use Rattle.cover_rules.specs.Coverage.{deletes, handle_of, outdates, stat_folder, touched_of}
use Rattle.dispatch_rules.specs.Caching.{is_auto}
use Rattle.docroot_format.specs.Names.{IsFolder}
use Rattle.coherence_core.specs.Facts.{CoverageFacts}

-- a page is outdated where .stat files outdate it, and this one does
outdates_parts : (level : ℕ) (auto : Bool) (inv : Invalidation) (key : PageKey) → outdates level auto inv key ≡ true → (auto ≡ true) × (outdates level true inv key ≡ true)
outdates_parts level true inv key is = (refl, is)
outdates_parts level false inv key is = absurd (none inv.only is)
  where
    none : (b : Bool) → (not b && (false && is_under (parent_of (handle_of inv)) (stat_folder level key))) ≡ true → ⊥
    none true h = cc h
    none false h = cc h

pub facts_of : (farm : Farm)
    → ((level : ℕ) (inv : Invalidation) (key : PageKey) → IsTrue (list_all is_folder_segment key.folder) → (outdates level true inv key ≡ true) ↔ Contains (touched_of level inv) (stat_folder level key))
    → ((key : PageKey) → IsPageKey key → IsTrue (list_all is_folder_segment key.folder))
    → ((level : ℕ) (key : PageKey) → IsPageKey key → IsFolder (stat_folder level key))
    → ((level : ℕ) (key : PageKey) → IsPageKey key → IsTrue (is_path (stat_folder level key)))
    → ((level : ℕ) (key : PageKey) → IsPageKey key → AllByRecursion AreBytes (stat_folder level key))
    → CoverageFacts farm
facts_of farm law segments folders paths bytes = record {
  deleted = λ inv key is. or_left (deletes inv key) (outdates farm.level (is_auto farm key) inv key) is;
  touched = λ inv key page auto there.
      let out : outdates farm.level true inv key ≡ true = (law farm.level inv key (segments key page)).1 there in
      or_right (deletes inv key) (outdates farm.level (is_auto farm key) inv key) (ap (λ (b : Bool). outdates farm.level b inv key) auto ∙ out);
  either = λ inv key page cov. ⊎_elim
      (λ (h : deletes inv key ≡ true). inl h)
      (λ (h : outdates farm.level (is_auto farm key) inv key ≡ true).
      let parts = outdates_parts farm.level (is_auto farm key) inv key h in
      inr (parts.0, (law farm.level inv key (segments key page)).0 parts.1))
      (or_cases (deletes inv key) (outdates farm.level (is_auto farm key) inv key) cov);
  folder = λ key page. record { path = paths farm.level key page; docroot = folders farm.level key page; bytes = bytes farm.level key page };
}
