use Rattle.std.proofs.Common.{◌≡◌, ◌∙◌, ap, refl, sym}
use Rattle.std.specs.Prelude.{slice_get}
use Rattle.sp_base.specs.Paths.{text_of}
use Rattle.url_maps.specs.Claims.{claimants}
use Rattle.url_maps.proofs.LeaderLemmas.{first_led, no_first}
use Rattle.url_maps.proofs.VanityLemmas.{is_vanity_pair, no_vanity_pair}
use Rattle.url_maps.proofs.index.MapIndex.vanity_path_of.Goals as goal

pub returns-in_default : goal.returns-in_default
returns-in_default c =
    let are : c.get.result.now ≡ claimants c.args.self.now.vanity_paths.rows c.args.prefix.now = c.get.ensures ∙ ap (λ i. claimants i.vanity_paths.rows c.args.prefix.now) c.self.view_is in
    no_vanity_pair c.args.tree.now c.args.self.now.vanity_paths.rows c.args.prefix.now c.requires.vanity_paths
    (no_first (claimants c.args.self.now.vanity_paths.rows c.args.prefix.now) (sym (c.in_default.ensures.value ∙ ap (λ l. slice_get l 0) are)))

pub returns : goal.returns
returns c =
    let are : c.get.result.now ≡ claimants c.args.self.now.vanity_paths.rows c.args.prefix.now = c.get.ensures ∙ ap (λ i. claimants i.vanity_paths.rows c.args.prefix.now) c.self.view_is in (
      refl,
      is_vanity_pair c.args.tree.now c.args.self.now.vanity_paths.rows c.args.prefix.now _ c.in-Some.first.now c.requires.vanity_paths (sym c.in_ok-is_free.ensures ∙ c.if-not-branch.false)
          (first_led c.a_path_and_its_text.ensures.read c.args.tree.now c.len.ensures.good.shape c.args.self.now.vanity_paths.rows c.args.prefix.now c.in-Some.first.now c.requires.vanity_paths c.requires.leaders
          (sym (c.in-Some.ensures.value ∙ ap (λ l. slice_get l 0) are))) (c.in_ok-text.ensures ∙ ap text_of c.in_ok-page.ensures) refl,
    )
