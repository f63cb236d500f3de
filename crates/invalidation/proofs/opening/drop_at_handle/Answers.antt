use Rattle.std.proofs.Common.{sym, ◌∙◌, subst}
use Rattle.std.specs.Prelude.{IfSome}
use Rattle.cover_rules.specs.Pages.{IsPageKey}
use Rattle.invalidation.proofs.HandlePages.{IsHandleKey, told_dropped, told_handle_gone}
use Rattle.invalidation.proofs.opening.drop_at_handle.Goals as goal

pub returns-in-Some-clause-takes : goal.returns-in-Some-clause-takes
returns-in-Some-clause-takes g c =
    let is : IsHandleKey c.args.inv.now c.in-Some.key = record {
      page = subst (λ o. IfSome o IsPageKey) c.in-Some.is c.in_ok-key.ensures.page;
      path = c.a_page_has_one_key.ensures.path c.args.inv.now.handle c.in-Some.key c.depth-depth.ensures.valid (sym c.in_ok-key.ensures.key ∙ c.in-Some.is);
    } in
    told_dropped c.args.inv.now c.in-Some.key is c.drop_page.result _ _ (g.D.Disk.files c.args.disk.now) (g.D.Disk.files c.drop_page.new.disk) c.drop_page.ensures.ok c.drop_page.ensures.err

pub returns-in-Some-clause-gone : goal.returns-in-Some-clause-gone
returns-in-Some-clause-gone g c =
    let is : IsHandleKey c.args.inv.now c.in-Some.key = record {
      page = subst (λ o. IfSome o IsPageKey) c.in-Some.is c.in_ok-key.ensures.page;
      path = c.a_page_has_one_key.ensures.path c.args.inv.now.handle c.in-Some.key c.depth-depth.ensures.valid (sym c.in_ok-key.ensures.key ∙ c.in-Some.is);
    } in
    told_handle_gone c.args.inv.now c.in-Some.key is c.drop_page.result (g.D.Disk.files c.args.disk.now) (g.D.Disk.files c.drop_page.new.disk) c.drop_page.ensures.ok
