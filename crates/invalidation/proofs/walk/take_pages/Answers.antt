use Rattle.std.proofs.Common.{◌≡◌, ◌+◌, None, sym, ◌∙◌, ap, get_or}
use Rattle.std.specs.Prelude.{IsTrue}
use Rattle.sp_outside.specs.Files.{file_at}
use Rattle.docroot_format.specs.Names.{is_page_file}
use Rattle.invalidation.specs.Walks.{IsThisPage, TakenTo, TakesFiles}
use Rattle.invalidation.proofs.Chains.{Relation, told_both, told_then}
use Rattle.invalidation.proofs.TakenFiles.{taken_more}
use Rattle.invalidation.proofs.walk.take_pages.Goals as goal

pub loop-name-preserved : goal.loop-name-preserved
loop-name-preserved g c =
    let names = c.args.names.now in
    let i = c.loop-name.name-index in
    let name = c.text.result.now in
    let start = g.D.Disk.files c.args.disk.now in
    let before = g.D.Disk.files c.loop-name.disk in
    let after = g.D.Disk.files c.take_page.new.disk in
    let step : Relation = λ a b. TakesFiles (IsThisPage name) 1 a b × (IsTrue (is_page_file name) → file_at b name ≡ None) in
    let one = told_both (TakesFiles (IsThisPage name) 1) (λ a b. IsTrue (is_page_file name) → file_at b name ≡ None) step before after (λ a b p q. (p, q)) c.in_ok-take_page.ensures.takes c.in_ok-take_page.ensures.gone in
    record {
      taken = told_then (TakenTo names i) step (TakenTo names (i + 1)) start before after (λ a b d. taken_more names i name c.loop-name-test.true (ap (get_or names i) c.text.ensures ∙ sym c.name-item.is ∙ sym c.text.ensures) a b d) c.loop-name.invariant.taken one;
      faults = c.in_ok-take_page.ensures.cause ∙ c.loop-name.invariant.faults;
      calls = c.docroot_calls_add_up.ensures.more (g.D.Disk.calls c.args.disk.now) (g.D.Disk.calls c.loop-name.disk) (g.D.Disk.calls c.take_page.new.disk) c.loop-name.invariant.calls c.in_ok-take_page.ensures.calls;
    }

pub returns-in_err-take_page-clause-calls : goal.returns-in_err-take_page-clause-calls
returns-in_err-take_page-clause-calls g c =
    c.docroot_calls_add_up.ensures.more (g.D.Disk.calls c.args.disk.now) (g.D.Disk.calls c.loop-name.disk) (g.D.Disk.calls c.take_page.new.disk) c.loop-name.invariant.calls c.take_page.ensures.calls

pub returns-clause-calls : goal.returns-clause-calls
returns-clause-calls g c = c.loop-name.invariant.calls
