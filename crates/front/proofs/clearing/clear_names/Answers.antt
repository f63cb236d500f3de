use Rattle.std.proofs.Common.{◌≡◌, ◌+◌, None, sym, ◌∙◌, ap, get_or}
use Rattle.std.specs.Prelude.{IsTrue}
use Rattle.sp_outside.specs.Files.{file_at}
use Rattle.docroot_changes.proofs.MadeCalls.{makes_more}
use Rattle.front.specs.Clearings.{ClearsFiles, is_of_cache}
use Rattle.front.proofs.ClearingLemmas.{ClearsTo, Relation, clears-to-more, told-both, told-then}
use Rattle.front.proofs.clearing.clear_names.Goals as goal

pub returns-in_err-clear_name-clause-calls : goal.returns-in_err-clear_name-clause-calls
returns-in_err-clear_name-clause-calls g c = makes_more _ _ _ c.loop-name.invariant.calls c.clear_name.ensures.calls

pub loop-name-preserved : goal.loop-name-preserved
loop-name-preserved g c =
    let cache_file = c.args.cache_file in
    let names = c.args.names.now in
    let i = c.loop-name.name-index in
    let name = c.text.result.now in
    let start = g.D.Disk.files c.args.disk.now in
    let before = g.D.Disk.files c.loop-name.disk in
    let after = g.D.Disk.files c.clear_name.new.disk in
    let step : Relation = λ a b. ClearsFiles (is_of_cache cache_file) a b × (IsTrue (is_of_cache cache_file name) → file_at b name ≡ None) in
    let one = told-both (ClearsFiles (is_of_cache cache_file)) (λ a b. IsTrue (is_of_cache cache_file name) → file_at b name ≡ None) step before after (λ a b p q. (p, q)) c.in_ok-clear_name.ensures.left c.in_ok-clear_name.ensures.gone in
    record {
      cleared = told-then (ClearsTo cache_file names i) step (ClearsTo cache_file names (i + 1)) start before after (λ a b d. clears-to-more cache_file names i name c.loop-name-test.true (ap (get_or names i) c.text.ensures ∙ sym c.name-item.is ∙ sym c.text.ensures) a b d) c.loop-name.invariant.cleared one;
      faults = c.in_ok-clear_name.ensures.cause ∙ c.loop-name.invariant.faults;
      calls = makes_more _ _ _ c.loop-name.invariant.calls c.clear_name.ensures.calls;
    }
