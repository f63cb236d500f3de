use Rattle.std.proofs.Common.{Some, ◌∙◌}
use Rattle.docroot_changes.specs.Changes.{Told}
use Rattle.docroot_changes.proofs.MadeCalls.{makes_more}
use Rattle.front.specs.Clearings.{ClearsFiles, HasNoneBetween, is_of_cache}
use Rattle.front.proofs.ClearingLemmas.{ClearsUpTo, Relation, told-both, told-then, up-to-next}
use Rattle.front.proofs.clearing.clear.Goals as goal

pub returns-in_err-next-clause-calls : goal.returns-in_err-next-clause-calls
returns-in_err-next-clause-calls g c = makes_more _ _ _ c.loop-last.invariant.calls c.clear_next.ensures.calls

pub returns-clause-calls : goal.returns-clause-calls
returns-clause-calls g c = makes_more _ _ _ c.loop-last.invariant.calls c.clear_next.ensures.calls

pub loop-last-preserved : goal.loop-last-preserved
loop-last-preserved g c =
    let cache_file = c.args.cache_file in
    let last = c.loop-last.last in
    let next = c.in-Some.next in
    let start = g.D.Disk.files c.args.disk.now in
    let before = g.D.Disk.files c.loop-last.disk in
    let after = g.D.Disk.files c.clear_next.new.disk in
    let step : Relation = λ a b. ClearsFiles (is_of_cache cache_file) a b × HasNoneBetween cache_file last (Some next) b in
    let none : Told (λ a b. HasNoneBetween cache_file last (Some next) b) before after = rw c.in-Some.is at c.in_ok-next.ensures.none in
    let near = rw c.in-Some.is at c.in_ok-next.ensures.nearer in
    let one = told-both (ClearsFiles (is_of_cache cache_file)) (λ a b. HasNoneBetween cache_file last (Some next) b) step before after (λ a b p q. (p, q)) c.in_ok-next.ensures.left none in
    record {
      cleared = told-then (ClearsUpTo cache_file last) step (ClearsUpTo cache_file next) start before after (λ a b d. up-to-next cache_file last next a b d) c.loop-last.invariant.cleared one;
      fits = near.fits;
      faults = c.in_ok-next.ensures.cause ∙ c.loop-last.invariant.faults;
      calls = makes_more _ _ _ c.loop-last.invariant.calls c.clear_next.ensures.calls;
    }
