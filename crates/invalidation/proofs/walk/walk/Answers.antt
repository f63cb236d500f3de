use Rattle.std.proofs.Common.{◌≡◌, ◌<◌, ◌+◌, ◌-◌, ⊎_elim, ◌∙◌, arith, subst}
use Rattle.invalidation.specs.Walks.{Walked}
use Rattle.invalidation.proofs.Chains.{told_then}
use Rattle.invalidation.proofs.Passing.{walked_then}
use Rattle.invalidation.proofs.walk.walk.Goals as goal

pub loop-place-preserved : goal.loop-place-preserved
loop-place-preserved g c =
    let prefixes = c.args.prefixes.now in
    let start = c.args.place.now in
    let here = c.loop-place.place in
    let next = c.look_at.new.place in
    let left = c.loop-place.left in
    let seen = c.in_ok-seen.seen in
    let few : seen < left = ⊎_elim (λ less. less.0) (λ full. omega (arith, full.0, c.if-seen-left.false)) c.in_ok-seen.ensures.next in
    let sum : 64 - left + seen ≡ 64 - (left - seen) = omega (arith, few, c.loop-place.invariant.most) in
    record {
      walked = told_then (Walked prefixes start here (64 - left)) (Walked prefixes here next seen) (Walked prefixes start next (64 - (left - seen))) (g.D.Disk.files c.args.disk.now) (g.D.Disk.files c.loop-place.disk) (g.D.Disk.files c.look_at.new.disk)
          (λ a b d one two. subst (λ n. Walked prefixes start next n a d) sum (walked_then prefixes start here next (64 - left) seen a b d one two)) c.loop-place.invariant.walked c.in_ok-seen.ensures.walked;
      some = omega (arith, few);
      most = omega (arith, c.loop-place.invariant.most);
      faults = c.in_ok-seen.ensures.cause ∙ c.loop-place.invariant.faults;
      calls = c.docroot_calls_add_up.ensures.more (g.D.Disk.calls c.args.disk.now) (g.D.Disk.calls c.loop-place.disk) (g.D.Disk.calls c.look_at.new.disk) c.loop-place.invariant.calls c.in_ok-seen.ensures.calls;
    }

pub returns-in_err-seen-clause-calls : goal.returns-in_err-seen-clause-calls
returns-in_err-seen-clause-calls g c =
    c.docroot_calls_add_up.ensures.more (g.D.Disk.calls c.args.disk.now) (g.D.Disk.calls c.loop-place.disk) (g.D.Disk.calls c.look_at.new.disk) c.loop-place.invariant.calls c.look_at.ensures.calls

pub returns-then-seen-left-clause-calls : goal.returns-then-seen-left-clause-calls
returns-then-seen-left-clause-calls g c =
    c.docroot_calls_add_up.ensures.more (g.D.Disk.calls c.args.disk.now) (g.D.Disk.calls c.loop-place.disk) (g.D.Disk.calls c.look_at.new.disk) c.loop-place.invariant.calls c.look_at.ensures.calls
