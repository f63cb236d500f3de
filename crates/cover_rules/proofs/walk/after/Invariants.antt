use Rattle.std.proofs.Common.{map}
use Rattle.sp_base.specs.Paths.{mangled_segs}
use Rattle.sp_base.specs.PathTexts.{spelling_of}
use Rattle.cover_rules.specs.Walk.{Leaves}
use Rattle.cover_rules.proofs.walk.after.Given as goal

abbrev pub invariant-loop-segment : goal.invariant-loop-segment
invariant-loop-segment l = Leaves l.key (spelling_of (mangled_segs (map (λ segment. segment.now) l.yielded))) l.rest
