use Rattle.std.proofs.Common.{◌∙◌, sym}
use Rattle.cover_rules.proofs.PageLemmas.{root_lacks, unmangled_lacks}
use Rattle.cover_rules.proofs.page.found_key.Goals as goal

pub returns-then-depth-eq0 : goal.returns-then-depth-eq0
returns-then-depth-eq0 c = sym (root_lacks c.args.path.now (sym c.depth.ensures.depth ∙ c.if-depth-eq0.true))

pub returns-in_default : goal.returns-in_default
returns-in_default c =
    sym (unmangled_lacks c.args.path.now c.in-Err.fault (c.mangling_and_unmangling.ensures.fits c.args.path.now c.depth.ensures.valid) (c.in-Err.ensures.err c.in_default.not-NoMemory))
