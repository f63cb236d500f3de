use Rattle.htl_syntax.proofs.Scan.{prefix_ascii}
use Rattle.htl_syntax.proofs.tokens.remainder.Goals as goal

pub tail-requires : goal.tail-requires
tail-requires c = prefix_ascii c.args.c c.args.text.now c.requires.ascii c.requires.there
