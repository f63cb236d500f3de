use Rattle.std.proofs.Common.{sym}
use Rattle.cover_rules.proofs.NameLemmas.{long_lacks}
use Rattle.cover_rules.proofs.names.has_name.Goals as goal

pub returns-then-seg-gt-LONGEST_PAGE_NAME : goal.returns-then-seg-gt-LONGEST_PAGE_NAME
returns-then-seg-gt-LONGEST_PAGE_NAME c = sym (long_lacks c.args.seg.now c.if-seg-gt-LONGEST_PAGE_NAME.true)
