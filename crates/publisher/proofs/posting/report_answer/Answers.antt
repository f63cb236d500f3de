use Rattle.publisher.proofs.ReportLemmas.{line_short}
use Rattle.publisher.proofs.posting.report_answer.Goals as goal

pub returns-clause-fits : goal.returns-clause-fits
returns-clause-fits c = rw c.in_ok-report_line.ensures (line_short c.args.report.now c.depth-segments.ensures.valid)
