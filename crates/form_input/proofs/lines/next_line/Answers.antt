use Rattle.std.proofs.Common.{◌+◌, arith, length, List, ℕ}
use Rattle.std.proofs.lemmas.List.{take_rest}
use Rattle.memchr.specs.Find.{OccursAt, NoneBefore}
use Rattle.form_input.proofs.LineLemmas.{line_end, lines_alone, Cut, cut_at}
use Rattle.form_input.proofs.lines.next_line.Goals as goal

found : (k : ℕ) (t : List ℕ) → NoneBefore (OccursAt t line_end) 0 (length t + 1) k × OccursAt t line_end k → Cut k t
found k t h = cut_at k t h.1 (λ m low o. h.0.before m (omega arith) low o)

pub returns-in-Some-clause-lines : goal.returns-in-Some-clause-lines
returns-in-Some-clause-lines c = rw take_rest (found c.in-Some.at c.args.text.now c.in-Some.ensures).split

pub returns-in-Some-clause-alone : goal.returns-in-Some-clause-alone
returns-in-Some-clause-alone c = (found c.in-Some.at c.args.text.now c.in-Some.ensures).alone

pub returns-in-Some-clause-ended : goal.returns-in-Some-clause-ended
returns-in-Some-clause-ended c = rw take_rest (found c.in-Some.at c.args.text.now c.in-Some.ensures).parts

pub returns-in-None-clause-lines : goal.returns-in-None-clause-lines
returns-in-None-clause-lines c = lines_alone c.args.text.now (λ k o. let f = o.fits in c.in-None.ensures k (omega arith) (omega (arith, f)) o)

pub returns-in-None-clause-alone : goal.returns-in-None-clause-alone
returns-in-None-clause-alone c = lines_alone c.args.text.now (λ k o. let f = o.fits in c.in-None.ensures k (omega arith) (omega (arith, f)) o)
