use Rattle.std.proofs.Common.{◌∙◌, sym, ap, arith}
use Rattle.regex_rules.specs.declared.takers.Takers.{Takers}
use Rattle.regex_rules.specs.Linkings.{stood, nothing_taken}
use Rattle.regex_rules.proofs.LinkLemmas.{stood_on, stood_over}
use Rattle.regex_rules.proofs.takers.takers_of.Goals as goal

pub returns : goal.returns
returns c = ap (λ (s : Takers). s.set) (sym (stood_over c.args.c c.args.places.now c.loop-at.at c.loop-at.found (omega arith)) ∙ c.loop-at.invariant)

pub loop-at-preserved : goal.loop-at-preserved
loop-at-preserved c =
    stood_on c.args.c c.args.places.now c.loop-at.at c.index-places-at.result c.loop-at.found c.pass-found.result (stood c.args.c c.args.places.now nothing_taken) c.loop-at-test.true c.index-places-at.is c.pass-found.ensures c.loop-at.invariant
