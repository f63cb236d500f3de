use Rattle.std.proofs.Common.{sym}
use Rattle.publisher.proofs.FirstLemmas.{as_found}
use Rattle.publisher.proofs.first_scripts.first_script.Goals as goal

pub returns-in-Some-clause-script : goal.returns-in-Some-clause-script
returns-in-Some-clause-script c =
    as_found c.own_path.result _ _ (sym (c.requires.firsts c.number_of.result c.in-Some.first.now c.in-Some.ensures.there c.args.props.now c.args.parts.now c.in-Some.ensures.of)) c.own_path.ensures
