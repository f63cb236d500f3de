use Rattle.sp_base.proofs.PathPrefixes.{prefix_under, prefix_within, first_begins, first_slash}
use Rattle.sp_base.proofs.laws.the_prefixes_of_a_path.Goals as goal

pub returns-clause-parent : goal.returns-clause-parent
returns-clause-parent c = prefix_under

pub returns-clause-within : goal.returns-clause-within
returns-clause-within c = prefix_within

pub returns-clause-first : goal.returns-clause-first
returns-clause-first c = first_begins

pub returns-clause-slash : goal.returns-clause-slash
returns-clause-slash c = first_slash
