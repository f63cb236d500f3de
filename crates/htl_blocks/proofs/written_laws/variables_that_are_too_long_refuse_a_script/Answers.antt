use Rattle.htl_blocks.proofs.RoomLemmas.{refused, refused_before, stands}
use Rattle.htl_blocks.proofs.written_laws.variables_that_are_too_long_refuse_a_script.Goals as goal

pub returns-clause-fit : goal.returns-clause-fit
returns-clause-fit c = stands

pub returns-clause-long : goal.returns-clause-long
returns-clause-long c = refused

pub returns-clause-late : goal.returns-clause-late
returns-clause-late c = refused_before
