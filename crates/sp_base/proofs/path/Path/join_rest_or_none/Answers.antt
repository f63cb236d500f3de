use Rattle.sp_base.proofs.PathRest.{not_joined, rest_joined}
use Rattle.sp_base.proofs.path.Path.join_rest_or_none.Goals as goal

pub returns-in-Ok : goal.returns-in-Ok
returns-in-Ok c = rest_joined c.args.self.now c.args.path.now c.args.n c.in-Some.rest.now c.in-Ok.whole c.in-Some.ensures.some c.in-Ok.ensures.ok c.depth-in-Ok.ensures.valid

pub returns-in_default-fault : goal.returns-in_default-fault
returns-in_default-fault c =
    not_joined c.args.self.now c.args.path.now c.args.n c.in-Some.rest.now c.in-Err.fault c.a_path_and_its_text.ensures.read c.in-Some.ensures.some (c.in-Err.ensures.err c.in_default-fault.not-NoMemory)
