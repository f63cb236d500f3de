use Rattle.std.proofs.Common.{Some, ◌∙◌, ap}
use Rattle.sp_outside.specs.Files.{file_at}
use Rattle.sp_outside.proofs.HeldNames.{held_at}
use Rattle.outside_world.specs.InputMemory.{InputsState}
use Rattle.outside_world.proofs.mem_inputs.MemInputs.lent.Goals as goal

pub returns-in-Some : goal.returns-in-Some
returns-in-Some c =
    ap Some c.bytes.ensures ∙ c.in-Some.ensures.value
    ∙ held_at c.args.name.now c.self.inside.files.entries
    ∙ ap (λ (s : InputsState). file_at s.files c.args.name.now) c.self.view_is

pub returns-in-None : goal.returns-in-None
returns-in-None c =
    c.in-None.ensures.value ∙ held_at c.args.name.now c.self.inside.files.entries
    ∙ ap (λ (s : InputsState). file_at s.files c.args.name.now) c.self.view_is
