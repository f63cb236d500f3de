use Rattle.std.proofs.Common.{◌∙◌, ap}
use Rattle.sp_outside.specs.Files.{with_file}
use Rattle.sp_outside.specs.NameEntries.{kept_by_name}
use Rattle.sp_outside.proofs.HeldNames.{held_with}
use Rattle.outside_world.specs.InputMemory.{InputsState}
use Rattle.outside_world.proofs.mem_inputs.MemInputs.add.Goals as goal

pub returns-clause-ok : goal.returns-clause-ok
returns-clause-ok c =
    let held = c.self.inside.files.entries in
    let files = ap kept_by_name c.in_ok-insert.ensures.entries
    ∙ held_with c.in_ok-name.name c.in_ok-bytes.bytes held
    ∙ ap (λ n. with_file (kept_by_name held) n c.in_ok-bytes.bytes) c.in_ok-name.ensures.ok
    ∙ ap (with_file (kept_by_name held) c.args.name.now) c.in_ok-bytes.ensures
    ∙ ap (λ (s : InputsState). with_file s.files c.args.name.now c.args.bytes.now) c.self.view_is in
    λ i. record {
      files = files i;
      fails = (ap (λ (s : InputsState). s.fails) c.self.view_is) i;
      calls = (ap (λ (s : InputsState). s.calls) c.self.view_is) i;
      failed = (ap (λ (s : InputsState). s.failed) c.self.view_is) i;
    }
