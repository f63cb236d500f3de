use Rattle.std.proofs.Common.{◌≤◌, ◌++◌, length, take, arith, length-append}
use Rattle.std.proofs.lemmas.List.{length-take}
use Rattle.sling_dispatch.proofs.Writing.{taken_more}
use Rattle.sling_dispatch.proofs.streams.read_whole.Goals as goal

pub returns-in_err-extend_from_slice-clause-taken : goal.returns-in_err-extend_from_slice-clause-taken
returns-in_err-extend_from_slice-clause-taken g c =
    let text = c.loop-buffer.text.items in
    let part = take c.in-Ok.n c.read.new.into in
    let room = c.min-room.result in
    let within : c.in-Ok.n ≤ length (take room c.loop-buffer.buffer) = c.in-Ok.ensures.within in (
      text ++ part,
      taken_more _ _ _ text part c.loop-buffer.invariant.read c.in-Ok.ensures.taken,
      omega (arith, c.loop-buffer.invariant.most, within, length-append text part, length-take room c.loop-buffer.buffer, length-take c.in-Ok.n c.read.new.into),
    )
