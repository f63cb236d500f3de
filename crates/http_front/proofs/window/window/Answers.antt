use Rattle.std.proofs.Common.{◌≤◌, length, sym, arith}
use Rattle.std.proofs.lemmas.List.{length-take-le, take_all}
use Rattle.http_front.proofs.window.window.Goals as goal

pub slice_bounds-result-end : goal.slice_bounds-result-end
slice_bounds-result-end c =
    let some : 16384 ≤ length c.args.stream.now = omega (arith, c.if-stream-gt-LONGEST_HEAD.true) in sym (length-take-le 16384 c.args.stream.now some)

pub returns-else-stream-gt-LONGEST_HEAD : goal.returns-else-stream-gt-LONGEST_HEAD
returns-else-stream-gt-LONGEST_HEAD c =
    let few : length c.args.stream.now ≤ 16384 = omega (arith, c.if-stream-gt-LONGEST_HEAD.false) in sym (take_all 16384 c.args.stream.now few)
