use Rattle.std.proofs.Common.{Some, ap, sym, ◌∙◌, ◌++◌, take, drop, List, ℕ, length, arith}
use Rattle.sp_outside.proofs.Bytes.{rest_in_two}
use Rattle.sp_outside.proofs.memory.MemSourceSource.read.Goals as goal

pub returns-clause-taken : goal.returns-clause-taken
returns-clause-taken c =
    let s = c.self.inside in
    let n = c.give-n.result in
    let same = c.bytes.ensures in
    ap Some (sym (ap (λ (v : _). v.left) c.self.view_is)
    ∙ rest_in_two s.bytes c.args.into.now c.give-n.new.into s.at n
    (omega (arith, c.give-n.ensures.given, ap (λ (b : List ℕ). length (drop s.at b)) same))
    (c.give-n.ensures.bytes ∙ ap (λ (b : List ℕ). take n (drop s.at b) ++ drop n c.args.into.now) same))
