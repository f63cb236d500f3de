use Rattle.std.proofs.Common.{◌≡◌, ◌+◌, ◌-◌, ◌∷◌, ◌++◌, [], ◌∙◌, ap, arith, append-nil, length, length-append, take, vec_len}
use Rattle.std.specs.Prelude.{option_to_list}
use Rattle.script_rank.proofs.ListedLemmas.{all_put, put_one}
use Rattle.script_rank.proofs.index.ScriptIndex.put_each.Goals as goal

pub loop-path-preserved : goal.loop-path-preserved
loop-path-preserved c =
    let rest = c.pop.new.self.items in
    let last : c.loop-path.left.items ≡ rest ++ c.in-Some.path ∷ [] = c.pop.ensures.items ∙ ap (λ o. rest ++ option_to_list o) c.in-Some.is in
    let longer : length c.loop-path.left.items ≡ length rest + 1 = ap length last ∙ length-append rest (c.in-Some.path ∷ []) in
    record {
      scripts = λ q. put_one c.loop-path.self.scripts c.put_in_room.new.self.scripts c.loop-path.left.items rest c.in-Some.path q _ last (c.put_in_room.ensures.scripts q) (c.loop-path.invariant.scripts q);
      room = omega (arith, longer, c.put_in_room.ensures.room, c.loop-path.invariant.room);
    }

pub returns-clause-scripts : goal.returns-clause-scripts
returns-clause-scripts c = λ q.
    let left = c.loop-path.left.items in
    let none : vec_len c.loop-path.left - 1 ≡ 0 = omega (arith, c.in_default.ensures.cases.0) in
    all_put c.loop-path.self.scripts left q _ (c.in_default.ensures.items ∙ append-nil c.pop.new.self.items ∙ c.in_default.ensures.rest ∙ ap (λ n. take n left) none) (c.loop-path.invariant.scripts q)
