use Rattle.std.proofs.Common.{◌≡◌, sym, ◌∙◌, arith}
use Rattle.htl_text.proofs.Opening.{opening_within, ends_escape, ends_open, plain_none}
use Rattle.htl_text.proofs.scan.plain_len.Goals.{else-len-gt0-via-then-len-gt0+else-escapes, else-len-gt0-via-else-len-gt0}
use Rattle.htl_text.proofs.scan.plain_len.Goals as goal

pub from-requires : goal.from-requires
from-requires c = let within = opening_within c.args.text.now in let there = c.opening_len-len.ensures in omega (arith, within, there)

pub returns-then-escapes : goal.returns-then-escapes
returns-then-escapes c = ends_escape c.opening_len-len.result c.args.text.now c.from.result.now c.opening_len-len.ensures c.if-len-gt0.true c.from.ensures (sym c.escapes.ensures ∙ c.if-escapes.true)

pub returns-else-len-gt0 : goal.returns-else-len-gt0
returns-else-len-gt0 c = elim c.else-len-gt0.branch [
  | else-len-gt0-via-then-len-gt0+else-escapes w ↦ ends_open c.opening_len-len.result c.args.text.now w.from.result.now c.opening_len-len.ensures w.if-len-gt0.true w.from.ensures (sym w.escapes.ensures ∙ w.if-escapes.false)
  | else-len-gt0-via-else-len-gt0 w ↦
      let there = c.opening_len-len.ensures in
      let least = w.if-len-gt0.false in
      let none : c.opening_len-len.result ≡ 0 = omega (arith, least) in
      none ∙ sym (plain_none c.args.text.now (sym there ∙ none))
]
