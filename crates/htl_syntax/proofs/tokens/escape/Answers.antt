use Rattle.std.proofs.Common.{◌∙◌, sym}
use Rattle.htl_syntax.proofs.Strings.{unescape_ascii}
use Rattle.htl_syntax.proofs.tokens.escape.Goals as goal

pub tail-requires : goal.tail-requires
tail-requires c =
    let small = (unescape_ascii _ _ (sym c.unescape.ensures ∙ c.in-Some.is)).0 in
    rw c.as_bytes.ensures.value at small

pub returns-in-Some-clause-ascii : goal.returns-in-Some-clause-ascii
returns-in-Some-clause-ascii c = (unescape_ascii _ _ (sym c.unescape.ensures ∙ c.in-Some.is)).1
