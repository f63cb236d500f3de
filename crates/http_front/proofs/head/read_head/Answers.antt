use Rattle.std.proofs.Common.{◌≡◌, ◌≢◌, Some, sym, subst}
use Rattle.std.specs.Prelude.{IfOk, IfErr}
use Rattle.http_front.specs.declared.fault.InFault.TheVariants.{NoMemory}
use Rattle.http_front.specs.Heads.{AreTexts, Asks, head_fault}
use Rattle.http_front.proofs.ParserLemmas.{parts_in}
use Rattle.http_front.proofs.head.read_head.Goals as goal

pub read_bytes-requires-clause-texts : goal.read_bytes-requires-clause-texts
read_bytes-requires-clause-texts c = subst AreTexts (sym (parts_in c.args.bytes.now c.args.at.now.len c.args.spans.now c.args.at.now c.requires.there c.requires.within)) c.requires.texts

pub returns-clause-ok : goal.returns-clause-ok
returns-clause-ok c =
    subst (λ p. IfOk c.read_bytes.result (Asks p)) (parts_in c.args.bytes.now c.args.at.now.len c.args.spans.now c.args.at.now c.requires.there c.requires.within) c.read_bytes.ensures.ok

pub returns-clause-err : goal.returns-clause-err
returns-clause-err c =
    subst (λ p. IfErr c.read_bytes.result (λ e. e ≢ NoMemory → head_fault p ≡ Some e)) (parts_in c.args.bytes.now c.args.at.now.len c.args.spans.now c.args.at.now c.requires.there c.requires.within)
    c.read_bytes.ensures.err
