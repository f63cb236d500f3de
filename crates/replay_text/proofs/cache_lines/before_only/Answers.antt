use Rattle.std.proofs.Common.{◌∙◌, codes, sym}
use Rattle.std.proofs.lemmas.Bool.{false≢true}
use Rattle.replay_text.proofs.WordLemmas.{one_first_word}
use Rattle.replay_text.proofs.cache_lines.before_only.Goals as goal

pub returns-else-same-clause-none : goal.returns-else-same-clause-none
returns-else-same-clause-none c = λ word none e.
    let first = c.in-Some.ensures.some in
    let same = one_first_word c.in-Some.word.now word c.in-Some.rest.now (codes "only") first.1 none (sym first.0 ∙ e) in
    false≢true (sym c.if-same.false ∙ c.same.ensures.1 same.1)
