use Rattle.form_urlencoded.specs.Parse.{pairs_left}
use Rattle.form_input.proofs.UrlLemmas.{IsUrlRead}
use Rattle.form_input.proofs.form.read_urlencoded.Given as goal

abbrev pub invariant-loop-pair : goal.invariant-loop-pair
invariant-loop-pair l = IsUrlRead l.body l.form (pairs_left l.pair-iterator)
