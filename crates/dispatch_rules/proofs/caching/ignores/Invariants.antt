use Rattle.std.proofs.Common.{◌≡◌}
use Rattle.std.specs.List.{list_all}
use Rattle.std.specs.Str.Lossy.{utf8_lossy}
use Rattle.form_urlencoded.specs.Form.{decode}
use Rattle.form_urlencoded.specs.Parse.{pairs_left}
use Rattle.glob_rules.specs.Rules.{allows}
use Rattle.dispatch_rules.specs.Caching.{ignores}
use Rattle.dispatch_rules.proofs.caching.ignores.Given as goal

abbrev pub invariant-loop-pair : goal.invariant-loop-pair
invariant-loop-pair l = ignores l.farm l.query ≡ list_all (λ pair. allows l.farm.ignored (utf8_lossy (decode pair.0))) (pairs_left l.pair-iterator)
