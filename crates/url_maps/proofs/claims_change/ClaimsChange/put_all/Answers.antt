use Rattle.std.proofs.Common.{ℕ, List, [], refl, subst}
use Rattle.std.specs.Prelude.{option_copied}
use Rattle.std.specs.List.{list_any}
use Rattle.std.specs.Str.{bytes_eq}
use Rattle.std.proofs.lemmas.List.{take_all}
use Rattle.url_maps.specs.Siblings.{PutsRows}
use Rattle.url_maps.proofs.SiblingLemmas.{rows_more, rows_none, rows_one}
use Rattle.url_maps.proofs.claims_change.ClaimsChange.put_all.Goals as goal

pub loop-text-init : goal.loop-text-init
loop-text-init c = rows_none (option_copied c.args.path) (λ t. list_any (bytes_eq t) []) c.args.self.now (λ t. refl)

pub loop-text-preserved : goal.loop-text-preserved
loop-text-preserved c =
    let path = option_copied c.args.path in
    let old = c.loop-text.self in
    let new = c.put.new.self in
    rows_more path c.args.self.now old new c.args.texts.now c.loop-text.text-index c.text-item.result c.loop-text-test.true c.text-item.is c.loop-text.invariant
    (subst (λ (word : List ℕ). PutsRows path (λ t. bytes_eq t word) old new) c.text.ensures (rows_one path c.text.result.now old new c.in_ok-put.ensures))

pub returns : goal.returns
returns c = subst (λ (ts : List (List ℕ)). PutsRows (option_copied c.args.path) (λ t. list_any (bytes_eq t) ts) c.args.self.now c.loop-text.self) (take_all c.loop-text.text-index c.args.texts.now c.loop-text-test.false) c.loop-text.invariant
