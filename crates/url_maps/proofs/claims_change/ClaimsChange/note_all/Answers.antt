use Rattle.std.proofs.Common.{ℕ, List, subst}
use Rattle.std.specs.Prelude.{option_copied}
use Rattle.std.specs.Str.{bytes_eq}
use Rattle.url_maps.specs.Noting.{Notes, is_at_some}
use Rattle.url_maps.proofs.ChangeLemmas.{notes_more, notes_none, notes_one}
use Rattle.url_maps.proofs.claims_change.ClaimsChange.note_all.Goals as goal

pub loop-text-init : goal.loop-text-init
loop-text-init c = notes_none c.args.claims.now.rows c.args.patch.now (is_at_some (option_copied c.args.path)) c.args.self.now

pub loop-text-preserved : goal.loop-text-preserved
loop-text-preserved c =
    let rows = c.args.claims.now.rows in
    let patch = c.args.patch.now in
    let path = option_copied c.args.path in
    let old = c.loop-text.self in
    let new = c.note.new.self in
    notes_more rows patch (is_at_some path) c.args.self.now old new c.args.texts.now c.loop-text.text-index c.text-item.result c.loop-text-test.true c.text-item.is c.loop-text.invariant
    (subst (λ (word : List ℕ). Notes rows patch (is_at_some path) (λ t. bytes_eq t word) old new) c.text.ensures (notes_one rows patch c.text.result.now path old new c.in_ok-note.ensures))
