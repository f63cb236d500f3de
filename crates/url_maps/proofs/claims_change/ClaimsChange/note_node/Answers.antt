use Rattle.std.proofs.Common.{ap}
use Rattle.std.specs.List.{list_any}
use Rattle.std.specs.Str.{bytes_eq}
use Rattle.url_maps.proofs.ChangeLemmas.{notes_row, notes_row_alike}
use Rattle.url_maps.proofs.claims_change.ClaimsChange.note_node.Goals as goal

pub returns : goal.returns
returns c =
    let rows = c.args.claims.now.rows in
    let patch = c.args.patch.now in
    let path = c.args.row.now.path.now in
    notes_row_alike rows patch path (λ t. list_any (bytes_eq t) c.as_slice.result.now) (λ t. list_any (bytes_eq t) c.args.row.now.before.now) (λ t. list_any (bytes_eq t) c.as_slice-2.result.now) (λ t. list_any (bytes_eq t) c.args.row.now.after.now)
    c.args.self.now c.note_all-2.new.self (λ t. ap (list_any (bytes_eq t)) c.as_slice.ensures) (λ t. ap (list_any (bytes_eq t)) c.as_slice-2.ensures)
    (notes_row rows patch path (λ t. list_any (bytes_eq t) c.as_slice.result.now) (λ t. list_any (bytes_eq t) c.as_slice-2.result.now) c.args.self.now c.note_all.new.self c.note_all-2.new.self c.in_ok-note_all.ensures c.in_ok-note_all-2.ensures)
