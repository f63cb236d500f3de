use Rattle.std.proofs.Common.{inr, List, sym, ◌∙◌, subst}
use Rattle.std.proofs.lemmas.Option.{same_Some}
use Rattle.std.specs.Prelude.{Contains, IfOk}
use Rattle.sp_base.specs.Texts.{Text}
use Rattle.docroot_format.specs.Deletions.{deleted_prefixes}
use Rattle.docroot_changes.specs.Changes.{Told}
use Rattle.invalidation.specs.Slices.{IsListedPage, place_or_start, slice_names}
use Rattle.invalidation.specs.Walks.{TakesFiles, WalkedOn}
use Rattle.invalidation.proofs.SliceFacts.{NameLaws}
use Rattle.invalidation.proofs.SliceSteps.{told_given_up, told_slice}
use Rattle.invalidation.proofs.purge.Purge.go_on.Goals as goal

pub returns-in_err-begin_walk-clause-slice : goal.returns-in_err-begin_walk-clause-slice
returns-in_err-begin_walk-clause-slice g c =
    let before = c.args.self.now in
    let laws : NameLaws before.inv = record {
      body_deleted = λ key page. c.deleted_pages_are_known_by_names.ensures.body before.inv key page c.depth-depth.ensures.valid c.a_path_has_bytes.ensures;
      head_deleted = λ key page. c.deleted_pages_are_known_by_names.ensures.head before.inv key page c.depth-depth.ensures.valid c.a_path_has_bytes.ensures;
      bodies = c.names_are_apart.ensures.bodies;
      heads = c.names_are_apart.ensures.heads;
      head = c.names_are_apart.ensures.head;
      body_page = c.names_tell_their_files.ensures.body;
      head_page = c.names_tell_their_files.ensures.head;
      epoch_page = c.names_tell_their_files.ensures.epoch_page;
      mangled = c.a_page_has_one_key.ensures.mangled before.inv.handle;
    } in
    told_given_up before c.begin_walk.new.self laws c.from_residual-in_err-begin_walk.result c.from_residual-in_err-begin_walk.ensures.0 (g.D.Disk.files c.args.disk.now) (g.D.Disk.files c.begin_walk.new.disk) c.begin_walk.ensures.changes

pub returns-clause-slice : goal.returns-clause-slice
returns-clause-slice g c =
    let before = c.args.self.now in
    let laws : NameLaws before.inv = record {
      body_deleted = λ key page. c.deleted_pages_are_known_by_names.ensures.body before.inv key page c.depth-depth.ensures.valid c.a_path_has_bytes.ensures;
      head_deleted = λ key page. c.deleted_pages_are_known_by_names.ensures.head before.inv key page c.depth-depth.ensures.valid c.a_path_has_bytes.ensures;
      bodies = c.names_are_apart.ensures.bodies;
      heads = c.names_are_apart.ensures.heads;
      head = c.names_are_apart.ensures.head;
      body_page = c.names_tell_their_files.ensures.body;
      head_page = c.names_tell_their_files.ensures.head;
      epoch_page = c.names_tell_their_files.ensures.epoch_page;
      mangled = c.a_page_has_one_key.ensures.mangled before.inv.handle;
    } in
    let mid = c.begin_walk.new.self in
    let y = g.D.Disk.files c.begin_walk.new.disk in
    let z = g.D.Disk.files c.walk.new.disk in
    let prefixes = c.in_ok-prefixes.ensures in
    let takes = subst (λ ps. Told (TakesFiles (IsListedPage ps) slice_names) y z) prefixes c.walk.ensures.takes in
    let place = same_Some c.in-Some.place (place_or_start before.place) (sym c.in-Some.is ∙ c.in_ok-begin_walk.ensures.place) in
    let walked = subst (λ p. IfOk c.walk.result (λ more. Told (WalkedOn (deleted_prefixes before.inv) p c.walk.new.place more) y z)) place
    (subst (λ (ps : List Text). IfOk c.walk.result (λ more. Told (WalkedOn ps c.in-Some.place c.walk.new.place more) y z)) prefixes c.walk.ensures.walked) in
    told_slice before mid.level mid.inv mid.stamp c.walk.new.place c.in_ok-begin_walk.ensures.same.level c.in_ok-begin_walk.ensures.same.inv c.in_ok-begin_walk.ensures.same.stamp laws c.walk.result (g.D.Disk.files c.args.disk.now) y z
    c.in_ok-begin_walk.ensures.begun takes walked

pub walk-requires-clause-listed : goal.walk-requires-clause-listed
walk-requires-clause-listed g c = λ prefix has.
    let inv = c.args.self.now.inv in
    inr (inv, (c.depth-depth.ensures.valid, subst (λ (ps : List Text). Contains ps prefix) c.in_ok-prefixes.ensures has))

pub returns-clause-calls : goal.returns-clause-calls
returns-clause-calls g c =
    c.docroot_calls_add_up.ensures.more (g.D.Disk.calls c.args.disk.now) (g.D.Disk.calls c.begin_walk.new.disk) (g.D.Disk.calls c.walk.new.disk) c.in_ok-begin_walk.ensures.calls c.walk.ensures.calls
