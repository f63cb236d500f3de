use Rattle.std.proofs.Common.{◌∙◌, ◌≤◌, ◌-◌, length, take, sym, subst, false, arith}
use Rattle.sp_base.specs.Paths.{mangled_segs}
use Rattle.sp_base.specs.PathTexts.{spelling_of}
use Rattle.cover_rules.specs.Walk.{Leaves}
use Rattle.cover_rules.proofs.CoverageLemmas.{texts_of, parent_by, folder_left, folder_short, folder_lacks}
use Rattle.cover_rules.proofs.WalkLemmas.{lacking_take}
use Rattle.cover_rules.proofs.coverage.outdates_folder.Goals as goal

pub returns-in-Some-Folder : goal.returns-in-Some-Folder
returns-in-Some-Folder c =
    let law = c.segments_and_their_spelling.ensures in
    let inv = c.args.inv.now in
    let key = c.args.key.now in
    let first = take c.args.depth inv.handle in
    let texts = texts_of key (mangled_segs first) (law.path key.folder c.depth-folder_depth.ensures.valid)
    (law.mangled first (lacking_take inv.handle c.args.depth (law.path inv.handle c.depth.ensures.valid))) law.under law.back (law.pieces key.file) (law.spelled key.file) in
    let within : c.args.depth ≤ length inv.handle - 1 = omega (arith, c.depth.ensures.depth, c.saturating_sub.ensures) in
    let leaves = subst (λ r. Leaves key (spelling_of (mangled_segs first)) r) c.in-Some-Folder.field-0-is c.in-Some-Folder.ensures.some in
    c.text_under.ensures ∙ sym (parent_by inv key c.args.depth _ c.requires within (folder_left key (mangled_segs first) c.in-Some-Folder.rest texts leaves))

pub returns-in-Some-File : goal.returns-in-Some-File
returns-in-Some-File c =
    let law = c.segments_and_their_spelling.ensures in
    let inv = c.args.inv.now in
    let key = c.args.key.now in
    let first = take c.args.depth inv.handle in
    let texts = texts_of key (mangled_segs first) (law.path key.folder c.depth-folder_depth.ensures.valid)
    (law.mangled first (lacking_take inv.handle c.args.depth (law.path inv.handle c.depth.ensures.valid))) law.under law.back (law.pieces key.file) (law.spelled key.file) in
    let within : c.args.depth ≤ length inv.handle - 1 = omega (arith, c.depth.ensures.depth, c.saturating_sub.ensures) in
    let leaves = subst (λ r. Leaves key (spelling_of (mangled_segs first)) r) c.in-Some-File.field-0-is c.in-Some-File.ensures.some in
    sym (parent_by inv key c.args.depth false c.requires within (folder_short key (mangled_segs first) c.in-Some-File.field-0-0 texts leaves))

pub returns-in-None : goal.returns-in-None
returns-in-None c =
    let law = c.segments_and_their_spelling.ensures in
    let inv = c.args.inv.now in
    let key = c.args.key.now in
    let first = take c.args.depth inv.handle in
    let texts = texts_of key (mangled_segs first) (law.path key.folder c.depth-folder_depth.ensures.valid)
    (law.mangled first (lacking_take inv.handle c.args.depth (law.path inv.handle c.depth.ensures.valid))) law.under law.back (law.pieces key.file) (law.spelled key.file) in
    let within : c.args.depth ≤ length inv.handle - 1 = omega (arith, c.depth.ensures.depth, c.saturating_sub.ensures) in
    sym (parent_by inv key c.args.depth false c.requires within (folder_lacks key (mangled_segs first) texts c.in-None.ensures.none))
