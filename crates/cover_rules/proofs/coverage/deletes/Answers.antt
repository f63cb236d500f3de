use Rattle.std.proofs.Common.{◌∙◌, ◌==◌, ◌&&◌, ◌||◌, [], codes, nat_eq, not, length, sym, ap, Bool}
use Rattle.std.specs.List.{starts_with}
use Rattle.sp_base.specs.PathTexts.{text_under}
use Rattle.cover_rules.specs.Coverage.{handle_of}
use Rattle.cover_rules.proofs.CoverageLemmas.{texts_of, deletes_folder_at, deletes_file_at, deletes_none_at}
use Rattle.cover_rules.proofs.coverage.deletes.Goals as goal

pub returns-in-Some-Folder : goal.returns-in-Some-Folder
returns-in-Some-Folder c =
    let law = c.segments_and_their_spelling.ensures in
    let inv = c.args.inv.now in
    let key = c.args.key.now in
    let text = c.in-Some-Folder.rest.now in
    let texts = texts_of key (handle_of inv) (law.path key.folder c.depth-folder_depth.ensures.valid) (law.mangled inv.handle (law.path inv.handle c.depth-depth.ensures.valid)) law.under law.back (law.pieces key.file) (law.spelled key.file) in
    c.deletes_in_folder.ensures
    ∙ ap (λ (below : Bool). not (c.depth-depth.result == 0) && starts_with nat_eq text (codes ".") || (text_under text (codes "/_jcr_content") || below && text_under text [])) c.takes_below-below.ensures
    ∙ sym (deletes_folder_at inv key c.depth-depth.result c.in-Some-Folder.field-0 c.in-Some-Folder.rest texts c.depth-depth.ensures.depth c.in-Some-Folder.field-0-is c.in-Some-Folder.ensures.some)

pub returns-in-Some-File : goal.returns-in-Some-File
returns-in-Some-File c =
    let law = c.segments_and_their_spelling.ensures in
    let inv = c.args.inv.now in
    let key = c.args.key.now in
    let text = c.in-Some-File.rest.now in
    let texts = texts_of key (handle_of inv) (law.path key.folder c.depth-folder_depth.ensures.valid) (law.mangled inv.handle (law.path inv.handle c.depth-depth.ensures.valid)) law.under law.back (law.pieces key.file) (law.spelled key.file) in
    c.deletes_in_file.ensures
    ∙ ap (λ (below : Bool). length text == 0 || (not (c.depth-depth.result == 0) && starts_with nat_eq text (codes ".") || below && text_under text [])) c.takes_below-below.ensures
    ∙ sym (deletes_file_at inv key c.depth-depth.result c.in-Some-File.field-0 c.in-Some-File.rest texts c.depth-depth.ensures.depth c.in-Some-File.field-0-is c.in-Some-File.ensures.some)

pub returns-in-None : goal.returns-in-None
returns-in-None c =
    let law = c.segments_and_their_spelling.ensures in
    let inv = c.args.inv.now in
    let key = c.args.key.now in
    let texts = texts_of key (handle_of inv) (law.path key.folder c.depth-folder_depth.ensures.valid) (law.mangled inv.handle (law.path inv.handle c.depth-depth.ensures.valid)) law.under law.back (law.pieces key.file) (law.spelled key.file) in
    sym (deletes_none_at inv key c.depth-depth.result texts c.depth-depth.ensures.depth c.in-None.ensures.none)
