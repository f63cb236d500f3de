use Rattle.std.proofs.Common.{◌∷◌, [], arith}
use Rattle.std.proofs.lemmas.Bool.Decides.{nat_tests}
use Rattle.sp_base.specs.Paths.{mangled_seg}
use Rattle.cover_rules.proofs.WalkLemmas.{folder_ends, folder_differs, file_differs, mangled_lacks}
use Rattle.cover_rules.proofs.walk.after_segment.Goals as goal

pub returns-in-None-clause-none : goal.returns-in-None-clause-none
returns-in-None-clause-none c = λ lacks more e. folder_ends c.args.rest c.in-Folder.text c.args.file.now (mangled_seg c.args.segment.now) more c.in-Folder.is (let e = c.if-is_empty.ensures in grind (arith, nat_tests)) c.in-None.ensures.none e

pub returns-in-None-strip_slash-clause-none : goal.returns-in-None-strip_slash-clause-none
returns-in-None-strip_slash-clause-none c = λ lacks more e.
    folder_differs c.args.rest c.in-Folder.text c.args.file.now (mangled_seg c.args.segment.now) more c.in-Folder.is (let e = c.if-is_empty.ensures in grind (arith, nat_tests))
    (mangled_lacks c.args.segment.now c.segments_and_their_spelling.ensures.mangled lacks) c.in-None-strip_slash.ensures.none e

pub returns-in-None-strip_slash-2-clause-none : goal.returns-in-None-strip_slash-2-clause-none
returns-in-None-strip_slash-2-clause-none c = λ lacks more e. file_differs c.args.rest c.in-File.text c.args.file.now (mangled_seg c.args.segment.now) more c.in-File.is c.in-None-strip_slash-2.ensures.none e
