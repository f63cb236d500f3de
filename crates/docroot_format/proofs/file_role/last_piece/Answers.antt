use Rattle.std.proofs.Common.{Some, None, lit<, ◌∙◌}
use Rattle.std.proofs.lemmas.Str.Pattern.{rfind_char}
use Rattle.sp_base.proofs.PathParts.{last_found}
use Rattle.docroot_format.proofs.LastPieces.{after_last_slash, without_slash}
use Rattle.docroot_format.proofs.file_role.last_piece.Goals as goal

pub returns-in-Some : goal.returns-in-Some
returns-in-Some c =
    let h = rfind_char 47 c.args.name.now (Some c.in-Some.at) c.in-Some.ensures.cases (lit< tt) in
    c.range_from.ensures.value ∙ after_last_slash c.args.name.now _ (last_found c.args.name.now c.in-Some.at h.0 h.1 h.2)

pub returns-in-None : goal.returns-in-None
returns-in-None c = without_slash c.args.name.now (rfind_char 47 c.args.name.now None c.in-None.ensures.cases (lit< tt))
