use Rattle.std.proofs.Common.{Some, None, lit<}
use Rattle.std.proofs.lemmas.Str.Pattern.{split_parts}
use Rattle.post_plan.proofs.PieceLemmas.{first_of, only_of}
use Rattle.post_plan.proofs.relative.first_piece.Goals as goal

pub returns-in-Some-clause-pieces : goal.returns-in-Some-clause-pieces
returns-in-Some-clause-pieces c =
    let parts = split_parts 47 c.args.text.now (Some (c.in-Some.piece, c.in-Some.rest)) c.in-Some.ensures.cases (lit< tt) in
    first_of c.args.text.now c.in-Some.piece.now c.in-Some.rest.now parts.0 parts.1

pub returns-in-None-clause-pieces : goal.returns-in-None-clause-pieces
returns-in-None-clause-pieces c = only_of c.args.text.now (split_parts 47 c.args.text.now None c.in-None.ensures.cases (lit< tt))
