use Rattle.std.proofs.Common.{lit<, ◌∙◌, ◌++◌, ap, string_bytes}
use Rattle.std.proofs.lemmas.Iterator.{YieldsList-from_take}
use Rattle.std.proofs.lemmas.Iterator.Consumers.{YieldsList-at, YieldsList-end}
use Rattle.std.proofs.lemmas.Iterator.Splits.{YieldsList-from_str_split}
use Rattle.sp_base.specs.PathTexts.{spelling_of}
use Rattle.sp_base.proofs.PathText.{spelled-push}
use Rattle.sp_base.proofs.segments.first_pieces.Goals as goal

pub loop-piece-preserved : goal.loop-piece-preserved
loop-piece-preserved c =
    spelled-push c.loop-piece.yielded c.in-Some.piece (string_bytes c.loop-piece.leading) (string_bytes c.push_str-in-loop-piece.new.self) c.loop-piece.invariant
    (c.in_ok-push_str-2.ensures.bytes ∙ ap (λ leading. leading ++ c.in-Some.piece.now) c.in_ok-push_str.ensures.bytes)

pub returns : goal.returns
returns c =
    let seen = YieldsList-end
    (YieldsList-at c.into_iter-piece-iterator.ensures.into_iter_gives
    (YieldsList-from_take c.args.n (YieldsList-at c.take-piece-items.ensures.source (YieldsList-from_str_split 47 c.args.text.now (lit< tt) c.split.ensures.text c.split.ensures.has_more c.split.ensures.pattern)) c.take-piece-items.ensures.count))
    c.loop-piece.yielded _ c.loop-piece.yielded_by _ _ c.in-None.is c.next.ensures.steps in
    c.loop-piece.invariant ∙ ap spelling_of seen.0
