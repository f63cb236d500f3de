use Rattle.std.proofs.Common.{lit<, ◌∙◌, ap, filter, string_bytes, List, ℕ}
use Rattle.std.proofs.lemmas.Iterator.{YieldsList-from_take}
use Rattle.std.proofs.lemmas.Iterator.Consumers.{YieldsList-at, YieldsList-end}
use Rattle.std.proofs.lemmas.Iterator.Splits.{YieldsList-from_str_split}
use Rattle.sp_base.specs.Bytes.{is_full, dotted_text}
use Rattle.dispatch_rules.proofs.CutLemmas.{dotted-push}
use Rattle.dispatch_rules.proofs.url_parts.full_pieces.Goals as goal

pub loop-piece-preserved : goal.loop-piece-preserved
loop-piece-preserved c =
    dotted-push c.loop-piece.yielded c.in-Some.piece (string_bytes c.loop-piece.dotted) (string_bytes c.add_full.new.dotted) c.loop-piece.invariant c.in_ok-add_full.ensures

pub returns : goal.returns
returns c =
    let seen = YieldsList-end
    (YieldsList-at c.into_iter-piece-iterator.ensures.into_iter_gives
    (YieldsList-from_take c.args.n (YieldsList-at c.take-piece-items.ensures.source (YieldsList-from_str_split 46 c.args.text.now (lit< tt) c.split.ensures.text c.split.ensures.has_more c.split.ensures.pattern)) c.take-piece-items.ensures.count))
    c.loop-piece.yielded _ c.loop-piece.yielded_by _ _ c.in-None.is c.next.ensures.steps in
    c.loop-piece.invariant ∙ ap (λ (segs : List (List ℕ)). dotted_text (filter is_full segs)) seen.0
