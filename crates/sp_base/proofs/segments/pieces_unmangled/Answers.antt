use Rattle.std.proofs.Common.{lit<, ◌∙◌, ◌++◌, ap, string_bytes, List, ℕ}
use Rattle.std.proofs.lemmas.Iterator.Consumers.{YieldsList-at, YieldsList-end}
use Rattle.std.proofs.lemmas.Iterator.Splits.{YieldsList-from_str_split}
use Rattle.sp_base.specs.Paths.{unmangled_segs, unmangled_seg}
use Rattle.sp_base.specs.PathTexts.{spelling_of}
use Rattle.sp_base.proofs.PathText.{unmangled-push}
use Rattle.sp_base.proofs.segments.pieces_unmangled.Goals as goal

pub loop-piece-preserved : goal.loop-piece-preserved
loop-piece-preserved c =
    unmangled-push c.loop-piece.yielded c.in-Some.piece (string_bytes c.loop-piece.unmangled) (string_bytes c.add_unmangled.new.text) c.loop-piece.invariant
    (c.in_ok-add_unmangled.ensures ∙ ap (λ (leading : List ℕ). leading ++ unmangled_seg c.in-Some.piece.now) c.in_ok-push_str.ensures.bytes)

pub returns : goal.returns
returns c =
    let seen = YieldsList-end
    (YieldsList-at c.into_iter-piece-iterator.ensures.into_iter_gives
    (YieldsList-from_str_split 47 c.args.text.now (lit< tt) c.split-piece-items.ensures.text c.split-piece-items.ensures.has_more c.split-piece-items.ensures.pattern))
    c.loop-piece.yielded _ c.loop-piece.yielded_by _ _ c.in-None.is c.next.ensures.steps in
    c.loop-piece.invariant ∙ ap (λ (segs : List (List ℕ)). spelling_of (unmangled_segs segs)) seen.0
