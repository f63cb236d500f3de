use Rattle.std.proofs.Common.{lit<, ◌∙◌, ◌++◌, ◌∷◌, [], sym, ap, List, ℕ}
use Rattle.std.proofs.lemmas.Iterator.Consumers.{YieldsList-at, YieldsList-end}
use Rattle.std.proofs.lemmas.Iterator.Splits.{YieldsList-from_str_split}
use Rattle.sp_base.specs.Paths.{mangled_seg, mangled_segs}
use Rattle.cover_rules.specs.Names.{file_name}
use Rattle.docroot_format.specs.Names.{folder_name}
use Rattle.docroot_format.proofs.NameRoom.{mangled_more}
use Rattle.docroot_format.proofs.names.mangled_folder_name.Goals as goal

pub loop-seg-preserved : goal.loop-seg-preserved
loop-seg-preserved c =
    c.in_ok-push_mangled.ensures ∙ ap (λ (front : List ℕ). front ++ (file_name (mangled_seg c.in-Some-seg.seg.now) ++ 47 ∷ [])) c.loop-seg.invariant
    ∙ sym (mangled_more c.loop-seg.yielded c.in-Some-seg.seg)

pub returns-clause-name : goal.returns-clause-name
returns-clause-name c =
    let seen = YieldsList-end
    (YieldsList-at c.into_iter-seg-iterator.ensures.into_iter_gives
    (YieldsList-from_str_split 47 c.in-Some.segments.now (lit< tt) c.split-seg-items.ensures.text c.split-seg-items.ensures.has_more c.split-seg-items.ensures.pattern))
    c.loop-seg.yielded _ c.loop-seg.yielded_by _ _ c.in-None.is c.next.ensures.steps in
    c.loop-seg.invariant ∙ ap (λ (segs : List (List ℕ)). folder_name (mangled_segs segs)) (seen.0 ∙ c.in-Some.ensures.some)
