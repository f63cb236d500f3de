use Rattle.std.proofs.Common.{◌∙◌, sym}
use Rattle.dispatch_rules.proofs.AskLemmas.{asked_alike, one_path, page_of}
use Rattle.dispatch_rules.proofs.laws.requests_for_one_page_are_asked_alike.Goals as goal

pub returns : goal.returns
returns c = λ farm a b key va vb ua ub ha hb.
    let path = c.a_page_has_one_key.ensures.path in
    let same = sym (path a.path key va (page_of farm a key ha)) ∙ path b.path key vb (page_of farm b key hb) in
    asked_alike farm a b key (one_path a.path b.path c.mangling_and_unmangling.ensures.back ua ub same) ha hb
