use Rattle.std.proofs.Common.{◌∙◌, ap}
use Rattle.sp_base.specs.Paths.{mangled_segs}
use Rattle.cover_rules.specs.Pages.{key_at}
use Rattle.cover_rules.proofs.PageLemmas.{own_path}
use Rattle.cover_rules.proofs.laws.a_page_has_one_key.Goals as goal

pub returns-clause-own : goal.returns-clause-own
returns-clause-own c = λ path key valid h.
    let law = c.segments_and_their_spelling.ensures in
    let own = own_path (mangled_segs path) key (law.mangled path (law.path path valid)) law.back h in
    ap (λ p. key_at (mangled_segs p)) own ∙ ap key_at (c.mangling_and_unmangling.ensures.again path) ∙ h

pub returns-clause-path : goal.returns-clause-path
returns-clause-path c = λ path key valid h.
    let law = c.segments_and_their_spelling.ensures in
    own_path (mangled_segs path) key (law.mangled path (law.path path valid)) law.back h
