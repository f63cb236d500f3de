use Rattle.std.proofs.Common.{◌≡◌, ◌∙◌, sym, subst}
use Rattle.page_index.specs.Notes.{stamp_noted}
use Rattle.page_index.specs.declared.index.PageIndex.{PageIndex}
use Rattle.sp_base.specs.Texts.{Segments}
use Rattle.coherence_core.specs.Lookups.{stat_asked}
use Rattle.coherence_core.specs.Notes.{HoldsStill}
use Rattle.coherence_core.proofs.CallsOfLooks.{look_known, stat_before}
use Rattle.coherence_core.proofs.LookLemmas.{known_value, notes_still, notes_then}
use Rattle.coherence_core.proofs.lookup.look_up.Goals as goal

pub returns-in-Some-clause-value : goal.returns-in-Some-clause-value
returns-in-Some-clause-value g c =
    let still = subst (λ (p : PageIndex). HoldsStill p c.keep_asked.new.pages) c.page.ensures.same c.keep_asked.ensures.notes in
    known_value (g.D.Disk.files c.args.disk.now) c.args.pages.now c.keep_asked.new.pages still c.args.look.now.key.now c.requires.page c.in-Some.page (sym c.in_ok-page.ensures.ok ∙ c.in-Some.is) c.args.look.now.auto (stat_asked c.args.look.now) c.look_at_known.result c.look_at_known.ensures.value

pub returns-in-Some-clause-notes : goal.returns-in-Some-clause-notes
returns-in-Some-clause-notes g c =
    let still = subst (λ (p : PageIndex). HoldsStill p c.keep_asked.new.pages) c.page.ensures.same c.keep_asked.ensures.notes in
    notes_then c.args.look.now (g.D.Disk.files c.args.disk.now) c.args.pages.now c.keep_asked.new.pages c.look_at_known.new.pages
    (notes_still c.args.look.now (g.D.Disk.files c.args.disk.now) c.args.pages.now c.keep_asked.new.pages still) c.look_at_known.ensures.notes

pub returns-in-Some-clause-asks : goal.returns-in-Some-clause-asks
returns-in-Some-clause-asks g c =
    let same = subst (λ (p : PageIndex). (folder : Segments) → stamp_noted c.keep_asked.new.pages folder ≡ stamp_noted p folder) c.page.ensures.same c.keep_asked.ensures.stamps in
    look_known c.a_page_is_its_head_and_its_body.ensures (g.D.Disk.files c.args.disk.now) _ _ c.args.pages.now c.args.look.now.farm.now c.args.look.now.key.now c.requires.page c.in-Some.page (sym c.in_ok-page.ensures.ok ∙ c.in-Some.is) c.look_at_known.result
    (stat_before c.look_at_known.result c.args.pages.now c.keep_asked.new.pages c.args.look.now.farm.now c.args.look.now.key.now _ _ same c.look_at_known.ensures.asks)
