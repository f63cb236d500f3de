use Rattle.std.proofs.Common.{ap, sym, ◌∙◌}
use Rattle.post_plan.specs.Entries.{Entry}
use Rattle.post_plan.proofs.NumberedSpotLemmas.{set_before, set_first, within_indices}
use Rattle.post_plan.proofs.sets.set_here.Goals as goal

pub is_later-requires : goal.is_later-requires
is_later-requires c = within_indices c.args.entries.now c.args.indices.now c.args.n c.requires.indices c.requires.within

pub returns-then-is_later : goal.returns-then-is_later
returns-then-is_later c = set_before c.args.pairs.now c.args.entries.now c.args.indices.now c.args.n c.requires.indices (sym c.is_later.ensures ∙ c.if-is_later.true)

pub returns : goal.returns
returns c =
    set_first c.set_of.result c.args.pairs.now c.args.entries.now c.args.indices.now c.args.n c.index-entries-n.result c.entry.inside.spot c.in_ok-own.own
    c.requires.within c.requires.indices (sym c.is_later.ensures ∙ c.if-is_later.false) c.index-entries-n.is (ap (λ (e : Entry). e.spot) c.entry.view_is) c.in_ok-own.ensures c.set_of.ensures
