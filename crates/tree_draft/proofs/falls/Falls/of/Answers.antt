use Rattle.std.proofs.Common.{sym, ◌∙◌, ap}
use Rattle.std.specs.Prelude.{string_bytes}
use Rattle.std.specs.Option.{option_copied, option_map_or}
use Rattle.tree_draft.specs.Falls.{NameFalls, fall_of}
use Rattle.tree_draft.proofs.FallLemmas.{fall_shown}
use Rattle.tree_draft.proofs.falls.Falls.of.Goals as goal

pub returns-in-Some : goal.returns-in-Some
returns-in-Some c =
    ap (λ o. option_map_or (λ n. n) o 0) (sym (ap option_copied c.in-Some.is) ∙ c.get.ensures.value)
    ∙ sym (fall_shown string_bytes c.self.inside.lengths.entries c.args.name.now)
    ∙ ap (λ (f : NameFalls). fall_of f c.args.name.now) c.self.view_is

pub returns-in-None : goal.returns-in-None
returns-in-None c =
    ap (λ o. option_map_or (λ n. n) o 0) (sym (ap option_copied c.in-None.is) ∙ c.get.ensures.value)
    ∙ sym (fall_shown string_bytes c.self.inside.lengths.entries c.args.name.now)
    ∙ ap (λ (f : NameFalls). fall_of f c.args.name.now) c.self.view_is
