use Rattle.std.proofs.Common.{◌∙◌, ap, sym, subst}
use Rattle.std.specs.FinMap.{remove}
use Rattle.std.specs.Prelude.{string_bytes}
use Rattle.std.specs.List.{All}
use Rattle.std.specs.Map.{keys_of}
use Rattle.std.proofs.lemmas.Map.Views.{All-map-remove_entry}
use Rattle.sp_outside.specs.Files.{IsName}
use Rattle.sp_outside.specs.NameEntries.{NameEntries, kept_by_name}
use Rattle.sp_outside.proofs.HeldNames.{held_without, is_key}
use Rattle.sp_outside.proofs.names.Names.remove.Goals as goal

pub invariant_of-self : goal.invariant_of-self
invariant_of-self g c = record {
  rising = c.remove.ensures.ordered;
  sizes = subst (λ (held : NameEntries _). All (λ key. IsName (string_bytes key)) (keys_of held)) (sym c.remove.ensures.entries)
      (All-map-remove_entry (is_key c.args.name.now) (λ e. e.0) (λ key. IsName (string_bytes key)) c.self.inside.held.entries c.self.invariant.sizes);
}

pub returns : goal.returns
returns g c =
    ap kept_by_name c.remove.ensures.entries
    ∙ held_without c.args.name.now c.self.inside.held.entries c.self.invariant.rising
    ∙ ap (λ kept. remove kept c.args.name.now) c.self.view_is
