use Rattle.std.proofs.Common.{◌∙◌, ap, sym, subst}
use Rattle.std.specs.FinMap.{insert}
use Rattle.std.specs.Prelude.{string_bytes, string_cmp}
use Rattle.std.specs.List.{All}
use Rattle.std.specs.Map.{keys_of}
use Rattle.std.proofs.lemmas.Map.Views.{All-keys-insert_entry}
use Rattle.sp_outside.specs.Files.{IsName}
use Rattle.sp_outside.specs.NameEntries.{NameEntries, kept_by_name}
use Rattle.sp_outside.proofs.HeldNames.{held_with}
use Rattle.sp_outside.proofs.names.Names.insert.Goals as goal

pub invariant_of-self-2 : goal.invariant_of-self-2
invariant_of-self-2 g c = record {
  rising = c.in_ok-insert.ensures.ordered;
  sizes = subst (λ (held : NameEntries _). All (λ key. IsName (string_bytes key)) (keys_of held)) (sym c.in_ok-insert.ensures.entries)
      (All-keys-insert_entry string_cmp c.in_ok-name.name c.args.value (λ key. IsName (string_bytes key)) c.self.inside.held.entries
      c.self.invariant.sizes (subst IsName (sym c.in_ok-name.ensures.ok) c.requires));
}

pub returns-clause-ok : goal.returns-clause-ok
returns-clause-ok g c =
    let held = c.self.inside.held.entries in
    ap kept_by_name c.in_ok-insert.ensures.entries
    ∙ held_with c.in_ok-name.name c.args.value held
    ∙ ap (λ name. insert (kept_by_name held) name c.args.value) c.in_ok-name.ensures.ok
    ∙ ap (λ kept. insert kept c.args.name.now c.args.value) c.self.view_is
