use Rattle.std.proofs.Common.{◌∙◌, ◌++◌, ◌∷◌, [], List, ℕ, sym, ap}
use Rattle.cover_rules.specs.Coverage.{handle_of}
use Rattle.docroot_format.specs.Deletions.{rendering_prefixes}
use Rattle.docroot_format.specs.Names.{folder_name}
use Rattle.invalidation.proofs.PrefixLemmas.{below_folder}
use Rattle.invalidation.proofs.prefixes.deleted_prefixes.Goals as goal

pub returns : goal.returns
returns c =
    let inv = c.args.inv.now in
    let below = c.in_ok-joined.ensures ∙ ap (λ (t : List ℕ). t ++ c.below_handle.result.now) (c.text-2.ensures ∙ c.in_ok-folder.ensures)
    ∙ ap (λ (t : List ℕ). folder_name (handle_of inv) ++ t) c.below_handle.ensures ∙ sym (below_folder inv) in
    c.in_ok-push.ensures.ok ∙ ap (λ (ps : List (List ℕ)). ps ++ c.in_ok-joined.field-0 ∷ []) (c.in_ok-prefixes.ensures (handle_of inv) (sym c.in_ok-folder.ensures ∙ sym c.text.ensures))
    ∙ ap (λ (p : List ℕ). rendering_prefixes (handle_of inv) ++ p ∷ []) below
