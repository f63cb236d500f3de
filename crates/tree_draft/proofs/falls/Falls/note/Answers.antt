use Rattle.std.proofs.Common.{ℕ, List, Some, cond, ◌∙◌, ap}
use Rattle.std.specs.Prelude.{string_bytes}
use Rattle.std.specs.Map.{lookup}
use Rattle.std.specs.Str.{bytes_eq}
use Rattle.std.proofs.lemmas.Map.Text.{hash_map_updates_text}
use Rattle.tree_draft.specs.Falls.{NameFalls, fall_of}
use Rattle.tree_draft.proofs.FallLemmas.{noted}
use Rattle.tree_draft.proofs.falls.Falls.note.Goals as goal

pub returns-clause-ok : goal.returns-clause-ok
returns-clause-ok c = λ t.
    let text = c.args.name.now in
    let count = c.args.length in
    noted string_bytes c.self.inside.lengths.entries c.insert.new.self.entries text count
    (λ (q : List ℕ). hash_map_updates_text (string_bytes c.in_ok-name.name) c.self.inside.lengths c.insert.new.self (Some count) c.in_ok-insert.ensures.updates q
    ∙ ap (λ b. cond (bytes_eq b q) (Some count) (lookup (λ k. bytes_eq q (string_bytes k)) c.self.inside.lengths.entries)) c.in_ok-name.ensures.ok)
    t
    ∙ ap (λ (f : NameFalls). cond (bytes_eq text t) count (fall_of f t)) c.self.view_is
