-- What marks of numbers say while a free one is looked for. Only private functions and proofs cite this.
use Rattle.std.specs.Prelude.{◌≡◌, ℕ, Bool, true, false, List, slice_index_or, nat_eq}
use Rattle.std.specs.Cmp.Lexicographic.{pointwise}
use Rattle.std.specs.List.{list_any}
use Rattle.sp_base.specs.Texts.{Segments, Text}
use Rattle.resource_tree.specs.Content.{Content}
use Rattle.post_apply.specs.Names.{is_taken, numbered_name}

-- only numbers with which the name is one of these are marked
abbrev pub MarksListed : List Text → List ℕ → List Bool → Type 0
MarksListed kids name marks = (n : ℕ) → slice_index_or marks n false ≡ true → list_any (pointwise nat_eq (numbered_name name n)) kids ≡ true

-- only numbers with which the name is taken are marked
abbrev pub MarksTaken : Content → Segments → List ℕ → List Bool → Type 0
MarksTaken tree parent name marks = (n : ℕ) → slice_index_or marks n false ≡ true → is_taken tree parent (numbered_name name n) ≡ true
