-- A content that is being made, as the contracts of drafts see it: the tree, the content that it is to have, and a count of nodes.
use Rattle.std.specs.Prelude.{◌≡◌, ℕ, length}
use Rattle.resource_tree.specs.Content.{Content, IsGood}

-- a tree's content, the content that it is to have, and a count of that one's nodes
pub record DraftedContent : Type 0 where
  pub tree : Content
  pub content : Content
  pub count : ℕ

-- the count is that of the nodes
abbrev pub IsCounted : DraftedContent → Type 0
IsCounted draft = draft.count ≡ length draft.content

-- the content is one that a tree has, and counted
pub record IsSound (draft : DraftedContent) : Type 0 where
  pub good : IsGood draft.content
  pub counted : IsCounted draft

-- a sound draft over the same tree
pub record DraftFollows (before after : DraftedContent) : Type 0 where
  pub sound : IsSound after
  pub tree : after.tree ≡ before.tree
