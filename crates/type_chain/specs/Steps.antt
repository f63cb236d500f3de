-- The types of a chain before the default type, step by step: which is the first, and which follows each.
use Rattle.std.specs.Prelude.{◌≡◌, ◌+◌, ℕ, zero, suc, nat_lt, if◌then◌else◌, List, Option, Some, None, slice_get, take, false, ◌<◌, ◌≤◌, ◌⊎◌}
use Rattle.std.specs.Option.{option_or}
use Rattle.sp_base.specs.Texts.{Properties}
use Rattle.resource_tree.specs.Content.{Content}
use Rattle.type_chain.specs.declared.type_name.TypeName.{TypeName}
use Rattle.type_chain.specs.Types.{type_of, same_type}
use Rattle.type_chain.specs.Chain.{has_type, most_types, super_of, super_type, type_text, chain_of, default_type}

-- the super type that the type at this place of the chain gives: of the resource's own type it is that of the resource
abbrev pub super_after : Content → Properties → Option TypeName → ℕ → TypeName → Option TypeName
super_after tree props None k type = super_type tree type
super_after tree props (Some own) zero type = super_of tree props (Some own)
super_after tree props (Some own) (suc k) type = super_type tree type

-- the type, if there is one that does not stand in the list
abbrev pub unless_type_there : List TypeName → Option TypeName → Option TypeName
unless_type_there types None = None
unless_type_there types (Some type) = if has_type type types then None else Some type

-- The first is the resource's own type, and where it has none its super type. Each is followed by the super type that it gives, and by
-- nothing where there is none, where that one came before, or where the most types are there.
pub record AreSteps (tree : Content) (props : Properties) (own : Option TypeName) (types : List TypeName) : Type 0 where
  pub first : slice_get types 0 ≡ option_or own (super_of tree props None)
  pub next : (k : ℕ) (type : TypeName) → slice_get types k ≡ Some type
      → slice_get types (k + 1) ≡ (if nat_lt (k + 1) most_types then unless_type_there (take (k + 1) types) (super_after tree props own k type) else None)

-- the types of a resource with these properties, without the default type at the end
abbrev pub AreOwnTypes : Content → Properties → List TypeName → Type 0
AreOwnTypes tree props types = AreSteps tree props (type_of (type_text props)) types

-- a super type follows a type after the first, other than the default type and the last of the most types, unless it came before
abbrev pub SuperTypesFollow : Type 0
SuperTypesFollow = (tree : Content) (props : Properties) (k : ℕ) (type next : TypeName) → 0 < k → k + 1 < most_types → slice_get (chain_of tree props) k ≡ Some type
    → same_type type default_type ≡ false → super_type tree type ≡ Some next → has_type next (take (k + 1) (chain_of tree props)) ≡ false
    → slice_get (chain_of tree props) (k + 1) ≡ Some next

-- after a type with no super type but one that came before, and after the most types, comes the default type, or nothing
abbrev pub DefaultTypesEndChains : Type 0
DefaultTypesEndChains = (tree : Content) (props : Properties) (k : ℕ) (type : TypeName) → 0 < k → slice_get (chain_of tree props) k ≡ Some type
    → same_type type default_type ≡ false → (unless_type_there (take (k + 1) (chain_of tree props)) (super_type tree type) ≡ None) ⊎ (most_types ≤ k + 1)
    → (slice_get (chain_of tree props) (k + 1) ≡ Some default_type) ⊎ (slice_get (chain_of tree props) (k + 1) ≡ None)
