-- The chain of a resource's types (Apache Sling, "Servlets and Scripts", "Resource types": resource super types).
use Rattle.std.specs.Prelude.{ℕ, zero, suc, Bool, false, if◌then◌else◌, List, [], ◌∷◌, ◌++◌, ◌-◌, Option, Some, None, option_and_then, unwrap_or, codes, slice_get, ◌≡◌, ◌+◌, ◌⊎◌}
use Rattle.std.specs.List.{before_first, list_any}
use Rattle.std.specs.Option.{option_or}
use Rattle.sp_base.specs.Texts.{Segments, Properties, Text}
use Rattle.sp_base.specs.Properties.{text_in}
use Rattle.resource_tree.specs.Content.{Content, node_at}
use Rattle.type_chain.specs.declared.type_name.TypeName.{TypeName}
use Rattle.type_chain.specs.Types.{make_type, type_of, same_type, places}

-- the text of a resource's type: its text `sling:resourceType`, else its text `jcr:primaryType`, else `nt:unstructured`
unfoldable pub type_text : Properties → List ℕ
type_text props = unwrap_or (option_or (text_in props (codes "sling:resourceType")) (text_in props (codes "jcr:primaryType"))) (codes "nt:unstructured")

-- the text `sling:resourceSuperType` of properties
unfoldable pub own_super : Properties → Option (List ℕ)
own_super props = text_in props (codes "sling:resourceSuperType")

-- the text of the super type that the node at a path names
unfoldable pub super_at : Content → Segments → Option (List ℕ)
super_at tree path = option_and_then (λ node. own_super node.props) (node_at tree path)

-- the first that there is
abbrev pub first_of : {A B : Type 0} → (A → Option B) → List A → Option B
first_of f [] = None
first_of f (x ∷ xs) = option_or (f x) (first_of f xs)

-- the super type's text of a type: that of the first of its places that has one
unfoldable pub super_text : Content → TypeName → Option (List ℕ)
super_text tree type = first_of (super_at tree) (places type)

-- the super type of a type
unfoldable pub super_type : Content → TypeName → Option TypeName
super_type tree type = option_and_then type_of (super_text tree type)

-- the super type of a resource with this type: its own text counts before those of the type's places
unfoldable pub super_of : Content → Properties → Option TypeName → Option TypeName
super_of tree props own = option_and_then type_of (option_or (own_super props) (option_and_then (super_text tree) own))

-- a type, its super type, the super type of that, and so on: n at most
unfoldable pub line : Content → ℕ → Option TypeName → List TypeName
line tree zero next = []
line tree (suc n) None = []
line tree (suc n) (Some type) = type ∷ line tree n (super_type tree type)

-- the most types of a chain before the default type
abbrev pub most_types : ℕ
most_types = 32

-- the resource's type, its super type, and so on, up to the most
abbrev pub line_from : Content → Option TypeName → Option TypeName → List TypeName
line_from tree None above = line tree most_types above
line_from tree (Some own) above = own ∷ line tree (most_types - 1) above

-- the types up to the first that came before
abbrev pub until_repeat : List TypeName → List TypeName
until_repeat [] = []
until_repeat (type ∷ types) = type ∷ before_first (same_type type) (until_repeat types)

-- the type of the default servlets
abbrev pub default_type : TypeName
default_type = make_type false (codes "sling" ∷ codes "servlet" ∷ codes "default" ∷ [])

-- a type is among others
abbrev pub has_type : TypeName → List TypeName → Bool
has_type type types = list_any (λ other. same_type other type) types

-- types, and the default type after them unless it is among them
abbrev pub with_default : List TypeName → List TypeName
with_default types = if has_type default_type types then types else types ++ default_type ∷ []

-- the types of a resource's chain before the default type
abbrev pub own_types : Content → Properties → Option TypeName → List TypeName
own_types tree props own = until_repeat (line_from tree own (super_of tree props own))

-- the chain of a resource with these properties: its types from its own to the last before a repeat, and then the default type, unless it is
-- there
unfoldable pub chain_of : Content → Properties → List TypeName
chain_of tree props = with_default (own_types tree props (type_of (type_text props)))

-- the chain has this type at this place
abbrev pub HasTypeAt : Content → Properties → ℕ → TypeName → Type 0
HasTypeAt tree props k type = slice_get (chain_of tree props) k ≡ Some type

-- what comes after this type is its super type, or the default type
abbrev pub IsSuperOrDefaultIfNext : Content → Properties → ℕ → TypeName → TypeName → Type 0
IsSuperOrDefaultIfNext tree props k type next = HasTypeAt tree props (k + 1) next → (super_type tree type ≡ Some next) ⊎ (next ≡ default_type)

-- after the resource's own type comes its super type, where that is another
abbrev pub IsSecondIfOtherSuper : Content → Properties → TypeName → TypeName → Type 0
IsSecondIfOtherSuper tree props own next = super_of tree props (Some own) ≡ Some next → same_type own next ≡ false → HasTypeAt tree props 1 next

-- the chain of a resource without a type begins with its super type
abbrev pub IsFirstIfSuper : Content → Properties → TypeName → Type 0
IsFirstIfSuper tree props next = super_of tree props None ≡ Some next → HasTypeAt tree props 0 next

-- where the resource's own text names a super type it is that
abbrev pub IsSuperIfNamed : Content → Properties → Option TypeName → Text → Type 0
IsSuperIfNamed tree props own text = own_super props ≡ Some text → super_of tree props own ≡ type_of text
