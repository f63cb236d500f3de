-- Resource types, and the places of a type (Apache Sling, "Resource types", "Servlets and Scripts").
use Rattle.std.specs.Prelude.{◌==◌, ◌&&◌, ℕ, Bool, true, false, not, is_some, if◌then◌else◌, List, [], ◌∷◌, ◌++◌, Option, Some, None, option_and_then, Result, Ok, Err, codes, find, map, slice_index}
use Rattle.sp_base.specs.Texts.{Segments}
use Rattle.sp_base.specs.Bytes.{is_colon}
use Rattle.sp_base.specs.Paths.{path_in, path_or_fault}
use Rattle.sp_base.specs.declared.path.PathFault.{PathFault}
use Rattle.resource_tree.specs.Content.{Content, node_at, same_path}
use Rattle.type_chain.specs.declared.type_name.TypeName.{TypeName}

-- a type's text, in which a colon is read as a slash
abbrev pub text_with_slashes : List ℕ → List ℕ
text_with_slashes text = map (λ b. if is_colon b then 47 else b) text

-- a type of these segments, rooted or not
abbrev pub make_type : Bool → Segments → TypeName
make_type rooted segs = record { rooted = rooted; segs = segs }

-- the type of a path: the root is none
abbrev pub type_at_path : Bool → Option Segments → Option TypeName
type_at_path rooted None = None
type_at_path rooted (Some []) = None
type_at_path rooted (Some (seg ∷ segs)) = Some (make_type rooted (seg ∷ segs))

-- what a type's text spells: a type that begins with a slash is rooted, and of any other the first slash is left out
abbrev pub type_in : List ℕ → Option TypeName
type_in text = if slice_index text 0 == 47 then type_at_path true (path_in text) else type_at_path false (path_in (47 ∷ text))

-- the type that a text names, where it names one
unfoldable pub type_of : List ℕ → Option TypeName
type_of text = type_in (text_with_slashes text)

-- whether two types are one
abbrev pub same_type : TypeName → TypeName → Bool
same_type a b = (if a.rooted then b.rooted else not b.rooted) && same_path a.segs b.segs

-- the path of these segments, where they make one
abbrev pub path_with : Result Segments PathFault → List Segments
path_with (Ok path) = path ∷ []
path_with (Err e) = []

-- The places of a type: below each search path, /apps before /libs, and of a rooted type its own path. Where such a path
-- would be too deep there is no place.
unfoldable pub places : TypeName → List Segments
places type =
    if type.rooted then type.segs ∷ []
    else path_with (path_or_fault (codes "apps" ∷ type.segs)) ++ path_with (path_or_fault (codes "libs" ∷ type.segs))

-- the first place of the type that a text names at which there is a node
unfoldable pub place_of : Content → List ℕ → Option Segments
place_of tree text = option_and_then (λ type. find (λ place. is_some (node_at tree place)) (places type)) (type_of text)
