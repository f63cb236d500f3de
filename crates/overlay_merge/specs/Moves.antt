-- Where a kid stands that is moved before another.
use Rattle.std.specs.List.{IsDistinct}
use Rattle.std.specs.Prelude.{◌≡◌, ◌∷◌, ◌++◌, ◌⊎◌, List, Option, None, Some, false, filter, nat_eq, not, true}
use Rattle.std.specs.Cmp.Lexicographic.{pointwise}
use Rattle.sp_base.specs.Texts.{Segments, Text}
use Rattle.resource_tree.specs.Content.{Content, IsGood}
use Rattle.overlay_merge.specs.Hiding.{merged_from}
use Rattle.overlay_merge.specs.Kids.{all_kids, has_text, kids_there}

-- one of the names stands directly before another, and nowhere else
pub record StandsBefore (names : List Text) (name other : Text) : Type 0 where
  pub above : List Text
  pub below : List Text
  pub is : names ≡ above ++ name ∷ other ∷ below
  pub lacks_above : has_text above name ≡ false
  pub lacks_below : has_text below name ≡ false

-- the names without this one, in their order
abbrev pub without_name : Text → List Text → List Text
without_name name names = filter (λ q. not (pointwise nat_eq name q)) names

-- no name is there twice
abbrev pub AreDistinct : List Text → Type 0
AreDistinct names = IsDistinct (pointwise nat_eq) names

-- both are there, they are two names, and no name is there twice
pub record IsMovable (names : List Text) (name other : Text) : Type 0 where
  pub distinct : AreDistinct names
  pub two : pointwise nat_eq name other ≡ false
  pub moved : has_text names name ≡ true
  pub named : has_text names other ≡ true

-- all names but this one are as before, in their order
abbrev pub KeepsOtherNames : Text → List Text → List Text → Type 0
KeepsOtherNames name old new = without_name name new ≡ without_name name old

-- a name isn't moved: it wishes nothing, names itself, isn't there, or what it names isn't
abbrev pub IsNotMoved : List Text → Text → Option Text → Type 0
IsNotMoved names name None = Unit {0}
IsNotMoved names name (Some other) = (pointwise nat_eq name other ≡ true) ⊎ ((has_text names name ≡ false) ⊎ (has_text names other ≡ false))

-- in a good tree no kid of a merged resource is there twice before the first is moved
abbrev pub UnmovedKidsAreDistinct : Type 0
UnmovedKidsAreDistinct = (tree : Content) (path : Segments) → IsGood tree → AreDistinct (kids_there tree path (all_kids (merged_from tree path)))
